-- `part_at` meets its contract. Assumes nothing.
use mathlib.Core.Path.{◌≡◌, ap, ◌∙◌}
use Prim.Native.Nat.{ℕ, ◌+◌, ◌-◌}
use native.Mathlib.Omega.{arith}
use Rattle.std.proofs.Common.{rules}
use lib.ListN.{length, take, drop}
use Rattle.nest.proofs.Slices.{part-slice}
use Rattle.foreign.specs.Numbers.{number_count}
use Rattle.foreign.proofs.nests.part_at.Goals as goal

pub returns : goal.returns
returns g c =
    let xs = c.args.numbers.now in
    let at = c.args.at in
    let n : ℕ = g.row.N in
    let l : length xs ≡ number_count = search rules in
    (rw c.unwrap.ensures at c.try_from.ensures.1).same ∙ ap (λ k. take k (drop at xs)) (let e : at + n - at ≡ n = omega arith in e) ∙ part-slice xs at n (omega (arith, l, c.requires))
