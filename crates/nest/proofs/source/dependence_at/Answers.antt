-- `dependence_at` meets its contract. Assumes nothing.
use mathlib.Core.Path.{◌≡◌, ◌∙◌, ap}
use Prim.Native.Nat.{◌+◌, ◌*◌, ◌-◌}
use native.Mathlib.Omega.{arith}
use lib.ListN.{take, drop}
use Rattle.nest.specs.Nest.{max_depth}
use Rattle.nest.proofs.Slices.{part-slice}
use Rattle.nest.proofs.source.dependence_at.Goals as goal

pub returns : goal.returns
returns c =
    let xs = c.args.dependences.now in
    let from = c.args.i * max_depth in
    let e : from + c.args.n - from ≡ c.args.n = omega arith in
    ap (λ n. take n (drop from xs)) e ∙ part-slice xs from c.args.n c.requires
