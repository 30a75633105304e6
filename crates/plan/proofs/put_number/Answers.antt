-- `put_number` stores the line of its number.
use native.Mathlib.Omega.{arith}
use mathlib.Core.Path.{◌≡◌, refl, ap, ◌∙◌}
use mathlib.Core.List.{[], ◌∷◌}
use lib.IntN.{pos}
use Rattle.integers.specs.Lists.{tab}
use Rattle.integers.proofs.Bounds.{told}
use Rattle.integers.proofs.Machine.{reads}
use Rattle.planner.proofs.LineLaws.{AllSmall, nth_small, counts-stored, counts-length}
use Rattle.plan.proofs.put_number.Goals as goal
use Rattle.plan.proofs.put_number.Goals.{Start, After-from}

-- a byte is below 1000000
small : (c : Start) → AllSmall (c.args.x ∷ [])
small c = (omega arith, tt)

stored : (c : After-from) → reads c.from.result ≡ pos c.args.x
stored c = told c.from.result c.from.type_inv ∙ c.from.ensures

pub returns : goal.returns
unfolding tab
returns c =
    let xs = c.args.x ∷ [] in
    let h = nth_small xs (small (goal.at.returns c).Start) in
    let S = counts-stored xs 1 refl h (ap (λ z. z ∷ []) (stored (goal.at.returns c).After-from)) c.put_line.ensures in
    (omega (arith, S.ends, counts-length xs 1 refl h), S)
