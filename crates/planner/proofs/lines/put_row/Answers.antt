-- `put_row` stores the line of its five numbers, which has 31 bytes.
use native.Mathlib.Omega.{arith}
use mathlib.Core.Path.{refl}
use mathlib.Core.List.{List, [], ◌∷◌}
use Prim.Native.Nat.{ℕ, ◌<◌}
use lib.ListN.{get_or}
use Rattle.planner.proofs.LineLaws.{nth_small, counts-length}
use Rattle.planner.proofs.lines.put_row.Goals as goal
use Rattle.planner.proofs.lines.put_row.Goals.{Start}

-- the numbers of the line
abbrev row : Start → List ℕ
row c = c.args.rank ∷ c.args.step ∷ c.args.block ∷ c.args.processor ∷ c.args.value ∷ []

-- each is below 1000000
row_small : (c : Start) → (i : ℕ) → i < 5 → get_or (row c) i 0 < 1000000
row_small c = nth_small (row c) (omega arith, (omega arith, (omega arith, (omega arith, (omega arith, tt)))))

pub returns : goal.returns
returns c =
    let at_start = (goal.at.returns c).Start in
    let s = c.put_counts.ensures in
    (omega (arith, s.ends, counts-length (row at_start) 5 refl (row_small at_start)), s)
