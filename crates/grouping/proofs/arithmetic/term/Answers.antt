-- `term` meets its contract. Assumes nothing.
use mathlib.Core.List.{List, [], ◌∷◌}
use Prim.Native.Nat.{ℕ}
use lib.ListN.{get_or}
use lib.IntN.{ℤ, pos}
use Rattle.integers.proofs.Machine.{Within, fits, read}
use Rattle.integers.proofs.Solver.{var, ◌⊗◌}
use Rattle.integers.proofs.Vector.{get_or-within}
use Rattle.grouping.proofs.arithmetic.term.Goals as goal
use Rattle.grouping.proofs.arithmetic.term.Goals.{Start}

abbrev ρ : Start → List ℤ
ρ d = get_or d.args.a d.args.i (pos 0) ∷ get_or d.args.b d.args.i (pos 0) ∷ []

abbrev β : List ℕ
β = 30000 ∷ 30000 ∷ []

h : (d : Start) → Within (ρ d) β
h d = (get_or-within 30000 d.args.a d.args.i d.requires.0, (get_or-within 30000 d.args.b d.args.i d.requires.1, tt))

pub overflow_mul-result : goal.overflow_mul-result
overflow_mul-result c = fits (ρ (goal.at.overflow_mul-result c).Start) β (var 0 ⊗ var 1) (h (goal.at.overflow_mul-result c).Start) tt

pub returns : goal.returns
returns c = read (ρ (goal.at.returns c).Start) β (var 0 ⊗ var 1) (h (goal.at.returns c).Start) tt
