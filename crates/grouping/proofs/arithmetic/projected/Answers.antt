-- `projected` meets its contract. Assumes nothing.
use mathlib.Core.List.{List, [], ◌∷◌}
use Prim.Native.Nat.{ℕ}
use lib.ListN.{get_or}
use lib.IntN.{ℤ, pos}
use Rattle.integers.proofs.Machine.{Within, fits, read}
use Rattle.integers.proofs.Solver.{var, ◌⊖◌, ◌⊗◌}
use Rattle.integers.proofs.Vector.{get_or-within}
use Rattle.grouping.proofs.arithmetic.projected.Goals as goal
use Rattle.grouping.proofs.arithmetic.projected.Goals.{Start}

abbrev ρ : Start → List ℤ
ρ d = d.args.s ∷ d.args.t ∷ get_or d.args.d d.args.i (pos 0) ∷ get_or d.args.p d.args.i (pos 0) ∷ []

abbrev β : List ℕ
β = 1024 ∷ 1024 ∷ 16 ∷ 16 ∷ []

h : (d : Start) → Within (ρ d) β
h d = let p = d.requires in (p.2, (p.3, (get_or-within 16 d.args.d d.args.i p.1, (get_or-within 16 d.args.p d.args.i p.0, tt))))

pub overflow_mul-result : goal.overflow_mul-result
overflow_mul-result c = fits (ρ (goal.at.overflow_mul-result c).Start) β (var 0 ⊗ var 2) (h (goal.at.overflow_mul-result c).Start) tt

pub overflow_mul-result-2 : goal.overflow_mul-result-2
overflow_mul-result-2 c = fits (ρ (goal.at.overflow_mul-result-2 c).Start) β (var 1 ⊗ var 3) (h (goal.at.overflow_mul-result-2 c).Start) tt

pub overflow_sub-result : goal.overflow_sub-result
overflow_sub-result c = fits (ρ (goal.at.overflow_sub-result c).Start) β (var 0 ⊗ var 2 ⊖ var 1 ⊗ var 3) (h (goal.at.overflow_sub-result c).Start) tt

pub returns : goal.returns
returns c = read (ρ (goal.at.returns c).Start) β (var 0 ⊗ var 2 ⊖ var 1 ⊗ var 3) (h (goal.at.returns c).Start) tt
