-- `pair` meets its contract. Assumes nothing.
use mathlib.Core.List.{List, [], ◌∷◌}
use Prim.Native.Nat.{ℕ, ◌≤◌}
use lib.ListN.{get_or}
use lib.IntN.{ℤ, pos, nat_abs}
use Rattle.integers.proofs.Machine.{Within, fits, read}
use Rattle.integers.proofs.Solver.{var, ◌⊖◌, ◌⊗◌}
use Rattle.integers.proofs.Vector.{get_or-within}
use Rattle.grouping.proofs.arithmetic.pair.Goals as goal
use Rattle.grouping.proofs.arithmetic.pair.Goals.{Start}

-- the rows at the two columns
abbrev b : Start → ℕ → ℤ
b d i = get_or d.args.b i (pos 0)

abbrev c : Start → ℕ → ℤ
c d i = get_or d.args.c i (pos 0)

abbrev ρ : Start → List ℤ
ρ d = b d d.args.j ∷ c d d.args.k ∷ b d d.args.k ∷ c d d.args.j ∷ []

abbrev β : List ℕ
β = 16 ∷ 16 ∷ 16 ∷ 16 ∷ []

h : (d : Start) → Within (ρ d) β
h d = (x d.args.j, (y d.args.k, (x d.args.k, (y d.args.j, tt))))
  where
    x : (i : ℕ) → nat_abs (b d i) ≤ 16
    x i = get_or-within 16 d.args.b i d.requires.0

    y : (i : ℕ) → nat_abs (c d i) ≤ 16
    y i = get_or-within 16 d.args.c i d.requires.1

pub overflow_mul-result : goal.overflow_mul-result
overflow_mul-result e = let d = e.before.before in fits (ρ d) β (var 0 ⊗ var 1) (h d) tt

pub overflow_mul-result-2 : goal.overflow_mul-result-2
overflow_mul-result-2 e = let d = e.before.before.before.before in fits (ρ d) β (var 2 ⊗ var 3) (h d) tt

pub overflow_sub-result : goal.overflow_sub-result
overflow_sub-result e = let d = e.before.before.before.before in fits (ρ d) β (var 0 ⊗ var 1 ⊖ var 2 ⊗ var 3) (h d) tt

pub returns : goal.returns
returns e = let d = e.before.before.before.before in read (ρ d) β (var 0 ⊗ var 1 ⊖ var 2 ⊗ var 3) (h d) tt
