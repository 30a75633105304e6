-- `hash_of` answers the hash of a row.
use mathlib.Core.Path.{ap, ◌∙◌}
use mathlib.Core.List.{List, [], ◌∷◌}
use Prim.Native.Nat.{ℕ, ◌≤◌, ◌%◌}
use lib.ListN.{get_or}
use lib.IntN.{ℤ, pos, nat_abs}
use Rattle.integers.proofs.Machine.{Within, fits, read}
use Rattle.integers.proofs.Solver.{Expr, var, con, ◌⊕◌, ◌⊗◌}
use Rattle.integers.proofs.Vector.{get_or-within}
use Rattle.numbering.specs.Chains.{hash_of}
use Rattle.numbering.proofs.chains.hash_of.Goals as goal
use Rattle.numbering.proofs.chains.hash_of.Goals.{Start}

-- the numbers and their bounds, and what is made of them
abbrev ρ : Start → List ℤ
ρ d = let v = d.args.v.now in get_or v 0 (pos 0) ∷ get_or v 1 (pos 0) ∷ get_or v 2 (pos 0) ∷ get_or v 3 (pos 0) ∷ []

abbrev β : List ℕ
β = 1000000000 ∷ 1000000000 ∷ 1000000000 ∷ 1000000000 ∷ []

abbrev three : Expr
three = var 0 ⊕ var 1 ⊗ con (pos 31) ⊕ var 2 ⊗ con (pos 961)

abbrev whole : Expr
whole = three ⊕ var 3 ⊗ con (pos 29791)

h : (d : Start) → Within (ρ d) β
h d = (x 0, (x 1, (x 2, (x 3, tt))))
  where
    x : (i : ℕ) → nat_abs (get_or d.args.v.now i (pos 0)) ≤ 1000000000
    x i = get_or-within 1000000000 d.args.v.now i d.requires

pub overflow_add-x-2 : goal.overflow_add-x-2
overflow_add-x-2 c = let d = (goal.at.overflow_add-x-2 c).Start in fits (ρ d) β three (h d) tt

pub overflow_add-x-3 : goal.overflow_add-x-3
overflow_add-x-3 c = let d = (goal.at.overflow_add-x-3 c).Start in fits (ρ d) β whole (h d) tt

pub returns : goal.returns
unfolding hash_of
returns c = let d = (goal.at.returns c).Start in ap (λ (n : ℕ). n % 4096) (c.unsigned_abs.ensures.value ∙ ap nat_abs (read (ρ d) β whole (h d) tt))
