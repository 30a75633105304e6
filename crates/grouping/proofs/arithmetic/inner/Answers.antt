-- `inner` meets its contract. Assumes nothing.
use mathlib.Core.Path.{◌≡◌, sym, ◌∙◌, subst}
use mathlib.Core.List.{List, [], ◌∷◌}
use Prim.Native.Nat.{ℕ, ◌≤◌}
use native.Mathlib.Omega.{arith}
use lib.ListN.{get_or}
use lib.IntN.{ℤ, pos, nat_abs, ◌+ℤ◌, ◌*ℤ◌}
use Rattle.integers.proofs.Bounds.{abs-*}
use Rattle.integers.proofs.Machine.{Within, fits, read}
use Rattle.integers.proofs.Solver.{Expr, var, ◌⊕◌}
use Rattle.integers.proofs.Vector.{get_or-within}
use Rattle.grouping.proofs.Four.{dot_four}
use Rattle.grouping.proofs.arithmetic.inner.Goals as goal
use Rattle.grouping.proofs.arithmetic.inner.Goals.{After-term-3, After-term-4, Start}

-- a product is small
small : (d : Start) (z : ℤ) (i : ℕ) → z ≡ get_or d.args.a i (pos 0) *ℤ get_or d.args.b i (pos 0) → nat_abs z ≤ 900000000
small d z i e =
    subst (λ (u : ℤ). nat_abs u ≤ 900000000) (sym e)
    (abs-* (get_or d.args.a i (pos 0)) (get_or d.args.b i (pos 0)) (get_or-within 30000 d.args.a i d.requires.0) (get_or-within 30000 d.args.b i d.requires.1))

-- the sum with what the products are
summed : {p q r s p' q' r' s' : ℤ} → p ≡ p' → q ≡ q' → r ≡ r' → s ≡ s' → p +ℤ q +ℤ r +ℤ s ≡ p' +ℤ q' +ℤ r' +ℤ s'
summed e f g h = cc (e, f, g, h)

abbrev sum2 : Expr
sum2 = var 0 ⊕ var 1

abbrev sum3 : Expr
sum3 = sum2 ⊕ var 2

abbrev sum4 : Expr
sum4 = sum3 ⊕ var 3

abbrev β2 : List ℕ
β2 = 900000000 ∷ 900000000 ∷ []

abbrev β3 : List ℕ
β3 = 900000000 ∷ β2

abbrev β4 : List ℕ
β4 = 900000000 ∷ β3

abbrev ρ3 : After-term-3 → List ℤ
ρ3 e = e.term.result ∷ e.term-2.result ∷ e.term-3.result ∷ []

abbrev ρ4 : After-term-4 → List ℤ
ρ4 e = e.term.result ∷ e.term-2.result ∷ e.term-3.result ∷ e.term-4.result ∷ []

h3 : (e : After-term-3) → Within (ρ3 e) β3
h3 e = let q = e in let d = q in (small (goal.at.After-term-3 d).Start q.term.result 0 q.term.ensures, (small (goal.at.After-term-3 d).Start q.term-2.result 1 q.term-2.ensures, (small (goal.at.After-term-3 d).Start e.term-3.result 2 e.term-3.ensures, tt)))

h4 : (e : After-term-4) → Within (ρ4 e) β4
h4 e =
    let r = e in
    let q = r in
    let d = q in
    (small (goal.at.After-term-4 d).Start q.term.result 0 q.term.ensures, (small (goal.at.After-term-4 d).Start q.term-2.result 1 q.term-2.ensures, (small (goal.at.After-term-4 d).Start r.term-3.result 2 r.term-3.ensures, (small (goal.at.After-term-4 d).Start e.term-4.result 3 e.term-4.ensures, tt))))

pub overflow_add-result-2 : goal.overflow_add-result-2
overflow_add-result-2 c = fits (ρ3 c) β3 sum3 (h3 c) tt

pub overflow_add-result-3 : goal.overflow_add-result-3
overflow_add-result-3 c = fits (ρ4 c) β4 sum4 (h4 c) tt

pub returns : goal.returns
returns c =
    read (ρ4 c) β4 sum4 (h4 c) tt ∙ summed c.term.ensures c.term-2.ensures c.term-3.ensures c.term-4.ensures ∙ sym (dot_four c.args.a c.args.b (omega arith) (omega arith))
