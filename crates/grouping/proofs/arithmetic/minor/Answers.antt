-- `minor` meets its contract. Assumes nothing.
use mathlib.Core.Path.{◌≡◌, sym, ◌∙◌, subst}
use mathlib.Core.List.{List, [], ◌∷◌}
use Prim.Native.Nat.{ℕ, ◌≤◌}
use lib.ListN.{get_or}
use lib.IntN.{ℤ, pos, nat_abs, ◌+ℤ◌, ◌-ℤ◌, ◌*ℤ◌}
use Rattle.integers.proofs.Bounds.{abs-*, abs_sub}
use Rattle.integers.proofs.Machine.{Within, fits, read}
use Rattle.integers.proofs.Solver.{Expr, var, ◌⊕◌, ◌⊖◌, ◌⊗◌}
use Rattle.integers.proofs.Vector.{get_or-within}
use Rattle.grouping.proofs.arithmetic.minor.Goals as goal
use Rattle.grouping.proofs.arithmetic.minor.Goals.{After-pair, After-pair-2, After-pair-3, Start}

abbrev a : Start → ℕ → ℤ
a d i = get_or d.args.a i (pos 0)

abbrev b : Start → ℕ → ℤ
b d i = get_or d.args.b i (pos 0)

abbrev c : Start → ℕ → ℤ
c d i = get_or d.args.c i (pos 0)

x : (d : Start) (i : ℕ) → nat_abs (a d i) ≤ 16
x d i = get_or-within 16 d.args.a i d.requires.all_within.0

y : (d : Start) (i : ℕ) → nat_abs (b d i) ≤ 16
y d i = get_or-within 16 d.args.b i d.requires.all_within.1

z : (d : Start) (i : ℕ) → nat_abs (c d i) ≤ 16
z d i = get_or-within 16 d.args.c i d.requires.all_within.2

-- a determinant of two rows is small
small : (d : Start) (r : ℤ) (j k : ℕ) → r ≡ b d j *ℤ c d k -ℤ b d k *ℤ c d j → nat_abs r ≤ 512
small d r j k e =
    subst (λ (u : ℤ). nat_abs u ≤ 512) (sym e)
    (abs_sub (b d j *ℤ c d k) (b d k *ℤ c d j) (abs-* (b d j) (c d k) (y d j) (z d k)) (abs-* (b d k) (c d j) (y d k) (z d j)))

-- the three products with what the determinants are
joined : (x y z : ℤ) {p q r p' q' r' : ℤ} → p ≡ p' → q ≡ q' → r ≡ r' → x *ℤ p -ℤ y *ℤ q +ℤ z *ℤ r ≡ x *ℤ p' -ℤ y *ℤ q' +ℤ z *ℤ r'
joined x y z e f g = cc (e, f, g)

abbrev one : Expr
one = var 0 ⊗ var 1

abbrev two : Expr
two = var 2 ⊗ var 3

abbrev three : Expr
three = var 4 ⊗ var 5

abbrev P1 : Type 0
P1 = After-pair

abbrev P2 : Type 0
P2 = After-pair-2

abbrev P3 : Type 0
P3 = After-pair-3

abbrev start1 : P1 → Start
start1 e = e.before.before

abbrev start2 : P2 → Start
start2 e = start1 (goal.at.After-pair-2 e).After-pair

abbrev start3 : P3 → Start
start3 e = start2 (goal.at.After-pair-3 e).After-pair-2

abbrev ρ1 : P1 → List ℤ
ρ1 e = let d = start1 e in a d d.args.i ∷ e.pair.result ∷ []

abbrev ρ2 : P2 → List ℤ
ρ2 e = let d = start2 e in a d d.args.i ∷ e.pair.result ∷ a d d.args.j ∷ e.pair-2.result ∷ []

abbrev ρ3 : P3 → List ℤ
ρ3 e = let d = start3 e in a d d.args.i ∷ e.pair.result ∷ a d d.args.j ∷ e.pair-2.result ∷ a d d.args.k ∷ e.pair-3.result ∷ []

abbrev β1 : List ℕ
β1 = 16 ∷ 512 ∷ []

abbrev β2 : List ℕ
β2 = 16 ∷ 512 ∷ β1

abbrev β3 : List ℕ
β3 = 16 ∷ 512 ∷ β2

h1 : (e : P1) → Within (ρ1 e) β1
h1 e = let d = start1 e in (x d d.args.i, (small d e.pair.result d.args.j d.args.k e.pair.ensures, tt))

h2 : (e : P2) → Within (ρ2 e) β2
h2 e =
    let d = start2 e in
    let q = e in
    (x d d.args.i, (small d q.pair.result d.args.j d.args.k q.pair.ensures, (x d d.args.j, (small d e.pair-2.result d.args.i d.args.k e.pair-2.ensures, tt))))

h3 : (e : P3) → Within (ρ3 e) β3
h3 e =
    let d = start3 e in
    let r = e in
    let q = r in
    (x d d.args.i, (small d q.pair.result d.args.j d.args.k q.pair.ensures, (x d d.args.j, (small d r.pair-2.result d.args.i d.args.k r.pair-2.ensures, (x d d.args.k, (small d e.pair-3.result d.args.i d.args.j e.pair-3.ensures, tt))))))

pub overflow_mul-result : goal.overflow_mul-result
overflow_mul-result e = fits (ρ1 e) β1 one (h1 e) tt

pub overflow_mul-result-2 : goal.overflow_mul-result-2
overflow_mul-result-2 e = fits (ρ2 e) β2 two (h2 e) tt

pub overflow_sub-result : goal.overflow_sub-result
overflow_sub-result e = fits (ρ2 e) β2 (one ⊖ two) (h2 e) tt

pub overflow_mul-result-3 : goal.overflow_mul-result-3
overflow_mul-result-3 e = fits (ρ3 e) β3 three (h3 e) tt

pub overflow_add-result : goal.overflow_add-result
overflow_add-result e = fits (ρ3 e) β3 (one ⊖ two ⊕ three) (h3 e) tt

pub returns : goal.returns
returns e =
    let r = e.before.before in
    let q = r.before.before in
    let d = q.before.before in
    read (ρ3 e) β3 (one ⊖ two ⊕ three) (h3 e) tt ∙ joined (a d d.args.i) (a d d.args.j) (a d d.args.k) q.pair.ensures r.pair-2.ensures e.pair-3.ensures
