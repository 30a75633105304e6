-- Coordinates with a number added at one place: the combination that they give, and their quotients; and coordinates with equal quotients, which differ in the last only.
-- Assumes nothing.
use mathlib.Core.Path.{◌≡◌, refl, sym, ap, ap₂, ◌∙◌, subst}
use mathlib.Core.Logic.{◌⊎◌, inl, inr, ⊎_elim}
use mathlib.Core.List.{List, [], ◌∷◌, tail}
use Prim.Native.Nat.{ℕ, zero, suc, ◌<◌, ◌≤◌}
use native.Mathlib.Nat.{suc-ne-zero, suc_inj, not-suc-le-zero, le_of_suc-le-suc}
use native.Mathlib.Omega.{arith}
use lib.IntN.{ℤ, pos, neg_ℤ, ◌+ℤ◌, ◌-ℤ◌, ◌*ℤ◌, +ℤ_idr, +ℤ_assoc}
use lib.Signed.{◌≤ℤ◌}
use lib.ListN.{length, get_or}
use Rattle.integers.specs.Division.{floor_div, left_over}
use Rattle.integers.proofs.Division.{floor_step, left_over-low, left_over-high}
use Rattle.integers.proofs.Linear.{ints, sum, opp}
use Rattle.integers.proofs.Solver.{var, con, ◌⊕◌, ◌⊖◌, ◌⊗◌, ring}
use Rattle.integers.specs.Vector.{Vector}
use Rattle.grouping.specs.Grouping.{quotients}
use Rattle.grouping.proofs.Vectors.{comp}
use Rattle.grouping.proofs.Elimination.{sum_at}

-- ---- t more at place p; nothing where there is no such place
abbrev pub raise : ℕ → ℤ → List ℤ → List ℤ
raise p t [] = []
raise zero t (c ∷ cs) = (c +ℤ t) ∷ cs
raise (suc p) t (c ∷ cs) = c ∷ raise p t cs

pub raise-length : (p : ℕ) (t : ℤ) (cs : List ℤ) → length (raise p t cs) ≡ length cs
raise-length p t [] = refl
raise-length zero t (c ∷ cs) = refl
raise-length (suc p) t (c ∷ cs) = ap suc (raise-length p t cs)

-- nothing more
pub raise-none : (p : ℕ) (cs : List ℤ) → raise p (pos 0) cs ≡ cs
raise-none p [] = refl
raise-none zero (c ∷ cs) = ap (λ (z : ℤ). z ∷ cs) (+ℤ_idr c)
raise-none (suc p) (c ∷ cs) = ap (λ (w : List ℤ). c ∷ w) (raise-none p cs)

-- t times the vector at that place more
pub raise-sum : (p : ℕ) (t : ℤ) (cs : List ℤ) (vs : List Vector) → length cs ≡ length vs → (i : ℕ) → sum_at (raise p t cs) vs i ≡ sum_at cs vs i +ℤ t *ℤ comp (get_or vs p []) i
raise-sum p t [] [] e i = ring (t ∷ []) (con (pos 0)) (con (pos 0) ⊕ var 0 ⊗ con (pos 0)) tt
raise-sum p t [] (v ∷ vs) e i = absurd (suc-ne-zero (length vs) (sym e))
raise-sum p t (c ∷ cs) [] e i = absurd (suc-ne-zero (length cs) e)
raise-sum zero t (c ∷ cs) (v ∷ vs) e i =
    ring (c ∷ t ∷ comp v i ∷ sum_at cs vs i ∷ []) ((var 0 ⊕ var 1) ⊗ var 2 ⊕ var 3) ((var 0 ⊗ var 2 ⊕ var 3) ⊕ var 1 ⊗ var 2) tt
raise-sum (suc p) t (c ∷ cs) (v ∷ vs) e i =
    ap (λ z. c *ℤ comp v i +ℤ z) (raise-sum p t cs vs (suc_inj e) i) ∙ sym (+ℤ_assoc (c *ℤ comp v i) (sum_at cs vs i) (t *ℤ comp (get_or vs p []) i))

-- ---- quotients

-- a coordinate that is not the last stays
quotients-cons : (r : ℕ) (c : ℤ) (cs : List ℤ) → 0 < length cs → quotients r (c ∷ cs) ≡ c ∷ quotients r cs
unfolding quotients
quotients-cons r c [] h = absurd (not-suc-le-zero h)
quotients-cons r c (d ∷ ds) h = refl

-- Where e + t is from 0 to r, the last quotient with t more is that with e less, or 1 more; at any other place e + t has to be 1.
module _ (r : ℕ) (h : 1 ≤ r) (t e : ℤ) (low : pos 0 ≤ℤ (e +ℤ t)) (high : (e +ℤ t) ≤ℤ pos r) where
  -- the quotients with e less at place p
  abbrev least : ℕ → List ℤ → List ℤ
  least p cs = quotients r (raise p (neg_ℤ e) cs)

  -- one of two
  abbrev Either : ℕ → List ℤ → Type 0
  Either p cs = (quotients r (raise p t cs) ≡ least p cs) ⊎ (quotients r (raise p t cs) ≡ raise p (pos 1) (least p cs))

  last : (c : ℤ) → (floor_div (c +ℤ t) (pos r) ≡ floor_div (c +ℤ neg_ℤ e) (pos r)) ⊎ (floor_div (c +ℤ t) (pos r) ≡ floor_div (c +ℤ neg_ℤ e) (pos r) +ℤ pos 1)
  last c =
      let is : (c +ℤ neg_ℤ e) +ℤ (e +ℤ t) ≡ c +ℤ t = ring (c ∷ e ∷ t ∷ []) ((var 0 ⊖ var 1) ⊕ (var 1 ⊕ var 2)) (var 0 ⊕ var 2) tt in
      subst (λ z. (floor_div z (pos r) ≡ floor_div (c +ℤ neg_ℤ e) (pos r)) ⊎ (floor_div z (pos r) ≡ floor_div (c +ℤ neg_ℤ e) (pos r) +ℤ pos 1)) is
      (floor_step (c +ℤ neg_ℤ e) (e +ℤ t) (pos r) (omega ints) low high)

  pub raise-quotients : (p : ℕ) (cs : List ℤ) → (e +ℤ t ≡ pos 1) ⊎ (length cs ≤ suc p) → Either p cs
  unfolding quotients
  raise-quotients p [] f = inl refl
  raise-quotients zero (c ∷ []) f = ⊎_elim (λ q. inl (ap (λ z. z ∷ []) q)) (λ q. inr (ap (λ z. z ∷ []) q)) (last c)
  raise-quotients (suc p) (c ∷ []) f = inl refl
  raise-quotients zero (c ∷ d ∷ ds) (inl f) = inr (ap (λ (z : ℤ). z ∷ quotients r (d ∷ ds)) (omega (ints, f, sum e t, sum c t, sum c (neg_ℤ e), opp e, sum (c +ℤ neg_ℤ e) (pos 1))))
  raise-quotients zero (c ∷ d ∷ ds) (inr l) = absurd (omega (arith, l))
  raise-quotients (suc p) (c ∷ d ∷ ds) f =
      ⊎_elim (λ q. inl (front t ∙ ap (λ (z : List ℤ). c ∷ z) q ∙ sym (front (neg_ℤ e)))) (λ q. inr (front t ∙ ap (λ (z : List ℤ). c ∷ z) q ∙ sym (ap (raise (suc p) (pos 1)) (front (neg_ℤ e)))))
      (raise-quotients p (d ∷ ds) (⊎_elim inl (λ l. inr (le_of_suc-le-suc l)) f))
    where
      front : (u : ℤ) → quotients r (c ∷ raise p u (d ∷ ds)) ≡ c ∷ quotients r (raise p u (d ∷ ds))
      front u = quotients-cons r c (raise p u (d ∷ ds)) (subst (λ n. 0 < n) (sym (raise-length p u (d ∷ ds))) (omega arith))

-- ---- equal quotients

-- the last place, and what stands there; 0 where there is none
abbrev pub last_place : List ℤ → ℕ
last_place [] = zero
last_place (c ∷ []) = zero
last_place (c ∷ d ∷ ds) = suc (last_place (d ∷ ds))

abbrev pub last_of : List ℤ → ℤ
last_of [] = pos 0
last_of (c ∷ []) = c
last_of (c ∷ d ∷ ds) = last_of (d ∷ ds)

-- no place is behind it
pub last-most : (cs : List ℤ) → length cs ≤ suc (last_place cs)
last-most [] = omega arith
last-most (c ∷ []) = omega arith
last-most (c ∷ d ∷ ds) = omega (arith, last-most (d ∷ ds))

-- cs is bs with `more` added to the last, and is no further above a multiple of r than r
pub record LastApart (r : ℕ) (cs bs : List ℤ) : Type 0 where
  pub more : ℤ
  pub is : cs ≡ raise (last_place bs) more bs
  pub low : pos 0 ≤ℤ (left_over (last_of bs) (pos r) +ℤ more)
  pub high : (left_over (last_of bs) (pos r) +ℤ more) ≤ℤ pos r

-- two numbers with one quotient
numbers_apart : (r : ℕ) (c b : ℤ) → floor_div c (pos r) ≡ floor_div b (pos r) → left_over b (pos r) +ℤ (c -ℤ b) ≡ left_over c (pos r)
unfolding left_over
numbers_apart r c b e =
    ring (b ∷ c ∷ floor_div b (pos r) ∷ pos r ∷ []) ((var 0 ⊖ var 2 ⊗ var 3) ⊕ (var 1 ⊖ var 0)) (var 1 ⊖ var 2 ⊗ var 3) tt ∙ ap (λ z. c -ℤ z *ℤ pos r) (sym e)

-- coordinates with equal quotients
pub last_apart : (r : ℕ) → 1 ≤ r → (cs bs : List ℤ) → length cs ≡ length bs → quotients r cs ≡ quotients r bs → LastApart r cs bs
unfolding quotients
last_apart r h [] [] l e = record {
  more = pos 0;
  is = refl;
  low = omega (ints, left_over-low (pos 0) (pos r) (omega ints), sum (left_over (pos 0) (pos r)) (pos 0));
  high = omega (ints, left_over-high (pos 0) (pos r) (omega ints), sum (left_over (pos 0) (pos r)) (pos 0));
}
last_apart r h [] (b ∷ bs) l e = absurd (suc-ne-zero (length bs) (sym l))
last_apart r h (c ∷ cs) [] l e = absurd (suc-ne-zero (length cs) l)
last_apart r h (c ∷ []) (b ∷ []) l e =
    let q = numbers_apart r c b (ap (λ (w : List ℤ). get_or w 0 (pos 0)) e) in
    let one : pos 1 ≤ℤ pos r = omega ints in
    record {
      more = c -ℤ b;
      is = ap (λ (z : ℤ). z ∷ []) (ring (b ∷ c ∷ []) (var 1) (var 0 ⊕ (var 1 ⊖ var 0)) tt);
      low = subst (λ z. pos 0 ≤ℤ z) (sym q) (left_over-low c (pos r) one);
      high = subst (λ z. z ≤ℤ pos r) (sym q) (omega (ints, left_over-high c (pos r) one));
    }
last_apart r h (c ∷ []) (b ∷ a ∷ as') l e = absurd (suc-ne-zero (length as') (suc_inj (sym l)))
last_apart r h (c ∷ d ∷ ds) (b ∷ []) l e = absurd (suc-ne-zero (length ds) (suc_inj l))
last_apart r h (c ∷ d ∷ ds) (b ∷ a ∷ as') l e =
    let n = last_apart r h (d ∷ ds) (a ∷ as') (suc_inj l) (ap tail e) in
    record { more = n.more; is = ap₂ (λ (z : ℤ) (w : List ℤ). z ∷ w) (ap (λ (w : List ℤ). get_or w 0 (pos 0)) e) n.is; low = n.low; high = n.high }
