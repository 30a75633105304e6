-- What the machine's `/` and `%` need and give at an `i64`, and the laws of division that rounds
-- down. Assumes nothing.
use mathlib.Core.Path.{◌≡◌, refl, sym, ◌∙◌, ap, subst}
use mathlib.Core.Logic.{◌⊎◌, inl, inr, ⊎_elim}
use Prim.Native.Nat.{ℕ, zero, suc, ◌+◌, ◌*◌, ◌/◌, ◌%◌, ◌≤◌, ◌<◌, zero-le, suc-le-suc}
use native.Mathlib.Nat as NatL
use native.Mathlib.Omega.{arith}
use lib.Dec.{T}
use lib.IntN.{ℤ, pos, negsuc, neg_ℤ, nat_abs, ◌+ℤ◌, ◌*ℤ◌, neg_ℤ-+ℤ}
use lib.Signed.{mag, ◌≤ℤ◌, ◌<ℤ◌, quot_z, rem_z, mag_rem, non_neg, yes_non_neg, pos-nat_abs}
use mir.Syntax.{w64}
use mir.Val.{Fits, SFits, of_z}
use mir.Facts.{to_z-of_z, Fits-nat_abs, sfits_lit}
use Rattle.integers.proofs.Bounds.{Has, param, need_op, op_is}
use Rattle.integers.proofs.Tests.{same}
use Rattle.integers.proofs.Linear.{ints, sum, dif, opp, sizes}
use Rattle.integers.proofs.Machine.{reads}
use Rattle.integers.proofs.Order.{*-cancel-<, ≤→diff, <→diff, decide}
use Rattle.integers.proofs.Certify.{≤-by, <-by}
use Rattle.integers.proofs.Solver.{var, con, ◌⊕◌, ◌⊖◌, ◌⊗◌}
use mathlib.Core.List.{[], ◌∷◌}
use Rattle.integers.proofs.Ring.{distr, *ℤ_idl, neg-*, nat_abs-neg, nat_abs-*}
use Rattle.std.specs.Int.{int_div_euclid, int_rem_euclid}
use Rattle.integers.specs.Division.{floor_div, Floor, left_over, Divides}

-- ---- the machine's division by a positive number
mag_neg : (q a : ℕ) → q ≤ suc a → mag (neg_ℤ (pos q)) ≤ a
mag_neg zero a h = zero-le
mag_neg (suc q) a h = NatL.le_of_suc-le-suc h

pub mag_quot : (a r : ℤ) → pos 1 ≤ℤ r → mag (quot_z a r) ≤ mag a
mag_quot (pos a) (pos r) h = NatL.div-le_self a r
mag_quot (pos a) (negsuc r) h = absurd h.le
mag_quot (negsuc a) (pos r) h = mag_neg (suc a / r) a (NatL.div-le_self (suc a) r)
mag_quot (negsuc a) (negsuc r) h = absurd h.le

pub quot_fits : {a r : ℤ} → SFits w64 a → pos 1 ≤ℤ r → SFits w64 (quot_z a r)
quot_fits {a} {r} f h = record { sfits = NatL.lt_of_le_of_lt (mag_quot a r h) f.sfits }

pub rem_fits : {a : ℤ} (r : ℤ) → SFits w64 a → SFits w64 (rem_z a r)
rem_fits {a} r f = record { sfits = NatL.lt_of_le_of_lt (mag_rem a r) f.sfits }

pub bits_pos : (r : ℤ) → pos 1 ≤ℤ r → 0 < of_z w64 r
bits_pos (pos r) h = omega ints
bits_pos (negsuc r) h = absurd h.le

-- the bits of a number that is not negative are the number
pub bits_nat : (z : ℤ) → pos 0 ≤ℤ z → of_z w64 z ≡ nat_abs z
bits_nat (pos n) h = refl
bits_nat (negsuc n) h = absurd h.le

-- ---- casts of an `i64` that is not negative to `usize`: answers `Need-cast-..`
pub need_cast : {a : ℤ} → SFits w64 a → pos 0 ≤ℤ a → T (non_neg (reads a)) × Fits w64 (nat_abs (reads a))
need_cast {a} f h = subst (λ (x : ℤ). T (non_neg x) × Fits w64 (nat_abs x)) (sym (to_z-of_z f)) (yes_non_neg h, Fits-nat_abs tt f)

pub cast_is : {a : ℤ} → SFits w64 a → pos 0 ≤ℤ a → pos (nat_abs (reads a)) ≡ a
cast_is {a} f h = ap (λ (x : ℤ). pos (nat_abs x)) (to_z-of_z f) ∙ pos-nat_abs a (yes_non_neg h)

-- the quotient and the remainder of the machine
pub quot_rem : (a r : ℤ) → pos 1 ≤ℤ r → quot_z a r *ℤ r +ℤ rem_z a r ≡ a
quot_rem (pos a) (pos r) h = ap pos (NatL.div-add-mod' a r)
quot_rem (negsuc a) (pos r) h =
    ap (λ (x : ℤ). x +ℤ neg_ℤ (pos (suc a % r))) (neg-* (pos (suc a / r)) (pos r)) ∙ sym (neg_ℤ-+ℤ (pos (suc a / r * r)) (pos (suc a % r))) ∙ ap (λ (n : ℕ). neg_ℤ (pos n)) (NatL.div-add-mod' (suc a) r)
quot_rem a (negsuc r) h = absurd h.le

pub rem_low : (a r : ℤ) → pos 0 ≤ℤ a → pos 0 ≤ℤ rem_z a r
rem_low (pos a) r h = omega ints
rem_low (negsuc a) r h = absurd h.le

pub rem_high : (a r : ℤ) → pos 0 ≤ℤ a → pos 1 ≤ℤ r → rem_z a r <ℤ r
rem_high (pos a) (pos r) h l = omega (ints, NatL.mod-lt a {m = r} (omega ints))
rem_high (pos a) (negsuc r) h l = absurd l.le
rem_high (negsuc a) r h l = absurd h.le

div_lo : (n r : ℕ) → n / r * r ≤ n
div_lo n r = NatL.div-mul-le_self n r

div_hi : (n r : ℕ) → 1 ≤ r → n < (n / r) * r + r
div_hi n r h = NatL.lt-div-mul-add h

pub floor_div-is : (a r : ℤ) → pos 1 ≤ℤ r → Floor a r (floor_div a r)
unfolding floor_div
floor_div-is (pos a) (pos r) h = record { low = omega (ints, div_lo a r); high = omega (ints, div_hi a r (omega ints)) }
floor_div-is (negsuc a) (pos r) h = record { low = omega (ints, div_lo a r, div_hi a r (omega ints), opp (pos (suc (a / r) * r))); high = omega (ints, distr (negsuc (a / r)) (pos 1) (pos r), sum (negsuc (a / r) *ℤ pos r) (pos 1 *ℤ pos r), opp (pos (suc (a / r) * r)), div_lo a r) }
floor_div-is a (negsuc r) h = absurd h.le

pub floor_div-size : (a r : ℤ) → pos 1 ≤ℤ r → nat_abs (floor_div a r) ≤ nat_abs a
unfolding floor_div
floor_div-size (pos a) (pos r) h = NatL.div-le_self a r
floor_div-size (negsuc a) (pos r) h = suc-le-suc (NatL.div-le_self a r)
floor_div-size a (negsuc r) h = absurd h.le

-- no other number is so placed
pub floor_one : (a r q q' : ℤ) → pos 1 ≤ℤ r → Floor a r q → Floor a r q' → q ≡ q'
floor_one a r q q' h f g =
    let u = *-cancel-< q (q' +ℤ pos 1) r (omega ints) (omega (ints, f.low, g.high)) in
    let v = *-cancel-< q' (q +ℤ pos 1) r (omega ints) (omega (ints, g.low, f.high)) in
    omega (ints, sum q (pos 1), sum q' (pos 1))

pub floor_is : (a r q : ℤ) → pos 1 ≤ℤ r → Floor a r q → q ≡ floor_div a r
floor_is a r q h f = floor_one a r q (floor_div a r) h f (floor_div-is a r h)

-- a multiple of r moves out, and what is left over is from 0 to r - 1
pub floor_shift : (a r k : ℤ) → pos 1 ≤ℤ r → floor_div (a +ℤ k *ℤ r) r ≡ floor_div a r +ℤ k
floor_shift a r k h = sym (floor_is (a +ℤ k *ℤ r) r (floor_div a r +ℤ k) h (record { low = low; high = high }))
  where
    f : Floor a r (floor_div a r)
    f = floor_div-is a r h

    q : ℤ
    q = floor_div a r

    low : ((floor_div a r +ℤ k) *ℤ r) ≤ℤ (a +ℤ k *ℤ r)
    low = ≤-by (a ∷ r ∷ k ∷ q ∷ []) ((var 3 ⊕ var 2) ⊗ var 1) (var 0 ⊕ var 2 ⊗ var 1) (var 0 ⊖ var 3 ⊗ var 1) (≤→diff (q *ℤ r) a f.low) tt

    high : (a +ℤ k *ℤ r) <ℤ ((floor_div a r +ℤ k +ℤ pos 1) *ℤ r)
    high = <-by (a ∷ r ∷ k ∷ q ∷ []) (var 0 ⊕ var 2 ⊗ var 1) ((var 3 ⊕ var 2 ⊕ con (pos 1)) ⊗ var 1) ((var 3 ⊕ con (pos 1)) ⊗ var 1 ⊖ var 0) (<→diff a ((q +ℤ pos 1) *ℤ r) f.high) tt

-- a number from 0 to r more raises the quotient by 0 or 1
pub floor_step : (a w r : ℤ) → pos 1 ≤ℤ r → pos 0 ≤ℤ w → w ≤ℤ r → (floor_div (a +ℤ w) r ≡ floor_div a r) ⊎ (floor_div (a +ℤ w) r ≡ floor_div a r +ℤ pos 1)
floor_step a w r h l u = ⊎_elim above below (decide ((q +ℤ pos 1) *ℤ r) (a +ℤ w))
  where
    q : ℤ
    q = floor_div a r

    f : Floor a r (floor_div a r)
    f = floor_div-is a r h

    above : ((q +ℤ pos 1) *ℤ r) ≤ℤ (a +ℤ w) → (floor_div (a +ℤ w) r ≡ q) ⊎ (floor_div (a +ℤ w) r ≡ q +ℤ pos 1)
    above m =
        let d = distr (q +ℤ pos 1) (pos 1) r in
        inr (sym (floor_is (a +ℤ w) r (q +ℤ pos 1) h (record { low = m; high = subst (λ z. (a +ℤ w) <ℤ z) (sym (d ∙ ap (λ z. (q +ℤ pos 1) *ℤ r +ℤ z) (*ℤ_idl r))) (omega (ints, f.high, sum a w, sum ((q +ℤ pos 1) *ℤ r) r)) })))

    below : (a +ℤ w) <ℤ ((q +ℤ pos 1) *ℤ r) → (floor_div (a +ℤ w) r ≡ q) ⊎ (floor_div (a +ℤ w) r ≡ q +ℤ pos 1)
    below m = inl (sym (floor_is (a +ℤ w) r q h (record { low = omega (ints, f.low, sum a w); high = m })))

pub left_over-low : (a r : ℤ) → pos 1 ≤ℤ r → pos 0 ≤ℤ left_over a r
unfolding left_over
left_over-low a r h = ≤→diff (floor_div a r *ℤ r) a (floor_div-is a r h).low

pub left_over-high : (a r : ℤ) → pos 1 ≤ℤ r → left_over a r <ℤ r
unfolding left_over
left_over-high a r h =
    <-by (a ∷ r ∷ floor_div a r ∷ []) (var 0 ⊖ var 2 ⊗ var 1) (var 1) ((var 2 ⊕ con (pos 1)) ⊗ var 1 ⊖ var 0) (<→diff a ((floor_div a r +ℤ pos 1) *ℤ r) (floor_div-is a r h).high) tt

-- below, at and above zero
pub floor_below : (a r : ℤ) → pos 1 ≤ℤ r → a <ℤ pos 0 → floor_div a r <ℤ pos 0
unfolding floor_div
floor_below (pos a) r h l = absurd (omega ints)
floor_below (negsuc a) (pos r) h l = omega ints
floor_below (negsuc a) (negsuc r) h l = absurd (omega ints)

pub floor_zero : (r : ℤ) → pos 1 ≤ℤ r → floor_div (pos 0) r ≡ pos 0
unfolding floor_div
floor_zero (pos r) h = ap pos (NatL.zero-div r)
floor_zero (negsuc r) h = absurd (omega ints)

pub floor_above : (a r : ℤ) → pos 1 ≤ℤ r → pos 0 ≤ℤ a → pos 0 ≤ℤ floor_div a r
unfolding floor_div
floor_above (pos a) (pos r) h l = omega ints
floor_above (pos a) (negsuc r) h l = absurd (omega ints)
floor_above (negsuc a) r h l = absurd (omega ints)

minus_seven_by_three : floor_div (negsuc 6) (pos 3) ≡ negsuc 2
unfolding floor_div
minus_seven_by_three = refl

minus_six_by_three : floor_div (negsuc 5) (pos 3) ≡ negsuc 1
unfolding floor_div
minus_six_by_three = refl

seven_by_three : floor_div (pos 7) (pos 3) ≡ pos 2
unfolding floor_div
seven_by_three = refl

pub rem_size : (z s : ℤ) → nat_abs (rem_z z s) ≡ nat_abs z % nat_abs s
rem_size (pos a) s = refl
rem_size (negsuc a) s = nat_abs-neg (pos (suc a % nat_abs s))

pub zero-size : (z : ℤ) → nat_abs z ≡ 0 → z ≡ pos 0
zero-size z e = omega (ints, sizes z)

pub rem_zero→divides : (z s : ℤ) → pos 1 ≤ℤ s → rem_z z s ≡ pos 0 → Divides s z
rem_zero→divides z (negsuc s) h e = absurd h.le
rem_zero→divides (pos a) (pos s) h e =
    let d : a % s ≡ 0 = ap nat_abs e in
    let e : a / s * s ≡ a = omega (arith, NatL.div-add-mod' a s) in
    record { quotient = pos (a / s); product = ap pos e }
rem_zero→divides (negsuc a) (pos s) h e =
    let d : suc a % s ≡ 0 = sym (rem_size (negsuc a) (pos s)) ∙ ap nat_abs e in
    let e : suc a / s * s ≡ suc a = omega (arith, NatL.div-add-mod' (suc a) s) in
    record { quotient = neg_ℤ (pos (suc a / s)); product = neg-* (pos (suc a / s)) (pos s) ∙ ap (λ (n : ℕ). neg_ℤ (pos n)) e }

pub divides→rem_zero : (z s : ℤ) → Divides s z → rem_z z s ≡ pos 0
divides→rem_zero z s d =
    zero-size (rem_z z s)
    (rem_size z s ∙ ap (λ (n : ℕ). n % nat_abs s) (sym (ap nat_abs d.product) ∙ nat_abs-* d.quotient s) ∙ NatL.mul-mod_left (nat_abs d.quotient) (nat_abs s))

-- the test `p % s == 0` in the code, where p reads as the number P: what `/` and `%` need, and what
-- each outcome tells
module _ {p P S : ℤ} (h : Has p P) (f : SFits w64 S) (one : pos 1 ≤ℤ S) where
  pub need_rem : (0 < of_z w64 S) × SFits w64 (quot_z p (reads S))
  need_rem = (bits_pos S one, need_op quot_z h (param f) (quot_fits h.fits one))

  pub divides_yes : of_z w64 (rem_z p (reads S)) ≡ 0 → Divides S P
  divides_yes e = rem_zero→divides P S one (same (rem_fits S h.fits) (sfits_lit {w = w64} {z = pos 0} tt) (ap (of_z w64) (sym (op_is rem_z h.has (to_z-of_z f))) ∙ e))

  pub divides_no : (of_z w64 (rem_z p (reads S)) ≡ 0 → ⊥) → Divides S P → ⊥
  divides_no n d = n (ap (of_z w64) (op_is rem_z h.has (to_z-of_z f) ∙ divides→rem_zero P S d))

-- ---- the library's methods

-- what `div_euclid` answers by a divisor above zero is the quotient rounded down
pub euclid_is : (a r : ℤ) → pos 1 ≤ℤ r → int_div_euclid a r ≡ floor_div a r
unfolding floor_div
euclid_is (pos a) (pos r) h = refl
euclid_is (negsuc a) (pos r) h = refl
euclid_is a (negsuc r) h = absurd h.le

-- what `rem_euclid` answers by a number that is not zero is what is left over by its size
pub left_is : (a : ℤ) (r : ℕ) → 1 ≤ r → int_rem_euclid a (pos r) ≡ left_over a (pos r)
unfolding left_over floor_div
left_is (pos a) r h = omega (ints, dif (pos a) (pos (a / r * r)), NatL.div-add-mod' a r)
left_is (negsuc a) r h = omega (ints, dif (negsuc a) (negsuc (a / r) *ℤ pos r), opp (pos (suc (a / r) * r)), NatL.div-add-mod' a r, NatL.mod-lt a {m = r} h)

pub rem_euclid_is : (a d : ℤ) → (d ≡ pos 0 → ⊥) → int_rem_euclid a d ≡ left_over a (pos (nat_abs d))
rem_euclid_is a (pos zero) n = absurd (n refl)
rem_euclid_is (pos a) (pos (suc m)) n = left_is (pos a) (suc m) (omega arith)
rem_euclid_is (negsuc a) (pos (suc m)) n = left_is (negsuc a) (suc m) (omega arith)
rem_euclid_is (pos a) (negsuc m) n = left_is (pos a) (suc m) (omega arith)
rem_euclid_is (negsuc a) (negsuc m) n = left_is (negsuc a) (suc m) (omega arith)
