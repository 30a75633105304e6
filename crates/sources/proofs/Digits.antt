-- The digits of a key: those of a vector's key are its components, for vectors of any length whose components are below half the base; and those of keys that
-- are one apart. Assumes nothing.
use mathlib.Core.Path.{◌≡◌, refl, sym, ap, ap₂, subst, ◌∙◌}
use mathlib.Core.List.{List, [], ◌∷◌, ◌++◌, append_assoc, append-nil}
use Prim.Native.Nat.{ℕ, zero, suc, ◌+◌, ◌-◌, ◌^◌, ◌<◌, ◌≤◌}
use native.Mathlib.Nat as NatL
use native.Mathlib.Numerals.{add-one}
use native.Mathlib.Omega.{arith}
use lib.IntN.{ℤ, pos, negsuc, nat_abs, ◌+ℤ◌, ◌-ℤ◌, ◌*ℤ◌, *ℤ_comm}
use lib.ListN.{length, drop, set, replicate, length-append}
use lib.Seq.{drop-cons, lt-length-set, get_or_at, get_or-set_same, drop-set-lt}
use lib.Signed.{◌≤ℤ◌, ◌<ℤ◌, shr_z}
use Rattle.integers.specs.Division.{floor_div}
use Rattle.integers.proofs.Division.{floor_div-is, floor_is}
use Rattle.integers.proofs.Linear.{ints, sum, dif, scale, sizes}
use Rattle.integers.proofs.Solver.{var, con, ◌⊕◌, ◌⊖◌, ◌⊗◌, ring}
use Rattle.integers.specs.Vector.{Vector, AllWithin}
use Rattle.integers.proofs.Vector.{get_or-within}
use Rattle.nest.specs.Nest.{padded, max_depth}
use Rattle.nest.proofs.Padding.{drop-zeros}
use Rattle.sources.specs.Keys.{base, half, key_from, key, max_key, above, digits}

-- as many as are asked for
pub length_digits : (n : ℕ) (a : ℤ) → length (digits n a) ≡ n
unfolding digits
length_digits zero a = refl
length_digits (suc n) a = length-append (digits n (above a)) ((a -ℤ above a *ℤ pos base) ∷ []) ∙ omega (arith, length_digits n (above a))

-- ---- without the last digit

-- the machine's shift
pub shifted : (a : ℤ) → shr_z (a +ℤ pos half) (2 ^ 12) ≡ above a
unfolding above floor_div
shifted a = go (a +ℤ pos half)
  where
    go : (z : ℤ) → shr_z z (2 ^ 12) ≡ floor_div z (pos base)
    go (pos n) = refl
    go (negsuc n) = refl

-- it is no larger than the largest key
pub above-small : (a : ℤ) → nat_abs a ≤ max_key → nat_abs (above a) ≤ max_key
unfolding above
above-small a h =
    let q = floor_div (a +ℤ pos half) (pos base) in
    let f = floor_div-is (a +ℤ pos half) (pos base) (omega ints) in
    let low : (pos base *ℤ q) ≤ℤ (a +ℤ pos half) = rw (*ℤ_comm (pos base) q) f.low in
    let high : (a +ℤ pos half) <ℤ (pos base *ℤ (q +ℤ pos 1)) = rw (*ℤ_comm (pos base) (q +ℤ pos 1)) f.high in
    omega (ints, low, high, scale base q, scale base (q +ℤ pos 1), sum q (pos 1), sum a (pos half), sizes a, sizes q)

-- a digit that was put behind a number is taken off again
pub above_snoc : (A : ℕ) → A + A < base → (a x : ℤ) → nat_abs x ≤ A → above (a *ℤ pos base +ℤ x) ≡ a
unfolding above
above_snoc A h a x l = sym (floor_is (a *ℤ pos base +ℤ x +ℤ pos half) (pos base) a (omega ints) (record { low = low; high = high }))
  where
    low : (a *ℤ pos base) ≤ℤ (a *ℤ pos base +ℤ x +ℤ pos half)
    low = omega (ints, sum (a *ℤ pos base) x, sum (a *ℤ pos base +ℤ x) (pos half), sizes x)

    high : (a *ℤ pos base +ℤ x +ℤ pos half) <ℤ ((a +ℤ pos 1) *ℤ pos base)
    high =
        let e : (a +ℤ pos 1) *ℤ pos base ≡ a *ℤ pos base +ℤ pos base = ring (a ∷ []) ((var 0 ⊕ con (pos 1)) ⊗ con (pos base)) (var 0 ⊗ con (pos base) ⊕ con (pos base)) tt in
        rw e (omega (ints, sum (a *ℤ pos base) x, sum (a *ℤ pos base +ℤ x) (pos half), sum (a *ℤ pos base) (pos base), sizes x))

-- ---- the digits of a vector's key

module _ (A : ℕ) (h : A + A < base) where
  -- behind a number: its own digits, then the vector
  digits_from : (k : ℕ) (a : ℤ) (v : Vector) → AllWithin A v → digits (length v + k) (key_from a v) ≡ digits k a ++ v
  unfolding key_from digits
  digits_from k a [] w = ap (λ n. digits n a) (NatL.zero-add k) ∙ sym (append-nil (digits k a))
  digits_from k a (x ∷ v) w =
      let b = a *ℤ pos base +ℤ x in
      let off = above_snoc A h a x w.0 in
      let last : b -ℤ above b *ℤ pos base ≡ x = ap (λ (z : ℤ). b -ℤ z *ℤ pos base) off ∙ ring (a ∷ x ∷ []) (var 0 ⊗ con (pos base) ⊕ var 1 ⊖ var 0 ⊗ con (pos base)) (var 1) tt in
      let more : suc (length v) + k ≡ length v + suc k = omega arith in
      ap (λ n. digits n (key_from b v)) more ∙ digits_from (suc k) b v w.1
      ∙ append_assoc (digits k (above b)) ((b -ℤ above b *ℤ pos base) ∷ []) v
      ∙ ap₂ (λ (z y : ℤ). digits k z ++ (y ∷ v)) off last

  -- they are the vector
  pub digits-key : (v : Vector) → AllWithin A v → digits (length v) (key v) ≡ v
  unfolding key digits
  digits-key v w = ap (λ n. digits n (key_from (pos 0) v)) (sym (NatL.add-zero (length v))) ∙ digits_from 0 (pos 0) v w

-- ---- neighbours in a row

-- a key's last digit
abbrev pub last_digit : ℤ → ℤ
last_digit a = a -ℤ above a *ℤ pos base

-- it is one of the digits
last_within : (A n : ℕ) (a : ℤ) → AllWithin A (digits (suc n) a) → nat_abs (last_digit a) ≤ A
unfolding digits
last_within A n a w = subst (λ (z : ℤ). nat_abs z ≤ A) (get_or_at (digits n (above a)) (last_digit a) [] (pos 0) n (length_digits n (above a))) (get_or-within A (digits n (above a) ++ (last_digit a ∷ [])) n w)

-- keys that are one apart have the same digits but for the last, which are one apart
pub digits_next : (A n : ℕ) (a b : ℤ) → A + A + 1 < base → AllWithin A (digits (suc n) a) → AllWithin A (digits (suc n) b) → b -ℤ a ≡ pos 1 → (above b ≡ above a) × (last_digit b ≡ last_digit a +ℤ pos 1)
digits_next A n a b h wa wb e =
    let x = last_within A n a wa in
    let y = last_within A n b wb in
    let p = above a in
    let q = above b in
    let s : pos base *ℤ q -ℤ pos base *ℤ p ≡ pos 1 +ℤ (last_digit a -ℤ last_digit b) =
    ring (a ∷ b ∷ p ∷ q ∷ []) (con (pos base) ⊗ var 3 ⊖ con (pos base) ⊗ var 2) ((var 1 ⊖ var 0) ⊕ ((var 0 ⊖ var 2 ⊗ con (pos base)) ⊖ (var 1 ⊖ var 3 ⊗ con (pos base)))) tt ∙ ap (λ (z : ℤ). z +ℤ (last_digit a -ℤ last_digit b)) e in
    let r : q ≡ p = omega (ints, s, dif (pos base *ℤ q) (pos base *ℤ p), scale base q, scale base p, sum (pos 1) (last_digit a -ℤ last_digit b), dif (last_digit a) (last_digit b), sizes (last_digit a), sizes (last_digit b), x, y) in
    (r, ap (λ (z : ℤ). b -ℤ z *ℤ pos base) r ∙ ring (a ∷ b ∷ p ∷ []) (var 1 ⊖ var 2 ⊗ con (pos base)) ((var 0 ⊖ var 2 ⊗ con (pos base)) ⊕ (var 1 ⊖ var 0)) tt ∙ ap (λ (z : ℤ). last_digit a +ℤ z) e)

-- ---- the digits in an array, from the last on

-- none is written yet
pub digits-none : (n : ℕ) (a : ℤ) → n ≤ max_depth → digits n a ++ drop n (replicate max_depth (pos 0)) ≡ padded max_depth (digits n a)
unfolding padded
digits-none n a h = ap (λ l. digits n a ++ l) (drop-zeros n max_depth ∙ ap (λ k. replicate (max_depth - k) (pos 0)) (sym (length_digits n a)))

-- one more is
pub digits_more : (k : ℕ) (a : ℤ) (v : List ℤ) → k < length v → digits (k + 1) a ++ drop (k + 1) v ≡ digits k (above a) ++ drop k (set v k (a -ℤ above a *ℤ pos base))
unfolding digits
digits_more k a v h =
    let d = a -ℤ above a *ℤ pos base in
    ap (λ n. digits n a ++ drop n v) (add-one k) ∙ append_assoc (digits k (above a)) (d ∷ []) (drop (suc k) v)
    ∙ ap (λ l. digits k (above a) ++ l) (sym (drop-cons (set v k d) k (pos 0) (lt-length-set v k d h) ∙ ap₂ (λ (x : ℤ) (l : List ℤ). x ∷ l) (get_or-set_same v k d (pos 0) h) (drop-set-lt (suc k) v k d (omega arith))))

-- all are
pub digits-all : (a : ℤ) (v : List ℤ) → v ≡ digits 0 a ++ drop 0 v
unfolding digits
digits-all a v = refl
