-- Laws of the definitions of a field, one byte at a time, and of what its reader and writer hold.
-- Assumes nothing.
use mathlib.Core.Path.{◌≡◌, refl, sym, ap, subst, ◌∙◌}
use mathlib.Core.Bool.{Bool, true, false, ◌&&◌, cond}
use mathlib.Core.List.{[], ◌∷◌, ◌++◌, append_assoc}
use Prim.Native.Nat.{ℕ, zero, suc, ◌+◌, ◌*◌, ◌-◌, ◌/◌, ◌%◌, ◌≤◌, ◌<◌, ◌^◌}
use native.Mathlib.Numerals.{add-one}
use native.Mathlib.Nat.{pow-suc}
use native.Mathlib.Omega.{arith}
use borrow.Author.Tests.{le-ltb, lt-ltb, leb-true, ltb-true, ltb-false}
use lib.Dec.{T, leb, ltb}
use lib.IntN.{ℤ, pos, negsuc, nat_abs, neg_ℤ, ◌-ℤ◌, +ℤ_idl}
use lib.Signed.{mag, lt_z}
use lib.ListN.{length, get_or, drop, take, set, replicate, length-drop, length-replicate, replicate-append-replicate}
use lib.Seq.{drop-cons, drop-length, take_all, lt-length-set, get_or-set_same, drop-set-lt, take-set-le, take-take}
use lib.Seq.{set_at}
use mir.Syntax.{w64}
use mir.Val.{to_z, of_z}
use mir.Facts.{to_z-of_z}
use Rattle.integers.proofs.Lists.{and_left, split}
use Rattle.std.proofs.Common.{take_while, eqb}
use Rattle.std.specs.List.{prefix_len}
use Rattle.std.proofs.lemmas.List.Folds.{length-prefix_len}
use Rattle.nest_text.specs.Fields.{Bytes, columns, space, minus, zero_digit, seven_digits, is_digit}
use Rattle.nest_text.specs.Fields.{blanks_of, all_digits, value_of, digits_to, numeral_of, field_of}
use Rattle.nest_text.specs.Stored.{InColumns}

-- ---- spaces

-- they are the bytes that are taken while they are spaces
pub blanks-taken : (l : Bytes) → blanks_of l ≡ length (take_while (λ b. eqb b space) l)
unfolding blanks_of
blanks-taken l = counted l ∙ sym (length-prefix_len (λ b. eqb b space) l)
  where
    counted : (l : Bytes) → blanks_of l ≡ prefix_len (λ b. eqb b space) l
    counted [] = refl
    counted (b ∷ l) = split (eqb b space) (λ t. rw (t, counted l) (omega arith)) (λ f. rw f refl)

-- there are no more of them than bytes
pub blanks_inside : (l : Bytes) → blanks_of l ≤ length l
unfolding blanks_of
blanks_inside [] = omega arith
blanks_inside (b ∷ l) = split (eqb b space)
    (λ t. rw t (omega (arith, blanks_inside l)))
    (λ f. rw f (omega arith))

-- ---- the bytes from place k on

module _ (l : Bytes) (k : ℕ) (h : k < length l) where
  -- a byte, and whether all behind it are digits
  pub digits_more : all_digits (drop k l) ≡ (is_digit (get_or l k 0) && all_digits (drop (k + 1) l))
  unfolding all_digits
  digits_more = rw (add-one k, drop-cons l k 0 h) refl

  -- a digit, behind digits that say a
  pub value-more : (a : ℕ) → value_of a (drop k l) ≡ value_of (a * 10 + (get_or l k 0 - zero_digit)) (drop (k + 1) l)
  unfolding value_of
  value-more a = rw (add-one k, drop-cons l k 0 h) refl

-- no byte is left that is no digit
pub digits_end : (l : Bytes) → all_digits (drop (length l) l) ≡ true
unfolding all_digits
digits_end l = rw (drop-length l) refl

-- no digit is left
pub value_end : (l : Bytes) (a : ℕ) → value_of a (drop (length l) l) ≡ a
unfolding value_of
value_end l a = rw (drop-length l) refl

-- a power, one higher
pub pow_add-one : (b k : ℕ) → b ^ (k + 1) ≡ b ^ k * b
pow_add-one b k = rw (add-one k) (pow-suc b k)

-- no bytes
pub empty : (l : Bytes) → length l ≡ 0 → l ≡ []
empty [] h = refl
empty (a ∷ l) h = absurd (omega arith)

-- what a part `&d[1..]` holds
pub tail-part : (l : Bytes) → take (length l - 1) (drop 1 l) ≡ drop 1 l
tail-part l = take_all (length l - 1) (drop 1 l) (simp length-drop (omega arith))

-- a number turned by its sign
pub minus_is : (n : ℕ) → pos 0 -ℤ pos n ≡ neg_ℤ (pos n)
minus_is n = +ℤ_idl (neg_ℤ (pos n))

-- turned, it is no larger
pub mag_negpos : (n : ℕ) → mag (neg_ℤ (pos n)) ≤ n
mag_negpos zero = omega arith
mag_negpos (suc n) = omega arith

-- a number that the machine has room for is held as it is
pub back : {z : ℤ} → mag z < 2 ^ 63 → to_z w64 (of_z w64 z) ≡ z
back h = to_z-of_z {w = w64} (record { sfits = h })

-- what a part `&f[a..]` holds
pub rest_part : (l : Bytes) (a : ℕ) → take (length l - a) (drop a l) ≡ drop a l
rest_part l a = take_all (length l - a) (drop a l) (simp length-drop (omega arith))

-- ---- writing from the end

module _ (l : Bytes) (i v : ℕ) where
  -- from the byte stored on
  pub drop-set-here : i < length l → drop i (set l i v) ≡ v ∷ drop (i + 1) l
  drop-set-here h =
      rw (add-one i, drop-cons (set l i v) i 0 (lt-length-set l i v h), get_or-set_same l i v 0 h, drop-set-lt (suc i) l i v (omega arith)) refl

  -- before it the bytes are as they were
  pub take_set_before : (l₀ : Bytes) → take (i + 1) l ≡ take (i + 1) l₀ → take i (set l i v) ≡ take i l₀
  take_set_before l₀ e =
      rw (take-set-le i l i v (omega arith), ← take-take i (i + 1) l (omega arith), e) (take-take i (i + 1) l₀ (omega arith))

-- a number of two digits has two columns
pub two_digits : (r a : ℕ) → 10 ≤ r → r < 10 ^ a → 2 ≤ a
two_digits r zero h l = absurd (omega arith)
two_digits r (suc zero) h l = absurd (omega arith)
two_digits r (suc (suc a)) h l = omega arith

-- without its last digit a number takes one column less
pub tenth : (r i : ℕ) → r < 10 ^ (i + 1) → r / 10 < 10 ^ i
tenth r i h = let e = pow_add-one 10 i in omega arith

-- the last of several digits
pub digits_ten : (r i : ℕ) (acc : Bytes) → 10 ≤ r → digits_to (i + 1) r acc ≡ digits_to i (r / 10) ((zero_digit + r % 10) ∷ acc)
unfolding digits_to
digits_ten r i acc h = rw (add-one i, le-ltb r 10 h) refl

-- the only digit
pub digits_last : (r i : ℕ) (acc : Bytes) → r < 10 → digits_to (i + 1) r acc ≡ (zero_digit + r % 10) ∷ acc
unfolding digits_to
digits_last r i acc h =
    let e : r % 10 ≡ r = omega arith in
    rw (add-one i, lt-ltb r 10 h, e) refl

-- a negative number that six columns hold
pub within-neg : (n : ℕ) → InColumns (negsuc n) → n < 99999
within-neg n h = omega (arith, leb-true n 99998 (and_left (leb n 99998) true h))

-- and one that is not negative
pub within-pos : (n : ℕ) → InColumns (pos n) → n < seven_digits
within-pos n h = omega (arith, leb-true n 999999 h)

-- a number below 10 ^ j has at most j digits
pub digits_short : (j f n : ℕ) (acc : Bytes) → n < 10 ^ j → 1 ≤ j → length (digits_to f n acc) ≤ j + length acc
unfolding digits_to
digits_short zero f n acc h l = absurd (omega arith)
digits_short (suc j) zero n acc h l = omega arith
digits_short (suc j) (suc f) n acc h l = by (ltb n 10) refl (λ p q. digits_short j f (n / 10) ((zero_digit + n % 10) ∷ acc) p q)
  where
    by : (t : Bool) → ltb n 10 ≡ t → (n / 10 < 10 ^ j → 1 ≤ j → length (digits_to f (n / 10) ((zero_digit + n % 10) ∷ acc)) ≤ j + suc (length acc)) → length (cond t ((zero_digit + n) ∷ acc) (digits_to f (n / 10) ((zero_digit + n % 10) ∷ acc))) ≤ suc j + length acc
    by true e go = omega arith
    by false e go =
        let m = two_digits n (suc j) (ltb-false n 10 e) h in
        omega (arith, go (tenth n j (rw (add-one j) h)) (omega arith))

-- the first of some spaces
pub take-blank : (k n : ℕ) → k ≤ n → take {A = ℕ} k (replicate n space) ≡ replicate k space
take-blank zero n h = refl
take-blank (suc k) zero h = absurd (omega arith)
take-blank (suc k) (suc n) h = ap (λ (l : Bytes). space ∷ l) (take-blank k n (omega arith))

-- ---- the six columns of a number whose digits are d, from column a on

module _ (a : ℕ) (d : Bytes) (six : a + length d ≡ columns) where
  -- no sign
  pub field_plain : take a (replicate columns space) ++ d ≡ replicate (columns - length d) space ++ d
  field_plain =
      let e : columns - length d ≡ a = omega arith in
      rw (e, take-blank a columns (omega arith)) refl

  -- a minus before them
  pub field_minus : 1 ≤ a → set (take a (replicate columns space) ++ d) (a - 1) minus ≡ replicate (columns - length (minus ∷ d)) space ++ (minus ∷ d)
  field_minus h =
      let e : columns - suc (length d) ≡ a - 1 = omega arith in
      let q : a ≡ a - 1 + 1 = omega arith in
      let p : replicate {A = ℕ} a space ≡ replicate {A = ℕ} (a - 1) space ++ (space ∷ []) = ap (λ (n : ℕ). replicate {A = ℕ} n space) q ∙ sym (replicate-append-replicate (a - 1) 1 space) in
      rw (e, take-blank a columns (omega arith), p, append_assoc (replicate (a - 1) space) (space ∷ []) d) (set_at (replicate (a - 1) space) space d minus (a - 1) (length-replicate (a - 1) space))

-- ---- what the writer leaves is the field

-- where the number is negative, there is room for the minus
pub written-minus : (z : ℤ) (a : ℕ) → lt_z z (pos 0) ≡ true → InColumns z → a + length (digits_to columns (nat_abs z) []) ≡ columns → (1 ≤ a) × (set (take a (replicate columns space) ++ digits_to columns (nat_abs z) []) (a - 1) minus ≡ field_of z)
unfolding field_of numeral_of
written-minus (pos n) a l h six = absurd (omega (arith, ltb-true n 0 l))
written-minus (negsuc n) a l h six =
    let room : 1 ≤ a = omega (arith, digits_short 5 columns (suc n) [] (omega (arith, within-neg n h)) (omega arith)) in
    (room, rw (add-one n) (field_minus a (digits_to columns (suc n) []) six room))

-- and where the number is not negative
pub written-plain : (z : ℤ) (a : ℕ) → lt_z z (pos 0) ≡ false → a + length (digits_to columns (nat_abs z) []) ≡ columns → take a (replicate columns space) ++ digits_to columns (nat_abs z) [] ≡ field_of z
unfolding field_of numeral_of
written-plain (pos n) a l six = field_plain a (digits_to columns n []) six
written-plain (negsuc n) a l six = absurd (subst T l tt)
