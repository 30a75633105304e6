-- A field that was written is read back, and digits that were read are written again as they stood;
-- Numerals.antt has the whole field.
-- Assumes nothing.
use mathlib.Core.Path.{◌≡◌, refl, sym, ap, ◌∙◌}
use mathlib.Core.Bool.{Bool, true, false, ◌&&◌, cond}
use mathlib.Core.List.{[], ◌∷◌, ◌++◌, append-nil}
use Prim.Native.Nat.{ℕ, zero, suc, ◌+◌, ◌*◌, ◌-◌, ◌/◌, ◌%◌, ◌≤◌, ◌<◌, ◌^◌}
use native.Mathlib.Numerals.{add-one}
use native.Mathlib.Omega.{arith}
use borrow.Author.Tests.{ne_eqb, le-ltb, lt-ltb, leb-true, le-leb, ltb-true, ltb-false, eqb-true, eqb-false}
use lib.Dec.{eqb, leb, ltb}
use lib.IntN.{ℤ, pos, negsuc}
use lib.ListN.{length, get_or, drop, replicate, length-replicate}
use lib.Seq.{drop_at}
use Rattle.integers.proofs.Lists.{and_true}
use Rattle.std.proofs.Common.{Some, None}
use Rattle.nest_text.specs.Fields.{Bytes, columns, space, minus, zero_digit, nine_digit, seven_digits, blanks_of}
use Rattle.nest_text.specs.Fields.{all_digits, value_of, is_digit, digits_of, signed_of, read_of, digits_to, numeral_of}
use Rattle.nest_text.specs.Fields.{field_of, no_leading_zero}
use Rattle.nest_text.specs.Stored.{InColumns}
use Rattle.nest_text.proofs.FieldLaws.{tenth, within-neg, within-pos, two_digits, empty}
use lib.Arith.{lt_of_le-ne}

-- ---- digits that were written

-- a digit by its byte
digit-first : (m : ℕ) → 0 * 10 + (zero_digit + m - zero_digit) ≡ m
digit-first m = omega arith

-- a number by its last digit and the others
digit_next : (m : ℕ) → m / 10 * 10 + (zero_digit + m % 10 - zero_digit) ≡ m
digit_next m = omega arith

-- the value of the digits of n before acc is that of acc after n
value_written : (f n : ℕ) (acc : Bytes) → n < 10 ^ f → 1 ≤ f → value_of 0 (digits_to f n acc) ≡ value_of n acc
unfolding digits_to value_of
value_written zero n acc h l = absurd (omega arith)
value_written (suc f) n acc h l = by (ltb n 10) refl (λ p q. value_written f (n / 10) ((zero_digit + n % 10) ∷ acc) p q)
  where
    by : (t : Bool) → ltb n 10 ≡ t → (n / 10 < 10 ^ f → 1 ≤ f → value_of 0 (digits_to f (n / 10) ((zero_digit + n % 10) ∷ acc)) ≡ value_of (n / 10 * 10 + (zero_digit + n % 10 - zero_digit)) acc) →
        value_of 0 (cond t ((zero_digit + n) ∷ acc) (digits_to f (n / 10) ((zero_digit + n % 10) ∷ acc))) ≡ value_of n acc
    by true e go = ap (λ (m : ℕ). value_of m acc) (digit-first n)
    by false e go =
        let m = two_digits n (suc f) (ltb-false n 10 e) h in
        go (tenth n f (rw (add-one f) h)) (omega arith) ∙ ap (λ (m : ℕ). value_of m acc) (digit_next n)

-- the byte of a digit is one
pub digit-is : (m : ℕ) → m < 10 → is_digit (zero_digit + m) ≡ true
digit-is m h = simp (le-leb zero_digit (zero_digit + m) (omega arith), le-leb (zero_digit + m) nine_digit (omega arith))

-- every byte that is written is a digit
all-written : (f n : ℕ) (acc : Bytes) → all_digits acc ≡ true → all_digits (digits_to f n acc) ≡ true
unfolding digits_to all_digits
all-written zero n acc h = h
all-written (suc f) n acc h = by (ltb n 10) refl (all-written f (n / 10) ((zero_digit + n % 10) ∷ acc))
  where
    by : (t : Bool) → ltb n 10 ≡ t → ((is_digit (zero_digit + n % 10) && all_digits acc) ≡ true → all_digits (digits_to f (n / 10) ((zero_digit + n % 10) ∷ acc)) ≡ true) →
        all_digits (cond t ((zero_digit + n) ∷ acc) (digits_to f (n / 10) ((zero_digit + n % 10) ∷ acc))) ≡ true
    by true e go = simp (digit-is n (ltb-true n 10 e), h)
    by false e go = go (simp (digit-is (n % 10) (omega arith), h))

-- the first digit of a number that is not 0 is none of space, minus and 0
pub record Leads (l : Bytes) : Type 0 where
  pub some : 0 < length l
  pub low : 49 ≤ get_or l 0 0
  pub high : get_or l 0 0 ≤ nine_digit

-- so it is of the digits that are written
leads-written : (f n : ℕ) (acc : Bytes) → n < 10 ^ f → 1 ≤ n → Leads (digits_to f n acc)
unfolding digits_to
leads-written zero n acc h l = absurd (omega arith)
leads-written (suc f) n acc h l = by (ltb n 10) refl (λ p q. leads-written f (n / 10) ((zero_digit + n % 10) ∷ acc) p q)
  where
    by : (t : Bool) → ltb n 10 ≡ t → (n / 10 < 10 ^ f → 1 ≤ n / 10 → Leads (digits_to f (n / 10) ((zero_digit + n % 10) ∷ acc))) → Leads (cond t ((zero_digit + n) ∷ acc) (digits_to f (n / 10) ((zero_digit + n % 10) ∷ acc)))
    by true e go = record { some = omega arith; low = omega arith; high = omega (arith, ltb-true n 10 e) }
    by false e go = go (tenth n f (rw (add-one f) h)) (omega (arith, ltb-false n 10 e))

-- the digits of 0 are read as 0
zero-back : digits_of (digits_to columns 0 []) ≡ Some 0
unfolding digits_of value_of digits_to all_digits
zero-back = refl

-- the digits of any number are read as it
digits-back : (n : ℕ) → n < seven_digits → digits_of (digits_to columns n []) ≡ Some n
unfolding digits_of value_of all_digits
digits-back zero h = zero-back
digits-back (suc n) h =
    let w = leads-written columns (suc n) [] h (omega arith) in
    let l = digits_to columns (suc n) [] in
    simp (lt-ltb 0 (length l) w.some, ne_eqb (get_or l 0 0) zero_digit (λ p. absurd (omega arith)), all-written columns (suc n) [] refl, value_written columns (suc n) [] h (omega arith))

-- ---- spaces before what is no space

-- all of them are counted
blanks-before : (k : ℕ) (t : Bytes) → (get_or t 0 0 ≡ space → ⊥) → blanks_of (replicate k space ++ t) ≡ k
unfolding blanks_of
blanks-before zero [] h = refl
blanks-before zero (b ∷ t) h = rw (ne_eqb b space h) refl
blanks-before (suc k) t h = rw (blanks-before k t h) (omega arith)

-- and the number behind them is read
pub spaced : (k : ℕ) (t : Bytes) → (get_or t 0 0 ≡ space → ⊥) → read_of (replicate k space ++ t) ≡ signed_of t
unfolding read_of
spaced k t h = rw (blanks-before k t h, drop_at (replicate k space) t k (length-replicate k space)) refl

-- the digits of 0 begin with a digit
head-zero : zero_digit ≤ get_or (digits_to columns 0 []) 0 0
unfolding digits_to
head-zero = omega arith

-- the digits of any number do
head-written : (n : ℕ) → n < seven_digits → zero_digit ≤ get_or (digits_to columns n []) 0 0
head-written zero h = head-zero
head-written (suc n) h = let w = leads-written columns (suc n) [] h (omega arith) in omega arith

-- what a numeral says
numeral_back : (z : ℤ) → InColumns z → signed_of (numeral_of z) ≡ Some z
unfolding signed_of numeral_of
numeral_back (pos n) h =
    let l = within-pos n h in
    let d = digits_to columns n [] in
    simp (ne_eqb (get_or d 0 0) minus (λ p. absurd (omega (arith, head-written n l))), digits-back n l)
numeral_back (negsuc n) h =
    let l = within-neg n h in
    simp (add-one n, digits-back (suc n) (omega arith), ne_eqb (suc n) 0 (λ p. absurd (omega arith)))

-- no numeral begins with a space
numeral_head : (z : ℤ) → InColumns z → get_or (numeral_of z) 0 0 ≡ space → ⊥
unfolding numeral_of
numeral_head (pos n) h p = absurd (omega (arith, head-written n (within-pos n h)))
numeral_head (negsuc n) h p = absurd (omega arith)

-- a field that was written is read as its number
pub read-written : (z : ℤ) → InColumns z → read_of (field_of z) ≡ Some z
unfolding field_of
read-written z h = spaced (columns - length (numeral_of z)) (numeral_of z) (numeral_head z h) ∙ numeral_back z h

-- ---- digits that were read

-- the last of several digits
step : (f n : ℕ) (acc : Bytes) → 10 ≤ n → digits_to (suc f) n acc ≡ digits_to f (n / 10) ((zero_digit + n % 10) ∷ acc)
unfolding digits_to
step f n acc h = rw (le-ltb n 10 h) refl

-- digits d after a number that is not 0 are written as they stand
written_after : (d : Bytes) (f a : ℕ) (acc : Bytes) → 1 ≤ a → all_digits d ≡ true → digits_to (f + length d) (value_of a d) acc ≡ digits_to f a (d ++ acc)
unfolding value_of all_digits
written_after [] f a acc h g = ap (λ (n : ℕ). digits_to n a acc) (omega arith)
written_after (b ∷ d) f a acc h g =
    let both = and_true (is_digit b) (all_digits d) g in
    let lo = leb-true zero_digit b (and_true (leb zero_digit b) (leb b nine_digit) both.0).0 in
    let hi = leb-true b nine_digit (and_true (leb zero_digit b) (leb b nine_digit) both.0).1 in
    let n = a * 10 + (b - zero_digit) in
    let e : f + suc (length d) ≡ suc f + length d = omega arith in
    let q : n / 10 ≡ a = omega arith in
    let r : zero_digit + n % 10 ≡ b = omega arith in
    ap (λ (m : ℕ). digits_to m (value_of n d) acc) e ∙ (written_after d (suc f) n acc (omega arith) both.1 ∙ step f n (d ++ acc) (omega arith) ∙ rw (q, r) refl)

-- the only digit
one-digit : (f a : ℕ) (acc : Bytes) → a < 10 → 1 ≤ f → digits_to f a acc ≡ (zero_digit + a) ∷ acc
unfolding digits_to
one-digit zero a acc h l = absurd (omega arith)
one-digit (suc f) a acc h l = rw (lt-ltb a 10 h) refl

-- what an answer says of the digits
pub value-of : (t : Bool) (v n : ℕ) → cond t (Some v) None ≡ Some n → (t ≡ true) × (v ≡ n)
value-of true v n e = (refl, cc)
value-of false v n e = let z : ◌≡◌ {A = ℕ} 0 1 = cc in absurd (omega arith)

-- the digit 0
zero-written : digits_to columns (value_of 0 []) [] ≡ zero_digit ∷ []
unfolding digits_to value_of
zero-written = refl

-- digits with no leading zero are written as they stand
whole : (d : Bytes) → length d ≤ columns → 0 < length d → no_leading_zero d ≡ true → all_digits d ≡ true → digits_to columns (value_of 0 d) [] ≡ d
unfolding value_of all_digits
whole [] h s l g = absurd (omega arith)
whole (b ∷ d) h s l g = by (eqb b zero_digit) refl
  where
    both : (is_digit b ≡ true) × (all_digits d ≡ true)
    both = and_true (is_digit b) (all_digits d) g

    lo : zero_digit ≤ b
    lo = leb-true zero_digit b (and_true (leb zero_digit b) (leb b nine_digit) both.0).0

    hi : b ≤ nine_digit
    hi = leb-true b nine_digit (and_true (leb zero_digit b) (leb b nine_digit) both.0).1

    by : (t : Bool) → eqb b zero_digit ≡ t → digits_to columns (value_of (0 * 10 + (b - zero_digit)) d) [] ≡ b ∷ d
    by true e =
        let p = eqb-true b zero_digit e in
        let one : eqb (suc (length d)) 1 ≡ true = simp e at l in
        let none : d ≡ [] = empty d (omega (arith, eqb-true (suc (length d)) 1 one)) in
        let z : 0 * 10 + (b - zero_digit) ≡ 0 = omega arith in
        rw (none, z, p) zero-written
    by false e =
        let p = eqb-false b zero_digit e in
        let a = 0 * 10 + (b - zero_digit) in
        let pos1 : 1 ≤ a = omega (arith, lt_of_le-ne lo (λ q. p (sym q)), lo) in
        let f : columns ≡ columns - length d + length d = omega arith in
        let back : zero_digit + a ≡ b = omega (arith, lo) in
        ap (λ (x : ℕ). digits_to x (value_of a d) []) f ∙ (written_after d (columns - length d) a [] pos1 both.1 ∙ (one-digit (columns - length d) a (d ++ []) (omega (arith, hi)) (omega arith) ∙ rw (back, append-nil d) refl))

-- digits that were read are written again
pub written_read : (d : Bytes) (n : ℕ) → length d ≤ columns → digits_of d ≡ Some n → digits_to columns n [] ≡ d
unfolding digits_of
written_read d n h e =
    let k = value-of ((ltb 0 (length d) && no_leading_zero d) && all_digits d) (value_of 0 d) n e in
    let a = and_true (ltb 0 (length d) && no_leading_zero d) (all_digits d) k.0 in
    let m = and_true (ltb 0 (length d)) (no_leading_zero d) a.0 in
    ap (λ (x : ℕ). digits_to columns x []) (sym k.1) ∙ whole d h (ltb-true 0 (length d) m.0) m.1 a.1

-- ---- spaces before a field that was read

-- bytes are their first spaces, and the others
pub blanks_split : (l : Bytes) → l ≡ replicate (blanks_of l) space ++ drop (blanks_of l) l
unfolding blanks_of
blanks_split [] = refl
blanks_split (b ∷ l) = by (eqb b space) refl (blanks_split l)
  where
    by : (t : Bool) → eqb b space ≡ t → l ≡ replicate (blanks_of l) space ++ drop (blanks_of l) l → b ∷ l ≡ replicate (cond t (blanks_of l + 1) 0) space ++ drop (cond t (blanks_of l + 1) 0) (b ∷ l)
    by true e h = rw (add-one (blanks_of l), eqb-true b space e) (ap (λ (x : Bytes). space ∷ x) h)
    by false e h = refl

-- bytes by the first of them
pub head_tail : (t : Bytes) (b : ℕ) → 0 < b → get_or t 0 0 ≡ b → t ≡ b ∷ drop 1 t
head_tail [] b h e = absurd (omega arith)
head_tail (x ∷ t) b h e = ap (λ (y : ℕ). y ∷ t) e
