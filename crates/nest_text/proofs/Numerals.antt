-- A number in columns: what is read of bytes is the number that they say in the document's words,
-- and six bytes say a number exactly if they are the number's field.
-- Assumes nothing.
use mathlib.Core.Path.{◌≡◌, refl, sym, ap, ap₂, subst, ◌∙◌}
use mathlib.Core.Bool.{Bool, true, false, ◌&&◌, cond}
use mathlib.Core.Logic.{◌↔◌}
use mathlib.Core.List.{List, [], ◌∷◌, ◌++◌}
use Prim.Native.Nat.{ℕ, zero, suc, ◌+◌, ◌*◌, ◌-◌, ◌≤◌, ◌<◌, ◌^◌}
use native.Mathlib.Nat.{add-mul, mul_assoc, pow-succ', pow-le-pow_right, mul-le-mul_right}
use native.Mathlib.Numerals.{add-one}
use native.Mathlib.Omega.{arith}
use borrow.Author.Tests.{eq-eqb, ne_eqb, eqb-true, lt-ltb, ltb-true, le-leb, leb-true}
use lib.Dec.{eqb, leb, ltb}
use lib.IntN.{ℤ, pos, negsuc, neg_ℤ}
use lib.ListN.{length, get_or, drop, replicate, length-append, length-replicate, length-map}
use Rattle.integers.proofs.Lists.{and_true, split}
use Rattle.std.proofs.Common.{Option, Some, None}
use Rattle.nest_text.specs.Fields.{columns, space, minus, zero_digit, nine_digit, Bytes, blanks_of, is_digit}
use Rattle.nest_text.specs.Fields.{all_digits, value_of, no_leading_zero, digits_of, plain, negative, signed_of, read_of}
use Rattle.nest_text.specs.Fields.{digits_to, numeral_of, field_of}
use Rattle.nest_text.specs.Form.{EachDigit, Decimal, decimal, digit_bytes, Numeral, digits_alone, minus_digits}
use Rattle.nest_text.specs.Stored.{InColumns}
use Rattle.nest_text.proofs.FieldBack.{digit-is, value-of, spaced, blanks_split, head_tail, read-written}
use Rattle.nest_text.proofs.FieldBack.{written_read}

-- ---- digits and their bytes

-- a digit's byte less that of 0
byte_back : (d : ℕ) → zero_digit + d - zero_digit ≡ d
byte_back d = omega arith

-- ten times a number, and a digit, before k more digits
shifted : (a d p : ℕ) → (a * 10 + d) * p ≡ a * (10 * p) + d * p
shifted a d p = add-mul (a * 10) d p ∙ ap (λ x. x + d * p) (mul_assoc a 10 p)

-- the number is that of the powers of ten
value-decimal : (ds : List ℕ) (a : ℕ) → value_of a (digit_bytes ds) ≡ a * 10 ^ length ds + decimal ds
unfolding value_of decimal
value-decimal [] a = omega arith
value-decimal (d ∷ ds) a =
    let p = 10 ^ length ds in
    ap (λ (x : ℕ). value_of (a * 10 + x) (digit_bytes ds)) (byte_back d) ∙ value-decimal ds (a * 10 + d) ∙ ap (λ x. x + decimal ds) (shifted a d p ∙ ap (λ x. a * x + d * p) (sym (pow-succ' 10 (length ds)))) ∙ omega arith

-- and below the next power of ten
decimal-below : (ds : List ℕ) → EachDigit ds → decimal ds < 10 ^ length ds
unfolding decimal
decimal-below [] h = omega arith
decimal-below (d ∷ ds) h =
    let ih = decimal-below ds h.1 in
    let l = h.0 in
    let most : d * 10 ^ length ds ≤ 9 * 10 ^ length ds = mul-le-mul_right (10 ^ length ds) (omega arith) in
    omega (arith, pow-succ' 10 (length ds), most, ih)

-- the bytes of digits are digits
bytes-digits : (ds : List ℕ) → EachDigit ds → all_digits (digit_bytes ds) ≡ true
unfolding all_digits
bytes-digits [] h = refl
bytes-digits (d ∷ ds) h = simp (digit-is d h.0, bytes-digits ds h.1)

-- bytes that are digits, as digits
digits-bytes : (l : Bytes) → all_digits l ≡ true → (ds : List ℕ) × EachDigit ds × (l ≡ digit_bytes ds)
unfolding all_digits
digits-bytes [] h = ([], tt, refl)
digits-bytes (b ∷ l) h =
    let a = and_true (is_digit b) (all_digits l) h in
    let c = and_true (leb zero_digit b) (leb b nine_digit) a.0 in
    let low = leb-true zero_digit b c.0 in
    let high = leb-true b nine_digit c.1 in
    let r = digits-bytes l a.1 in
    let back : b ≡ zero_digit + (b - zero_digit) = omega arith in
    ((b - zero_digit) ∷ r.0, (omega arith, r.1), ap₂ (λ (x : ℕ) (y : Bytes). x ∷ y) back r.2)

-- the first byte of digits
first_byte : (ds : List ℕ) → 0 < length ds → get_or (digit_bytes ds) 0 0 ≡ zero_digit + get_or ds 0 0
first_byte [] h = absurd (omega arith)
first_byte (d ∷ ds) h = refl

-- no leading zero, as the test has it
led : (ds : List ℕ) → Decimal ds → no_leading_zero (digit_bytes ds) ≡ true
led ds h = split (eqb (get_or (digit_bytes ds) 0 0) zero_digit)
    (λ t.
    let z : get_or ds 0 0 ≡ 0 = omega (arith, eqb-true (get_or (digit_bytes ds) 0 0) zero_digit t, first_byte ds h.some_digit) in
    ap (λ b. cond b (eqb (length (digit_bytes ds)) 1) true) t ∙ eq-eqb (length (digit_bytes ds)) 1 (length-map ds (λ d. zero_digit + d) ∙ h.no_leading_zero_is z))
    (λ f. ap (λ b. cond b (eqb (length (digit_bytes ds)) 1) true) f)

-- the test, in words
led_back : (ds : List ℕ) → 0 < length ds → no_leading_zero (digit_bytes ds) ≡ true → get_or ds 0 0 ≡ 0 → length ds ≡ 1
led_back ds s h z =
    let first : get_or (digit_bytes ds) 0 0 ≡ zero_digit = omega (arith, first_byte ds s) in
    let one : eqb (length (digit_bytes ds)) 1 ≡ true = ap (λ b. cond b (eqb (length (digit_bytes ds)) 1) true) (sym (eq-eqb (get_or (digit_bytes ds) 0 0) zero_digit first)) ∙ h in
    sym (length-map ds (λ d. zero_digit + d)) ∙ eqb-true (length (digit_bytes ds)) 1 one

-- digits are read as the number that they say
digits-read : (ds : List ℕ) → Decimal ds → digits_of (digit_bytes ds) ≡ Some (decimal ds)
unfolding digits_of
digits-read ds h =
    let l = digit_bytes ds in
    let some : 0 < length l = subst (λ n. 0 < n) (sym (length-map ds (λ d. zero_digit + d))) h.some_digit in
    let value : value_of 0 l ≡ decimal ds = value-decimal ds 0 ∙ omega arith in
    ap₂ (λ b (n : ℕ). cond b (Some n) None) (ap₂ (λ a b. a && b) (ap₂ (λ a b. a && b) (lt-ltb 0 (length l) some) (led ds h)) (bytes-digits ds h.each_digit)) value

-- what is read as a number has digits that say it
read-digits : (l : Bytes) (n : ℕ) → digits_of l ≡ Some n → (ds : List ℕ) × Decimal ds × (l ≡ digit_bytes ds) × (decimal ds ≡ n)
unfolding digits_of
read-digits l n e =
    let k = value-of ((ltb 0 (length l) && no_leading_zero l) && all_digits l) (value_of 0 l) n e in
    let a = and_true (ltb 0 (length l) && no_leading_zero l) (all_digits l) k.0 in
    let b = and_true (ltb 0 (length l)) (no_leading_zero l) a.0 in
    let r = digits-bytes l a.1 in
    let ds = r.0 in
    let some : 0 < length ds = subst (λ n. 0 < n) (ap length r.2 ∙ length-map ds (λ d. zero_digit + d)) (ltb-true 0 (length l) b.0) in
    let value : value_of 0 (digit_bytes ds) ≡ decimal ds = value-decimal ds 0 ∙ omega arith in (
      ds,
      record { some_digit = some; each_digit = r.1; no_leading_zero_is = led_back ds some (ap no_leading_zero (sym r.2) ∙ b.1) },
      r.2,
      sym value ∙ ap (value_of 0) (sym r.2) ∙ k.1,
    )

-- ---- spaces, an optional minus, digits

-- digits do not begin with a minus or a space
first-digit : (ds : List ℕ) → Decimal ds → zero_digit ≤ get_or (digit_bytes ds) 0 0
first-digit ds h = omega (arith, first_byte ds h.some_digit)

-- digits alone
alone_read : (ds : List ℕ) → Decimal ds → signed_of (digit_bytes ds) ≡ Some (pos (decimal ds))
unfolding signed_of
alone_read ds h =
    let l = digit_bytes ds in
    let no_minus = ne_eqb (get_or l 0 0) minus (λ p. absurd (omega (arith, first-digit ds h))) in
    ap₂ (λ b r. cond b (negative (digits_of (drop 1 l))) (plain r)) no_minus (digits-read ds h)

-- a minus before them
minus-read : (ds : List ℕ) → Decimal ds → 0 < decimal ds → signed_of (minus ∷ digit_bytes ds) ≡ Some (neg_ℤ (pos (decimal ds)))
unfolding signed_of
minus-read ds h p =
    ap negative (digits-read ds h) ∙ ap (λ b. cond b None (Some (neg_ℤ (pos (decimal ds))))) (ne_eqb (decimal ds) 0 (λ q. absurd (omega arith)))

-- what the words say is read
words_read : (l : Bytes) (z : ℤ) → Numeral l z → read_of l ≡ Some z
words_read l z (digits_alone k ds h e) = ap read_of e ∙ spaced k (digit_bytes ds) (λ p. absurd (omega (arith, first-digit ds h))) ∙ alone_read ds h
words_read l z (minus_digits k ds h p e) = ap read_of e ∙ spaced k (minus ∷ digit_bytes ds) (λ q. absurd (omega arith)) ∙ minus-read ds h p

module _ (l t : Bytes) (k : ℕ) (e : l ≡ replicate k space ++ t) where
  -- a plain number after spaces
  plain_words : (r : Option ℕ) (z : ℤ) → digits_of t ≡ r → plain r ≡ Some z → Numeral l z
  plain_words (Some n) z d f =
      let w = read-digits t n d in
      let q : pos n ≡ z = cc in
      subst (Numeral l) (ap pos w.3 ∙ q) (digits_alone k w.0 w.1 (e ∙ ap (λ (x : Bytes). replicate k space ++ x) w.2))
  plain_words None z d f = let q : ◌≡◌ {A = ℕ} 0 1 = cc in absurd (omega arith)

  -- one with a minus
  minus_words : (r : Option ℕ) (z : ℤ) → get_or t 0 0 ≡ minus → digits_of (drop 1 t) ≡ r → negative r ≡ Some z → Numeral l z
  minus_words (Some zero) z m d f = let q : ◌≡◌ {A = ℕ} 0 1 = cc in absurd (omega arith)
  minus_words (Some (suc n)) z m d f =
      let g : Some (negsuc n) ≡ Some z = simp (ne_eqb (suc n) 0 (λ p. absurd (omega arith))) at f in
      let q : negsuc n ≡ z = cc in
      let w = read-digits (drop 1 t) (suc n) d in
      let some : 0 < decimal w.0 = omega (arith, w.3) in
      subst (Numeral l) (ap (λ x. neg_ℤ (pos x)) w.3 ∙ q)
      (minus_digits k w.0 w.1 some (e ∙ ap (λ (x : Bytes). replicate k space ++ x) (head_tail t minus (omega arith) m ∙ ap (λ (x : Bytes). minus ∷ x) w.2)))
  minus_words None z m d f = let q : ◌≡◌ {A = ℕ} 0 1 = cc in absurd (omega arith)

-- what is read, the words say
read_words : (l : Bytes) (z : ℤ) → read_of l ≡ Some z → Numeral l z
unfolding read_of signed_of
read_words l z e = by (eqb (get_or t 0 0) minus) refl e
  where
    t : Bytes
    t = drop (blanks_of l) l

    by : (b : Bool) → eqb (get_or t 0 0) minus ≡ b → cond b (negative (digits_of (drop 1 t))) (plain (digits_of t)) ≡ Some z → Numeral l z
    by true m g = minus_words l t (blanks_of l) (blanks_split l) (digits_of (drop 1 t)) z (eqb-true (get_or t 0 0) minus m) refl g
    by false m g = plain_words l t (blanks_of l) (blanks_split l) (digits_of t) z refl g

-- bytes are read as a number exactly if they say it in the document's words
pub numeral_iff : (l : Bytes) (z : ℤ) → (read_of l ≡ Some z) ↔ Numeral l z
numeral_iff l z = (read_words l z, words_read l z)

-- ---- six columns

-- a number of at most k digits
few-digits : (ds : List ℕ) (k : ℕ) → Decimal ds → length ds ≤ k → decimal ds < 10 ^ k
few-digits ds k h l =
    let p : 10 ^ length ds ≤ 10 ^ k = pow-le-pow_right (omega arith) l in
    omega (arith, decimal-below ds h.each_digit, p)

-- minus a number of at most five digits
minus-columns : (n : ℕ) → 0 < n → n < 100000 → InColumns (neg_ℤ (pos n))
minus-columns zero h l = absurd (omega arith)
minus-columns (suc n) h l = ap (λ b. b && true) (le-leb n 99998 (omega arith))

-- the text of a number with a minus
minus-text : (n : ℕ) → 0 < n → numeral_of (neg_ℤ (pos n)) ≡ minus ∷ digits_to columns n []
unfolding numeral_of
minus-text zero h = absurd (omega arith)
minus-text (suc n) h = ap (λ k. minus ∷ digits_to columns k []) (add-one n)

-- the places of k spaces and a text
places : {l : Bytes} (k : ℕ) (t : Bytes) → length l ≡ columns → l ≡ replicate k space ++ t → k + length t ≡ columns
places k t h e = ap (λ n. n + length t) (sym (length-replicate k space)) ∙ sym (length-append (replicate k space) t) ∙ sym (ap length e) ∙ h

-- they are the field of a number with that text
columns_of : {l : Bytes} (k : ℕ) (t : Bytes) (z : ℤ) → length l ≡ columns → l ≡ replicate k space ++ t → numeral_of z ≡ t → l ≡ field_of z
unfolding field_of
columns_of k t z h e q =
    let r : k ≡ columns - length t = omega (arith, places k t h e) in
    e ∙ ap₂ (λ (n : ℕ) (x : Bytes). replicate n space ++ x) (r ∙ ap (λ (x : Bytes). columns - length x) (sym q)) (sym q)

-- six bytes that say a number: it is from -99999 to 999999, and they are its field
six_columns : (l : Bytes) (z : ℤ) → length l ≡ columns → Numeral l z → InColumns z × (l ≡ field_of z)
six_columns l z h (digits_alone k ds d e) =
    let p = places k (digit_bytes ds) h e in
    let f = few-digits ds columns d (omega (arith, length-map ds (λ d. zero_digit + d))) in (
      le-leb (decimal ds) 999999 (omega arith),
      columns_of k (digit_bytes ds) (pos (decimal ds)) h e (unfold numeral_of in written_read (digit_bytes ds) (decimal ds) (omega arith) (digits-read ds d)),
    )
six_columns l z h (minus_digits k ds d some e) =
    let p = places k (minus ∷ digit_bytes ds) h e in
    let f = few-digits ds 5 d (omega (arith, length-map ds (λ d. zero_digit + d))) in (
      minus-columns (decimal ds) some (omega arith),
      columns_of k (minus ∷ digit_bytes ds) (neg_ℤ (pos (decimal ds))) h e
          (minus-text (decimal ds) some ∙ ap (λ (x : Bytes). minus ∷ x) (written_read (digit_bytes ds) (decimal ds) (omega arith) (digits-read ds d))),
    )

-- six bytes are read as a number exactly if it is from -99999 to 999999 and they are its field
pub field_iff : (l : Bytes) (z : ℤ) → length l ≡ columns → (read_of l ≡ Some z) ↔ (InColumns z × (l ≡ field_of z))
field_iff l z h = (λ e. six_columns l z h (read_words l z e), λ w. ap read_of w.1 ∙ read-written z w.0)

-- so in the document's words: the field of a number is the six bytes that say it
pub field_words : (l : Bytes) (z : ℤ) → length l ≡ columns → Numeral l z ↔ (InColumns z × (l ≡ field_of z))
field_words l z h = (six_columns l z h, λ w. read_words l z ((field_iff l z h).1 w))
