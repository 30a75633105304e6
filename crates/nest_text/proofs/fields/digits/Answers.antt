-- `digits` meets its contract. Assumes nothing.
use mathlib.Core.Path.{◌≡◌, sym, ◌∙◌}
use mathlib.Core.Bool.{true, false, ◌&&◌, cond}
use Prim.Native.Nat.{ℕ, ◌≤◌, ◌<◌, ◌-◌, ◌^◌}
use native.Mathlib.Omega.{arith}
use native.Mathlib.Nat.{lt_of_lt_of_le, pow-le-pow_right}
use lib.Dec.{leb, ltb, lit<}
use lib.ListN.{length, drop, get_or}
use Rattle.std.proofs.Common.{Some, None}
use borrow.Author.Tests.{leb-true}
use Rattle.integers.proofs.Lists.{split, and_true}
use Rattle.nest_text.specs.Fields.{Bytes, zero_digit, nine_digit, is_digit, all_digits, value_of, no_leading_zero, digits_of}
use Rattle.nest_text.proofs.FieldLaws.{digits_more, value-more, digits_end, value_end, pow_add-one}
use Rattle.nest_text.proofs.fields.digits.Goals as goal

pub returns-then-not-well_led : goal.returns-then-not-well_led
unfolding digits_of
returns-then-not-well_led c = simp (sym c.well_led.ensures ∙ c.if-not-well_led.true)

-- a byte that says no digit, and one that says the digit n
no_digit : (b : ℕ) → None ≡ cond (is_digit b) (Some (b - zero_digit)) None → is_digit b ≡ false
no_digit b e = split (is_digit b) (λ t. let q : None ≡ Some (b - zero_digit) = rw t at e in cc) (λ f. f)

record Digit (b n : ℕ) : Type 0 where
  is : is_digit b ≡ true
  by_byte : n ≡ b - zero_digit
  at_most : n ≤ 9

some_digit : (b n : ℕ) → Some n ≡ cond (is_digit b) (Some (b - zero_digit)) None → Digit b n
some_digit b n e = split (is_digit b)
    (λ t.
    let q : Some n ≡ Some (b - zero_digit) = rw t at e in
    let v : n ≡ b - zero_digit = cc in
    record { is = t; by_byte = v; at_most = omega (arith, v, leb-true b nine_digit (and_true (leb zero_digit b) (leb b nine_digit) t).1) })
    (λ f. let q : Some n ≡ None = rw f at e in cc)

-- a byte that is no digit, behind k that are read
no_digits : (bs : Bytes) (k : ℕ) → all_digits bs ≡ all_digits (drop k bs) → k < length bs
    → (ltb 0 (length bs) && no_leading_zero bs) ≡ true → is_digit (get_or bs k 0) ≡ false → digits_of bs ≡ None
unfolding digits_of
no_digits bs k all h led e =
    let none : all_digits bs ≡ false = all ∙ (digits_more bs k h ∙ simp e) in
    simp (led, none)

pub returns-in_err-value : goal.returns-in_err-value
returns-in_err-value c =
    let bs = c.args.d.now in
    let k = c.loop-b.b-index in
    c.from_residual.ensures ∙ sym (no_digits bs k c.loop-b.invariant.form c.loop-b-test.true
    (sym c.well_led.ensures ∙ c.if-not-well_led.false) (no_digit (get_or bs k 0) c.in_err-value.ensures))

-- the value of at most five digits
small : (value k : ℕ) → value < 10 ^ k → k ≤ 5 → value < 100000
small value k h le = lt_of_lt_of_le h (pow-le-pow_right {n = 10} (lit< tt) {j = 5} le)

pub loop-b-preserved : goal.loop-b-preserved
loop-b-preserved c =
    let l = c.loop-b in
    let bs = c.args.d.now in
    let n = c.in_ok-value.field-0 in
    let d = some_digit (get_or bs l.b-index 0) n c.in_ok-value.ensures in
    record {
      form = l.invariant.form ∙ (digits_more bs l.b-index c.loop-b-test.true ∙ simp d.is);
      said = l.invariant.said ∙ (value-more bs l.b-index c.loop-b-test.true l.value ∙ simp d.by_byte);
      small = rw (pow_add-one 10 l.b-index) (omega (arith, d.at_most, l.invariant.small));
    }

pub returns : goal.returns
unfolding digits_of
returns c =
    let l = c.loop-b in
    let bs = c.args.d.now in
    let e : l.b-index ≡ length bs = omega arith in
    let led : (ltb 0 (length bs) && no_leading_zero bs) ≡ true = sym c.well_led.ensures ∙ c.if-not-well_led.false in
    let all : all_digits bs ≡ true = l.invariant.form ∙ (rw e (digits_end bs)) in
    let v : value_of 0 bs ≡ l.value = l.invariant.said ∙ (rw e (value_end bs l.value)) in
    simp (led, all, v)
