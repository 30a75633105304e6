-- What is shown of the printed list of Gray codes: a law is one test that is computed over the whole list, and one lemma that
-- reads the test at any part. Assumes nothing.
use borrow.Author.Tests.{ne_eqb, eqb-true, eqb-false, not-true, not-false}
use mathlib.Core.Path.{◌≡◌, refl, sym, ◌∙◌}
use mathlib.Core.Logic.{⊎_elim}
use mathlib.Core.Bool.{Bool, true, false, not, ◌&&◌}
use Prim.Native.Nat.{ℕ, suc, ◌-◌, ◌^◌, ◌<◌, ◌≤◌}
use native.Mathlib.Nat as NatL
use native.Mathlib.Omega.{arith}
use lib.Dec.{eqb}
use lib.ListN.{length}
use lib.Pow.{pow_mono}
use Rattle.integers.specs.Lists.{any, repeats, tab}
use Rattle.integers.proofs.Lists.{clash, split, and_left, and_right, below_or_not, any-tab-each, any-tab-some, repeats-tab-each}
use Rattle.nest.specs.Nest.{max_cube}
use Rattle.mapping.specs.Mapping.{gray}
use Rattle.mapping.specs.GrayCodes.{gray_codes, code_for, bit_of, OneBitApart, ReadOff}
use Rattle.mapping.proofs.Codes.{gray-below}

abbrev itself : ℕ → ℕ
itself k = k

-- ---- the lemmas

-- a test that fails at none of the first n numbers
at_each : (t : ℕ → Bool) (n : ℕ) → any (λ k. not (t k)) (tab itself n) ≡ false → (p : ℕ) → p < n → t p ≡ true
at_each t n h p l = not-false (t p) (any-tab-each (λ k. not (t k)) itself n p h l)

-- a table in which no two entries are the same
no_two : (f : ℕ → ℕ) (n : ℕ) → repeats eqb (tab f n) ≡ false → (p q : ℕ) → p < n → q < n → f p ≡ f q → p ≡ q
no_two f n h p q lp lq e = NatL.le_antisymm (not_after p q lp e) (not_after q p lq (sym e))
  where
    not_after : (i j : ℕ) → i < n → f i ≡ f j → i ≤ j
    not_after i j l e =
        ⊎_elim (λ (b : j < i). absurd (eqb-false (f j) (f i) (repeats-tab-each eqb f n j i h b l) (sym e))) (λ (b : i ≤ j). b) (below_or_not j i)

-- numbers below 2^n have no bit from n up
no_bit : (n k a : ℕ) → a < 2 ^ n → n ≤ k → bit_of k a ≡ 0
unfolding bit_of
no_bit n k a h l = rw (NatL.div-eq_of_lt (NatL.lt_of_lt_of_le h (pow_mono {i = n} {j = k} l))) refl

-- the bits k of two numbers differ
abbrev differs : ℕ → ℕ → ℕ → Bool
differs a b k = not (eqb (bit_of k a) (bit_of k b))

-- they differ at a bit other than j
abbrev elsewhere : ℕ → ℕ → ℕ → ℕ → Bool
elsewhere a b j k = differs a b k && not (eqb k j)

-- of the lowest n bits they differ at bit j, and at no other
abbrev only_at : ℕ → ℕ → ℕ → ℕ → Bool
only_at n a b j = differs a b j && not (any (elsewhere a b j) (tab itself n))

abbrev one_bit : ℕ → ℕ → ℕ → Bool
one_bit n a b = any (only_at n a b) (tab itself n)

-- so numbers below 2^n that pass the test differ in exactly one bit
one_bit_lem : (n a b : ℕ) → a < 2 ^ n → b < 2 ^ n → one_bit n a b ≡ true → OneBitApart a b
one_bit_lem n a b ha hb h =
    let w = any-tab-some (only_at n a b) itself n h in
    let j = w.0 in
    let more = any (elsewhere a b j) (tab itself n) in
    let none : more ≡ false = not-true more (and_right (differs a b j) (not more) w.2) in
    record {
      bit = j;
      differ = eqb-false (bit_of j a) (bit_of j b) (not-true (eqb (bit_of j a) (bit_of j b)) (and_left (differs a b j) (not more) w.2));
      only = λ k other. ⊎_elim (λ (l : k < n). below k j other (any-tab-each (elsewhere a b j) itself n k none l))
          (λ (l : n ≤ k). no_bit n k a ha l ∙ sym (no_bit n k b hb l)) (below_or_not k n);
    }
  where
    below : (k j : ℕ) → (k ≡ j → ⊥) → elsewhere a b j k ≡ false → bit_of k a ≡ bit_of k b
    below k j other h =
        eqb-true (bit_of k a) (bit_of k b) (split (eqb (bit_of k a) (bit_of k b)) (λ y. y) (λ e. clash refl (rw (e, ne_eqb k j other) at h)))

-- ---- the tests, computed over the whole list

length_is : length gray_codes ≡ 2 ^ max_cube
unfolding gray_codes
length_is = refl

gray-at-each : any (λ p. not (eqb (code_for gray_codes p) (gray p))) (tab itself (length gray_codes)) ≡ false
unfolding any tab gray gray_codes
gray-at-each = refl

none_twice : repeats eqb (tab (code_for gray_codes) (length gray_codes)) ≡ false
unfolding any repeats tab gray_codes
none_twice = refl

one-bit-at-each : any (λ p. not (one_bit max_cube (code_for gray_codes p) (code_for gray_codes (suc p)))) (tab itself (length gray_codes - 1)) ≡ false
unfolding any tab bit_of gray_codes
one-bit-at-each = refl

-- ---- the laws

each-gray : (p : ℕ) → p < length gray_codes → code_for gray_codes p ≡ gray p
each-gray p h = eqb-true (code_for gray_codes p) (gray p) (at_each (λ k. eqb (code_for gray_codes k) (gray k)) (length gray_codes) gray-at-each p h)

codes_below : (p : ℕ) → p < length gray_codes → code_for gray_codes p < 2 ^ max_cube
codes_below p h = rw (each-gray p h) (gray-below p max_cube (rw length_is at h))

pub read_off : ReadOff gray_codes
read_off =
    record {
      parts = length_is;
      each = each-gray;
      once = no_two (code_for gray_codes) (length gray_codes) none_twice;
      neighbours = λ p h.
          one_bit_lem max_cube (code_for gray_codes p) (code_for gray_codes (suc p)) (codes_below p (omega arith)) (codes_below (suc p) h)
          (at_each (λ k. one_bit max_cube (code_for gray_codes k) (code_for gray_codes (suc k))) (length gray_codes - 1) one-bit-at-each p (omega arith));
    }
