-- Laws of the general definitions that the run uses: tests, sums and counts, tests below a bound, the least number, bytes made of bits.
-- Assumes nothing.
use mathlib.Core.Path.{◌≡◌, refl, sym, ap, ap₂, subst, ◌∙◌}
use mathlib.Core.Bool.{Bool, true, false, ◌&&◌, ◌||◌}
use mathlib.Core.Logic.{◌≢◌, ⊎_elim, ◌↔◌}
use mathlib.Core.Option.{Option, none, some}
use Prim.Native.Nat.{ℕ, zero, suc, ◌+◌, ◌*◌, ◌/◌, ◌%◌, ◌^◌, ◌≤◌, ◌<◌}
use native.Mathlib.Nat.{le_trans, not-suc-le-zero, pow-succ', div-div-eq-div-mul, div-eq_of_lt}
use native.Mathlib.Numerals.{add-one}
use native.Mathlib.Omega.{arith}
use lib.Dec.{ltb, eqb}
use lib.Pow.{pow_mono}
use borrow.Author.Tests.{ltb-true, ltb-false, eqb-true, eqb-false}
use Rattle.integers.specs.Lists.{tab, total, one_if}
use Rattle.integers.proofs.Lists.{tab-same, split, clash, and_left, and_right, or_true}
use Rattle.integers.proofs.Sums.{one_yes, one_no, count-tab-more, count_none, total-tab-more, total-none, count-total}
use Rattle.execution.specs.Rules.{every, better, least}
use Rattle.execution.specs.Machine.{count_below}
use Rattle.execution.specs.Run.{bit}

-- ---- tests

-- two numbers are equal or not
pub eq? : {C : Type 0} (a b : ℕ) → (a ≡ b → C) → (a ≢ b → C) → C
eq? a b f g = split (eqb a b) (λ e. f (eqb-true a b e)) (λ e. g (eqb-false a b e))

-- there is a number or not
pub opt : {C : Type 0} (o : Option ℕ) → (o ≡ none → C) → ((a : ℕ) → o ≡ some a → C) → C
opt none f g = f refl
opt (some a) f g = g a refl

-- both pass
pub both : {a b : Bool} → a ≡ true → b ≡ true → (a && b) ≡ true
both p q = rw (p, q) refl

-- one of two passes
pub or_cases : {C : Type 0} (a b : Bool) → (a || b) ≡ true → (a ≡ true → C) → (b ≡ true → C) → C
or_cases a b e f g = ⊎_elim f g (or_true a b e)

-- two equalities
pub and-eqb : (a b c d : ℕ) → (eqb a b && eqb c d) ≡ true → (a ≡ b) × (c ≡ d)
and-eqb a b c d e = (eqb-true a b (and_left (eqb a b) (eqb c d) e), eqb-true c d (and_right (eqb a b) (eqb c d) e))

-- ---- sums of f 0, f 1, ..

-- one summand more
pub sum-suc : (f : ℕ → ℕ) (n : ℕ) → total (tab f (suc n)) ≡ total (tab f n) + f n
sum-suc f n = rw add-one at (total-tab-more f n)

-- equal summands
pub sum_same : (f g : ℕ → ℕ) (n : ℕ) → ((k : ℕ) → k < n → f k ≡ g k) → total (tab f n) ≡ total (tab g n)
sum_same f g n h = ap total (tab-same f g n h)

-- one summand is more by 1, the others are as they were
pub sum_more : (f g : ℕ → ℕ) (n k : ℕ) → k < n → g k ≡ suc (f k) → ((j : ℕ) → j ≢ k → g j ≡ f j) → total (tab g n) ≡ suc (total (tab f n))
sum_more f g zero k l e h = absurd (not-suc-le-zero l)
sum_more f g (suc n) k l e h = eq? n k
    (λ q. omega (arith, sum-suc f n, sum-suc g n, sum_same g f n (λ j m. h j (omega arith)), ap g q, ap f q))
    (λ q. omega (arith, sum-suc f n, sum-suc g n, sum_more f g n k (omega arith) e h, h n q))

-- all summands are 0
pub sum-zero : (f : ℕ → ℕ) (n : ℕ) → ((k : ℕ) → k < n → f k ≡ 0) → total (tab f n) ≡ 0
sum-zero f zero h = total-none f
sum-zero f (suc n) h = omega (arith, sum-suc f n, sum-zero f n (λ k l. h k (omega arith)), h n (omega arith))

-- ---- how many of the numbers below n pass

-- one number more
pub count-suc : (t : ℕ → Bool) (n : ℕ) → count_below t (suc n) ≡ count_below t n + one_if (t n)
count-suc t n = rw add-one at (count-tab-more t (λ k. k) n)

-- equal tests
pub count_same : (t u : ℕ → Bool) (n : ℕ) → ((k : ℕ) → k < n → t k ≡ u k) → count_below t n ≡ count_below u n
count_same t u n h = count-total t n ∙ sum_same (λ k. one_if (t k)) (λ k. one_if (u k)) n (λ k l. ap one_if (h k l)) ∙ sym (count-total u n)

-- one more passes
pub count-more : (t u : ℕ → Bool) (n k : ℕ) → k < n → t k ≡ false → u k ≡ true → ((j : ℕ) → j ≢ k → u j ≡ t j) → count_below u n ≡ suc (count_below t n)
count-more t u n k l a b h =
    let m = sum_more (λ j. one_if (t j)) (λ j. one_if (u j)) n k l (omega (arith, one_no (t k) a, one_yes (u k) b)) (λ j q. ap one_if (h j q)) in
    omega (arith, count-total t n, count-total u n, m)

-- all pass
pub count-all : (t : ℕ → Bool) (n : ℕ) → ((k : ℕ) → k < n → t k ≡ true) → count_below t n ≡ n
count-all t zero h = count_none t (λ k. k)
count-all t (suc n) h = omega (arith, count-suc t n, count-all t n (λ k l. h k (omega arith)), one_yes (t n) (h n (omega arith)))

-- none does
pub count-zero : (t : ℕ → Bool) (n : ℕ) → ((k : ℕ) → k < n → t k ≡ false) → count_below t n ≡ 0
count-zero t zero h = count_none t (λ k. k)
count-zero t (suc n) h = omega (arith, count-suc t n, count-zero t n (λ k l. h k (omega arith)), one_no (t n) (h n (omega arith)))

-- ---- tests of every number below a bound

-- where every one passes, each does
pub every_true : (t : ℕ → Bool) (n : ℕ) → every t n ≡ true → (i : ℕ) → i < n → t i ≡ true
unfolding every
every_true t zero e i l = absurd (not-suc-le-zero l)
every_true t (suc n) e i l = eq? i n
    (λ q. rw q (and_right (every t n) (t n) e))
    (λ q. every_true t n (and_left (every t n) (t n) e) i (omega arith))

-- else some one does not
pub every_false : (t : ℕ → Bool) (n : ℕ) → every t n ≡ false → (i : ℕ) × (i < n) × (t i ≡ false)
unfolding every
every_false t zero e = clash refl e
every_false t (suc n) e = split (every t n)
    (λ a. (n, omega arith, rw a at e))
    (λ a. let r = every_false t n a in (r.0, omega (arith, r.1), r.2))

-- where each passes, every one does
pub every_intro : (t : ℕ → Bool) (n : ℕ) → ((i : ℕ) → i < n → t i ≡ true) → every t n ≡ true
every_intro t n h = split (every t n) (λ e. e) (λ e. let f = every_false t n e in clash (h f.0 f.1) f.2)

-- where one does not, not every one does
pub every_refute : (t : ℕ → Bool) (n i : ℕ) → i < n → t i ≡ false → every t n ≡ false
every_refute t n i l h = split (every t n) (λ e. clash (every_true t n e i l) h) (λ e. e)

-- equal tests
pub every-same : (t u : ℕ → Bool) (n : ℕ) → ((i : ℕ) → i < n → t i ≡ u i) → every t n ≡ every u n
unfolding every
every-same t u zero h = refl
every-same t u (suc n) h = ap₂ ◌&&◌ (every-same t u n (λ i l. h i (omega arith))) (h n (omega arith))

-- ---- the least

-- k is below the bound and passes, no other that passes has a lesser key, and it is the first with its key
pub record Least (test : ℕ → Bool) (key : ℕ → ℕ) (n k : ℕ) : Type 0 where
  pub below : k < n
  pub passes : test k ≡ true
  pub lowest : (j : ℕ) → j < n → test j ≡ true → key k ≤ key j
  pub first : (j : ℕ) → j < n → test j ≡ true → key j ≤ key k → k ≤ j

-- what the search answers
abbrev Find : (ℕ → Bool) → (ℕ → ℕ) → ℕ → Option ℕ → Type 0
Find test key n none = (j : ℕ) → j < n → test j ≡ false
Find test key n (some k) = Least test key n k

-- n has a lesser key than the best so far, or not
pub better-less : (key : ℕ → ℕ) (n b : ℕ) → ltb (key n) (key b) ≡ true → better key n true (some b) ≡ some n
unfolding better
better-less key n b t = rw (t, better) refl

pub better_not : (key : ℕ → ℕ) (n b : ℕ) → ltb (key n) (key b) ≡ false → better key n true (some b) ≡ some b
unfolding better
better_not key n b t = rw (t, better) refl

-- one more number is tried
find_step : (test : ℕ → Bool) (key : ℕ → ℕ) (n : ℕ) (b : Bool) (o : Option ℕ) → test n ≡ b → Find test key n o → Find test key (suc n) (better key n b o)
unfolding better
find_step test key n false none e f = λ j l. eq? j n (λ q. rw q e) (λ q. f j (omega arith))
find_step test key n false (some k) e f = record {
  below = omega (arith, f.below);
  passes = f.passes;
  lowest = λ j l p. eq? j n (λ q. clash (rw q at p) e) (λ q. f.lowest j (omega arith) p);
  first = λ j l p r. eq? j n (λ q. clash (rw q at p) e) (λ q. f.first j (omega arith) p r);
}
find_step test key n true none e f = record {
  below = omega arith;
  passes = e;
  lowest = λ j l p. eq? j n (λ q. omega (arith, ap key q)) (λ q. clash p (f j (omega arith)));
  first = λ j l p r. eq? j n (λ q. omega arith) (λ q. clash p (f j (omega arith)));
}
find_step test key n true (some k) e f = split (ltb (key n) (key k))
    (λ t. subst (Find test key (suc n)) (sym (better-less key n k t)) (record {
      below = omega arith;
      passes = e;
      lowest = λ j l p. eq? j n (λ q. omega (arith, ap key q)) (λ q. omega (arith, ltb-true, f.lowest j (omega arith) p));
      first = λ j l p r. eq? j n (λ q. omega arith) (λ q. omega (arith, ltb-true, f.lowest j (omega arith) p));
    }))
    (λ t. subst (Find test key (suc n)) (sym (better_not key n k t)) (record {
      below = omega (arith, f.below);
      passes = f.passes;
      lowest = λ j l p. eq? j n (λ q. omega (arith, ltb-false, ap key q)) (λ q. f.lowest j (omega arith) p);
      first = λ j l p r. eq? j n (λ q. omega (arith, f.below)) (λ q. f.first j (omega arith) p r);
    }))

-- the search answers that
find : (test : ℕ → Bool) (key : ℕ → ℕ) (n : ℕ) → Find test key n (least test key n)
unfolding least
find test key zero = λ j l. absurd (not-suc-le-zero l)
find test key (suc n) = find_step test key n (test n) (least test key n) refl (find test key n)

-- it finds none
pub least-none : (test : ℕ → Bool) (key : ℕ → ℕ) (n : ℕ) → least test key n ≡ none → (j : ℕ) → j < n → test j ≡ false
least-none test key n e = rw e at (find test key n)

-- it finds one
pub least-some : (test : ℕ → Bool) (key : ℕ → ℕ) (n k : ℕ) → least test key n ≡ some k → Least test key n k
least-some test key n k e = rw e at (find test key n)

-- where none passes it finds none
pub least-empty : (test : ℕ → Bool) (key : ℕ → ℕ) (n : ℕ) → ((j : ℕ) → j < n → test j ≡ false) → least test key n ≡ none
least-empty test key n h = opt (least test key n) (λ e. e) (λ k e. let l = least-some test key n k e in clash l.passes (h k l.below))

-- the one number with those properties
pub least_unique : (test : ℕ → Bool) (key : ℕ → ℕ) (n k : ℕ) → Least test key n k → least test key n ≡ some k
least_unique test key n k l = opt (least test key n)
    (λ e. clash l.passes (least-none test key n e k l.below))
    (λ c e.
    let m = least-some test key n c e in
    let q : c ≡ k = omega (
      arith,
      l.first c m.below m.passes (m.lowest k l.below l.passes),
      m.first k l.below l.passes (l.lowest c m.below m.passes),
    ) in
    e ∙ ap some q)

-- keys of one order: what is not less by the one is not less by the other
at_most : (n : ℕ) (f g : ℕ → ℕ) → ((j k : ℕ) → j < n → k < n → (f j < f k) ↔ (g j < g k)) → (j k : ℕ) → j < n → k < n → (f k ≤ f j) ↔ (g k ≤ g j)
at_most n f g order j k lj lk = (
  λ h. split (ltb (g j) (g k)) (λ t. absurd (omega (arith, h, (order j k lj lk).1 (ltb-true (g j) (g k) t)))) (λ t. ltb-false (g j) (g k) t),
  λ h. split (ltb (f j) (f k)) (λ t. absurd (omega (arith, h, (order j k lj lk).0 (ltb-true (f j) (f k) t)))) (λ t. ltb-false (f j) (f k) t),
)

-- the least depends on the tests below the bound and on the order of the keys there, and on nothing else
pub least-same : (n : ℕ) (test test' : ℕ → Bool) (f g : ℕ → ℕ) → ((k : ℕ) → k < n → test k ≡ test' k) → ((j k : ℕ) → j < n → k < n → (f j < f k) ↔ (g j < g k))
    → least test f n ≡ least test' g n
least-same n test test' f g same order = opt (least test f n)
    (λ e. e ∙ sym (least-empty test' g n (λ j l. sym (same j l) ∙ least-none test f n e j l)))
    (λ k e. e ∙ sym (least_unique test' g n k (moved k (least-some test f n k e))))
  where
    moved : (k : ℕ) → Least test f n k → Least test' g n k
    moved k l = record {
      below = l.below;
      passes = sym (same k l.below) ∙ l.passes;
      lowest = λ j lj p. (at_most n f g order j k lj l.below).0 (l.lowest j lj (same j lj ∙ p));
      first = λ j lj p h. l.first j lj (same j lj ∙ p) ((at_most n f g order k j l.below lj).1 h);
    }

-- ---- bytes made of bits

-- the byte whose bit i, below n, is 1 exactly if the test passes at i, bit 0 lowest
abbrev pub byte_of : (ℕ → Bool) → ℕ → ℕ
byte_of t zero = zero
byte_of t (suc n) = one_if (t zero) + 2 * byte_of (λ i. t (suc i)) n

-- equal tests
pub byte_same : (t u : ℕ → Bool) (n : ℕ) → ((i : ℕ) → i < n → t i ≡ u i) → byte_of t n ≡ byte_of u n
byte_same t u zero h = refl
byte_same t u (suc n) h =
    ap₂ (λ (a b : ℕ). a + 2 * b) (ap one_if (h zero (omega arith))) (byte_same (λ i. t (suc i)) (λ i. u (suc i)) n (λ i l. h (suc i) (omega arith)))

-- no bit
pub byte_none : (n : ℕ) → byte_of (λ i. false) n ≡ 0
byte_none zero = refl
byte_none (suc n) = omega (arith, byte_none n, one_no false refl)

-- one bit more
pub byte_more : (t u : ℕ → Bool) (n i : ℕ) → i < n → t i ≡ false → u i ≡ true → ((j : ℕ) → j ≢ i → u j ≡ t j) → byte_of u n ≡ byte_of t n + 2 ^ i
byte_more t u zero i l a b h = absurd (not-suc-le-zero l)
byte_more t u (suc n) zero l a b h =
    omega (arith, one_no (t 0) a, one_yes (u 0) b, byte_same (λ i. u (suc i)) (λ i. t (suc i)) n (λ i m. h (suc i) (omega arith)))
byte_more t u (suc n) (suc i) l a b h =
    omega (arith, ap one_if (h zero (omega arith)), byte_more (λ j. t (suc j)) (λ j. u (suc j)) n i (omega arith) a b (λ j q. h (suc j) (omega arith)), pow-succ' 2 i)

-- a bit is 0 or 1
one-small : (b : Bool) → one_if b < 2
unfolding one_if
one-small true = omega arith
one-small false = omega arith

-- and is read back
one_test : (b : Bool) → eqb (one_if b) 1 ≡ b
unfolding one_if
one_test true = refl
one_test false = refl

-- each bit
pub bit_byte : (t : ℕ → Bool) (n i : ℕ) → i < n → bit i (byte_of t n) ≡ t i
bit_byte t zero i l = absurd (not-suc-le-zero l)
bit_byte t (suc n) zero l =
    let e : (one_if (t 0) + 2 * byte_of (λ i. t (suc i)) n) / 1 % 2 ≡ one_if (t 0) = omega (arith, one-small (t 0)) in
    rw e (one_test (t 0))
bit_byte t (suc n) (suc i) l =
    let e : (one_if (t 0) + 2 * byte_of (λ j. t (suc j)) n) / 2 ≡ byte_of (λ j. t (suc j)) n = omega (arith, one-small (t 0)) in
    rw (pow-succ' 2 i, ← div-div-eq-div-mul _ 2 (2 ^ i), e) (bit_byte (λ j. t (suc j)) n i (omega arith))

-- a byte of n bits is below 2^n
pub byte_below : (t : ℕ → Bool) (n : ℕ) → byte_of t n < 2 ^ n
byte_below t zero = omega arith
byte_below t (suc n) = omega (arith, byte_below (λ i. t (suc i)) n, one-small (t 0), pow-succ' 2 n)

-- and its bits from n on are 0
pub bit_beyond : (t : ℕ → Bool) (n i : ℕ) → n ≤ i → bit i (byte_of t n) ≡ false
bit_beyond t n i h = let e : byte_of t n / 2 ^ i ≡ 0 = div-eq_of_lt (le_trans (byte_below t n) (pow_mono h)) in rw e refl
