-- A delivery sets one bit of a byte of any content, and the byte stays a byte; searches and tests by one number more, as a loop goes.
-- Assumes nothing.
use mathlib.Core.Path.{◌≡◌, refl, sym, ap, ap₂, ◌∙◌}
use mathlib.Core.Bool.{Bool, true, false, not, ◌&&◌, ◌||◌}
use mathlib.Core.Option.{none}
use Prim.Native.Nat.{ℕ, zero, suc, ◌+◌, ◌*◌, ◌/◌, ◌%◌, ◌^◌, ◌<◌}
use native.Mathlib.Nat.{not-suc-le-zero, suc_inj, suc-ne-zero, pow-succ', div-div-eq-div-mul, one-mul, zero-mul}
use lib.Pow.{shl_exact, pow_pos}
use Rattle.std.specs.Prelude.{bit_and, bit_or}
use Rattle.std.proofs.lemmas.Nat.{or_disjoint}
use Rattle.std.proofs.lemmas.Nat.Bits.{and_pow}
use native.Mathlib.Numerals.{add-one}
use native.Mathlib.Omega.{arith}
use borrow.Author.Tests.{eqb-false, eq-eqb, ne_eqb}
use lib.Dec.{eqb}
use Rattle.execution.specs.Rules.{every, better, least}
use Rattle.execution.specs.Run.{bit}
use Rattle.execution.proofs.Base.{eq?}

-- ---- bits

-- bit 0 is the remainder, and the others are those of the half
pub bit-first : (b : ℕ) → bit 0 b ≡ eqb (b % 2) 1
bit-first b = let e : b / 1 ≡ b = omega arith in ap (λ z. eqb (z % 2) 1) e

pub bit_later : (i b : ℕ) → bit (suc i) b ≡ bit i (b / 2)
bit_later i b = ap (λ z. eqb (b / z % 2) 1) (pow-succ' 2 i) ∙ ap (λ z. eqb (z % 2) 1) (sym (div-div-eq-div-mul b 2 (2 ^ i)))

-- a byte whose first bit is 0 is even
even : (b : ℕ) → bit 0 b ≡ false → b % 2 ≡ 0
even b e = let n = eqb-false (b % 2) 1 (sym (bit-first b) ∙ e) in omega arith

-- twice a power is the next
twice : (b i : ℕ) → (b + 2 ^ suc i) / 2 ≡ b / 2 + 2 ^ i
twice b i = omega (arith, pow-succ' 2 i)

-- a byte of n bits with one more set is one of n bits
pub bit-room : (i n b : ℕ) → i < n → b < 2 ^ n → bit i b ≡ false → b + 2 ^ i < 2 ^ n
bit-room i zero b l h e = absurd (not-suc-le-zero l)
bit-room zero (suc n) b l h e = omega (arith, even b e, pow-succ' 2 n)
bit-room (suc i) (suc n) b l h e =
    let half : b / 2 < 2 ^ n = omega (arith, pow-succ' 2 n) in
    omega (arith, bit-room i n (b / 2) (omega arith) half (sym (bit_later i b) ∙ e), pow-succ' 2 i, pow-succ' 2 n)

-- the bit is set, and no other is changed
pub bit-set : (i j b : ℕ) → bit i b ≡ false → bit j (b + 2 ^ i) ≡ (eqb j i || bit j b)
bit-set zero zero b e = bit-first (b + 1) ∙ eq-eqb ((b + 1) % 2) 1 (omega (arith, even b e))
bit-set zero (suc j) b e =
    let same : (b + 1) / 2 ≡ b / 2 = omega (arith, even b e) in
    bit_later j (b + 1) ∙ ap (bit j) same ∙ sym (bit_later j b) ∙ ap (λ t. t || bit (suc j) b) (sym (ne_eqb (suc j) 0 (suc-ne-zero j)))
bit-set (suc i) zero b e =
    let same : (b + 2 ^ suc i) % 2 ≡ b % 2 = omega (arith, pow-succ' 2 i) in
    bit-first (b + 2 ^ suc i) ∙ ap (λ z. eqb z 1) same ∙ sym (bit-first b) ∙ ap (λ t. t || bit 0 b) (sym (ne_eqb 0 (suc i) (λ q. suc-ne-zero i (sym q))))
bit-set (suc i) (suc j) b e =
    bit_later j (b + 2 ^ suc i) ∙ ap (bit j) (twice b i) ∙ bit-set i j (b / 2) (sym (bit_later i b) ∙ e) ∙ ap₂ ◌||◌ (same j i) (sym (bit_later j b))
  where
    same : (j i : ℕ) → eqb j i ≡ eqb (suc j) (suc i)
    same j i = eq? j i
        (λ q. eq-eqb j i q ∙ sym (eq-eqb (suc j) (suc i) (ap suc q)))
        (λ q. ne_eqb j i q ∙ sym (ne_eqb (suc j) (suc i) (λ z. q (suc_inj z))))

-- what is 0 or 1 is 1 where it is not 0, times what is not 0 too
one-or-none : (r m : ℕ) → r < 2 → 0 < m → not (eqb (r * m) 0) ≡ eqb r 1
one-or-none zero m h l = ap (λ z. not (eqb z 0)) (zero-mul m)
one-or-none (suc zero) m h l = ap not (ne_eqb (1 * m) 0 (λ e. absurd (omega arith)))
one-or-none (suc (suc r)) m h l = absurd (omega arith)

-- a shifted 1 is a power of 2
shifted : (i : ℕ) → i < 8 → 1 * 2 ^ i % 256 ≡ 2 ^ i
shifted i h = shl_exact {a = 1} 1 i 8 (omega arith) (omega arith) ∙ one-mul (2 ^ i)

-- the test of a bit by a mask
pub mask-test : (i b : ℕ) → i < 8 → not (eqb (bit_and b (1 * 2 ^ i % 256)) 0) ≡ bit i b
mask-test i b h = ap (λ m. not (eqb (bit_and b m) 0)) (shifted i h) ∙ ap (λ z. not (eqb z 0)) (and_pow b i) ∙ one-or-none (b / 2 ^ i % 2) (2 ^ i) (omega arith) (pow_pos i)

-- a bit that is 0 is set by a mask
pub mask-set : (i b : ℕ) → i < 8 → bit i b ≡ false → bit_or b (1 * 2 ^ i % 256) ≡ b + 2 ^ i
mask-set i b h e =
    let z : b / 2 ^ i % 2 ≡ 0 = let n = eqb-false (b / 2 ^ i % 2) 1 e in omega arith in
    ap (bit_or b) (shifted i h) ∙ or_disjoint b (2 ^ i) (and_pow b i ∙ ap (λ r. r * 2 ^ i) z ∙ zero-mul (2 ^ i))

-- ---- one number more

pub every-none : (t : ℕ → Bool) → every t 0 ≡ true
unfolding every
every-none t = refl

pub every_more : (t : ℕ → Bool) (n : ℕ) → every t (n + 1) ≡ (every t n && t n)
unfolding every
every_more t n = rw (add-one n) refl

pub least_start : (test : ℕ → Bool) (key : ℕ → ℕ) → least test key 0 ≡ none
unfolding least
least_start test key = refl

pub least_more : (test : ℕ → Bool) (key : ℕ → ℕ) (n : ℕ) → least test key (n + 1) ≡ better key n (test n) (least test key n)
unfolding least
least_more test key n = rw (add-one n) refl
