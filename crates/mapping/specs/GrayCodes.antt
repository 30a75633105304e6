-- The printed list by the rack (document 02, U5): the Gray code of each part, written out, and what
-- an installer may rely on who compares processor numbers with it. Assumes nothing.
use Rattle.std.specs.Prelude.{◌≡◌, List, [], ◌∷◌, ℕ, suc, ◌/◌, ◌%◌, ◌^◌, ◌<◌, length, get_or}
use Rattle.nest.specs.Nest.{max_cube}
use Rattle.mapping.specs.Mapping.{gray}

-- the codes of parts 0 to 63, eight to a line
unfoldable pub gray_codes : List ℕ
gray_codes =
    0 ∷ 1 ∷ 3 ∷ 2 ∷ 6 ∷ 7 ∷ 5 ∷ 4 ∷
    12 ∷ 13 ∷ 15 ∷ 14 ∷ 10 ∷ 11 ∷ 9 ∷ 8 ∷
    24 ∷ 25 ∷ 27 ∷ 26 ∷ 30 ∷ 31 ∷ 29 ∷ 28 ∷
    20 ∷ 21 ∷ 23 ∷ 22 ∷ 18 ∷ 19 ∷ 17 ∷ 16 ∷
    48 ∷ 49 ∷ 51 ∷ 50 ∷ 54 ∷ 55 ∷ 53 ∷ 52 ∷
    60 ∷ 61 ∷ 63 ∷ 62 ∷ 58 ∷ 59 ∷ 57 ∷ 56 ∷
    40 ∷ 41 ∷ 43 ∷ 42 ∷ 46 ∷ 47 ∷ 45 ∷ 44 ∷
    36 ∷ 37 ∷ 39 ∷ 38 ∷ 34 ∷ 35 ∷ 33 ∷ 32 ∷ []

-- the code that a list has for part p
abbrev pub code_for : List ℕ → ℕ → ℕ
code_for codes p = get_or codes p 0

-- bit k of a number, bit 0 the lowest
unfoldable pub bit_of : ℕ → ℕ → ℕ
bit_of k n = (n / 2 ^ k) % 2

-- two numbers differ in exactly one bit: there is one bit where they differ, and no other
pub record OneBitApart (a b : ℕ) : Type 0 where
  pub bit : ℕ
  pub differ : bit_of bit a ≡ bit_of bit b → ⊥
  pub only : (k : ℕ) → (k ≡ bit → ⊥) → bit_of k a ≡ bit_of k b

-- a list of codes that can be read off
pub record ReadOff (codes : List ℕ) : Type 0 where
  -- it has a code for each part that a direction can have
  pub parts : length codes ≡ 2 ^ max_cube
  -- each is document 01's exclusive-or
  pub each : (p : ℕ) → p < length codes → code_for codes p ≡ gray p
  -- no code stands twice
  pub once : (p q : ℕ) → p < length codes → q < length codes → code_for codes p ≡ code_for codes q → p ≡ q
  -- the codes of parts one apart differ in exactly one bit
  pub neighbours : (p : ℕ) → suc p < length codes → OneBitApart (code_for codes p) (code_for codes (suc p))
