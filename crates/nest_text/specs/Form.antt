-- The form of a text, and what reading it answers, in the documents' words. proofs/ shows that what
-- is computed is exactly this: Numerals.antt for Fields.readOf, LineBack.antt for Text.isLine,
-- Text.are_lines and Text.fits, Answers.antt for Text.read_refusal, SaysLaws.antt for it and
-- Text.read_nest.
-- Assumes nothing.
use Rattle.std.specs.Prelude.{◌≡◌, ◌⊎◌, ℕ, ◌+◌, ◌*◌, ◌^◌, ◌<◌, ◌≤◌, ℤ, pos, neg_ℤ, length, get_or, replicate}
use mathlib.Core.List.{List, [], ◌∷◌, ◌++◌, map, Memᴰ}
use Rattle.nest.specs.declared.LoopNest.{LoopNest}
use Rattle.nest.specs.Nest.{count_of, boundaries_of, weights_of, cleared, empty_nest}
use Rattle.nest.specs.Refusals.{Refusal, header_order, body_order, refusal, Condition, Order, Answered, numbered}
use Rattle.nest_text.specs.Fields.{Bytes, columns, newline, space, minus, zero_digit}
use Rattle.nest_text.specs.Text.{at, long_last, short_last, lines_with, text_with, text_of, header_widths, Shape}
use Rattle.nest_text.specs.Text.{shapes_of, headed, read_nest}

-- ---- a number in columns

-- each is one of 0 to 9
abbrev pub EachDigit : List ℕ → Type 0
EachDigit [] = Unit {0}
EachDigit (d ∷ ds) = (d < 10) × EachDigit ds

-- digits with no leading zero
pub record Decimal (ds : List ℕ) : Type 0 where
  pub some_digit : 0 < length ds
  pub each_digit : EachDigit ds
  pub no_leading_zero_is : get_or ds 0 0 ≡ 0 → length ds ≡ 1

-- the number that digits say: each times its power of ten
unfoldable pub decimal : List ℕ → ℕ
decimal [] = 0
decimal (d ∷ ds) = d * 10 ^ length ds + decimal ds

-- their bytes
abbrev pub digit_bytes : List ℕ → Bytes
digit_bytes ds = map (λ d. zero_digit + d) ds

-- the bytes say the number
pub data Numeral (bs : Bytes) : ℤ → Type 0 where
  -- spaces, digits
  digits_alone : (k : ℕ) (ds : List ℕ) → Decimal ds → bs ≡ replicate k space ++ digit_bytes ds
      → Numeral bs (pos (decimal ds))
  -- spaces, a minus, digits; no minus zero
  minus_digits : (k : ℕ) (ds : List ℕ) → Decimal ds → 0 < decimal ds
      → bs ≡ replicate k space ++ (minus ∷ digit_bytes ds)
      → Numeral bs (neg_ℤ (pos (decimal ds)))

-- six columns that say the number
abbrev pub Column : Bytes → ℤ → Type 0
Column bs z = (length bs ≡ columns) × Numeral bs z

-- ---- lines

-- the bytes begin with a line of these numbers: six columns for each, then byte 10; the rest stands
-- behind it
abbrev pub Begins : Bytes → List ℤ → Bytes → Type 0
Begins bs [] rest = bs ≡ newline ∷ rest
Begins bs (z ∷ zs) rest =
    (column : Bytes) × (others : Bytes) × (bs ≡ column ++ others) × Column column z × Begins others zs rest

-- the bytes are lines of these numbers, one after the other, and nothing follows the last
abbrev pub Consists : Bytes → List (List ℤ) → Type 0
Consists bs [] = bs ≡ []
Consists bs (zs ∷ ls) = (rest : Bytes) × Begins bs zs rest × Consists rest ls

-- ---- the whole text

-- a last line says a nest's boundary values and weights: the m values and then the m weights; or
-- one value, which each of the m is, and then the m weights
abbrev pub LastSays : LoopNest → List ℤ → Type 0
LastSays s last =
    (last ≡ long_last s)
    ⊎ ((z : ℤ) × (boundaries_of s ≡ replicate (count_of s) z) × (last ≡ z ∷ weights_of s))

-- it is in form and says the nest: it consists of the nest's lines, and places that they have no
-- field for are 0
pub record Whole (bs : Bytes) (s : LoopNest) : Type 0 where
  pub last : List ℤ
  pub last_says : LastSays s last
  pub lines_are : Consists bs (lines_with s last)
  pub other_places : cleared s ≡ s

-- ---- what reading answers

-- line 1 says these numbers, as many as it may have fields, and the rest stands behind it
abbrev pub FirstLine : Bytes → List ℤ → Bytes → Type 0
FirstLine bs zs rest = Memᴰ (length zs) header_widths × Begins bs zs rest

-- line 1 is not in form
abbrev pub LineMalformed : Bytes → Type 0
LineMalformed bs = (zs : List ℤ) (rest : Bytes) → FirstLine bs zs rest → ⊥

-- line 1 says numbers, and a nest of these meets the condition
abbrev pub LineMeets : Bytes → Refusal → Type 0
LineMeets bs r = (zs : List ℤ) × (rest : Bytes) × FirstLine bs zs rest × Condition (headed zs) r

-- the bytes are lines of one of the listed shapes
abbrev pub Shaped : Bytes → List Shape → Type 0
Shaped bs ws = (ls : List (List ℤ)) × Memᴰ (map length ls) ws × Consists bs ls

-- line 1 says numbers, and the rest has none of the shapes that they allow
abbrev pub RestMalformed : Bytes → Type 0
RestMalformed bs =
    (zs : List ℤ) × (rest : Bytes) × FirstLine bs zs rest × (Shaped rest (shapes_of (headed zs)) → ⊥)

-- the text says a nest that meets the condition
abbrev pub NestMeets : Bytes → Refusal → Type 0
NestMeets bs r = (s : LoopNest) × Whole bs s × Condition s r

-- the refusals of a text in their order: line 1's form, then 2, 3, 4; the form of the remaining
-- lines; then 5 to 13
abbrev pub read_order : Bytes → Order
read_order bs =
    (1, LineMalformed bs)
    ∷ (numbered (LineMeets bs) header_order
    ++ ((1, RestMalformed bs) ∷ numbered (NestMeets bs) body_order))

-- a number and a nest: the number is what the order answers; the nest is what the text says where
-- that is 0, and 0 in every place where the text is refused
pub record ReadSays (bs : Bytes) (k : ℕ) (x : LoopNest) : Type 0 where
  pub number_is : Answered (read_order bs) k
  pub nest_said : k ≡ 0 → Whole bs x
  pub nest_refused : (k ≡ 0 → ⊥) → x ≡ empty_nest

-- ---- read and written

-- any two of the numbers are equal
abbrev pub AllEqual : List ℤ → Type 0
AllEqual zs = (i j : ℕ) → i < length zs → j < length zs → at zs i ≡ at zs j

-- a text with a long last line of equal boundary values, of two dependences or more
abbrev pub LongEqual : LoopNest → Bytes → Type 0
LongEqual s bs = (2 ≤ count_of s) × AllEqual (boundaries_of s) × (bs ≡ text_with s (long_last s))

-- the texts of a nest: what is written for it, and a long last line where a short one is written
abbrev pub TextFor : LoopNest → Bytes → Type 0
TextFor s bs = (bs ≡ text_of s) ⊎ LongEqual s bs

-- a text that is read as an accepted nest, with 0 in the places that are no part of it: written
-- again it has the same bytes, unless its last line was a long one of equal boundary values; then
-- it is the short text of the same nest
pub record WrittenRead (bs : Bytes) : Type 0 where
  pub accepted : refusal (read_nest bs) ≡ 0
  pub clear_places : cleared (read_nest bs) ≡ read_nest bs
  pub bytes_are : (text_of (read_nest bs) ≡ bs)
      ⊎ (LongEqual (read_nest bs) bs × (text_of (read_nest bs) ≡ text_with (read_nest bs) (short_last (read_nest bs))))
