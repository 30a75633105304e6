-- A row (document 01, "The row"): the entries of the iterations with one outermost index, as a part
-- of a table in loop order.
-- Assumes nothing.
use Rattle.std.specs.Prelude.{◌≡◌, true, false, List, [], ◌∷◌, ◌++◌, ℕ, ◌<◌, eqb, ℤ, pos, length, get_or, take, drop}
use Rattle.std.specs.Int.Signed.{lt_z}
use Rattle.integers.specs.Lists.{count}
use Rattle.integers.specs.Vector.{Vector, eq_z}
use Rattle.nest.specs.declared.LoopNest.{LoopNest}
use Rattle.nest.specs.Points.{points_of}
use Rattle.nest.specs.Refusals.{refusal, outside, or_else, short_buffer, limit, Outside, Order, nest_order}

-- the outermost index of a point
abbrev pub outermost : Vector → ℤ
outermost j = get_or j 0 (pos 0)

-- the row of index i starts behind the iterations with a smaller outermost index, and is as long as
-- there are iterations with that index
unfoldable pub row_start : LoopNest → ℤ → ℕ
row_start s i = count (λ j. lt_z (outermost j) i) (points_of s)

unfoldable pub row_length : LoopNest → ℤ → ℕ
row_length s i = count (λ j. eq_z (outermost j) i) (points_of s)

-- 19: the index is outside the outermost limits
unfoldable pub no_such_row : LoopNest → ℤ → ℕ
no_such_row s i = elim (outside (limit s 0).lower (limit s 0).upper i) [ true ↦ 19 | false ↦ 0 ]

-- 2 to 13, then 14 for a table with fewer entries than there are iterations, then 19
unfoldable pub row_refusal : LoopNest → ℕ → ℤ → ℕ
row_refusal s entries i = or_else (refusal s) (or_else (short_buffer (length (points_of s)) entries) (no_such_row s i))

-- these refusals in their order (proofs/Answers.antt: the number is what they answer)
abbrev pub row_order : LoopNest → ℕ → ℤ → Order
row_order s entries i = nest_order s
    ++ ((14, entries < length (points_of s)) ∷ (19, Outside (limit s 0).lower (limit s 0).upper i) ∷ [])

-- where a row lies in a table: the number of a refusal with 0 and 0, or 0 with the row's start and
-- length
pub record Span : Type 0 where
  pub refusal : ℕ
  pub start : ℕ
  pub length : ℕ

-- where the row lies in a table of so many entries; 0 and 0 where the call is refused
unfoldable pub span_of : LoopNest → ℕ → ℤ → Span
span_of s entries i =
    elim (eqb (row_refusal s entries i) 0) [
      | true ↦ record { refusal = 0; start = row_start s i; length = row_length s i }
      | false ↦ record { refusal = row_refusal s entries i; start = 0; length = 0 }
    ]

-- the row itself, a part of the table; empty where the call is refused
unfoldable pub row_of : LoopNest → List ℕ → ℤ → List ℕ
row_of s table i = take (span_of s (length table) i).length (drop (span_of s (length table) i).start table)

-- ---- what calls promise

-- a call of `locate` that answers r
abbrev pub Locates : LoopNest → ℕ → ℤ → Span → Type 0
Locates s entries i r = r ≡ span_of s entries i

-- a call of `row` that answers a part of the table and stores a number
abbrev pub Cuts : LoopNest → List ℕ → ℤ → List ℕ → ℕ → Type 0
Cuts s table i part number = (part ≡ row_of s table i) × (number ≡ row_refusal s (length table) i)
