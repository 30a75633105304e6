-- The number that `locate` and `row` answer is what their refusals, in their order, answer.
-- Assumes nothing.
use mathlib.Core.Path.{refl}
use mathlib.Core.Logic.{inl, inr}
use mathlib.Core.List.{[], ◌∷◌}
use Prim.Native.Nat.{ℕ, ◌<◌}
use native.Mathlib.Omega.{arith}
use lib.IntN.{ℤ}
use lib.ListN.{length}
use Rattle.integers.proofs.Lists.{split, clash}
use Rattle.nest.specs.declared.LoopNest.{LoopNest}
use Rattle.nest.specs.Points.{points_of}
use Rattle.nest.specs.Refusals.{outside, or_else, short_buffer, limit, Outside, Order, Answered, FromOne}
use Rattle.nest.proofs.Words.{outside_words, words_outside}
use Rattle.nest.proofs.Answers.{answered-append, short_answered, call-one, call-answered}
use Rattle.rows.specs.Rows.{no_such_row, row_refusal, row_order}

-- 19, of an index
index-answered : (s : LoopNest) (i : ℤ) → Answered ((19, Outside (limit s 0).lower (limit s 0).upper i) ∷ []) (no_such_row s i)
unfolding no_such_row
index-answered s i =
    split (outside (limit s 0).lower (limit s 0).upper i) (λ t. inl (outside_words _ _ i t, rw (t, no_such_row) refl))
    (λ f. inr ((λ w. clash (words_outside _ _ i w) f), rw (f, no_such_row) refl))

-- 2 to 13, then 14, then 19
pub row-answered : (s : LoopNest) (entries : ℕ) (i : ℤ) → Answered (row_order s entries i) (row_refusal s entries i)
unfolding row_refusal
row-answered s entries i =
    let n = length (points_of s) in
    let no_row : Order = (19, Outside (limit s 0).lower (limit s 0).upper i) ∷ [] in
    call-answered s ((14, entries < n) ∷ no_row) (or_else (short_buffer n entries) (no_such_row s i))
    (λ e. answered-append ((14, entries < n) ∷ []) no_row (short_buffer n entries) (no_such_row s i) (omega arith, tt) (short_answered n entries) (λ z. index-answered s i))

-- none of their numbers is 0
pub row_one : (s : LoopNest) (entries : ℕ) (i : ℤ) → FromOne (row_order s entries i)
row_one s entries i = call-one s ((14, entries < length (points_of s)) ∷ (19, Outside (limit s 0).lower (limit s 0).upper i) ∷ []) (omega arith, (omega arith, tt))
