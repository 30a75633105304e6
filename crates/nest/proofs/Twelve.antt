-- Number 12, "dead clock", cannot come up (document 02, U8). A nest has at least one dependence, and a time vector that is zero has the product 0 with it, so that 11 or an
-- earlier refusal is answered first: the order with 12 and the order without it give the same answer, for every struct whatever.
-- Assumes nothing.
use mathlib.Core.Path.{◌≡◌, subst}
use mathlib.Core.List.{List, [], ◌∷◌, ◌++◌}
use mathlib.Core.Logic.{◌⊎◌, inl, inr, ⊎_elim, ◌↔◌, ◌≢◌}
use Prim.Native.Nat.{ℕ, ◌<◌, ◌≤◌}
use lib.IntN.{pos}
use Rattle.integers.specs.Vector.{Vector, dots}
use Rattle.integers.proofs.Linear.{ints}
use Rattle.integers.proofs.Lists.{split}
use Rattle.integers.proofs.Vector.{self_zero, zero-dots}
use Rattle.nest.specs.declared.LoopNest.{LoopNest}
use Rattle.nest.specs.Nest.{depth_of, count_of, time_of, max_dependences}
use Rattle.nest.specs.Refusals.{Refusal, bad_count, against_time, header_order, limit_order, vector_order, weight_order, holds, refusal, component, dependence, Condition, Order, Answered, MetAt, numbered, nest_order}
use Rattle.nest.proofs.Conditions.{sized}
use Rattle.nest.proofs.Words.{test_words}
use Rattle.nest.proofs.Lengths.{time_length}
use Rattle.nest.proofs.Answers.{answered-first, answered_without, numbered-one, nest-answered}

-- ---- the condition of 12

-- P·P, which document 01 calls s, is 0
abbrev pub ZeroSquare : LoopNest → Type 0
ZeroSquare s = dots (time_of s) (time_of s) ≡ pos 0

-- every component of the time vector is 0
abbrev pub ZeroTime : LoopNest → Type 0
ZeroTime s = (k : ℕ) → k < depth_of s → component (time_of s) k ≡ pos 0

-- ---- the orders

-- the refusals up to 11
abbrev pub to_eleven : List Refusal
to_eleven = header_order ++ (limit_order ++ vector_order)

-- document 01's order: 12 stands between 11 and 13
abbrev pub with_twelve : LoopNest → Order
with_twelve s = numbered (Condition s) to_eleven ++ ((12, ZeroSquare s) ∷ numbered (Condition s) weight_order)

module _ (s : LoopNest) where
  -- a zero time vector has the product 0 with every vector
  zero-product : ZeroTime s → (v : Vector) → dots (time_of s) v ≡ pos 0
  zero-product z v = zero-dots (time_of s) v (λ k l. z k (subst (λ n. k < n) (time_length s) l))

  -- P·P is 0 exactly if the time vector is zero
  pub zero-square_iff : ZeroSquare s ↔ ZeroTime s
  zero-square_iff = (λ e k l. self_zero (time_of s) e k, λ z. zero-product z (time_of s))

  -- a nest with m from 1 up whose time vector is zero meets 11
  pub zero-against : 1 ≤ count_of s → ZeroTime s → Condition s against_time
  zero-against m z = let e = zero-product z (dependence s 0) in (0, m, omega ints)

  -- so where 12 would be met, 11 is, or 3
  pub three_or_eleven : ZeroSquare s → Condition s bad_count ⊎ Condition s against_time
  three_or_eleven e =
      split (holds s bad_count) (λ t. inl (test_words s bad_count t))
      (λ f. inr (zero-against (sized 1 max_dependences s.count (unfold holds in f)).0 (zero-square_iff.0 e)))

  -- each of which stands before it
  earlier : ZeroSquare s → (p : ℕ) × MetAt (numbered (Condition s) to_eleven) p
  earlier e = ⊎_elim (λ w. (1, w)) (λ w. (9, w)) (three_or_eleven e)

  -- ---- the laws

  -- with 12 and without it the same is answered, whatever refusals of a call stand behind those of its nest
  pub twelve_unused : (behind : Order) (k : ℕ) → Answered (with_twelve s ++ behind) k ↔ Answered (nest_order s ++ behind) k
  twelve_unused behind k = answered_without 12 (ZeroSquare s) (numbered (Condition s) weight_order ++ behind) k (numbered (Condition s) to_eleven) earlier

  -- so the number answered is what document 01's order says
  pub answered_with_twelve : Answered (with_twelve s) (refusal s)
  answered_with_twelve = (twelve_unused [] (refusal s)).1 (nest-answered s)

  -- where 12 would be met, 11 or an earlier number is answered
  pub zero-square-answered : ZeroSquare s → Answered (numbered (Condition s) to_eleven) (refusal s) × (refusal s ≢ 0)
  zero-square-answered e =
      answered-first (numbered (Condition s) to_eleven) (numbered (Condition s) weight_order) (refusal s) (numbered-one (Condition s) to_eleven) (earlier e) (nest-answered s)
