-- Number 12 cannot come up for a text either (document 02, U8): where the nest that it says has a zero time vector, 11 or an earlier refusal is answered.
-- Assumes nothing.
use mathlib.Core.List.Memᴰ
use mathlib.Core.List.{[], ◌∷◌, ◌++◌}
use mathlib.Core.Logic.{⊎_elim, ◌↔◌, ◌≢◌}
use mathlib.Core.Path.{refl}
use Prim.Native.Nat.{ℕ}
use native.Mathlib.Omega.{arith}
use Rattle.nest.specs.declared.LoopNest.{LoopNest}
use Rattle.nest.specs.Refusals.{bad_count, header_order, limit_order, vector_order, weight_order, Condition, Order, Answered, FromOne, MetAt, numbered}
use Rattle.nest.proofs.Answers.{answered-first, answered_without, numbered-one, one-append}
use Rattle.nest.proofs.Twelve.{ZeroSquare, three_or_eleven}
use Rattle.nest_text.specs.Fields.{Bytes}
use Rattle.nest_text.specs.Text.{lines_with, headed, read_refusal}
use Rattle.nest_text.specs.Form.{Whole, LineMalformed, LineMeets, RestMalformed, NestMeets, read_order}
use Rattle.nest_text.proofs.Answers.{read-answered}

module _ (bs : Bytes) where
  -- the condition of 12: the text says a nest whose P·P is 0
  abbrev pub SaysZeroSquare : Type 0
  SaysZeroSquare = (s : LoopNest) × Whole bs s × ZeroSquare s

  -- the refusals of a text up to 11
  abbrev pub to_eleven : Order
  to_eleven =
      (1, LineMalformed bs)
      ∷ (numbered (LineMeets bs) header_order
      ++ ((1, RestMalformed bs) ∷ numbered (NestMeets bs) (limit_order ++ vector_order)))

  -- document 01's order: 12 stands between 11 and 13
  abbrev pub with_twelve : Order
  with_twelve = to_eleven ++ ((12, SaysZeroSquare) ∷ numbered (NestMeets bs) weight_order)

  -- a text that says too few or too many dependences says so in line 1
  line-count : (s : LoopNest) → Whole bs s → Condition s bad_count → LineMeets bs bad_count
  unfolding lines_with headed
  line-count s w c = (s.depth ∷ s.count ∷ s.cube ∷ [], w.lines_are.0, (Memᴰ.head refl, w.lines_are.1), c)

  -- where 12 would be met, one before it is
  earlier : SaysZeroSquare → (p : ℕ) × MetAt to_eleven p
  earlier (s, w, e) = ⊎_elim (λ c. (2, line-count s w c)) (λ c. (11, (s, w, c))) (three_or_eleven s e)

  -- none of their numbers is 0
  from_one : FromOne to_eleven
  from_one =
      let others : Order = (1, RestMalformed bs) ∷ numbered (NestMeets bs) (limit_order ++ vector_order) in
      (omega arith, one-append (numbered (LineMeets bs) header_order) others (numbered-one (LineMeets bs) header_order) (omega arith, numbered-one (NestMeets bs) (limit_order ++ vector_order)))

  -- with 12 and without it the same is answered, whatever refusals of a call stand behind those of its text
  pub twelve_unused : (behind : Order) (k : ℕ) → Answered (with_twelve ++ behind) k ↔ Answered (read_order bs ++ behind) k
  twelve_unused behind k = answered_without 12 SaysZeroSquare (numbered (NestMeets bs) weight_order ++ behind) k to_eleven earlier

  -- where 12 would be met, 11 or an earlier number is answered
  pub zero-square-answered : SaysZeroSquare → Answered to_eleven (read_refusal bs) × (read_refusal bs ≢ 0)
  zero-square-answered d = answered-first to_eleven (numbered (NestMeets bs) weight_order) (read_refusal bs) from_one (earlier d) (read-answered bs)
