-- The number that a move is answered is what its refusals, in their order, answer; where none of 2 to 14 is met, its effect is what the sentences say.
-- Assumes nothing.
use mathlib.Core.Path.{◌≡◌, sym, ap, subst, ◌∙◌}
use mathlib.Core.Logic.{◌↔◌}
use mathlib.Core.List.{[], ◌∷◌, ◌++◌}
use Prim.Native.Nat.{ℕ}
use native.Mathlib.Omega.{arith}
use borrow.Author.Tests.{eqb-true, eqb-false}
use lib.Dec.{eqb}
use lib.ListN.{length}
use Rattle.integers.proofs.Lists.{split}
use Rattle.nest.specs.declared.LoopNest.{LoopNest}
use Rattle.nest.specs.Points.{points_of}
use Rattle.nest.specs.Refusals.{refusal, or_else, short_buffer, no_room, Answered, order_numbers, FromOne, nest_numbers}
use Rattle.nest.proofs.Entries.{or_else-first, or_else-second, or_else_assoc}
use Rattle.nest.proofs.Answers.{answered-append, short_answered, either_answered, room-answered, call-one, call-numbers, call-answered}
use Rattle.execution.specs.Rules.{Move, compute, deliver, Effect, answer, Layout, effect}
use Rattle.execution.specs.Run.{State, state_view, move_refusal, state_refusal, move_effect, move_answer}
use Rattle.execution.specs.Words.{Says, rule_order, BufferShort, move_order}
use Rattle.execution.proofs.RuleLaws.{move-refused, move_rules}
use Rattle.execution.proofs.WordLaws.{effect-says, says-answered, says_iff}

module _ {Val : Type 0} (s : LoopNest) (L : Layout) (st : State Val) (mv : Move) where
  -- where none of 2 to 14 is met, an effect is the move's exactly if the sentences say so
  pub move-says : state_refusal s L st ≡ 0 → (x : Effect) → (move_effect s L st mv ≡ x) ↔ Says s (state_view L st) mv x
  move-says e x = (λ m. iff.1 (sym (move_rules s L st mv e) ∙ m), λ w. move_rules s L st mv e ∙ iff.0 w)
    where
      iff : Says s (state_view L st) mv x ↔ (effect s (state_view L st) mv ≡ x)
      iff = says_iff s (state_view L st) mv x

  -- ---- the number

  -- that of 2 to 14, else that of the rules
  in_two : or_else (state_refusal s L st) (answer (effect s (state_view L st) mv)) ≡ move_answer s L st mv
  in_two =
      let a = state_refusal s L st in
      let b = answer (effect s (state_view L st) mv) in
      split (eqb a 0) (λ t. let e = eqb-true a 0 t in or_else-second a b e ∙ ap answer (sym (move_rules s L st mv e)))
      (λ f. let h = eqb-false a 0 f in or_else-first a b h ∙ ap answer (sym (move-refused s L st mv h)))

  -- 14, of five buffers
  abbrev five : ℕ
  five =
      let n = length (points_of s) in
      or_else (no_room n (length L.steps) (length L.processors) (length st.values) (length st.done)) (short_buffer n (length st.delivered))

  five-answered : Answered ((14, BufferShort s L st) ∷ []) five
  five-answered =
      let n = length (points_of s) in
      either_answered 14 (no_room n (length L.steps) (length L.processors) (length st.values) (length st.done)) (short_buffer n (length st.delivered)) (omega arith)
      (room-answered n (length L.steps) (length L.processors) (length st.values) (length st.done)) (short_answered n (length st.delivered))

  -- 2 to 13, then 14, then 18, 17, 15 of a compute or 18, 16 of a delivery
  pub move-answered : Answered (move_order s L st mv) (move_answer s L st mv)
  unfolding move_refusal
  move-answered =
      let v = state_view L st in
      let b = answer (effect s v mv) in
      let rules = says-answered s v mv (effect s v mv) (effect-says s v mv) in
      subst (Answered (move_order s L st mv)) (or_else_assoc (refusal s) five b ∙ in_two)
      (call-answered s ((14, BufferShort s L st) ∷ rule_order s v mv) (or_else five b)
      (λ e. answered-append ((14, BufferShort s L st) ∷ []) (rule_order s v mv) five b (omega arith, tt) five-answered (λ z. rules)))

  -- none of these numbers is 0
  pub move-one : FromOne (move_order s L st mv)
  move-one = call-one s ((14, BufferShort s L st) ∷ rule_order s (state_view L st) mv) (omega arith, of mv)
    where
      of : (mv : Move) → FromOne (rule_order s (state_view L st) mv)
      of (compute p) = (omega arith, (omega arith, (omega arith, tt)))
      of (deliver k i) = (omega arith, (omega arith, tt))

-- they are, of a compute
pub compute-numbers : {Val : Type 0} (s : LoopNest) (L : Layout) (st : State Val) (p : ℕ) → order_numbers (move_order s L st (compute p)) ≡ nest_numbers ++ (14 ∷ 18 ∷ 17 ∷ 15 ∷ [])
compute-numbers s L st p = call-numbers s ((14, BufferShort s L st) ∷ rule_order s (state_view L st) (compute p))

-- and of a delivery
pub deliver-numbers : {Val : Type 0} (s : LoopNest) (L : Layout) (st : State Val) (k i : ℕ) → order_numbers (move_order s L st (deliver k i)) ≡ nest_numbers ++ (14 ∷ 18 ∷ 16 ∷ [])
deliver-numbers s L st k i = call-numbers s ((14, BufferShort s L st) ∷ rule_order s (state_view L st) (deliver k i))
