-- Nests with the same parts answer every move alike; so places of the struct that are no part of a nest change nothing that a move answers or leaves.
-- Assumes nothing.
use mathlib.Core.Path.{◌≡◌, refl, sym, ap, ◌∙◌}
use mathlib.Core.Bool.{true, false, not, ◌&&◌}
use mathlib.Core.Option.{Option, none, some}
use Prim.Native.Nat.{ℕ, ◌^◌}
use borrow.Author.Tests.{eqb-true, eqb-false}
use lib.Dec.{eqb, ltb}
use lib.ListN.{length}
use Rattle.integers.proofs.Lists.{split}
use Rattle.nest.specs.declared.LoopNest.{LoopNest}
use Rattle.nest.specs.Nest.{to_ℕ, cleared}
use Rattle.nest.specs.Refusals.{refusal, or_else, short_buffer, no_room}
use Rattle.nest.proofs.Entries.{or_else-first}
use Rattle.nest.proofs.Places.{SameParts, same_points, same_source, same-refusal, cleared-refusal, accepted-same}
use Rattle.mapping.specs.Mapping.{crosses, is_message}
use Rattle.sequential.specs.Sequential.{Rule}
use Rattle.sequential.proofs.Ignored.{same-value}
use Rattle.execution.specs.Rules.{Move, compute, deliver, Effect, refuse, iteration, message, Layout, View, every, least, waits, step_in, there, source_done, taking, delivering, effect}
use Rattle.execution.specs.Run.{State, state_view, with_value, move_refusal, state_refusal, move_effect, after, move_after}
use Rattle.execution.proofs.RuleLaws.{move-refused}

module _ {s t : LoopNest} (p : SameParts s t) where
  same-taking : (v : View) (q : ℕ) (o : Option ℕ) → taking s v q o ≡ taking t v q o
  unfolding taking
  same-taking v q none = refl
  same-taking v q (some k) = λ x. elim (every (λ i. there v q k i (same_source p k i x)) (to_ℕ (p.counts x))) [ true ↦ iteration k | false ↦ refuse 15 ]

  same-delivering : (v : View) (k i : ℕ) → delivering s v k i ≡ delivering t v k i
  unfolding delivering is_message
  same-delivering v k i = λ x.
      let j = same_source p k i x in
      elim (crosses v.layout.processors k j && (source_done v j && not (v.delivered k i))) [ true ↦ message k i | false ↦ refuse 16 ]

  -- the rules
  same_effect : (v : View) (mv : Move) → effect s v mv ≡ effect t v mv
  unfolding effect
  same_effect v (compute q) = λ x.
      elim (ltb q (2 ^ to_ℕ (p.cubes x))) [ true ↦ same-taking v q (least (waits v q) (step_in v) (length (same_points p x))) x | false ↦ refuse 18 ]
  same_effect v (deliver k i) = λ x. elim (ltb k (length (same_points p x)) && ltb i (to_ℕ (p.counts x))) [ true ↦ same-delivering v k i x | false ↦ refuse 18 ]

  module _ {Val : Type 0} (L : Layout) (st : State Val) (mv : Move) where
    -- 2 to 14, then the rules
    pub same_move : move_effect s L st mv ≡ move_effect t L st mv
    unfolding move_effect move_refusal
    same_move = λ x.
        let n = length (same_points p x) in
        let a = or_else (same-refusal p x) (or_else (no_room n (length L.steps) (length L.processors) (length st.values) (length st.done)) (short_buffer n (length st.delivered))) in
        elim (eqb a 0) [ true ↦ same_effect (state_view L st) mv x | false ↦ refuse a ]

  -- the state after an effect
  same_after : {Val : Type 0} (R : Rule Val) (st : State Val) (e : Effect) → after R s st e ≡ after R t st e
  same_after R st (refuse a) = refl
  same_after R st (iteration k) = ap (λ f. with_value st k (f st.values k)) (same-value p R)
  same_after R st (message k i) = refl

-- of a refused nest, every move is refused with its number
bad_move : {Val : Type 0} (s : LoopNest) (L : Layout) (st : State Val) (mv : Move) → (refusal s ≡ 0 → ⊥) → move_effect s L st mv ≡ refuse (refusal s)
unfolding move_refusal
bad_move s L st mv h = let number : state_refusal s L st ≡ refusal s = or_else-first (refusal s) _ h in move-refused s L st mv (λ z. h (sym number ∙ z)) ∙ ap refuse number

module _ {Val : Type 0} (s : LoopNest) (L : Layout) (st : State Val) (mv : Move) where
  -- an accepted nest has the same parts, a refused one the same number
  by_acceptance : {P : Type 0} → (refusal s ≡ 0 → P) → ((refusal s ≡ 0 → ⊥) → P) → P
  by_acceptance ok bad = split (eqb (refusal s) 0) (λ t. ok (eqb-true (refusal s) 0 t)) (λ f. bad (eqb-false (refusal s) 0 f))

  refused_alike : (refusal s ≡ 0 → ⊥) → move_effect (cleared s) L st mv ≡ refuse (refusal s)
  refused_alike h = bad_move (cleared s) L st mv (λ z. h (sym (cleared-refusal s) ∙ z)) ∙ ap refuse (cleared-refusal s)

  -- the places that are no part of a nest are ignored
  pub effect_ignored : move_effect (cleared s) L st mv ≡ move_effect s L st mv
  effect_ignored = by_acceptance (λ ok. same_move (accepted-same s ok) L st mv) (λ h. refused_alike h ∙ sym (bad_move s L st mv h))

  pub after_ignored : (R : Rule Val) → move_after R (cleared s) L st mv ≡ move_after R s L st mv
  after_ignored R =
      by_acceptance (λ ok. ap (after R (cleared s) st) effect_ignored ∙ same_after (accepted-same s ok) R st (move_effect s L st mv))
      (λ h. ap (after R (cleared s) st) (refused_alike h) ∙ sym (ap (after R s st) (bad_move s L st mv h)))
