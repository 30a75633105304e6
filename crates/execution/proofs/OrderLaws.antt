-- A run cannot tell two layouts apart whose steps have the same order: the least in step is the same, so each move comes to the same, and so does every list of moves.
-- Assumes nothing.
use mathlib.Core.Path.{◌≡◌, refl, sym, ap, ap₂, ◌∙◌}
use mathlib.Core.Bool.{Bool, true, false}
use mathlib.Core.List.{List, [], ◌∷◌, ◌++◌}
use Prim.Native.Nat.{ℕ, ◌+◌, ◌<◌}
use native.Mathlib.Omega.{arith}
use lib.Dec.{eqb}
use lib.ListN.{length, get_or, length-append, get_or-append}
use Rattle.nest.specs.declared.LoopNest.{LoopNest}
use Rattle.nest.specs.Points.{points_of}
use Rattle.nest.specs.Refusals.{refusal}
use Rattle.partition.specs.Partition.{steps_of, elapsed_of}
use Rattle.partition.proofs.Nests.{steps-length, elapsed-length}
use Rattle.partition.proofs.Theorems.{elapsed-order}
use Rattle.sequential.specs.Sequential.{Rule}
use Rattle.execution.specs.Rules.{Move, Effect, refuse, answer, Layout, effect}
use Rattle.execution.specs.Machine.{Machine, machine_after, machine_view, machine_next, machine_run, machine_told}
use Rattle.execution.specs.Run.{State, state_view, move_refusal, move_effect, after, move_after, run, answers}
use Rattle.execution.specs.Order.{SameOrder, SameRun, on_steps, StepsChangeNothing}
use Rattle.execution.proofs.RuleLaws.{effect-same}

module _ (s : LoopNest) (L M : Layout) (same : SameOrder s L M) where
  -- a move comes to the same on both: the least in step is the same
  pub effect-same-order : (done : ℕ → Bool) (delivered : ℕ → ℕ → Bool) (mv : Move)
      → effect s (record { layout = L; done = done; delivered = delivered }) mv ≡ effect s (record { layout = M; done = done; delivered = delivered }) mv
  effect-same-order done delivered =
      effect-same s (record { layout = L; done = done; delivered = delivered }) (record { layout = M; done = done; delivered = delivered })
      (record { earlier = same.earlier; processor = λ k l. ap (λ (ps : List ℕ). get_or ps k 0) same.processors; done = λ k l. refl; delivered = λ k i l m. refl })

  -- ---- the reference machine

  machine-effect : (b : Machine) (mv : Move) → effect s (machine_view L b) mv ≡ effect s (machine_view M b) mv
  machine-effect b mv = effect-same-order b.computed b.delivered mv

  -- it answers the same
  pub told-same-order : {A : Type 0} (tell : Effect → A) (b : Machine) (ms : List Move) → machine_told s L tell b ms ≡ machine_told s M tell b ms
  told-same-order tell b [] = refl
  told-same-order tell b (mv ∷ ms) =
      ap₂ ◌∷◌ (ap tell (machine-effect b mv))
      (told-same-order tell (machine_next s L b mv) ms ∙ ap (λ x. machine_told s M tell (machine_after b x) ms) (machine-effect b mv))

  -- and holds the same
  pub held-same-order : (b : Machine) (ms : List Move) → machine_run s L b ms ≡ machine_run s M b ms
  held-same-order b [] = refl
  held-same-order b (mv ∷ ms) = held-same-order (machine_next s L b mv) ms ∙ ap (λ x. machine_run s M (machine_after b x) ms) (machine-effect b mv)

  -- ---- lent tables of any content

  module _ {Val : Type 0} where
    -- 2 to 14, then the rules
    pub move-same-order : (st : State Val) (mv : Move) → move_effect s L st mv ≡ move_effect s M st mv
    unfolding move_effect
    move-same-order st mv =
        let e = effect-same-order (state_view L st).done (state_view L st).delivered mv in
        λ x.
        let a = move_refusal s (same.as_long x) (length (same.processors x)) (length st.values) (length st.done) (length st.delivered) in
        elim (eqb a 0) [ true ↦ e x | false ↦ refuse a ]

    module _ (R : Rule Val) where
      -- moves are answered the same
      pub answers-same-order : (st : State Val) (ms : List Move) → answers R s L st ms ≡ answers R s M st ms
      answers-same-order st [] = refl
      answers-same-order st (mv ∷ ms) =
          ap₂ ◌∷◌ (ap answer (move-same-order st mv))
          (answers-same-order (move_after R s L st mv) ms ∙ ap (λ x. answers R s M (after R s st x) ms) (move-same-order st mv))

      -- and leave the same
      pub run-same-order : (st : State Val) (ms : List Move) → run R s L st ms ≡ run R s M st ms
      run-same-order st [] = refl
      run-same-order st (mv ∷ ms) = run-same-order (move_after R s L st mv) ms ∙ ap (λ x. run R s M (after R s st x) ms) (move-same-order st mv)

-- all of it
pub same-run : (s : LoopNest) (L M : Layout) → SameOrder s L M → SameRun s L M
same-run s L M same = record {
  told = told-same-order s L M same;
  held = held-same-order s L M same;
  comes_to = move-same-order s L M same;
  answered = answers-same-order s L M same;
  left = run-same-order s L M same;
}

-- ---- document 02's steps and document 01's
pub steps-same-order : (s : LoopNest) → refusal s ≡ 0 → (behind processors : List ℕ) → SameOrder s (on_steps (steps_of s) behind processors) (on_steps (elapsed_of s) behind processors)
steps-same-order s ok behind processors = record {
  processors = refl;
  as_long = length-append (steps_of s) behind ∙ ap (λ n. n + length behind) (steps-length s ∙ sym (elapsed-length s)) ∙ sym (length-append (elapsed_of s) behind);
  earlier = λ j k hj hk.
      let r = elapsed-order s ok j k hj hk in
      let a = front (steps_of s) (steps-length s) j hj in
      let b = front (steps_of s) (steps-length s) k hk in
      let c = front (elapsed_of s) (elapsed-length s) j hj in
      let d = front (elapsed_of s) (elapsed-length s) k hk in
      (λ h. omega (arith, r.1 (omega (arith, h, a, b)), c, d), λ h. omega (arith, r.0 (omega (arith, h, c, d)), a, b));
}
  where
    -- an entry of the table in front
    front : (table : List ℕ) → length table ≡ length (points_of s) → (k : ℕ) → k < length (points_of s) → get_or (table ++ behind) k 0 ≡ get_or table k 0
    front table e k h = get_or-append table behind 0 k (omega (arith, e, h))

pub steps_change_nothing : (s : LoopNest) → refusal s ≡ 0 → StepsChangeNothing s
steps_change_nothing s ok behind processors = same-run s (on_steps (steps_of s) behind processors) (on_steps (elapsed_of s) behind processors) (steps-same-order s ok behind processors)
