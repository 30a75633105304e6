-- Demand 3 of the entry itself: a list of calls of `make_move`, each as its contract says, is a run, so that the claim speaks of the entry's own answers and buffers.
-- Assumes nothing.
use mathlib.Core.Path.{◌≡◌, refl, sym, ap, ap₂, subst, ◌∙◌}
use mathlib.Core.List.{List, ◌∷◌, map}
use Prim.Native.Nat.{ℕ}
use Rattle.nest.specs.declared.LoopNest.{LoopNest}
use Rattle.nest.specs.Refusals.{refusal}
use Rattle.sequential.specs.Sequential.{rule_of, values_of}
use Rattle.execution.specs.declared.Move as asked
use Rattle.execution.specs.Answer.{Answer, Computed}
use Rattle.execution.specs.Rules.{Move, Effect, refuse, iteration, message, Layout, effect}
use Rattle.execution.specs.Machine.{Machine, fresh_machine, machine_view, machine_next, machine_told}
use Rattle.execution.specs.Run.{State, run, answers}
use Rattle.execution.specs.Claim.{Causal, Planned, Fresh, Outcome, Calls, no_call, call}
use Rattle.execution.specs.Entry.{move_of, number_of, answer_of, EntryCalls, no_entry, entry, told_by}
use Rattle.execution.proofs.MachineLaws.{Ordered, Sound, Valid, fresh_sound, effect_valid, next_sound}
use Rattle.execution.proofs.TableLaws.{SameLayout, Kept, fresh_kept, same_effect, written, next_kept}
use Rattle.execution.proofs.Demand.{ordered, planned-same, layout-outcome, calls-run}

-- what the contract of `make_move` says of each call is what `Calls` asks of it, under the nest's own rule
pub entry-calls : (s : LoopNest) (L : Layout) (st : State ℕ) (whats : List asked.Move) (rs : List Answer) (last : State ℕ) → EntryCalls s L st whats rs last
    → Calls (rule_of s) s L st (map move_of whats) (map number_of rs) last
entry-calls s L st whats rs last no_entry = no_call
entry-calls s L st whats rs last (entry {st' = st'} {whats = others} {rs = more} m c) = call m.1 (entry-calls s L st' others more last c)

-- on any causal layout
module _ (s : LoopNest) (M L : Layout) (st₀ : State ℕ) (ok : refusal s ≡ 0) (C : Causal s M) (pl : Planned M L) (fr : Fresh s st₀) where
  module _ (whats : List asked.Move) (rs : List Answer) (last : State ℕ) (calls : EntryCalls s L st₀ whats rs last) where
    -- the moves that were asked for
    abbrev moves : List Move
    moves = map move_of whats

    -- the claim about them
    pub entry-outcome : Outcome (rule_of s) s M L st₀ moves
    entry-outcome = layout-outcome (rule_of s) s M L st₀ ok C pl fr moves

    -- the entry's numbers and the buffers that it left are those of the run
    pub entry-run : (map number_of rs ≡ answers (rule_of s) s L st₀ moves) × (last ≡ run (rule_of s) s L st₀ moves)
    entry-run = calls-run (rule_of s) s L st₀ moves (map number_of rs) last (entry-calls s L st₀ whats rs last calls)

-- ---- the answers in full: what a compute says that it computed is the sequential loop's value, of the iteration that the reference machine computes
module _ (s : LoopNest) (M L : Layout) (st₀ : State ℕ) (ok : refusal s ≡ 0) (ca : Causal s M) (pl : Planned M L) (fr : Fresh s st₀) where
  abbrev C : Ordered s M
  C = ordered s M ok ca

  abbrev same : SameLayout s L M
  same = planned-same s M L ca pl

  -- an effect is told as the reference machine tells it
  told-effect : (b : Machine) (st : State ℕ) (x : Effect) → Valid s M b x → Kept (rule_of s) s st₀ b st → answer_of s st.values x ≡ told_by s x
  unfolding answer_of told_by values_of
  told-effect b st (refuse a) w h = refl
  told-effect b st (iteration k) w h = ap (λ z. Computed (record { rank = k; value = z })) (written (rule_of s) s ok L M C same st₀ fr b st k w h 0)
  told-effect b st (message k i) w h = refl

  -- and so is a list of them
  told-from : (b : Machine) (st : State ℕ) (whats : List asked.Move) (rs : List Answer) (last : State ℕ) → Sound s M b → Kept (rule_of s) s st₀ b st → EntryCalls s L st whats rs last
      → rs ≡ machine_told s M (told_by s) b (map move_of whats)
  told-from b st whats rs last sd h no_entry = refl
  told-from b st whats rs last sd h (entry {st' = st'} {what = what} {whats = others} {rs = more} m c) =
      let mv = move_of what in
      let x = effect s (machine_view M b) mv in
      let q = same_effect (rule_of s) s ok L M C same st₀ fr b st h mv in
      ap₂ ◌∷◌ (m.0 ∙ ap (answer_of s st.values) q ∙ told-effect b st x (effect_valid s M b sd mv) h)
      (told-from (machine_next s M b mv) st' others more last (next_sound s M b sd mv)
      (subst (Kept (rule_of s) s st₀ (machine_next s M b mv)) (sym m.1.1) (next_kept (rule_of s) s ok L M C same st₀ fr b st sd h mv)) c)

  -- from a fresh state
  pub entry-told : (whats : List asked.Move) (rs : List Answer) (last : State ℕ) → EntryCalls s L st₀ whats rs last → rs ≡ machine_told s M (told_by s) fresh_machine (map move_of whats)
  entry-told whats rs last = told-from fresh_machine st₀ whats rs last (fresh_sound s M) (fresh_kept (rule_of s) s ok L M C same st₀ fr)
