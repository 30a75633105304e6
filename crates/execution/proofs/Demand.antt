-- Demand 3 of every accepted nest: on tables that the planner made, from a fresh state, any list of moves comes to what specs/Claim.antt says, under every rule.
-- Assumes nothing.
use mathlib.Core.Path.{◌≡◌, refl, sym, ap, ap₂, subst, ◌∙◌}
use mathlib.Core.Bool.{true}
use mathlib.Core.List.{List, [], ◌∷◌, ◌++◌}
use mathlib.Core.Logic.{◌↔◌}
use Prim.Native.Nat.{ℕ, ◌+◌, ◌*◌, ◌≤◌, ◌<◌}
use native.Mathlib.Omega.{arith}
use lib.ListN.{length, get_or, drop, length-append, get_or-append}
use Rattle.nest.specs.declared.LoopNest.{LoopNest}
use Rattle.nest.specs.Nest.{count_of}
use Rattle.nest.specs.Points.{points_of}
use Rattle.nest.specs.Refusals.{refusal}
use Rattle.nest.proofs.Entries.{made_table}
use Rattle.nest.proofs.PointLaws.{source_smaller}
use Rattle.partition.specs.Partition.{steps_of}
use Rattle.partition.proofs.Nests.{steps-length}
use Rattle.partition.proofs.Theorems.{later_step-source}
use Rattle.mapping.specs.Mapping.{processors_of, is_message, message_count}
use Rattle.mapping.proofs.Theorems.{processors-length, processors-below}
use Rattle.sequential.specs.Sequential.{Rule, sequential, rule_of, values_of}
use Rattle.planner.specs.Plan.{Planning}
use Rattle.planner.specs.Plan.{Tables, Plans}
use Rattle.planner.proofs.PlanLaws.{plan-accepted}
use Rattle.execution.specs.Rules.{Move, Effect, refuse, iteration, message, answer, Layout, effect}
use Rattle.execution.specs.Machine.{Machine, fresh_machine, machine_after, machine_view, machine_answer, machine_next, layout_of, reference_run, reference_answers, computed_count, delivered_count, messages_on, allowed_count}
use Rattle.execution.specs.Run.{State, move_effect, move_answer, after, run, answers}
use Rattle.execution.specs.Claim.{Causal, Planned, Fresh, Change, one_iteration, one_message, nothing, NoneMissing, NoneAllowed, Complete, Outcome, Calls, no_call, call}
use Rattle.execution.specs.Entry.{layout_in}
use Rattle.execution.proofs.MachineLaws.{Ordered, Sound, Valid, fresh_sound, fresh_size, effect_valid, run_sound, run-size, progress, stuck, all_delivered, full_size, none_left, finish}
use Rattle.execution.proofs.TableLaws.{SameLayout, Kept, begins_with, fresh_kept, kept_holds, kept_accepted, same_effect, written, run_kept, run-answers, machine-append, machine_snoc, run_snoc}

-- ---- the nest's own layout

-- it is causal: steps fall along sources, and processors are below 2^c
pub causal : (s : LoopNest) → refusal s ≡ 0 → Causal s (layout_of s)
causal s ok = record {
  steps_each = steps-length s;
  processors_each = processors-length s;
  sooner = λ k i j hk hi q. later_step-source s ok i hi j k hk q;
  housed = λ k hk. processors-below s k hk;
}

-- sources of an accepted nest have smaller ranks
pub ordered : (s : LoopNest) (M : Layout) → refusal s ≡ 0 → Causal s M → Ordered s M
ordered s M ok C = record { earlier = source_smaller s ok; sooner = C.sooner; housed = C.housed }

-- lent tables that begin with a layout's agree with it
pub planned-same : (s : LoopNest) (M L : Layout) → Causal s M → Planned M L → SameLayout s L M
planned-same s M L C pl = record {
  steps_room = let e = ap length pl.steps ∙ length-append M.steps pl.behind_steps in omega (arith, C.steps_each);
  processors_room = let e = ap length pl.processors ∙ length-append M.processors pl.behind_processors in omega (arith, C.processors_each);
  step = λ k h. ap (λ t. get_or t k 0) pl.steps ∙ get_or-append M.steps pl.behind_steps 0 k (omega (arith, C.steps_each));
  processor = λ k h. ap (λ t. get_or t k 0) pl.processors ∙ get_or-append M.processors pl.behind_processors 0 k (omega (arith, C.processors_each));
}

-- ---- demand 3

-- on any layout whose steps fall along sources and whose processors are below 2^c
module _ {Val : Type 0} (R : Rule Val) (s : LoopNest) (M L : Layout) (st₀ : State Val) (ok : refusal s ≡ 0) (ca : Causal s M) (pl : Planned M L) (fr : Fresh s st₀) where
  -- sources come earlier in rank and step
  abbrev C : Ordered s M
  C = ordered s M ok ca

  -- the lent tables agree with the layout
  abbrev same : SameLayout s L M
  same = planned-same s M L ca pl

  -- the reference machine is sound after every list
  sound : (ms : List Move) → Sound s M (reference_run s M ms)
  sound ms = run_sound s M fresh_machine ms (fresh_sound s M)

  -- and the tables hold what it does
  kept : (ms : List Move) → Kept R s st₀ (reference_run s M ms) (run R s L st₀ ms)
  kept ms = run_kept R s ok L M C same st₀ fr fresh_machine st₀ ms (fresh_sound s M) (fresh_kept R s ok L M C same st₀ fr)

  -- the numbers answered are its own
  same_numbers : (ms : List Move) → answers R s L st₀ ms ≡ reference_answers s M ms
  same_numbers ms = run-answers R s ok L M C same st₀ fr fresh_machine st₀ ms (fresh_sound s M) (fresh_kept R s ok L M C same st₀ fr)

  -- the next move, whatever it is, comes to the same on both
  next_effect : (ms : List Move) (mv : Move) → move_effect s L (run R s L st₀ ms) mv ≡ effect s (machine_view M (reference_run s M ms)) mv
  next_effect ms mv = same_effect R s ok L M C same st₀ fr (reference_run s M ms) (run R s L st₀ ms) (kept ms) mv

  -- and is answered the same
  next_answer : (ms : List Move) (mv : Move) → move_answer s L (run R s L st₀ ms) mv ≡ machine_answer s M (reference_run s M ms) mv
  next_answer ms mv = ap answer (next_effect ms mv)

  -- an effect changes one thing or nothing
  change_of : (ms : List Move) (x : Effect) → Valid s M (reference_run s M ms) x
      → Change R s M (reference_run s M ms) (run R s L st₀ ms) (answer x) (machine_after (reference_run s M ms) x) (after R s (run R s L st₀ ms) x)
  change_of ms (refuse a) w = nothing w
  change_of ms (iteration k) w = one_iteration w.0 w.1 (written R s ok L M C same st₀ fr (reference_run s M ms) (run R s L st₀ ms) k w (kept ms))
  change_of ms (message k i) w = one_message w.0 w.1 w.3 w.2

  -- and so does a move
  change : (front : List Move) (mv : Move)
      → Change R s M (reference_run s M front) (run R s L st₀ front) (move_answer s L (run R s L st₀ front) mv) (reference_run s M (front ++ (mv ∷ []))) (run R s L st₀ (front ++ (mv ∷ [])))
  change front mv =
      let b = reference_run s M front in
      let st = run R s L st₀ front in
      let x = effect s (machine_view M b) mv in
      let done = change_of front x (effect_valid s M b (sound front) mv) in
      let here = subst (λ y. Change R s M b st (answer y) (machine_after b x) (after R s st y)) (sym (next_effect front mv)) done in
      subst (λ c. Change R s M b st (move_answer s L st mv) c (run R s L st₀ (front ++ (mv ∷ [])))) (sym (machine_snoc s M fresh_machine front mv))
      (subst (λ u. Change R s M b st (move_answer s L st mv) (machine_next s M b mv) u) (sym (run_snoc R s L st₀ front mv)) here)

  -- allowed moves = computed iterations + delivered messages
  count-allowed : (ms : List Move) → allowed_count (answers R s L st₀ ms) ≡ computed_count s (reference_run s M ms) + delivered_count s (reference_run s M ms)
  count-allowed ms = ap allowed_count (same_numbers ms) ∙ omega (arith, run-size s M fresh_machine ms (fresh_sound s M), fresh_size s M)

  -- no iteration is missing where no move is allowed
  ended : (ms : List Move) → NoneAllowed s L (run R s L st₀ ms) → NoneMissing s (reference_run s M ms)
  ended ms none = stuck s M (reference_run s M ms) C (λ mv e. none mv (next_answer ms mv ∙ e))

  -- and then the run is complete
  complete : (ms : List Move) → NoneMissing s (reference_run s M ms) → Complete R s M st₀ (reference_run s M ms) (run R s L st₀ ms) (answers R s L st₀ ms)
  complete ms all = record {
    table = begins_with R s (run R s L st₀ ms).values (subst (λ z. length (points_of s) ≤ z) (sym (kept ms).values_length) fr.values_room) (λ k l d. (kept ms).value k l (all k l) d)
        ∙ ap (λ t. sequential R s ++ t) (kept ms).values_behind;
    all_delivered = all_delivered s M (reference_run s M ms) (sound ms) all;
    all_allowed = count-allowed ms ∙ full_size s M (reference_run s M ms) (sound ms) all;
  }

  -- Demand 3 on that layout
  pub layout-outcome : (ms : List Move) → Outcome R s M L st₀ ms
  layout-outcome ms = record {
    same_answers = same_numbers ms;
    holds = kept_holds R s ok L M C same st₀ fr (reference_run s M ms) (run R s L st₀ ms) (sound ms) (kept ms);
    each_move = λ front back mv e. change front mv;
    no_refusal = λ front back e. kept_accepted R s ok L M C same st₀ fr (reference_run s M front) (run R s L st₀ front) (kept front);
    allowed = count-allowed ms;
    progress = λ k l e. let p = progress s M (reference_run s M ms) C k l e in (p.0, p.1, next_answer ms p.0 ∙ p.1);
    none_allowed = ended ms;
    none_missing = λ all mv e. none_left s M (reference_run s M ms) (sound ms) all mv (sym (next_answer ms mv) ∙ e);
    complete_unless_allowed = λ none. complete ms (ended ms none);
    complete_unless_missing = complete ms;
  }

-- Demand 3, on the nest's own layout
pub run-outcome : {Val : Type 0} (R : Rule Val) (s : LoopNest) (L : Layout) (st₀ : State Val) → refusal s ≡ 0 → Planned (layout_of s) L → Fresh s st₀ → (ms : List Move) → Outcome R s (layout_of s) L st₀ ms
run-outcome R s L st₀ ok pl fr ms = layout-outcome R s (layout_of s) L st₀ ok (causal s ok) pl fr ms

-- its messages are those that the plan counts
pub own_messages : (s : LoopNest) → messages_on s (layout_of s) ≡ message_count s
unfolding message_count
own_messages s = refl

-- ---- from what `plan` promises

module _ (s : LoopNest) (old : Tables) (r : Planning) (new : Tables) (P : Plans s old r new) (z : r.refusal ≡ 0) where
  -- the step and processor tables of a plan that was not refused begin with the nest's own
  pub plan-planned : Planned (layout_of s) (layout_in new.steps new.processors)
  plan-planned = record {
    behind_steps = drop (length (steps_of s)) old.steps;
    behind_processors = drop (length (processors_of s)) old.processors;
    steps = P.1.0 ∙ made_table r.refusal _ (steps_of s) old.steps z refl;
    processors = P.1.1.1.0 ∙ made_table r.refusal _ (processors_of s) old.processors z refl;
  }

  -- Demand 3 on the tables that the call left
  pub plan-outcome : {Val : Type 0} (R : Rule Val) (st₀ : State Val) → Fresh s st₀ → (ms : List Move) → Outcome R s (layout_of s) (layout_in new.steps new.processors) st₀ ms
  plan-outcome R st₀ fr ms = run-outcome R s (layout_in new.steps new.processors) st₀ (plan-accepted s old r new P z) plan-planned fr ms

-- ---- the weighted sum

-- under the nest's own rule a complete run's table is the table of values that the planner writes
pub weighted-table : (s : LoopNest) (st₀ : State ℕ) (b : Machine) (st : State ℕ) (numbers : List ℕ) → (M : Layout) → Complete (rule_of s) s M st₀ b st numbers
    → st.values ≡ values_of s ++ drop (length (points_of s)) st₀.values
unfolding values_of
weighted-table s st₀ b st numbers M c = c.table

-- ---- calls

-- a list of calls answers and leaves what the run does
pub calls-run : {Val : Type 0} (R : Rule Val) (s : LoopNest) (L : Layout) (st : State Val) (ms : List Move) (numbers : List ℕ) (last : State Val) → Calls R s L st ms numbers last
    → (numbers ≡ answers R s L st ms) × (last ≡ run R s L st ms)
calls-run R s L st ms numbers last no_call = (refl, refl)
calls-run R s L st ms numbers last (call {st' = st'} {ms = rest} {numbers = others} m c) =
    let h = calls-run R s L st' rest others last c in
    (ap₂ ◌∷◌ m.0 (h.0 ∙ ap (λ u. answers R s L u rest) m.1), h.1 ∙ ap (λ u. run R s L u rest) m.1)

-- ---- the messages that are ever delivered

-- every list of moves on a causal layout can be continued until no iteration is missing
pub can_complete : (s : LoopNest) (M : Layout) → refusal s ≡ 0 → Causal s M → (ms : List Move) → (more : List Move) × NoneMissing s (reference_run s M (ms ++ more))
can_complete s M ok C ms =
    let sd = run_sound s M fresh_machine ms (fresh_sound s M) in
    let r = finish s M (ordered s M ok C) (length (points_of s) + length (points_of s) * count_of s) (reference_run s M ms) sd (omega arith) in
    (r.0, λ k l. ap (λ (b : Machine). b.computed k) (machine-append s M fresh_machine ms r.0) ∙ r.1 k l)

-- the pairs that the reference machine can ever deliver are the messages; `messages-counted` says that `message_count` is their number
pub deliverable_iff : (s : LoopNest) (M : Layout) → refusal s ≡ 0 → Causal s M → (k i : ℕ)
    → ((ms : List Move) × ((reference_run s M ms).delivered k i ≡ true)) ↔ ((k < length (points_of s)) × (i < count_of s) × (is_message s M.processors k i ≡ true))
deliverable_iff s M ok C k i = (
  λ d. (run_sound s M fresh_machine d.0 (fresh_sound s M)).messages k i d.1,
  λ m.
      let r = can_complete s M ok C [] in
      (r.0, all_delivered s M (reference_run s M r.0) (run_sound s M fresh_machine r.0 (fresh_sound s M)) r.1 k i m.0 m.1 ∙ m.2),
)
