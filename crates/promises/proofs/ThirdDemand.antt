-- Demand 3, from the claim that `execution` proves of every list of moves on a causal layout.
-- Assumes nothing.
use mathlib.Core.Path.{◌≡◌, refl, sym, ap, ap₂, subst, ◌∙◌}
use mathlib.Core.List.{List, [], ◌∷◌, ◌++◌, map, map-map}
use mathlib.Core.Logic.{◌≢◌}
use Prim.Native.Nat.{ℕ, ◌+◌, ◌≤◌}
use lib.ListN.{length}
use Rattle.nest.specs.declared.LoopNest.{LoopNest}
use Rattle.nest.specs.Points.{points_of}
use Rattle.nest.specs.Refusals.{refusal}
use Rattle.mapping.specs.Mapping.{message_count}
use Rattle.mapping.proofs.Theorems.{message_true, true_message}
use Rattle.sequential.specs.Sequential.{Rule, rule_of}
use Rattle.planner.specs.Plan.{Planning}
use Rattle.planner.specs.Plan.{plan_answer}
use Rattle.planner.proofs.PlanLaws.{plan-answer, plan-accepted}
use Rattle.execution.specs.declared.Move as asked
use Rattle.execution.specs.Answer.{Answer}
use Rattle.execution.specs.Rules.{Move, Effect, refuse, iteration, message, answer, Layout, effect}
use Rattle.execution.specs.Machine.{Machine, fresh_machine, layout_of, reference_run}
use Rattle.execution.specs.Words.{SaysList, no_move, next_move}
use Rattle.execution.specs.Run.{State, state_view, state_refusal, move_answer, move_after, run, answers}
use Rattle.execution.specs.Claim.{Planned, Fresh, Change, one_iteration, one_message, nothing, NoneMissing, NoneAllowed, Complete, Outcome, MoveCall, Calls}
use Rattle.execution.specs.Entry.{move_of, number_of, EntryCalls, no_entry, entry, told_by}
use Rattle.execution.proofs.RuleLaws.{Numbered, effect-number, move_rules}
use Rattle.execution.proofs.WordLaws.{list-says}
use Rattle.execution.proofs.TableLaws.{run_snoc, answers_snoc}
use Rattle.execution.proofs.Demand.{causal, layout-outcome, own_messages, plan-planned, calls-run}
use Rattle.execution.proofs.EntryRuns.{entry-calls, entry-told}
use Rattle.foreign.specs.Numbers.{Asked, asked_move, made_in, NumberCalls, none_asked, next_asked}
use Rattle.promises.specs.Demand3.{Reference, FreshState, OnPlan, OneMove, computes_one, delivers_one, changes_nothing, NothingAllowed, Finished, Comes, Demand3}

-- ---- a move

-- one that is not refused with 2 to 14 is answered by the rules, whose numbers are 15 to 18
rule_number : {Val : Type 0} (s : LoopNest) (L : Layout) (st : State Val) (mv : Move) → state_refusal s L st ≡ 0 → move_answer s L st mv ≢ 0
    → (15 ≤ move_answer s L st mv) × (move_answer s L st mv ≤ 18)
rule_number s L st mv e =
    subst (λ x. answer x ≢ 0 → (15 ≤ answer x) × (answer x ≤ 18)) (sym (move_rules s L st mv e)) (go (effect s (state_view L st) mv) (effect-number s (state_view L st) mv))
  where
    go : (x : Effect) → Numbered s (state_view L st) mv x → answer x ≢ 0 → (15 ≤ answer x) × (answer x ≤ 18)
    go (refuse a) h n = h
    go (iteration k) h n = absurd (n refl)
    go (message k i) h n = absurd (n refl)

-- what the claim says that a move changes is what the demand says
one-move : {Val : Type 0} {R : Rule Val} {s : LoopNest} {b c : Machine} {st st' : State Val} {a : ℕ} → Change R s (layout_of s) b st a c st' → (a ≢ 0 → (15 ≤ a) × (a ≤ 18))
    → OneMove R s b st a c st'
one-move (one_iteration {k = k} {x = x} h e v) n = computes_one k x h e v
one-move {s = s} (one_message {k = k} {i = i} h l m e) n = delivers_one k i (h, l, message_true s (layout_of s).processors k i m) e
one-move (nothing {a = a} e) n = let l = n e in changes_nothing a l.0 l.1

-- ---- the plan

-- its answer counts iterations and messages
plan-counts : (s : LoopNest) → length (points_of s) + message_count s ≡ (plan_answer s 0).iterations + (plan_answer s 0).messages
unfolding plan_answer
plan-counts s = refl

-- ---- a list of moves under a rule
module _ {Val : Type 0} (R : Rule Val) (s : LoopNest) (p : Planning) (L : Layout) (on : OnPlan s p L) (st₀ : State Val) (f : FreshState s st₀) where
  -- the nest is accepted
  accepted : refusal s ≡ 0
  accepted = plan-accepted s on.old p on.new on.plans on.not_refused

  -- the lent tables begin with its steps and processors
  planned : Planned (layout_of s) L
  planned = subst (Planned (layout_of s)) (sym on.lent) (plan-planned s on.old p on.new on.plans on.not_refused)

  -- the state is what the claim calls fresh
  fresh : Fresh s st₀
  fresh = record {
    values_room = f.value_each;
    done_room = f.done_each;
    delivered_room = f.delivered_each;
    none_done = f.done_zero;
    none_delivered = f.delivered_zero;
  }

  -- so the claim holds
  outcome : (ms : List Move) → Outcome R s (layout_of s) L st₀ ms
  outcome ms = layout-outcome R s (layout_of s) L st₀ accepted (causal s accepted) planned fresh ms

  module _ (ms : List Move) where
    -- the reference machine, the numbers and the state after the moves
    abbrev b : Machine
    b = reference_run s (layout_of s) ms

    abbrev numbers : List ℕ
    numbers = answers R s L st₀ ms

    abbrev last : State Val
    last = run R s L st₀ ms

    -- the sentences say these numbers
    said : (ns : List Move) → Reference answer s ns (answers R s L st₀ ns) (reference_run s (layout_of s) ns)
    said ns =
        subst (λ xs. Reference answer s ns xs (reference_run s (layout_of s) ns)) (sym (outcome ns).same_answers) (list-says answer s (layout_of s) fresh_machine ns)

    -- one move more
    more : (mv : Move) (a : ℕ) (st : State Val) → MoveCall R s L last mv a st
        → (c : Machine) × Reference answer s (ms ++ (mv ∷ [])) (numbers ++ (a ∷ [])) c × OneMove R s b last a c st
    more mv a st m =
        let ns = ms ++ (mv ∷ []) in
        let c = reference_run s (layout_of s) ns in
        let change = (outcome ns).each_move ms [] mv refl in
        let here : OneMove R s b last (move_answer s L last mv) c (run R s L st₀ ns) = one-move change (rule_number s L last mv ((outcome ns).no_refusal ms (mv ∷ []) refl)) in (
          c,
          subst (λ xs. Reference answer s ns xs c) (answers_snoc R s L st₀ ms mv ∙ ap (λ z. numbers ++ (z ∷ [])) (sym m.0)) (said ns),
          subst (λ z. OneMove R s b last z c st) (sym m.0) (subst (OneMove R s b last (move_answer s L last mv) c) (run_snoc R s L st₀ ms mv ∙ sym m.1) here),
        )

    -- where no move is allowed
    none_is : NothingAllowed R s p L st₀ last → NoneAllowed s L last
    none_is none mv = none mv (move_answer s L last mv) (move_after R s L last mv) (refl, refl)

    -- a complete run
    finished : NoneMissing s b → Complete R s (layout_of s) st₀ b last numbers → Finished R s p L st₀ b numbers last
    finished all c = record {
      all_computed = all;
      all_delivered = λ k i m. c.all_delivered k i m.0 m.1 ∙ true_message s (layout_of s).processors k i m.2;
      table = c.table;
      all_allowed = c.all_allowed ∙ ap (λ z. length (points_of s) + z) (own_messages s) ∙ plan-counts s ∙ ap (λ (x : Planning). x.iterations + x.messages) (sym (plan-answer s on.old p on.new on.plans on.not_refused));
    }

    comes_run : Comes R s p L st₀ ms numbers last
    comes_run =
        let o = outcome ms in
        let h = o.holds in
        record {
          machine = b;
          answers = said ms;
          done = h.done;
          not_done = h.not_done;
          delivered = h.delivered;
          value = h.value;
          missing = h.missing;
          values_behind = h.values_behind;
          done_behind = h.done_behind;
          delivered_behind = h.delivered_behind;
          values_length = h.values_length;
          done_length = h.done_length;
          delivered_length = h.delivered_length;
          one_more = more;
          allowed = o.allowed;
          progress = λ k l e. let q = o.progress k l e in (q.0, λ a st m. m.0 ∙ q.2);
          none_allowed = λ none. let n = none_is none in finished (o.none_allowed n) (o.complete_unless_allowed n);
          none_missing = λ all. (finished all (o.complete_unless_missing all), λ mv a st m e. o.none_missing all mv (sym m.0 ∙ e));
        }

  -- a list of calls
  comes : (ms : List Move) (numbers : List ℕ) (last : State Val) → Calls R s L st₀ ms numbers last → Comes R s p L st₀ ms numbers last
  comes ms numbers last calls =
      let e = calls-run R s L st₀ ms numbers last calls in
      subst (λ ns. Comes R s p L st₀ ms ns last) (sym e.0) (subst (Comes R s p L st₀ ms (answers R s L st₀ ms)) (sym e.1) (comes_run ms))

-- ---- calls of the entry

-- what each answer says
entries-told : (s : LoopNest) (p : Planning) (L : Layout) → OnPlan s p L → (st₀ : State ℕ) → FreshState s st₀ → (whats : List asked.Move) (rs : List Answer) (last : State ℕ)
    → EntryCalls s L st₀ whats rs last → Reference (told_by s) s (map move_of whats) rs (reference_run s (layout_of s) (map move_of whats))
entries-told s p L on st₀ f whats rs last calls =
    let ok = accepted (rule_of s) s p L on st₀ f in
    let e = entry-told s (layout_of s) L st₀ ok (causal s ok) (planned (rule_of s) s p L on st₀ f) (fresh (rule_of s) s p L on st₀ f) whats rs last calls in
    subst (λ xs. Reference (told_by s) s (map move_of whats) xs (reference_run s (layout_of s) (map move_of whats))) (sym e)
    (list-says (told_by s) s (layout_of s) fresh_machine (map move_of whats))

-- ---- calls on numbers

-- they are calls of the entry, with each answer as numbers
record AsEntries (s : LoopNest) (L : Layout) (st : State ℕ) (asks : List Asked) (numbers : List ℕ) (mades : List (List ℕ)) (last : State ℕ) : Type 0 where
  pub answered : List Answer
  pub calls : EntryCalls s L st (map asked_move asks) answered last
  pub numbers_are : numbers ≡ map number_of answered
  pub mades_are : mades ≡ map made_in answered

as_entries : (s : LoopNest) (L : Layout) (st : State ℕ) (asks : List Asked) (numbers : List ℕ) (mades : List (List ℕ)) (last : State ℕ) → NumberCalls s L st asks numbers mades last
    → AsEntries s L st asks numbers mades last
as_entries s L st asks numbers mades last none_asked = record { answered = []; calls = no_entry; numbers_are = refl; mades_are = refl }
as_entries s L st asks numbers mades last (next_asked {st' = st'} {more = more} {numbers = ns} {mades = others} m c) =
    let h = as_entries s L st' more ns others last c in
    record {
      answered = m.0 ∷ h.answered;
      calls = entry m.1 h.calls;
      numbers_are = ap₂ ◌∷◌ m.2 h.numbers_are;
      mades_are = ap₂ ◌∷◌ m.3 h.mades_are;
    }

-- what is said of effects told in one way holds of them told in another
told_as : {A B : Type 0} (tell : Effect → A) (g : A → B) (s : LoopNest) (L : Layout) (b : Machine) (ms : List Move) (told : List A) (last : Machine)
    → SaysList tell s L b ms told last → SaysList (λ x. g (tell x)) s L b ms (map g told) last
told_as tell g s L b ms told last no_move = no_move
told_as tell g s L b ms told last (next_move {ms = rest} {x = x} {told = others} w r) = next_move w (told_as tell g s L _ rest others last r)

-- ---- demand 3
pub demand_3 : Demand3
demand_3 = record {
  every_rule = λ R s p L on st₀ f ms numbers last c. comes R s p L on st₀ f ms numbers last c;
  calls = λ s p L on st₀ f whats rs last c.
      (comes (rule_of s) s p L on st₀ f (map move_of whats) (map number_of rs) last (entry-calls s L st₀ whats rs last c), (reference_run s (layout_of s) (map move_of whats), entries-told s p L on st₀ f whats rs last c));
  number_calls = λ s p L on st₀ f asks numbers mades last c.
      let e = as_entries s L st₀ asks numbers mades last c in
      let whats = map asked_move asks in
      let same = map-map move_of asked_move asks in
      let told = entries-told s p L on st₀ f whats e.answered last e.calls in
      let run = comes (rule_of s) s p L on st₀ f (map move_of whats) (map number_of e.answered) last (entry-calls s L st₀ whats e.answered last e.calls) in
      let b = reference_run s (layout_of s) (map move_of whats) in (
        subst (λ ms. Comes (rule_of s) s p L st₀ ms numbers last) same (subst (λ ns. Comes (rule_of s) s p L st₀ (map move_of whats) ns last) (sym e.numbers_are) run),
        (
          b,
          subst (λ ms. Reference (λ x. made_in (told_by s x)) s ms mades b) same
              (subst (λ xs. Reference (λ x. made_in (told_by s x)) s (map move_of whats) xs b) (sym e.mades_are)
              (told_as (told_by s) made_in s (layout_of s) fresh_machine (map move_of whats) e.answered b told)),
        ),
      );
}
