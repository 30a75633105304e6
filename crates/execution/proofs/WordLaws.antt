-- The executable rules are document 01's sentences: what they do the sentences say, and the sentences leave no choice.
-- The numbers that these refuse with are what the refusals, in their order, answer.
-- Assumes nothing.
use mathlib.Core.Path.{◌≡◌, refl, sym, ap, ap₂, subst, ◌∙◌}
use mathlib.Core.Bool.{true, false, not, ◌&&◌}
use mathlib.Core.List.{List, [], ◌∷◌}
use mathlib.Core.Logic.{inl, inr, ◌↔◌}
use mathlib.Core.Option.{none, some}
use Prim.Native.Nat.{ℕ, ◌^◌, ◌<◌}
use native.Mathlib.Omega.{arith}
use borrow.Author.Tests.{eqb-true, eq-eqb, not-true}
use lib.Dec.{eqb}
use lib.ListN.{length}
use Rattle.integers.proofs.Lists.{split, clash, and_left, and_right}
use Rattle.nest.specs.declared.LoopNest.{LoopNest}
use Rattle.nest.specs.Nest.{to_ℕ, count_of}
use Rattle.nest.specs.Points.{points_of}
use Rattle.nest.specs.Refusals.{Answered}
use Rattle.nest.specs.Sources.{source_rank}
use Rattle.mapping.specs.Mapping.{is_message}
use Rattle.mapping.proofs.Theorems.{message_true, true_message}
use Rattle.execution.specs.Rules.{every, Move, compute, deliver, Effect, refuse, iteration, message, answer, Layout, View, step_in, processor_in, waits, there, source_done, taking, effect, ready}
use Rattle.execution.specs.Machine.{Machine, machine_after, machine_view, machine_next, machine_run, machine_told}
use Rattle.execution.specs.Words.{Takes, Present, Absent, Sent, Idle, SourceAbsent, OutOfTurn, Says, no_processor, idle_processor, waiting, computes, no_place, out_of_turn, delivers, rule_order, SaysList, no_move, next_move}
use Rattle.execution.proofs.Base.{eq?, opt, both, every_true, every_false, every_intro, every_refute, least-none, least-some, least-empty, least_unique}
use Rattle.execution.proofs.RuleLaws.{there_own, there_other, taking-none, taking-ready, taking-waits, delivering-ready, delivering-refused, taken, compute-there, compute_nowhere, deliver-there, deliver_nowhere, by_move}

module _ (s : LoopNest) (v : View) where
  -- an iteration on processor p that is not done
  is-waiting : (p c : ℕ) → processor_in v c ≡ p → v.done c ≡ false → waits v p c ≡ true
  is-waiting p c q m = both (ap not m) (eq-eqb (processor_in v c) p q)

  -- it is on p
  waiting_on : (p c : ℕ) → waits v p c ≡ true → processor_in v c ≡ p
  waiting_on p c t = eqb-true (processor_in v c) p (and_right (not (v.done c)) (eqb (processor_in v c) p) t)

  -- and not done
  waiting_not_done : (p c : ℕ) → waits v p c ≡ true → v.done c ≡ false
  waiting_not_done p c t = not-true (v.done c) (and_left (not (v.done c)) (eqb (processor_in v c) p) t)

  -- ---- what the rules do, the sentences say

  -- the iteration taken
  takes_of : (p k : ℕ) → taken s v p ≡ some k → Takes s v p k
  takes_of p k e =
      let l = least-some (waits v p) (step_in v) (length (points_of s)) k e in
      record {
        is_iteration = l.below;
        on_processor = waiting_on p k l.passes;
        missing = waiting_not_done p k l.passes;
        least_step = λ c lc q m. l.lowest c lc (is-waiting p c q m);
        least_rank = λ c lc q m r. l.first c lc (is-waiting p c q m) (omega arith);
      }

  -- none is taken
  all_done : (p : ℕ) → taken s v p ≡ none → Idle s v p
  all_done p e k l q = split (v.done k) (λ t. t) (λ t. clash (is-waiting p k q t) (least-none (waits v p) (step_in v) (length (points_of s)) e k l))

  -- a source is there
  present_of : (p k i j : ℕ) → there v p k i (some j) ≡ true → Present v p k i j
  present_of p k i j t = (λ e. sym (there_own v p k i j e) ∙ t, λ e. sym (there_other v p k i j e) ∙ t)

  -- it is not
  absent_of : (p k i j : ℕ) → there v p k i (some j) ≡ false → Absent v p k i j
  absent_of p k i j t = eq? (processor_in v j) p (λ e. inl (e, sym (there_own v p k i j e) ∙ t)) (λ e. inr (e, sym (there_other v p k i j e) ∙ t))

  -- a compute that waits
  say_waiting : (p k : ℕ) → p < 2 ^ to_ℕ s.cube → taken s v p ≡ some k → every (λ i. there v p k i (source_rank s k i)) (count_of s) ≡ false → Says s v (compute p) (refuse 15)
  say_waiting p k h q t =
      let f = every_false (λ i. there v p k i (source_rank s k i)) (count_of s) t in
      opt (source_rank s k f.0)
      (λ e. clash refl (ap (there v p k f.0) (sym e) ∙ f.2))
      (λ j e. waiting h (takes_of p k q) f.1 e (absent_of p k f.0 j (ap (there v p k f.0) (sym e) ∙ f.2)))

  -- one that is made
  say_computes : (p k : ℕ) → p < 2 ^ to_ℕ s.cube → taken s v p ≡ some k → every (λ i. there v p k i (source_rank s k i)) (count_of s) ≡ true → Says s v (compute p) (iteration k)
  say_computes p k h q t =
      computes h (takes_of p k q)
      (λ i j hi e. present_of p k i j (ap (there v p k i) (sym e) ∙ every_true (λ o. there v p k o (source_rank s k o)) (count_of s) t i hi))

  -- the source of a message is done as the test says
  source_of : (k i : ℕ) (m : Sent s v k i) → source_done v (source_rank s k i) ≡ v.done m.rank
  source_of k i m = ap (source_done v) m.source

  -- a delivery that is out of turn
  say_refused : (k i : ℕ) → k < length (points_of s) → i < count_of s → ready s v k i ≡ false → Says s v (deliver k i) (refuse 16)
  say_refused k i hk hi r = split (is_message s v.layout.processors k i)
      (λ t.
      let m = message_true s v.layout.processors k i t in
      split (v.done m.rank)
      (λ d. split (v.delivered k i)
      (λ e. out_of_turn hk hi (inr (inr e)))
      (λ e. clash (both t (both (source_of k i m ∙ d) (ap not e))) r))
      (λ d. out_of_turn hk hi (inr (inl (m, d)))))
      (λ t. out_of_turn hk hi (inl (λ m. clash (true_message s v.layout.processors k i m) t)))

  -- one that is made
  say_delivers : (k i : ℕ) → k < length (points_of s) → i < count_of s → ready s v k i ≡ true → Says s v (deliver k i) (message k i)
  say_delivers k i hk hi r =
      let t = and_left (is_message s v.layout.processors k i) (source_done v (source_rank s k i) && not (v.delivered k i)) r in
      let d = and_right (is_message s v.layout.processors k i) (source_done v (source_rank s k i) && not (v.delivered k i)) r in
      let m = message_true s v.layout.processors k i t in
      delivers hk hi m (sym (source_of k i m) ∙ and_left (source_done v (source_rank s k i)) (not (v.delivered k i)) d)
      (not-true (v.delivered k i) (and_right (source_done v (source_rank s k i)) (not (v.delivered k i)) d))

  -- so every effect is what they say
  pub effect-says : (mv : Move) → Says s v mv (effect s v mv)
  effect-says =
      by_move s v (Says s v) (λ p h. no_processor h) (λ p h q. idle_processor h (all_done p q)) say_waiting say_computes (λ k i h. no_place h) say_refused say_delivers

  -- ---- and the sentences leave no choice

  -- they say which iteration is taken
  taken_of : (p k : ℕ) → Takes s v p k → taken s v p ≡ some k
  taken_of p k n = least_unique (waits v p) (step_in v) (length (points_of s)) k (record {
    below = n.is_iteration;
    passes = is-waiting p k n.on_processor n.missing;
    lowest = λ c lc t. n.least_step c lc (waiting_on p c t) (waiting_not_done p c t);
    first = λ c lc t r. n.least_rank c lc (waiting_on p c t) (waiting_not_done p c t) (let h = n.least_step c lc (waiting_on p c t) (waiting_not_done p c t) in omega arith);
  })

  -- or that none is
  none-taken : (p : ℕ) → Idle s v p → taken s v p ≡ none
  none-taken p h = least-empty (waits v p) (step_in v) (length (points_of s))
      (λ k l. split (waits v p k) (λ t. clash (h k l (waiting_on p k t)) (waiting_not_done p k t)) (λ t. t))

  -- that a source is there
  there_present : (p k i : ℕ) → ((j : ℕ) → source_rank s k i ≡ some j → Present v p k i j) → there v p k i (source_rank s k i) ≡ true
  there_present p k i h = opt (source_rank s k i) (λ q. ap (there v p k i) q) (λ j q. ap (there v p k i) q ∙ eq? (processor_in v j) p
      (λ e. there_own v p k i j e ∙ (h j q).0 e)
      (λ e. there_other v p k i j e ∙ (h j q).1 e))

  -- or is not
  there_absent : (p k i j : ℕ) → source_rank s k i ≡ some j → Absent v p k i j → there v p k i (source_rank s k i) ≡ false
  there_absent p k i j q (inl h) = ap (there v p k i) q ∙ there_own v p k i j h.0 ∙ h.1
  there_absent p k i j q (inr h) = ap (there v p k i) q ∙ there_other v p k i j h.0 ∙ h.1

  -- a message that is out of turn is not ready
  not_ready-of : (k i : ℕ) → OutOfTurn s v k i → ready s v k i ≡ false
  not_ready-of k i w = split (ready s v k i) (λ r. absurd (impossible w r)) (λ r. r)
    where
      impossible : OutOfTurn s v k i → ready s v k i ≡ true → ⊥
      impossible (inl n) r = n (message_true s v.layout.processors k i (and_left (is_message s v.layout.processors k i) (source_done v (source_rank s k i) && not (v.delivered k i)) r))
      impossible (inr (inl h)) r =
          let d = and_right (is_message s v.layout.processors k i) (source_done v (source_rank s k i) && not (v.delivered k i)) r in
          clash (and_left (source_done v (source_rank s k i)) (not (v.delivered k i)) d) (source_of k i h.0 ∙ h.1)
      impossible (inr (inr e)) r =
          let d = and_right (is_message s v.layout.processors k i) (source_done v (source_rank s k i) && not (v.delivered k i)) r in
          clash e (not-true (v.delivered k i) (and_right (source_done v (source_rank s k i)) (not (v.delivered k i)) d))

  -- so what they say is the effect
  pub says_unique : (mv : Move) (x : Effect) → Says s v mv x → effect s v mv ≡ x
  says_unique mv x (no_processor {p = p} h) = compute_nowhere s v p h
  says_unique mv x (idle_processor {p = p} h d) = compute-there s v p h ∙ ap (taking s v p) (none-taken p d) ∙ taking-none s v p
  says_unique mv x (waiting {p = p} {k = k} {i = i} {j = j} h n hi q a) =
      compute-there s v p h ∙ ap (taking s v p) (taken_of p k n)
      ∙ taking-waits s v p k (every_refute (λ o. there v p k o (source_rank s k o)) (count_of s) i hi (there_absent p k i j q a))
  says_unique mv x (computes {p = p} {k = k} h n a) =
      compute-there s v p h ∙ ap (taking s v p) (taken_of p k n)
      ∙ taking-ready s v p k (every_intro (λ o. there v p k o (source_rank s k o)) (count_of s) (λ i hi. there_present p k i (λ j q. a i j hi q)))
  says_unique mv x (no_place {k = k} {i = i} h) = deliver_nowhere s v k i h
  says_unique mv x (out_of_turn {k = k} {i = i} hk hi h) = deliver-there s v k i hk hi ∙ delivering-refused s v k i (not_ready-of k i h)
  says_unique mv x (delivers {k = k} {i = i} hk hi m d e) =
      deliver-there s v k i hk hi ∙ delivering-ready s v k i (both (true_message s v.layout.processors k i m) (both (source_of k i m ∙ d) (ap not e)))

  -- ---- the sentences and the refusals in their order

  -- they name one iteration
  takes_one : (p j k : ℕ) → Takes s v p j → Takes s v p k → j ≡ k
  takes_one p j k a b =
      let low = a.least_step k b.is_iteration b.on_processor b.missing in
      let high = b.least_step j a.is_iteration a.on_processor a.missing in
      let first = a.least_rank k b.is_iteration b.on_processor b.missing (omega arith) in
      let second = b.least_rank j a.is_iteration a.on_processor a.missing (omega arith) in
      omega arith

  -- an iteration that is taken is not done
  not_idle : (p k : ℕ) → Takes s v p k → Idle s v p → ⊥
  not_idle p k n all = clash (all k n.is_iteration n.on_processor) n.missing

  -- a source that is there is not absent
  not_absent : (p k i j : ℕ) → Present v p k i j → Absent v p k i j → ⊥
  not_absent p k i j h (inl a) = clash (h.0 a.0) a.1
  not_absent p k i j h (inr a) = clash (h.1 a.0) a.1

  -- what they say is what the order answers
  pub says-answered : (mv : Move) (x : Effect) → Says s v mv x → Answered (rule_order s v mv) (answer x)
  says-answered mv x (no_processor h) = inl (h, refl)
  says-answered mv x (idle_processor l d) = inr ((λ h. absurd (omega arith)), inl (d, refl))
  says-answered mv x (waiting {p = p} {k = k} {i = i} {j = j} l n hi q a) = inr ((λ h. absurd (omega arith)), inr (not_idle p k n, inl ((k, i, j, n, hi, q, a), refl)))
  says-answered mv x (computes {p = p} {k = k} l n here) = inr ((λ h. absurd (omega arith)), inr (not_idle p k n, inr (none_absent, refl)))
    where
      none_absent : SourceAbsent s v p → ⊥
      none_absent (c, i, j, t, hi, q, a) =
          let e = takes_one p c k t n in
          not_absent p k i j (here i j hi (ap (λ o. source_rank s o i) (sym e) ∙ q)) (subst (λ o. Absent v p o i j) e a)
  says-answered mv x (no_place h) = inl (h, refl)
  says-answered mv x (out_of_turn {k = k} {i = i} hk hi w) = inr (elim [ inl a ↦ absurd (omega arith) | inr a ↦ absurd (omega arith) ], inl (w, refl))
  says-answered mv x (delivers {k = k} {i = i} hk hi m d e) = inr (elim [ inl a ↦ absurd (omega arith) | inr a ↦ absurd (omega arith) ], inr (in_turn, refl))
    where
      in_turn : OutOfTurn s v k i → ⊥
      in_turn (inl never) = never m
      in_turn (inr (inl (n, u))) = clash d (sym (source_of k i m) ∙ source_of k i n ∙ u)
      in_turn (inr (inr u)) = clash u e

  -- a move has an effect exactly if the sentences say so
  pub says_iff : (mv : Move) (x : Effect) → Says s v mv x ↔ (effect s v mv ≡ x)
  says_iff mv x = (says_unique mv x, λ e. subst (Says s v mv) e (effect-says mv))

-- ---- a whole list of moves

module _ {A : Type 0} (tell : Effect → A) (s : LoopNest) (L : Layout) where
  -- what the machine does is what the sentences say
  pub list-says : (b : Machine) (ms : List Move) → SaysList tell s L b ms (machine_told s L tell b ms) (machine_run s L b ms)
  list-says b [] = no_move
  list-says b (mv ∷ ms) = next_move (effect-says s (machine_view L b) mv) (list-says (machine_next s L b mv) ms)

  -- and they say nothing else
  pub list_unique : (b : Machine) (ms : List Move) (told : List A) (last : Machine) → SaysList tell s L b ms told last
      → (told ≡ machine_told s L tell b ms) × (last ≡ machine_run s L b ms)
  list_unique b ms told last no_move = (refl, refl)
  list_unique b ms told last (next_move {mv = mv} {ms = rest} {x = x} {told = others} w r) =
      let e : effect s (machine_view L b) mv ≡ x = says_unique s (machine_view L b) mv x w in
      let h = list_unique (machine_after b x) rest others last r in (
        ap₂ ◌∷◌ (ap tell (sym e)) (h.0 ∙ ap (λ y. machine_told s L tell (machine_after b y) rest) (sym e)),
        h.1 ∙ ap (λ y. machine_run s L (machine_after b y) rest) (sym e),
      )
