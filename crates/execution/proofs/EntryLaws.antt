-- The ways out of a compute, of a delivery and of the entry that makes a move: what is answered and what the buffers hold, over plain lists and numbers.
-- Assumes nothing.
use mathlib.Core.Path.{◌≡◌, refl, sym, ap, ◌∙◌, ap₂, subst}
use mathlib.Core.Bool.{Bool, true, false, not, ◌&&◌}
use mathlib.Core.List.{List, [], ◌∷◌}
use mathlib.Core.Logic.{◌≢◌, inl, inr}
use mathlib.Core.Option.{Option, none, some}
use Prim.Native.Nat.{ℕ, ◌+◌, ◌^◌, ◌≤◌, ◌<◌}
use native.Mathlib.Omega.{arith}
use borrow.Author.Tests.{eq-eqb, ne_eqb, lt-ltb}
use lib.ListN.{length, get_or, set, take}
use Rattle.std.proofs.Common.{true≢false}
use Rattle.integers.proofs.Lists.{and_true, split}
use Rattle.nest.specs.declared.LoopNest.{LoopNest}
use Rattle.std.specs.Prelude.{Result}
use Rattle.std.specs.Result.{IsErrAnd}
use Rattle.std.proofs.lemmas.Result.{err_from_is_err_and}
use Rattle.nest.specs.declared.refusals.Refusal.{Refusal}
use Rattle.nest.specs.Outcomes.{code}
use Rattle.nest.proofs.Outcomes.{code-above}
use Rattle.nest.specs.Nest.{to_ℕ, count_of}
use Rattle.nest.specs.Points.{points_of}
use Rattle.nest.specs.Refusals.{refusal, or_else, short_buffer, no_room, room_refusal}
use Rattle.nest.specs.Sources.{source_rank}
use Rattle.nest.proofs.Entries.{or_else-first, or_else-second, or_else-zero, or_else_assoc, or_else-none, enough, all_enough}
use Rattle.mapping.specs.Mapping.{is_message}
use Rattle.sequential.specs.Sequential.{rule_of, value_of}
use Rattle.execution.specs.declared.Done as did
use Rattle.execution.specs.Answer.{Answer, Computed, Delivered, Refused, answer_in}
use Rattle.execution.specs.Rules.{every, Move, compute, deliver, Effect, refuse, iteration, message, answer, Layout, View, there, source_done, ready, taking, effect}
use Rattle.execution.specs.Run.{State, bit, state_view, move_refusal, state_refusal, move_effect, after}
use Rattle.execution.specs.Entry.{layout_in, state_in, number_of, answer_of, Makes}
use Rattle.execution.specs.Inner.{view_in, Delivers, ready_from, Room}
use Rattle.execution.proofs.Base.{eq?, every-same}
use Rattle.execution.proofs.RuleLaws.{effect-number, Numbered, move-refused, move_rules, taking-none, taking-ready, taking-waits, delivering-ready, delivering-refused, compute-there, compute_nowhere, deliver-there, deliver_nowhere, message-some, not_ready}
use Rattle.execution.proofs.FindingLaws.{taken_of, taken-below, taken-cut, there-cut, ready-cut}
use lib.Dec.{eqb, ltb}
use Rattle.nest.proofs.PointLaws.{source_iff}

-- ---- by the effect

-- the number of an answer is that of the effect
pub number-answer : (s : LoopNest) (values : List ℕ) (x : Effect) → number_of (answer_of s values x) ≡ answer x
unfolding answer_of
number-answer s values (refuse a) = refl
number-answer s values (iteration k) = refl
number-answer s values (message k i) = refl

-- the answer r and the state st' after a move on st are those of the effect x
abbrev pub Done : LoopNest → State ℕ → Effect → Answer → State ℕ → Type 0
Done s st x r st' = (r ≡ answer_of s st.values x) × (st' ≡ after (rule_of s) s st x)

-- an effect may be given by another name
by_effect : (s : LoopNest) (st : State ℕ) (x y : Effect) (r : Answer) (st' : State ℕ) → x ≡ y → Done s st y r st' → Done s st x r st'
by_effect s st x y r st' e d = (d.0 ∙ sym (ap (answer_of s st.values) e), d.1 ∙ sym (ap (after (rule_of s) s st) e))

-- a refused move
refused : (s : LoopNest) (st : State ℕ) (a : ℕ) → Done s st (refuse a) (Refused a) st
unfolding answer_of
refused s st a = (refl, refl)

-- a compute that wrote the value x
computed : (s : LoopNest) (values done delivered : List ℕ) (k x : ℕ) → x ≡ value_of (rule_of s) s values k
    → Done s (state_in values done delivered) (iteration k) (Computed (record { rank = k; value = x })) (state_in (set values k x) (set done k 1) delivered)
unfolding answer_of
computed s values done delivered k x e =
    (ap (λ z. Computed (record { rank = k; value = z })) e, ap (λ z. state_in (set values k z) (set done k 1) delivered) e)

-- a delivery that left the byte x
delivers : (s : LoopNest) (values done delivered : List ℕ) (k i x : ℕ) → x ≡ get_or delivered k 0 + 2 ^ i
    → Done s (state_in values done delivered) (message k i) (Delivered (record { rank = k; dependence = i })) (state_in values done (set delivered k x))
unfolding answer_of
delivers s values done delivered k i x e = (refl, ap (λ z. state_in values done (set delivered k z)) e)

-- ---- the ways out of a compute on processor p
module _ (s : LoopNest) (steps processors values done delivered : List ℕ) (n : ℕ) (count : n ≡ length (points_of s)) (p : ℕ) where
  -- what the move looks at
  abbrev view : View
  view = view_in steps processors done delivered

  -- the state that it finds
  abbrev state : State ℕ
  state = state_in values done delivered

  -- what it answers, and the state that it leaves
  abbrev pub Computes : Answer → State ℕ → Type 0
  Computes r st' = Done s state (effect s view (compute p)) r st'

  -- there is no such processor
  pub no_processor : (c : ℕ) → c ≡ 2 ^ to_ℕ s.cube → c ≤ p → Computes (Refused 18) state
  no_processor c e h = by_effect s state (effect s view (compute p)) (refuse 18) (Refused 18) state (compute_nowhere s view p (omega arith)) (refused s state 18)

  -- it is looked for in tables that are cut behind their last iteration
  module _
      (c : ℕ) (cube : c ≡ 2 ^ to_ℕ s.cube) (h : p < c) (long : n ≤ length processors) (o : Option ℕ)
      (e : o ≡ taken_of steps (take n processors) (take n done) p (length (take n processors)))
    where
      -- what it takes
      found : o ≡ taken_of steps processors done p n
      found = e ∙ taken-cut steps processors done delivered n p long

      takes : effect s view (compute p) ≡ taking s view p o
      takes = compute-there s view p (omega arith) ∙ ap (taking s view p) (ap (taken_of steps processors done p) (sym count) ∙ sym found)

      -- the processor has no iteration left
      pub idle : o ≡ none → Computes (Refused 17) state
      idle q =
          by_effect s state (effect s view (compute p)) (refuse 17) (Refused 17) state
          (takes ∙ ap (taking s view p) q ∙ taking-none s view p) (refused s state 17)

      module _ (k : ℕ) (it : o ≡ some k) where
        -- it is one
        pub taken_one : k < n
        taken_one = taken-below steps processors done p n k (sym found ∙ it)

        -- a source, as it is looked for
        abbrev pub cut_there : ℕ → Bool
        cut_there i = there (view_in [] (take n processors) (take n done) (take n delivered)) p k i (source_rank s k i)

        same-there : (i : ℕ) → cut_there i ≡ there view p k i (source_rank s k i)
        same-there i = there-cut steps processors done delivered n p k i (source_rank s k i) taken_one (λ j q. omega (arith, ((source_iff s k i j).0 q).0))

        module _ (b : Bool) (q : b ≡ every cut_there (count_of s)) where
          -- so it comes out the same
          all_same : every (λ i. there view p k i (source_rank s k i)) (count_of s) ≡ b
          all_same = sym (q ∙ every-same cut_there (λ i. there view p k i (source_rank s k i)) (count_of s) (λ i l. same-there i))

          -- a source is not there
          pub waiting : b ≡ false → Computes (Refused 15) state
          waiting f =
              by_effect s state (effect s view (compute p)) (refuse 15) (Refused 15) state
              (takes ∙ ap (taking s view p) it ∙ taking-waits s view p k (all_same ∙ f)) (refused s state 15)

          -- the iteration is computed
          pub computes : (x : ℕ) → b ≡ true → x ≡ value_of (rule_of s) s values k → Computes (Computed (record { rank = k; value = x })) (state_in (set values k x) (set done k 1) delivered)
          computes x t v =
              by_effect s state (effect s view (compute p)) (iteration k) (Computed (record { rank = k; value = x })) (state_in (set values k x) (set done k 1) delivered)
              (takes ∙ ap (taking s view p) it ∙ taking-ready s view p k (all_same ∙ t)) (computed s values done delivered k x v)

-- ---- the ways out of a delivery

-- the bit of a message that can be delivered is 0
bit_free : (o : Option ℕ) (n : ℕ) (processors done delivered : List ℕ) (k i : ℕ) → ready_from o n processors done delivered k i ≡ true → bit i (get_or delivered k 0) ≡ false
bit_free none n processors done delivered k i t = absurd (true≢false (sym t))
bit_free (some j) n processors done delivered k i t =
    let crosses = not (eqb (get_or processors j 0) (get_or processors k 0)) in
    let computed = not (eqb (get_or done j 0) 0) in
    let free = not (bit i (get_or delivered k 0)) in
    let h = (and_true computed free (and_true crosses (computed && free) (and_true (ltb j n) (crosses && (computed && free)) t).1).1).1 in
    split (bit i (get_or delivered k 0)) (λ y. absurd (true≢false (sym h ∙ ap not y))) (λ f. f)

module _ (s : LoopNest) (processors done delivered : List ℕ) (n : ℕ) (count : n ≡ length (points_of s)) (k i : ℕ) where
  -- what the move comes to
  abbrev Comes : Answer → List ℕ → Type 0
  Comes r delivered' = Delivers s processors done delivered k i r delivered'

  -- by the effect
  delivery_by : (x : Effect) (r : Answer) (delivered' : List ℕ) → ((steps : List ℕ) → effect s (view_in steps processors done delivered) (deliver k i) ≡ x)
      → ((values : List ℕ) → Done s (state_in values done delivered) x r (state_in values done delivered')) → Comes r delivered'
  delivery_by x r delivered' e d = (
    λ steps values. (by_effect s (state_in values done delivered) (effect s (view_in steps processors done delivered) (deliver k i)) x r (state_in values done delivered') (e steps) (d values)).0,
    λ steps values. (by_effect s (state_in values done delivered) (effect s (view_in steps processors done delivered) (deliver k i)) x r (state_in values done delivered') (e steps) (d values)).1,
  )

  -- there is no such rank
  pub no_rank : n ≤ k → Comes (Refused 18) delivered
  no_rank h = delivery_by (refuse 18) (Refused 18) delivered (λ steps. deliver_nowhere s (view_in steps processors done delivered) k i (inl (omega arith))) (λ values. refused s (state_in values done delivered) 18)

  -- there is no such dependence
  pub no_dependence : count_of s ≤ i → Comes (Refused 18) delivered
  no_dependence h = delivery_by (refuse 18) (Refused 18) delivered (λ steps. deliver_nowhere s (view_in steps processors done delivered) k i (inr (omega arith))) (λ values. refused s (state_in values done delivered) 18)

  -- steps are no part of the test of a message
  same_source : (steps : List ℕ) (o : Option ℕ) → source_done (view_in [] processors done delivered) o ≡ source_done (view_in steps processors done delivered) o
  same_source steps none = refl
  same_source steps (some j) = refl

  -- so it comes out the same
  same-ready : (steps : List ℕ) (b : Bool) → b ≡ ready s (view_in [] processors done delivered) k i → ready s (view_in steps processors done delivered) k i ≡ b
  same-ready steps b q = sym (q ∙ ap (λ d. is_message s processors k i && (d && not (bit i (get_or delivered k 0)))) (same_source steps (source_rank s k i)))

  -- where the source is known the test is that of the message
  ready-from : (o : Option ℕ) → o ≡ source_rank s k i → ready_from o n processors done delivered k i ≡ ready s (view_in [] processors done delivered) k i
  ready-from none e = sym (not_ready s (view_in [] processors done delivered) k i (sym e))
  ready-from (some j) e =
      ap (λ b. b && (not (eqb (get_or processors j 0) (get_or processors k 0)) && (not (eqb (get_or done j 0) 0) && not (bit i (get_or delivered k 0))))) (lt-ltb j n (omega (arith, ((source_iff s k i j).0 (sym e)).0)))
      ∙ sym (ap₂ (λ (a b : Bool). a && (b && not (bit i (get_or delivered k 0)))) (message-some s processors k i j (sym e)) (ap (source_done (view_in [] processors done delivered)) (sym e)))

  module _ (o : Option ℕ) (source : o ≡ source_rank s k i) (hk : k < n) (hi : i < count_of s) (long : n ≤ length processors) (b : Bool)
      (q : b ≡ ready_from o (length (take n processors)) (take n processors) (take n done) (take n delivered) k i)
    where
      -- tables that are cut behind their last iteration are looked at alike
      whole : b ≡ ready_from o n processors done delivered k i
      whole = q ∙ ready-cut processors done delivered n o k i long hk (λ j e. omega (arith, ((source_iff s k i j).0 (sym source ∙ e)).0))

      -- whatever the steps
      readiness : (steps : List ℕ) → ready s (view_in steps processors done delivered) k i ≡ b
      readiness steps = same-ready steps b (whole ∙ ready-from o source)

      -- the message cannot be delivered
      pub out_of_turn : b ≡ false → Comes (Refused 16) delivered
      out_of_turn f =
          delivery_by (refuse 16) (Refused 16) delivered
          (λ steps. let v = view_in steps processors done delivered in deliver-there s v k i (omega arith) hi ∙ delivering-refused s v k i (readiness steps ∙ f))
          (λ values. refused s (state_in values done delivered) 16)

      -- it is delivered
      pub delivery : (x : ℕ) → b ≡ true → x ≡ get_or delivered k 0 + 2 ^ i → Comes (Delivered (record { rank = k; dependence = i })) (set delivered k x)
      delivery x t e =
          delivery_by (message k i) (Delivered (record { rank = k; dependence = i })) (set delivered k x)
          (λ steps. let v = view_in steps processors done delivered in deliver-there s v k i (omega arith) hi ∙ delivering-ready s v k i (readiness steps ∙ t))
          (λ values. delivers s values done delivered k i x e)

      -- its bit is 0
      pub free : b ≡ true → bit i (get_or delivered k 0) ≡ false
      free t = bit_free o n processors done delivered k i (sym whole ∙ t)

-- ---- the ways out of the entry

-- room in five tables
five-rooms : (n a b c d e : ℕ) → room_refusal n (a ∷ b ∷ c ∷ d ∷ e ∷ []) ≡ or_else (no_room n a b c d) (short_buffer n e)
unfolding room_refusal
five-rooms n a b c d e =
    let A = short_buffer n a in
    let B = short_buffer n b in
    let C = short_buffer n c in
    let D = short_buffer n d in
    let E = short_buffer n e in
    ap (or_else A) (ap (or_else B) (ap (or_else C) (ap (or_else D) (or_else-none E)) ∙ or_else_assoc C D E) ∙ or_else_assoc B (or_else C D) E)
    ∙ or_else_assoc A (or_else B (or_else C D)) E

code-not-zero : (e : Refusal) → code e ≢ 0
code-not-zero e z = omega (arith, code-above e)

-- the answer where a `?` hands a refusal on
answer_out : (r : Result did.Done Refusal) (e : Refusal) → IsErrAnd r (λ y. y ≡ e) → answer_in r ≡ Refused (code e)
answer_out r e h = let p = err_from_is_err_and r h in rw (p.1, p.2) refl

module _ (s : LoopNest) (steps processors values done delivered : List ℕ) (mv : Move) where
  -- the layout that the entry finds
  abbrev L : Layout
  L = layout_in steps processors

  -- the state that it finds
  abbrev st : State ℕ
  st = state_in values done delivered

  -- by the effect
  made_by : (x : Effect) (r : Answer) (st' : State ℕ) → move_effect s L st mv ≡ x → Done s st x r st' → Makes s L st mv r st'
  made_by x r st' e d =
      let f = by_effect s st (move_effect s L st mv) x r st' e d in
      (f.0, (ap number_of f.0 ∙ number-answer s values (move_effect s L st mv), f.1))

  -- a refusal e before the rules, which a `?` hands on, is the answer r
  module _ (r : Result did.Done Refusal) (e : Refusal) (h : IsErrAnd r (λ y. y ≡ e)) where
    refused-call : code e ≡ state_refusal s L st → Makes s L st mv (answer_in r) st
    refused-call q =
        subst (λ x. Makes s L st mv x st) (sym (answer_out r e h))
        (made_by (refuse (code e)) (Refused (code e)) st (move-refused s L st mv (λ z. code-not-zero e (q ∙ z)) ∙ ap refuse (sym q)) (refused s st (code e)))

    -- the nest is refused
    pub bad_nest : code e ≡ refusal s → Makes s L st mv (answer_in r) st
    unfolding move_refusal
    bad_nest q = refused-call (q ∙ sym (or_else-first (refusal s) _ (λ z. code-not-zero e (q ∙ z))))

  -- the lengths of the buffers
  abbrev pub rooms : List ℕ
  rooms = length steps ∷ length processors ∷ length values ∷ length done ∷ length delivered ∷ []

  -- what they give where the nest is accepted
  module _ (ok : refusal s ≡ 0) (n : ℕ) (count : n ≡ length (points_of s)) where
    call-is : state_refusal s L st ≡ room_refusal n rooms
    unfolding move_refusal
    call-is =
        or_else-second (refusal s) (five (length (points_of s))) ok ∙ ap five (sym count)
        ∙ sym (five-rooms n (length steps) (length processors) (length values) (length done) (length delivered))
      where
        five : ℕ → ℕ
        five m = or_else (no_room m (length steps) (length processors) (length values) (length done)) (short_buffer m (length delivered))

    -- a buffer is too short
    pub short_room : (r : Result did.Done Refusal) (e : Refusal) → IsErrAnd r (λ y. y ≡ e) → code e ≡ room_refusal n rooms → Makes s L st mv (answer_in r) st
    short_room r e h q = refused-call r e h (q ∙ sym call-is)

    -- the buffers have room
    pub enough_room : 0 ≡ room_refusal n rooms → Room n L st
    enough_room e =
        let z = sym (e ∙ five-rooms n (length steps) (length processors) (length values) (length done) (length delivered)) in
        let y = or_else-zero (no_room n (length steps) (length processors) (length values) (length done)) (short_buffer n (length delivered)) z in
        let h = all_enough n (length steps) (length processors) (length values) (length done) y.0 in
        (h.0, h.1, h.2, h.3, enough n (length delivered) y.1)

    -- and so the rules decide on the move
    pub made_move : 0 ≡ room_refusal n rooms → (t : LoopNest) → t ≡ s → (mv₀ : Move) → mv ≡ mv₀ → (r : Answer) (st' : State ℕ)
        → Done t st (effect t (view_in steps processors done delivered) mv₀) r st' → Makes s L st mv r st'
    made_move enough t same mv₀ q r st' d =
        let v = view_in steps processors done delivered in
        made_by (effect s v mv₀) r st' (move_rules s L st mv (call-is ∙ sym enough) ∙ ap (effect s v) q) (subst (λ n. Done n st (effect n v mv₀) r st') same d)

-- ---- a refused answer has a number other than 0

-- so has a refused effect
abbrev Numbers : Effect → Type 0
Numbers (refuse a) = a ≢ 0
Numbers (iteration k) = Unit {0}
Numbers (message k i) = Unit {0}

-- by the rules
rules_number : (s : LoopNest) (v : View) (mv : Move) → Numbers (effect s v mv)
rules_number s v mv = go (effect s v mv) (effect-number s v mv)
  where
    go : (x : Effect) → Numbered s v mv x → Numbers x
    go (refuse a) h = λ z. absurd (omega (arith, h.0))
    go (iteration k) h = tt
    go (message k i) h = tt

-- on any buffers
effect-numbers : (s : LoopNest) (L : Layout) (st : State ℕ) (mv : Move) → Numbers (move_effect s L st mv)
unfolding move_effect
effect-numbers s L st mv = eq? (state_refusal s L st) 0
    (λ e. rw (eq-eqb (state_refusal s L st) 0 e, move_effect) (rules_number s (state_view L st) mv))
    (λ e. rw (ne_eqb (state_refusal s L st) 0 e, move_effect) e)

-- and so the entry's
pub refused-number : (s : LoopNest) (L : Layout) (st : State ℕ) (mv : Move) (a : ℕ) → Refused a ≡ answer_of s st.values (move_effect s L st mv) → a ≢ 0
unfolding answer_of
refused-number s L st mv a e = go (move_effect s L st mv) (effect-numbers s L st mv) e
  where
    go : (x : Effect) → Numbers x → Refused a ≡ answer_of s st.values x → a ≢ 0
    go (refuse b) h q = λ z. h (sym (ap number_of q) ∙ z)
    go (iteration k) h q = λ z. let w : ◌≡◌ {A = ℕ} 0 1 = cc in absurd (omega arith)
    go (message k i) h q = λ z. let w : ◌≡◌ {A = ℕ} 0 1 = cc in absurd (omega arith)
