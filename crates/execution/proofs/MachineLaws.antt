-- The machine on any layout: what its moves do, how many are allowed, and that one is while an iteration is missing. `Ordered` is what a layout has to satisfy; that
-- the planner's does is shown in proofs/Demand.antt.
-- Assumes nothing.
use mathlib.Core.Path.{◌≡◌, refl, sym, ap, ap₂, subst, ◌∙◌}
use mathlib.Core.Bool.{Bool, true, false, not, ◌&&◌, ◌||◌}
use mathlib.Core.List.{List, [], ◌∷◌}
use mathlib.Core.Logic.{◌≢◌}
use mathlib.Core.Option.{some}
use Prim.Native.Nat.{ℕ, zero, suc, ◌+◌, ◌*◌, ◌^◌, ◌≤◌, ◌<◌}
use native.Mathlib.Omega.{arith}
use borrow.Author.Tests.{eqb-true, eqb-false, eq-eqb, ne_eqb, not-true, not-false}
use lib.Dec.{eqb}
use lib.ListN.{length, get_or}
use Rattle.integers.specs.Lists.{tab, count, total, one_if}
use Rattle.integers.proofs.Lists.{split, clash, and_left, and_right, or_right, count_yes, count_no, length-tab}
use Rattle.nest.specs.declared.LoopNest.{LoopNest}
use Rattle.nest.specs.Nest.{to_ℕ, count_of}
use Rattle.nest.specs.Points.{points_of}
use Rattle.nest.specs.Sources.{source_rank}
use Rattle.mapping.specs.Mapping.{is_message}
use Rattle.integers.proofs.Sums.{count_most, total-most}
use Rattle.execution.specs.Rules.{every, least, Move, compute, deliver, Effect, refuse, iteration, message, answer, Layout, View, step_in, processor_in, waits, there, source_done, taking, effect, ready}
use Rattle.execution.specs.Machine.{Machine, fresh_machine, machine_after, machine_view, machine_answer, machine_next, machine_run, machine_answers, count_below, computed_count, delivered_count, allowed_count}
use Rattle.execution.proofs.Base.{opt, both, or_cases, and-eqb, sum_same, sum_more, sum-zero, count_same, count-more, count-all, count-zero, every_true, every_false, Least, least-none, least-some}
use Rattle.execution.proofs.RuleLaws.{there_own, there_other, message-none, message-some, taking-ready, delivering-ready, taken, compute-there, deliver-there, by_move}

-- what is used of an accepted nest and a causal layout: a source has a smaller rank and an earlier step, and each processor is one of the machine's
pub record Ordered (s : LoopNest) (L : Layout) : Type 0 where
  pub earlier : (k i j : ℕ) → k < length (points_of s) → i < count_of s → source_rank s k i ≡ some j → j < k
  pub sooner : (k i j : ℕ) → k < length (points_of s) → i < count_of s → source_rank s k i ≡ some j → get_or L.steps j 0 < get_or L.steps k 0
  pub housed : (k : ℕ) → k < length (points_of s) → get_or L.processors k 0 < 2 ^ to_ℕ s.cube

module _ (s : LoopNest) (L : Layout) where
  -- the sets hold iterations and messages only, the source of a delivered message is computed, and all messages to a computed iteration are delivered
  pub record Sound (b : Machine) : Type 0 where
    pub iterations : (k : ℕ) → b.computed k ≡ true → k < length (points_of s)
    pub messages : (k i : ℕ) → b.delivered k i ≡ true → (k < length (points_of s)) × (i < count_of s) × (is_message s L.processors k i ≡ true)
    pub supplied : (k i j : ℕ) → b.delivered k i ≡ true → source_rank s k i ≡ some j → b.computed j ≡ true
    pub received : (k i : ℕ) → b.computed k ≡ true → i < count_of s → is_message s L.processors k i ≡ true → b.delivered k i ≡ true

  -- what is known of the effect of a move
  abbrev pub Valid : Machine → Effect → Type 0
  Valid b (refuse a) = a ≢ 0
  Valid b (iteration k) =
      (k < length (points_of s)) × (b.computed k ≡ false) × ((i j : ℕ) → i < count_of s → source_rank s k i ≡ some j → b.computed j ≡ true)
      × ((i : ℕ) → i < count_of s → is_message s L.processors k i ≡ true → b.delivered k i ≡ true)
  Valid b (message k i) =
      (k < length (points_of s)) × (i < count_of s) × (b.delivered k i ≡ false) × (is_message s L.processors k i ≡ true)
      × ((j : ℕ) → source_rank s k i ≡ some j → b.computed j ≡ true)

  -- how much is done
  abbrev pub size : Machine → ℕ
  size b = computed_count s b + delivered_count s b

  -- ---- nothing yet

  -- the empty sets are sound
  pub fresh_sound : Sound fresh_machine
  fresh_sound = record {
    iterations = λ k e. clash e refl;
    messages = λ k i e. clash e refl;
    supplied = λ k i j e q. clash e refl;
    received = λ k i e h m. clash e refl;
  }

  -- and nothing is done
  pub fresh_size : size fresh_machine ≡ 0
  fresh_size =
      omega (
        arith,
        count-zero (λ k. false) (length (points_of s)) (λ k l. refl),
        sum-zero (λ k. count_below (λ i. false) (count_of s)) (length (points_of s)) (λ k l. count-zero (λ i. false) (count_of s) (λ i m. refl)),
      )

  -- ---- one move

  module _ (b : Machine) where
    -- what a move looks at
    abbrev v : View
    v = machine_view L b

    -- an iteration that is taken with all its sources there
    taken_valid : Sound b → (p k : ℕ) → taken s v p ≡ some k → every (λ i. there v p k i (source_rank s k i)) (count_of s) ≡ true → Valid b (iteration k)
    taken_valid sd p k q t = (
      l.below,
      not-true (b.computed k) (and_left (not (b.computed k)) (eqb (processor_in v k) p) l.passes),
      λ i j hi e. split (eqb (processor_in v j) p)
          (λ a. sym (there_own v p k i j (eqb-true (processor_in v j) p a)) ∙ is-there i j hi e)
          (λ a. sd.supplied k i j (sym (there_other v p k i j (eqb-false (processor_in v j) p a)) ∙ is-there i j hi e) e),
      λ i hi m. opt (source_rank s k i)
          (λ e. clash m (message-none s L.processors k i e))
          (λ j e.
          let away : eqb (processor_in v j) (processor_in v k) ≡ false = not-true (eqb (processor_in v j) (processor_in v k)) (sym (message-some s L.processors k i j e) ∙ m) in
          let other : processor_in v j ≢ p = λ z. eqb-false (processor_in v j) (processor_in v k) away (z ∙ sym on_p) in
          sym (there_other v p k i j other) ∙ is-there i j hi e),
    )
      where
        l : Least (waits v p) (step_in v) (length (points_of s)) k
        l = least-some (waits v p) (step_in v) (length (points_of s)) k q

        on_p : processor_in v k ≡ p
        on_p = eqb-true (processor_in v k) p (and_right (not (b.computed k)) (eqb (processor_in v k) p) l.passes)

        is-there : (i j : ℕ) → i < count_of s → source_rank s k i ≡ some j → there v p k i (some j) ≡ true
        is-there i j hi e = ap (there v p k i) (sym e) ∙ every_true (λ o. there v p k o (source_rank s k o)) (count_of s) t i hi

    -- a message that is ready
    ready_valid : (k i : ℕ) → k < length (points_of s) → i < count_of s → ready s v k i ≡ true → Valid b (message k i)
    ready_valid k i hk hi r =
        let m = and_left (is_message s L.processors k i) (source_done v (source_rank s k i) && not (b.delivered k i)) r in
        let d = and_right (is_message s L.processors k i) (source_done v (source_rank s k i) && not (b.delivered k i)) r in
        let c = and_left (source_done v (source_rank s k i)) (not (b.delivered k i)) d in
        (hk, hi, not-true (b.delivered k i) (and_right (source_done v (source_rank s k i)) (not (b.delivered k i)) d), m, λ j e. ap (source_done v) (sym e) ∙ c)

    -- that is known of every move
    pub effect_valid : Sound b → (mv : Move) → Valid b (effect s v mv)
    effect_valid sd mv =
        by_move s v (λ _ x. Valid b x) (λ p h e. absurd (omega arith)) (λ p h q e. absurd (omega arith)) (λ p k h q t e. absurd (omega arith)) (λ p k h q t. taken_valid sd p k q t)
        (λ k i h e. absurd (omega arith)) (λ k i hk hi r e. absurd (omega arith)) ready_valid mv

    -- the sets stay sound
    pub after_sound : (x : Effect) → Valid b x → Sound b → Sound (machine_after b x)
    after_sound (refuse a) h sd = sd
    after_sound (iteration k) h sd = record {
      iterations = λ c e. or_cases (eqb c k) (b.computed c) e (λ a. subst (λ z. z < length (points_of s)) (sym (eqb-true c k a)) h.0) (sd.iterations c);
      messages = sd.messages;
      supplied = λ c i j e q. or_right (eqb j k) (b.computed j) (sd.supplied c i j e q);
      received = λ c i e hi m. or_cases (eqb c k) (b.computed c) e
          (λ a. let q = eqb-true c k a in subst (λ z. b.delivered z i ≡ true) (sym q) (h.3 i hi (subst (λ z. is_message s L.processors z i ≡ true) q m)))
          (λ a. sd.received c i a hi m);
    }
    after_sound (message k i) h sd = record {
      iterations = sd.iterations;
      messages = λ c o e. or_cases (eqb c k && eqb o i) (b.delivered c o) e
          (λ a. let q = and-eqb c k o i a in rw (q.0, q.1) (h.0, h.1, h.3))
          (sd.messages c o);
      supplied = λ c o j e q. or_cases (eqb c k && eqb o i) (b.delivered c o) e
          (λ a. let z = and-eqb c k o i a in h.4 j (ap₂ (source_rank s) (sym z.0) (sym z.1) ∙ q))
          (λ a. sd.supplied c o j a q);
      received = λ c o e ho m. or_right (eqb c k && eqb o i) (b.delivered c o) (sd.received c o e ho m);
    }

    -- a move that is allowed adds one iteration or one message
    pub after-size : (x : Effect) → Valid b x → size (machine_after b x) ≡ one_if (eqb (answer x) 0) + size b
    after-size (refuse a) h = let e : one_if (eqb a 0) ≡ 0 = ap one_if (ne_eqb a 0 h) ∙ (unfold one_if in refl) in omega (arith, e)
    after-size (iteration k) h =
        let one : one_if (eqb 0 0) ≡ 1 = (unfold one_if in refl) in
        let m = count-more b.computed (λ c. eqb c k || b.computed c) (length (points_of s)) k h.0 h.1 (ap (λ t. t || b.computed k) (eq-eqb k k refl)) (λ j q. ap (λ t. t || b.computed j) (ne_eqb j k q)) in
        omega (arith, one, m)
    after-size (message k i) h =
        let one : one_if (eqb 0 0) ≡ 1 = (unfold one_if in refl) in
        let m = sum_more (λ c. count_below (b.delivered c) (count_of s)) (λ c. count_below (λ o. (eqb c k && eqb o i) || b.delivered c o) (count_of s)) (length (points_of s)) k h.0 here elsewhere in
        omega (arith, one, m)
      where
        here : count_below (λ o. (eqb k k && eqb o i) || b.delivered k o) (count_of s) ≡ suc (count_below (b.delivered k) (count_of s))
        here =
            count-more (b.delivered k) (λ o. (eqb k k && eqb o i) || b.delivered k o) (count_of s) i h.1 h.2
            (ap₂ (λ (x y : Bool). (x && y) || b.delivered k i) (eq-eqb k k refl) (eq-eqb i i refl))
            (λ j q. ap₂ (λ (x y : Bool). (x && y) || b.delivered k j) (eq-eqb k k refl) (ne_eqb j i q))

        elsewhere : (c : ℕ) → c ≢ k → count_below (λ o. (eqb c k && eqb o i) || b.delivered c o) (count_of s) ≡ count_below (b.delivered c) (count_of s)
        elsewhere c q = count_same (λ o. (eqb c k && eqb o i) || b.delivered c o) (b.delivered c) (count_of s) (λ o l. ap (λ x. (x && eqb o i) || b.delivered c o) (ne_eqb c k q))

  -- ---- a list of moves

  -- after a move they are sound
  pub next_sound : (b : Machine) → Sound b → (mv : Move) → Sound (machine_next s L b mv)
  next_sound b sd mv = after_sound b (effect s (machine_view L b) mv) (effect_valid b sd mv) sd

  -- and one more is done if it is allowed
  next_size : (b : Machine) → Sound b → (mv : Move) → size (machine_next s L b mv) ≡ one_if (eqb (machine_answer s L b mv) 0) + size b
  next_size b sd mv = after-size b (effect s (machine_view L b) mv) (effect_valid b sd mv)

  -- after a list of moves they are sound
  pub run_sound : (b : Machine) (ms : List Move) → Sound b → Sound (machine_run s L b ms)
  run_sound b [] sd = sd
  run_sound b (mv ∷ ms) sd = run_sound (machine_next s L b mv) ms (next_sound b sd mv)

  -- one more answer
  allowed-more : (a : ℕ) (rest : List ℕ) → allowed_count (a ∷ rest) ≡ one_if (eqb a 0) + allowed_count rest
  unfolding one_if
  allowed-more a rest = split (eqb a 0)
      (λ t. count_yes (λ x. eqb x 0) a rest t ∙ omega (arith, ap one_if t))
      (λ t. count_no (λ x. eqb x 0) a rest t ∙ omega (arith, ap one_if t))

  -- allowed moves = computed iterations + delivered messages
  pub run-size : (b : Machine) (ms : List Move) → Sound b → allowed_count (machine_answers s L b ms) + size b ≡ size (machine_run s L b ms)
  run-size b [] sd = let e : allowed_count [] ≡ 0 = (unfold count in refl) in omega (arith, e)
  run-size b (mv ∷ ms) sd =
      omega (
        arith,
        allowed-more (machine_answer s L b mv) (machine_answers s L (machine_next s L b mv) ms),
        run-size (machine_next s L b mv) ms (next_sound b sd mv),
        next_size b sd mv,
      )

  -- ---- progress

  module _ (b : Machine) where
    -- what a move looks at
    abbrev w : View
    w = machine_view L b

    -- an iteration whose sources are there can be computed
    pub can_compute : (p k : ℕ) → p < 2 ^ to_ℕ s.cube → taken s w p ≡ some k → every (λ i. there w p k i (source_rank s k i)) (count_of s) ≡ true
        → machine_answer s L b (compute p) ≡ 0
    can_compute p k h q t = ap answer (compute-there s w p h ∙ ap (taking s w p) q ∙ taking-ready s w p k t)

    -- a message that is not delivered, from a source that is computed, can be
    pub can_deliver : (k i j : ℕ) → k < length (points_of s) → i < count_of s → source_rank s k i ≡ some j → is_message s L.processors k i ≡ true
        → b.computed j ≡ true → b.delivered k i ≡ false → machine_answer s L b (deliver k i) ≡ 0
    can_deliver k i j hk hi q m c d =
        ap answer (deliver-there s w k i hk hi ∙ delivering-ready s w k i (both m (both (ap (source_done w) q ∙ c) (ap not d))))

    module _ (C : Ordered s L) where
      -- an iteration is not computed
      missing : ℕ → Bool
      missing c = not (b.computed c)

      -- some move is allowed
      abbrev Allowed : Type 0
      Allowed = (mv : Move) × (machine_answer s L b mv ≡ 0)

      -- k is its processor's next iteration, and no missing iteration has a lesser step: it is computed, or waits for a message that can be delivered
      next : (c k : ℕ) → Least missing (step_in w) (length (points_of s)) c → taken s w (processor_in w c) ≡ some k → Allowed
      unfolding missing
      next c k m e = split (every (λ i. there w p k i (source_rank s k i)) (count_of s))
          (λ t. (compute p, can_compute p k (C.housed c m.below) e t))
          (λ t. let f = every_false (λ i. there w p k i (source_rank s k i)) (count_of s) t in stalls f.0 f.1 f.2)
        where
          p : ℕ
          p = processor_in w c

          n : Least (waits w p) (step_in w) (length (points_of s)) k
          n = least-some (waits w p) (step_in w) (length (points_of s)) k e

          on_p : processor_in w k ≡ p
          on_p = eqb-true (processor_in w k) p (and_right (not (b.computed k)) (eqb (processor_in w k) p) n.passes)

          made-source : (i j : ℕ) → i < count_of s → source_rank s k i ≡ some j → b.computed j ≡ true
          made-source i j hi q = split (b.computed j) (λ a. a)
              (λ a. absurd (omega (
                arith,
                n.below,
                C.earlier k i j n.below hi q,
                C.sooner k i j n.below hi q,
                n.lowest c m.below (both m.passes (eq-eqb p p refl)),
                m.lowest j (omega (arith, n.below, C.earlier k i j n.below hi q)) (ap not a),
              )))

          stalls : (i : ℕ) → i < count_of s → there w p k i (source_rank s k i) ≡ false → Allowed
          stalls i hi f = opt (source_rank s k i)
              (λ q. clash refl (ap (there w p k i) (sym q) ∙ f))
              (λ j q.
              let g : there w p k i (some j) ≡ false = ap (there w p k i) (sym q) ∙ f in
              let c = made-source i j hi q in
              split (eqb (processor_in w j) p)
              (λ a. clash c (sym (there_own w p k i j (eqb-true (processor_in w j) p a)) ∙ g))
              (λ a.
              let o = eqb-false (processor_in w j) p a in
              let sent : is_message s L.processors k i ≡ true = message-some s L.processors k i j q ∙ ap not (ne_eqb (processor_in w j) (processor_in w k) (λ z. o (z ∙ on_p))) in
              (deliver k i, can_deliver k i j n.below hi q sent c (sym (there_other w p k i j o) ∙ g))))

      -- of the missing iterations one least in step has all its sources computed
      pub progress : (k : ℕ) → k < length (points_of s) → b.computed k ≡ false → Allowed
      unfolding missing
      progress k hk mk = opt (least missing (step_in w) (length (points_of s)))
          (λ e. clash (ap not mk) (least-none missing (step_in w) (length (points_of s)) e k hk))
          (λ c e. let m = least-some missing (step_in w) (length (points_of s)) c e in opt (taken s w (processor_in w c))
          (λ q. clash (both m.passes (eq-eqb (processor_in w c) (processor_in w c) refl)) (least-none (waits w (processor_in w c)) (step_in w) (length (points_of s)) q c m.below))
          (λ d q. next c d m q))

      -- where no move is allowed, no iteration is missing
      pub stuck : ((mv : Move) → machine_answer s L b mv ≢ 0) → (k : ℕ) → k < length (points_of s) → b.computed k ≡ true
      stuck h k hk = split (b.computed k) (λ e. e) (λ e. let p = progress k hk e in absurd (h p.0 p.1))

    -- no more can be done than there is
    size-most : size b ≤ length (points_of s) + length (points_of s) * count_of s
    size-most =
        omega (
          arith,
          below-most b.computed (length (points_of s)),
          total-most (λ k. count_below (b.delivered k) (count_of s)) (count_of s) (length (points_of s)) (λ k. below-most (b.delivered k) (count_of s)),
        )
      where
        below-most : (t : ℕ → Bool) (n : ℕ) → count_below t n ≤ n
        below-most t n = omega (arith, count_most t (tab (λ k. k) n), length-tab (λ k. k) n)

    -- ---- the end

    -- where no iteration is missing, every message is delivered
    pub all_delivered : Sound b → ((k : ℕ) → k < length (points_of s) → b.computed k ≡ true) → (k i : ℕ) → k < length (points_of s) → i < count_of s
        → b.delivered k i ≡ is_message s L.processors k i
    all_delivered sd all k i hk hi = split (b.delivered k i)
        (λ e. e ∙ sym (sd.messages k i e).2)
        (λ e. split (is_message s L.processors k i) (λ m. clash (sd.received k i (all k hk) hi m) e) (λ m. e ∙ sym m))

    -- so the number of moves that were allowed is known
    pub full_size : Sound b → ((k : ℕ) → k < length (points_of s) → b.computed k ≡ true)
        → size b ≡ length (points_of s) + total (tab (λ k. count_below (is_message s L.processors k) (count_of s)) (length (points_of s)))
    full_size sd all =
        ap₂ ◌+◌ (count-all b.computed (length (points_of s)) all)
        (sum_same (λ k. count_below (b.delivered k) (count_of s)) (λ k. count_below (is_message s L.processors k) (count_of s)) (length (points_of s))
        (λ k l. count_same (b.delivered k) (is_message s L.processors k) (count_of s) (λ i m. all_delivered sd all k i l m)))

    -- and no move is allowed
    pub none_left : Sound b → ((k : ℕ) → k < length (points_of s) → b.computed k ≡ true) → (mv : Move) → machine_answer s L b mv ≢ 0
    none_left sd all mv = none_of (effect s w mv) (effect_valid b sd mv)
      where
        none_of : (x : Effect) → Valid b x → answer x ≢ 0
        none_of (refuse a) h e = h e
        none_of (iteration k) h e = clash (all k h.0) h.1
        none_of (message k i) h e = clash (all_delivered sd all k i h.0 h.1 ∙ h.3) h.2

  -- ---- every run can be brought to its end

  module _ (C : Ordered s L) where
    -- an iteration is missing, so that some move is allowed; or none is
    look : {A : Type 0} (b : Machine) → ((mv : Move) → machine_answer s L b mv ≡ 0 → A) → (((k : ℕ) → k < length (points_of s) → b.computed k ≡ true) → A) → A
    look b more ended = opt (least (λ k. not (b.computed k)) (λ k. 0) (length (points_of s)))
        (λ e. ended (λ k l. not-false (b.computed k) (least-none (λ c. not (b.computed c)) (λ c. 0) (length (points_of s)) e k l)))
        (λ k e.
        let l = least-some (λ c. not (b.computed c)) (λ c. 0) (length (points_of s)) k e in
        let p = progress b C k l.below (not-true (b.computed k) l.passes) in
        more p.0 p.1)

    -- an allowed move is one more
    one_more : (b : Machine) → Sound b → (mv : Move) → machine_answer s L b mv ≡ 0 → size (machine_next s L b mv) ≡ suc (size b)
    one_more b sd mv e = let one : one_if (eqb (machine_answer s L b mv) 0) ≡ 1 = ap one_if (eq-eqb (machine_answer s L b mv) 0 e) ∙ (unfold one_if in refl) in omega (arith, one, next_size b sd mv)

    -- there are moves after which no iteration is missing
    pub finish : (left : ℕ) (b : Machine) → Sound b → length (points_of s) + length (points_of s) * count_of s ≤ left + size b
        → (more : List Move) × ((k : ℕ) → k < length (points_of s) → (machine_run s L b more).computed k ≡ true)
    finish zero b sd h = look b
        (λ mv e. absurd (omega (arith, one_more b sd mv e, size-most (machine_next s L b mv))))
        (λ all. ([], all))
    finish (suc left) b sd h = look b
        (λ mv e. let r = finish left (machine_next s L b mv) (next_sound b sd mv) (omega (arith, one_more b sd mv e)) in (mv ∷ r.0, r.1))
        (λ all. ([], all))
