-- The rules way by way: what a move comes to, by what it finds; that it depends on what it sees of the iterations only; and when the rules decide on lent tables.
-- Assumes nothing.
use mathlib.Core.Path.{◌≡◌, refl, sym, ap, ap₂, subst, ◌∙◌}
use mathlib.Core.Bool.{Bool, true, false, not, ◌&&◌}
use mathlib.Core.List.{List}
use mathlib.Core.Logic.{◌≢◌, ◌⊎◌, inl, inr, ◌↔◌}
use mathlib.Core.Option.{Option, none, some}
use Prim.Native.Nat.{ℕ, ◌^◌, ◌≤◌, ◌<◌}
use native.Mathlib.Omega.{arith}
use borrow.Author.Tests.{ltb-true, ltb-false, eqb-true, eqb-false, lt-ltb, le-ltb, eq-eqb, ne_eqb}
use lib.Dec.{eqb, ltb}
use lib.ListN.{length, get_or}
use Rattle.integers.proofs.Lists.{split}
use Rattle.nest.specs.declared.LoopNest.{LoopNest}
use Rattle.nest.specs.Nest.{to_ℕ, count_of}
use Rattle.nest.specs.Points.{points_of}
use Rattle.nest.specs.Sources.{source_rank}
use Rattle.nest.proofs.PointLaws.{source_iff}
use Rattle.mapping.specs.Mapping.{crosses, is_message}
use Rattle.execution.specs.Rules.{every, least, Move, compute, deliver, Effect, refuse, iteration, message, Layout, View, step_in, processor_in, waits, there, source_done, taking, ready, delivering, effect}
use Rattle.execution.specs.Run.{State, state_view, state_refusal, move_effect}
use Rattle.execution.proofs.Base.{opt, every-same, least-some, least-same}

-- ---- the tests

module _ (v : View) (p k i j : ℕ) where
  -- a source on processor p is there if it is done
  pub there_own : processor_in v j ≡ p → there v p k i (some j) ≡ v.done j
  there_own e = rw (eq-eqb (processor_in v j) p e, there) refl

  -- one on another if its message is delivered
  pub there_other : processor_in v j ≢ p → there v p k i (some j) ≡ v.delivered k i
  there_other e = rw (ne_eqb (processor_in v j) p e, there) refl

module _ (s : LoopNest) (ps : List ℕ) (k i : ℕ) where
  -- a source that is no iteration sends no message
  pub message-none : source_rank s k i ≡ none → is_message s ps k i ≡ false
  unfolding is_message crosses
  message-none q = ap (crosses ps k) q

  -- one that is an iteration does if it is on another processor
  pub message-some : (j : ℕ) → source_rank s k i ≡ some j → is_message s ps k i ≡ not (eqb (get_or ps j 0) (get_or ps k 0))
  unfolding is_message crosses
  message-some j q = ap (crosses ps k) q

-- a compute waits, or takes its iteration
module _ (s : LoopNest) (v : View) where
  -- there is none
  pub taking-none : (p : ℕ) → taking s v p none ≡ refuse 17
  unfolding taking
  taking-none p = refl

  -- its sources are there
  pub taking-ready : (p k : ℕ) → every (λ i. there v p k i (source_rank s k i)) (count_of s) ≡ true → taking s v p (some k) ≡ iteration k
  unfolding taking
  taking-ready p k t = rw (t, taking) refl

  -- they are not
  pub taking-waits : (p k : ℕ) → every (λ i. there v p k i (source_rank s k i)) (count_of s) ≡ false → taking s v p (some k) ≡ refuse 15
  unfolding taking
  taking-waits p k t = rw (t, taking) refl

  -- where its source is no iteration a message cannot be delivered
  pub not_ready : (k i : ℕ) → source_rank s k i ≡ none → ready s v k i ≡ false
  not_ready k i q = ap (λ b. b && (source_done v (source_rank s k i) && not (v.delivered k i))) (message-none s v.layout.processors k i q)

  pub delivering-ready : (k i : ℕ) → ready s v k i ≡ true → delivering s v k i ≡ message k i
  unfolding delivering
  delivering-ready k i t = rw (t, delivering) refl

  pub delivering-refused : (k i : ℕ) → ready s v k i ≡ false → delivering s v k i ≡ refuse 16
  unfolding delivering
  delivering-refused k i t = rw (t, delivering) refl

  -- the iteration that processor p takes
  abbrev pub taken : ℕ → Option ℕ
  taken p = least (waits v p) (step_in v) (length (points_of s))

  -- there is such a processor, or not
  pub compute-there : (p : ℕ) → p < 2 ^ to_ℕ s.cube → effect s v (compute p) ≡ taking s v p (taken p)
  unfolding effect
  compute-there p h = rw (lt-ltb p (2 ^ to_ℕ s.cube) h, effect) refl

  pub compute_nowhere : (p : ℕ) → 2 ^ to_ℕ s.cube ≤ p → effect s v (compute p) ≡ refuse 18
  unfolding effect
  compute_nowhere p h = rw (le-ltb p (2 ^ to_ℕ s.cube) h, effect) refl

  -- there is such an iteration and dependence, or not
  pub deliver-there : (k i : ℕ) → k < length (points_of s) → i < count_of s → effect s v (deliver k i) ≡ delivering s v k i
  unfolding effect
  deliver-there k i hk hi = rw (lt-ltb k (length (points_of s)) hk, lt-ltb i (count_of s) hi, effect) refl

  pub deliver_nowhere : (k i : ℕ) → (length (points_of s) ≤ k) ⊎ (count_of s ≤ i) → effect s v (deliver k i) ≡ refuse 18
  unfolding effect
  deliver_nowhere k i (inl h) = rw (le-ltb k (length (points_of s)) h, effect) refl
  deliver_nowhere k i (inr h) = split (ltb k (length (points_of s)))
      (λ e. rw (e, le-ltb i (count_of s) h, effect) refl)
      (λ e. rw (e, effect) refl)

  -- the ways of a move, one by one: to show something of its effect, show it of each
  pub by_move : (C : Move → Effect → Type 0)
      → ((p : ℕ) → 2 ^ to_ℕ s.cube ≤ p → C (compute p) (refuse 18))
      → ((p : ℕ) → p < 2 ^ to_ℕ s.cube → taken p ≡ none → C (compute p) (refuse 17))
      → ((p k : ℕ) → p < 2 ^ to_ℕ s.cube → taken p ≡ some k → every (λ i. there v p k i (source_rank s k i)) (count_of s) ≡ false → C (compute p) (refuse 15))
      → ((p k : ℕ) → p < 2 ^ to_ℕ s.cube → taken p ≡ some k → every (λ i. there v p k i (source_rank s k i)) (count_of s) ≡ true → C (compute p) (iteration k))
      → ((k i : ℕ) → (length (points_of s) ≤ k) ⊎ (count_of s ≤ i) → C (deliver k i) (refuse 18))
      → ((k i : ℕ) → k < length (points_of s) → i < count_of s → ready s v k i ≡ false → C (deliver k i) (refuse 16))
      → ((k i : ℕ) → k < length (points_of s) → i < count_of s → ready s v k i ≡ true → C (deliver k i) (message k i))
      → (mv : Move) → C mv (effect s v mv)
  by_move C c18 c17 c15 c0 d18 d16 d0 (compute p) = split (ltb p (2 ^ to_ℕ s.cube))
      (λ t. let h = ltb-true p (2 ^ to_ℕ s.cube) t in opt (taken p)
      (λ q. subst (C (compute p)) (sym (compute-there p h ∙ ap (taking s v p) q ∙ taking-none p)) (c17 p h q))
      (λ k q. split (every (λ i. there v p k i (source_rank s k i)) (count_of s))
      (λ e. subst (C (compute p)) (sym (compute-there p h ∙ ap (taking s v p) q ∙ taking-ready p k e)) (c0 p k h q e))
      (λ e. subst (C (compute p)) (sym (compute-there p h ∙ ap (taking s v p) q ∙ taking-waits p k e)) (c15 p k h q e))))
      (λ t. let h = ltb-false p (2 ^ to_ℕ s.cube) t in subst (C (compute p)) (sym (compute_nowhere p h)) (c18 p h))
  by_move C c18 c17 c15 c0 d18 d16 d0 (deliver k i) = split (ltb k (length (points_of s)))
      (λ t. split (ltb i (count_of s))
      (λ u.
      let hk = ltb-true k (length (points_of s)) t in
      let hi = ltb-true i (count_of s) u in
      split (ready s v k i)
      (λ e. subst (C (deliver k i)) (sym (deliver-there k i hk hi ∙ delivering-ready k i e)) (d0 k i hk hi e))
      (λ e. subst (C (deliver k i)) (sym (deliver-there k i hk hi ∙ delivering-refused k i e)) (d16 k i hk hi e)))
      (λ u. let h : (length (points_of s) ≤ k) ⊎ (count_of s ≤ i) = inr (ltb-false i (count_of s) u) in subst (C (deliver k i)) (sym (deliver_nowhere k i h)) (d18 k i h)))
      (λ t. let h : (length (points_of s) ≤ k) ⊎ (count_of s ≤ i) = inl (ltb-false k (length (points_of s)) t) in subst (C (deliver k i)) (sym (deliver_nowhere k i h)) (d18 k i h))

  -- a move acts on an iteration, whatever it sees
  abbrev pub Within : Move → Effect → Type 0
  Within mv (refuse a) = Unit {0}
  Within mv (iteration k) = k < length (points_of s)
  Within mv (message k i) = k < length (points_of s)

  pub effect-within : (mv : Move) → Within mv (effect s v mv)
  effect-within mv =
      by_move Within (λ p h. tt) (λ p h q. tt) (λ p k h q e. tt) (λ p k h q e. (least-some (waits v p) (step_in v) (length (points_of s)) k q).below) (λ k i h. tt)
      (λ k i hk hi e. tt) (λ k i hk hi e. hk) mv

  -- and the number of a refused one is 15, 16, 17 or 18
  abbrev pub Numbered : Move → Effect → Type 0
  Numbered mv (refuse a) = (15 ≤ a) × (a ≤ 18)
  Numbered mv (iteration k) = Unit {0}
  Numbered mv (message k i) = Unit {0}

  pub effect-number : (mv : Move) → Numbered mv (effect s v mv)
  effect-number mv =
      by_move Numbered (λ p h. (omega arith, omega arith)) (λ p h q. (omega arith, omega arith)) (λ p k h q e. (omega arith, omega arith)) (λ p k h q e. tt)
      (λ k i h. (omega arith, omega arith)) (λ k i hk hi e. (omega arith, omega arith)) (λ k i hk hi e. tt) mv

-- ---- a move sees nothing but the iterations

-- two views agree on them; of their steps, on the order
pub record Agree (s : LoopNest) (v w : View) : Type 0 where
  pub earlier : (j k : ℕ) → j < length (points_of s) → k < length (points_of s) → (step_in v j < step_in v k) ↔ (step_in w j < step_in w k)
  pub processor : (k : ℕ) → k < length (points_of s) → processor_in v k ≡ processor_in w k
  pub done : (k : ℕ) → k < length (points_of s) → v.done k ≡ w.done k
  pub delivered : (k i : ℕ) → k < length (points_of s) → i < count_of s → v.delivered k i ≡ w.delivered k i

module _ (s : LoopNest) (v w : View) (a : Agree s v w) where
  -- a source is an iteration
  below : (k i j : ℕ) → source_rank s k i ≡ some j → j < length (points_of s)
  below k i j q = ((source_iff s k i j).0 q).0

  -- the same sources are there
  there-same : (p k i : ℕ) → k < length (points_of s) → i < count_of s → there v p k i (source_rank s k i) ≡ there w p k i (source_rank s k i)
  there-same p k i hk hi = opt (source_rank s k i)
      (λ q. ap (there v p k i) q ∙ sym (ap (there w p k i) q))
      (λ j q. let l = below k i j q in ap (there v p k i) q ∙ on j l ∙ sym (ap (there w p k i) q))
    where
      on : (j : ℕ) → j < length (points_of s) → there v p k i (some j) ≡ there w p k i (some j)
      on j l = split (eqb (processor_in w j) p)
          (λ t.
          let e = eqb-true (processor_in w j) p t in
          there_own v p k i j (a.processor j l ∙ e) ∙ a.done j l ∙ sym (there_own w p k i j e))
          (λ t.
          let e = eqb-false (processor_in w j) p t in
          there_other v p k i j (λ q. e (sym (a.processor j l) ∙ q)) ∙ a.delivered k i hk hi ∙ sym (there_other w p k i j e))

  -- the same is made of an iteration
  taking-same : (p : ℕ) (o : Option ℕ) → ((k : ℕ) → o ≡ some k → k < length (points_of s)) → taking s v p o ≡ taking s w p o
  taking-same p none h = taking-none s v p ∙ sym (taking-none s w p)
  taking-same p (some k) h =
      let e = every-same (λ i. there v p k i (source_rank s k i)) (λ i. there w p k i (source_rank s k i)) (count_of s) (λ i hi. there-same p k i (h k refl) hi) in
      split (every (λ i. there w p k i (source_rank s k i)) (count_of s))
      (λ t. taking-ready s v p k (e ∙ t) ∙ sym (taking-ready s w p k t))
      (λ t. taking-waits s v p k (e ∙ t) ∙ sym (taking-waits s w p k t))

  -- the same iteration is taken
  taken-same : (p : ℕ) → taken s v p ≡ taken s w p
  taken-same p =
      least-same (length (points_of s)) (waits v p) (waits w p) (step_in v) (step_in w)
      (λ k l. ap₂ (λ (d : Bool) (q : ℕ). not d && eqb q p) (a.done k l) (a.processor k l)) a.earlier

  -- the same messages are ready
  ready-same : (k i : ℕ) → k < length (points_of s) → i < count_of s → ready s v k i ≡ ready s w k i
  ready-same k i hk hi = opt (source_rank s k i)
      (λ q. not_ready s v k i q ∙ sym (not_ready s w k i q))
      (λ j q.
      let l = below k i j q in
      ap₂ ◌&&◌
      (message-some s v.layout.processors k i j q ∙ ap₂ (λ (x y : ℕ). not (eqb x y)) (a.processor j l) (a.processor k hk) ∙ sym (message-some s w.layout.processors k i j q))
      (ap₂ (λ (d e : Bool). d && not e) (ap (source_done v) q ∙ a.done j l ∙ sym (ap (source_done w) q)) (a.delivered k i hk hi)))

  -- so a move comes to the same
  pub effect-same : (mv : Move) → effect s v mv ≡ effect s w mv
  effect-same (compute p) = split (ltb p (2 ^ to_ℕ s.cube))
      (λ t.
      let h = ltb-true p (2 ^ to_ℕ s.cube) t in
      compute-there s v p h ∙ taking-same p (taken s v p) (λ k e. (least-some (waits v p) (step_in v) (length (points_of s)) k e).below) ∙ ap (taking s w p) (taken-same p)
      ∙ sym (compute-there s w p h))
      (λ t. let h = ltb-false p (2 ^ to_ℕ s.cube) t in compute_nowhere s v p h ∙ sym (compute_nowhere s w p h))
  effect-same (deliver k i) = split (ltb k (length (points_of s)))
      (λ t. split (ltb i (count_of s))
      (λ u.
      let hk = ltb-true k (length (points_of s)) t in
      let hi = ltb-true i (count_of s) u in
      let e = ready-same k i hk hi in
      deliver-there s v k i hk hi
      ∙ split (ready s w k i) (λ r. delivering-ready s v k i (e ∙ r) ∙ sym (delivering-ready s w k i r)) (λ r. delivering-refused s v k i (e ∙ r) ∙ sym (delivering-refused s w k i r))
      ∙ sym (deliver-there s w k i hk hi))
      (λ u. let h = ltb-false i (count_of s) u in deliver_nowhere s v k i (inr h) ∙ sym (deliver_nowhere s w k i (inr h))))
      (λ t. let h = ltb-false k (length (points_of s)) t in deliver_nowhere s v k i (inl h) ∙ sym (deliver_nowhere s w k i (inl h)))

-- ---- a move on lent tables
module _ {Val : Type 0} (s : LoopNest) (L : Layout) (st : State Val) (mv : Move) where
  -- one of the refusals 2 to 14 is its effect
  pub move-refused : state_refusal s L st ≢ 0 → move_effect s L st mv ≡ refuse (state_refusal s L st)
  unfolding move_effect
  move-refused h = rw (ne_eqb (state_refusal s L st) 0 h, move_effect) refl

  -- where there is none the rules decide
  pub move_rules : state_refusal s L st ≡ 0 → move_effect s L st mv ≡ effect s (state_view L st) mv
  unfolding move_effect
  move_rules e = rw (eq-eqb (state_refusal s L st) 0 e, move_effect) refl
