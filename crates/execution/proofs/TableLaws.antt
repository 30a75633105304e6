-- The run on lent tables follows the machine, move by move, and its values are the sequential loop's, for any layout that is causal.
-- Assumes nothing.
use mathlib.Core.Path.{◌≡◌, refl, sym, ap, ap₂, subst, ◌∙◌}
use mathlib.Core.Bool.{Bool, true, false, not, ◌&&◌, ◌||◌}
use mathlib.Core.List.{List, [], ◌∷◌, ◌++◌}
use mathlib.Core.Logic.{◌≢◌}
use mathlib.Core.Option.{Option, none, some}
use Prim.Native.Nat.{ℕ, ◌+◌, ◌^◌, ◌≤◌, ◌<◌}
use native.Mathlib.Omega.{arith}
use borrow.Author.Tests.{ltb-true, ltb-false, eq-eqb, ne_eqb}
use lib.Dec.{eqb, ltb}
use lib.ListN.{length, get_or, set, take, drop, length-set, take-append-drop}
use lib.Seq.{get_or-set_same, get_or-set_other, drop-set-lt, get_or-take, length-take-le, ext_get_or}
use Rattle.integers.proofs.Lists.{tab-same, split, clash}
use Rattle.nest.specs.declared.LoopNest.{LoopNest}
use Rattle.nest.specs.Nest.{count_of}
use Rattle.nest.specs.Points.{points_of}
use Rattle.nest.specs.Refusals.{refusal, or_else, short_buffer, no_room}
use Rattle.nest.specs.Sources.{source_rank}
use Rattle.nest.proofs.Entries.{or_else-second, long_enough, none_short}
use Rattle.integers.specs.Lists.{one_if}
use Rattle.integers.proofs.Sums.{one_yes, one_no}
use Rattle.sequential.specs.Sequential.{Rule, source_value, value_of, sequential}
use Rattle.sequential.proofs.LoopLaws.{loop-length, loop-value}
use Rattle.execution.specs.Rules.{Move, Effect, refuse, iteration, message, answer, Layout, effect}
use Rattle.execution.specs.Machine.{Machine, fresh_machine, machine_after, machine_view, machine_next, machine_run, machine_answers}
use Rattle.execution.specs.Run.{State, bit, state_view, move_refusal, state_refusal, move_effect, move_answer, after, move_after, run, answers}
use Rattle.execution.specs.Claim.{Fresh, Holds}
use Rattle.execution.proofs.Base.{eq?, byte_of, byte_same, byte_none, byte_more, bit_byte, bit_beyond}
use Rattle.execution.proofs.RuleLaws.{Agree, effect-same, move_rules}
use Rattle.execution.proofs.MachineLaws.{Ordered, Sound, Valid, effect_valid, next_sound}

-- ---- the value of an iteration depends on its sources only
module _ {Val : Type 0} (R : Rule Val) (s : LoopNest) where
  -- two tables that agree on the sources of an iteration give it one value
  pub value_sources : (k : ℕ) (xs ys : List Val) → ((i j : ℕ) → i < count_of s → source_rank s k i ≡ some j → (d : Val) → get_or xs j d ≡ get_or ys j d)
      → value_of R s xs k ≡ value_of R s ys k
  unfolding value_of
  value_sources k xs ys h =
      ap (R.value (get_or (points_of s) k []) k)
      (tab-same (λ i. source_value R xs i (source_rank s k i)) (λ i. source_value R ys i (source_rank s k i)) (count_of s) (λ i l. read i l (source_rank s k i) refl))
    where
      read : (i : ℕ) → i < count_of s → (o : Option ℕ) → source_rank s k i ≡ o → source_value R xs i o ≡ source_value R ys i o
      read i l none e = unfold source_value in refl
      read i l (some j) e = unfold source_value in h i j l e (R.boundary i)

  -- the loop has a value for each iteration
  pub sequential-length : length (sequential R s) ≡ length (points_of s)
  unfolding sequential
  sequential-length = loop-length R s (length (points_of s))

  -- a table that agrees with the loop at each iteration begins with it
  pub begins_with : (t : List Val) → length (points_of s) ≤ length t → ((k : ℕ) → k < length (points_of s) → (d : Val) → get_or t k d ≡ get_or (sequential R s) k d)
      → t ≡ sequential R s ++ drop (length (points_of s)) t
  begins_with t l h = sym (take-append-drop (length (points_of s)) t) ∙ ap (λ xs. xs ++ drop (length (points_of s)) t) front
    where
      front : take (length (points_of s)) t ≡ sequential R s
      front = ext_get_or (R.boundary 0) (take (length (points_of s)) t) (sequential R s) (length-take-le (length (points_of s)) t l ∙ sym sequential-length)
          (λ i m.
          let b : i < length (points_of s) = omega (arith, length-take-le (length (points_of s)) t l) in
          get_or-take (length (points_of s)) t i (R.boundary 0) b ∙ h i b (R.boundary 0))

-- ---- refusals 2 to 14

-- none comes up for an accepted nest and long buffers
pub no_refusal : (s : LoopNest) → refusal s ≡ 0 → (a b c d e : ℕ) → length (points_of s) ≤ a → length (points_of s) ≤ b → length (points_of s) ≤ c → length (points_of s) ≤ d → length (points_of s) ≤ e
    → move_refusal s a b c d e ≡ 0
unfolding move_refusal
no_refusal s ok a b c d e ha hb hc hd he =
    let n = length (points_of s) in
    or_else-second (refusal s) (or_else (no_room n a b c d) (short_buffer n e)) ok ∙ or_else-second (no_room n a b c d) (short_buffer n e) (none_short n a b c d ha hb hc hd) ∙ long_enough n e he

-- else they are not looked at
pub move-refused : {Val : Type 0} (s : LoopNest) (L : Layout) (st : State Val) (mv : Move) → state_refusal s L st ≢ 0 → move_effect s L st mv ≡ refuse (state_refusal s L st)
unfolding move_effect
move-refused s L st mv e = rw (ne_eqb (state_refusal s L st) 0 e, move_effect) refl

-- a refused move changes nothing, whatever the tables hold
pub refused-same : {Val : Type 0} (R : Rule Val) (s : LoopNest) (L : Layout) (st : State Val) (mv : Move) → move_answer s L st mv ≢ 0 → move_after R s L st mv ≡ st
refused-same R s L st mv n = by_effect (move_effect s L st mv) n
  where
    by_effect : (x : Effect) → answer x ≢ 0 → after R s st x ≡ st
    by_effect (refuse a) h = refl
    by_effect (iteration k) h = absurd (h refl)
    by_effect (message k i) h = absurd (h refl)

-- ---- the tables hold what the machine does

-- a done byte is read back
byte_test : (b : Bool) → not (eqb (one_if b) 0) ≡ b
unfolding one_if
byte_test true = refl
byte_test false = refl

-- two layouts agree on the iterations, and the first has an entry for each
pub record SameLayout (s : LoopNest) (L M : Layout) : Type 0 where
  pub steps_room : length (points_of s) ≤ length L.steps
  pub processors_room : length (points_of s) ≤ length L.processors
  pub step : (k : ℕ) → k < length (points_of s) → get_or L.steps k 0 ≡ get_or M.steps k 0
  pub processor : (k : ℕ) → k < length (points_of s) → get_or L.processors k 0 ≡ get_or M.processors k 0

-- the invariant of a run from st₀: as `Holds`, with bytes by equation
pub record Kept {Val : Type 0} (R : Rule Val) (s : LoopNest) (st₀ : State Val) (b : Machine) (st : State Val) : Type 0 where
  pub done : (k : ℕ) → k < length (points_of s) → get_or st.done k 0 ≡ one_if (b.computed k)
  pub delivered : (k : ℕ) → k < length (points_of s) → get_or st.delivered k 0 ≡ byte_of (b.delivered k) (count_of s)
  pub value : (k : ℕ) → k < length (points_of s) → b.computed k ≡ true → (d : Val) → get_or st.values k d ≡ get_or (sequential R s) k d
  pub missing : (k : ℕ) → k < length (points_of s) → b.computed k ≡ false → (d : Val) → get_or st.values k d ≡ get_or st₀.values k d
  pub values_behind : drop (length (points_of s)) st.values ≡ drop (length (points_of s)) st₀.values
  pub done_behind : drop (length (points_of s)) st.done ≡ drop (length (points_of s)) st₀.done
  pub delivered_behind : drop (length (points_of s)) st.delivered ≡ drop (length (points_of s)) st₀.delivered
  pub values_length : length st.values ≡ length st₀.values
  pub done_length : length st.done ≡ length st₀.done
  pub delivered_length : length st.delivered ≡ length st₀.delivered

module _ {Val : Type 0} (R : Rule Val) (s : LoopNest) (ok : refusal s ≡ 0) (L M : Layout) (C : Ordered s M) (same : SameLayout s L M) (st₀ : State Val) (fr : Fresh s st₀) where
  -- it holds at the start
  pub fresh_kept : Kept R s st₀ fresh_machine st₀
  fresh_kept = record {
    done = λ k l. fr.none_done k l ∙ sym (one_no false refl);
    delivered = λ k l. fr.none_delivered k l ∙ sym (byte_none (count_of s));
    value = λ k l e d. clash e refl;
    missing = λ k l e d. refl;
    values_behind = refl;
    done_behind = refl;
    delivered_behind = refl;
    values_length = refl;
    done_length = refl;
    delivered_length = refl;
  }

  -- what the invariant says in the claim's words
  pub kept_holds : (b : Machine) (st : State Val) → Sound s M b → Kept R s st₀ b st → Holds R s st₀ b st
  kept_holds b st sd h = record {
    done = λ k l e. h.done k l ∙ one_yes (b.computed k) e;
    not_done = λ k l e. h.done k l ∙ one_no (b.computed k) e;
    delivered = λ k i l. ap (bit i) (h.delivered k l) ∙ each k i;
    value = h.value;
    missing = h.missing;
    values_behind = h.values_behind;
    done_behind = h.done_behind;
    delivered_behind = h.delivered_behind;
    values_length = h.values_length;
    done_length = h.done_length;
    delivered_length = h.delivered_length;
  }
    where
      each : (k i : ℕ) → bit i (byte_of (b.delivered k) (count_of s)) ≡ b.delivered k i
      each k i = split (ltb i (count_of s))
          (λ t. bit_byte (b.delivered k) (count_of s) i (ltb-true i (count_of s) t))
          (λ t.
          let beyond = ltb-false i (count_of s) t in
          split (b.delivered k i) (λ e. let z = (sd.messages k i e).1 in absurd (omega arith)) (λ e. bit_beyond (b.delivered k) (count_of s) i beyond ∙ sym e))

  -- the two see the same
  agree : (b : Machine) (st : State Val) → Kept R s st₀ b st → Agree s (state_view L st) (machine_view M b)
  agree b st h = record {
    earlier = λ j k lj lk. (λ h. omega (arith, h, same.step j lj, same.step k lk), λ h. omega (arith, h, same.step j lj, same.step k lk));
    processor = same.processor;
    done = λ k l. ap (λ x. not (eqb x 0)) (h.done k l) ∙ byte_test (b.computed k);
    delivered = λ k i l m. ap (bit i) (h.delivered k l) ∙ bit_byte (b.delivered k) (count_of s) i m;
  }

  -- none of the refusals 2 to 14 comes up
  pub kept_accepted : (b : Machine) (st : State Val) → Kept R s st₀ b st → state_refusal s L st ≡ 0
  kept_accepted b st h =
      no_refusal s ok (length L.steps) (length L.processors) (length st.values) (length st.done) (length st.delivered) same.steps_room same.processors_room
      (subst (λ z. length (points_of s) ≤ z) (sym h.values_length) fr.values_room)
      (subst (λ z. length (points_of s) ≤ z) (sym h.done_length) fr.done_room)
      (subst (λ z. length (points_of s) ≤ z) (sym h.delivered_length) fr.delivered_room)

  -- so a move comes to the same
  pub same_effect : (b : Machine) (st : State Val) → Kept R s st₀ b st → (mv : Move) → move_effect s L st mv ≡ effect s (machine_view M b) mv
  same_effect b st h mv =
      move_rules s L st mv (kept_accepted b st h)
      ∙ effect-same s (state_view L st) (machine_view M b) (agree b st h) mv

  -- the value written is the loop's: each source that is an iteration is computed
  pub written : (b : Machine) (st : State Val) (k : ℕ) → Valid s M b (iteration k) → Kept R s st₀ b st → (d : Val) → value_of R s st.values k ≡ get_or (sequential R s) k d
  written b st k w h d =
      value_sources R s k st.values (sequential R s)
      (λ i j hi q e. let l = C.earlier k i j w.0 hi q in h.value j (omega (arith, w.0)) (w.2 i j hi q) e)
      ∙ sym (loop-value R s ok k w.0 d)

  -- an effect keeps it
  pub after_kept : (b : Machine) (st : State Val) (x : Effect) → Valid s M b x → Kept R s st₀ b st → Kept R s st₀ (machine_after b x) (after R s st x)
  after_kept b st (refuse a) w h = h
  after_kept b st (iteration k) w h = record {
    done = λ c l. eq? c k
        (λ q.
        ap (λ z. get_or (set st.done k 1) z 0) q ∙ get_or-set_same st.done k 1 0 (let r = fr.done_room in let e = h.done_length in omega (arith, w.0))
        ∙ sym (one_yes (eqb c k || b.computed c) (ap (λ t. t || b.computed c) (eq-eqb c k q))))
        (λ q. get_or-set_other st.done k c 1 0 q ∙ h.done c l ∙ ap (λ t. one_if (t || b.computed c)) (sym (ne_eqb c k q)));
    delivered = h.delivered;
    value = λ c l e d. eq? c k
        (λ q.
        ap (λ z. get_or (set st.values k x) z d) q ∙ get_or-set_same st.values k x d (let r = fr.values_room in let n = h.values_length in omega (arith, w.0))
        ∙ written b st k w h d ∙ ap (λ z. get_or (sequential R s) z d) (sym q))
        (λ q. get_or-set_other st.values k c x d q ∙ h.value c l (ap (λ t. t || b.computed c) (sym (ne_eqb c k q)) ∙ e) d);
    missing = λ c l e d. eq? c k
        (λ q. clash (ap (λ t. t || b.computed c) (eq-eqb c k q)) e)
        (λ q. get_or-set_other st.values k c x d q ∙ h.missing c l (ap (λ t. t || b.computed c) (sym (ne_eqb c k q)) ∙ e) d);
    values_behind = drop-set-lt (length (points_of s)) st.values k x w.0 ∙ h.values_behind;
    done_behind = drop-set-lt (length (points_of s)) st.done k 1 w.0 ∙ h.done_behind;
    delivered_behind = h.delivered_behind;
    values_length = length-set st.values k x ∙ h.values_length;
    done_length = length-set st.done k 1 ∙ h.done_length;
    delivered_length = h.delivered_length;
  }
    where
      x : Val
      x = value_of R s st.values k
  after_kept b st (message k i) w h = record {
    done = h.done;
    delivered = λ c l. eq? c k
        (λ q.
        ap (λ z. get_or (set st.delivered k x) z 0) q ∙ get_or-set_same st.delivered k x 0 (let r = fr.delivered_room in let e = h.delivered_length in omega (arith, w.0))
        ∙ ap (λ z. z + 2 ^ i) (h.delivered k w.0) ∙ sym one_more ∙ ap (λ z. byte_of (λ o. (eqb z k && eqb o i) || b.delivered z o) (count_of s)) (sym q))
        (λ q.
        get_or-set_other st.delivered k c x 0 q ∙ h.delivered c l
        ∙ byte_same (b.delivered c) (λ o. (eqb c k && eqb o i) || b.delivered c o) (count_of s) (λ o m. ap (λ t. (t && eqb o i) || b.delivered c o) (sym (ne_eqb c k q))));
    value = h.value;
    missing = h.missing;
    values_behind = h.values_behind;
    done_behind = h.done_behind;
    delivered_behind = drop-set-lt (length (points_of s)) st.delivered k x w.0 ∙ h.delivered_behind;
    values_length = h.values_length;
    done_length = h.done_length;
    delivered_length = length-set st.delivered k x ∙ h.delivered_length;
  }
    where
      x : ℕ
      x = get_or st.delivered k 0 + 2 ^ i

      one_more : byte_of (λ o. (eqb k k && eqb o i) || b.delivered k o) (count_of s) ≡ byte_of (b.delivered k) (count_of s) + 2 ^ i
      one_more =
          byte_more (b.delivered k) (λ o. (eqb k k && eqb o i) || b.delivered k o) (count_of s) i w.1 w.2
          (ap₂ (λ (y z : Bool). (y && z) || b.delivered k i) (eq-eqb k k refl) (eq-eqb i i refl))
          (λ j n. ap₂ (λ (y z : Bool). (y && z) || b.delivered k j) (eq-eqb k k refl) (ne_eqb j i n))

  -- ---- a move, and a list of moves

  -- a move keeps it
  pub next_kept : (b : Machine) (st : State Val) → Sound s M b → Kept R s st₀ b st → (mv : Move) → Kept R s st₀ (machine_next s M b mv) (move_after R s L st mv)
  next_kept b st sd h mv =
      subst (λ x. Kept R s st₀ (machine_next s M b mv) (after R s st x)) (sym (same_effect b st h mv)) (after_kept b st (effect s (machine_view M b) mv) (effect_valid s M b sd mv) h)

  -- a list of moves keeps it
  pub run_kept : (b : Machine) (st : State Val) (ms : List Move) → Sound s M b → Kept R s st₀ b st → Kept R s st₀ (machine_run s M b ms) (run R s L st ms)
  run_kept b st [] sd h = h
  run_kept b st (mv ∷ ms) sd h = run_kept (machine_next s M b mv) (move_after R s L st mv) ms (next_sound s M b sd mv) (next_kept b st sd h mv)

  -- and is answered as the machine answers it
  pub run-answers : (b : Machine) (st : State Val) (ms : List Move) → Sound s M b → Kept R s st₀ b st → answers R s L st ms ≡ machine_answers s M b ms
  run-answers b st [] sd h = refl
  run-answers b st (mv ∷ ms) sd h =
      ap₂ ◌∷◌ (ap answer (same_effect b st h mv)) (run-answers (machine_next s M b mv) (move_after R s L st mv) ms (next_sound s M b sd mv) (next_kept b st sd h mv))

-- ---- more moves at the end of a list

-- the machine goes on
pub machine-append : (s : LoopNest) (L : Layout) (b : Machine) (ms more : List Move) → machine_run s L b (ms ++ more) ≡ machine_run s L (machine_run s L b ms) more
machine-append s L b [] more = refl
machine-append s L b (m ∷ ms) more = machine-append s L (machine_next s L b m) ms more

-- by one move
pub machine_snoc : (s : LoopNest) (L : Layout) (b : Machine) (ms : List Move) (mv : Move) → machine_run s L b (ms ++ (mv ∷ [])) ≡ machine_next s L (machine_run s L b ms) mv
machine_snoc s L b ms mv = machine-append s L b ms (mv ∷ [])

-- and so does the run
pub run_snoc : {Val : Type 0} (R : Rule Val) (s : LoopNest) (L : Layout) (st : State Val) (ms : List Move) (mv : Move)
    → run R s L st (ms ++ (mv ∷ [])) ≡ move_after R s L (run R s L st ms) mv
run_snoc R s L st [] mv = refl
run_snoc R s L st (m ∷ ms) mv = run_snoc R s L (move_after R s L st m) ms mv

-- with the number of that move behind the others
pub answers_snoc : {Val : Type 0} (R : Rule Val) (s : LoopNest) (L : Layout) (st : State Val) (ms : List Move) (mv : Move)
    → answers R s L st (ms ++ (mv ∷ [])) ≡ answers R s L st ms ++ (move_answer s L (run R s L st ms) mv ∷ [])
answers_snoc R s L st [] mv = refl
answers_snoc R s L st (m ∷ ms) mv = ap (λ ns. move_answer s L st m ∷ ns) (answers_snoc R s L (move_after R s L st m) ms mv)
