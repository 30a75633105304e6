-- Demand 2: what holds of the tables and counts that an accepted call of `plan` left, and of a nest that is read and written.
-- Assumes nothing.
use mathlib.Core.Path.{◌≡◌, refl, sym, ap, ap₂, subst, ◌∙◌}
use mathlib.Core.Logic.{◌⊎◌, inl, inr}
use mathlib.Core.List.{List, ◌++◌}
use Prim.Native.Nat.{ℕ, ◌+◌, ◌*◌, ◌^◌, ◌<◌, ◌≤◌}
use native.Mathlib.Omega.{arith}
use lib.ListN.{length, get_or, take, drop, get_or-append}
use lib.Seq.{take-append-le, take_all}
use Rattle.integers.proofs.ListFacts.{get_d_map}
use Rattle.nest.specs.declared.LoopNest.{LoopNest}
use Rattle.nest.specs.Points.{points_of}
use Rattle.nest.specs.Nest.{to_ℕ, count_of}
use Rattle.nest.specs.Refusals.{Inspection}
use Rattle.nest.specs.Refusals.{refusal, table_after, Order, Answered, nest_order}
use Rattle.nest.proofs.Answers.{answered_unique, nest-answered}
use Rattle.nest.proofs.Entries.{made_table}
use Rattle.partition.specs.Partition.{steps_of, step_count, groups_of, blocks_of, block_count, chosen_of, no_group}
use Rattle.partition.specs.Sending.{Receivers, receiver_count}
use Rattle.partition.proofs.Sends.{receivers-same}
use Rattle.partition.proofs.Theorem2.{theorem_2, most-is, most-accepted}
use Rattle.partition.proofs.Nests.{steps-length, groups-length}
use Rattle.partition.proofs.Theorems.{step-at as step-entry, step_order, step_iff, step_below, step_used, step_few, blocks-length, block_below, block_used, block_order, block_iff, one-iteration-a-step, later_step}
use Rattle.mapping.specs.Mapping.{processors_of, processor_count, message_count, directions_of, processor}
use Rattle.mapping.proofs.Theorems.{processors-length, processors-below, messages-counted}
use Rattle.sequential.specs.Sequential.{rule_of, values_of, fill_refusal, fill_order}
use Rattle.sequential.proofs.Answers.{fill-answered}
use Rattle.sequential.proofs.LoopLaws.{loop-value}
use Rattle.planner.specs.Plan.{Planning}
use Rattle.planner.specs.Plan.{plan_refusal, plan_order, plan_answer, Tables, Plans}
use Rattle.planner.specs.Listing.{plan_text, list_order}
use Rattle.planner.proofs.Answers.{plan-answered, list-answered}
use Rattle.planner.proofs.PlanLaws.{values_length, plan-number, plan-answer, plan-accepted}
use Rattle.execution.specs.Run.{move_answer}
use Rattle.execution.specs.Words.{move_order}
use Rattle.execution.specs.Entry.{number_of}
use Rattle.execution.proofs.Answers.{move-answered}
use Rattle.nest_text.specs.Fields.{Bytes}
use Rattle.nest_text.specs.Answered.{Reading}
use Rattle.nest_text.specs.Answered.{Writing}
use Rattle.nest_text.specs.Text.{short_last, text_with, text_of, read_refusal, read_nest, write_refusal, write_order}
use Rattle.nest_text.specs.Text.{Writes}
use Rattle.nest_text.specs.Form.{LongEqual}
use Rattle.nest_text.specs.Form.{read_order}
use Rattle.nest_text.proofs.Answers.{read-answered, write-answered}
use Rattle.rows.specs.Rows.{Span}
use Rattle.rows.specs.Rows.{row_refusal, row_order}
use Rattle.rows.proofs.SpanLaws.{span_refusal}
use Rattle.rows.proofs.Answers.{row-answered}
use Rattle.nest_text.proofs.RoundTrip.{reads_as, read-written, written_read, written_shorter}
use Rattle.nest_text.proofs.WriteAnswers.{put_number, put_length, put_bytes, put_first, put_room}
use Rattle.promises.specs.Demand2.{at, IsPlan, Wrote, SameText, Exactly, Conditions, Demand2}

-- ---- a plan
module _ (s : LoopNest) (old : Tables) (p : Planning) (t : Tables) (P : Plans s old p t) (z : p.refusal ≡ 0) where
  -- the nest is accepted
  ok : refusal s ≡ 0
  ok = plan-accepted s old p t P z

  -- and the answer has its counts
  counts : p ≡ plan_answer s 0
  counts = plan-answer s old p t P z

  -- a table that is planned
  table : (planned was now : List ℕ) → length planned ≡ length (points_of s) → now ≡ table_after p.refusal planned was → now ≡ planned ++ drop (length (points_of s)) was
  table planned was now l e = e ∙ made_table p.refusal (length (points_of s)) planned was z l

  -- and its entries
  entry : (planned was now : List ℕ) → length planned ≡ length (points_of s) → now ≡ table_after p.refusal planned was → (k : ℕ) → k < length (points_of s) → at now k ≡ at planned k
  entry planned was now l e k h = ap (λ (xs : List ℕ). get_or xs k 0) (table planned was now l e) ∙ get_or-append planned (drop (length (points_of s)) was) 0 k (omega arith)

  step-at : (k : ℕ) → k < length (points_of s) → at t.steps k ≡ at (steps_of s) k
  step-at = entry (steps_of s) old.steps t.steps (steps-length s) P.1.0

  block_at_lem : (k : ℕ) → k < length (points_of s) → at t.blocks k ≡ at (blocks_of s) k
  block_at_lem = entry (blocks_of s) old.blocks t.blocks (blocks-length s ok) P.1.1.0

  processor-at : (k : ℕ) → k < length (points_of s) → at t.processors k ≡ at (processors_of s) k
  processor-at = entry (processors_of s) old.processors t.processors (processors-length s) P.1.1.1.0

  value-at : (k : ℕ) → k < length (points_of s) → at t.values k ≡ at (values_of s) k
  value-at = entry (values_of s) old.values t.values (values_length s) P.1.1.1.1

  -- the counts by their definitions
  counted : (p.iterations ≡ length (points_of s)) × (p.steps ≡ step_count s) × (p.blocks ≡ block_count s) × (p.processors ≡ processor_count s) × (p.messages ≡ message_count s)
  unfolding plan_answer
  counted = (
    ap (λ (x : Planning). x.iterations) counts,
    ap (λ (x : Planning). x.steps) counts,
    ap (λ (x : Planning). x.blocks) counts,
    ap (λ (x : Planning). x.processors) counts,
    ap (λ (x : Planning). x.messages) counts,
  )

  -- an iteration's processor is that of its group
  grouped : (k : ℕ) → k < length (points_of s) → at (processors_of s) k ≡ processor (directions_of s) (get_or (groups_of s) k no_group)
  unfolding processors_of
  grouped k h = get_d_map (processor (directions_of s)) (groups_of s) k no_group 0 (subst (λ n. k < n) (sym (groups-length s)) h)

  -- so a block is on one
  one_processor : (j k : ℕ) → j < length (points_of s) → k < length (points_of s) → at t.blocks j ≡ at t.blocks k → at t.processors j ≡ at t.processors k
  one_processor j k hj hk e =
      let g = (block_iff s ok j k hj hk).0 (sym (block_at_lem j hj) ∙ e ∙ block_at_lem k hk) in
      processor-at j hj ∙ grouped j hj ∙ ap (processor (directions_of s)) g ∙ sym (grouped k hk) ∙ sym (processor-at k hk)

  -- a block's receivers, in the table that was written
  receivers : (b : ℕ) → b < p.blocks → receiver_count s t.blocks p.blocks b + chosen_of s ≤ 2 * count_of s
  receivers b h = omega (arith, receivers-same s t.blocks (blocks_of s) block_at_lem p.blocks b, theorem_2 s ok p.blocks b)

  planned : IsPlan s old p t
  planned = record {
    steps = table (steps_of s) old.steps t.steps (steps-length s) P.1.0;
    blocks = table (blocks_of s) old.blocks t.blocks (blocks-length s ok) P.1.1.0;
    processors = table (processors_of s) old.processors t.processors (processors-length s) P.1.1.1.0;
    values = table (values_of s) old.values t.values (values_length s) P.1.1.1.1;
    iterations = counted.0;
    step = λ k h. step-at k h ∙ step-entry s ok k h;
    step_count_is = counted.1 ∙ (unfold step_count in refl);
    step_order = λ j k hj hk.
        let r = step_order s ok j k hj hk in
        let a = step-at j hj in
        let b = step-at k hk in
        (λ h. r.0 (omega (arith, h, a, b)), λ h. omega (arith, r.1 h, a, b));
    step_same = λ j k hj hk.
        let r = step_iff s ok j k hj hk in
        (λ e. r.0 (sym (step-at j hj) ∙ e ∙ step-at k hk), λ e. step-at j hj ∙ r.1 e ∙ sym (step-at k hk));
    step_below = λ k h. omega (arith, step-at k h, counted.1, step_below s ok k h);
    step_used = λ b h. let u = step_used s ok b (omega (arith, h, counted.1)) in (u.0, u.1, step-at u.0 u.1 ∙ u.2);
    step_few = λ k h. omega (arith, step-at k h, counted.0, step_few s ok k h);
    block_below = λ k h. omega (arith, block_at_lem k h, counted.2, block_below s ok k h);
    block_used = λ b h. let u = block_used s ok b (omega (arith, counted.2)) in (u.0, u.1, block_at_lem u.0 u.1 ∙ u.2);
    block_order = λ k h b l.
        let u = block_order s ok k h b (omega (arith, block_at_lem k h)) in
        let e = u.1 in
        (u.0, u.1, block_at_lem u.0 (omega arith) ∙ u.2);
    one_group = λ j k hj hk.
        let i = block_iff s ok j k hj hk in
        (λ e. i.0 (sym (block_at_lem j hj) ∙ e ∙ block_at_lem k hk), λ e. block_at_lem j hj ∙ i.1 e ∙ sym (block_at_lem k hk));
    one_a_step = λ j k hj hk b e. one-iteration-a-step s ok j k hj hk (sym (block_at_lem j hj) ∙ b ∙ block_at_lem k hk) (sym (step-at j hj) ∙ e ∙ step-at k hk);
    later_step = λ i hi j k hj hk e. omega (arith, step-at j hj, step-at k hk, later_step s ok i hi j k hj hk e);
    receivers = λ b h. omega (arith, receivers b h);
    most = λ r e b h. omega (arith, receivers b h, most-is s ok, ap (λ (x : Receivers). x.most) e, most-accepted s ok);
    one_processor = one_processor;
    processor_below = λ k h. subst (λ n. n < 2 ^ to_ℕ s.cube) (sym (processor-at k h)) (processors-below s k h);
    processor_count_is = counted.3;
    message_count_is = counted.4 ∙ messages-counted s;
    value = λ k h. value-at k h ∙ (unfold values_of in loop-value (rule_of s) s ok k h 0);
  }

-- ---- read and written

-- two answers with the same number and nest
both_read : {a b : ℕ} {s t : LoopNest} → a ≡ b → s ≡ t → ◌≡◌ {A = Reading} (record { refusal = a; nest = s }) (record { refusal = b; nest = t })
both_read p q = λ i. record { refusal = p i; nest = q i }

-- what `write` leaves of an accepted nest where there is room
wrote : (s : LoopNest) (old new : Bytes) (w : Writing) → refusal s ≡ 0 → Writes s old w new → length (text_of s) ≤ length old → Wrote (text_of s) old w new
wrote s old new w ok W h =
    let z = put_room (refusal s) (text_of s) old h ∙ ok in
    let a = put_number (refusal s) (text_of s) old w new W ∙ z in
    let l = put_length (refusal s) (text_of s) old w new W z in
    (λ i. record { refusal = a i; length = l i }, put_bytes (refusal s) (text_of s) old w new W z)

-- what is written for a nest that was read, by which text it was read from
again : (text old : Bytes) (w : Writing) (new : Bytes) (s : LoopNest) → (text_of s ≡ text) ⊎ (LongEqual s text × (text_of s ≡ text_with s (short_last s)))
    → Wrote (text_of s) old w new → Wrote text old w new ⊎ (LongEqual s text × Wrote (text_with s (short_last s)) old w new)
again text old w new s (inl e) b = inl (subst (λ (bs : Bytes). Wrote bs old w new) e b)
again text old w new s (inr (l, e)) b = inr (l, subst (λ (bs : Bytes). Wrote bs old w new) e b)

same_text : SameText
same_text = record {
  reads_as = λ s text r ok R.
      let l = reads_as s ok text in (
        λ e. l.0 (sym (ap (λ (x : Reading). x.refusal) R) ∙ ap (λ (x : Reading). x.refusal) e, sym (ap (λ (x : Reading). x.nest) R) ∙ ap (λ (x : Reading). x.nest) e),
        λ t. let b = l.1 t in R ∙ both_read b.0 b.1,
      );
  reads_written = λ s old new w r W e R.
      let z = sym (put_number (refusal s) (text_of s) old w new W) ∙ e in
      let q = read-written s (put_first (refusal s) (text_of s) old z) in
      let back : take w.length new ≡ text_of s =
      ap₂ (λ (n : ℕ) (bs : Bytes). take n bs) (put_length (refusal s) (text_of s) old w new W z) (put_bytes (refusal s) (text_of s) old w new W z)
      ∙ take-append-le (length (text_of s)) (text_of s) (drop (length (text_of s)) old) (omega arith) ∙ take_all (length (text_of s)) (text_of s) (omega arith) in
      R ∙ ap (λ (bs : Bytes). let x : Reading = record { refusal = read_refusal bs; nest = read_nest bs } in x) back
      ∙ both_read q.0 q.1;
  writes_read = λ text old new r w R e W h.
      let s = ap (λ (x : Reading). x.nest) R in
      let q = written_read text (sym (ap (λ (x : Reading). x.refusal) R) ∙ e) in
      let b = wrote r.nest old new w (ap refusal s ∙ q.accepted) W h in
      subst (λ (t : LoopNest). Wrote text old w new ⊎ (LongEqual t text × Wrote (text_with t (short_last t)) old w new)) (sym s)
      (again text old w new (read_nest text) q.bytes_are (subst (λ (t : LoopNest). Wrote (text_of t) old w new) s b));
  no_longer = λ text r R e.
      subst (λ (t : LoopNest). length (text_of t) ≤ length text) (sym (ap (λ (x : Reading). x.nest) R)) (written_shorter text (sym (ap (λ (x : Reading). x.refusal) R) ∙ e));
}

-- ---- refusals

-- an order says one number
exactly : (order : Order) (number answered : ℕ) → number ≡ answered → Answered order answered → Exactly order number
exactly order number answered e a k = (λ q. subst (Answered order) (sym e ∙ q) a, λ b. e ∙ answered_unique order answered k a b)

-- of every entry
conditions : Conditions
conditions = record {
  check = λ s r e. exactly (nest_order s) r (refusal s) e (nest-answered s);
  inspect = λ s r e. exactly (nest_order s) r.refusal (refusal s) (ap (λ (x : Inspection). x.refusal) e) (nest-answered s);
  most_receivers = λ s r e. exactly (nest_order s) r.refusal (refusal s) (ap (λ (x : Receivers). x.refusal) e) (nest-answered s);
  read = λ text r e. exactly (read_order text) r.refusal (read_refusal text) (ap (λ (x : Reading). x.refusal) e) (read-answered text);
  write = λ s old r new e.
      exactly (write_order s (length old)) r.refusal (write_refusal (refusal s) (text_of s) (length old)) (ap (λ (x : Writing). x.refusal) e.0) (write-answered s (length old));
  locate = λ s entries i r e. exactly (row_order s entries i) r.refusal (row_refusal s entries i) (ap (λ (x : Span). x.refusal) e ∙ span_refusal s entries i) (row-answered s entries i);
  row = λ s table i part k e. exactly (row_order s (length table) i) k (row_refusal s (length table) i) e.1 (row-answered s (length table) i);
  fill = λ s old r new e. exactly (fill_order s (length old)) r (fill_refusal s (length old)) e.0 (fill-answered s (length old));
  plan = λ s old r new e.
      let a = length old.steps in
      let b = length old.blocks in
      let c = length old.processors in
      let d = length old.values in
      exactly (plan_order s a b c d) r.refusal (plan_refusal s a b c d) (ap (λ (x : Planning). x.refusal) e.0 ∙ plan-number s (plan_refusal s a b c d)) (plan-answered s a b c d);
  list = λ text old r new e.
      exactly (list_order text (length old)) r.refusal (write_refusal (read_refusal text) (plan_text (read_nest text)) (length old)) (ap (λ (x : Writing). x.refusal) e.0) (list-answered text (length old));
  move = λ s L st mv r st' e. exactly (move_order s L st mv) (number_of r) (move_answer s L st mv) e.1.0 (move-answered s L st mv);
}

-- ---- demand 2
pub demand_2 : Demand2
demand_2 = record { plan = planned; refusals = conditions; text = same_text }
