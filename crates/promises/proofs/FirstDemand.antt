-- Demand 1, of every entry: what its promise says is one outcome, which is done or refused with a number of its list, and a refused one changes nothing.
-- Assumes nothing.
use mathlib.Core.Path.{◌≡◌, refl, sym, ap, subst, ◌∙◌}
use mathlib.Core.List.{List, [], ◌∷◌, ◌++◌, Memᴰ}
use mathlib.Core.Logic.{◌≢◌}
use Prim.Native.Nat.{ℕ, ◌<◌}
use borrow.Author.Tests.{ne_eqb}
use lib.IntN.{ℤ}
use lib.ListN.{length}
use Rattle.nest.specs.declared.LoopNest.{LoopNest}
use Rattle.nest.specs.Refusals.{Inspection}
use Rattle.nest.specs.Nest.{empty_nest}
use Rattle.nest.specs.Points.{points_of}
use Rattle.nest.specs.Refusals.{number, limit, Outside, refusal, iterations, OneShort, table_after, Order, Answered, order_numbers, nest_order, nest_numbers, Checks, Inspects}
use Rattle.nest.proofs.Answers.{answered-listed, nest-answered, nest-numbers, call-numbers}
use Rattle.nest.proofs.Entries.{same-table}
use Rattle.nest_text.specs.Fields.{Bytes}
use Rattle.nest_text.specs.Answered.{Reading}
use Rattle.nest_text.specs.Answered.{Writing}
use Rattle.nest_text.specs.Text.{text_of, read_refusal, read_nest, write_refusal, written_length, written, write_order, Puts, Reads}
use Rattle.nest_text.specs.Form.{read_order}
use Rattle.nest_text.proofs.WriteAnswers.{put_nothing}
use Rattle.nest_text.proofs.Answers.{write-answered, read-answered, read-numbers}
use Rattle.rows.specs.Rows.{Span}
use Rattle.rows.specs.Rows.{row_refusal, row_order, span_of, row_of, Locates, Cuts}
use Rattle.rows.proofs.SpanLaws.{span_refusal, refused_span}
use Rattle.rows.proofs.PartLaws.{empty_iff}
use Rattle.rows.proofs.Answers.{row-answered}
use Rattle.sequential.specs.Sequential.{rule_of, values_of, fill_refusal, fill_order, filled, Fills}
use Rattle.sequential.proofs.Answers.{fill-answered}
use Rattle.partition.specs.Partition.{steps_of, blocks_of}
use Rattle.partition.specs.Sending.{Receivers, bound_of, Bounds}
use Rattle.partition.proofs.Theorem2.{most-refused}
use Rattle.mapping.specs.Mapping.{processors_of}
use Rattle.planner.specs.Plan.{Planning}
use Rattle.planner.specs.Plan.{plan_order, plan_answer, Tables, tables_refusal, Plans}
use Rattle.planner.specs.Listing.{plan_text, list_order}
use Rattle.planner.proofs.PlanLaws.{refused-answer, plan-number}
use Rattle.planner.proofs.Answers.{plan-answered, list-answered}
use Rattle.execution.specs.Answer.{Answer}
use Rattle.execution.specs.Rules.{Move, compute, deliver, Effect, refuse, iteration, message, answer, Layout}
use Rattle.execution.specs.Run.{State, move_effect, move_answer, move_after, after}
use Rattle.execution.specs.Words.{move_order}
use Rattle.execution.specs.declared.Move as asked
use Rattle.execution.specs.Entry.{move_of, number_of, answer_of, Makes}
use Rattle.foreign.specs.Numbers.{numbers_of, made_in, ReadsInto, MakesInto}
use Rattle.execution.proofs.Answers.{move-answered, compute-numbers, deliver-numbers}
use Rattle.execution.proofs.EntryLaws.{number-answer}
use Rattle.promises.specs.Demand1.{buffer_numbers, row_numbers, text_numbers, move_numbers, OneOutcome, NoBytes, NoCounts, EveryEntry, Demand1}

-- ---- numbers

-- what an order answers is 0 or one of its numbers
listed : (order : Order) (numbers : List ℕ) (k : ℕ) → order_numbers order ≡ numbers → Answered order k → Memᴰ k (0 ∷ numbers)
listed order numbers k e a = subst (λ ns. Memᴰ k (0 ∷ ns)) e (answered-listed order k a)

-- those of `list`
list-numbers : (text : Bytes) (room : ℕ) → order_numbers (list_order text room) ≡ text_numbers ++ (14 ∷ [])
unfolding number
list-numbers text room = refl

-- ---- the entries

-- `check`
check-one : (s : LoopNest) → OneOutcome ℕ (Checks s) (λ r. r) nest_numbers (λ r. Unit {0})
check-one s = record {
  outcome = refusal s;
  promised = refl;
  no_other = λ r e. e;
  number_listed = listed (nest_order s) nest_numbers (refusal s) (nest-numbers s) (nest-answered s);
  refused = λ h. tt;
}

-- `inspect`
inspect-refused : (s : LoopNest) → refusal s ≢ 0 → iterations s ≡ 0
unfolding iterations
inspect-refused s h = rw (ne_eqb (refusal s) 0 h, iterations) refl

inspect-one : (s : LoopNest) → OneOutcome Inspection (Inspects s) (λ r. r.refusal) nest_numbers (λ r. r.iterations ≡ 0)
inspect-one s = record {
  outcome = record { refusal = refusal s; iterations = iterations s };
  promised = refl;
  no_other = λ r e. e;
  number_listed = listed (nest_order s) nest_numbers (refusal s) (nest-numbers s) (nest-answered s);
  refused = inspect-refused s;
}

-- `most_receivers`
receivers-one : (s : LoopNest) → OneOutcome Receivers (Bounds s) (λ r. r.refusal) nest_numbers (λ r. r.most ≡ 0)
receivers-one s = record {
  outcome = record { refusal = refusal s; most = bound_of s };
  promised = refl;
  no_other = λ r e. e;
  number_listed = listed (nest_order s) nest_numbers (refusal s) (nest-numbers s) (nest-answered s);
  refused = λ h. most-refused s h;
}

-- `read`
read-refused : (text : Bytes) → read_refusal text ≢ 0 → read_nest text ≡ empty_nest
unfolding read_nest
read-refused text h = rw (ne_eqb (read_refusal text) 0 h, read_nest) refl

read_one : (text : Bytes) → OneOutcome Reading (Reads text) (λ r. r.refusal) text_numbers (λ r. r.nest ≡ empty_nest)
read_one text = record {
  outcome = record { refusal = read_refusal text; nest = read_nest text };
  promised = refl;
  no_other = λ r e. e;
  number_listed = listed (read_order text) text_numbers (read_refusal text) (read-numbers text) (read-answered text);
  refused = read-refused text;
}

-- a call that writes bytes
puts_one : (k : ℕ) (bytes old : Bytes) (numbers : List ℕ) → Memᴰ (write_refusal k bytes (length old)) (0 ∷ numbers)
    → OneOutcome (Writing × Bytes) (λ o. Puts k bytes old o.0 o.1) (λ o. o.0.refusal) numbers (NoBytes old)
puts_one k bytes old numbers m =
    let r : Writing = record { refusal = write_refusal k bytes (length old); length = written_length k bytes (length old) } in
    let new = written k bytes old in
    record { outcome = (r, new); promised = (refl, refl); no_other = λ o e. λ i. (e.0 i, e.1 i); number_listed = m; refused = put_nothing k bytes old r new (refl, refl) }

-- `locate` and `row`
row_listed : (s : LoopNest) (entries : ℕ) (i : ℤ) → Memᴰ (row_refusal s entries i) (0 ∷ row_numbers)
row_listed s entries i = listed (row_order s entries i) row_numbers (row_refusal s entries i) (call-numbers s ((14, entries < length (points_of s)) ∷ (19, Outside (limit s 0).lower (limit s 0).upper i) ∷ [])) (row-answered s entries i)

locate-one : (s : LoopNest) (entries : ℕ) (i : ℤ) → OneOutcome Span (Locates s entries i) (λ r. r.refusal) row_numbers (λ r. (r.start ≡ 0) × (r.length ≡ 0))
locate-one s entries i = record {
  outcome = span_of s entries i;
  promised = refl;
  no_other = λ r e. e;
  number_listed = subst (λ k. Memᴰ k (0 ∷ row_numbers)) (sym (span_refusal s entries i)) (row_listed s entries i);
  refused = λ h.
      let e = refused_span s entries i (row_refusal s entries i) refl (λ z. h (span_refusal s entries i ∙ z)) in
      (ap (λ (r : Span). r.start) e, ap (λ (r : Span). r.length) e);
}

row_one : (s : LoopNest) (table : List ℕ) (i : ℤ) → OneOutcome (List ℕ × ℕ) (λ o. Cuts s table i o.0 o.1) (λ o. o.1) row_numbers (λ o. o.0 ≡ [])
row_one s table i = record {
  outcome = (row_of s table i, row_refusal s (length table) i);
  promised = (refl, refl);
  no_other = λ o e. λ j. (e.0 j, e.1 j);
  number_listed = row_listed s (length table) i;
  refused = λ h. (empty_iff s table i (row_of s table i) (row_refusal s (length table) i) refl refl).1 h;
}

-- `fill`
fill_one : (s : LoopNest) (old : List ℕ) → OneOutcome (ℕ × List ℕ) (λ o. Fills s old o.0 o.1) (λ o. o.0) buffer_numbers (λ o. o.1 ≡ old)
fill_one s old = record {
  outcome = (fill_refusal s (length old), filled s old);
  promised = (refl, refl);
  no_other = λ o e. λ i. (e.0 i, e.1 i);
  number_listed = listed (fill_order s (length old)) buffer_numbers (fill_refusal s (length old)) (call-numbers s ((14, length old < length (points_of s)) ∷ [])) (fill-answered s (length old));
  refused = λ h. unfold filled in same-table (fill_refusal s (length old)) (values_of s) old h;
}

-- `plan`
module _ (s : LoopNest) (old : Tables) where
  -- what is answered, and the tables that are left
  abbrev planned : Planning
  planned = plan_answer s (tables_refusal s old)

  abbrev left : Tables
  left = record {
    steps = table_after planned.refusal (steps_of s) old.steps;
    blocks = table_after planned.refusal (blocks_of s) old.blocks;
    processors = table_after planned.refusal (processors_of s) old.processors;
    values = table_after planned.refusal (values_of s) old.values;
  }

  -- no other is promised
  planned_alone : (o : Planning × Tables) → Plans s old o.0 o.1 → o ≡ (planned, left)
  planned_alone (r, t) e =
      let n = ap (λ (x : Planning). x.refusal) e.0 in
      let a = e.1.0 ∙ ap (λ k. table_after k (steps_of s) old.steps) n in
      let b = e.1.1.0 ∙ ap (λ k. table_after k (blocks_of s) old.blocks) n in
      let c = e.1.1.1.0 ∙ ap (λ k. table_after k (processors_of s) old.processors) n in
      let d = e.1.1.1.1 ∙ ap (λ k. table_after k (values_of s) old.values) n in
      λ i. (e.0 i, record { steps = a i; blocks = b i; processors = c i; values = d i })

  plan-one : OneOutcome (Planning × Tables) (λ o. Plans s old o.0 o.1) (λ o. o.0.refusal) buffer_numbers (λ o. NoCounts o.0 × (o.1 ≡ old))
  plan-one = record {
    outcome = (planned, left);
    promised = (refl, (refl, (refl, (refl, refl))));
    no_other = planned_alone;
    number_listed =
        let t = old in
        listed (plan_order s (length t.steps) (length t.blocks) (length t.processors) (length t.values)) buffer_numbers planned.refusal (call-numbers s ((14, OneShort (length (points_of s)) (length t.steps) (length t.blocks) (length t.processors) (length t.values)) ∷ []))
        (subst (Answered (plan_order s (length t.steps) (length t.blocks) (length t.processors) (length t.values))) (sym (plan-number s (tables_refusal s old)))
        (plan-answered s (length t.steps) (length t.blocks) (length t.processors) (length t.values)));
    refused = λ h.
        let e = refused-answer s (tables_refusal s old) (λ z. h (plan-number s (tables_refusal s old) ∙ z)) in
        let a = same-table planned.refusal (steps_of s) old.steps h in
        let b = same-table planned.refusal (blocks_of s) old.blocks h in
        let c = same-table planned.refusal (processors_of s) old.processors h in
        let d = same-table planned.refusal (values_of s) old.values h in (
          record {
            iterations = ap (λ (x : Planning). x.iterations) e;
            steps = ap (λ (x : Planning). x.steps) e;
            blocks = ap (λ (x : Planning). x.blocks) e;
            processors = ap (λ (x : Planning). x.processors) e;
            messages = ap (λ (x : Planning). x.messages) e;
          },
          λ i. record { steps = a i; blocks = b i; processors = c i; values = d i },
        );
  }

-- `make_move`
move-listed : (s : LoopNest) (L : Layout) (st : State ℕ) (mv : Move) → Memᴰ (move_answer s L st mv) (0 ∷ move_numbers mv)
move-listed s L st (compute p) =
    listed (move_order s L st (compute p)) (move_numbers (compute p)) (move_answer s L st (compute p)) (compute-numbers s L st p) (move-answered s L st (compute p))
move-listed s L st (deliver k i) =
    listed (move_order s L st (deliver k i)) (move_numbers (deliver k i)) (move_answer s L st (deliver k i)) (deliver-numbers s L st k i) (move-answered s L st (deliver k i))

module _ (s : LoopNest) (L : Layout) (st : State ℕ) (mv : Move) where
  -- a refused effect changes nothing
  kept : (x : Effect) → answer x ≢ 0 → after (rule_of s) s st x ≡ st
  kept (refuse a) h = refl
  kept (iteration k) h = absurd (h refl)
  kept (message k i) h = absurd (h refl)

  move-one : OneOutcome (Answer × State ℕ) (λ o. Makes s L st mv o.0 o.1) (λ o. number_of o.0) (move_numbers mv) (λ o. o.1 ≡ st)
  move-one =
      let x = move_effect s L st mv in
      let n = number-answer s st.values x in
      record {
        outcome = (answer_of s st.values x, move_after (rule_of s) s L st mv);
        promised = (refl, (n, refl));
        no_other = λ o e. λ i. (e.0 i, e.1.1 i);
        number_listed = subst (λ k. Memᴰ k (0 ∷ move_numbers mv)) (sym n) (move-listed s L st mv);
        refused = λ h. kept x (λ z. h (n ∙ z));
      }

-- ---- the exported functions that store an answer as numbers

-- `rowlock_read`
read_into_one : (text : Bytes) → OneOutcome (ℕ × List ℤ) (λ o. ReadsInto text o.0 o.1) (λ o. o.0) text_numbers (λ o. o.1 ≡ numbers_of empty_nest)
unfolding read_one
read_into_one text = record {
  outcome = (read_refusal text, numbers_of (read_nest text));
  promised = (record { refusal = read_refusal text; nest = read_nest text }, refl, refl, refl);
  no_other = λ o w.
      let number = w.2 ∙ ap (λ (x : Reading). x.refusal) w.1 in
      let nest = w.3 ∙ ap (λ (x : Reading). numbers_of x.nest) w.1 in
      λ i. (number i, nest i);
  number_listed = (read_one text).number_listed;
  refused = λ h. ap numbers_of (read-refused text h);
}

-- `rowlock_move`
module _ (s : LoopNest) (L : Layout) (st : State ℕ) (what : asked.Move) where
  -- a refused move made nothing
  made_nothing : (x : Effect) → answer x ≢ 0 → made_in (answer_of s st.values x) ≡ 0 ∷ 0 ∷ []
  unfolding answer_of made_in
  made_nothing (refuse a) h = refl
  made_nothing (iteration k) h = absurd (h refl)
  made_nothing (message k i) h = absurd (h refl)

  move_into_one : OneOutcome (ℕ × List ℕ × State ℕ) (λ o. MakesInto s L st what o.0 o.1 o.2) (λ o. o.0) (move_numbers (move_of what)) (λ o. (o.1 ≡ 0 ∷ 0 ∷ []) × (o.2 ≡ st))
  unfolding move-one
  move_into_one =
      let one = move-one s L st (move_of what) in
      let x = move_effect s L st (move_of what) in
      let a = answer_of s st.values x in
      let n = number-answer s st.values x in
      record {
        outcome = (number_of a, made_in a, move_after (rule_of s) s L st (move_of what));
        promised = (a, one.promised, refl, refl);
        no_other = λ o w.
            let number = w.2 ∙ ap number_of w.1.0 in
            let made = w.3 ∙ ap made_in w.1.0 in
            λ i. (number i, made i, w.1.1.1 i);
        number_listed = one.number_listed;
        refused = λ h. (made_nothing x (λ z. h (n ∙ z)), one.refused h);
      }

-- ---- demand 1
entries-one : EveryEntry OneOutcome
entries-one = record {
  check = check-one;
  inspect = inspect-one;
  most_receivers = receivers-one;
  read = read_one;
  write = λ s old. puts_one (refusal s) (text_of s) old buffer_numbers
      (listed (write_order s (length old)) buffer_numbers (write_refusal (refusal s) (text_of s) (length old)) (call-numbers s ((14, length old < length (text_of s)) ∷ [])) (write-answered s (length old)));
  locate = locate-one;
  row = row_one;
  fill = fill_one;
  plan = plan-one;
  list = λ text old. puts_one (read_refusal text) (plan_text (read_nest text)) old (text_numbers ++ (14 ∷ []))
      (listed (list_order text (length old)) (text_numbers ++ (14 ∷ [])) (write_refusal (read_refusal text) (plan_text (read_nest text)) (length old)) (list-numbers text (length old)) (list-answered text (length old)));
  move = move-one;
  read_into = read_into_one;
  move_into = move_into_one;
}

pub demand_1 : Demand1
demand_1 = record { entries = entries-one; row_empty = λ s table i part k c. empty_iff s table i part k c.0 c.1 }
