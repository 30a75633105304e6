-- `put_rows` meets its contract. Assumes nothing.
use borrow.Author.Rules.{rules}
use mathlib.Core.Path.{◌≡◌, sym, ap, subst}
use mathlib.Core.List.{[], ◌∷◌, flat_map}
use mathlib.Core.Logic.{⊎_elim}
use Prim.Native.Nat.{ℕ, ◌≤◌}
use lib.IntN.{pos}
use lib.ListN.{length}
use native.Mathlib.Omega.{arith}
use Rattle.integers.specs.Lists.{tab}
use Rattle.nest.proofs.Zipped.{Next, next, ended}
use Rattle.nest_text.specs.Text.{line}
use Rattle.nest_text.specs.Stored.{Stored}
use Rattle.nest_text.proofs.WriteLaws.{stored-none, stored_as, lines_more}
use Rattle.planner.specs.Listing.{row_of}
use Rattle.planner.proofs.lines.put_rows.Goals as goal
use Rattle.planner.proofs.lines.put_rows.Goals.{In-Some}

-- the turn, and what it takes
abbrev k : In-Some → ℕ
k c = c.loop-rank.rank-iterator.count

step : (c : In-Some) → Next c.args.steps.now (k c) c.in-Some.step.now c.next.new.self.iter.a.a.a.rest.now
step c = next c.args.steps.now (k c) c.in-Some.step.now c.next.new.self.iter.a.a.a.rest.now c.loop-rank.rank-iterator.iter.a.a.a.rest.now c.loop-rank.invariant.steps c.in-Some.ensures.steps.0.0.0.0

block : (c : In-Some) → Next c.args.blocks.now (k c) c.in-Some.block.now c.next.new.self.iter.a.a.b.rest.now
block c = next c.args.blocks.now (k c) c.in-Some.block.now c.next.new.self.iter.a.a.b.rest.now c.loop-rank.rank-iterator.iter.a.a.b.rest.now c.loop-rank.invariant.blocks c.in-Some.ensures.steps.0.0.0.1

processor : (c : In-Some) → Next c.args.processors.now (k c) c.in-Some.processor.now c.next.new.self.iter.a.b.rest.now
processor c = next c.args.processors.now (k c) c.in-Some.processor.now c.next.new.self.iter.a.b.rest.now c.loop-rank.rank-iterator.iter.a.b.rest.now c.loop-rank.invariant.processors c.in-Some.ensures.steps.0.0.1

value : (c : In-Some) → Next c.args.values.now (k c) c.in-Some.value.now c.next.new.self.iter.b.rest.now
value c = next c.args.values.now (k c) c.in-Some.value.now c.next.new.self.iter.b.rest.now c.loop-rank.rank-iterator.iter.b.rest.now c.loop-rank.invariant.values c.in-Some.ensures.steps.0.1

pub loop-rank-init : goal.loop-rank-init
unfolding tab flat_map
loop-rank-init c =
    let z : c.into_iter-rank-iterator.result.count ≡ 0 = search rules in
    rw z record {
      passed = omega arith;
      steps = search rules;
      blocks = search rules;
      processors = search rules;
      values = search rules;
      end = omega arith;
      stored = stored-none c.args.out.now c.args.at;
    }

-- the line is that of iteration k
row : (c : In-Some) → let a = c.args in let i = c.in-Some in pos i.rank ∷ pos i.step.now ∷ pos i.block.now ∷ pos i.processor.now ∷ pos i.value.now ∷ [] ≡ row_of a.steps.now a.blocks.now a.processors.now a.values.now (k c)
unfolding row_of
row c = λ i. pos (c.in-Some.ensures.steps.1 i) ∷ pos (sym ((step c).here 0) i) ∷ pos (sym ((block c).here 0) i) ∷ pos (sym ((processor c).here 0) i) ∷ pos (sym ((value c).here 0) i) ∷ []

pub loop-rank-preserved : goal.loop-rank-preserved
loop-rank-preserved c =
    let t = (goal.at.loop-rank-preserved c).In-Some in
    let a = c.args in
    let i = c.loop-rank.invariant in
    let q = c.put_row-end.ensures in
    let b = (step t).below in
    rw c.in-Some.ensures.steps.2 record {
      passed = omega (arith, b);
      steps = (step t).behind;
      blocks = (block t).behind;
      processors = (processor t).behind;
      values = (value t).behind;
      end = omega (arith, q.0, i.end);
      stored = lines_more (row_of a.steps.now a.blocks.now a.processors.now a.values.now) (k t) i.stored (stored_as (ap line (row t)) q.1);
    }

pub returns : goal.returns
returns c =
    let a = c.args in
    let i = c.loop-rank.invariant in
    let it = c.loop-rank.rank-iterator in
    let n = c.requires.iterations_in_bounds_2 in
    let d : length a.steps.now ≤ it.count =
    ⊎_elim
    (λ h. ⊎_elim
    (λ g. ⊎_elim (λ f. ended a.steps.now it.count it.iter.a.a.a.rest.now i.steps f.1.0) (λ f. let m = ended a.blocks.now it.count it.iter.a.a.b.rest.now i.blocks f.1.0 in omega (arith, m, n.0)) g.1)
    (λ g. let m = ended a.processors.now it.count it.iter.a.b.rest.now i.processors g.1.0 in omega (arith, m, n.1)) h.1)
    (λ h. let m = ended a.values.now it.count it.iter.b.rest.now i.values h.1.0 in omega (arith, m, n.2)) c.in-None.ensures.steps.0 in
    let e : it.count ≡ length a.steps.now = omega (arith, d, i.passed) in
    subst (λ (j : ℕ). Stored a.out.now a.at (flat_map line (tab (row_of a.steps.now a.blocks.now a.processors.now a.values.now) j)) c.loop-rank.out c.loop-rank.end) e i.stored
