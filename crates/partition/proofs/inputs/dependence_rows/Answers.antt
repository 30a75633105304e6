-- `dependence_rows` meets its contract. Assumes nothing.
use Rattle.std.proofs.Common.{◌≡◌, ◌∙◌, ◌<◌, ◌≤◌, ℕ, List, ◌*◌, ◌++◌, pos, length, take, replicate, sym, ap, subst, arith, rules}
use Rattle.std.proofs.lemmas.List.{length-take-le}
use Rattle.integers.specs.Lists.{tab}
use Rattle.integers.specs.Vector.{Vector}
use Rattle.nest.specs.declared.LoopNest.{LoopNest}
use Rattle.nest.specs.Nest.{padded, dependence_at, count_of, max_depth, max_dependences, max_component}
use Rattle.nest.proofs.Accepted.{depth_is, count_is}
use Rattle.nest.proofs.Words.{part_length}
use Rattle.numbering.specs.Tables.{rows, RowsWithin}
use Rattle.numbering.proofs.Filled.{filled_to, filled_none, filled_more}
use Rattle.partition.proofs.inputs.dependence_rows.Invariants.{row_at}
use Rattle.partition.proofs.NestVectors.{dependence-rows, tab-within}
use Rattle.partition.proofs.Passed.{filled-front}
use Rattle.partition.proofs.inputs.dependence_rows.Goals as goal
use Rattle.partition.proofs.inputs.dependence_rows.Goals.{After-count, In-loop-i}

pub slice_bounds-table-end : goal.slice_bounds-table-end
slice_bounds-table-end c = omega (arith, c.count.ensures, (count_is c.args.s.now.nest c.args.s.now.accepted).1)

-- the table that is lent to the loop
places : (c : After-count) → length (take c.count.result (replicate {A = Vector} 8 (replicate 4 (pos 0)))) ≡ c.count.result
places c = length-take-le c.count.result (replicate {A = Vector} 8 (replicate 4 (pos 0))) (omega (arith, c.count.ensures, (count_is c.args.s.now.nest c.args.s.now.accepted).1))

pub slice_bounds-row-items-end : goal.slice_bounds-row-items-end
slice_bounds-row-items-end c = sym (places (goal.at.slice_bounds-row-items-end c).After-count)

pub loop-i-init : goal.loop-i-init
loop-i-init c = filled_none (row_at c.args.s.now.nest) (take c.count.result (replicate {A = Vector} 8 (replicate 4 (pos 0))))

turn : (d : In-loop-i) → d.loop-i.i < count_of d.args.s.now.nest
turn d = omega (arith, d.count.ensures, places (goal.at.In-loop-i d).After-count, d.loop-i-test.true)

pub dependence_at-requires : goal.dependence_at-requires
dependence_at-requires c =
    let s = c.args.s.now in
    let l : length s.nest.dependences ≡ max_depth * max_dependences = search rules in
    omega (arith, l, c.depth.ensures, (depth_is s.nest s.accepted).1, (count_is s.nest s.accepted).1, turn (goal.at.dependence_at-requires c).In-loop-i)

pub row_of-requires : goal.row_of-requires
row_of-requires c =
    let s = c.args.s.now in
    omega (arith, ap (λ (v : Vector). length v) c.dependence_at.ensures, part_length s.nest.dependences (c.loop-i.i * max_depth) c.depth.result, c.depth.ensures, (depth_is s.nest s.accepted).1)

pub loop-i-preserved : goal.loop-i-preserved
loop-i-preserved c =
    let s = c.args.s.now.nest in
    let d = (goal.at.loop-i-preserved c).In-loop-i in
    let old = take c.count.result (replicate {A = Vector} 8 (replicate 4 (pos 0))) in
    let e : c.row_of.result ≡ row_at s c.loop-i.i = c.row_of.ensures ∙ ap (padded 4) (c.dependence_at.ensures ∙ ap (λ n. dependence_at s.dependences n c.loop-i.i) c.depth.ensures) in
    filled_more (row_at s) old c.loop-i.i c.row_of.result c.loop-i.row-items (omega (arith, places (goal.at.loop-i-preserved c).After-count, turn d, c.count.ensures)) c.loop-i.invariant e

-- the rows of the dependences, once all are passed
made : (s : LoopNest) (n i : ℕ) (items rest : List Vector) → n ≡ count_of s → n ≤ 8 → items ≡ filled_to (row_at s) (take n (replicate {A = Vector} 8 (replicate 4 (pos 0)))) i
    → i ≤ length (take n (replicate {A = Vector} 8 (replicate 4 (pos 0)))) → length (take n (replicate {A = Vector} 8 (replicate 4 (pos 0)))) ≤ i → rows (items ++ rest) (count_of s) ≡ tab (row_at s) (count_of s)
made s n i items rest e few f most least =
    let p = length-take-le n (replicate {A = Vector} 8 (replicate 4 (pos 0))) few in
    filled-front (row_at s) (take n (replicate {A = Vector} 8 (replicate 4 (pos 0)))) items rest i (count_of s) f (p ∙ e) (omega (arith, p, e))

pub returns-clause-value : goal.returns-clause-value
returns-clause-value c =
    let s = c.args.s.now in
    let few : c.count.result ≤ 8 = omega (arith, c.count.ensures, (count_is s.nest s.accepted).1) in
    made s.nest c.count.result c.loop-i.i c.loop-i.row-items _ c.count.ensures few c.loop-i.invariant c.loop-i.auto.i-end c.loop-i-test.false ∙ dependence-rows s.nest

pub returns-clause-within : goal.returns-clause-within
returns-clause-within c =
    let s = c.args.s.now in
    let few : c.count.result ≤ 8 = omega (arith, c.count.ensures, (count_is s.nest s.accepted).1) in
    subst (RowsWithin max_component) (sym (made s.nest c.count.result c.loop-i.i c.loop-i.row-items _ c.count.ensures few c.loop-i.invariant c.loop-i.auto.i-end c.loop-i-test.false)) (tab-within s.nest s.accepted)
