-- `directions` meets its contract. Assumes nothing.
use Rattle.std.proofs.Common.{◌≡◌, ap, ◌∙◌, arith, length, ℕ, replicate, append-nil}
use Rattle.std.proofs.lemmas.List.{map-set}
use Rattle.integers.specs.Lists.{tab}
use Rattle.nest.specs.Nest.{max_depth}
use Rattle.mapping.specs.GroupNumbers.{column_of, column, span_of, directions_in}
use Rattle.mapping.specs.Held.{direction_of, held}
use Rattle.mapping.proofs.Arrays.{none}
use Rattle.mapping.proofs.Deals.{turn_below}
use Rattle.numbering.proofs.Filled.{filled_to, filled_none, filled_more}
use Rattle.mapping.proofs.block_groups.BlockGroups.directions.Goals as goal
use Rattle.mapping.proofs.block_groups.BlockGroups.directions.Goals.{In-loop-j}

pub loop-j-init : goal.loop-j-init
loop-j-init c = filled_none (λ j. span_of (column c.args.self.now.rows.now (column_of j) (length c.args.self.now.rows.now))) (held (replicate max_depth none))

pub direction_in-requires : goal.direction_in-requires
direction_in-requires c = unfold column_of in omega (arith, turn_below max_depth c.loop-j.j c.loop-j-test.true, c.column_of-column.ensures)

pub loop-j-preserved : goal.loop-j-preserved
loop-j-preserved c =
    map-set direction_of c.loop-j.direction-items c.loop-j.j c.direction_in.result
    ∙ filled_more (λ j. span_of (column c.args.self.now.rows.now (column_of j) (length c.args.self.now.rows.now))) (held (replicate max_depth none)) c.loop-j.j (direction_of c.direction_in.result) (held c.loop-j.direction-items) c.loop-j-test.true c.loop-j.invariant
    (c.direction_in.ensures ∙ ap (λ i. span_of (column c.args.self.now.rows.now i (length c.args.self.now.rows.now))) c.column_of-column.ensures)

pub returns : goal.returns
unfolding directions_in
returns c =
    let f = λ (j : ℕ). span_of (column c.args.self.now.rows.now (column_of j) (length c.args.self.now.rows.now)) in
    let e : c.loop-j.j ≡ max_depth = omega (arith, c.loop-j-test.false, c.loop-j.auto.j-end) in
    c.loop-j.invariant ∙ ap (filled_to f (held (replicate max_depth none))) e ∙ append-nil (tab f max_depth)
