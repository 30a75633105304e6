-- `place_blocks` writes the blocks and the processors of an accepted nest. Assumes nothing.
use mathlib.Core.Path.{◌≡◌, sym, ap, ◌∙◌}
use mathlib.Core.List.{List, ◌++◌}
use Prim.Native.Nat.{ℕ, ◌<◌, ◌≤◌}
use native.Mathlib.Omega.{arith}
use lib.ListN.{length, get_or, take, drop}
use Rattle.std.proofs.lemmas.List.{get_or-take, length-take-le}
use Rattle.integers.specs.Vector.{Vector}
use Rattle.integers.proofs.ListFacts.{get_or-before}
use Rattle.nest.specs.declared.LoopNest.{LoopNest}
use Rattle.nest.specs.Points.{points_of}
use Rattle.nest.proofs.Accepted.{cube_is}
use Rattle.nest.proofs.PointLaws.{few-points, some-points}
use Rattle.partition.specs.Partition.{blocks_of, block_count, block_groups, block_at, chosen_of}
use Rattle.partition.specs.GroupRows.{GroupTable}
use Rattle.partition.proofs.Theorems.{blocks-length, block_below}
use Rattle.mapping.specs.Mapping.{processors_of}
use Rattle.mapping.proofs.Theorems.{laid-nest}
use Rattle.planner.proofs.Sizes.{blocks-few}
use Rattle.planner.proofs.Bridge.{has_rows, laid, front_table}
use Rattle.planner.proofs.place_blocks.Goals as goal
use Rattle.planner.proofs.place_blocks.Goals.{After-blocks_into-count, Start}

abbrev nest : Start → LoopNest
nest c = c.args.s.now.nest.now.nest

-- no more blocks than the table has rows
few : (c : After-blocks_into-count) → c.blocks_into-count.result ≤ length c.blocks_into-count.new.groups
few c =
    let s = c.args.s.now.nest.now.nest in
    let ok = c.args.s.now.nest.now.accepted in
    omega (arith, c.blocks_into-count.ensures.value, blocks-few s ok, few-points s ok, c.blocks_into-count.auto.groups)

abbrev rows : After-blocks_into-count → List Vector
rows c = take c.blocks_into-count.result c.blocks_into-count.new.groups

rows_long : (c : After-blocks_into-count) → length (rows c) ≡ c.blocks_into-count.result
rows_long c = length-take-le c.blocks_into-count.result c.blocks_into-count.new.groups (few c)

-- they hold the groups of the blocks
groups_laid : (c : After-blocks_into-count) → GroupTable (chosen_of c.args.s.now.nest.now.nest) (block_groups c.args.s.now.nest.now.nest) (rows c)
groups_laid c =
    let s = c.args.s.now.nest.now.nest in
    front_table (chosen_of s) c.blocks_into-count.result (block_groups s) c.blocks_into-count.new.groups c.blocks_into-count.ensures.group_table (unfold block_count in c.blocks_into-count.ensures.value)

-- the front of the table of blocks
blocks_long : (c : After-blocks_into-count) → length (take c.args.s.now.nest.now.iterations c.blocks_into-count.new.blocks) ≡ c.args.s.now.nest.now.iterations
blocks_long c = length-take-le c.args.s.now.nest.now.iterations c.blocks_into-count.new.blocks (omega (arith, c.requires.0, c.blocks_into-count.auto.blocks))

-- an iteration's entry is its block
number_at : (c : After-blocks_into-count) (k : ℕ) → k < c.args.s.now.nest.now.iterations → get_or (take c.args.s.now.nest.now.iterations c.blocks_into-count.new.blocks) k 0 ≡ block_at c.args.s.now.nest.now.nest k
number_at c k h =
    let t = c.args.s.now.nest.now in
    get_or-take t.iterations c.blocks_into-count.new.blocks k 0 h ∙ ap (λ (l : List ℕ). get_or l k 0) c.blocks_into-count.ensures.blocks_after
    ∙ get_or-before 0 (blocks_of t.nest) (drop (length (points_of t.nest)) c.args.blocks.now) k (omega (arith, blocks-length t.nest t.accepted, h, t.counted))

-- there are as many as blocks, and so one
pub invariant_of-groups-clause-some : goal.invariant_of-groups-clause-some
invariant_of-groups-clause-some c =
    let t = c.args.s.now.nest.now in
    omega (arith, rows_long (goal.at.invariant_of-groups-clause-some c).After-blocks_into-count, c.blocks_into-count.ensures.value, block_below t.nest t.accepted 0 (some-points t.nest t.accepted))

pub invariant_of-groups-clause-span : goal.invariant_of-groups-clause-span
invariant_of-groups-clause-span c =
    let b = (goal.at.invariant_of-groups-clause-span c).After-blocks_into-count in
    let t = c.args.s.now.nest.now in
    has_rows t.nest t.accepted (rows b) (groups_laid b) (length (rows b)) (rows_long b ∙ c.blocks_into-count.ensures.value) (omega arith)

pub blocks_into-count-requires : goal.blocks_into-count-requires
blocks_into-count-requires c =
    let t = c.args.s.now.nest.now in
    (few-points t.nest t.accepted, omega (arith, t.counted, c.requires.0))

pub slice_bounds-groups-end : goal.slice_bounds-groups-end
slice_bounds-groups-end c = few (goal.at.slice_bounds-groups-end c).After-blocks_into-count

pub slice_bounds-groups-end-2 : goal.slice_bounds-groups-end-2
slice_bounds-groups-end-2 c = sym (rows_long (goal.at.slice_bounds-groups-end-2 c).After-blocks_into-count)

pub processors_into-requires-clause-limits : goal.processors_into-requires-clause-limits
processors_into-requires-clause-limits c =
    let t = c.args.s.now.nest.now in (
      omega (arith, rows_long (goal.at.processors_into-requires-clause-limits c).After-blocks_into-count, c.blocks_into-count.ensures.value, blocks-few t.nest t.accepted, few-points t.nest t.accepted),
      omega (arith, c.cube.ensures, (cube_is t.nest t.accepted).1),
    )

pub processors_into-requires-clause-blocks : goal.processors_into-requires-clause-blocks
processors_into-requires-clause-blocks c =
    let b = (goal.at.processors_into-requires-clause-blocks c).After-blocks_into-count in
    let t = c.args.s.now.nest.now in
    let l = blocks_long b in
    (omega (arith, l, c.requires.1), λ k h. let i : k < t.iterations = omega (arith, h, l) in omega (arith, number_at b k i, block_below t.nest t.accepted k (omega (arith, i, t.counted)), rows_long b, c.blocks_into-count.ensures.value))

pub returns-clause-processors_after : goal.returns-clause-processors_after
returns-clause-processors_after c =
    let b = (goal.at.returns-clause-processors_after c).After-blocks_into-count in
    let t = c.args.s.now.nest.now in
    let l = blocks_long b in
    let e = rows_long b ∙ c.blocks_into-count.ensures.value in
    let bs = take t.iterations c.blocks_into-count.new.blocks in
    c.processors_into.ensures
    ∙ ap (λ (ps : List ℕ). ps ++ drop (length bs) c.args.processors.now)
    (laid-nest t.nest (rows b) (length (rows b)) c.cube.result (length bs) bs t.accepted (laid t.nest t.accepted (rows b) (groups_laid b) (omega (arith, e))) e c.cube.ensures (l ∙ t.counted) (λ k h. number_at b k (omega (arith, h, l))))
    ∙ ap (λ m. processors_of t.nest ++ drop m c.args.processors.now) l
