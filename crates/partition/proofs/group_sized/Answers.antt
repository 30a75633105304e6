-- `group_sized` writes the groups and the blocks of the first iterations of the projection lines, and the block of each iteration. Assumes nothing.
use Rattle.std.proofs.Common.{◌≡◌, ◌∙◌, ◌≤◌, ◌<◌, ℕ, List, pos, length, take, replicate, sym, arith}
use Rattle.std.proofs.lemmas.List.{length-take-le, length-replicate, get_or-take}
use Rattle.integers.specs.Vector.{Vector}
use Rattle.grouping.specs.Basis.{basis_frame}
use Rattle.partition.specs.Heads.{points_by}
use Rattle.partition.proofs.LineGroups.{numbers-long, gather-within, lines-grouped}
use Rattle.partition.proofs.group_sized.Given.{Over}
use Rattle.partition.proofs.group_sized.Goals as goal
use Rattle.partition.proofs.group_sized.Goals.{After-group_points-made}

-- the points of the lines
abbrev ps : (g : Over) → After-group_points-made g → List Vector
ps g c = let s = c.args.lines.now in points_by s.keys.now s.depth s.heads.now

-- the tables that are filled are as long as there are lines
long : (g : Over) (c : After-group_points-made g) → length c.points_into.new.points ≡ length c.args.lines.now.heads.now
long g c = c.points_into.auto.points ∙ length-take-le (length c.args.lines.now.heads.now) (replicate {A = Vector} g.row.ROOM (replicate 4 (pos 0))) (omega (arith, c.requires.room.0, length-replicate {A = Vector}))

room : (g : Over) (c : After-group_points-made g) → length c.points_into.new.points ≤ length c.group_points-made.new.groups
room g c = omega (arith, long g c, c.requires.lines_given.groups_long, c.group_points-made.ensures.grouped.size)

abbrev blank : (g : Over) → After-group_points-made g → List ℕ
blank g c = take (length c.args.lines.now.heads.now) (replicate g.row.ROOM 0)

found : (g : Over) (c : After-group_points-made g) → length (blank g c) ≡ length c.points_into.new.points
found g c = length-take-le (length c.args.lines.now.heads.now) (replicate g.row.ROOM 0) (omega (arith, c.requires.room.0, length-replicate {A = ℕ})) ∙ sym (long g c)

pub gather-requires-clause-within : goal.gather-requires-clause-within
gather-requires-clause-within g c =
    let d = (goal.at.gather-requires-clause-within g c).After-group_points-made in
    let m = c.group_points-made in
    gather-within (basis_frame c.args.f) c.args.f.basis.count c.points_into.new.points (ps g d) c.args.groups.now m.new.groups m.ensures.grouped c.points_into.ensures.0 (room g d) (blank g d) m.new.blocks m.ensures.blocks_after (found g d)

-- how many numbers there are
many : (g : Over) (c : After-group_points-made g) → length c.group_points-made.new.blocks ≡ length c.args.lines.now.heads.now
many g c =
    let m = c.group_points-made in
    numbers-long (basis_frame c.args.f) c.args.f.basis.count c.points_into.new.points (ps g c) c.args.groups.now m.new.groups m.ensures.grouped c.points_into.ensures.0 (room g c) (blank g c) m.new.blocks m.ensures.blocks_after (found g c)
    ∙ long g c

pub spread-requires : goal.spread-requires
spread-requires g c =
    let d = (goal.at.spread-requires g c).After-group_points-made in
    let s = c.args.lines.now in
    let L = c.requires.lines_given in
    let n = length-take-le (length s.keys.now) c.args.numbers.now L.numbers_long in
    (omega (arith, many g d, s.lines.few_lines_is), λ k l. let h : k < length s.keys.now = omega (arith, l, n) in omega (arith, get_or-take (length s.keys.now) c.args.numbers.now k 0 h, L.line_low k h, many g d))

pub returns : goal.returns
returns g c =
    let d = (goal.at.returns g c).After-group_points-made in
    let m = c.group_points-made in
    let L = c.requires.lines_given in
    lines-grouped (basis_frame c.args.f) c.args.f.basis.count c.points_into.new.points (ps g d) c.args.groups.now m.new.groups m.ensures.grouped c.points_into.ensures.0 (room g d) (blank g d) m.new.blocks m.ensures.blocks_after (found g d)
    m.result m.ensures.value c.gather.new.table c.gather.ensures.xs_after c.args.numbers.now (length c.args.lines.now.keys.now) L.numbers_long (λ k l. omega (arith, long g d, L.line_low k l)) c.spread.new.table c.spread.ensures
