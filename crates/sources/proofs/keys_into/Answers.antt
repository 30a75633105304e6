-- `keys_into` meets its contract. Assumes nothing.
use Rattle.std.proofs.Common.{◌≡◌, sym, ◌∙◌, ap, arith, ◌-◌, length, take, ◌++◌, drop, map, pos}
use Rattle.std.proofs.lemmas.List.{length-map, length-take-le}
use Rattle.integers.proofs.Lists.{length-tab}
use Rattle.nest.specs.Nest.{depth_of, limit_at, limits_of, max_depth}
use Rattle.nest.specs.Points.{points, point_count}
use Rattle.nest.proofs.Accepted.{depth_is}
use Rattle.sources.specs.Keys.{key_from}
use Rattle.sources.specs.Loops.{limit_of, loop_limits}
use Rattle.sources.proofs.Arrays.{power-some}
use Rattle.sources.proofs.Walk.{all-limits, all-fine, all-count, all-keys}
use Rattle.sources.proofs.keys_into.Goals as goal
use Rattle.sources.proofs.keys_into.Goals.{After-depth-n}

-- there is a place for each loop
places : (c : After-depth-n) → length (take c.depth-n.result c.loops_of-loops.result) ≡ depth_of c.args.s.now.nest
places c =
    let s = c.args.s.now in
    let n = sym (length-map c.loops_of-loops.result limit_of) ∙ ap length c.loops_of-loops.ensures ∙ length-tab (limit_at s.nest.lower s.nest.upper) max_depth in
    length-take-le c.depth-n.result c.loops_of-loops.result (omega (arith, n, c.depth-n.ensures, (depth_is s.nest s.accepted).1)) ∙ c.depth-n.ensures

-- so the loops are those of the nest
limits : (c : After-depth-n) → loop_limits (take c.depth-n.result c.loops_of-loops.result) ≡ limits_of c.args.s.now.nest
limits c = all-limits c.args.s.now.nest c.loops_of-loops.result c.loops_of-loops.ensures c.depth-n.result c.depth-n.ensures (depth_is c.args.s.now.nest c.args.s.now.accepted).1

pub slice_bounds-loops-end : goal.slice_bounds-loops-end
slice_bounds-loops-end c =
    let s = c.args.s.now in
    let n = sym (length-map c.loops_of-loops.result limit_of) ∙ ap length c.loops_of-loops.ensures ∙ length-tab (limit_at s.nest.lower s.nest.upper) max_depth in
    omega (arith, n, c.depth-n.ensures, (depth_is s.nest s.accepted).1)

pub slice_bounds-keys_from-end : goal.slice_bounds-keys_from-end
slice_bounds-keys_from-end c = c.depth-n.ensures ∙ sym (places (goal.at.slice_bounds-keys_from-end c).After-depth-n)

pub keys_from-requires : goal.keys_from-requires
keys_from-requires c =
    let p = (goal.at.keys_from-requires c).After-depth-n in
    let s = c.args.s.now in
    let h = depth_is s.nest s.accepted in (
      omega (arith, places p, h.0),
      omega (arith, places p, h.1),
      power-some (max_depth - length (take c.depth-n.result c.loops_of-loops.result)),
      rw (limits p) (all-fine s.nest s.accepted),
      rw (limits p) (omega (arith, all-count s.nest, c.requires)),
    )

pub returns : goal.returns
returns c =
    let p = (goal.at.returns c).After-depth-n in
    all-keys c.args.s.now.nest c.args.keys.now c.keys_from.new.keys (c.keys_from.ensures.keys_after ∙ ap (λ ls. map (key_from (pos 0)) (points ls) ++ drop (point_count ls) c.args.keys.now) (limits p))
