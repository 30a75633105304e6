-- `point_of` meets its contract. Assumes nothing.
use mathlib.Core.Path.{◌∙◌, ap}
use mathlib.Core.List.{List, []}
use native.Mathlib.Omega.{arith}
use lib.ListN.{get_or}
use Rattle.nest.specs.Nest.{Limit, padded, limits_of, max_depth}
use Rattle.nest.specs.Points.{points, points_of}
use Rattle.nest.proofs.Accepted.{depth_is}
use Rattle.nest.proofs.Order.{point-count}
use Rattle.nest.proofs.accepted_nest.AcceptedNest.point_of.Goals as goal

pub point_at-requires-clause-some : goal.point_at-requires-clause-some
point_at-requires-clause-some c = rw c.loops.ensures.depth (depth_is c.args.self.now.nest c.args.self.now.accepted).0

pub point_at-requires-clause-point : goal.point_at-requires-clause-point
unfolding points_of
point_at-requires-clause-point c =
    let h = c.requires in
    rw c.loops.ensures.limits (omega (arith, h, point-count (limits_of c.args.self.now.nest)))

pub returns : goal.returns
unfolding points_of
returns c =
    c.point_at.ensures ∙ ap (λ (ls : List Limit). padded max_depth (get_or (points ls) c.args.rank [])) c.loops.ensures.limits
