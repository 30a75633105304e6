-- `rank_of` meets its contract. Assumes nothing.
use mathlib.Core.Path.{◌≡◌, ◌∙◌, ap, ap₂}
use mathlib.Core.List.{List}
use Prim.Native.Nat.{◌≤◌}
use lib.ListN.{length}
use borrow.Author.Rules.{rules}
use Rattle.integers.specs.Vector.{Vector}
use Rattle.nest.specs.Nest.{Limit, part, max_depth}
use Rattle.nest.specs.Points.{points, points_of, place_of}
use Rattle.nest.proofs.Accepted.{depth_is}
use Rattle.nest.proofs.Slices.{part-first}
use Rattle.nest.proofs.accepted_nest.AcceptedNest.rank_of.Goals as goal
use Rattle.nest.proofs.accepted_nest.AcceptedNest.rank_of.Goals.{After-depth}

-- the depth is within the point
within : (c : After-depth) → c.depth.result ≤ length c.args.point
within c =
    let long : length c.args.point ≡ max_depth = search rules in
    rw (c.depth.ensures, long) (depth_is c.args.self.now.nest c.args.self.now.accepted).1

pub returns : goal.returns
unfolding points_of
returns c =
    c.rank_of.ensures
    ∙ ap₂ (λ (ls : List Limit) (v : Vector). place_of (points ls) v) c.loops.ensures.limits (part-first c.args.point c.depth.result (within (goal.at.returns c).After-depth) ∙ ap (part c.args.point 0) c.depth.ensures)
