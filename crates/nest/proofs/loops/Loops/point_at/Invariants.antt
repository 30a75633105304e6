-- `point_at` meets its contract. The loop's invariant: the array has the indices of the loops from k on, and the rest is the rank among the points of the others.
-- Assumes nothing.
use mathlib.Core.List.{[]}
use Prim.Native.Nat.{◌≤◌}
use lib.ListN.{length, get_or}
use Rattle.nest.specs.Nest.{limit_at, limits_in}
use Rattle.nest.specs.Points.{points}
use Rattle.nest.proofs.Ranks.{Unranked}
use Rattle.nest.proofs.loops.Loops.point_at.Given as goal

abbrev pub invariant-loop-k : goal.invariant-loop-k
invariant-loop-k l =
    (1 ≤ l.k) × (l.k ≤ length l.self.lower.now) × Unranked (limit_at l.self.lower.now l.self.upper.now) (length l.self.lower.now) (get_or (points (limits_in l.self.lower.now l.self.upper.now)) l.rank []) l.k l.rest l.point
