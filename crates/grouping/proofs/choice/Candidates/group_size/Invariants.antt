-- The loop of `group_size`: the greatest multiplier of the vectors that were passed. Assumes nothing.
use mathlib.Core.Path.{◌≡◌}
use lib.IntN.{pos}
use lib.ListN.{take}
use Rattle.grouping.specs.Projection.{group_size}
use Rattle.grouping.proofs.choice.Candidates.group_size.Given as goal

abbrev pub invariant-loop-d : goal.invariant-loop-d
invariant-loop-d l = l.r ≡ pos (group_size l.self.time.p (take l.d-index l.self.ds.now))
