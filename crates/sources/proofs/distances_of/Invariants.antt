-- `distances_of` meets its contract. The loop's invariant: the keys of the first i dependences. Assumes nothing.
use Rattle.std.proofs.Common.{◌≡◌, ◌++◌, drop}
use Rattle.integers.specs.Lists.{tab}
use Rattle.sources.proofs.Arrays.{distance_at}
use Rattle.sources.proofs.distances_of.Given as goal

abbrev pub invariant-loop-i : goal.invariant-loop-i
invariant-loop-i l = l.distance-items ≡ tab (distance_at l.s.nest) l.i ++ drop l.i l.initial.distance-items
