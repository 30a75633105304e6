-- `point_count` meets its contract. The loop's invariant: the total is the number of index points of the loops passed. Assumes nothing.
use mathlib.Core.Path.{◌≡◌}
use Prim.Native.Nat.{◌≤◌}
use lib.ListN.{length, drop}
use Rattle.integers.specs.Lists.{tab}
use Rattle.nest.specs.Nest.{limit_at}
use Rattle.nest.specs.Points.{point_count}
use Rattle.nest.proofs.loops.Loops.point_count.Given as goal

abbrev pub invariant-loop-low : goal.invariant-loop-low
invariant-loop-low l = record {
  passed : length l.yielded ≤ length l.self.lower.now;
  lower : l.low-iterator.a.rest.now ≡ drop (length l.yielded) l.self.lower.now;
  upper : l.low-iterator.b.rest.now ≡ drop (length l.yielded) l.self.upper.now;
  total : l.total ≡ point_count (tab (limit_at l.self.lower.now l.self.upper.now) (length l.yielded));
}
