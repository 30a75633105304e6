-- The number of loops that are left falls. The loop's invariant: the table has the keys behind the prefixes before this one. Assumes nothing.
use Rattle.std.proofs.Common.{◌≡◌, ◌++◌, ◌*◌, drop, length, pos, nat_abs, ◌+ℤ◌, ◌-ℤ◌, ◌≤ℤ◌}
use Rattle.nest.specs.Points.{points, point_count}
use Rattle.sources.specs.Loops.{loop_limits}
use Rattle.sources.proofs.Walk.{behind_each}
use Rattle.sources.proofs.+keys_from.Given as goal

abbrev pub decreases-keys_from : goal.decreases-keys_from
decreases-keys_from l = length l.loops.now

abbrev pub invariant-loop-behind : goal.invariant-loop-behind
invariant-loop-behind l = record {
  from : l.first ≤ℤ l.behind;
  to : l.behind ≤ℤ l.end;
  written_so_far : l.written ≡ nat_abs (l.behind -ℤ l.first) * point_count (loop_limits l.inner);
  table : l.keys ≡ behind_each (points (loop_limits l.inner)) (λ i. l.first +ℤ pos i) (nat_abs (l.behind -ℤ l.first)) ++ drop l.written l.initial.keys;
}
