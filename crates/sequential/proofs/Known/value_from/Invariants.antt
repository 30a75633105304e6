-- `value_from` meets its contract. The loop's invariant: the sum is the rank and the weighted sum
-- of the first i sources. Assumes nothing.
use mathlib.Core.Path.{◌≡◌}
use Prim.Native.Nat.{◌+◌, ◌*◌, ◌-◌, ◌≤◌}
use Rattle.nest.specs.Nest.{max_boundary, max_weight}
use Rattle.sequential.proofs.SumLaws.{sum_to}
use Rattle.sequential.proofs.Known.value_from.Given as goal

abbrev pub invariant-loop-i : goal.invariant-loop-i
invariant-loop-i l = (l.i ≤ l.m) × (l.sum ≡ l.k + sum_to l.self.nest.now.nest l.self.values.now l.k l.i) × (l.sum ≤ l.k + l.i * (max_weight * max_boundary))

abbrev pub decreases-loop-i : goal.decreases-loop-i
decreases-loop-i l = l.m - l.i
