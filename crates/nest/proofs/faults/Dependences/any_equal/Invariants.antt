-- `any_equal` meets its contract. The loop's invariant: two of the rows are equal if two of the rest are. Assumes nothing.
use mathlib.Core.Path.{◌≡◌}
use mathlib.Core.List.{map}
use lib.ListN.{length, take}
use Rattle.integers.specs.Lists.{repeats}
use Rattle.integers.specs.Vector.{eq_v}
use Rattle.nest.proofs.faults.Dependences.any_equal.Given as goal

abbrev pub invariant-loop-first : goal.invariant-loop-first
invariant-loop-first l = repeats eq_v (map (take l.self.n) l.self.rows.now) ≡ repeats eq_v (map (take l.self.n) l.rest)

abbrev pub decreases-loop-first : goal.decreases-loop-first
decreases-loop-first l = length l.rest
