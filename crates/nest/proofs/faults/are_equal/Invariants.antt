-- `are_equal` meets its contract. The loop's invariant: the components passed are equal, so that those behind them decide. Assumes nothing.
use mathlib.Core.Path.{◌≡◌}
use lib.ListN.{drop}
use Rattle.integers.specs.Vector.{eq_v}
use Rattle.nest.proofs.faults.are_equal.Given as goal

abbrev pub invariant-loop-k : goal.invariant-loop-k
invariant-loop-k l = eq_v l.a l.b ≡ eq_v (drop l.k l.a) (drop l.k l.b)
