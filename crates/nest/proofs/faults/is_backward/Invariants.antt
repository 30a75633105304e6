-- `is_backward` meets its contract. The loop's invariant: the components passed are zero, so that those behind them decide. Assumes nothing.
use mathlib.Core.Path.{◌≡◌}
use lib.ListN.{drop}
use Rattle.nest.specs.Refusals.{backward}
use Rattle.nest.proofs.faults.is_backward.Given as goal

abbrev pub invariant-loop-component : goal.invariant-loop-component
invariant-loop-component l = backward l.dependence ≡ backward (drop l.component-index l.dependence)
