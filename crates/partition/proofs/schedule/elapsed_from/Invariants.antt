-- `elapsed_from` meets its contract. The loop's invariant: the numbers that were passed less the least stand in the table, and the greatest of them is known. Assumes nothing.
use Rattle.std.proofs.Common.{◌≡◌, ◌++◌, ◌-◌, map, take, drop}
use Rattle.integers.specs.Lists.{greatest}
use Rattle.partition.proofs.schedule.elapsed_from.Given as goal

abbrev pub invariant-loop-step : goal.invariant-loop-step
invariant-loop-step l = record {
  table_so_far : l.steps ≡ map (λ x. x - l.least) (take l.step-index l.initial.steps) ++ drop l.step-index l.initial.steps;
  last_so_far : l.last ≡ greatest (map (λ x. x - l.least) (take l.step-index l.initial.steps));
}
