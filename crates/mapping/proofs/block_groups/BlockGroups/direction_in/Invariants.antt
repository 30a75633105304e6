-- `direction_in` meets its contract. The loop's invariant: the two numbers are the least and the greatest of the rows so far. Assumes nothing.
use Rattle.std.proofs.Common.{◌≡◌, ◌+◌}
use Rattle.integers.specs.Lists.{tab}
use Rattle.integers.specs.Extremes.{least_z, greatest_z}
use Rattle.mapping.specs.GroupNumbers.{number_at}
use Rattle.mapping.proofs.block_groups.BlockGroups.direction_in.Given as goal

abbrev pub invariant-loop-row : goal.invariant-loop-row
invariant-loop-row l = record {
  least_so_far : l.least ≡ least_z (tab (number_at l.self.rows.now l.j) (l.row-index + 1));
  greatest_so_far : l.greatest ≡ greatest_z (tab (number_at l.self.rows.now l.j) (l.row-index + 1));
}
