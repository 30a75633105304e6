-- `directions` meets its contract. The loop's invariant: the first j directions are there. Assumes nothing.
use Rattle.std.proofs.Common.{◌≡◌, length}
use Rattle.mapping.specs.GroupNumbers.{column_of, column, span_of}
use Rattle.mapping.specs.Held.{held}
use Rattle.numbering.proofs.Filled.{filled_to}
use Rattle.mapping.proofs.block_groups.BlockGroups.directions.Given as goal

abbrev pub invariant-loop-j : goal.invariant-loop-j
invariant-loop-j l = held l.direction-items ≡ filled_to (λ j. span_of (column l.self.rows.now (column_of j) (length l.self.rows.now))) (held l.initial.direction-items) l.j
