-- `running` meets its contract. The loop's invariant: the entries that were passed are the sums of those before them, the others are as they were, and the sum of
-- those that were passed is known. Assumes nothing.
use Rattle.std.proofs.Common.{◌≡◌}
use Rattle.numbering.proofs.Filled.{filled_to}
use Rattle.partition.proofs.OrdinalLaws.{sum_before}
use Rattle.partition.proofs.ordinals.running.Given as goal

abbrev pub invariant-loop-entry : goal.invariant-loop-entry
invariant-loop-entry l = record {
  table_so_far : l.table ≡ filled_to (sum_before l.initial.table) l.initial.table l.entry-index;
  sum_so_far : l.sum ≡ sum_before l.initial.table l.entry-index;
}
