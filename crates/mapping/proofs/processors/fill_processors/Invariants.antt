-- `fill_processors` meets its contract. The loop's invariant: the first k entries are the processors of the first k rows. Assumes nothing.
use Rattle.std.proofs.Common.{◌≡◌}
use Rattle.mapping.specs.Mapping.{joined}
use Rattle.mapping.specs.GroupNumbers.{values_in}
use Rattle.mapping.specs.Held.{held}
use Rattle.numbering.proofs.Filled.{filled_to}
use Rattle.mapping.proofs.processors.fill_processors.Given as goal

abbrev pub invariant-loop-k : goal.invariant-loop-k
invariant-loop-k l = l.processors ≡ filled_to (λ k. joined 0 (held l.directions) (values_in l.rows k)) l.initial.processors l.k
