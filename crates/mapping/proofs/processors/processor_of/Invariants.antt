-- `processor_of` meets its contract. The loop's invariant: the codes of the first j values are joined. Assumes nothing.
use Rattle.std.proofs.Common.{◌≡◌, drop}
use Rattle.mapping.specs.Mapping.{joined}
use Rattle.mapping.specs.GroupNumbers.{values_of}
use Rattle.mapping.specs.Held.{held}
use Rattle.mapping.proofs.processors.processor_of.Given as goal

abbrev pub invariant-loop-j : goal.invariant-loop-j
invariant-loop-j l = joined l.p (drop l.j (held l.directions)) (drop l.j (values_of l.row)) ≡ joined 0 (held l.directions) (values_of l.row)
