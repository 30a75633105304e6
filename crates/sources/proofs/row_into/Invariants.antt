-- `row_into` meets its contract. The loop's invariant: the first q keys of the row are in the table. Assumes nothing.
use Rattle.std.proofs.Common.{◌≡◌, ◌++◌, drop, pos, ◌+ℤ◌}
use Rattle.integers.specs.Lists.{tab}
use Rattle.sources.proofs.row_into.Given as goal

abbrev pub invariant-loop-q : goal.invariant-loop-q
invariant-loop-q l = l.row ≡ tab (λ i. l.first +ℤ pos i) l.q ++ drop l.q l.initial.row
