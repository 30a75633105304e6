-- `spread` meets its contract. The loop's invariant: the entries that were passed are replaced, and the others are as they were. Assumes nothing.
use Rattle.std.proofs.Common.{◌≡◌, ◌++◌, map, get_or, take, drop}
use Rattle.partition.proofs.lines.spread.Given as goal

abbrev pub invariant-loop-entry : goal.invariant-loop-entry
invariant-loop-entry l = l.table ≡ map (λ x. get_or l.numbers x 0) (take l.entry-index l.initial.table) ++ drop l.entry-index l.initial.table
