-- `mark` meets its contract. The loop's invariant: the flags of the numbers that were passed are set, and no others. Assumes nothing.
use Rattle.std.proofs.Common.{◌≡◌, length, take}
use Rattle.partition.specs.KeySteps.{flags}
use Rattle.partition.proofs.ordinals.mark.Given as goal

abbrev pub invariant-loop-number : goal.invariant-loop-number
invariant-loop-number l = l.table ≡ flags (take l.number-index l.numbers) (length l.initial.table)
