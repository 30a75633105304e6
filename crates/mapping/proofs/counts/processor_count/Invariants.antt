-- `processor_count` meets its contract. The loop's invariant: the flags and the number are those of the processors met. Assumes nothing.
use Rattle.std.proofs.Common.{take}
use Rattle.mapping.proofs.Counting.{Seen}
use Rattle.mapping.proofs.counts.processor_count.Given as goal

abbrev pub invariant-loop-processor : goal.invariant-loop-processor
invariant-loop-processor l = Seen (take l.processor-index l.processors) l.seen l.number
