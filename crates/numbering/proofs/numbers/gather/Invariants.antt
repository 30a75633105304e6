-- `gather` brings the different rows to the front. The loop's invariant is Gathering.Gathered.
use lib.ListN.{length}
use Rattle.numbering.proofs.Gathering.{Gathered}
use Rattle.numbering.proofs.numbers.gather.Given as goal

abbrev pub invariant-loop-i : goal.invariant-loop-i
invariant-loop-i l = Gathered 1000000000 l.initial.table l.table (length l.numbers) l.i
