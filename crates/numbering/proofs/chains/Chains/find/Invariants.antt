-- `find` goes down a chain. The loop's invariant: what it has passed is not equal (ChainLaws.Searched).
use Rattle.numbering.proofs.ChainLaws.{Searched}
use Rattle.numbering.proofs.chains.Chains.find.Given as goal

abbrev pub invariant-loop-number : goal.invariant-loop-number
invariant-loop-number l = Searched l.table l.self.heads l.self.count l.hash l.v l.link

abbrev pub decreases-loop-number : goal.decreases-loop-number
decreases-loop-number l = l.link
