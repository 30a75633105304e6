-- `is_outside` meets its contract. Assumes nothing.
use borrow.Author.Rules.{rules}
use Rattle.nest.specs.Refusals.{outside}
use Rattle.nest.proofs.faults.is_outside.Goals as goal

pub returns : goal.returns
unfolding outside
returns c = search rules
