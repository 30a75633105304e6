-- `is_crossed` meets its contract. Assumes nothing.
use borrow.Author.Rules.{rules}
use Rattle.nest.specs.Refusals.{crossed}
use Rattle.nest.proofs.faults.is_crossed.Goals as goal

pub returns-then-is_outside-2 : goal.returns-then-is_outside-2
unfolding crossed
returns-then-is_outside-2 c = search rules

pub returns-else-is_outside-2 : goal.returns-else-is_outside-2
unfolding crossed
returns-else-is_outside-2 c = search rules
