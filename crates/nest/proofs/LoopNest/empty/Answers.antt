-- `LoopNest::empty` meets its contract. Assumes nothing.
use borrow.Author.Rules.{rules}
use Rattle.nest.specs.Nest.{empty_nest}
use Rattle.nest.proofs.LoopNest.empty.Goals as goal

pub returns-clause-value : goal.returns-clause-value
unfolding empty_nest
returns-clause-value c = search rules
