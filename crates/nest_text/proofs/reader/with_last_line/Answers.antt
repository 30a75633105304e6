-- `with_last_line` puts the boundary values and the weights in their places.
use borrow.Author.Rules.{rules}
use Rattle.nest_text.specs.Reader.{with_last_line}
use Rattle.nest_text.proofs.reader.with_last_line.Goals as goal

pub returns : goal.returns
unfolding with_last_line
returns c = search rules
