-- `with_time_line` puts the components of the time vector in their places.
use borrow.Author.Rules.{rules}
use Rattle.nest_text.specs.Reader.{with_time_line}
use Rattle.nest_text.proofs.reader.with_time_line.Goals as goal

pub returns : goal.returns
unfolding with_time_line
returns c = search rules
