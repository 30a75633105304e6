-- `with_dependence_line` puts the components of a dependence in their places.
use Rattle.std.proofs.Common.{arith}
use Rattle.std.proofs.lemmas.Grind.{common_steps}
use Rattle.nest_text.specs.Reader.{with_dependence_line}
use Rattle.nest_text.proofs.reader.with_dependence_line.Goals as goal

pub returns : goal.returns
unfolding with_dependence_line
returns c = grind (arith, common_steps)
