-- `made_in` tells what an answer carries. Assumes nothing.
use mathlib.Core.Path.{sym, ap, ◌∙◌}
use Rattle.std.specs.Prelude.{Ok}
use Rattle.execution.specs.Answer.{answer_in}
use Rattle.foreign.specs.Numbers.{made_in}
use Rattle.foreign.proofs.moves.made_in.Goals as goal

pub returns-in_default : goal.returns-in_default
unfolding made_in
returns-in_default c = sym (ap (λ r. made_in (answer_in r)) c.in_default.is)

pub returns-in-Computed : goal.returns-in-Computed
unfolding made_in
returns-in-Computed c = sym (ap (λ r. made_in (answer_in r)) (c.in-Ok.is ∙ ap Ok c.in-Computed.is))

pub returns-in-Delivered : goal.returns-in-Delivered
unfolding made_in
returns-in-Delivered c = sym (ap (λ r. made_in (answer_in r)) (c.in-Ok.is ∙ ap Ok c.in-Delivered.is))
