-- `is_out_of_span` meets its contract. Assumes nothing.
use mathlib.Core.Path.{◌∙◌}
use lib.IntN.{pos, neg_ℤ}
use Rattle.nest.specs.Nest.{max_component}
use Rattle.nest.specs.Refusals.{outside, out_of_span}
use Rattle.nest.proofs.Chains.{listed-any}
use Rattle.nest.proofs.faults.is_out_of_span.Goals as goal

pub returns : goal.returns
unfolding out_of_span
returns c = c.any_outside.ensures ∙ listed-any (outside (neg_ℤ (pos max_component)) (pos max_component)) c.args.vector.now
