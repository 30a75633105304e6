-- `is_zero` meets its contract. Assumes nothing.
use mathlib.Core.Path.{◌∙◌}
use native.Mathlib.Omega.{arith}
use Rattle.grouping.proofs.Listed.{zero_same}
use Rattle.grouping.proofs.arithmetic.is_zero.Goals as goal

pub returns : goal.returns
returns c = c.eq.ensures ∙ zero_same c.args.v (omega arith)
