-- `bit_set` meets its contract. Assumes nothing.
use Rattle.execution.proofs.BitLaws.{mask-test}
use Rattle.execution.proofs.finding.bit_set.Goals as goal

pub returns : goal.returns
returns c = mask-test c.args.i c.args.byte c.requires
