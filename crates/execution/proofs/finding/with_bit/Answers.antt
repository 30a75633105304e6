-- `with_bit` meets its contract. Assumes nothing.
use Rattle.execution.proofs.BitLaws.{mask-set}
use Rattle.execution.proofs.finding.with_bit.Goals as goal

pub returns : goal.returns
returns c = mask-set c.args.i c.args.byte c.requires.0 c.requires.1
