-- `row_into` meets its contract. Assumes nothing.
use Rattle.std.proofs.Common.{refl}
use Rattle.integers.specs.Lists.{tab}
use Rattle.sources.proofs.Steps.{row_next}
use Rattle.sources.proofs.row_into.Goals as goal

pub loop-q-init : goal.loop-q-init
unfolding tab
loop-q-init c = refl

pub loop-q-preserved : goal.loop-q-preserved
loop-q-preserved c = row_next c.args.first c.args.row.now c.loop-q.row c.loop-q.q c.requires.0 c.requires.1 c.loop-q-test.true c.loop-q.invariant
