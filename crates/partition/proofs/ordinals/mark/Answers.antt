-- `mark` meets its contract. Assumes nothing.
use Rattle.std.proofs.Common.{length, get_or, refl, arith}
use Rattle.partition.proofs.OrdinalLaws.{marked_none, marked_more}
use Rattle.partition.proofs.ordinals.mark.Goals as goal

pub loop-number-init : goal.loop-number-init
loop-number-init c = marked_none c.args.numbers.now c.args.table.now c.requires.1

pub loop-number-preserved : goal.loop-number-preserved
loop-number-preserved c =
    let k = c.loop-number.number-index in
    let numbers = c.args.numbers.now in
    marked_more numbers c.loop-number.table (length c.args.table.now) k (get_or numbers k 0) (omega arith) refl (c.requires.0.small k (omega arith)) c.loop-number.invariant
