-- What `read_full` reads stands in the buffer behind what it has read before.
use Rattle.std.proofs.Common.{rules}
use Rattle.plan.proofs.Reading.{reads-on}
use Rattle.plan.proofs.read_full.Goals as goal

pub loop-filled-preserved : goal.loop-filled-preserved
loop-filled-preserved g c =
    (search rules, search rules, reads-on _ _ _ c.loop-filled.buffer c.read.new.buf c.loop-filled.filled _ c.in_ok-more.more c.loop-filled.invariant.0 c.in_ok-more.ensures.bound.0 c.loop-filled.invariant.2 c.in_ok-more.ensures.bytes.0)
