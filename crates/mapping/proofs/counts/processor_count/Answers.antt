-- `processor_count` meets its contract. Assumes nothing.
use Rattle.std.proofs.Common.{get_or, take}
use Rattle.std.proofs.lemmas.List.{take_more}
use Rattle.mapping.proofs.Counting.{seen_none, seen_again, seen_new}
use Rattle.mapping.proofs.counts.processor_count.Goals as goal
use Rattle.mapping.proofs.counts.processor_count.Goals.{then-not-seen-p, else-not-seen-p}

pub loop-processor-init : goal.loop-processor-init
loop-processor-init c = seen_none

pub loop-processor-preserved : goal.loop-processor-preserved
loop-processor-preserved c =
    let l = c.loop-processor in
    let ps = c.args.processors.now in
    let x = get_or ps l.processor-index 0 in
    let e = take_more ps l.processor-index 0 c.loop-processor-test.true in
    elim c.if-not-seen-p.branch [
      | then-not-seen-p w ↦
          rw (e, w.seen-is, w.number-is) (seen_new (take l.processor-index ps) l.seen l.number x (c.requires l.processor-index c.loop-processor-test.true) l.invariant w.if-not-seen-p.true)
      | else-not-seen-p w ↦
          rw (e, w.seen-is, w.number-is) (seen_again (take l.processor-index ps) l.seen l.number x (c.requires l.processor-index c.loop-processor-test.true) l.invariant w.if-not-seen-p.false)
    ]
