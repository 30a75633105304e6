-- `spread` meets its contract. Assumes nothing.
use Rattle.std.proofs.Common.{◌∙◌, ap, get_or, set, arith}
use Rattle.std.proofs.lemmas.List.Edits.{map_over_more}
use Rattle.integers.proofs.ListFacts.{get_d_default}
use Rattle.partition.proofs.lines.spread.Goals as goal

pub loop-entry-preserved : goal.loop-entry-preserved
loop-entry-preserved c =
    let l = c.loop-entry in
    let i = l.entry-index in
    let x = get_or l.table i 0 in
    ap (λ k. set l.table i (get_or c.args.numbers.now k 0)) c.from.ensures ∙ map_over_more (λ y. get_or c.args.numbers.now y 0) c.args.table.now l.table i x (omega arith) l.invariant (get_d_default 0 x l.table i (omega arith))
