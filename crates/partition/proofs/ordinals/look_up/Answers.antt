-- `look_up` meets its contract. Assumes nothing.
use Rattle.std.proofs.Common.{◌∙◌, ap, get_or, set, arith}
use Rattle.std.proofs.lemmas.List.Edits.{map_over_more}
use Rattle.integers.proofs.ListFacts.{get_d_default}
use Rattle.partition.proofs.ordinals.look_up.Goals as goal

pub loop-number-preserved : goal.loop-number-preserved
loop-number-preserved c =
    let l = c.loop-number in
    let i = l.number-index in
    let x = get_or l.numbers i 0 in
    ap (λ v. set l.numbers i v) c.from.ensures ∙ map_over_more (λ y. get_or c.args.table.now y 0) c.args.numbers.now l.numbers i x (omega arith) l.invariant (get_d_default 0 x l.numbers i (omega arith))
