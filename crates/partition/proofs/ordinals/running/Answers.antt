-- `running` meets its contract. Assumes nothing.
use Rattle.std.proofs.Common.{◌≡◌, ◌∙◌, ◌+◌, ap, ap₂, get_or, sym, arith}
use Rattle.integers.proofs.Sums.{total-tab-more, total-none}
use Rattle.numbering.proofs.Filled.{filled_none, filled_next, filled_more}
use Rattle.partition.proofs.OrdinalLaws.{sum_before}
use Rattle.partition.proofs.ordinals.running.Goals as goal
use Rattle.partition.proofs.ordinals.running.Goals.{In-loop-entry}

-- the sum with the next entry, which is still the old one
more : (d : In-loop-entry) → d.loop-entry.sum + get_or d.loop-entry.table d.loop-entry.entry-index 0 ≡ sum_before d.args.table.now (d.loop-entry.entry-index + 1)
more d =
    let old = d.args.table.now in
    let i = d.loop-entry.entry-index in
    ap₂ (λ x y. x + y) d.loop-entry.invariant.sum_so_far (ap (λ t. get_or t i 0) d.loop-entry.invariant.table_so_far ∙ filled_next (sum_before old) old i 0 (omega arith))
    ∙ sym (total-tab-more (λ u. get_or old u 0) i)

pub loop-entry-init : goal.loop-entry-init
loop-entry-init c = let t = c.args.table.now in record { table_so_far = filled_none (sum_before t) t; sum_so_far = sym (total-none (λ u. get_or t u 0)) }

pub overflow_add-sum : goal.overflow_add-sum
overflow_add-sum c = omega (arith, more (goal.at.overflow_add-sum c).In-loop-entry, c.requires (c.loop-entry.entry-index + 1) (omega arith))

pub loop-entry-preserved : goal.loop-entry-preserved
loop-entry-preserved c =
    let t = c.args.table.now in
    let l = c.loop-entry in
    record {
      table_so_far = filled_more (sum_before t) t l.entry-index l.sum l.table (omega arith) l.invariant.table_so_far l.invariant.sum_so_far;
      sum_so_far = more (goal.at.loop-entry-preserved c).In-loop-entry;
    }
