-- `elapsed_from` meets its contract. Assumes nothing.
use Rattle.std.proofs.Common.{◌≡◌, ◌∙◌, ◌-◌, ap, get_or, sym, refl, arith}
use Rattle.std.proofs.lemmas.List.Edits.{map_over_more}
use Rattle.integers.proofs.ListFacts.{get_d_default, greatest-none}
use Rattle.numbering.proofs.Filled.{next_old}
use Rattle.partition.proofs.StepLaws.{greatest-more}
use Rattle.partition.proofs.schedule.elapsed_from.Goals as goal
use Rattle.partition.proofs.schedule.elapsed_from.Goals.{In-loop-step}

-- the next number is still the old one
here : (d : In-loop-step) → get_or d.loop-step.steps d.loop-step.step-index 0 ≡ get_or d.args.steps.now d.loop-step.step-index 0
here d =
    let i = d.loop-step.step-index in
    ap (λ u. get_or u i 0) d.loop-step.invariant.table_so_far ∙ next_old 0 (λ x. x - d.args.least) d.args.steps.now i (omega arith)

pub loop-step-init : goal.loop-step-init
loop-step-init c = record { table_so_far = refl; last_so_far = sym greatest-none }

pub overflow_sub-step : goal.overflow_sub-step
overflow_sub-step c = omega (arith, here (goal.at.overflow_sub-step c).In-loop-step, (c.requires c.loop-step.step-index (omega arith)).0)

pub loop-step-preserved : goal.loop-step-preserved
loop-step-preserved c =
    let l = c.loop-step in
    let i = l.step-index in
    let x = get_or l.steps i 0 in
    record {
      table_so_far = map_over_more (λ y. y - c.args.least) c.args.steps.now l.steps i x (omega arith) l.invariant.table_so_far (get_d_default 0 x l.steps i (omega arith));
      last_so_far = greatest-more (λ y. y - c.args.least) c.args.steps.now i l.last x c.max-last.result (omega arith) l.invariant.last_so_far (here (goal.at.loop-step-preserved c).In-loop-step) c.max-last.ensures;
    }
