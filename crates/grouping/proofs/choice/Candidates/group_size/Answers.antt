-- `group_size` meets its contract. Assumes nothing.
use mathlib.Core.Path.{sym, ◌∙◌, ap, ap₂}
use mathlib.Core.List.{[]}
use native.Mathlib.Omega.{arith}
use lib.IntN.{pos}
use lib.ListN.{get_or, take}
use Rattle.std.specs.Ordering.{int_cmp, ord_max}
use Rattle.std.proofs.lemmas.List.{take_more}
use Rattle.integers.proofs.Bounds.{told}
use Rattle.grouping.specs.Projection.{multiplier, group_size}
use Rattle.grouping.proofs.Listed.{group-size-none, group-size-more, pos_max}
use Rattle.grouping.proofs.choice.Candidates.group_size.Goals as goal

pub loop-d-init : goal.loop-d-init
loop-d-init c = ap pos (group-size-none c.args.self.now.time.p)

pub loop-d-preserved : goal.loop-d-preserved
loop-d-preserved c =
    let i = c.loop-d.d-index in
    let ds = c.args.self.now.ds.now in
    told c.max-r.result c.max-r.type_inv ∙ c.max-r.ensures
    ∙ ap₂ (ord_max int_cmp) c.loop-d.invariant (told c.multiplier.result c.multiplier.type_inv ∙ c.multiplier.ensures)
    ∙ pos_max (group_size c.args.self.now.time.p (take i ds)) (multiplier c.args.self.now.time.p (get_or ds i []))
    ∙ ap pos (group-size-more c.args.self.now.time.p (take i ds) (get_or ds i []) ∙ ap (group_size c.args.self.now.time.p) (sym (take_more ds i [] (omega arith))))
