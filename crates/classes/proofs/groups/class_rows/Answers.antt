-- `class_rows` meets its contract.
use native.Mathlib.Omega.{arith}
use Rattle.grouping.specs.Basis.{dual_of}
use Rattle.classes.proofs.GroupTables.{class-rows-more}
use Rattle.classes.proofs.groups.class_rows.Goals as goal

pub loop-i-preserved : goal.loop-i-preserved
loop-i-preserved c =
    let f = c.args.f in
    let g = c.residues_of in
    class-rows-more f.count (dual_of f 0) (dual_of f 1) (dual_of f 2) f.d c.args.points.now c.args.table.now c.loop-i.table c.loop-i.i g.result c.loop-i.invariant (omega (arith, c.loop-i-test.true, c.loop-i.invariant.size, c.requires.room)) g.ensures.value g.ensures.all_within_2
