-- `class_rows` writes the residues of each point. The loop's invariant: the rows of the first i points stand.
use Rattle.grouping.specs.Basis.{ClassRowsBy, dual_of}
use Rattle.classes.proofs.groups.class_rows.Given as goal

abbrev pub invariant-loop-i : goal.invariant-loop-i
invariant-loop-i l = ClassRowsBy l.f.count (dual_of l.f 0) (dual_of l.f 1) (dual_of l.f 2) l.f.d l.points l.i l.initial.table l.table
