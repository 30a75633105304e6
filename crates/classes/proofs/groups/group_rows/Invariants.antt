-- `group_rows` writes the group of each point. The loop's invariant: the rows of the first i points stand, and the heads are the first points of their classes.
use mathlib.Core.Path.{◌≡◌}
use lib.ListN.{length}
use Rattle.grouping.specs.Basis.{in_one_class_by, basis_frame_by, vector_of}
use Rattle.classes.proofs.GroupTables.{GroupsTo}
use Rattle.classes.proofs.groups.group_rows.Given as goal

abbrev pub invariant-loop-i : goal.invariant-loop-i
invariant-loop-i l =
    record {
      wide : length l.heads ≡ 4096;
      groups : GroupsTo (in_one_class_by l.f.basis.p l.f.basis.count (vector_of l.f.basis 0) (vector_of l.f.basis 1) (vector_of l.f.basis 2)) (basis_frame_by l.f.basis.p l.f.basis.count (vector_of l.f.basis 0) (vector_of l.f.basis 1) (vector_of l.f.basis 2) l.f.r) l.f.basis.count l.points l.initial.groups l.groups l.heads l.count l.i;
    }
