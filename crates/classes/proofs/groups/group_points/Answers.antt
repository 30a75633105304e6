-- `group_points` meets its contract.
use native.Mathlib.Omega.{arith}
use mathlib.Core.Path.{ap, ◌∙◌}
use mathlib.Core.List.{◌++◌, map}
use Prim.Native.Nat.{ℕ, ◌≤◌}
use lib.ListN.{length, drop}
use Rattle.integers.specs.Lists.{place, firsts}
use Rattle.integers.specs.Vector.{eq_v}
use Rattle.numbering.specs.Tables.{rows}
use Rattle.numbering.proofs.TableRows.{rows-within, length-rows}
use Rattle.classes.proofs.Residues.{class-numbers}
use Rattle.classes.proofs.groups.group_points.Goals as goal

pub number_table-requires-clause-within : goal.number_table-requires-clause-within
number_table-requires-clause-within c = rows-within 1000000000 c.class_rows.new.table (length c.args.points.now) c.class_rows.ensures.within

pub group_rows-requires-clause-by_index : goal.group_rows-requires-clause-by_index
group_rows-requires-clause-by_index c =
    let C = c.class_rows in
    let x = c.number_table in
    let n = length c.args.points.now in
    let room : n ≤ length C.new.table = omega (arith, C.ensures.size, c.requires.few.1) in
    class-numbers c.args.f.basis.framed c.args.points.now c.args.groups.now C.new.table c.args.blocks.now x.new.out n (omega arith) room c.told-points C.ensures
    (x.ensures.out_after ∙ ap (λ (k : ℕ). map (λ v. place (eq_v v) (firsts eq_v (rows C.new.table n))) (rows C.new.table n) ++ drop k c.args.blocks.now) (length-rows C.new.table n room))

pub number_table-requires-2-clause-within : goal.number_table-requires-2-clause-within
number_table-requires-2-clause-within c = rows-within 1000000000 c.group_rows.new.groups (length c.args.points.now) c.group_rows.ensures.within
