-- `basis_of` answers the basis of an accepted nest and its group size.
use Rattle.std.proofs.Common.{◌≡◌, ◌∙◌, ◌≤◌, nat_abs, length, sym, ap, arith, rules, w64, to_z, of_z}
use Rattle.std.proofs.lemmas.List.{length-take-le}
use Rattle.integers.proofs.Bounds.{told}
use Rattle.nest.specs.Nest.{time_of, dependences_of}
use Rattle.nest.proofs.Accepted.{count_is}
use Rattle.grouping.specs.Projection.{group_size}
use Rattle.partition.proofs.NestVectors.{size_is, chosen_is, sized}
use Rattle.partition.proofs.inputs.basis_of.Goals as goal
use Rattle.partition.proofs.inputs.basis_of.Goals.{After-count, After-group_size-r}

fits : (c : After-count) → c.count.result ≤ length c.dependence_rows-table.result
fits c =
    let l : length c.dependence_rows-table.result ≡ 8 = search rules in
    omega (arith, c.count.ensures, (count_is c.args.s.now.nest c.args.s.now.accepted).1, l)

-- the group size
size : (c : After-group_size-r) → nat_abs (to_z w64 (of_z w64 c.group_size-r.result)) ≡ group_size (time_of c.args.s.now.nest) (dependences_of c.args.s.now.nest)
size c =
    let t = c.dependence_rows-table in
    ap nat_abs (told c.group_size-r.result c.group_size-r.type_inv ∙ c.group_size-r.ensures)
    ∙ size_is c.args.s.now.nest c.count.result c.time_vector.result.p t.result c.count.ensures c.time_vector.ensures t.ensures.value

pub slice_bounds-table-end : goal.slice_bounds-table-end
slice_bounds-table-end c = fits c

pub slice_bounds-candidates-end : goal.slice_bounds-candidates-end
slice_bounds-candidates-end c = sym (length-take-le c.count.result c.dependence_rows-table.result (fits (goal.at.slice_bounds-candidates-end c).After-count))

pub returns-clause-size : goal.returns-clause-size
returns-clause-size c = size (goal.at.returns-clause-size c).After-group_size-r

pub invariant_of-result : goal.invariant_of-result
invariant_of-result c =
    let v = size (goal.at.invariant_of-result c).After-group_size-r in
    let z = sized c.args.s.now.nest c.args.s.now.accepted in
    record { size = (omega (arith, v, z.0), omega (arith, v, z.1)) }

pub returns-clause-p_value : goal.returns-clause-p_value
returns-clause-p_value c =
    let t = c.dependence_rows-table in
    let b = c.choose.ensures.p_value in
    (b.0 ∙ c.time_vector.ensures, b.1 ∙ chosen_is c.args.s.now.nest c.count.result c.time_vector.result.p t.result c.count.ensures c.time_vector.ensures t.ensures.value)
