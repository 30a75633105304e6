-- `time_vector` answers P with zeros behind, which is a time vector.
use Rattle.std.proofs.Common.{◌≡◌, ◌∙◌, ◌≤◌, ◌≤ℤ◌, pos, length, sym, ap, subst, arith, rules}
use Rattle.std.proofs.lemmas.List.{length-take-le}
use Rattle.integers.specs.Vector.{Vector, AllWithin, dots}
use Rattle.nest.specs.Nest.{padded, time_of, max_depth}
use Rattle.nest.proofs.Accepted.{depth_is}
use Rattle.partition.proofs.NestVectors.{time-front, time-within, time-positive}
use Rattle.partition.proofs.inputs.time_vector.Goals as goal
use Rattle.partition.proofs.inputs.time_vector.Goals.{After-depth, After-row_of}

fits : (c : After-depth) → (c.depth.result ≤ max_depth) × (c.depth.result ≤ length c.args.s.now.nest.time)
fits c =
    let l : length c.args.s.now.nest.time ≡ max_depth = search rules in
    let d = depth_is c.args.s.now.nest c.args.s.now.accepted in
    (omega (arith, c.depth.ensures, d.1), omega (arith, c.depth.ensures, d.1, l))

pub slice_bounds-row_of-end : goal.slice_bounds-row_of-end
slice_bounds-row_of-end c = sym (length-take-le c.depth.result c.args.s.now.nest.time (fits (goal.at.slice_bounds-row_of-end c).After-depth).1)

-- the components, with zeros behind
front : (c : After-row_of) → c.row_of.result ≡ padded 4 (time_of c.args.s.now.nest)
front c = c.row_of.ensures ∙ ap (padded 4) (time-front c.args.s.now.nest c.depth.result c.depth.ensures (fits (goal.at.After-row_of c).After-depth).1)

pub invariant_of-result : goal.invariant_of-result
invariant_of-result c =
    let s = c.args.s.now in
    let e = sym (front (goal.at.invariant_of-result c).After-row_of) in
    record {
      within = subst (AllWithin 16) e (time-within s.nest s.accepted);
      positive = subst (λ (v : Vector). pos 1 ≤ℤ dots v v) e (time-positive s.nest s.accepted);
    }

pub returns : goal.returns
returns c = front (goal.at.returns c).After-row_of
