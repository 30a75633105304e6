-- `edge_at` meets its contract: the weight and the boundary value are in span. Assumes nothing.
use Rattle.std.proofs.Common.{◌≡◌, ap, ◌∙◌, arith, ◌<◌, get_or, pos}
use Rattle.nest.specs.Nest.{to_ℕ, max_dependences}
use Rattle.nest.proofs.Accepted.{count_is}
use Rattle.integers.proofs.Bounds.{told}
use Rattle.sequential.proofs.SourceLaws.{boundary-most, weight-most}
use Rattle.sequential.proofs.edge_at.Goals as goal
use Rattle.sequential.proofs.edge_at.Goals.{Start, After-to_size, After-to_size-2}

-- both have a place in their arrays
place : (t : Start) → t.args.i < max_dependences
place t = let m = (count_is t.args.s.now.nest t.args.s.now.accepted).1 in omega (arith, t.requires)

-- the weight and the boundary value are those of dependence i
weight : (c : After-to_size) → c.to_size.result ≡ to_ℕ (get_or c.args.s.now.nest.weights c.args.i (pos 0))
weight c = c.to_size.ensures ∙ ap to_ℕ (told (get_or c.args.s.now.nest.weights c.args.i (pos 0)) c.to_size-arg-1.given)

boundary : (c : After-to_size-2) → c.to_size-2.result ≡ to_ℕ (get_or c.args.s.now.nest.boundaries c.args.i (pos 0))
boundary c = c.to_size-2.ensures ∙ ap to_ℕ (told (get_or c.args.s.now.nest.boundaries c.args.i (pos 0)) c.to_size-arg-2-1.given)

pub offset_bounds-s-i : goal.offset_bounds-s-i
offset_bounds-s-i c = omega (arith, place (goal.at.offset_bounds-s-i c).Start)

pub bounds-s-i : goal.bounds-s-i
bounds-s-i c = place (goal.at.bounds-s-i c).Start

pub overflow_cast-result : goal.overflow_cast-result
overflow_cast-result c = omega (arith, weight-most c.args.s.now.nest c.args.s.now.accepted c.args.i c.requires, weight (goal.at.overflow_cast-result c).After-to_size)

pub offset_bounds-s-i-2 : goal.offset_bounds-s-i-2
offset_bounds-s-i-2 c = omega (arith, place (goal.at.offset_bounds-s-i-2 c).Start)

pub bounds-s-i-2 : goal.bounds-s-i-2
bounds-s-i-2 c = place (goal.at.bounds-s-i-2 c).Start

pub overflow_cast-result-2 : goal.overflow_cast-result-2
overflow_cast-result-2 c = omega (arith, boundary-most c.args.s.now.nest c.args.s.now.accepted c.args.i c.requires, boundary (goal.at.overflow_cast-result-2 c).After-to_size-2)
