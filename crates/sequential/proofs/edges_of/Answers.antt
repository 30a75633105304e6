-- `edges_of` meets its contract. Assumes nothing.
use Rattle.std.proofs.Common.{◌≡◌, sym, ◌∙◌, arith, ◌<◌, ◌≤◌, get_or, pos, length, length-set, take, List, drop, replicate}
use Rattle.std.proofs.lemmas.List.{length-take-le}
use Rattle.nest.specs.Nest.{to_ℕ, count_of, max_dependences}
use Rattle.nest.proofs.Accepted.{count_is}
use Rattle.sequential.specs.declared.Edge.{Edge}
use Rattle.sequential.proofs.EdgeLaws.{mapped-front, mapped_more}
use Rattle.sequential.proofs.edges_of.Goals as goal
use Rattle.sequential.proofs.edges_of.Goals.{After-count-m, In-loop-i}

-- there is a place for each dependence
abbrev none : List Edge
none = replicate max_dependences (record { weight = 0; boundary = 0 })

few : (c : After-count-m) → (c.count-m.result ≤ max_dependences) × (length (take c.count-m.result none) ≡ c.count-m.result)
few c =
    let l : c.count-m.result ≤ max_dependences = omega (arith, c.count-m.ensures, (count_is c.args.s.now.nest c.args.s.now.accepted).1) in
    (l, length-take-le c.count-m.result none l)

turn : (d : In-loop-i) → (d.loop-i.i < count_of d.args.s.now.nest) × (d.loop-i.i < length d.loop-i.edge-items)
turn d =
    let p = (goal.at.In-loop-i d).After-count-m in
    (omega (arith, d.count-m.ensures, (few p).1, d.loop-i-test.true), omega (arith, d.loop-i.invariant.places, d.loop-i-test.true))

pub slice_bounds-edges-end : goal.slice_bounds-edges-end
slice_bounds-edges-end c = (few (goal.at.slice_bounds-edges-end c).After-count-m).0

pub slice_bounds-edge-items-end : goal.slice_bounds-edge-items-end
slice_bounds-edge-items-end c = sym (few (goal.at.slice_bounds-edge-items-end c).After-count-m).1

pub loop-i-preserved : goal.loop-i-preserved
loop-i-preserved c =
    let l = c.loop-i in
    let s = c.args.s.now.nest in
    let h = (turn (goal.at.loop-i-preserved c).In-loop-i).1 in record {
      places = length-set l.edge-items l.i c.edge_at.result ∙ l.invariant.places;
      weights = mapped_more (λ (e : Edge). e.weight) (λ j. to_ℕ (get_or s.weights j (pos 0))) l.edge-items l.i c.edge_at.result h c.edge_at.ensures.weight l.invariant.weights;
      boundaries = mapped_more (λ (e : Edge). e.boundary) (λ j. to_ℕ (get_or s.boundaries j (pos 0))) l.edge-items l.i c.edge_at.result h c.edge_at.ensures.boundary l.invariant.boundaries;
    }

pub returns-clause-weights : goal.returns-clause-weights
returns-clause-weights c = λ i h.
    let p = few (goal.at.returns-clause-weights c).After-count-m in
    mapped-front (λ (e : Edge). e.weight) c.loop-i.edge-items (drop c.count-m.result none) i (omega (arith, c.loop-i.invariant.places, p, c.count-m.ensures)) ∙ c.loop-i.invariant.weights i (omega (arith, c.loop-i-test.false, p, c.count-m.ensures))

pub returns-clause-boundaries : goal.returns-clause-boundaries
returns-clause-boundaries c = λ i h.
    let p = few (goal.at.returns-clause-boundaries c).After-count-m in
    mapped-front (λ (e : Edge). e.boundary) c.loop-i.edge-items (drop c.count-m.result none) i (omega (arith, c.loop-i.invariant.places, p, c.count-m.ensures)) ∙ c.loop-i.invariant.boundaries i (omega (arith, c.loop-i-test.false, p, c.count-m.ensures))
