-- `fill_by_keys` meets its contract. Assumes nothing.
use Rattle.std.proofs.Common.{◌≡◌, refl, sym, ap, ◌∙◌, arith, ℤ, ◌+◌, ◌<◌, ◌≤◌, take, length, List}
use Rattle.std.proofs.lemmas.List.{length-take-le}
use Rattle.nest.specs.Nest.{max_dependences}
use Rattle.nest.specs.Points.{points_of}
use Rattle.nest.proofs.Accepted.{count_is}
use Rattle.nest.proofs.PointLaws.{few-points}
use Rattle.sources.proofs.Cursors.{distances-front, keyed-length, keyed_search}
use Rattle.sequential.specs.declared.Edge.{Edge}
use Rattle.sequential.specs.Edges.{weights_in, boundaries_in}
use Rattle.sequential.proofs.EdgeLaws.{mapped-take}
use Rattle.sequential.proofs.FillLaws.{filled_to, filled_none, filled-length, filled_more}
use Rattle.sequential.proofs.KeyLaws.{Uses, uses_value}
use Rattle.sequential.proofs.fill_by_keys.Goals as goal
use Rattle.sequential.proofs.fill_by_keys.Goals.{After-count-m, After-new-sources, At-loop-k}

few : (t : After-count-m) → t.count-m.result ≤ max_dependences
few t = omega (arith, t.count-m.ensures, (count_is t.args.s.now.nest.now.nest t.args.s.now.nest.now.accepted).1)

-- the numbers that are used, and the nest that they are of
uses : (t : After-count-m) → Uses t.args.s.now.nest.now.nest t.args.s.now.keys.now t.count-m.result (take t.count-m.result t.distances_of-distances.result) (weights_in (take t.count-m.result t.edges_of-edges.result)) (boundaries_in (take t.count-m.result t.edges_of-edges.result))
uses t = record {
  keyed = record {
    accepted = t.args.s.now.nest.now.accepted;
    keys_are = t.args.s.now.keyed;
    count = t.count-m.ensures;
    distances_are = ap (take t.count-m.result) t.distances_of-distances.ensures ∙ distances-front t.args.s.now.nest.now.nest t.args.s.now.nest.now.accepted t.count-m.result t.count-m.ensures;
  };
  weights_are = λ i h. mapped-take (λ (e : Edge). e.weight) t.edges_of-edges.result t.count-m.result i h ∙ t.edges_of-edges.ensures.weights i (omega (arith, h, t.count-m.ensures));
  boundaries_are = λ i h. mapped-take (λ (e : Edge). e.boundary) t.edges_of-edges.result t.count-m.result i h ∙ t.edges_of-edges.ensures.boundaries i (omega (arith, h, t.count-m.ensures));
}

-- there are as many keys as iterations
keys-count : (t : After-count-m) → length t.args.s.now.keys.now ≡ length (points_of t.args.s.now.nest.now.nest)
keys-count t = keyed-length t.args.s.now.nest.now.nest t.args.s.now.keys.now t.count-m.result (take t.count-m.result t.distances_of-distances.result) (uses t).keyed

distances-length : (t : After-count-m) → length (take t.count-m.result t.distances_of-distances.result) ≡ t.count-m.result
distances-length t = length-take-le t.count-m.result t.distances_of-distances.result (omega (arith, few t))

edges-length : (t : After-count-m) → length (take t.count-m.result t.edges_of-edges.result) ≡ t.count-m.result
edges-length t = length-take-le t.count-m.result t.edges_of-edges.result (omega (arith, few t))

-- the table keeps its length
kept : (d : At-loop-k) → length d.loop-k.values ≡ length d.args.values.now
kept d =
    ap length d.loop-k.invariant.table ∙ filled-length d.args.s.now.nest.now.nest d.args.values.now d.loop-k.k (omega (arith, keys-count (goal.at.At-loop-k d).After-count-m, d.requires, d.loop-k.auto))

pub slice_bounds-distances-end : goal.slice_bounds-distances-end
slice_bounds-distances-end c = omega (arith, few (goal.at.slice_bounds-distances-end c).After-count-m)

pub slice_bounds-new-end : goal.slice_bounds-new-end
slice_bounds-new-end c = sym (distances-length (goal.at.slice_bounds-new-end c).After-count-m)

pub new-sources-requires-clause-searchable : goal.new-sources-requires-clause-searchable
new-sources-requires-clause-searchable c =
    let t = (goal.at.new-sources-requires-clause-searchable c).After-count-m in
    λ i h. keyed_search c.args.s.now.nest.now.nest c.args.s.now.keys.now c.count-m.result (take c.count-m.result c.distances_of-distances.result) (uses t).keyed i (omega (arith, h, distances-length t))

pub loop-k-init : goal.loop-k-init
loop-k-init c = record { table = filled_none c.args.s.now.nest.now.nest c.args.values.now; same_keys = refl; same_distances = refl; at_k = c.new-sources.ensures.iteration }

pub slice_bounds-edges-end : goal.slice_bounds-edges-end
slice_bounds-edges-end c = omega (arith, few (goal.at.slice_bounds-edges-end c).After-count-m)

pub slice_bounds-next_value-end : goal.slice_bounds-next_value-end
slice_bounds-next_value-end c = sym (edges-length (goal.at.slice_bounds-next_value-end c).After-count-m)

pub next_value-requires-clause-few : goal.next_value-requires-clause-few
next_value-requires-clause-few c =
    omega (arith, ap (λ (ks : List ℤ). length ks) (c.loop-k.invariant.same_keys ∙ c.new-sources.ensures.keys), keys-count (goal.at.next_value-requires-clause-few c).After-count-m, few-points c.args.s.now.nest.now.nest c.args.s.now.nest.now.accepted)

pub next_value-requires-clause-room : goal.next_value-requires-clause-room
next_value-requires-clause-room c =
    omega (arith, ap (λ (ks : List ℤ). length ks) (c.loop-k.invariant.same_keys ∙ c.new-sources.ensures.keys), keys-count (goal.at.next_value-requires-clause-room c).After-count-m, kept (goal.at.next_value-requires-clause-room c).At-loop-k, c.requires)

pub bounds-values-k : goal.bounds-values-k
bounds-values-k c = omega (arith, keys-count (goal.at.bounds-values-k c).After-count-m, kept (goal.at.bounds-values-k c).At-loop-k, c.requires, c.loop-k-test.true)

pub loop-k-preserved : goal.loop-k-preserved
loop-k-preserved c =
    let t = (goal.at.loop-k-preserved c).After-count-m in
    let l = c.loop-k in
    let h : l.k < length (points_of c.args.s.now.nest.now.nest) = omega (arith, keys-count t, c.loop-k-test.true) in
    let v = rw (l.invariant.same_keys ∙ c.new-sources.ensures.keys, l.invariant.same_distances ∙ c.new-sources.ensures.distances, l.invariant.at_k, edges-length t) at c.next_value.ensures.value in
    record {
      table = filled_more c.args.s.now.nest.now.nest c.args.values.now c.args.s.now.nest.now.accepted l.k c.next_value.result l.values h (omega (arith, h, c.requires)) l.invariant.table
          (uses_value c.args.s.now.nest.now.nest c.args.s.now.keys.now c.count-m.result (take c.count-m.result c.distances_of-distances.result) (weights_in (take c.count-m.result c.edges_of-edges.result)) (boundaries_in (take c.count-m.result c.edges_of-edges.result)) (uses t) l.values l.k h c.next_value.result v);
      same_keys = c.advance.ensures.keys ∙ c.next_value.ensures.keys ∙ l.invariant.same_keys;
      same_distances = c.advance.ensures.distances ∙ c.next_value.ensures.distances ∙ l.invariant.same_distances;
      at_k = c.advance.ensures.iteration ∙ ap (λ k. k + 1) (c.next_value.ensures.iteration ∙ l.invariant.at_k);
    }

pub returns : goal.returns
returns c =
    let t = (goal.at.returns c).After-count-m in
    let e : c.loop-k.k ≡ length (points_of c.args.s.now.nest.now.nest) = omega (arith, keys-count t, c.loop-k-test.false) in
    c.loop-k.invariant.table ∙ ap (filled_to c.args.s.now.nest.now.nest c.args.values.now) e
