-- `next_value` meets its contract. Assumes nothing.
use Rattle.std.proofs.Common.{refl, ◌∙◌, arith, get_or, pos, length}
use Rattle.sources.specs.Keys.{source_in}
use Rattle.sequential.specs.declared.Edge.{Edge}
use Rattle.sequential.specs.Edges.{weights_in, boundaries_in}
use Rattle.integers.proofs.ListFacts.{get_d_map}
use Rattle.sequential.proofs.EdgeLaws.{read-term}
use Rattle.sequential.proofs.KeyLaws.{terms_none, terms_next, terms_all}
use Rattle.sequential.proofs.next_value.Goals as goal
use Rattle.sequential.proofs.next_value.Goals.{Start}

pub loop-i-init : goal.loop-i-init
loop-i-init c =
    let a = c.args in
    let z = terms_none a.sources.now.keys.now a.sources.now.distances.now (weights_in a.edges.now) (boundaries_in a.edges.now) a.values.now a.sources.now.iteration in
    record { sum = omega (arith, z); small = omega arith; same_keys = refl; same_distances = refl; same_iteration = refl }

pub loop-i-preserved : goal.loop-i-preserved
loop-i-preserved c =
    let l = c.loop-i in
    let a = c.args in
    let S = a.sources.now in
    let es = a.edges.now in
    let source = source_in S.keys.now S.iteration (get_or S.distances.now l.i (pos 0)) in
    let found = rw (l.invariant.same_keys, l.invariant.same_distances, l.invariant.same_iteration) at c.source.ensures.value in
    let weight = get_d_map (λ (e : Edge). e.weight) es l.i (record { weight = 0; boundary = 0 }) 0 c.loop-i-test.true in
    let boundary = get_d_map (λ (e : Edge). e.boundary) es l.i (record { weight = 0; boundary = 0 }) 0 c.loop-i-test.true in
    let x = rw (← weight, ← boundary) at c.read-total.ensures.value in
    let t = read-term c.source.result (length S.keys.now) source a.values.now (get_or (weights_in es) l.i 0) (get_or (boundaries_in es) l.i 0) c.read-total.result c.requires.room found x in record {
      sum = terms_next S.keys.now S.distances.now (weights_in es) (boundaries_in es) a.values.now S.iteration l.i source l.total c.read-total.result l.invariant.sum refl t;
      small = omega (arith, l.invariant.small, c.read-total.ensures.upper_bound);
      same_keys = c.source.ensures.keys ∙ l.invariant.same_keys;
      same_distances = c.source.ensures.distances ∙ l.invariant.same_distances;
      same_iteration = c.source.ensures.iteration ∙ l.invariant.same_iteration;
    }

pub returns-clause-value : goal.returns-clause-value
returns-clause-value c =
    let l = c.loop-i in
    let a = c.args in
    terms_all a.sources.now.keys.now a.sources.now.distances.now (weights_in a.edges.now) (boundaries_in a.edges.now) a.values.now a.sources.now.iteration l.i (length a.edges.now) l.total l.invariant.sum (omega (arith, c.loop-i-test.false))
