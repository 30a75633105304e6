-- `distances_of` meets its contract. Assumes nothing.
use Rattle.std.proofs.Common.{◌≡◌, sym, ◌∙◌, ap, arith, refl, rules, ◌*◌, ◌<◌, ◌≤◌, ◌++◌, ℤ, pos, length, drop, take, set, replicate}
use Rattle.std.proofs.lemmas.List.{length-take-le}
use Rattle.integers.specs.Lists.{tab}
use Rattle.integers.proofs.Bounds.{told}
use Rattle.integers.proofs.Machine.{reads}
use Rattle.nest.specs.Nest.{depth_of, count_of, dependence_at, max_depth, max_dependences}
use Rattle.nest.proofs.Words.{part_length}
use Rattle.nest.proofs.Accepted.{depth_is, count_is}
use Rattle.sources.specs.Keys.{key}
use Rattle.sources.proofs.Arrays.{distance_at, distances-all}
use Rattle.sources.proofs.Steps.{slice-small}
use Rattle.sources.proofs.Walk.{filled_more, filled-all}
use Rattle.sources.proofs.distances_of.Goals as goal
use Rattle.sources.proofs.distances_of.Goals.{After-count-m, In-loop-i}

few : (c : After-count-m) → c.count-m.result ≤ max_dependences
few c = omega (arith, c.count-m.ensures, (count_is c.args.s.now.nest c.args.s.now.accepted).1)

-- there is a place for each dependence
places : (c : After-count-m) → length (take c.count-m.result (replicate max_dependences (pos 0))) ≡ c.count-m.result
places c = length-take-le c.count-m.result (replicate max_dependences (pos 0)) (few c)

turn : (d : In-loop-i) → d.loop-i.i < count_of d.args.s.now.nest
turn d = omega (arith, d.count-m.ensures, places (goal.at.In-loop-i d).After-count-m, d.loop-i-test.true)

pub slice_bounds-distances-end : goal.slice_bounds-distances-end
slice_bounds-distances-end c = few (goal.at.slice_bounds-distances-end c).After-count-m

pub slice_bounds-distance-items-end : goal.slice_bounds-distance-items-end
slice_bounds-distance-items-end c = sym (places (goal.at.slice_bounds-distance-items-end c).After-count-m)

pub loop-i-init : goal.loop-i-init
unfolding tab
loop-i-init c = refl

pub dependence_at-requires : goal.dependence_at-requires
dependence_at-requires c =
    let s = c.args.s.now in
    let l : length s.nest.dependences ≡ max_depth * max_dependences = search rules in
    omega (arith, l, c.depth-n.ensures, (depth_is s.nest s.accepted).1, (count_is s.nest s.accepted).1, turn (goal.at.dependence_at-requires c).In-loop-i)

pub key_of-requires : goal.key_of-requires
key_of-requires c =
    let s = c.args.s.now in
    let e = c.dependence_at.ensures ∙ ap (λ n. dependence_at s.nest.dependences n c.loop-i.i) c.depth-n.ensures in
    rw e (omega (arith, part_length s.nest.dependences (c.loop-i.i * max_depth) (depth_of s.nest), (depth_is s.nest s.accepted).1), slice-small s.nest s.accepted c.loop-i.i (turn (goal.at.key_of-requires c).In-loop-i))

pub loop-i-preserved : goal.loop-i-preserved
loop-i-preserved c =
    let d = (goal.at.loop-i-preserved c).In-loop-i in
    let p = (goal.at.loop-i-preserved c).After-count-m in
    let s = c.args.s.now.nest in
    let e : reads c.key_of.result ≡ distance_at s c.loop-i.i = told c.key_of.result c.key_of.type_inv ∙ c.key_of.ensures ∙ ap key (c.dependence_at.ensures ∙ ap (λ n. dependence_at s.dependences n c.loop-i.i) c.depth-n.ensures) in
    ap (λ (x : ℤ). set c.loop-i.distance-items c.loop-i.i x) e
    ∙ filled_more (pos 0) (take c.count-m.result (replicate max_dependences (pos 0))) c.loop-i.distance-items (distance_at s) c.loop-i.i (omega (arith, places p, turn d, c.count-m.ensures)) c.loop-i.invariant

pub returns : goal.returns
returns c =
    let p = (goal.at.returns c).After-count-m in
    let s = c.args.s.now.nest in
    let old = take c.count-m.result (replicate max_dependences (pos 0)) in
    let n : c.loop-i.i ≡ c.count-m.result = omega (arith, places p, c.loop-i-test.false) in
    ap (λ t. t ++ drop c.count-m.result (replicate max_dependences (pos 0))) (filled-all (pos 0) old c.loop-i.distance-items (distance_at s) c.loop-i.i (omega (arith, places p, c.loop-i-test.false)) c.loop-i.invariant ∙ ap (tab (distance_at s)) n)
    ∙ distances-all s c.count-m.result c.count-m.ensures
