-- `message_count` meets its contract. Assumes nothing.
use Rattle.std.proofs.Common.{◌≡◌, refl, sym, ap, ◌∙◌, arith, ℕ, ℤ, ◌+◌, ◌≤◌, List, length, take}
use Rattle.std.proofs.lemmas.List.{length-take-le}
use Rattle.integers.specs.Lists.{tab, total}
use Rattle.integers.proofs.Lists.{length-tab}
use Rattle.nest.specs.declared.LoopNest.{LoopNest}
use Rattle.nest.specs.Nest.{count_of, max_dependences}
use Rattle.nest.specs.Points.{points_of}
use Rattle.nest.specs.Refusals.{refusal}
use Rattle.nest.proofs.Accepted.{count_is}
use Rattle.nest.proofs.PointLaws.{few-points}
use Rattle.sources.proofs.Cursors.{OfNest, distances-front, keyed-length, keyed_search}
use Rattle.mapping.specs.Mapping.{is_message}
use Rattle.mapping.proofs.KeyMessages.{keyed-messages}
use Rattle.integers.proofs.Sums.{count_most, total-none, total-tab-more, total-most}
use Rattle.mapping.proofs.counts.message_count.Invariants.{row}
use Rattle.mapping.proofs.counts.message_count.Goals as goal
use Rattle.mapping.proofs.counts.message_count.Goals.{After-count-m, After-next_messages-number}

-- an accepted nest has few
row-most : (s : LoopNest) (ps : List ℕ) → refusal s ≡ 0 → (k : ℕ) → row s ps k ≤ max_dependences
row-most s ps ok k = omega (arith, count_most (is_message s (take (length (points_of s)) ps) k) (tab (λ (i : ℕ). i) (count_of s)), length-tab (λ (i : ℕ). i) (count_of s), (count_is s ok).1)

-- the number of dependences
count : (t : After-count-m) → t.count-m.result ≡ count_of t.args.s.now.nest.now.nest
count t = t.count-m.ensures

few : (t : After-count-m) → t.count-m.result ≤ max_dependences
few t = omega (arith, count t, (count_is t.args.s.now.nest.now.nest t.args.s.now.nest.now.accepted).1)

keyed : (t : After-count-m) → OfNest t.args.s.now.nest.now.nest t.args.s.now.keys.now t.count-m.result (take t.count-m.result t.distances_of-distances.result)
keyed t = record {
  accepted = t.args.s.now.nest.now.accepted;
  keys_are = t.args.s.now.keyed;
  count = count t;
  distances_are = ap (take t.count-m.result) t.distances_of-distances.ensures ∙ distances-front t.args.s.now.nest.now.nest t.args.s.now.nest.now.accepted t.count-m.result (count t);
}

distances-length : (t : After-count-m) → length (take t.count-m.result t.distances_of-distances.result) ≡ t.count-m.result
distances-length t = length-take-le t.count-m.result t.distances_of-distances.result (omega (arith, few t))

-- there are as many keys as iterations
keys-count : (t : After-count-m) → length t.args.s.now.keys.now ≡ length (points_of t.args.s.now.nest.now.nest)
keys-count t = keyed-length t.args.s.now.nest.now.nest t.args.s.now.keys.now t.count-m.result (take t.count-m.result t.distances_of-distances.result) (keyed t)

pub slice_bounds-distances-end : goal.slice_bounds-distances-end
slice_bounds-distances-end c = omega (arith, few (goal.at.slice_bounds-distances-end c).After-count-m)

pub slice_bounds-new-end : goal.slice_bounds-new-end
slice_bounds-new-end c = sym (distances-length (goal.at.slice_bounds-new-end c).After-count-m)

pub new-sources-requires-clause-searchable : goal.new-sources-requires-clause-searchable
new-sources-requires-clause-searchable c =
    let t = (goal.at.new-sources-requires-clause-searchable c).After-count-m in
    λ i h. keyed_search c.args.s.now.nest.now.nest c.args.s.now.keys.now c.count-m.result (take c.count-m.result c.distances_of-distances.result) (keyed t) i (omega (arith, h, distances-length t))

pub loop-init : goal.loop-init
loop-init c = record { counted = sym (total-none (row c.args.s.now.nest.now.nest c.args.processors.now)); same_keys = refl; same_distances = refl; at_index = c.new-sources.ensures.iteration }

pub next_messages-number-requires-clause-room : goal.next_messages-number-requires-clause-room
next_messages-number-requires-clause-room c = omega (arith, ap (λ (ks : List ℤ). length ks) (c.loop.invariant.same_keys ∙ c.new-sources.ensures.keys), keys-count (goal.at.next_messages-number-requires-clause-room c).After-count-m, c.requires)

-- what the turn adds
added : (c : After-next_messages-number) → c.next_messages-number.result ≡ row c.args.s.now.nest.now.nest c.args.processors.now c.loop.index
added c =
    let t = (goal.at.After-next_messages-number c).After-count-m in
    let i = c.loop.invariant in
    let d = i.same_distances ∙ c.new-sources.ensures.distances in
    let v = rw (i.same_keys ∙ c.new-sources.ensures.keys, d, i.at_index, distances-length t) at c.next_messages-number.ensures.value in
    keyed-messages c.args.s.now.nest.now.nest c.args.s.now.keys.now c.count-m.result (take c.count-m.result c.distances_of-distances.result) (keyed t) c.args.processors.now c.loop.index (omega (arith, keys-count t, c.loop-test.true)) c.next_messages-number.result v

pub overflow_add-number : goal.overflow_add-number
overflow_add-number c =
    let t = (goal.at.overflow_add-number c).After-count-m in
    let r = row c.args.s.now.nest.now.nest c.args.processors.now in
    let m = total-most r max_dependences c.loop.index (row-most c.args.s.now.nest.now.nest c.args.processors.now c.args.s.now.nest.now.accepted) in
    let o = row-most c.args.s.now.nest.now.nest c.args.processors.now c.args.s.now.nest.now.accepted c.loop.index in
    omega (arith, m, o, c.loop.invariant.counted, added (goal.at.overflow_add-number c).After-next_messages-number, c.loop-test.true, keys-count t, few-points c.args.s.now.nest.now.nest c.args.s.now.nest.now.accepted)

pub loop-preserved : goal.loop-preserved
loop-preserved c =
    let i = c.loop.invariant in record {
      counted = let t = total-tab-more (row c.args.s.now.nest.now.nest c.args.processors.now) c.loop.index in omega (arith, t, i.counted, added (goal.at.loop-preserved c).After-next_messages-number);
      same_keys = c.advance.ensures.keys ∙ c.next_messages-number.ensures.keys ∙ i.same_keys;
      same_distances = c.advance.ensures.distances ∙ c.next_messages-number.ensures.distances ∙ i.same_distances;
      at_index = c.advance.ensures.iteration ∙ ap (λ k. k + 1) (c.next_messages-number.ensures.iteration ∙ i.at_index);
    }

pub returns : goal.returns
returns c =
    let e : c.loop.index ≡ length (points_of c.args.s.now.nest.now.nest) = omega (arith, keys-count (goal.at.returns c).After-count-m, c.loop.auto.index-end, c.loop-test.false) in
    c.loop.invariant.counted ∙ ap (λ (k : ℕ). total (tab (row c.args.s.now.nest.now.nest c.args.processors.now) k)) e
