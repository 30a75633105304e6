-- `lines_into` meets its contract. Assumes nothing.
use Rattle.std.proofs.Common.{◌≡◌, ◌∙◌, ◌≤◌, ◌<◌, ◌+◌, ℕ, List, ℤ, pos, length, get_or, set, refl, sym, ap, ap₂, arith}
use Rattle.sources.specs.Keys.{source_in}
use Rattle.partition.proofs.LineTables.{Lined, lined_start, lined_few, lined_seen, lined_first}
use Rattle.partition.proofs.lines.lines_into.Invariants.{before}
use Rattle.partition.proofs.lines.lines_into.Goals as goal
use Rattle.partition.proofs.lines.lines_into.Goals.{In-loop-k, in-Some, in_default, in_default-via-in-Some+else-j-k, in_default-via-in_default}

pub loop-k-init : goal.loop-k-init
loop-k-init c =
    let K = c.new-sources.result in
    record {
      lines_so_far = lined_start (before K.keys.now K.distances.now) c.args.lines.now c.args.heads.now;
      same_keys = refl;
      same_distances = refl;
      at_k = c.new-sources.ensures.iteration;
    }

-- the iteration before one on its line
abbrev by : In-loop-k → ℕ → ℕ
by d = before d.new-sources.result.keys.now d.new-sources.result.distances.now

-- the source that is asked for is that iteration
source_is : (d : In-loop-k) → source_in d.loop-k.sources.keys.now d.loop-k.sources.iteration (get_or d.loop-k.sources.distances.now 0 (pos 0)) ≡ by d d.loop-k.k
source_is d =
    let i = d.loop-k.invariant in
    ap₂ (λ (ks ds : List ℤ). source_in ks d.loop-k.sources.iteration (get_or ds 0 (pos 0))) i.same_keys i.same_distances
    ∙ ap (λ n. source_in d.new-sources.result.keys.now n (get_or d.new-sources.result.distances.now 0 (pos 0))) i.at_k

-- there are no more lines than iterations so far
few : (d : In-loop-k) → d.loop-k.count ≤ d.loop-k.k
few d = lined_few (by d) d.args.lines.now d.loop-k.heads d.loop-k.lines d.loop-k.count d.loop-k.k d.loop-k.invariant.lines_so_far

room : (d : In-loop-k) → d.loop-k.k < length d.loop-k.heads
room d = omega (arith, d.loop-k.auto.heads, d.requires.1, d.loop-k-test.true)

-- the keys are those that are given
many : (d : In-loop-k) → length d.loop-k.sources.keys.now ≡ length d.args.keys.now
many d = ap (λ (ks : List ℤ). length ks) (d.loop-k.invariant.same_keys ∙ d.new-sources.ensures.keys)

pub bounds-heads-count : goal.bounds-heads-count
bounds-heads-count c = let d = (goal.at.bounds-heads-count c).In-loop-k in omega (arith, few d, room d)

pub overflow_cast-line : goal.overflow_cast-line
overflow_cast-line c = let d = (goal.at.overflow_cast-line c).In-loop-k in omega (arith, few d, d.requires.0, d.loop-k-test.true)

pub loop-k-preserved : goal.loop-k-preserved
loop-k-preserved c =
    let d = (goal.at.loop-k-preserved c).In-loop-k in
    let b = by d in
    let i = c.loop-k.invariant in
    let long : c.loop-k.k < length c.args.lines.now = omega (arith, c.requires.2, c.loop-k-test.true) in
    let first : c.loop-k.k ≤ b c.loop-k.k → c.match-source.heads ≡ set c.loop-k.heads c.loop-k.count c.loop-k.k → c.match-source.count ≡ c.loop-k.count + 1 → c.match-source.lines ≡ c.loop-k.count
    → Lined b c.args.lines.now c.match-source.heads (set c.loop-k.lines c.loop-k.k c.match-source.lines) c.match-source.count (c.loop-k.k + 1) =
    λ l h n e. rw (h, n) (lined_first b c.args.lines.now c.loop-k.heads c.loop-k.lines c.loop-k.count c.loop-k.k i.lines_so_far c.match-source.lines e l long (room d)) in
    let lined : Lined b c.args.lines.now c.match-source.heads (set c.loop-k.lines c.loop-k.k c.match-source.lines) c.match-source.count (c.loop-k.k + 1) =
    elim c.match-source.branch [
      | in-Some w ↦ rw (w.heads-is, w.count-is, w.lines-is)
          (lined_seen b c.args.lines.now c.loop-k.heads c.loop-k.lines c.loop-k.count c.loop-k.k i.lines_so_far w.in-Some.j (w.in-Some.ensures.value.1 ∙ source_is d) w.if-j-k.true long)
      | in_default w ↦ elim w.in_default.branch [
        | in_default-via-in-Some+else-j-k v ↦ first (let e = v.in-Some.ensures.value.1 ∙ source_is d in omega (arith, e, v.if-j-k.false)) w.heads-is w.count-is w.lines-is
        | in_default-via-in_default v ↦ first (let e = sym (source_is d) ∙ v.in_default.ensures.value in omega (arith, e, many d, c.loop-k-test.true)) w.heads-is w.count-is w.lines-is
      ]
    ] in
    record {
      lines_so_far = lined;
      same_keys = c.advance.ensures.keys ∙ c.source.ensures.keys ∙ i.same_keys;
      same_distances = c.advance.ensures.distances ∙ c.source.ensures.distances ∙ i.same_distances;
      at_k = c.advance.ensures.iteration ∙ ap (λ n. n + 1) (c.source.ensures.iteration ∙ i.at_k);
    }
