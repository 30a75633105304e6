-- `rank_of` meets its contract. Assumes nothing.
use mathlib.Core.Path.{◌≡◌, refl, sym, ◌∙◌, ap, ap₂, subst}
use mathlib.Core.Bool.{true, false}
use mathlib.Core.List.{List, [], ◌∷◌, ◌++◌}
use mathlib.Core.Logic.{⊎_elim}
use Prim.Native.Nat.{ℕ, ◌+◌, ◌*◌, ◌^◌, ◌<◌, ◌≤◌}
use native.Mathlib.Omega.{arith}
use lib.IntN.{ℤ, pos, ◌-ℤ◌}
use lib.ListN.{length, get_or, length-append}
use borrow.Author.Rules.{rules}
use mir.Facts.{to_z-of_z}
use mir.Syntax.{w64}
use Rattle.std.specs.Prelude.{FitsSigned}
use Rattle.integers.specs.Lists.{tab}
use Rattle.integers.proofs.Lists.{any-tab-each, tab-list}
use Rattle.integers.proofs.Machine.{reads}
use Rattle.nest.specs.Nest.{Limit, to_ℕ, limit_at, max_depth}
use Rattle.nest.specs.Points.{extent, points, place_of}
use Rattle.nest.specs.Refusals.{outside, crossed}
use Rattle.nest.proofs.Conditions.{in_span, limit_of, read-limits}
use Rattle.nest.proofs.Counted.{max_extent, extent-within}
use Rattle.nest.proofs.Ranks.{Within, rank_with, next_fits, ranking_more, ranking_end, place_beyond}
use Rattle.nest.proofs.Zipped.{Next, next, ended}
use Rattle.nest.proofs.loops.Loops.rank_of.Goals as goal
use Rattle.nest.proofs.loops.Loops.rank_of.Goals.{In-Some, After-is_outside, Else-is_outside, After-extent_of, After-distance, Start}

-- as many numbers as there are, one by one
whole : (point : List ℤ) (n : ℕ) → length point ≡ n → tab (λ i. get_or point i (pos 0)) n ≡ point
whole point n e = tab-list (λ i. get_or point i (pos 0)) point (pos 0) n e (λ i l. refl)

-- the turn, and the limits and the index that it takes
abbrev k : In-Some → ℕ
k c = length c.loop-low.yielded

low : (c : In-Some) → Next c.args.self.now.lower.now (k c) c.in-Some.low.now c.next.new.self.a.a.rest.now
low c = next c.args.self.now.lower.now (k c) c.in-Some.low.now c.next.new.self.a.a.rest.now c.loop-low.low-iterator.a.a.rest.now c.loop-low.invariant.lower c.in-Some.ensures.steps.0.0

high : (c : In-Some) → Next c.args.self.now.upper.now (k c) c.in-Some.high.now c.next.new.self.a.b.rest.now
high c = next c.args.self.now.upper.now (k c) c.in-Some.high.now c.next.new.self.a.b.rest.now c.loop-low.low-iterator.a.b.rest.now c.loop-low.invariant.upper c.in-Some.ensures.steps.0.1

index : (c : In-Some) → Next c.args.point.now (k c) c.in-Some.index.now c.next.new.self.b.rest.now
index c = next c.args.point.now (k c) c.in-Some.index.now c.next.new.self.b.rest.now c.loop-low.low-iterator.b.rest.now c.loop-low.invariant.point c.in-Some.ensures.steps.1

-- the loops, the point, the turn's loop and index
abbrev f : In-Some → ℕ → Limit
f c = limit_at c.args.self.now.lower.now c.args.self.now.upper.now

abbrev g : In-Some → ℕ → ℤ
g c i = get_or c.args.point.now i (pos 0)

abbrev n : In-Some → ℕ
n c = length c.args.self.now.lower.now

abbrev limit : In-Some → Limit
limit c = limit_of c.in-Some.low.now c.in-Some.high.now

taken : (c : In-Some) → f c (k c) ≡ limit c
taken c = ap₂ limit_of ((low c).here (pos 0)) ((high c).here (pos 0))

index_is : (c : In-Some) → g c (k c) ≡ c.in-Some.index.now
index_is c = (index c).here (pos 0)

-- its limits are not crossed
fine : (c : In-Some) → crossed (limit c) ≡ false
fine c = sym (ap crossed (taken c)) ∙ any-tab-each crossed (f c) (n c) (k c) c.args.self.now.limits (low c).below

-- what the machine reads
index-read : (c : After-is_outside) → reads c.in-Some.index.now ≡ c.in-Some.index.now
index-read c =
    let i : FitsSigned w64 c.in-Some.index.now = search rules in
    to_z-of_z i

-- what the test says
abbrev turn : After-is_outside → In-Some
turn c = c.before.before.before.before

test : (c : After-is_outside) → c.is_outside.result ≡ outside (limit (turn c)).lower (limit (turn c)).upper c.in-Some.index.now
test c =
    let h = read-limits c.in-Some.low.now c.in-Some.high.now (fine (turn c)) in
    c.is_outside.ensures ∙ ap₂ (λ (l : Limit) (x : ℤ). outside l.lower l.upper x) h (index-read c)

-- where it fails the index is within the limits
within : (c : Else-is_outside) → Within (limit (turn c.before)) c.in-Some.index.now
within c = in_span c.in-Some.low.now c.in-Some.high.now c.in-Some.index.now (sym (test c.before) ∙ c.if-is_outside.false)

pub returns-then-is_outside : goal.returns-then-is_outside
returns-then-is_outside c =
    let t = turn c.before in
    let e : outside (f t (k t)).lower (f t (k t)).upper (g t (k t)) ≡ true =
    ap₂ (λ (l : Limit) (x : ℤ). outside l.lower l.upper x) (taken t) (index_is t) ∙ sym (test c.before) ∙ c.if-is_outside.true in
    sym (ap (place_of (points (tab (f t) (n t)))) (sym (whole c.args.point.now (n t) c.requires)) ∙ place_beyond (f t) (g t) (n t) (k t) (low t).below e)

-- the same of loop and index by their number
within_k : (c : Else-is_outside) → let t = turn c.before in Within (f t (k t)) (g t (k t))
within_k c =
    let t = turn c.before in
    subst (λ l. Within l (g t (k t))) (sym (taken t)) (subst (λ x. Within (limit t) x) (sym (index_is t)) (within c))

-- the extent that the call gives
abbrev inside : After-extent_of → Else-is_outside
inside c = c.before.before.before

extent-is : (c : After-extent_of) → c.extent_of.result ≡ extent (limit (turn (inside c).before))
extent-is c = c.extent_of.ensures ∙ ap extent (read-limits c.in-Some.low.now c.in-Some.high.now (fine (turn (inside c).before)))

-- it is small
extent_fits : (c : In-Some) → extent (f c (k c)) ≤ max_extent
extent_fits c = rw (taken c) (extent-within c.in-Some.low.now c.in-Some.high.now (fine c))

-- the rank with loop k is in range
fits : (c : Else-is_outside) → let t = turn c.before in rank_with c.loop-low.rank (f t (k t)) (g t (k t)) < max_extent ^ max_depth
fits c =
    let t = turn c.before in
    let b = (low t).below in
    let m = c.args.self.now.lengths.0 in
    next_fits (f t) (g t) (n t) (k t) c.loop-low.rank c.loop-low.invariant.rank (within_k c) (extent_fits t) (omega arith)

pub extent_of-requires : goal.extent_of-requires
extent_of-requires c = ap crossed (read-limits c.in-Some.low.now c.in-Some.high.now (fine (turn c.before.before.before))) ∙ fine (turn c.before.before.before)

pub overflow_mul-rank : goal.overflow_mul-rank
overflow_mul-rank c =
    let h = fits (inside c) in
    let e : c.extent_of.result ≡ extent (f (turn (inside c).before) (k (turn (inside c).before))) = extent-is c ∙ ap extent (sym (taken (turn (inside c).before))) in
    rw e (omega (arith, h))

-- the lowest index, as the machine reads it
low-read : (c : In-Some) → reads c.in-Some.low.now ≡ c.in-Some.low.now
low-read c = ap (λ (l : Limit). l.lower) (read-limits c.in-Some.low.now c.in-Some.high.now (fine c))

pub distance-requires : goal.distance-requires
distance-requires c =
    let d = inside c.before.before in
    let t = turn d.before in
    rw (low-read t, index-read d.before) (within d).0

-- the rank with loop k
next_is : (c : After-distance)
    → let t = turn (inside c.before.before.before).before in
    c.loop-low.rank * c.extent_of.result + c.distance.result ≡ rank_with c.loop-low.rank (f t (k t)) (g t (k t))
next_is c =
    let d = inside c.before.before.before in
    let t = turn d.before in
    let e : c.distance.result ≡ to_ℕ (c.in-Some.index.now -ℤ c.in-Some.low.now) = rw (low-read t, index-read d.before) at c.distance.ensures in
    ap₂ (λ x y. c.loop-low.rank * x + y) (extent-is c.before.before.before) e ∙ ap₂ (rank_with c.loop-low.rank) (sym (taken t)) (sym (index_is t))

pub overflow_add-rank : goal.overflow_add-rank
overflow_add-rank c = rw (next_is c) (let h = fits (inside c.before.before.before) in omega (arith, h))

pub loop-low-preserved : goal.loop-low-preserved
loop-low-preserved c =
    let l = c.loop-low in
    let d = inside c.before.before.before in
    let t = turn d.before in
    let more : length (l.yielded ++ (((c.in-Some.low, c.in-Some.high), c.in-Some.index) ∷ [])) ≡ k t + 1 = length-append l.yielded (((c.in-Some.low, c.in-Some.high), c.in-Some.index) ∷ []) in
    rw more record {
      passed = let b = (low t).below in omega arith;
      lower = (low t).behind;
      upper = (high t).behind;
      point = (index t).behind;
      rank = rw (next_is c) (ranking_more (f t) (g t) (n t) (k t) l.rank l.invariant.rank (within_k d) (extent_fits t) (low t).below);
    }

pub returns : goal.returns
returns c =
    let a = c.args in
    let l = c.loop-low in
    let i = l.invariant in
    let k = length l.yielded in
    let it = l.low-iterator in
    let n = a.self.now.lengths in
    let d : length a.self.now.lower.now ≤ k =
    ⊎_elim
    (λ h. ⊎_elim (λ q. ended a.self.now.lower.now k it.a.a.rest.now i.lower q.1.0) (λ q. rw n.1 at (ended a.self.now.upper.now k it.a.b.rest.now i.upper q.1.0)) h.1)
    (λ h. rw c.requires at (ended a.point.now k it.b.rest.now i.point h.1.0))
    c.in-None.ensures.steps in
    let e : k ≡ length a.self.now.lower.now = omega (arith, d, i.passed) in
    let f = limit_at a.self.now.lower.now a.self.now.upper.now in
    let g = λ (j : ℕ). get_or a.point.now j (pos 0) in
    ranking_end f g (length a.self.now.lower.now) l.rank (rw e at i.rank) ∙ ap (place_of (points (tab f (length a.self.now.lower.now)))) (whole a.point.now (length a.self.now.lower.now) c.requires)
