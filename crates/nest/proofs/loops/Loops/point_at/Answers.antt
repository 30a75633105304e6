-- `point_at` meets its contract. Assumes nothing.
use mathlib.Core.Path.{◌≡◌, ◌∙◌, ap, subst}
use mathlib.Core.Bool.{false}
use mathlib.Core.List.{[]}
use Prim.Native.Nat.{ℕ, suc, ◌-◌, ◌%◌, ◌<◌}
use native.Mathlib.Nat as NatL
use native.Mathlib.Omega.{arith}
use lib.IntN.{ℤ, pos, ◌+ℤ◌}
use lib.ListN.{length, get_or}
use Rattle.integers.proofs.Bounds.{told}
use Rattle.integers.proofs.Lists.{any-tab-each}
use Rattle.integers.proofs.Machine.{reads}
use Rattle.integers.specs.Vector.{Vector}
use Rattle.nest.specs.Nest.{Limit, limit_at, limits_in}
use Rattle.nest.specs.Points.{extent, points}
use Rattle.nest.specs.Refusals.{crossed}
use Rattle.nest.proofs.Accepted.{some-index}
use Rattle.nest.proofs.Conditions.{uncrossed, read-limits}
use Rattle.nest.proofs.Counted.{extent-within}
use Rattle.nest.proofs.Ranks.{Unranked, unranked_start, unranked_more, unranked_left, unranked_end}
use Rattle.nest.proofs.loops.Loops.point_at.Goals as goal
use Rattle.nest.proofs.loops.Loops.point_at.Goals.{Start, After-extent_of-extent, After-loop-k, In-loop-k}

-- the loops and the point that is wanted
abbrev f : Start → ℕ → Limit
f d = limit_at d.args.self.now.lower.now d.args.self.now.upper.now

abbrev n : Start → ℕ
n d = length d.args.self.now.lower.now

abbrev J : Start → Vector
J d = get_or (points (limits_in d.args.self.now.lower.now d.args.self.now.upper.now)) d.args.rank []

-- the limits of loop i are not crossed
fine : (d : Start) (i : ℕ) → i < n d → crossed (f d i) ≡ false
fine d i h = any-tab-each crossed (f d) (n d) i d.args.self.now.limits h

pub loop-k-init : goal.loop-k-init
loop-k-init c = (c.requires.some, NatL.le_refl (n c), unranked_start (f c) (n c) c.args.rank c.args.self.now.lengths.0 c.requires.point)

-- in the loop: the turn is that of loop j, and the state before it
abbrev begun : In-loop-k → Start
begun c = c.before.before

abbrev j : In-loop-k → ℕ
j c = c.loop-k.k - 1

abbrev l : In-loop-k → Limit
l c = f (begun c) (j c)

below : (c : In-loop-k) → j c < n (begun c)
below c = let h = c.loop-k.invariant in let t = c.loop-k-test.true in omega (arith, h.0, h.1)

uncrossed_j : (c : In-loop-k) → crossed (l c) ≡ false
uncrossed_j c = fine (begun c) (j c) (below c)

state : (c : In-loop-k) → Unranked (f (begun c)) (n (begun c)) (J (begun c)) (suc (j c)) c.loop-k.rest c.loop-k.point
state c =
    let t = c.loop-k-test.true in
    let e : c.loop-k.k ≡ suc (j c) = omega arith in
    subst (λ k. Unranked (f (begun c)) (n (begun c)) (J (begun c)) k c.loop-k.rest c.loop-k.point) e c.loop-k.invariant.2

-- where its extent is known
abbrev in_turn : After-extent_of-extent → In-loop-k
in_turn c = c.before.before.before

gives : (c : After-extent_of-extent) → c.extent_of-extent.result ≡ extent (l (in_turn c))
gives c = c.extent_of-extent.ensures ∙ ap extent (read-limits (l (in_turn c)).lower (l (in_turn c)).upper (uncrossed_j (in_turn c)))

some : (c : After-extent_of-extent) → 0 < c.extent_of-extent.result
some c = rw (gives c) (some-index (l (in_turn c)) (uncrossed_j (in_turn c)))

lower_read : (c : In-loop-k) → reads (l c).lower ≡ (l c).lower
lower_read c = ap (λ (x : Limit). x.lower) (read-limits (l c).lower (l c).upper (uncrossed_j c))

pub extent_of-extent-requires : goal.extent_of-extent-requires
extent_of-extent-requires c =
    let d : In-loop-k = c.before.before in
    ap crossed (read-limits (l d).lower (l d).upper (uncrossed_j d)) ∙ uncrossed_j d

pub nonzero_rem-rest : goal.nonzero_rem-rest
nonzero_rem-rest c = some c.before

pub index_at-requires : goal.index_at-requires
index_at-requires c =
    let b = c.before in
    let d = in_turn b in
    let m = NatL.mod-lt d.loop-k.rest {m = b.extent_of-extent.result} (some b) in
    rw (lower_read d) ((uncrossed (l d).lower (l d).upper (uncrossed_j d)).lower_size, omega (arith, m, gives b, extent-within (l d).lower (l d).upper (uncrossed_j d)))

pub nonzero_div-rest : goal.nonzero_div-rest
nonzero_div-rest c = some c.before.before

pub loop-k-preserved : goal.loop-k-preserved
loop-k-preserved c =
    let b : After-extent_of-extent = c.before.before in
    let d = in_turn b in
    let s = begun d in
    let q = d.loop-k.rest % b.extent_of-extent.result in
    let t = d.loop-k-test.true in
    let e : reads c.index_at.result ≡ (l d).lower +ℤ pos q =
    told c.index_at.result c.index_at.type_inv ∙ c.index_at.ensures ∙ ap (λ (z : ℤ). z +ℤ pos q) (lower_read d) in
    (omega arith, omega (arith, below d), rw e (unranked_more (f s) (n s) (J s) (j d) d.loop-k.rest d.loop-k.point (state d) b.extent_of-extent.result (gives b) (rw (gives b) at (some b))))

-- behind the loop: the outermost one is left
last : (c : After-loop-k) → let s : Start = c.before.before in Unranked (f s) (n s) (J s) 1 c.loop-k.rest c.loop-k.point
last c =
    let s : Start = c.before.before in
    let e : c.loop-k.k ≡ 1 = let h = c.loop-k.invariant.0 in let t = c.loop-k-test.false in omega arith in
    subst (λ k. Unranked (f s) (n s) (J s) k c.loop-k.rest c.loop-k.point) e c.loop-k.invariant.2

first_fine : (s : Start) → crossed (f s 0) ≡ false
first_fine s = fine s 0 s.requires.some

first-read : (s : Start) → reads (f s 0).lower ≡ (f s 0).lower
first-read s = ap (λ (x : Limit). x.lower) (read-limits (f s 0).lower (f s 0).upper (first_fine s))

pub index_at-requires-2 : goal.index_at-requires-2
index_at-requires-2 c =
    let s : Start = c.before.before.before in
    let r = unranked_left (f s) (n s) (J s) c.loop-k.rest c.loop-k.point (last c.before) in
    rw (first-read s) ((uncrossed (f s 0).lower (f s 0).upper (first_fine s)).lower_size, omega (arith, r, extent-within (f s 0).lower (f s 0).upper (first_fine s)))

pub returns : goal.returns
returns c =
    let b : After-loop-k = c.before.before in
    let s : Start = b.before.before in
    let e : reads c.index_at-2.result ≡ (f s 0).lower +ℤ pos c.loop-k.rest =
    told c.index_at-2.result c.index_at-2.type_inv ∙ c.index_at-2.ensures ∙ ap (λ (z : ℤ). z +ℤ pos c.loop-k.rest) (first-read s) in
    rw e (unranked_end (f s) (n s) (J s) c.loop-k.rest c.loop-k.point (last b))
