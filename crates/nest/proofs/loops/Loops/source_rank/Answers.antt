-- `source_rank` meets its contract. Assumes nothing.
use mathlib.Core.Path.{◌≡◌, sym, ◌∙◌, ap, subst}
use mathlib.Core.Bool.{false}
use mathlib.Core.List.{List, [], ◌∷◌}
use Prim.Native.Nat.{ℕ, suc, ◌+◌, ◌*◌, ◌-◌, ◌/◌, ◌%◌, ◌<◌, ◌≤◌}
use native.Mathlib.Nat as NatL
use native.Mathlib.Omega.{arith}
use lib.IntN.{ℤ, pos, nat_abs, ◌+ℤ◌, ◌-ℤ◌}
use lib.ListN.{length, get_or}
use Rattle.integers.proofs.Bounds.{told, abs-+}
use Rattle.integers.specs.Lists.{tab}
use Rattle.integers.proofs.Lists.{any-tab-each}
use Rattle.integers.proofs.Machine.{reads, Given, fits_g, read_g}
use Rattle.integers.proofs.Solver.{var, ◌⊖◌}
use Rattle.integers.specs.Vector.{Vector}
use Rattle.nest.specs.Nest.{Limit, to_ℕ, limit_at, max_limit, max_iterations, max_component}
use Rattle.nest.specs.Points.{extent, points, point_count, place_of}
use Rattle.nest.specs.Refusals.{outside, crossed}
use Rattle.nest.proofs.Accepted.{some-index}
use Rattle.nest.proofs.Conditions.{read-limits, in_span, uncrossed}
use Rattle.nest.proofs.Counted.{extent-within}
use Rattle.nest.proofs.Ranks.{Within, place_beyond}
use Rattle.nest.proofs.SourceRanks.{Led, led_start, index-there, led_more, Behind, behind-start, behind_more, behind-below, behind_place, source-listed, point-long}
use Rattle.nest.proofs.loops.Loops.source_rank.Invariants.{less_at, point_at}
use Rattle.nest.proofs.loops.Loops.source_rank.Goals as goal
use Rattle.nest.proofs.loops.Loops.source_rank.Goals.{After-distance, After-extent_of-extent, After-index-1, After-is_outside, Else-is_outside, In-loop-k, Start}

-- the loops, the point and the source
abbrev f : Start → ℕ → Limit
f s = limit_at s.args.self.now.lower.now s.args.self.now.upper.now

abbrev J : Start → Vector
J s = point_at s.args.self.now.lower.now s.args.self.now.upper.now s.args.iteration

abbrev g : Start → ℕ → ℤ
g s = less_at (J s) s.args.dependence.now

abbrev n : Start → ℕ
n s = length s.args.self.now.lower.now

is_one : (s : Start) → s.args.iteration < point_count (tab (f s) (n s))
is_one s = s.requires.limits.1

-- in the loop: the turn is that of loop j, and the state before it
abbrev In : Type 0
In = In-loop-k

abbrev start : In → Start
start c = c.before.before

abbrev j : In → ℕ
j c = c.loop-k.k - 1

below : (c : In) → j c < n (start c)
below c = let h = c.loop-k.invariant.0 in let t = c.loop-k-test.true in omega arith

turn : (c : In) → c.loop-k.k ≡ suc (j c)
turn c = let t = c.loop-k-test.true in omega arith

led : (c : In) → Led (f (start c)) (J (start c)) (suc (j c)) c.loop-k.rest
led c = let l = c.loop-k in subst (λ k. Led (f (start c)) (J (start c)) k l.rest) (turn c) l.invariant.1

behind : (c : In) → Behind (f (start c)) (g (start c)) (n (start c)) (suc (j c)) c.loop-k.stride c.loop-k.at
behind c = let l = c.loop-k in subst (λ k. Behind (f (start c)) (g (start c)) (n (start c)) k l.stride l.at) (turn c) l.invariant.2

fine : (c : In) → crossed (f (start c) (j c)) ≡ false
fine c = let s = start c in any-tab-each crossed (f s) (n s) (j c) s.args.self.now.limits (below c)

-- where its extent is known
abbrev Known : Type 0
Known = After-extent_of-extent

abbrev in_turn : Known → In
in_turn c = c.before.before.before

abbrev loop_j : Known → Limit
loop_j c = f (start (in_turn c)) (j (in_turn c))

low-is : (c : Known) → reads (loop_j c).lower ≡ (loop_j c).lower
low-is c = ap (λ (x : Limit). x.lower) (read-limits (loop_j c).lower (loop_j c).upper (fine (in_turn c)))

high_is : (c : Known) → reads (loop_j c).upper ≡ (loop_j c).upper
high_is c = ap (λ (x : Limit). x.upper) (read-limits (loop_j c).lower (loop_j c).upper (fine (in_turn c)))

gives : (c : Known) → c.extent_of-extent.result ≡ extent (loop_j c)
gives c = rw (low-is c, high_is c) at c.extent_of-extent.ensures

some : (c : Known) → 0 < c.extent_of-extent.result
some c = let h = some-index (loop_j c) (fine (in_turn c)) in subst (λ m. 0 < m) (sym (gives c)) h

place-below : (c : Known) → (in_turn c).loop-k.rest % c.extent_of-extent.result ≤ max_iterations
place-below c =
    let m = NatL.mod-lt (in_turn c).loop-k.rest {m = c.extent_of-extent.result} (some c) in
    omega (arith, m, gives c, extent-within (loop_j c).lower (loop_j c).upper (fine (in_turn c)))

-- where the source's index is worked out
abbrev At : Type 0
At = After-index-1

abbrev known : At → Known
known c = c.before.before

abbrev turn_at : At → In
turn_at c = in_turn (known c)

index_is : (c : At) → c.index_at.result ≡ get_or (J (start (turn_at c))) (j (turn_at c)) (pos 0)
index_is c =
    let k = known c in
    let d = turn_at c in
    let s = start d in
    let l = d.loop-k in
    c.index_at.ensures ∙ ap (λ (z : ℤ). z +ℤ pos (l.rest % k.extent_of-extent.result)) (low-is k)
    ∙ sym (index-there (f s) (J s) (j d) l.rest (led d) k.extent_of-extent.result (gives k) (some k))

index-size : (c : At) → nat_abs (get_or (J (start (turn_at c))) (j (turn_at c)) (pos 0)) ≤ max_limit + max_iterations
index-size c =
    let k = known c in
    let l = loop_j k in
    let q = (turn_at c).loop-k.rest % k.extent_of-extent.result in
    let e = ap nat_abs (sym (index_is c) ∙ c.index_at.ensures ∙ ap (λ (z : ℤ). z +ℤ pos q) (low-is k)) in
    let u = uncrossed l.lower l.upper (fine (turn_at c)) in
    let b = abs-+ l.lower (pos q) u.lower_size (place-below k) in
    omega (arith, e, b)

-- what the machine reads, the numbers, and their bounds
abbrev component : At → ℤ
component c = let a = (start (turn_at c)).args in get_or a.dependence.now (j (turn_at c)) (pos 0)

abbrev μ : At → List ℤ
μ c = reads c.index_at.result ∷ reads (component c) ∷ []

abbrev ρ : At → List ℤ
ρ c = get_or (J (start (turn_at c))) (j (turn_at c)) (pos 0) ∷ component c ∷ []

abbrev β : List ℕ
β = (max_limit + max_iterations) ∷ max_component ∷ []

given : (c : At) → Given (μ c) (ρ c) β
given c = (
  (told c.index_at.result c.index_at.type_inv ∙ index_is c, index-size c),
  ((told (component c) c.index-1.given, (start (turn_at c)).requires.by_index (j (turn_at c)) (rw (start (turn_at c)).requires.lengths (below (turn_at c)))), tt),
)

less-is : (c : At) → reads (reads c.index_at.result -ℤ reads (component c)) ≡ g (start (turn_at c)) (j (turn_at c))
less-is c = read_g (μ c) (ρ c) β (var 0 ⊖ var 1) (given c) tt

-- what the test says
test : (c : After-is_outside) → c.is_outside.result ≡ outside (loop_j (known c.before)).lower (loop_j (known c.before)).upper (g (start (turn_at c.before)) (j (turn_at c.before)))
test c = rw (low-is (known c.before), high_is (known c.before), less-is c.before) at c.is_outside.ensures

-- where it fails the index is within the limits
within : (c : Else-is_outside) → Within (loop_j (known c.before.before)) (g (start (turn_at c.before.before)) (j (turn_at c.before.before)))
within c =
    let a = c in
    let l = loop_j (known a.before.before) in
    in_span l.lower l.upper (g (start (turn_at a.before.before)) (j (turn_at a.before.before))) (sym (test c.before) ∙ c.if-is_outside.false)

-- where its distance is known: the state behind the turn
abbrev Far : Type 0
Far = After-distance

abbrev at_of : Far → At
at_of c = c.before.before.before

abbrev D : Far → ℕ
D c = let d = turn_at (at_of c) in to_ℕ (g (start d) (j d) -ℤ (f (start d) (j d)).lower)

far-is : (c : Far) → c.distance.result ≡ D c
far-is c = rw (low-is (known (at_of c)), less-is (at_of c)) at c.distance.ensures

next_behind : (c : Far) → let d = turn_at (at_of c) in let l = d.loop-k in
    Behind (f (start d)) (g (start d)) (n (start d)) (j d) (l.stride * (known (at_of c)).extent_of-extent.result) (l.at + c.distance.result * l.stride)
next_behind c =
    let d = turn_at (at_of c) in
    let s = start d in
    let l = d.loop-k in
    subst (λ m. Behind (f s) (g s) (n s) (j d) (l.stride * m) (l.at + c.distance.result * l.stride)) (sym (gives (known (at_of c))))
    (subst (λ m. Behind (f s) (g s) (n s) (j d) (l.stride * extent (f s (j d))) (l.at + m * l.stride)) (sym (far-is c))
    (behind_more (f s) (g s) (n s) (j d) l.stride l.at (below d) (behind d) (within c.before)))

next_led : (c : Far) → let d = turn_at (at_of c) in Led (f (start d)) (J (start d)) (j d) (d.loop-k.rest / (known (at_of c)).extent_of-extent.result)
next_led c =
    let k = known (at_of c) in
    let d = turn_at (at_of c) in
    led_more (f (start d)) (J (start d)) (j d) d.loop-k.rest (led d) k.extent_of-extent.result (gives k) (some k)

-- the numbers are small
next_small : (c : Far) → let l = (turn_at (at_of c)).loop-k in
    (l.at + c.distance.result * l.stride < l.stride * (known (at_of c)).extent_of-extent.result) × (l.stride * (known (at_of c)).extent_of-extent.result ≤ max_iterations)
next_small c =
    let d = turn_at (at_of c) in
    let s = start d in
    let l = d.loop-k in
    let h = (next_led c).below in
    let b =
    behind-below (f s) (g s) (n s) (j d) (l.stride * (known (at_of c)).extent_of-extent.result) (l.at + c.distance.result * l.stride) (next_behind c) (omega (arith, h)) in
    let p = s.requires.limits in
    (b.0, omega (arith, b.1, p.0))

pub loop-k-init : goal.loop-k-init
loop-k-init c = (NatL.le_refl (n c), led_start (f c) (n c) c.args.iteration (is_one c), behind-start (f c) (g c) (n c))

pub extent_of-extent-requires : goal.extent_of-extent-requires
extent_of-extent-requires c =
    let d = c in
    let l = f (start d.before.before) (j d.before.before) in
    rw (told l.lower c.low-1.given, told l.upper c.high-1.given) (fine d.before.before)

pub nonzero_rem-rest : goal.nonzero_rem-rest
nonzero_rem-rest c = some c

pub index_at-requires : goal.index_at-requires
index_at-requires c =
    let l = loop_j c in
    (rw (low-is c) (uncrossed l.lower l.upper (fine (in_turn c))).lower_size, place-below c)

pub overflow_sub-index : goal.overflow_sub-index
overflow_sub-index c = fits_g (μ c) (ρ c) β (var 0 ⊖ var 1) (given c) tt

pub returns-then-is_outside : goal.returns-then-is_outside
returns-then-is_outside c =
    let d = turn_at c.before.before in
    let s = start d in
    let a = s.args in
    sym (place_beyond (f s) (g s) (n s) (j d) (below d) (sym (test c.before) ∙ c.if-is_outside.true))
    ∙ ap (place_of (points (tab (f s) (n s)))) (source-listed a.dependence.now (n s) (J s) (point-long (f s) (n s) a.iteration (is_one s)) s.requires.lengths)

pub distance-requires : goal.distance-requires
distance-requires c =
    let a = c in
    let k = known a.before.before in
    rw (low-is k, less-is a.before.before) (within c).0

pub overflow_mul-at : goal.overflow_mul-at
overflow_mul-at c = let s = next_small c in omega (arith, s.0, s.1)

pub overflow_add-at : goal.overflow_add-at
overflow_add-at c = let s = next_small c in omega (arith, s.0, s.1)

pub overflow_mul-stride : goal.overflow_mul-stride
overflow_mul-stride c = let s = next_small c in omega (arith, s.1)

pub nonzero_div-rest : goal.nonzero_div-rest
nonzero_div-rest c = some (known (at_of c))

pub loop-k-preserved : goal.loop-k-preserved
loop-k-preserved c = let h = below (turn_at (at_of c)) in (omega arith, next_led c, next_behind c)

pub returns : goal.returns
returns c =
    let s : Start = c.before.before in
    let l = c.loop-k in
    let e : l.k ≡ 0 = let t = c.loop-k-test.false in omega arith in
    behind_place (f s) s.args.dependence.now (n s) (J s) l.stride l.at (point-long (f s) (n s) s.args.iteration (is_one s)) s.requires.lengths
    (subst (λ k. Behind (f s) (g s) (n s) k l.stride l.at) e l.invariant.2)
