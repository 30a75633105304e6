-- `point_count` meets its contract. Assumes nothing.
use mathlib.Core.Path.{◌≡◌, refl, sym, ◌∙◌, ap, ap₂}
use mathlib.Core.Bool.{false}
use mathlib.Core.List.{[], ◌∷◌, ◌++◌}
use Prim.Native.Nat.{ℕ, ◌+◌, ◌*◌, ◌^◌, ◌≤◌, ◌-◌}
use native.Mathlib.Nat.{mul-le-mul}
use native.Mathlib.Omega.{arith}
use lib.IntN.{pos}
use lib.ListN.{length, get_or, length-append}
use borrow.Author.Rules.{rules}
use Rattle.integers.specs.Lists.{tab}
use Rattle.integers.proofs.Lists.{any-tab-each}
use Rattle.nest.specs.Nest.{limit_at, max_depth}
use Rattle.nest.specs.Points.{extent, point_count}
use Rattle.nest.specs.Refusals.{crossed}
use Rattle.nest.proofs.Conditions.{limit_of, read-limits}
use Rattle.nest.proofs.Counted.{max_extent, extent-within, count_low, point_count-more}
use Rattle.nest.proofs.Zipped.{Next, next}
use Rattle.nest.proofs.loops.Loops.point_count.Goals as goal
use Rattle.nest.proofs.loops.Loops.point_count.Goals.{In-Some, After-extent_of-total}

-- the turn, and the limits that it takes
abbrev k : In-Some → ℕ
k c = length c.loop-low.yielded

low : (c : In-Some) → Next c.args.self.now.lower.now (k c) c.in-Some.low.now c.next.new.self.a.rest.now
low c = next c.args.self.now.lower.now (k c) c.in-Some.low.now c.next.new.self.a.rest.now c.loop-low.low-iterator.a.rest.now c.loop-low.invariant.lower c.in-Some.ensures.steps.0

high : (c : In-Some) → Next c.args.self.now.upper.now (k c) c.in-Some.high.now c.next.new.self.b.rest.now
high c = next c.args.self.now.upper.now (k c) c.in-Some.high.now c.next.new.self.b.rest.now c.loop-low.low-iterator.b.rest.now c.loop-low.invariant.upper c.in-Some.ensures.steps.1

-- they are those of a loop that is not crossed
loop-fine : (c : In-Some) → crossed (limit_at c.args.self.now.lower.now c.args.self.now.upper.now (k c)) ≡ false
loop-fine c = any-tab-each crossed (limit_at c.args.self.now.lower.now c.args.self.now.upper.now) (length c.args.self.now.lower.now) (k c) c.args.self.now.limits (low c).below

taken : (c : In-Some) → limit_at c.args.self.now.lower.now c.args.self.now.upper.now (k c) ≡ limit_of c.in-Some.low.now c.in-Some.high.now
taken c = ap₂ limit_of ((low c).here (pos 0)) ((high c).here (pos 0))

fine : (c : In-Some) → crossed (limit_of c.in-Some.low.now c.in-Some.high.now) ≡ false
fine c = sym (ap crossed (taken c)) ∙ loop-fine c

-- its extent is what the call gives
gives : (c : After-extent_of-total) → c.extent_of-total.result ≡ extent (limit_at c.args.self.now.lower.now c.args.self.now.upper.now (length c.loop-low.yielded))
gives c =
    let t = c.before.before.before in
    c.extent_of-total.ensures ∙ ap extent (read-limits c.in-Some.low.now c.in-Some.high.now (fine t) ∙ sym (taken t))

pub extent_of-total-requires : goal.extent_of-total-requires
extent_of-total-requires c = ap crossed (read-limits c.in-Some.low.now c.in-Some.high.now (fine c.before.before)) ∙ fine c.before.before

pub overflow_mul-total : goal.overflow_mul-total
overflow_mul-total c =
    let a = c.args in
    let l = c.loop-low in
    let t = c.before.before.before in
    let n = length a.self.now.lower.now in
    let h : l.total ≤ max_extent ^ (max_depth - 1) = rw l.invariant.total (count_low a.self.now.lower.now a.self.now.upper.now n (k t) c.args.self.now.limits (low t).below c.args.self.now.lengths.0) in
    let g : c.extent_of-total.result ≤ max_extent = rw (gives c) (extent-within (get_or a.self.now.lower.now (k t) (pos 0)) (get_or a.self.now.upper.now (k t) (pos 0)) (loop-fine t)) in
    omega (arith, mul-le-mul h g)

pub loop-low-preserved : goal.loop-low-preserved
loop-low-preserved c =
    let a = c.args in
    let l = c.loop-low in
    let t = c.before.before.before in
    let f = limit_at a.self.now.lower.now a.self.now.upper.now in
    let more : length (l.yielded ++ ((c.in-Some.low, c.in-Some.high) ∷ [])) ≡ k t + 1 = length-append l.yielded ((c.in-Some.low, c.in-Some.high) ∷ []) in
    rw more record {
      passed = let b = (low t).below in omega arith;
      lower = (low t).behind;
      upper = (high t).behind;
      total = ap₂ (λ m n. m * n) l.invariant.total (gives c) ∙ sym (point_count-more f (k t));
    }

pub loop-low-init : goal.loop-low-init
unfolding point_count tab
loop-low-init c = record { passed = omega arith; lower = search rules; upper = search rules; total = refl }
