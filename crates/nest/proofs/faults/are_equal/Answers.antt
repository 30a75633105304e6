-- `are_equal` meets its contract. Assumes nothing.
use mathlib.Core.Path.{◌≡◌, refl, sym, ◌∙◌, ap}
use Prim.Native.Nat.{◌<◌}
use native.Mathlib.Omega.{arith}
use lib.IntN.{pos}
use lib.ListN.{length, get_or, drop}
use borrow.Author.Rules.{rules}
use mir.Syntax.{w64}
use mir.Val.{to_z, of_z}
use Rattle.integers.proofs.Machine.{reads}
use Rattle.integers.proofs.Vector.{eq_v_other}
use Rattle.integers.specs.Vector.{eq_v}
use Rattle.nest.proofs.Vectors.{equal-past, equal-here, equal-end}
use Rattle.nest.proofs.faults.are_equal.Goals as goal
use Rattle.nest.proofs.faults.are_equal.Goals.{In-loop-k}

-- the place is in both
second : (c : In-loop-k) → c.loop-k.k < length c.args.b.now
second c = omega (arith, c.if-a-b.false, c.loop-k-test.true)

pub returns-then-a-b : goal.returns-then-a-b
returns-then-a-b c = sym (eq_v_other c.args.a.now c.args.b.now (λ e. c.if-a-b.true (ap length e)))

pub loop-k-init : goal.loop-k-init
loop-k-init c = refl

pub returns-then-x-b : goal.returns-then-x-b
returns-then-x-b c =
    let t = (goal.at.returns-then-x-b c).In-loop-k in
    sym (c.loop-k.invariant ∙ equal-here c.args.a.now c.args.b.now c.loop-k.k c.loop-k-test.true (second t) (λ e. c.if-x-b.true (ap (of_z w64) e)))

pub loop-k-preserved : goal.loop-k-preserved
loop-k-preserved c =
    let t = (goal.at.loop-k-preserved c).In-loop-k in
    let x : reads (get_or c.args.a.now c.loop-k.k (pos 0)) ≡ get_or c.args.a.now c.loop-k.k (pos 0) = search rules in
    let y : reads (get_or c.args.b.now c.loop-k.k (pos 0)) ≡ get_or c.args.b.now c.loop-k.k (pos 0) = search rules in
    c.loop-k.invariant ∙ equal-past c.args.a.now c.args.b.now c.loop-k.k c.loop-k-test.true (second t) (sym x ∙ ap (to_z w64) c.if-x-b.false ∙ y)

pub returns : goal.returns
returns c =
    let v = c.args.a.now in
    let w = c.args.b.now in
    let e : c.loop-k.k ≡ length v = omega (arith, c.loop-k.auto.k-end, c.loop-k-test.false) in
    sym (c.loop-k.invariant ∙ ap (λ k. eq_v (drop k v) (drop k w)) e ∙ equal-end v w c.if-a-b.false)
