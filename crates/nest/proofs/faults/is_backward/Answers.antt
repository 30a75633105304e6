-- `is_backward` meets its contract. Assumes nothing.
use mathlib.Core.Path.{◌≡◌, sym, ◌∙◌, ap}
use native.Mathlib.Omega.{arith}
use lib.IntN.{pos}
use lib.ListN.{length, get_or, drop}
use borrow.Author.Rules.{rules}
use mir.Facts.{to_z-of_z}
use mir.Syntax.{w64}
use mir.Val.{to_z, of_z}
use Rattle.std.specs.Prelude.{FitsSigned}
use Rattle.nest.specs.Refusals.{backward}
use Rattle.nest.proofs.Vectors.{backward-past, backward-here, backward-end}
use Rattle.nest.proofs.faults.is_backward.Goals as goal

pub returns-then-component-ne0 : goal.returns-then-component-ne0
returns-then-component-ne0 c =
    let v = c.args.dependence.now in
    let l = c.loop-component in
    let f : FitsSigned w64 (get_or v l.component-index (pos 0)) = search rules in
    rw (to_z-of_z f) (sym (l.invariant ∙ backward-here v l.component-index c.loop-component-test.true (λ e. c.if-component-ne0.true (ap (of_z w64) e))))

pub loop-component-preserved : goal.loop-component-preserved
loop-component-preserved c =
    let v = c.args.dependence.now in
    let l = c.loop-component in
    let f : FitsSigned w64 (get_or v l.component-index (pos 0)) = search rules in
    l.invariant ∙ backward-past v l.component-index c.loop-component-test.true (sym (to_z-of_z f) ∙ ap (to_z w64) c.if-component-ne0.false)

pub returns : goal.returns
returns c =
    let v = c.args.dependence.now in
    let l = c.loop-component in
    let e : l.component-index ≡ length v = omega arith in
    sym (l.invariant ∙ ap (λ k. backward (drop k v)) e ∙ backward-end v)
