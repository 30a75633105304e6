-- `difference` meets its contract. Assumes nothing.
use mathlib.Core.Path.{◌≡◌, sym, ◌∙◌, ap, ap₂}
use mathlib.Core.List.{List, [], ◌∷◌}
use mathlib.Core.Logic.{⊎_elim}
use Prim.Native.Nat.{ℕ, ◌+◌, ◌<◌, ◌≤◌}
use native.Mathlib.Nat.{zero-add}
use native.Mathlib.Omega.{arith}
use lib.IntN.{ℤ, pos, ◌-ℤ◌}
use lib.ListN.{length, get_or, set}
use borrow.Author.Rules.{rules}
use Rattle.integers.proofs.Machine.{Within, read}
use Rattle.integers.proofs.Solver.{var, ◌⊖◌}
use Rattle.nest.specs.Nest.{padded, max_depth, max_limit, max_component}
use Rattle.nest.specs.Points.{source}
use Rattle.nest.proofs.Padding.{part-whole}
use Rattle.nest.proofs.Sources.{source-none, source_more}
use Rattle.nest.proofs.Zipped.{Next, next, ended}
use Rattle.nest.proofs.source.difference.Goals as goal
use Rattle.nest.proofs.source.difference.Goals.{In-Some}

-- the turn, and the index and the component that it takes
abbrev k : In-Some → ℕ
k c = c.loop-k.k-iterator.count

index : (c : In-Some) → Next c.args.point.now (k c) c.in-Some.index.now c.next.new.self.iter.a.rest.now
index c = next c.args.point.now (k c) c.in-Some.index.now c.next.new.self.iter.a.rest.now c.loop-k.k-iterator.iter.a.rest.now c.loop-k.invariant.point c.in-Some.ensures.steps.0.0

component : (c : In-Some) → Next c.args.dependence.now (k c) c.in-Some.component.now c.next.new.self.iter.b.rest.now
component c =
    next c.args.dependence.now (k c) c.in-Some.component.now c.next.new.self.iter.b.rest.now c.loop-k.k-iterator.iter.b.rest.now c.loop-k.invariant.dependence c.in-Some.ensures.steps.0.1

-- the two numbers and their sizes
abbrev ρ : In-Some → List ℤ
ρ c = c.in-Some.index.now ∷ c.in-Some.component.now ∷ []

abbrev β : List ℕ
β = max_limit ∷ max_component ∷ []

sizes : (c : In-Some) → Within (ρ c) β
sizes c =
    let h = c.requires.by_index (k c) (index c).below in
    (rw ((index c).here (pos 0)) at h.0, (rw ((component c).here (pos 0)) at h.1, tt))

pub loop-k-init : goal.loop-k-init
loop-k-init c =
    let z : c.into_iter-k-iterator.result.count ≡ 0 = search rules in
    rw z record {
      passed = omega arith;
      point = search rules;
      dependence = search rules;
      source = sym (source-none c.args.point.now c.args.dependence.now 0);
    }

pub loop-k-preserved : goal.loop-k-preserved
loop-k-preserved c =
    let t : In-Some = c.before.before in
    let a = c.args in
    let s = c.in-Some.ensures.steps in
    let b = (index t).below in
    let d = read (ρ t) β (var 0 ⊖ var 1) (sizes t) tt in
    let e : c.in-Some.index.now -ℤ c.in-Some.component.now ≡ get_or a.point.now (k t) (pos 0) -ℤ get_or a.dependence.now (0 + k t) (pos 0) =
    sym (ap₂ (λ x y. x -ℤ y) ((index t).here (pos 0)) (ap (λ i. get_or a.dependence.now i (pos 0)) (zero-add (k t)) ∙ (component t).here (pos 0))) in
    let few : k t < max_depth = let n = c.requires.lengths.0 in omega arith in
    rw s.2 record {
      passed = omega arith;
      point = (index t).behind;
      dependence = (component t).behind;
      source =
          ap (set c.loop-k.source c.in-Some.k) (d ∙ e) ∙ ap₂ (λ l i. set l i (get_or a.point.now (k t) (pos 0) -ℤ get_or a.dependence.now (0 + k t) (pos 0))) c.loop-k.invariant.source s.1
          ∙ source_more a.point.now a.dependence.now 0 (k t) few;
    }

pub returns : goal.returns
returns c =
    let a = c.args in
    let i = c.loop-k.invariant in
    let it = c.loop-k.k-iterator in
    let n = c.requires.lengths.1 in
    let d : length a.point.now ≤ it.count =
    ⊎_elim (λ h. ended a.point.now it.count it.iter.a.rest.now i.point h.1.0) (λ h. rw n at (ended a.dependence.now it.count it.iter.b.rest.now i.dependence h.1.0)) c.in-None.ensures.steps.0 in
    let e : it.count ≡ length a.point.now = omega (arith, d, i.passed) in
    i.source ∙ ap (padded max_depth) (ap₂ source (part-whole it.count a.point.now (sym e)) (part-whole it.count a.dependence.now (n ∙ sym e)))
