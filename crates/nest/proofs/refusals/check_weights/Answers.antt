-- `check_weights` meets its contract. Assumes nothing.
use Rattle.nest.specs.declared.LoopNest.{LoopNest}
use mathlib.Core.Path.{◌≡◌, sym, ◌∙◌, ap}
use mathlib.Core.Bool.{◌||◌}
use mathlib.Core.List.{[]}
use lib.IntN.{pos}
use Rattle.integers.specs.Lists.{any}
use Rattle.integers.proofs.Lists.{or_left, or_right}
use Rattle.nest.specs.Nest.{boundaries_of, weights_of, max_boundary, max_weight, nest_from, to_ℕ}
use Rattle.nest.specs.Refusals.{outside, bad_weight, number, holds, first_met}
use Rattle.nest.proofs.FirstMet.{met, passed}
use Rattle.nest.proofs.Slices.{any-first}
use Rattle.nest.proofs.refusals.check_weights.Goals as goal
use Rattle.nest.proofs.refusals.check_weights.Goals.{After-any_outside, After-any_outside-2, Start}

-- the nest that has these numbers
abbrev nest : Start → LoopNest
nest c = nest_from (pos 0) (pos c.args.m) (pos 0) [] [] [] [] c.args.boundaries.now c.args.weights.now

-- what each test says
boundaries_test : (c : After-any_outside) → any (outside (pos 0) (pos max_boundary)) (boundaries_of (nest c.before)) ≡ c.any_outside.result
unfolding boundaries_of to_ℕ
boundaries_test c = sym (c.any_outside.ensures ∙ any-first (outside (pos 0) (pos max_boundary)) c.args.boundaries.now c.args.m c.requires.0)

weights_test : (c : After-any_outside-2) → any (outside (pos 0) (pos max_weight)) (weights_of (nest c.before.before.before)) ≡ c.any_outside-2.result
unfolding weights_of to_ℕ
weights_test c = sym (c.any_outside-2.ensures ∙ any-first (outside (pos 0) (pos max_weight)) c.args.weights.now c.args.m c.requires.1)

pub returns-then-any_outside : goal.returns-then-any_outside
unfolding number holds
returns-then-any_outside c =
    let s = nest c.before.before in
    sym
    (met s bad_weight []
    (or_left (any (outside (pos 0) (pos max_boundary)) (boundaries_of s)) (any (outside (pos 0) (pos max_weight)) (weights_of s)) (boundaries_test c.before ∙ c.if-any_outside.true)))

pub returns-then-any_outside-2 : goal.returns-then-any_outside-2
unfolding number holds
returns-then-any_outside-2 c =
    let s = nest c.before.before.before.before in
    sym
    (met s bad_weight []
    (or_right (any (outside (pos 0) (pos max_boundary)) (boundaries_of s)) (any (outside (pos 0) (pos max_weight)) (weights_of s)) (weights_test c.before ∙ c.if-any_outside-2.true)))

pub returns : goal.returns
unfolding first_met holds
returns c =
    let s = nest c.before.before.before.before in
    let e = boundaries_test c.before.before.before ∙ c.if-any_outside.false in
    sym (passed s bad_weight [] (ap (λ b. b || any (outside (pos 0) (pos max_weight)) (weights_of s)) e ∙ weights_test c.before ∙ c.if-any_outside-2.false))
