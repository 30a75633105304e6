-- `check_limits` meets its contract. Assumes nothing.
use lib.IntN.{pos}
use Rattle.nest.specs.declared.LoopNest.{LoopNest}
use mathlib.Core.Path.{◌≡◌, sym, ◌∙◌, ap}
use mathlib.Core.List.{[], ◌∷◌}
use lib.Dec.{ltb}
use borrow.Author.Tests.{lt-ltb, le-ltb}
use Rattle.std.proofs.lemmas.List.{length-take-le}
use Rattle.integers.specs.Lists.{any, tab}
use Rattle.nest.specs.Points.{point_count}
use Rattle.nest.specs.Nest.{limit_at, limits_of, max_iterations, nest_from, to_ℕ}
use Rattle.nest.specs.Refusals.{crossed, bad_limits, too_many_points, number, holds, first_met}
use Rattle.nest.proofs.FirstMet.{met, passed}
use Rattle.nest.proofs.Slices.{crossed-first, limits-first}
use Rattle.nest.proofs.refusals.check_limits.Goals as goal
use Rattle.nest.proofs.refusals.check_limits.Goals.{After-any_crossed, After-point_count, Else-any_crossed, Start}

-- the nest that has these limits
abbrev nest : Start → LoopNest
nest c = nest_from (pos c.args.n) (pos 0) (pos 0) c.args.lower.now c.args.upper.now [] [] [] []

-- what each test says, of the slices of the limits
first_crossed : (c : After-any_crossed) → c.any_crossed.result ≡ any crossed (tab (limit_at c.args.lower.now c.args.upper.now) c.args.n)
first_crossed c = c.any_crossed.ensures ∙ crossed-first c.args.lower.now c.args.upper.now c.args.n c.requires.1 c.requires.2

crossed_test : (c : After-any_crossed) → holds (nest c.before) bad_limits ≡ c.any_crossed.result
unfolding holds limits_of to_ℕ
crossed_test c = sym (first_crossed c)

count_test : (c : After-point_count) → holds (nest (goal.at.After-point_count c).Start) too_many_points ≡ ltb max_iterations c.point_count.result
unfolding holds limits_of to_ℕ
count_test c = ap (ltb max_iterations) (sym (c.point_count.ensures ∙ ap point_count (limits-first c.args.lower.now c.args.upper.now c.args.n c.requires.1)))

-- the limits are passed
limits-passed : (c : Else-any_crossed) → first_met (nest c.before.before) (bad_limits ∷ too_many_points ∷ []) ≡ first_met (nest c.before.before) (too_many_points ∷ [])
limits-passed c = passed (nest c.before.before) bad_limits (too_many_points ∷ []) (crossed_test c.before ∙ c.if-any_crossed.false)

pub returns-then-any_crossed : goal.returns-then-any_crossed
unfolding number
returns-then-any_crossed c = sym (met (nest c.before.before) bad_limits (too_many_points ∷ []) (crossed_test c.before ∙ c.if-any_crossed.true))

pub invariant_of-loops : goal.invariant_of-loops
invariant_of-loops c =
    let a = c.args in
    let p = c.requires in
    let l = length-take-le a.n a.lower.now p.1 in
    let u = length-take-le a.n a.upper.now p.2 in
    record {
      lengths = (rw l p.0, u ∙ sym l);
      limits = ap (any crossed) (limits-first a.lower.now a.upper.now a.n p.1) ∙ sym (first_crossed c.before) ∙ c.if-any_crossed.false;
    }

pub returns-then-point_count : goal.returns-then-point_count
unfolding number
returns-then-point_count c =
    sym
    (limits-passed (goal.at.returns-then-point_count c).Else-any_crossed
    ∙ met (nest (goal.at.returns-then-point_count c).Start) too_many_points [] (count_test c.before ∙ lt-ltb max_iterations c.point_count.result c.if-point_count.true))

pub returns : goal.returns
unfolding first_met
returns c =
    sym
    (limits-passed (goal.at.returns c).Else-any_crossed
    ∙ passed (nest (goal.at.returns c).Start) too_many_points [] (count_test c.before ∙ le-ltb max_iterations c.point_count.result c.if-point_count.false))
