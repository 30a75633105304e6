-- `check_header` meets its contract. Assumes nothing.
use Rattle.nest.specs.declared.LoopNest.{LoopNest}
use mir.Facts.{to_z-of_z}
use mathlib.Core.Path.{◌≡◌, sym, ◌∙◌, ap}
use mathlib.Core.List.{[], ◌∷◌}
use lib.IntN.{pos}
use Rattle.nest.specs.Nest.{max_depth, max_dependences, max_cube, nest_from}
use Rattle.nest.specs.Refusals.{outside, bad_depth, bad_count, bad_cube, number, holds, first_met}
use Rattle.nest.proofs.FirstMet.{met, passed}
use Rattle.nest.proofs.refusals.check_header.Goals as goal
use Rattle.nest.proofs.refusals.check_header.Goals.{After-is_outside, After-is_outside-2, After-is_outside-3, Else-is_outside, Else-is_outside-2, Start}

-- the nest that has these numbers
abbrev nest : Start → LoopNest
nest c = nest_from c.args.depth c.args.count c.args.cube [] [] [] [] [] []

-- what each test says
depth_test : (c : After-is_outside) → holds (nest c.before) bad_depth ≡ c.is_outside.result
unfolding holds
depth_test c = sym (c.is_outside.ensures ∙ ap (outside (pos 1) (pos max_depth)) (to_z-of_z c.ranges.depth))

count_test : (c : After-is_outside-2) → holds (nest c.before.before.before) bad_count ≡ c.is_outside-2.result
unfolding holds
count_test c = sym (c.is_outside-2.ensures ∙ ap (outside (pos 1) (pos max_dependences)) (to_z-of_z c.ranges.count))

cube_test : (c : After-is_outside-3) → holds (nest c.before.before.before.before.before) bad_cube ≡ c.is_outside-3.result
unfolding holds
cube_test c = sym (c.is_outside-3.ensures ∙ ap (outside (pos 0) (pos max_cube)) (to_z-of_z c.ranges.cube))

-- the depth, then the count, are passed
depth_passed : (c : Else-is_outside) → first_met (nest c.before.before) (bad_depth ∷ bad_count ∷ bad_cube ∷ []) ≡ first_met (nest c.before.before) (bad_count ∷ bad_cube ∷ [])
depth_passed c = passed (nest c.before.before) bad_depth (bad_count ∷ bad_cube ∷ []) (depth_test c.before ∙ c.if-is_outside.false)

count-passed : (c : Else-is_outside-2)
    → first_met (nest c.before.before.before.before) (bad_depth ∷ bad_count ∷ bad_cube ∷ []) ≡ first_met (nest c.before.before.before.before) (bad_cube ∷ [])
count-passed c = depth_passed c.before.before ∙ passed (nest c.before.before.before.before) bad_count (bad_cube ∷ []) (count_test c.before ∙ c.if-is_outside-2.false)

pub returns-then-is_outside : goal.returns-then-is_outside
unfolding number
returns-then-is_outside c = sym (met (nest c.before.before) bad_depth (bad_count ∷ bad_cube ∷ []) (depth_test c.before ∙ c.if-is_outside.true))

pub returns-then-is_outside-2 : goal.returns-then-is_outside-2
unfolding number
returns-then-is_outside-2 c = sym (depth_passed c.before.before ∙ met (nest c.before.before.before.before) bad_count (bad_cube ∷ []) (count_test c.before ∙ c.if-is_outside-2.true))

pub returns-then-is_outside-3 : goal.returns-then-is_outside-3
unfolding number
returns-then-is_outside-3 c = sym (count-passed c.before.before ∙ met (nest c.before.before.before.before.before.before) bad_cube [] (cube_test c.before ∙ c.if-is_outside-3.true))

pub returns : goal.returns
unfolding first_met
returns c = sym (count-passed c.before.before ∙ passed (nest c.before.before.before.before.before.before) bad_cube [] (cube_test c.before ∙ c.if-is_outside-3.false))
