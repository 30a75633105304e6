-- Serves as an example: the values of a small nest whose two dependences have each its own boundary
-- value (document 02, U1), worked out by hand; `values_are` checks them on the definitions, by
-- computation.
-- Assumes nothing.
use Rattle.std.specs.Prelude.{◌≡◌, refl, pos}
use mathlib.Core.List.{[], ◌∷◌, zip_with, flat_map}
use Rattle.integers.specs.Lists.{any, place, tab, total}
use Rattle.integers.specs.Vector.{plus, times, eq_z, eq_v}
use Rattle.nest.specs.declared.LoopNest.{LoopNest}
use Rattle.nest.specs.Nest.{to_ℕ, part, limits_of, dependences_of, boundaries_of, weights_of, padded, nest_of}
use Rattle.nest.specs.Points.{extent, indices, points, points_of, rank, is_point, source}
use Rattle.nest.specs.Sources.{source_rank}
use Rattle.sequential.specs.Sequential.{source_value, value_of, loop, sequential, weighted_sum, rule_of, values_of}

-- 2 x 2 iterations. Along (0,1) the boundary value is 5 and the weight 2, along (1,0) 7 and 3.
unfoldable pub square : LoopNest
square = nest_of (pos 0)
    (record { lower = pos 0; upper = pos 1 } ∷ record { lower = pos 0; upper = pos 1 } ∷ [])
    (pos 1 ∷ pos 1 ∷ [])
    ((pos 0 ∷ pos 1 ∷ []) ∷ (pos 1 ∷ pos 0 ∷ []) ∷ [])
    (pos 5 ∷ pos 7 ∷ [])
    (pos 2 ∷ pos 3 ∷ [])

-- (0,0), rank 0: both sources are outside, each along its own dependence: 0 + 2 × 5 + 3 × 7 = 31.
-- (0,1), rank 1: its source (0,0) is inside, (-1,1) outside: 1 + 2 × 31 + 3 × 7 = 84. The 7 is that
-- of the second dependence, although its source is the first that is missing.
-- (1,0), rank 2: (1,-1) is outside, (0,0) inside: 2 + 2 × 5 + 3 × 31 = 105.
-- (1,1), rank 3: (1,0) and (0,1) are inside: 3 + 2 × 105 + 3 × 84 = 465.
pub values_are : values_of square ≡ 31 ∷ 84 ∷ 105 ∷ 465 ∷ []
unfolding any place tab total plus times eq_z eq_v to_ℕ part limits_of dependences_of boundaries_of weights_of padded
    nest_of extent indices points points_of rank is_point source source_rank source_value value_of loop sequential
    weighted_sum rule_of values_of square zip_with flat_map
values_are = refl
