-- The steps and receivers that were worked out by hand (specs/Examples.antt) are those of the definitions, by computation.
-- Assumes nothing.
use mathlib.Core.Path.{◌≡◌, refl}
use mathlib.Core.List.{[], ◌∷◌, map, flat_map}
use Rattle.integers.specs.Division.{floor_div}
use Rattle.integers.specs.Extremes.{least_z}
use Rattle.integers.specs.Lists.{any, all, first, place, firsts_after, firsts, count, repeats, tab, greatest, first_from}
use Rattle.integers.specs.Vector.{dots, plus, times, eq_z, eq_v, is_zero_v}
use Rattle.nest.specs.Nest.{to_ℕ, part, limits_of, time_of, dependences_of, padded, nest_of, empty_nest}
use Rattle.nest.specs.Points.{extent, indices, points, points_of, rank, is_point, source}
use Rattle.nest.specs.Sources.{source_rank}
use Rattle.grouping.specs.Projection.{projection, divides, makes_whole, multiplier, group_size}
use Rattle.grouping.specs.Grouping.{pivot, clear, remainder, may_group, grouping_vector, extend, chosen_vectors, chosen_count, latest, coefficients, left, is_combination, frame, directions}
use Rattle.grouping.specs.Grouping.{difference, same_class, coordinates, seeds, eq_g, quotients, class_number, group, blocks, block_number}
use Rattle.partition.specs.Partition.{distinct_products, step, step_number, elapsed, frame_of, groups_of, blocks_of, block_count}
use Rattle.partition.specs.Sending.{comes_from, has_source_in, sends_to, receives, receiver_count, most_receivers}
use Rattle.partition.specs.Examples.{square, cases, computed, by_hand, vector, nest_with, L1, L2, four, senders, row, row_blocks, counted}

pub steps_hold : map computed cases ≡ map by_hand cases
unfolding any firsts_after firsts count dots eq_z to_ℕ least_z distinct_products step step_number elapsed square cases computed by_hand
steps_hold = refl

-- the bound and the receivers of a row of four, in a table that is written out
pub row-holds : most_receivers row ∷ tab (receiver_count row row_blocks 3) 3 ≡ 3 ∷ 1 ∷ 1 ∷ 1 ∷ []
unfolding any all first place firsts_after firsts count repeats tab greatest first_from dots plus times eq_z eq_v is_zero_v floor_div to_ℕ part limits_of time_of dependences_of
    padded nest_of empty_nest extent indices points points_of rank is_point source source_rank projection divides makes_whole multiplier group_size pivot clear remainder
    may_group grouping_vector extend chosen_vectors chosen_count latest coefficients left is_combination frame directions difference same_class seeds class_number frame_of
    comes_from has_source_in sends_to receives receiver_count most_receivers vector nest_with row row_blocks flat_map
row-holds = refl

-- the bounds, and the receivers in the tables of the definitions
pub receivers_hold : map counted senders ≡ map (λ c. c.most ∷ c.receivers) senders
unfolding any all first place firsts_after firsts count repeats tab greatest first_from dots plus times eq_z eq_v is_zero_v floor_div to_ℕ part limits_of time_of dependences_of
    padded nest_of empty_nest extent indices points points_of rank is_point source source_rank projection divides makes_whole multiplier group_size pivot clear remainder
    may_group grouping_vector extend chosen_vectors chosen_count latest coefficients left is_combination frame directions difference same_class coordinates seeds eq_g
    quotients class_number group blocks block_number frame_of groups_of blocks_of block_count comes_from has_source_in sends_to receives receiver_count most_receivers vector
    nest_with L1 L2 four senders counted flat_map
receivers_hold = refl
