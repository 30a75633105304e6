-- Serves as an example: document 01's listing (P2) run move by move, computed on the definitions,
-- refused moves of every kind among them, to the sequential table. The buffers have an entry behind
-- the last iteration, which stays as it is.
-- Assumes nothing.
use Rattle.std.specs.Prelude.{◌≡◌, refl, ℕ}
use mathlib.Core.List.{List, [], ◌∷◌, flat_map, zip_with}
use Rattle.integers.specs.Lists.{any, all, first, place, firsts_after, firsts, count, repeats, tab, greatest}
use Rattle.integers.specs.Lists.{first_from, total}
use Rattle.integers.specs.Vector.{dots, plus, times, eq_z, eq_v, is_zero_v}
use Rattle.integers.specs.Division.{floor_div}
use Rattle.nest.specs.Nest.{to_ℕ, part, limits_of, time_of, dependences_of, boundaries_of, weights_of, padded, nest_of}
use Rattle.nest.specs.Points.{extent, indices, points, points_of, point_count, rank, is_point, source}
use Rattle.nest.specs.Refusals.{number, outside, crossed, out_of_span, backward, against, holds, first_met}
use Rattle.nest.specs.Refusals.{refusal, or_else, short_buffer}
use Rattle.nest.specs.Sources.{source_rank}
use Rattle.grouping.specs.Projection.{projection, divides, makes_whole, multiplier, group_size}
use Rattle.integers.specs.Extremes.{least_z, greatest_z}
use Rattle.partition.specs.Partition.{distinct_products, step, steps_of, frame_of, groups_of}
use Rattle.grouping.specs.Grouping.{pivot, clear, remainder, may_group, grouping_vector, extend, chosen_vectors, latest}
use Rattle.grouping.specs.Grouping.{coefficients, left, is_combination, frame, directions, difference, same_class}
use Rattle.grouping.specs.Grouping.{coordinates, seeds, eq_g, quotients, class_number, group, blocks, block_number}
use Rattle.mapping.specs.Mapping.{order_in, direction_in, undealt_in, takes_bit, with_bit as dealtBit, no_direction}
use Rattle.mapping.specs.Mapping.{next_turn}
use Rattle.mapping.specs.Mapping.{deal_bit, deal_bits, dealt, gray, part_of, joined, processor, directions_of}
use Rattle.mapping.specs.Mapping.{processors_of}
use Rattle.mapping.specs.Mapping.{crosses, is_message}
use Rattle.sequential.specs.Sequential.{source_value, value_of, weighted_sum, rule_of}
use Rattle.partition.specs.Examples.{vector}
use Rattle.planner.specs.Examples.{listed_with, listed}
use Rattle.execution.specs.Rules.{every, better, least, Move, compute, deliver, Layout, taking, delivering}
use Rattle.execution.specs.Rules.{effect}
use Rattle.execution.specs.Machine.{layout_of, reference_answers, allowed_count}
use Rattle.execution.specs.Run.{State, move_refusal, move_effect, run, answers}

-- the planner's tables, with an entry behind them
abbrev pub example_layout : Layout
example_layout = record { steps = 0 ∷ 1 ∷ 2 ∷ 1 ∷ 2 ∷ 3 ∷ 8 ∷ []; processors = 0 ∷ 0 ∷ 1 ∷ 0 ∷ 0 ∷ 0 ∷ 200 ∷ [] }

-- they are those of the nest
pub example_steps : steps_of listed ≡ 0 ∷ 1 ∷ 2 ∷ 1 ∷ 2 ∷ 3 ∷ []
unfolding steps_of any firsts_after firsts count tab dots eq_z to_ℕ part limits_of time_of padded nest_of extent indices
    points points_of distinct_products step vector listed_with listed flat_map
example_steps = refl

pub example_processors : processors_of listed ≡ 0 ∷ 0 ∷ 1 ∷ 0 ∷ 0 ∷ 0 ∷ []
unfolding any all first place firsts_after firsts count repeats tab greatest first_from dots plus times eq_z eq_v
    is_zero_v floor_div to_ℕ part limits_of time_of dependences_of padded nest_of extent indices points points_of rank
    is_point source projection divides makes_whole multiplier group_size least_z step pivot clear remainder may_group
    grouping_vector extend chosen_vectors latest coefficients left is_combination frame directions difference same_class
    coordinates seeds eq_g quotients class_number group blocks block_number frame_of groups_of order_in greatest_z
    direction_in undealt_in takes_bit dealtBit no_direction next_turn deal_bit deal_bits dealt gray part_of joined
    processor
    directions_of processors_of vector listed_with listed flat_map
example_processors = refl

-- fresh: done and delivered bytes of the iterations are 0
abbrev pub example_state : State ℕ
example_state = record {
  values = 9 ∷ 9 ∷ 9 ∷ 9 ∷ 9 ∷ 9 ∷ 44 ∷ [];
  done = 0 ∷ 0 ∷ 0 ∷ 0 ∷ 0 ∷ 0 ∷ 7 ∷ [];
  delivered = 0 ∷ 0 ∷ 0 ∷ 0 ∷ 0 ∷ 0 ∷ 255 ∷ [];
}

-- refused moves of every kind among them
abbrev pub example_moves : List Move
example_moves =
    compute 1 ∷ compute 0 ∷ compute 2 ∷ compute 0 ∷ compute 1 ∷ deliver 2 0 ∷ deliver 2 0 ∷ compute 1 ∷ compute 1
    ∷ deliver 6 0 ∷ deliver 2 1
    ∷ compute 0 ∷ compute 0 ∷ compute 0 ∷ deliver 5 1 ∷ compute 0 ∷ compute 0 ∷ deliver 0 2 ∷ []

-- what they are answered
abbrev pub example_answers : List ℕ
example_answers = 15 ∷ 0 ∷ 18 ∷ 0 ∷ 15 ∷ 0 ∷ 16 ∷ 0 ∷ 17 ∷ 18 ∷ 16 ∷ 0 ∷ 0 ∷ 15 ∷ 0 ∷ 0 ∷ 17 ∷ 18 ∷ []

-- six iterations and two messages
pub example_allowed : allowed_count example_answers ≡ 8
unfolding count
example_allowed = refl

-- the run on the tables answers these numbers
pub example_answers_lem : answers (rule_of listed) listed example_layout example_state example_moves ≡ example_answers
unfolding any place count tab dots plus times eq_z eq_v to_ℕ part limits_of time_of dependences_of boundaries_of
    weights_of
    padded nest_of extent indices points points_of point_count rank is_point source number outside crossed out_of_span
    backward against holds first_met refusal repeats or_else short_buffer source_rank crosses is_message source_value
    value_of total weighted_sum rule_of vector listed_with listed flat_map zip_with every better least taking delivering
    effect move_refusal move_effect
example_answers_lem = refl

-- and ends with the sequential table; what stood behind the last iteration is there
pub example_run : run (rule_of listed) listed example_layout example_state example_moves ≡ record {
  values = 5 ∷ 14 ∷ 33 ∷ 20 ∷ 86 ∷ 276 ∷ 44 ∷ [];
  done = 1 ∷ 1 ∷ 1 ∷ 1 ∷ 1 ∷ 1 ∷ 7 ∷ [];
  delivered = 0 ∷ 0 ∷ 1 ∷ 0 ∷ 0 ∷ 2 ∷ 255 ∷ [];
}
unfolding any place count tab dots plus times eq_z eq_v to_ℕ part limits_of time_of dependences_of boundaries_of
    weights_of
    padded nest_of extent indices points points_of point_count rank is_point source number outside crossed out_of_span
    backward against holds first_met refusal repeats or_else short_buffer source_rank crosses is_message source_value
    value_of total weighted_sum rule_of vector listed_with listed flat_map zip_with every better least taking delivering
    effect move_refusal move_effect
example_run = refl

-- the reference machine, fed the nest and the moves, answers them too
pub example_reference : reference_answers listed (layout_of listed) example_moves ≡ example_answers
unfolding any all first place firsts_after firsts count repeats tab greatest first_from dots plus times eq_z eq_v
    is_zero_v floor_div to_ℕ part limits_of time_of dependences_of padded nest_of extent indices points points_of rank
    is_point source source_rank projection divides makes_whole multiplier group_size least_z distinct_products step
    pivot
    clear remainder may_group grouping_vector extend chosen_vectors latest coefficients left is_combination frame
    directions difference same_class coordinates seeds eq_g quotients class_number group blocks block_number steps_of
    frame_of groups_of order_in greatest_z direction_in undealt_in takes_bit dealtBit no_direction next_turn deal_bit
    deal_bits
    dealt gray part_of joined processor directions_of processors_of crosses is_message vector listed_with listed
    flat_map
    every better least taking delivering effect
example_reference = refl
