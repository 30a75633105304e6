-- Serves as examples: P1 to P10 of document 01 ("Mixes to try"), the counts of 000's loops L1 and
-- L2, and nests worked out by hand, as one table; `examples_hold` checks all of it on the
-- definitions, by computation. Where a case is silent: limits 0..3, time vector of ones, cube
-- dimension 0, boundary values and weights 1, and the dependence is 1 in the innermost loop.
-- Assumes nothing.
use Rattle.std.specs.Prelude.{◌≡◌, refl, Bool, true, false, ◌&&◌, ℕ, eqb, pos, neg_ℤ, length, get_or}
use mathlib.Core.List.{List, [], ◌∷◌, map, flat_map, zip_with}
use Rattle.std.proofs.Math.Option.{Option, none, some}
use Rattle.integers.specs.Lists.{any, all, first, place, firsts_after, firsts, count, repeats, tab, greatest}
use Rattle.integers.specs.Lists.{first_from, total}
use Rattle.integers.specs.Vector.{Vector, dots, plus, times, eq_z, eq_v, is_zero_v}
use Rattle.integers.specs.Division.{floor_div}
use Rattle.nest.specs.declared.LoopNest.{LoopNest}
use Rattle.nest.specs.Nest.{to_ℕ, part, limits_of, time_of, dependences_of, boundaries_of, weights_of, padded, nest_of}
use Rattle.nest.specs.Nest.{empty_nest, with_shape, count_of}
use Rattle.nest.specs.Points.{extent, indices, points, points_of, point_count, rank, is_point, source}
use Rattle.nest.specs.Refusals.{number, outside, crossed, out_of_span, backward, against, holds, first_met}
use Rattle.nest.specs.Refusals.{refusal, or_else}
use Rattle.nest.specs.Sources.{source_rank}
use Rattle.nest_text.specs.Fields.{Bytes, blanks_of, all_digits, value_of, digits_of, signed_of, read_of, digits_to}
use Rattle.nest_text.specs.Fields.{numeral_of}
use Rattle.nest_text.specs.Fields.{field_of}
use Rattle.nest_text.specs.Text.{line, differ, last_of, lines_with, text_with, text_of, boundaries_in}
use Rattle.nest_text.specs.Text.{is_line, numbers_of, are_lines, line_numbers, widths, shapes, fits}
use Rattle.nest_text.specs.Text.{first_fitting, is_headed, header_width_of, header_numbers, headed, header_of, rest_of}
use Rattle.nest_text.specs.Text.{is_shaped, body_numbers, nest_from, body_of, read_refusal, read_nest}
use Rattle.nest_text.specs.Examples.{bytes, lines}
use Rattle.grouping.specs.Projection.{projection, divides, makes_whole, multiplier, group_size}
use Rattle.integers.specs.Extremes.{least_z, greatest_z}
use Rattle.partition.specs.Partition.{distinct_products, step, step_number, steps_of, step_count, frame_of, groups_of}
use Rattle.partition.specs.Partition.{blocks_of, block_count}
use Rattle.partition.specs.Examples.{vector, nest_with, L1, L2}
use Rattle.grouping.specs.Grouping.{pivot, clear, remainder, may_group, grouping_vector, extend, chosen_vectors}
use Rattle.grouping.specs.Grouping.{chosen_count, latest, coefficients, left, is_combination, frame, directions}
use Rattle.grouping.specs.Grouping.{difference, same_class, coordinates, seeds, eq_g, quotients, class_number, group}
use Rattle.grouping.specs.Grouping.{blocks, block_number}
use Rattle.mapping.specs.GrayCodes.{gray_codes}
use Rattle.mapping.specs.Mapping.{order_in, direction_in, undealt_in, takes_bit, with_bit, no_direction, next_turn}
use Rattle.mapping.specs.Mapping.{deal_bit}
use Rattle.mapping.specs.Mapping.{deal_bits, dealt, gray, part_of, joined, processor, directions_of, processors_of}
use Rattle.mapping.specs.Mapping.{processor_count, crosses, is_message, message_count}
use Rattle.sequential.specs.Sequential.{source_value, value_of as made_of, loop, sequential, weighted_sum, rule_of}
use Rattle.sequential.specs.Sequential.{values_of}
use Rattle.planner.specs.Plan.{counts_of}
use Rattle.planner.specs.Listing.{row_of}
use Rattle.planner.specs.Listing.{plan_lines, plan_text, listing}

-- ---- what a case may say of its nest
pub data Fact : Type 0 where
  -- the refusal's number; 0: accepted
  answer : ℕ → Fact
  iterations_are : ℕ → Fact
  steps_are : ℕ → Fact
  -- the step of each iteration, in loop order
  iteration_steps : List ℕ → Fact
  -- the numbers of iterations of blocks 0, 1, ..
  block_sizes : List ℕ → Fact
  blocks_are : ℕ → Fact
  -- the block of each iteration, in loop order
  iteration_blocks : List ℕ → Fact
  -- dependences between iterations, and how many of them lead from a block to another
  dependences_are : ℕ → ℕ → Fact
  -- the processors of blocks 0, 1, ..
  block_processors : List ℕ → Fact
  messages_are : ℕ → Fact
  group_size_is : ℕ → Fact
  grouping_vector_is : Vector → Fact
  -- β
  chosen_are : ℕ → Fact
  classes_are : ℕ → Fact
  projected_points : ℕ → Fact
  -- the nest's text and the listing
  printed : Bytes → Bytes → Fact

unfoldable pub eq_n : List ℕ → List ℕ → Bool
eq_n xs ys = eq_v (map pos xs) (map pos ys)

unfoldable pub below : ℕ → List ℕ
below n = tab (λ k. k) n

unfoldable pub is_some : Option ℕ → Bool
is_some none = false
is_some (some j) = true

-- how many pairs of a rank and a dependence number pass a test of the source
unfoldable pub pairs : LoopNest → (ℕ → Option ℕ → Bool) → ℕ
pairs s test = total (tab (λ k. count (λ i. test k (source_rank s k i)) (below (count_of s))) (length (points_of s)))

unfoldable pub says : LoopNest → Fact → Bool
says s (answer k) = eqb (refusal s) k
says s (iterations_are k) = eqb (length (points_of s)) k
says s (steps_are k) = eqb (step_count s) k
says s (iteration_steps ks) = eq_n (steps_of s) ks
says s (block_sizes ks) = let t = blocks_of s in eq_n (map (λ b. count (eqb b) t) (below (block_count s))) ks
says s (blocks_are k) = eqb (block_count s) k
says s (iteration_blocks ks) = eq_n (blocks_of s) ks
says s (dependences_are k b) = let t = blocks_of s in eqb (pairs s (λ r j. is_some j)) k && eqb (pairs s (crosses t)) b
says s (block_processors ks) = let t = blocks_of s in let p = processors_of s in
    eq_n (map (λ b. get_or p (place (eqb b) t) 0) (below (block_count s))) ks
says s (messages_are k) = eqb (message_count s) k
says s (group_size_is k) = eqb (group_size (time_of s) (dependences_of s)) k
says s (grouping_vector_is v) = eq_v (get_or (grouping_vector (time_of s) (dependences_of s)) 0 []) v
says s (chosen_are k) = eqb (chosen_count (time_of s) (dependences_of s)) k
says s (classes_are k) = eqb (length (seeds (frame_of s) (points_of s))) k
says s (projected_points k) = eqb (length (firsts eq_v (map (projection (time_of s)) (points_of s)))) k
says s (printed text list) = eq_n (text_of s) text && eq_n (listing text) list

-- ---- the table
pub record Case : Type 0 where
  pub nest : LoopNest
  pub facts : List Fact

-- one dependence, in two loops of u + 1 and v + 1 indices
unfoldable pub two : ℕ → ℕ → Vector → Vector → LoopNest
two u v P d = nest_with (u ∷ v ∷ []) P (d ∷ []) 0

unfoldable pub one : ℕ → LoopNest
one u = nest_with (u ∷ []) (vector (1 ∷ [])) (vector (1 ∷ []) ∷ []) 0

-- β = 0. The time vector is (1,0), so s is 1 and the projection of (x,y) is (0,y). That of the only
-- dependence, (1,0), is zero: there is no grouping vector, r is 1, and each of the projected points
-- (0,0), (0,1), (0,2), (0,3) is a class, a group and a block of its own. Block y holds (0,y) to
-- (3,y), and each of the 12 sources is in its iteration's block. Widths of q, b and class: 1, 1, 4.
-- Both bits go to the class, whose parts 0, 1, 2, 3 have the Gray codes 0, 1, 3, 2.
unfoldable pub ungrouped : LoopNest
ungrouped = nest_with (3 ∷ 3 ∷ []) (vector (1 ∷ 0 ∷ [])) (vector (1 ∷ 0 ∷ []) ∷ []) 2

-- Widths 3, 5 and 2. The time vector is (1,0,0), so s is 1 and the projection of (a,x,y) is
-- (0,x,y). Those of the dependences, (0,-2,0) and (0,0,1), are whole: r is 1, the first is the
-- grouping vector, the second the auxiliary one. Points are in one class if their x differ by an
-- even number; seeds (0,0,0), (0,1,0). With x = 2z + w, z from 0 to 2 and w from 0 to 1, the group
-- is class w, q = -z, b = y. No two projected points have one group, so (0,x,y) is in block 5x + y.
-- Widths: q 3 (from -2 to 0), b 5, class 2. Bits go to q, b, class, b; then none can take one (4 >
-- 3, 8 > 5, 4 > 2), and the fifth is left. Parts of q, (q + 2) × 2 / 3, are 0, 0, 1 for q = -2, -1,
-- 0; parts of b, y × 4 / 5, are 0, 0, 1, 2, 3 with the codes 0, 0, 1, 3, 2; of the class 0, 1.
-- Joined: 8 × code of q + 2 × code of b + class. So x = 0 has 8 + 2 × code of b, x = 2 and x = 4
-- have 2 × code of b, and x = 1, 3, 5 have one more each. Sources: along (1,-2,0) of (1,x,y) with x
-- from 0 to 3, 4 × 5; along (1,0,1) of (1,x,y) with y from 1 to 4, 6 × 4; all in other blocks. On
-- other processors: along the first for x = 0 and x = 1 (q = 0, its source's -1), 2 × 5; along the
-- second for y = 2, 3, 4 (0 and 1 have one code), 6 × 3.
unfoldable pub uneven : LoopNest
uneven = nest_with (1 ∷ 5 ∷ 4 ∷ []) (vector (1 ∷ 0 ∷ 0 ∷ []))
    ((pos 1 ∷ neg_ℤ (pos 2) ∷ pos 0 ∷ []) ∷ vector (1 ∷ 0 ∷ 1 ∷ []) ∷ []) 5

-- One row of 64 iterations, each a block of its own, as in `ungrouped`. Widths of q, b and class:
-- 1, 1, 64. All six bits go to the class: iteration k is part k of it, and its processor the code
-- that is printed for part k.
unfoldable pub row_of64 : LoopNest
row_of64 = nest_with (0 ∷ 63 ∷ []) (vector (1 ∷ 0 ∷ [])) (vector (1 ∷ 0 ∷ []) ∷ []) 6

-- Four loops, β = 3 (document 02, U11). P is (1,1,1,1), so s is 4 and every dependence has r_i = 4:
-- (3,-1,-1,-1) and the like become whole no earlier. The first is the grouping vector, the second
-- and the third are auxiliary; the projection of the fourth, (1,0,0,0), is minus the sum of the
-- other three, so it is not chosen. (x,y,z,w) has u = w - x, b = z - x, second b = y - x in one
-- class, whose seed is (0,0,0,0). u is -1, 0 or 1, so q, u / 4 rounded down, is -1, 0, 0. Only
-- (0,0,0,0) and (1,1,1,1) have one projection. Widths of q, b, second b, class: 2, 3, 3, 1. The
-- parts of q = -1, 0 are 0, 1, those of b = -1, 0, 1 are 0, 0, 1. Two bits go to q and b:
-- 2 × code of q + code of b. A third goes to the second b, and then none can take one.
unfoldable pub four_loops : ℕ → LoopNest
four_loops c = nest_with (1 ∷ 1 ∷ 1 ∷ 1 ∷ []) (vector (1 ∷ 1 ∷ 1 ∷ 1 ∷ []))
    (vector (0 ∷ 0 ∷ 0 ∷ 1 ∷ []) ∷ vector (0 ∷ 0 ∷ 1 ∷ 0 ∷ []) ∷ vector (0 ∷ 1 ∷ 0 ∷ 0 ∷ [])
    ∷ vector (1 ∷ 0 ∷ 0 ∷ 0 ∷ []) ∷ []) c

unfoldable pub four_text : Bytes
four_text =
    lines (
    "     4     4     2"
    ∷ "     0     1"
    ∷ "     0     1"
    ∷ "     0     1"
    ∷ "     0     1"
    ∷ "     1     1     1     1"
    ∷ "     0     0     0     1"
    ∷ "     0     0     1     0"
    ∷ "     0     1     0     0"
    ∷ "     1     0     0     0"
    ∷ "     1     1     1     1     1"
    ∷ [])

-- The step of (x,y,z,w) is x + y + z + w. Blocks are numbered by first iteration; (1,1,1,1) is in
-- that of (0,0,0,0). Messages: along (0,0,0,1) to 9, 11, 13, 15; along (0,0,1,0) to 2, 3, 6, 7;
-- along (1,0,0,0) to 8, 10, 11, 12, 14, 15. The value is the rank plus the four sources' values,
-- 1 for one outside: 4, then 1 + 4 + 3, 2 + 4 + 3, 3 + 9 + 8 + 2, and so on.
unfoldable pub four_plan : Bytes
four_plan =
    lines (
    "    16     5    11     3    14"
    ∷ "     0     0     0     2     4"
    ∷ "     1     1     0     2     8"
    ∷ "     2     1     1     3     9"
    ∷ "     3     2     1     3    22"
    ∷ "     4     1     2     2    11"
    ∷ "     5     2     2     2    26"
    ∷ "     6     2     3     3    28"
    ∷ "     7     3     3     3    84"
    ∷ "     8     1     4     0    15"
    ∷ "     9     2     5     2    34"
    ∷ "    10     2     6     0    36"
    ∷ "    11     3     7     2   104"
    ∷ "    12     2     8     0    40"
    ∷ "    13     3     9     2   114"
    ∷ "    14     3    10     0   119"
    ∷ "    15     4     0     2   436"
    ∷ [])

-- Four directions of width 2. The time vector is (1,0,0,0), so the projection of (a,x,y,z) is
-- (0,x,y,z), and those of the dependences are (0,-2,0,0), (0,0,1,0), (0,0,0,1): r is 1, the classes
-- are those of even and of odd x, q = 0 for x = 0, 1 and -1 for x = 2, 3, b = y, second b = z, and
-- (a,x,y,z) is in block 4x + 2y + z. Three bits go to q, b and second b, a fourth to the class, and
-- then none can take one. Parts of q = -1, 0 are 0, 1.
unfoldable pub four_wide : ℕ → LoopNest
four_wide c = nest_with (1 ∷ 3 ∷ 1 ∷ 1 ∷ []) (vector (1 ∷ 0 ∷ 0 ∷ 0 ∷ []))
    ((pos 1 ∷ neg_ℤ (pos 2) ∷ pos 0 ∷ pos 0 ∷ []) ∷ vector (1 ∷ 0 ∷ 1 ∷ 0 ∷ []) ∷ vector (1 ∷ 0 ∷ 0 ∷ 1 ∷ []) ∷ []) c

-- 8 x 8 x 8 iterations for each of u + 1 indices of the innermost loop
unfoldable pub four_full : ℕ → LoopNest
four_full u = nest_with (7 ∷ 7 ∷ 7 ∷ u ∷ []) (vector (1 ∷ 1 ∷ 1 ∷ 1 ∷ [])) (vector (0 ∷ 0 ∷ 0 ∷ 1 ∷ []) ∷ []) 0

-- the nest of document 01's listing, with these boundary values
unfoldable pub listed_with : List ℕ → LoopNest
listed_with values =
    nest_of (pos 1) (record { lower = pos 0; upper = pos 1 } ∷ record { lower = pos 0; upper = pos 2 } ∷ [])
    (vector (1 ∷ 1 ∷ []))
    (vector (0 ∷ 1 ∷ []) ∷ vector (1 ∷ 0 ∷ []) ∷ []) (vector values) (vector (2 ∷ 3 ∷ []))

-- document 01's listing in full: one boundary value for both dependences
unfoldable pub listed : LoopNest
listed = listed_with (1 ∷ 1 ∷ [])

unfoldable pub listed_text : Bytes
listed_text = lines ("     2     2     1" ∷ "     0     1" ∷ "     0     2" ∷ "     1     1" ∷ "     0     1"
    ∷ "     1     0" ∷ "     1     2     3" ∷ [])

unfoldable pub listed_plan : Bytes
listed_plan =
    lines (
    "     6     4     3     2     2"
    ∷ "     0     0     0     0     5"
    ∷ "     1     1     0     0    14"
    ∷ "     2     2     1     1    33"
    ∷ "     3     1     2     0    20"
    ∷ "     4     2     0     0    86"
    ∷ "     5     3     0     0   276"
    ∷ [])

-- The same nest with a boundary value for each dependence (document 02, U1), 1 along (0,1) and 10
-- along (1,0). By hand, rank + 2 × what (0,1) reads + 3 × what (1,0) reads: 0 + 2·1 + 3·10 = 32,
-- where both sources are outside; 1 + 2·32 + 3·10 = 95; 2 + 2·95 + 3·10 = 222;
-- 3 + 2·1 + 3·32 = 101; 4 + 2·101 + 3·95 = 491; 5 + 2·491 + 3·222 = 1653. Steps, blocks and
-- processors are as before.
unfoldable pub apart : LoopNest
apart = listed_with (1 ∷ 10 ∷ [])

unfoldable pub apart_text : Bytes
apart_text = lines ("     2     2     1" ∷ "     0     1" ∷ "     0     2" ∷ "     1     1" ∷ "     0     1"
    ∷ "     1     0" ∷ "     1    10     2     3" ∷ [])

unfoldable pub apart_plan : Bytes
apart_plan =
    lines (
    "     6     4     3     2     2"
    ∷ "     0     0     0     0    32"
    ∷ "     1     1     0     0    95"
    ∷ "     2     2     1     1   222"
    ∷ "     3     1     2     0   101"
    ∷ "     4     2     0     0   491"
    ∷ "     5     3     0     0  1653"
    ∷ [])

unfoldable pub table : List Case
table =
    -- P1
    record { nest = L1 0; facts = answer 0 ∷ block_sizes (7 ∷ 3 ∷ 5 ∷ 1 ∷ []) ∷ dependences_are 33 12 ∷ [] }
    ∷ record { nest = L1 2; facts = answer 0 ∷ block_processors (3 ∷ 2 ∷ 1 ∷ 0 ∷ []) ∷ [] }
    -- P2
    ∷ record { nest = listed; facts = answer 0 ∷ printed listed_text listed_plan ∷ [] }
    -- P2 with two boundary values
    ∷ record { nest = apart; facts = answer 0 ∷ printed apart_text apart_plan ∷ [] }
    -- P3
    ∷ record {
      nest = one 0;
      facts = answer 0 ∷ iterations_are 1 ∷ steps_are 1 ∷ block_sizes (1 ∷ []) ∷ block_processors (0 ∷ []) ∷ [];
    }
    -- P4; 000's own 37 projected points and 17 groups are those of a second loop from 0 to 3
    ∷ record {
      nest = L2 2;
      facts = answer 0 ∷ iterations_are 48 ∷ steps_are 9 ∷ group_size_is 3 ∷ chosen_are 2
          ∷ projected_points 30 ∷ blocks_are 12 ∷ [];
    }
    ∷ record { nest = L2 3; facts = answer 0 ∷ projected_points 37 ∷ blocks_are 17 ∷ [] }
    -- P5
    ∷ record {
      nest = nest_with (3 ∷ 3 ∷ []) (vector (1 ∷ 1 ∷ [])) (vector (0 ∷ 3 ∷ []) ∷ vector (0 ∷ 1 ∷ []) ∷ []) 0;
      facts = answer 0 ∷ classes_are 3 ∷ [];
    }
    -- P6
    ∷ record {
      nest = nest_with (3 ∷ 3 ∷ []) (vector (1 ∷ 0 ∷ [])) (vector (1 ∷ 0 ∷ []) ∷ vector (1 ∷ 1 ∷ []) ∷ []) 0;
      facts = answer 0 ∷ group_size_is 1 ∷ grouping_vector_is (vector (1 ∷ 1 ∷ [])) ∷ [];
    }
    -- P7
    ∷ record { nest = two 3 3 (vector (1 ∷ 1 ∷ [])) (neg_ℤ (pos 1) ∷ pos 2 ∷ []); facts = answer 9 ∷ [] }
    -- P8
    ∷ record { nest = two 3 3 (pos 1 ∷ neg_ℤ (pos 1) ∷ []) (vector (0 ∷ 1 ∷ [])); facts = answer 11 ∷ [] }
    -- P9
    ∷ record { nest = two 63 63 (vector (1 ∷ 1 ∷ [])) (vector (0 ∷ 1 ∷ [])); facts = answer 0 ∷ [] }
    ∷ record { nest = two 63 64 (vector (1 ∷ 1 ∷ [])) (vector (0 ∷ 1 ∷ [])); facts = answer 6 ∷ [] }
    -- P10
    ∷ record { nest = one 1000; facts = answer 0 ∷ [] }
    ∷ record { nest = one 1001; facts = answer 5 ∷ [] }
    -- each projected point is a group
    ∷ record {
      nest = ungrouped;
      facts =
          answer 0 ∷ group_size_is 1 ∷ chosen_are 0 ∷ projected_points 4 ∷ classes_are 4
          ∷ iteration_blocks (0 ∷ 1 ∷ 2 ∷ 3 ∷ 0 ∷ 1 ∷ 2 ∷ 3 ∷ 0 ∷ 1 ∷ 2 ∷ 3 ∷ 0 ∷ 1 ∷ 2 ∷ 3 ∷ [])
          ∷ dependences_are 12 0 ∷ block_processors (0 ∷ 1 ∷ 3 ∷ 2 ∷ []) ∷ messages_are 0 ∷ [];
    }
    -- dealing and joining over three directions, two of whose widths are no powers of 2
    ∷ record {
      nest = uneven;
      facts =
          answer 0 ∷ iterations_are 60 ∷ steps_are 2 ∷ group_size_is 1 ∷ chosen_are 2 ∷ classes_are 2 ∷ blocks_are 30
          ∷ dependences_are 44 44 ∷ messages_are 28
          ∷ block_processors (
          8 ∷ 8 ∷ 10 ∷ 14 ∷ 12
          ∷ 9 ∷ 9 ∷ 11 ∷ 15 ∷ 13
          ∷ 0 ∷ 0 ∷ 2 ∷ 6 ∷ 4
          ∷ 1 ∷ 1 ∷ 3 ∷ 7 ∷ 5
          ∷ 0 ∷ 0 ∷ 2 ∷ 6 ∷ 4
          ∷ 1 ∷ 1 ∷ 3 ∷ 7 ∷ 5
          ∷ [])
          ∷ [];
    }
    -- four loops (document 02, U11)
    ∷ record {
      nest = four_loops 2;
      facts =
          answer 0 ∷ iterations_are 16 ∷ steps_are 5 ∷ group_size_is 4
          ∷ grouping_vector_is (vector (0 ∷ 0 ∷ 0 ∷ 1 ∷ [])) ∷ chosen_are 3 ∷ classes_are 1 ∷ projected_points 15
          ∷ blocks_are 11 ∷ messages_are 14 ∷ printed four_text four_plan ∷ [];
    }
    ∷ record {
      nest = four_loops 6;
      facts = answer 0 ∷ block_processors (4 ∷ 6 ∷ 5 ∷ 7 ∷ 0 ∷ 4 ∷ 0 ∷ 4 ∷ 0 ∷ 4 ∷ 0 ∷ []) ∷ [];
    }
    ∷ record {
      nest = four_wide 3;
      facts =
          answer 0 ∷ iterations_are 32 ∷ steps_are 2 ∷ group_size_is 1 ∷ chosen_are 3 ∷ classes_are 2
          ∷ block_processors (4 ∷ 5 ∷ 6 ∷ 7 ∷ 4 ∷ 5 ∷ 6 ∷ 7 ∷ 0 ∷ 1 ∷ 2 ∷ 3 ∷ 0 ∷ 1 ∷ 2 ∷ 3 ∷ []) ∷ [];
    }
    ∷ record {
      nest = four_wide 6;
      facts = block_processors (8 ∷ 10 ∷ 12 ∷ 14 ∷ 9 ∷ 11 ∷ 13 ∷ 15 ∷ 0 ∷ 2 ∷ 4 ∷ 6 ∷ 1 ∷ 3 ∷ 5 ∷ 7 ∷ []) ∷ [];
    }
    -- 8 x 8 x 8 x 8 iterations, and one index more; five loops, which a nest has no place for
    ∷ record { nest = four_full 7; facts = answer 0 ∷ [] }
    ∷ record { nest = four_full 8; facts = answer 6 ∷ [] }
    ∷ record { nest = with_shape (one 0) (pos 5) (pos 1) (pos 0); facts = answer 2 ∷ [] }
    -- a block for each part of one direction (document 02, U5)
    ∷ record {
      nest = row_of64;
      facts = answer 0 ∷ iteration_blocks (below 64) ∷ block_processors gray_codes ∷ [];
    }
    -- steps that nobody works in (document 02, U2). P·j is 2(x + y): 0, 2, 4, 6, 8
    ∷ record {
      nest = two 2 2 (vector (2 ∷ 2 ∷ [])) (vector (0 ∷ 1 ∷ []));
      facts = answer 0 ∷ steps_are 5 ∷ iteration_steps (0 ∷ 1 ∷ 2 ∷ 1 ∷ 2 ∷ 3 ∷ 2 ∷ 3 ∷ 4 ∷ []) ∷ [];
    }
    -- 0, 3, 2, 5: no divisor of the time vector's components takes the gaps away
    ∷ record {
      nest = two 1 1 (vector (2 ∷ 3 ∷ [])) (vector (0 ∷ 1 ∷ []));
      facts = answer 0 ∷ steps_are 4 ∷ iteration_steps (0 ∷ 2 ∷ 1 ∷ 3 ∷ []) ∷ [];
    }
    -- 0, -16, -32 and 16, 0, -16
    ∷ record {
      nest = two 1 2 (pos 16 ∷ neg_ℤ (pos 16) ∷ []) (vector (1 ∷ 0 ∷ []));
      facts = answer 0 ∷ steps_are 4 ∷ iteration_steps (2 ∷ 1 ∷ 0 ∷ 3 ∷ 2 ∷ 1 ∷ []) ∷ [];
    }
    -- 0, 2, 4 and -3, -1, 1: all six differ
    ∷ record {
      nest = two 1 2 (neg_ℤ (pos 3) ∷ pos 2 ∷ []) (vector (0 ∷ 1 ∷ []));
      facts = answer 0 ∷ steps_are 6 ∷ iteration_steps (2 ∷ 4 ∷ 5 ∷ 0 ∷ 1 ∷ 3 ∷ []) ∷ [];
    }
    ∷ []

pub examples_hold : all (λ c. all (says c.nest) c.facts) table ≡ true
unfolding any all first place firsts_after firsts count repeats tab greatest first_from dots plus times eq_z eq_v
    is_zero_v floor_div to_ℕ part limits_of time_of dependences_of boundaries_of weights_of padded nest_of empty_nest
    extent
    indices points points_of point_count rank is_point source number outside crossed out_of_span backward against holds
    first_met refusal
    or_else source_rank blanks_of all_digits value_of digits_of signed_of read_of digits_to numeral_of field_of line
    differ
    last_of lines_with text_with is_line numbers_of are_lines line_numbers widths shapes fits first_fitting is_headed
    header_width_of header_numbers
    headed header_of rest_of is_shaped body_numbers boundaries_in nest_from body_of read_refusal read_nest bytes lines
    projection
    divides makes_whole multiplier group_size least_z distinct_products step step_number pivot clear remainder may_group
    grouping_vector extend chosen_vectors chosen_count latest coefficients left is_combination frame directions
    difference same_class coordinates seeds eq_g quotients class_number group blocks block_number steps_of step_count
    frame_of groups_of blocks_of block_count order_in greatest_z direction_in undealt_in takes_bit with_bit
    no_direction next_turn
    deal_bit deal_bits dealt gray part_of joined processor directions_of processors_of processor_count crosses
    is_message
    total message_count source_value made_of loop sequential weighted_sum rule_of values_of counts_of row_of plan_lines
    plan_text listing eq_n below is_some pairs says vector nest_with L1 L2 two one ungrouped uneven four_loops four_text
    four_plan four_wide four_full row_of64 gray_codes
    listed_with listed listed_text listed_plan apart apart_text apart_plan table flat_map zip_with
examples_hold = refl
