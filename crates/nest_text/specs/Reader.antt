-- Serves the contracts of inner functions alone: the steps of the reader, a line as the code holds
-- it and the nest as it is filled line by line; and how many boundary values the writer writes.
-- Assumes nothing.
use Rattle.std.specs.Prelude.{true, false, ℕ, ◌+◌, ◌*◌, ◌-◌, eqb, leb, ltb, ℤ, pos, length, get_or, take, drop}
use Rattle.std.specs.Prelude.{Option, Some, None}
use mathlib.Core.List.{List, [], ◌++◌, map, flat_map}
use Rattle.nest.specs.declared.LoopNest.{LoopNest}
use Rattle.nest.specs.Nest.{padded, empty_nest, max_depth, max_dependences}
use Rattle.nest.specs.Nest.{with_limits, with_times, with_dependences, with_boundaries, with_weights}
use Rattle.nest.specs.Refusals.{first_met, header_order, or_else}
use Rattle.nest_text.specs.Answered.{Reading}
use Rattle.nest_text.specs.Fields.{Bytes}
use Rattle.nest_text.specs.Text.{at, differ, body_length, is_line, numbers_of, line_numbers, short_width, long_width}
use Rattle.nest_text.specs.Text.{shapes, fits, first_fitting, is_headed, header_of, boundaries_in, weights_in}
use Rattle.nest_text.specs.Text.{nest_from, malformed_unless}

-- the most fields that a line has: the boundary values and the weights
abbrev pub max_fields : ℕ
max_fields = long_width max_dependences

-- a line of k fields, where it is in form: its numbers, with 0 in every other place
unfoldable pub line_of : ℕ → Bytes → Option (List ℤ)
line_of k bs = elim (is_line k bs) [
  | true ↦ Some (padded max_fields (numbers_of k bs))
  | false ↦ None
]

-- line 1's form; 2, 3, 4
unfoldable pub header_refusal : Bytes → ℕ
header_refusal bs = or_else (malformed_unless (is_headed bs)) (first_met (header_of bs) header_order)

-- what is read of line 1; 0 in every place where it is refused
unfoldable pub header_read : Bytes → Reading
header_read bs = record {
  refusal = header_refusal bs;
  nest = elim (eqb (header_refusal bs) 0) [ true ↦ header_of bs | false ↦ empty_nest ];
}

-- ---- the nest with one line more

-- the limits of loop k
unfoldable pub with_limit_line : LoopNest → ℕ → List ℤ → LoopNest
with_limit_line s k row = with_limits s k (at row 0) (at row 1)

-- the time vector
unfoldable pub with_time_line : LoopNest → List ℤ → LoopNest
with_time_line s row = with_times s (take max_depth row)

-- the components of dependence i
unfoldable pub with_dependence_line : LoopNest → ℕ → List ℤ → LoopNest
with_dependence_line s i row = with_dependences s
    (take (i * max_depth) s.dependences ++ (take max_depth row ++ drop (i * max_depth + max_depth) s.dependences))

-- the boundary values that a last line of k numbers says for m dependences
unfoldable pub with_boundary_line : ℕ → ℕ → LoopNest → List ℤ → LoopNest
with_boundary_line m k s row = with_boundaries s (boundaries_in m k row ++ drop m s.boundaries)

-- the boundary values and the weights
unfoldable pub with_last_line : ℕ → ℕ → LoopNest → List ℤ → LoopNest
with_last_line m k s row = with_weights (with_boundary_line m k s row) (take max_dependences (weights_in m k row))

-- how many fields the last line has, by the number of bytes behind line 1: it is told by its own
-- length, since the other lines are as long in either shape
unfoldable pub last_width : ℕ → ℕ → ℕ → ℕ
last_width n m bytes = elim (eqb bytes (body_length n m (short_width m))) [
  | true ↦ short_width m
  | false ↦ long_width m
]

-- line i, counted from 0, of those behind line 1, of which the last has k fields
unfoldable pub with_line : ℕ → ℕ → ℕ → LoopNest → ℕ → List ℤ → LoopNest
with_line n m k s i row = elim (ltb i n) [
  | true ↦ with_limit_line s i row
  | false ↦ elim (eqb i n) [
    | true ↦ with_time_line s row
    | false ↦ elim (leb i (n + m)) [
      | true ↦ with_dependence_line s (i - (n + 1)) row
      | false ↦ with_last_line m k s row
    ]
  ]
]

-- the nest of n loops with m dependences and cube dimension c of which these lines are read; 0 in
-- every place of the others
unfoldable pub filled : ℕ → ℕ → ℤ → List (List ℤ) → LoopNest
filled n m c ls =
    let last = get_or ls (n + 1 + m) [] in record {
      depth = pos n;
      count = pos m;
      cube = c;
      lower = padded max_depth (map (λ l. at l 0) (take n ls));
      upper = padded max_depth (map (λ l. at l 1) (take n ls));
      time = padded max_depth (get_or ls n []);
      dependences = padded (max_depth * max_dependences) (flat_map (padded max_depth) (take m (drop (n + 1) ls)));
      boundaries = padded max_dependences (boundaries_in m (length last) last);
      weights = padded max_dependences (weights_in m (length last) last);
    }

-- how many of these boundary values are written: one where they are all equal
unfoldable pub value_count : List ℤ → ℕ
value_count zs = elim (differ zs) [ true ↦ length zs | false ↦ 1 ]

-- the lines behind line 1, where all are in form: their nest
unfoldable pub body_read : ℕ → ℕ → ℤ → Bytes → Option LoopNest
body_read n m c bs = elim (fits (shapes n m) bs) [
  | true ↦ Some (nest_from n m c (line_numbers (first_fitting (shapes n m) bs) bs))
  | false ↦ None
]
