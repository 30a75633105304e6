-- The listing (document 01, "A listing in full"): what the planning program prints for a text.
-- Assumes nothing.
use Rattle.std.specs.Prelude.{true, false, ℕ, ◌+◌, ◌*◌, ◌<◌, eqb, ℤ, pos, length, get_or}
use mathlib.Core.List.{List, [], ◌∷◌, ◌++◌, map, flat_map}
use Rattle.integers.specs.Lists.{tab}
use Rattle.nest.specs.declared.LoopNest.{LoopNest}
use Rattle.nest.specs.Nest.{max_iterations}
use Rattle.nest.specs.Points.{points_of}
use Rattle.nest.specs.Refusals.{Order}
use Rattle.nest_text.specs.Fields.{Bytes}
use Rattle.nest_text.specs.Answered.{Writing}
use Rattle.nest_text.specs.Text.{line_length, line, read_refusal, read_nest, Puts}
use Rattle.nest_text.specs.Form.{read_order}
use Rattle.partition.specs.Partition.{steps_of, blocks_of}
use Rattle.mapping.specs.Mapping.{processors_of}
use Rattle.sequential.specs.Sequential.{values_of}
use Rattle.planner.specs.Plan.{counts_of}

-- how many numbers a line has
abbrev pub row_width : ℕ
row_width = 5

-- and how many bytes
abbrev pub row_bytes : ℕ
row_bytes = line_length row_width

-- the bytes of the longest listing: a line for the counts, and one for each iteration
abbrev pub listing_most : ℕ
listing_most = row_bytes * (max_iterations + 1)

-- the numbers of a line: rank, step, block, processor, value of iteration k
unfoldable pub row_of : List ℕ → List ℕ → List ℕ → List ℕ → ℕ → List ℤ
row_of steps blocks processors values k = pos k ∷ pos (get_or steps k 0) ∷ pos (get_or blocks k 0)
    ∷ pos (get_or processors k 0) ∷ pos (get_or values k 0) ∷ []

-- the counts, then for each iteration in loop order rank, step, block, processor, value
unfoldable pub plan_lines : LoopNest → List (List ℤ)
plan_lines s =
    map pos (counts_of s)
    ∷ tab (row_of (steps_of s) (blocks_of s) (processors_of s) (values_of s)) (length (points_of s))

-- the bytes of those lines
unfoldable pub plan_text : LoopNest → Bytes
plan_text s = flat_map line (plan_lines s)

-- what is printed for a text: the plan of its nest; a refusal is its number alone
unfoldable pub listing : Bytes → Bytes
listing text = elim (eqb (read_refusal text) 0) [
  | true ↦ plan_text (read_nest text)
  | false ↦ line (pos (read_refusal text) ∷ [])
]

-- `list`'s refusals in their order: those of the text, then 14 (proofs/Answers.antt: the
-- number is what they answer)
abbrev pub list_order : Bytes → ℕ → Order
list_order text room = read_order text ++ ((14, room < length (plan_text (read_nest text))) ∷ [])

-- what a call of `list` promises that answers r and leaves the buffer `new`,
-- which it found as `old`
abbrev pub Lists : Bytes → Bytes → Writing → Bytes → Type 0
Lists text old r new = Puts (read_refusal text) (plan_text (read_nest text)) old r new
