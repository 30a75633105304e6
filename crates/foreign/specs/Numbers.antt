-- A nest, where a row lies, a move and what it did as numbers in a row, for callers in other
-- languages. Assumes nothing.
use Rattle.std.specs.Prelude.{◌≡◌, true, false, List, [], ◌∷◌, ◌++◌, ℕ, ◌+◌, ◌*◌, ◌^◌, eqb, ℤ, pos, get_or}
use Rattle.nest.specs.declared.LoopNest.{LoopNest}
use Rattle.nest.specs.Nest.{part, max_depth, max_dependences, max_cube}
use Rattle.nest_text.specs.Fields.{Bytes}
use Rattle.nest_text.specs.Answered.{Reading}
use Rattle.nest_text.specs.Text.{Reads}
use Rattle.rows.specs.Rows.{Span}
use Rattle.planner.specs.Plan.{Planning}
use Rattle.execution.specs.Rules as rules
use Rattle.execution.specs.Run.{State}
use Rattle.execution.specs.Entry.{move_of, number_of, Makes}
use Rattle.execution.specs.declared.Move.{Move}
use Rattle.execution.specs.declared.Move.TheVariants.{Compute, Deliver}
use Rattle.execution.specs.Answer.{Answer, Computed, Delivered, Refused}

-- where the parts of a nest begin among its numbers, behind the depth, the number of
-- dependences and the cube dimension
abbrev pub upper_from : ℕ
upper_from = 3 + max_depth

abbrev pub time_from : ℕ
time_from = upper_from + max_depth

abbrev pub dependences_from : ℕ
dependences_from = time_from + max_depth

abbrev pub boundaries_from : ℕ
boundaries_from = dependences_from + max_depth * max_dependences

abbrev pub weights_from : ℕ
weights_from = boundaries_from + max_dependences

-- how many numbers a nest has
abbrev pub number_count : ℕ
number_count = weights_from + max_dependences

-- the nest that numbers are, in the order of its fields
unfoldable pub nest_in : List ℤ → LoopNest
nest_in xs = record {
  depth = get_or xs 0 (pos 0);
  count = get_or xs 1 (pos 0);
  cube = get_or xs 2 (pos 0);
  lower = part xs 3 max_depth;
  upper = part xs upper_from max_depth;
  time = part xs time_from max_depth;
  dependences = part xs dependences_from (max_depth * max_dependences);
  boundaries = part xs boundaries_from max_dependences;
  weights = part xs weights_from max_dependences;
}

-- the numbers of a nest, in the same order: every place of its arrays, those that
-- are no part of the nest too
unfoldable pub numbers_of : LoopNest → List ℤ
numbers_of s =
    (s.depth ∷ s.count ∷ s.cube ∷ [])
    ++ part s.lower 0 max_depth ++ part s.upper 0 max_depth ++ part s.time 0 max_depth
    ++ part s.dependences 0 (max_depth * max_dependences)
    ++ part s.boundaries 0 max_dependences ++ part s.weights 0 max_dependences

-- the kinds of a move, numbered as in the machine's log (document 02, U12): 1
-- is a compute, 2 a delivery
abbrev pub compute_kind : ℕ
compute_kind = 1

abbrev pub deliver_kind : ℕ
deliver_kind = 2

-- a processor that no machine has: the number behind the last of the largest hypercube
abbrev pub no_processor : ℕ
no_processor = 2 ^ max_cube

-- the move that is asked for: a compute on a processor, or a delivery for a rank along a
-- dependence; any other kind is a compute on a processor that is not there
unfoldable pub move_in : ℕ → ℕ → ℕ → Move
move_in kind a b =
    elim (eqb kind compute_kind) [
      | true ↦ Compute a
      | false ↦ elim (eqb kind deliver_kind) [
        | true ↦ Deliver (record { rank = a; dependence = b })
        | false ↦ Compute no_processor
      ]
    ]

-- what an answer carries: the rank and the value of an iteration that was computed, the rank and
-- the dependence number of a message that was delivered; zeros where refused
unfoldable pub made_in : Answer → List ℕ
made_in (Computed c) = c.rank ∷ c.value ∷ []
made_in (Delivered d) = d.rank ∷ d.dependence ∷ []
made_in (Refused number) = 0 ∷ 0 ∷ []

-- ---- answers from numbers

-- where a row lies: the number answered, and its start and length
abbrev pub span_from : ℕ → List ℕ → Span
span_from number span = record { refusal = number; start = get_or span 0 0; length = get_or span 1 0 }

-- what `plan` answers: the number, and the counts of iterations, steps, blocks, processors that
-- hold an iteration, and messages
abbrev pub planning_from : ℕ → List ℕ → Planning
planning_from number counts = record {
  refusal = number;
  iterations = get_or counts 0 0;
  steps = get_or counts 1 0;
  blocks = get_or counts 2 0;
  processors = get_or counts 3 0;
  messages = get_or counts 4 0;
}

-- ---- what calls on numbers promise where they store an answer that is no row of numbers itself

-- `read`: the nest is stored as its numbers
abbrev pub ReadsInto : Bytes → ℕ → List ℤ → Type 0
ReadsInto text number numbers = (r : Reading) × Reads text r × (number ≡ r.refusal) × (numbers ≡ numbers_of r.nest)

-- `make_move`: what was done is stored as two numbers
abbrev pub MakesInto : LoopNest → rules.Layout → State ℕ → Move → ℕ → List ℕ → State ℕ → Type 0
MakesInto s L st what number made st' =
    (r : Answer) × Makes s L st (move_of what) r st' × (number ≡ number_of r) × (made ≡ made_in r)

-- a move as it is asked for on numbers
pub record Asked : Type 0 where
  pub kind : ℕ
  pub first : ℕ
  pub second : ℕ

-- the move
abbrev pub asked_move : Asked → Move
asked_move a = move_in a.kind a.first a.second

-- a list of calls of `rowlock_move`, each with the same nest and tables and with the state as the
-- call before left it: what was asked for, the numbers answered, and what was done
pub data NumberCalls (s : LoopNest) (L : rules.Layout)
    : State ℕ → List Asked → List ℕ → List (List ℕ) → State ℕ → Type 0 where
  none_asked : {st : State ℕ} → NumberCalls s L st [] [] [] st
  next_asked : {st st' last : State ℕ} {a : Asked} {more : List Asked}
      {number : ℕ} {numbers : List ℕ} {made : List ℕ} {mades : List (List ℕ)}
      → MakesInto s L st (asked_move a) number made st' → NumberCalls s L st' more numbers mades last
      → NumberCalls s L st (a ∷ more) (number ∷ numbers) (made ∷ mades) last
