-- The entry that makes a move, in terms of the run: lent buffers as layout and state; the move that
-- a request asks for; and the document's number and values for each case of the answer.
-- Assumes nothing.
use Rattle.std.specs.Prelude.{◌≡◌, List, [], ◌∷◌, ℕ, get_or}
use Rattle.nest.specs.declared.LoopNest.{LoopNest}
use Rattle.sequential.specs.Sequential.{rule_of, value_of, values_of}
use Rattle.execution.specs.declared.Move as asked
use Rattle.execution.specs.declared.Move.TheVariants.{Compute, Deliver}
use Rattle.execution.specs.Answer.{Answer, Computed, Delivered, Refused}
use Rattle.execution.specs.Rules.{Move, compute, deliver, Effect, refuse, iteration, message, Layout}
use Rattle.execution.specs.Run.{State, move_effect, move_answer, move_after}

-- ---- lent buffers

-- the step and processor tables
abbrev pub layout_in : List ℕ → List ℕ → Layout
layout_in steps processors = record { steps = steps; processors = processors }

-- the state's three buffers
abbrev pub state_in : List ℕ → List ℕ → List ℕ → State ℕ
state_in values done delivered = record { values = values; done = done; delivered = delivered }

-- ---- requests and answers

-- the move that is asked for (document 01: a card's compute, or a delivery that names a
-- rank and an offset number)
abbrev pub move_of : asked.Move → Move
move_of (Compute processor) = compute processor
move_of (Deliver d) = deliver d.rank d.dependence

-- the document's number of an answer: 0 for a move that is made
abbrev pub number_of : Answer → ℕ
number_of (Computed c) = 0
number_of (Delivered d) = 0
number_of (Refused number) = number

-- the answer to a move of this effect, and the values that it carries: the rank and the value
-- written, the message delivered, or the number of the refusal
unfoldable pub answer_of : LoopNest → List ℕ → Effect → Answer
answer_of s values (refuse number) = Refused number
answer_of s values (iteration k) = Computed (record { rank = k; value = value_of (rule_of s) s values k })
answer_of s values (message k i) = Delivered (record { rank = k; dependence = i })

-- ---- calls of the entry

-- what a call of `make_move` promises that finds this layout and state, answers r and leaves the
-- state st': the answer, its number, and the state
abbrev pub Makes : LoopNest → Layout → State ℕ → Move → Answer → State ℕ → Type 0
Makes s L st mv r st' =
    (r ≡ answer_of s st.values (move_effect s L st mv))
    × ((number_of r ≡ move_answer s L st mv) × (st' ≡ move_after (rule_of s) s L st mv))

-- a list of calls of `make_move`, each with the same nest and tables and with the state
-- as the call before left it
pub data EntryCalls (s : LoopNest) (L : Layout) : State ℕ → List asked.Move → List Answer → State ℕ → Type 0 where
  no_entry : {st : State ℕ} → EntryCalls s L st [] [] st
  entry : {st st' last : State ℕ} {what : asked.Move} {whats : List asked.Move} {r : Answer} {rs : List Answer}
      → Makes s L st (move_of what) r st' → EntryCalls s L st' whats rs last
      → EntryCalls s L st (what ∷ whats) (r ∷ rs) last

-- ---- the answers in full

-- how an effect of the reference machine is told: a refused move by its number, a
-- computed iteration by its rank and the sequential loop's value, a delivered message
-- by its rank and dependence
unfoldable pub told_by : LoopNest → Effect → Answer
told_by s (refuse number) = Refused number
told_by s (iteration k) = Computed (record { rank = k; value = get_or (values_of s) k 0 })
told_by s (message k i) = Delivered (record { rank = k; dependence = i })
