-- Serves the contracts of inner functions alone: what a move looks at, and what a compute and a
-- delivery answer and leave once the nest is accepted and every buffer is long enough.
-- Assumes nothing.
use Rattle.std.specs.Prelude.{◌≡◌, Bool, false, not, ◌&&◌, List, [], ℕ, ◌≤◌, eqb, ltb, length, get_or}
use Rattle.std.specs.Prelude.{Option as Found, Some, None}
use Rattle.std.proofs.Math.Option.{Option, none, some}
use Rattle.nest.specs.declared.LoopNest.{LoopNest}
use Rattle.sequential.specs.Sequential.{rule_of}
use Rattle.execution.specs.declared.PlanTables.{PlanTables}
use Rattle.execution.specs.declared.RunState.{RunState}
use Rattle.execution.specs.Answer.{Answer}
use Rattle.execution.specs.Rules.{Move, deliver, Layout, View, effect}
use Rattle.execution.specs.Run.{State, state_view, bit, after}
use Rattle.execution.specs.Entry.{layout_in, state_in, answer_of}

-- what a move looks at: the values are no part of it
abbrev pub view_in : List ℕ → List ℕ → List ℕ → List ℕ → View
view_in steps processors done delivered = state_view (layout_in steps processors) (state_in [] done delivered)

-- a rank or none, as it is found
abbrev pub option_in : Found ℕ → Option ℕ
option_in None = none
option_in (Some k) = some k

-- ---- lent buffers that go together

-- the step and processor tables
abbrev pub tables_layout : PlanTables → Layout
tables_layout tables = layout_in tables.steps.now tables.processors.now

-- the state's three buffers
abbrev pub state_lent : RunState → State ℕ
state_lent state = state_in state.values.now state.done.now state.delivered.now

-- ---- moves on an accepted nest, with an entry for each of its iterations in every buffer

-- each buffer has an entry for each of so many iterations
abbrev pub Room : ℕ → Layout → State ℕ → Type 0
Room iterations L st = (iterations ≤ length L.steps) × (iterations ≤ length L.processors)
    × (iterations ≤ length st.values) × (iterations ≤ length st.done) × (iterations ≤ length st.delivered)

-- r is what the rules answer to a move
abbrev pub Answers : LoopNest → Layout → State ℕ → Move → Answer → Type 0
Answers s L st mv r = r ≡ answer_of s st.values (effect s (state_view L st) mv)

-- st' is what they leave
abbrev pub Leaves : LoopNest → Layout → State ℕ → Move → State ℕ → Type 0
Leaves s L st mv st' = st' ≡ after (rule_of s) s st (effect s (state_view L st) mv)

-- ---- deliveries

-- what a delivery answers and leaves, whatever the steps and the values are
abbrev pub Delivers : LoopNest → List ℕ → List ℕ → List ℕ → ℕ → ℕ → Answer → List ℕ → Type 0
Delivers s processors done delivered k i r delivered' =
    ((steps values : List ℕ) → Answers s (layout_in steps processors) (state_in values done delivered) (deliver k i) r)
    × ((steps values : List ℕ)
    → Leaves s (layout_in steps processors) (state_in values done delivered) (deliver k i)
    (state_in values done delivered'))

-- the same where the source is known by its rank, or that it is none of so many iterations: the
-- message can be delivered
abbrev pub ready_from : Option ℕ → ℕ → List ℕ → List ℕ → List ℕ → ℕ → ℕ → Bool
ready_from none iterations processors done delivered k i = false
ready_from (some j) iterations processors done delivered k i =
    ltb j iterations && (not (eqb (get_or processors j 0) (get_or processors k 0))
    && (not (eqb (get_or done j 0) 0) && not (bit i (get_or delivered k 0))))
