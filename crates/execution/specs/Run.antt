-- The run on lent tables of any content (document 01, "The run"), under any rule. The state has
-- three buffers, which may be longer than there are iterations; entry k of each is iteration k's.
-- `move_effect` is the transition of the entry that makes a move: refusals 2 to 14, then the rules.
-- Assumes nothing.
use Rattle.std.specs.Prelude.{Bool, true, false, not, List, [], ◌∷◌, ℕ, ◌+◌, ◌/◌, ◌%◌, ◌^◌, eqb, length, get_or, set}
use Rattle.nest.specs.declared.LoopNest.{LoopNest}
use Rattle.nest.specs.Points.{points_of}
use Rattle.nest.specs.Refusals.{refusal, or_else, short_buffer, no_room}
use Rattle.sequential.specs.Sequential.{Rule, value_of}
use Rattle.execution.specs.Rules.{Move, Effect, refuse, iteration, message, answer, Layout, View, effect}

-- for each iteration a value, a done byte (0 is not done) and a delivered byte
pub record State (Val : Type 0) : Type 0 where
  pub values : List Val
  pub done : List ℕ
  pub delivered : List ℕ

-- bit i of a byte, bit 0 lowest
abbrev pub bit : ℕ → ℕ → Bool
bit i b = eqb (b / 2 ^ i % 2) 1

-- a delivered byte's bit i is dependence i
abbrev pub state_view : {Val : Type 0} → Layout → State Val → View
state_view L st = record {
  layout = L;
  done = λ k. not (eqb (get_or st.done k 0) 0);
  delivered = λ k i. bit i (get_or st.delivered k 0);
}

-- iteration k's value is written and its done byte becomes 1
abbrev pub with_value : {Val : Type 0} → State Val → ℕ → Val → State Val
with_value st k x = record { values = set st.values k x; done = set st.done k 1; delivered = st.delivered }

-- bit i of iteration k's delivered byte, which is 0, becomes 1
abbrev pub with_bit : {Val : Type 0} → State Val → ℕ → ℕ → State Val
with_bit st k i = record {
  values = st.values;
  done = st.done;
  delivered = set st.delivered k (get_or st.delivered k 0 + 2 ^ i);
}

-- ---- refusals before the rules: 2 to 13, then 14 for a buffer that is too short

-- for a layout and a state of these lengths
unfoldable pub move_refusal : LoopNest → ℕ → ℕ → ℕ → ℕ → ℕ → ℕ
move_refusal s steps processors values done delivered =
    let iterations = length (points_of s) in
    or_else (refusal s)
    (or_else (no_room iterations steps processors values done) (short_buffer iterations delivered))

-- for this layout and state
abbrev pub state_refusal : {Val : Type 0} → LoopNest → Layout → State Val → ℕ
state_refusal s L st = move_refusal s (length L.steps) (length L.processors) (length st.values)
    (length st.done) (length st.delivered)

-- what a move on this layout and state comes to
unfoldable pub move_effect : {Val : Type 0} → LoopNest → Layout → State Val → Move → Effect
move_effect s L st mv =
    let a = state_refusal s L st in
    elim (eqb a 0) [ true ↦ effect s (state_view L st) mv | false ↦ refuse a ]

-- the number that it is answered
abbrev pub move_answer : {Val : Type 0} → LoopNest → Layout → State Val → Move → ℕ
move_answer s L st mv = answer (move_effect s L st mv)

module _ {Val : Type 0} (R : Rule Val) (s : LoopNest) where
  -- the state after an effect; a refused move changes nothing
  abbrev pub after : State Val → Effect → State Val
  after st (refuse a) = st
  after st (iteration k) = with_value st k (value_of R s st.values k)
  after st (message k i) = with_bit st k i

  module _ (L : Layout) where
    -- the state after a move
    abbrev pub move_after : State Val → Move → State Val
    move_after st mv = after st (move_effect s L st mv)

    -- ---- moves one after the other, each on the state that the one before left

    -- the state after a list of moves
    abbrev pub run : State Val → List Move → State Val
    run st [] = st
    run st (mv ∷ ms) = run (move_after st mv) ms

    -- the numbers that they are answered
    abbrev pub answers : State Val → List Move → List ℕ
    answers st [] = []
    answers st (mv ∷ ms) = move_answer s L st mv ∷ answers (move_after st mv) ms
