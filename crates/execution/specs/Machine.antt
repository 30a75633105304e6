-- The reference machine (document 01: bare rack). It is fed the nest and the moves' arguments and
-- nothing else: steps, processors and messages are the nest's own. It holds the computed iterations
-- and the delivered messages, none at first.
-- Assumes nothing.
use Rattle.std.specs.Prelude.{Bool, false, ◌&&◌, ◌||◌, List, [], ◌∷◌, ℕ, eqb, length}
use Rattle.integers.specs.Lists.{tab, count, total}
use Rattle.nest.specs.declared.LoopNest.{LoopNest}
use Rattle.nest.specs.Nest.{count_of}
use Rattle.nest.specs.Points.{points_of}
use Rattle.partition.specs.Partition.{steps_of}
use Rattle.mapping.specs.Mapping.{processors_of, is_message}
use Rattle.execution.specs.Rules.{Move, Effect, refuse, iteration, message, answer, Layout, View, effect}

pub record Machine : Type 0 where
  pub computed : ℕ → Bool
  pub delivered : ℕ → ℕ → Bool

-- nothing yet
abbrev pub fresh_machine : Machine
fresh_machine = record { computed = λ k. false; delivered = λ k i. false }

-- one more iteration is computed
abbrev pub with_iteration : Machine → ℕ → Machine
with_iteration b k = record { computed = λ c. eqb c k || b.computed c; delivered = b.delivered }

-- one more message is delivered
abbrev pub with_message : Machine → ℕ → ℕ → Machine
with_message b k i = record { computed = b.computed; delivered = λ c o. (eqb c k && eqb o i) || b.delivered c o }

-- a refused move changes nothing
abbrev pub machine_after : Machine → Effect → Machine
machine_after b (refuse a) = b
machine_after b (iteration k) = with_iteration b k
machine_after b (message k i) = with_message b k i

-- what a move looks at
abbrev pub machine_view : Layout → Machine → View
machine_view L b = record { layout = L; done = b.computed; delivered = b.delivered }

-- ---- moves one after the other, on any layout
module _ (s : LoopNest) (L : Layout) where
  -- the number that a move is answered
  abbrev pub machine_answer : Machine → Move → ℕ
  machine_answer b mv = answer (effect s (machine_view L b) mv)

  -- the machine after it
  abbrev pub machine_next : Machine → Move → Machine
  machine_next b mv = machine_after b (effect s (machine_view L b) mv)

  -- after a list of moves
  abbrev pub machine_run : Machine → List Move → Machine
  machine_run b [] = b
  machine_run b (mv ∷ ms) = machine_run (machine_next b mv) ms

  -- what they are answered, where each effect is told so
  abbrev pub machine_told : {A : Type 0} → (Effect → A) → Machine → List Move → List A
  machine_told tell b [] = []
  machine_told tell b (mv ∷ ms) = tell (effect s (machine_view L b) mv) ∷ machine_told tell (machine_next b mv) ms

  -- the numbers that they are answered
  abbrev pub machine_answers : Machine → List Move → List ℕ
  machine_answers b ms = machine_told answer b ms

-- ---- the reference machine of a nest and of a plan's layout

-- what it holds after a list of moves, and what it answered
abbrev pub reference_run : LoopNest → Layout → List Move → Machine
reference_run s M ms = machine_run s M fresh_machine ms

abbrev pub reference_answers : LoopNest → Layout → List Move → List ℕ
reference_answers s M ms = machine_answers s M fresh_machine ms

-- the nest's own steps and processors
abbrev pub layout_of : LoopNest → Layout
layout_of s = record { steps = steps_of s; processors = processors_of s }

-- ---- counts

-- how many of the numbers below k pass a test
abbrev pub count_below : (ℕ → Bool) → ℕ → ℕ
count_below t k = count t (tab (λ i. i) k)

-- how many iterations are computed
abbrev pub computed_count : LoopNest → Machine → ℕ
computed_count s b = count_below b.computed (length (points_of s))

-- how many messages are delivered
abbrev pub delivered_count : LoopNest → Machine → ℕ
delivered_count s b = total (tab (λ k. count_below (b.delivered k) (count_of s)) (length (points_of s)))

-- how many messages there are on a layout
abbrev pub messages_on : LoopNest → Layout → ℕ
messages_on s M = total (tab (λ k. count_below (is_message s M.processors k) (count_of s)) (length (points_of s)))

-- how many moves are allowed: those answered 0
abbrev pub allowed_count : List ℕ → ℕ
allowed_count answers = count (λ a. eqb a 0) answers
