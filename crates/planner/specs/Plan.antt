-- The plan of a loop nest: four tables and five counts, and what a call of `plan` answers
-- and leaves in its tables.
-- Assumes nothing.
use Rattle.std.specs.Prelude.{◌≡◌, true, false, List, [], ◌∷◌, ◌++◌, ℕ, eqb, length}
use Rattle.nest.specs.declared.LoopNest.{LoopNest}
use Rattle.nest.specs.Points.{points_of}
use Rattle.nest.specs.Refusals.{refusal, or_else, no_room, OneShort, table_after, Order, nest_order}
use Rattle.partition.specs.Partition.{steps_of, step_count, blocks_of, block_count}
use Rattle.mapping.specs.Mapping.{processors_of, processor_count, message_count}
use Rattle.sequential.specs.Sequential.{values_of}

-- what `plan` answers: the number of the first refusal with every count 0, or 0 with the counts
pub record Planning : Type 0 where
  pub refusal : ℕ
  pub iterations : ℕ
  pub steps : ℕ
  pub blocks : ℕ
  -- processors that hold an iteration
  pub processors : ℕ
  pub messages : ℕ

-- iterations, steps, blocks, processors that hold an iteration, messages
unfoldable pub counts_of : LoopNest → List ℕ
counts_of s = length (points_of s) ∷ step_count s ∷ block_count s ∷ processor_count s ∷ message_count s ∷ []

-- the counts that an answer holds
abbrev pub counts_in : Planning → List ℕ
counts_in r = r.iterations ∷ r.steps ∷ r.blocks ∷ r.processors ∷ r.messages ∷ []

-- 2 to 13, then 14 for a table with fewer entries than there are iterations
unfoldable pub plan_refusal : LoopNest → ℕ → ℕ → ℕ → ℕ → ℕ
plan_refusal s steps blocks processors values = or_else (refusal s)
    (no_room (length (points_of s)) steps blocks processors values)

-- `plan`'s refusals in their order (proofs/Answers.antt: the number is what they answer)
abbrev pub plan_order : LoopNest → ℕ → ℕ → ℕ → ℕ → Order
plan_order s steps blocks processors values = nest_order s
    ++ ((14, OneShort (length (points_of s)) steps blocks processors values) ∷ [])

-- refused with this number: every count is 0
abbrev pub refused_with : ℕ → Planning
refused_with k = record { refusal = k; iterations = 0; steps = 0; blocks = 0; processors = 0; messages = 0 }

-- the answer to a call that is refused with this number, or not refused where it is 0
unfoldable pub plan_answer : LoopNest → ℕ → Planning
plan_answer s k =
    elim (eqb k 0) [
      | true ↦ record {
        refusal = 0;
        iterations = length (points_of s);
        steps = step_count s;
        blocks = block_count s;
        processors = processor_count s;
        messages = message_count s;
      }
      | false ↦ refused_with k
    ]

-- two nests have the same four tables and five counts
pub record SamePlan (s t : LoopNest) : Type 0 where
  pub steps : steps_of s ≡ steps_of t
  pub blocks_are : blocks_of s ≡ blocks_of t
  pub processors : processors_of s ≡ processors_of t
  pub values : values_of s ≡ values_of t
  pub counts : counts_of s ≡ counts_of t

-- ---- what a call of `plan` promises

-- the four tables that it is lent, or leaves
pub record Tables : Type 0 where
  pub steps : List ℕ
  pub blocks : List ℕ
  pub processors : List ℕ
  pub values : List ℕ

-- by what they hold
abbrev pub tables_in : List ℕ → List ℕ → List ℕ → List ℕ → Tables
tables_in steps blocks processors values = record {
  steps = steps;
  blocks = blocks;
  processors = processors;
  values = values;
}

-- the number of the first refusal of a call that is lent these tables
abbrev pub tables_refusal : LoopNest → Tables → ℕ
tables_refusal s t = plan_refusal s (length t.steps) (length t.blocks) (length t.processors) (length t.values)

-- the call answers r and leaves the tables `new`, which it found as `old`
abbrev pub Plans : LoopNest → Tables → Planning → Tables → Type 0
Plans s old r new =
    (r ≡ plan_answer s (tables_refusal s old))
    × ((new.steps ≡ table_after r.refusal (steps_of s) old.steps)
    × ((new.blocks ≡ table_after r.refusal (blocks_of s) old.blocks)
    × ((new.processors ≡ table_after r.refusal (processors_of s) old.processors)
    × (new.values ≡ table_after r.refusal (values_of s) old.values))))
