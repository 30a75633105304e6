-- Demand 2 (document 00): an accepted nest's steps, blocks, processors, counts and values are those
-- of the published projection, grouping and Gray numbering, with the free choices fixed in document
-- 01 and the steps as document 02 numbers them (U2); each iteration is in one block, no two
-- iterations of a block are at one step, every dependence leads to a later step, a block sends to
-- at most 2m - β others (document 02, U3). A refusal comes under its stated condition and no other.
-- A nest read and written is the same nest, as text and as numbers; which texts are read as a nest
-- is document 02's law of the last line (U1). It is said of what calls of the entries answer and
-- leave. Assumes nothing.
use Rattle.std.specs.Prelude.{◌≡◌, List, ◌++◌, ◌⊎◌, ◌↔◌, ℕ, ◌+◌, ◌*◌, ◌^◌, ◌<◌, ◌≤◌, ℤ, ◌<ℤ◌}
use lib.ListN
use lib.ListN.{get_or, take, drop}
use Rattle.integers.specs.Lists.{count}
use Rattle.integers.specs.Vector.{dots}
use Rattle.nest.specs.declared.LoopNest.{LoopNest}
use Rattle.nest.specs.Nest.{to_ℕ, count_of, time_of, cleared}
use Rattle.nest.specs.Points.{points_of, point, source}
use Rattle.nest.specs.Refusals.{Inspection}
use Rattle.nest.specs.Refusals.{dependence, refusal, Order, Answered, nest_order, Checks, Inspects}
use Rattle.nest_text.specs.Fields.{Bytes}
use Rattle.nest_text.specs.Answered.{Reading}
use Rattle.nest_text.specs.Answered.{Writing}
use Rattle.nest_text.specs.Text.{short_last, text_with, text_of, write_order, Reads, Writes}
use Rattle.nest_text.specs.Form.{read_order, LongEqual, TextFor}
use Rattle.rows.specs.Rows.{Span}
use Rattle.rows.specs.Rows.{row_order, Locates, Cuts}
use Rattle.partition.specs.Partition.{step, step_number, steps_of, blocks_of, chosen_of, group_at}
use Rattle.partition.specs.Sending.{Receivers, receiver_count, Bounds}
use Rattle.mapping.specs.Mapping.{processors_of, processor_count, is_message, pairs}
use Rattle.sequential.specs.Sequential.{value_of, rule_of, values_of, fill_order, Fills}
use Rattle.planner.specs.Plan.{Planning}
use Rattle.planner.specs.Plan.{plan_order, Tables, Plans}
use Rattle.planner.specs.Listing.{list_order, Lists}
use Rattle.execution.specs.Answer.{Answer}
use Rattle.execution.specs.Rules.{Move, Layout}
use Rattle.execution.specs.Run.{State}
use Rattle.execution.specs.Words.{move_order}
use Rattle.execution.specs.Entry.{number_of, Makes}
use Rattle.promises.specs.Iterations.{Iteration, behind}

-- ---- the plan of an accepted nest

-- entry k of a table
abbrev pub at : List ℕ → ℕ → ℕ
at table k = get_or table k 0

-- P·j of iteration k
abbrev pub product : LoopNest → ℕ → ℤ
product s k = dots (time_of s) (point s k)

-- how many pairs of an iteration and a dependence are messages: the source is an iteration on
-- another processor
abbrev pub message_pairs : LoopNest → ℕ
message_pairs s =
    count (λ q. is_message s (processors_of s) q.0 q.1) (pairs (lib.ListN.length (points_of s)) (count_of s))

-- A call of `plan` that was not refused found the tables `old`, answered p and left the tables t.
pub record IsPlan (s : LoopNest) (old : Tables) (p : Planning) (t : Tables) : Type 0 where
  -- the tables hold the method's steps, blocks, processors and values, and behind them what they
  -- held before
  pub steps : t.steps ≡ steps_of s ++ behind s old.steps
  pub blocks : t.blocks ≡ blocks_of s ++ behind s old.blocks
  pub processors : t.processors ≡ processors_of s ++ behind s old.processors
  pub values : t.values ≡ values_of s ++ behind s old.values
  pub iterations : p.iterations ≡ lib.ListN.length (points_of s)
  -- a step is the number of distinct smaller values of P·j among the iterations, and the count of
  -- steps that of distinct values (document 02, U2)
  pub step : (k : ℕ) → Iteration s k → at t.steps k ≡ step (time_of s) (points_of s) (point s k)
  pub step_count_is : p.steps ≡ step_number (time_of s) (points_of s)
  -- so an earlier step is a smaller P·j, and one step one P·j
  pub step_order : (j k : ℕ) → Iteration s j → Iteration s k
      → (at t.steps j < at t.steps k) ↔ (product s j <ℤ product s k)
  pub step_same : (j k : ℕ) → Iteration s j → Iteration s k
      → (at t.steps j ≡ at t.steps k) ↔ (product s j ≡ product s k)
  -- the numbers from 0 to the count less 1 are each used: there is no step that nobody works in
  pub step_below : (k : ℕ) → Iteration s k → at t.steps k < p.steps
  pub step_used : (b : ℕ) → b < p.steps → (k : ℕ) × Iteration s k × (at t.steps k ≡ b)
  -- and each is below the number of iterations
  pub step_few : (k : ℕ) → Iteration s k → at t.steps k < p.iterations
  -- each iteration is in exactly one block: its entry; the numbers from 0 to the count less 1 are
  -- each used, in the order of the first iterations
  pub block_below : (k : ℕ) → Iteration s k → at t.blocks k < p.blocks
  pub block_used : (b : ℕ) → b < p.blocks → (k : ℕ) × Iteration s k × (at t.blocks k ≡ b)
  pub block_order : (k : ℕ) → Iteration s k → (b : ℕ) → b < at t.blocks k
      → (j : ℕ) × (j < k) × (at t.blocks j ≡ b)
  -- a block is all iterations projected into one group
  pub one_group : (j k : ℕ) → Iteration s j → Iteration s k
      → (at t.blocks j ≡ at t.blocks k) ↔ (group_at s j ≡ group_at s k)
  -- no two iterations of a block are at one step
  pub one_a_step : (j k : ℕ) → Iteration s j → Iteration s k
      → at t.blocks j ≡ at t.blocks k → at t.steps j ≡ at t.steps k → j ≡ k
  -- every dependence leads to a later step
  pub later_step : (i : ℕ) → i < count_of s → (j k : ℕ) → Iteration s j → Iteration s k
      → point s j ≡ source (point s k) (dependence s i) → at t.steps j < at t.steps k
  -- a block sends to at most 2m - β other blocks, of which each is counted once (document 02, U3)
  pub receivers : (b : ℕ) → b < p.blocks → receiver_count s t.blocks p.blocks b + chosen_of s ≤ 2 * count_of s
  -- and to no more than `most_receivers` answers, which is asked for the nest alone
  pub most : (r : Receivers) → Bounds s r → (b : ℕ) → b < p.blocks
      → receiver_count s t.blocks p.blocks b ≤ r.most
  -- a block is on one processor, and a processor is one of the machine's
  pub one_processor : (j k : ℕ) → Iteration s j → Iteration s k
      → at t.blocks j ≡ at t.blocks k → at t.processors j ≡ at t.processors k
  pub processor_below : (k : ℕ) → Iteration s k → at t.processors k < 2 ^ to_ℕ s.cube
  -- so many processors hold an iteration, and so many messages there are
  pub processor_count_is : p.processors ≡ processor_count s
  pub message_count_is : p.messages ≡ message_pairs s
  -- each value is the weighted sum of the values of its sources
  pub value : (k : ℕ) → Iteration s k → at t.values k ≡ value_of (rule_of s) s (values_of s) k

-- ---- read and written

-- a call that wrote these bytes in front of what stood behind them
abbrev pub Wrote : Bytes → Bytes → Writing → Bytes → Type 0
Wrote bytes old w new =
    (w ≡ record { refusal = 0; length = lib.ListN.length bytes })
    × (new ≡ bytes ++ drop (lib.ListN.length bytes) old)

pub record SameText : Type 0 where
  -- `read` gives an accepted nest, with 0 in the places that its text has no field for, exactly if
  -- the text is what is written for it, or its long form where the boundary values of two
  -- dependences or more are all equal
  pub reads_as : (s : LoopNest) (text : Bytes) (r : Reading) → refusal s ≡ 0 → Reads text r
      → (r ≡ record { refusal = 0; nest = cleared s }) ↔ TextFor s text
  -- reading what `write` left gives the nest, with 0 in the places that its text has no field for
  pub reads_written : (s : LoopNest) (old new : Bytes) (w : Writing) (r : Reading)
      → Writes s old w new → w.refusal ≡ 0 → Reads (take w.length new) r
      → r ≡ record { refusal = 0; nest = cleared s }
  -- writing what `read` gave, into a buffer that has room for what is written, gives the same
  -- bytes, unless the last line was a long one of equal boundary values; then the short text of the
  -- same nest
  pub writes_read : (text old new : Bytes) (r : Reading) (w : Writing)
      → Reads text r → r.refusal ≡ 0 → Writes r.nest old w new
      → lib.ListN.length (text_of r.nest) ≤ lib.ListN.length old
      → Wrote text old w new ⊎ (LongEqual r.nest text × Wrote (text_with r.nest (short_last r.nest)) old w new)
  -- which is no longer than what was read
  pub no_longer : (text : Bytes) (r : Reading) → Reads text r → r.refusal ≡ 0
      → lib.ListN.length (text_of r.nest) ≤ lib.ListN.length text

-- ---- refusals

-- a call answers k exactly if k is what its order of refusals says: the number of the first whose
-- condition is met, 0 where none is
abbrev pub Exactly : Order → ℕ → Type 0
Exactly order number = (k : ℕ) → (number ≡ k) ↔ Answered order k

-- the order of a call of `plan` that is lent these tables
abbrev pub tables_order : LoopNest → Tables → Order
tables_order s t =
    plan_order s (lib.ListN.length t.steps) (lib.ListN.length t.blocks) (lib.ListN.length t.processors)
    (lib.ListN.length t.values)

-- of every entry
pub record Conditions : Type 0 where
  pub check : (s : LoopNest) (r : ℕ) → Checks s r → Exactly (nest_order s) r
  pub inspect : (s : LoopNest) (r : Inspection) → Inspects s r → Exactly (nest_order s) r.refusal
  pub most_receivers : (s : LoopNest) (r : Receivers) → Bounds s r → Exactly (nest_order s) r.refusal
  pub read : (text : Bytes) (r : Reading) → Reads text r → Exactly (read_order text) r.refusal
  pub write : (s : LoopNest) (old : Bytes) (r : Writing) (new : Bytes) → Writes s old r new
      → Exactly (write_order s (lib.ListN.length old)) r.refusal
  pub locate : (s : LoopNest) (entries : ℕ) (i : ℤ) (r : Span) → Locates s entries i r
      → Exactly (row_order s entries i) r.refusal
  pub row : (s : LoopNest) (table : List ℕ) (i : ℤ) (part : List ℕ) (k : ℕ) → Cuts s table i part k
      → Exactly (row_order s (lib.ListN.length table) i) k
  pub fill : (s : LoopNest) (old : List ℕ) (r : ℕ) (new : List ℕ) → Fills s old r new
      → Exactly (fill_order s (lib.ListN.length old)) r
  pub plan : (s : LoopNest) (old : Tables) (r : Planning) (new : Tables) → Plans s old r new
      → Exactly (tables_order s old) r.refusal
  pub list : (text old : Bytes) (r : Writing) (new : Bytes) → Lists text old r new
      → Exactly (list_order text (lib.ListN.length old)) r.refusal
  pub move : (s : LoopNest) (L : Layout) (st : State ℕ) (mv : Move) (r : Answer) (st' : State ℕ)
      → Makes s L st mv r st' → Exactly (move_order s L st mv) (number_of r)

-- ---- the demand
pub record Demand2 : Type 0 where
  pub plan : (s : LoopNest) (old : Tables) (p : Planning) (t : Tables) → Plans s old p t → p.refusal ≡ 0
      → IsPlan s old p t
  pub refusals : Conditions
  pub text : SameText
