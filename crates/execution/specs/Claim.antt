-- Demand 3 as one statement about a whole list of moves, on any layout that is `Causal`; the
-- planner's is one. The other hypotheses are that the nest is accepted, `Planned` and `Fresh`; the
-- conclusion is `Outcome`. proofs/Demand.antt proves it of every accepted nest.
-- Assumes nothing.
use Rattle.std.specs.Prelude.{◌≡◌, true, false, List, [], ◌∷◌, ◌++◌, ◌≢◌, ℕ, ◌+◌, ◌^◌, ◌≤◌, ◌<◌, length, get_or, drop}
use Rattle.std.proofs.Math.Option.{some}
use Rattle.nest.specs.declared.LoopNest.{LoopNest}
use Rattle.nest.specs.Nest.{to_ℕ, count_of}
use Rattle.nest.specs.Points.{points_of}
use Rattle.nest.specs.Sources.{source_rank}
use Rattle.mapping.specs.Mapping.{is_message}
use Rattle.sequential.specs.Sequential.{Rule, sequential}
use Rattle.execution.specs.Rules.{Move, Layout}
use Rattle.execution.specs.Machine.{Machine, with_iteration, with_message, machine_answer, reference_run}
use Rattle.execution.specs.Machine.{reference_answers, computed_count, delivered_count, messages_on, allowed_count}
use Rattle.execution.specs.Run.{State, bit, with_value, with_bit, state_refusal, move_answer, move_after, run, answers}

-- ---- hypotheses

-- a layout that a nest can be run on: a step and a processor for each iteration, every dependence
-- leads to a later step, and each processor is one of the machine's
pub record Causal (s : LoopNest) (M : Layout) : Type 0 where
  pub steps_each : length M.steps ≡ length (points_of s)
  pub processors_each : length M.processors ≡ length (points_of s)
  pub sooner : (k i j : ℕ) → k < length (points_of s) → i < count_of s → source_rank s k i ≡ some j
      → get_or M.steps j 0 < get_or M.steps k 0
  pub housed : (k : ℕ) → k < length (points_of s) → get_or M.processors k 0 < 2 ^ to_ℕ s.cube

-- lent tables begin with those of a layout, whatever stands behind them
pub record Planned (M L : Layout) : Type 0 where
  pub behind_steps : List ℕ
  pub behind_processors : List ℕ
  pub steps : L.steps ≡ M.steps ++ behind_steps
  pub processors : L.processors ≡ M.processors ++ behind_processors

-- the state has an entry for each iteration, and the iterations' done and delivered bytes are 0
pub record Fresh {Val : Type 0} (s : LoopNest) (st : State Val) : Type 0 where
  pub values_room : length (points_of s) ≤ length st.values
  pub done_room : length (points_of s) ≤ length st.done
  pub delivered_room : length (points_of s) ≤ length st.delivered
  pub none_done : (k : ℕ) → k < length (points_of s) → get_or st.done k 0 ≡ 0
  pub none_delivered : (k : ℕ) → k < length (points_of s) → get_or st.delivered k 0 ≡ 0

-- ---- what the state holds

-- The state st, reached from st₀, holds what the machine b holds.
pub record Holds {Val : Type 0} (R : Rule Val) (s : LoopNest) (st₀ : State Val) (b : Machine)
    (st : State Val) : Type 0 where
  -- a done byte is 1 exactly for a computed iteration; the others are 0
  pub done : (k : ℕ) → k < length (points_of s) → b.computed k ≡ true → get_or st.done k 0 ≡ 1
  pub not_done : (k : ℕ) → k < length (points_of s) → b.computed k ≡ false → get_or st.done k 0 ≡ 0
  -- a bit of a delivered byte is 1 exactly for a delivered message; all others are 0
  pub delivered : (k i : ℕ) → k < length (points_of s) → bit i (get_or st.delivered k 0) ≡ b.delivered k i
  -- a computed iteration has the sequential loop's value
  pub value : (k : ℕ) → k < length (points_of s) → b.computed k ≡ true → (d : Val)
      → get_or st.values k d ≡ get_or (sequential R s) k d
  -- a missing iteration's value entry is as at the start
  pub missing : (k : ℕ) → k < length (points_of s) → b.computed k ≡ false → (d : Val)
      → get_or st.values k d ≡ get_or st₀.values k d
  -- entries beyond the last iteration are as at the start, and no buffer changes its length
  pub values_behind : drop (length (points_of s)) st.values ≡ drop (length (points_of s)) st₀.values
  pub done_behind : drop (length (points_of s)) st.done ≡ drop (length (points_of s)) st₀.done
  pub delivered_behind : drop (length (points_of s)) st.delivered ≡ drop (length (points_of s)) st₀.delivered
  pub values_length : length st.values ≡ length st₀.values
  pub done_length : length st.done ≡ length st₀.done
  pub delivered_length : length st.delivered ≡ length st₀.delivered

-- ---- what one move does

-- A move that finds the machine at b and the state at st answers a number and leaves another
-- machine and state: it computes one iteration that was missing, or delivers one message that was
-- not delivered, and changes nothing else; a refused one changes nothing.
pub data Change {Val : Type 0} (R : Rule Val) (s : LoopNest) (M : Layout) (b : Machine) (st : State Val)
    : ℕ → Machine → State Val → Type 0 where
  one_iteration : {k : ℕ} {x : Val} → k < length (points_of s) → b.computed k ≡ false
      → ((d : Val) → x ≡ get_or (sequential R s) k d)
      → Change R s M b st 0 (with_iteration b k) (with_value st k x)
  one_message : {k i : ℕ} → k < length (points_of s) → i < count_of s → is_message s M.processors k i ≡ true
      → b.delivered k i ≡ false
      → Change R s M b st 0 (with_message b k i) (with_bit st k i)
  nothing : {a : ℕ} → a ≢ 0 → Change R s M b st a b st

-- ---- the end of a run

-- no iteration is missing
abbrev pub NoneMissing : LoopNest → Machine → Type 0
NoneMissing s b = (k : ℕ) → k < length (points_of s) → b.computed k ≡ true

-- no move is allowed
abbrev pub NoneAllowed : {Val : Type 0} → LoopNest → Layout → State Val → Type 0
NoneAllowed s L st = (mv : Move) → move_answer s L st mv ≢ 0

-- the table is the sequential loop's, every message is delivered, and allowed
-- moves = iterations + messages
pub record Complete {Val : Type 0} (R : Rule Val) (s : LoopNest) (M : Layout) (st₀ : State Val) (b : Machine)
    (st : State Val) (numbers : List ℕ) : Type 0 where
  pub table : st.values ≡ sequential R s ++ drop (length (points_of s)) st₀.values
  pub all_delivered : (k i : ℕ) → k < length (points_of s) → i < count_of s
      → b.delivered k i ≡ is_message s M.processors k i
  pub all_allowed : allowed_count numbers ≡ length (points_of s) + messages_on s M

-- ---- what a list of moves comes to
pub record Outcome {Val : Type 0} (R : Rule Val) (s : LoopNest) (M L : Layout) (st₀ : State Val)
    (ms : List Move) : Type 0 where
  -- the numbers answered are the reference machine's, in order
  pub same_answers : answers R s L st₀ ms ≡ reference_answers s M ms
  -- the state holds what the reference machine holds
  pub holds : Holds R s st₀ (reference_run s M ms) (run R s L st₀ ms)
  -- each move of the list computes one iteration or delivers one message and changes nothing else;
  -- a refused one changes nothing
  pub each_move : (front back : List Move) (mv : Move) → ms ≡ front ++ (mv ∷ back)
      → Change R s M (reference_run s M front) (run R s L st₀ front) (move_answer s L (run R s L st₀ front) mv)
      (reference_run s M (front ++ (mv ∷ []))) (run R s L st₀ (front ++ (mv ∷ [])))
  -- none of the refusals 2 to 14 comes up, at any move
  pub no_refusal : (front back : List Move) → ms ≡ front ++ back → state_refusal s L (run R s L st₀ front) ≡ 0
  -- allowed moves = computed iterations + delivered messages
  pub allowed : allowed_count (answers R s L st₀ ms)
      ≡ computed_count s (reference_run s M ms) + delivered_count s (reference_run s M ms)
  -- while an iteration is missing some move is allowed
  pub progress : (k : ℕ) → k < length (points_of s) → (reference_run s M ms).computed k ≡ false
      → (mv : Move) × (machine_answer s M (reference_run s M ms) mv ≡ 0) × (move_answer s L (run R s L st₀ ms) mv ≡ 0)
  -- so when no move is allowed, no iteration is missing; and the reverse
  pub none_allowed : NoneAllowed s L (run R s L st₀ ms) → NoneMissing s (reference_run s M ms)
  pub none_missing : NoneMissing s (reference_run s M ms) → NoneAllowed s L (run R s L st₀ ms)
  -- when no move is allowed, and likewise when no iteration is missing, the run is complete
  pub complete_unless_allowed : NoneAllowed s L (run R s L st₀ ms)
      → Complete R s M st₀ (reference_run s M ms) (run R s L st₀ ms) (answers R s L st₀ ms)
  pub complete_unless_missing : NoneMissing s (reference_run s M ms)
      → Complete R s M st₀ (reference_run s M ms) (run R s L st₀ ms) (answers R s L st₀ ms)

-- ---- calls

-- a call that makes a move under a rule: the number answered, and the state left
abbrev pub MoveCall : {Val : Type 0} → Rule Val → LoopNest → Layout → State Val → Move → ℕ → State Val → Type 0
MoveCall R s L st mv a st' = (a ≡ move_answer s L st mv) × (st' ≡ move_after R s L st mv)

-- A list of such calls, each with the same nest and tables and with the state as the
-- call before left it. proofs/Demand.antt shows that the numbers and the last state are
-- those of `answers` and `run`.
pub data Calls {Val : Type 0} (R : Rule Val) (s : LoopNest) (L : Layout) : State Val → List Move → List ℕ → State Val
    → Type 0 where
  no_call : {st : State Val} → Calls R s L st [] [] st
  call : {st st' last : State Val} {mv : Move} {ms : List Move} {a : ℕ} {numbers : List ℕ} → MoveCall R s L st mv a st'
      → Calls R s L st' ms numbers last → Calls R s L st (mv ∷ ms) (a ∷ numbers) last
