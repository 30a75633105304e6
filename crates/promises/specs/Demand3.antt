-- Demand 3 (document 00): whatever pace the processors keep, a list of moves from a fresh state on
-- a nest's own plan answers, computes and delivers what document 01's reference machine does, and
-- ends in the table of the sequential loop. It is said of what calls of the entries answered and
-- left, with nothing taken from the statement that `execution` proves. Assumes nothing.
use Rattle.std.specs.Prelude.{◌≡◌, true, false, List, [], ◌∷◌, ◌++◌, map, ◌≢◌, ℕ, ◌+◌, ◌^◌, ◌≤◌, ◌<◌, length, get_or}
use Rattle.std.specs.Prelude.{set}
use Rattle.nest.specs.declared.LoopNest.{LoopNest}
use Rattle.nest.specs.Nest.{count_of}
use Rattle.nest.specs.Points.{points_of}
use Rattle.mapping.specs.Mapping.{Message}
use Rattle.sequential.specs.Sequential.{Rule, sequential, rule_of}
use Rattle.planner.specs.Plan.{Planning}
use Rattle.planner.specs.Plan.{Tables, Plans}
use Rattle.execution.specs.declared.Move as asked
use Rattle.execution.specs.Answer.{Answer}
use Rattle.execution.specs.Rules.{Move, Effect, answer, Layout}
use Rattle.execution.specs.Machine.{Machine, fresh_machine, with_iteration, with_message, layout_of}
use Rattle.execution.specs.Machine.{computed_count, delivered_count, allowed_count}
use Rattle.execution.specs.Words.{SaysList}
use Rattle.execution.specs.Run.{State, bit}
use Rattle.execution.specs.Claim.{MoveCall, Calls}
use Rattle.execution.specs.Entry.{layout_in, move_of, number_of, EntryCalls, told_by}
use Rattle.foreign.specs.Numbers.{Asked, asked_move, made_in, NumberCalls}
use Rattle.promises.specs.Iterations.{Iteration, behind}

-- ---- what is spoken of

-- iteration k and dependence i are a message of the nest's plan
abbrev pub PlanMessage : LoopNest → ℕ → ℕ → Type 0
PlanMessage s k i = Iteration s k × (i < count_of s) × Message s (layout_of s).processors k i

-- the reference machine, nothing computed or delivered at first, answers the moves so and then
-- holds b
abbrev pub Reference : {A : Type 0} → (Effect → A) → LoopNest → List Move → List A → Machine → Type 0
Reference tell s ms told b = SaysList tell s (layout_of s) fresh_machine ms told b

-- ---- from what a list of moves starts

-- fresh: the state has an entry for each iteration, and the iterations' done and delivered bytes
-- are all 0
pub record FreshState {Val : Type 0} (s : LoopNest) (st : State Val) : Type 0 where
  pub value_each : length (points_of s) ≤ length st.values
  pub done_each : length (points_of s) ≤ length st.done
  pub delivered_each : length (points_of s) ≤ length st.delivered
  pub done_zero : (k : ℕ) → Iteration s k → get_or st.done k 0 ≡ 0
  pub delivered_zero : (k : ℕ) → Iteration s k → get_or st.delivered k 0 ≡ 0

-- the tables L are the step and processor tables that a call of `plan` left, which was not refused
-- and answered p
pub record OnPlan (s : LoopNest) (p : Planning) (L : Layout) : Type 0 where
  pub old : Tables
  pub new : Tables
  pub plans : Plans s old p new
  pub not_refused : p.refusal ≡ 0
  pub lent : L ≡ layout_in new.steps new.processors

module _ {Val : Type 0} (R : Rule Val) (s : LoopNest) where
  -- ---- what one move does

  -- iteration k's value x is written and its done byte becomes 1
  abbrev pub value_written : State Val → ℕ → Val → State Val
  value_written st k x = record { values = set st.values k x; done = set st.done k 1; delivered = st.delivered }

  -- bit i of iteration k's delivered byte becomes 1
  abbrev pub bit_set : State Val → ℕ → ℕ → State Val
  bit_set st k i = record {
    values = st.values;
    done = st.done;
    delivered = set st.delivered k (get_or st.delivered k 0 + 2 ^ i);
  }

  -- A move that finds the machine b and the state st is answered a number and leaves another
  -- machine and state: it computes one missing iteration, or delivers one message that was not
  -- delivered, or is refused, with one of the numbers 15 to 18, and changes nothing.
  pub data OneMove (b : Machine) (st : State Val) : ℕ → Machine → State Val → Type 0 where
    computes_one : (k : ℕ) (x : Val) → Iteration s k → b.computed k ≡ false
        → ((d : Val) → x ≡ get_or (sequential R s) k d)
        → OneMove b st 0 (with_iteration b k) (value_written st k x)
    delivers_one : (k i : ℕ) → PlanMessage s k i → b.delivered k i ≡ false
        → OneMove b st 0 (with_message b k i) (bit_set st k i)
    changes_nothing : (a : ℕ) → 15 ≤ a → a ≤ 18 → OneMove b st a b st

  -- ---- what a list of moves comes to
  module _ (p : Planning) (L : Layout) (st₀ : State Val) where
    -- no move is allowed in the state st: whatever is called, the number answered is not 0
    abbrev pub NothingAllowed : State Val → Type 0
    NothingAllowed st = (mv : Move) (a : ℕ) (st' : State Val) → MoveCall R s L st mv a st' → a ≢ 0

    -- no iteration is missing and every message is delivered, the table is the sequential loop's,
    -- and allowed moves = iterations + messages, as `plan` counted them
    pub record Finished (b : Machine) (numbers : List ℕ) (last : State Val) : Type 0 where
      pub all_computed : (k : ℕ) → Iteration s k → b.computed k ≡ true
      pub all_delivered : (k i : ℕ) → PlanMessage s k i → b.delivered k i ≡ true
      pub table : last.values ≡ sequential R s ++ behind s st₀.values
      pub all_allowed : allowed_count numbers ≡ p.iterations + p.messages

    -- The moves ms, made from the state st₀ on the tables L of the plan p, were answered these
    -- numbers and left the state `last`.
    pub record Comes (ms : List Move) (numbers : List ℕ) (last : State Val) : Type 0 where
      -- the numbers are the reference machine's, in order, by document 01's sentences; this is what
      -- it then holds
      pub machine : Machine
      pub answers : Reference answer s ms numbers machine
      -- a done byte is 1 exactly for a computed iteration; the iterations' others are 0
      pub done : (k : ℕ) → Iteration s k → machine.computed k ≡ true → get_or last.done k 0 ≡ 1
      pub not_done : (k : ℕ) → Iteration s k → machine.computed k ≡ false → get_or last.done k 0 ≡ 0
      -- a delivered bit is 1 exactly for a delivered message; all others are 0
      pub delivered : (k i : ℕ) → Iteration s k → bit i (get_or last.delivered k 0) ≡ machine.delivered k i
      -- each computed iteration holds the value of the sequential loop
      pub value : (k : ℕ) → Iteration s k → machine.computed k ≡ true
          → (d : Val) → get_or last.values k d ≡ get_or (sequential R s) k d
      -- missing iterations' value entries are as at the start
      pub missing : (k : ℕ) → Iteration s k → machine.computed k ≡ false
          → (d : Val) → get_or last.values k d ≡ get_or st₀.values k d
      -- entries beyond the last iteration keep their contents, and no buffer changes its length
      pub values_behind : behind s last.values ≡ behind s st₀.values
      pub done_behind : behind s last.done ≡ behind s st₀.done
      pub delivered_behind : behind s last.delivered ≡ behind s st₀.delivered
      pub values_length : length last.values ≡ length st₀.values
      pub done_length : length last.done ≡ length st₀.done
      pub delivered_length : length last.delivered ≡ length st₀.delivered
      -- a further move, whatever it is, computes one iteration or delivers one message, or is
      -- refused and changes nothing; the reference machine goes along
      pub one_more : (mv : Move) (a : ℕ) (st : State Val) → MoveCall R s L last mv a st
          → (b : Machine) × Reference answer s (ms ++ (mv ∷ [])) (numbers ++ (a ∷ [])) b × OneMove machine last a b st
      -- so allowed moves = computed iterations + delivered messages
      pub allowed : allowed_count numbers ≡ computed_count s machine + delivered_count s machine
      -- while an iteration is missing some move is allowed
      pub progress : (k : ℕ) → Iteration s k → machine.computed k ≡ false
          → (mv : Move) × ((a : ℕ) (st : State Val) → MoveCall R s L last mv a st → a ≡ 0)
      -- so when none is, the table is the sequential loop's and allowed moves = iterations +
      -- messages
      pub none_allowed : NothingAllowed last → Finished machine numbers last
      -- and so it is when no iteration is missing; then no move is allowed
      pub none_missing : ((k : ℕ) → Iteration s k → machine.computed k ≡ true)
          → Finished machine numbers last × NothingAllowed last

-- ---- the demand
pub record Demand3 : Type 1 where
  -- for every rule that makes an iteration's value from its place and its sources
  pub every_rule : {Val : Type 0} (R : Rule Val) (s : LoopNest) (p : Planning) (L : Layout) → OnPlan s p L
      → (st₀ : State Val) → FreshState s st₀
      → (ms : List Move) (numbers : List ℕ) (last : State Val) → Calls R s L st₀ ms numbers last
      → Comes R s p L st₀ ms numbers last
  -- for calls of `make_move`, whose rule is the weighted sum: all that, and each answer says what
  -- the machine did
  pub calls : (s : LoopNest) (p : Planning) (L : Layout) → OnPlan s p L
      → (st₀ : State ℕ) → FreshState s st₀
      → (whats : List asked.Move) (rs : List Answer) (last : State ℕ) → EntryCalls s L st₀ whats rs last
      → Comes (rule_of s) s p L st₀ (map move_of whats) (map number_of rs) last
      × ((b : Machine) × Reference (told_by s) s (map move_of whats) rs b)
  -- for calls of `rowlock_move`, on numbers: the same
  pub number_calls : (s : LoopNest) (p : Planning) (L : Layout) → OnPlan s p L
      → (st₀ : State ℕ) → FreshState s st₀
      → (asks : List Asked) (numbers : List ℕ) (mades : List (List ℕ)) (last : State ℕ)
      → NumberCalls s L st₀ asks numbers mades last
      → Comes (rule_of s) s p L st₀ (map (λ a. move_of (asked_move a)) asks) numbers last
      × ((b : Machine) × Reference (λ x. made_in (told_by s x)) s (map (λ a. move_of (asked_move a)) asks) mades b)
