-- The rules of a move once more, in document 01's sentences, for whatever a move looks at, and its
-- refusals in their order. proofs/WordLaws.antt shows that the executable rules are exactly these.
-- Assumes nothing.
use Rattle.std.specs.Prelude.{◌≡◌, true, false, List, [], ◌∷◌, ◌++◌, ◌≢◌, ◌⊎◌, ℕ, ◌^◌, ◌≤◌, ◌<◌, length}
use Rattle.std.proofs.Math.Option.{some}
use Rattle.nest.specs.declared.LoopNest.{LoopNest}
use Rattle.nest.specs.Nest.{to_ℕ, count_of}
use Rattle.nest.specs.Points.{points_of}
use Rattle.nest.specs.Refusals.{OneShort, Order, nest_order}
use Rattle.nest.specs.Sources.{source_rank}
use Rattle.mapping.specs.Mapping.{Message}
use Rattle.execution.specs.Rules.{Move, compute, deliver, Effect, refuse, iteration, message, Layout, View}
use Rattle.execution.specs.Rules.{step_in, processor_in}
use Rattle.execution.specs.Run.{State, state_view}
use Rattle.execution.specs.Machine.{Machine, machine_after, machine_view}

-- processor p takes its missing (not done) iteration least in step, then in rank
pub record Takes (s : LoopNest) (v : View) (p k : ℕ) : Type 0 where
  pub is_iteration : k < length (points_of s)
  pub on_processor : processor_in v k ≡ p
  pub missing : v.done k ≡ false
  pub least_step : (c : ℕ) → c < length (points_of s) → processor_in v c ≡ p → v.done c ≡ false
      → step_in v k ≤ step_in v c
  pub least_rank : (c : ℕ) → c < length (points_of s) → processor_in v c ≡ p → v.done c ≡ false
      → step_in v c ≡ step_in v k
      → k ≤ c

-- the source j of iteration k along dependence i is there: done if on
-- processor p, delivered otherwise
abbrev pub Present : View → ℕ → ℕ → ℕ → ℕ → Type 0
Present v p k i j = (processor_in v j ≡ p → v.done j ≡ true) × (processor_in v j ≢ p → v.delivered k i ≡ true)

-- it is not: it is on p and not done, or on another processor and its message not delivered
abbrev pub Absent : View → ℕ → ℕ → ℕ → ℕ → Type 0
Absent v p k i j = ((processor_in v j ≡ p) × (v.done j ≡ false)) ⊎ ((processor_in v j ≢ p) × (v.delivered k i ≡ false))

-- iteration k and dependence i are a message: the source is an iteration on another processor
abbrev pub Sent : LoopNest → View → ℕ → ℕ → Type 0
Sent s v k i = Message s v.layout.processors k i

-- all iterations of processor p are done
abbrev pub Idle : LoopNest → View → ℕ → Type 0
Idle s v p = (k : ℕ) → k < length (points_of s) → processor_in v k ≡ p → v.done k ≡ true

-- a source of the iteration that processor p takes is an iteration and not there
abbrev pub SourceAbsent : LoopNest → View → ℕ → Type 0
SourceAbsent s v p =
    (k : ℕ) × (i : ℕ) × (j : ℕ) × Takes s v p k × (i < count_of s) × (source_rank s k i ≡ some j) × Absent v p k i j

-- the rank is no iteration or the dependence number at least m
abbrev pub NoPlace : LoopNest → ℕ → ℕ → Type 0
NoPlace s k i = (length (points_of s) ≤ k) ⊎ (count_of s ≤ i)

-- that is no message, its source is not done, or it is delivered
abbrev pub OutOfTurn : LoopNest → View → ℕ → ℕ → Type 0
OutOfTurn s v k i = (Sent s v k i → ⊥)
    ⊎ (((m : Sent s v k i) × (v.done m.rank ≡ false)) ⊎ (v.delivered k i ≡ true))

-- a move and its effect
pub data Says (s : LoopNest) (v : View) : Move → Effect → Type 0 where
  -- compute on processor p: 18 if p is at least 2^c
  no_processor : {p : ℕ} → 2 ^ to_ℕ s.cube ≤ p → Says s v (compute p) (refuse 18)
  -- 17 if all iterations of p are done
  idle_processor : {p : ℕ} → p < 2 ^ to_ℕ s.cube → Idle s v p → Says s v (compute p) (refuse 17)
  -- otherwise 15 if a source that is an iteration is not there
  waiting : {p k i j : ℕ} → p < 2 ^ to_ℕ s.cube → Takes s v p k → i < count_of s → source_rank s k i ≡ some j
      → Absent v p k i j → Says s v (compute p) (refuse 15)
  -- otherwise the iteration is computed
  computes : {p k : ℕ} → p < 2 ^ to_ℕ s.cube → Takes s v p k
      → ((i j : ℕ) → i < count_of s → source_rank s k i ≡ some j → Present v p k i j)
      → Says s v (compute p) (iteration k)
  -- delivery: 18 if the rank is no iteration or the dependence number at least m
  no_place : {k i : ℕ} → NoPlace s k i → Says s v (deliver k i) (refuse 18)
  -- 16 if that is no message, its source is not done, or it is delivered
  out_of_turn : {k i : ℕ} → k < length (points_of s) → i < count_of s → OutOfTurn s v k i
      → Says s v (deliver k i) (refuse 16)
  -- otherwise it is delivered
  delivers : {k i : ℕ} → k < length (points_of s) → i < count_of s → (m : Sent s v k i) → v.done m.rank ≡ true
      → v.delivered k i ≡ false
      → Says s v (deliver k i) (message k i)

-- ---- the refusals of a move in their order (proofs/Answers.antt: the number is what they answer)

-- those of the rules: compute on processor p 18, 17, 15; delivery 18, 16
abbrev pub rule_order : LoopNest → View → Move → Order
rule_order s v (compute p) = (18, 2 ^ to_ℕ s.cube ≤ p) ∷ (17, Idle s v p) ∷ (15, SourceAbsent s v p) ∷ []
rule_order s v (deliver k i) = (18, NoPlace s k i) ∷ (16, OutOfTurn s v k i) ∷ []

-- one of the five buffers has fewer entries than there are iterations
abbrev pub BufferShort : {Val : Type 0} → LoopNest → Layout → State Val → Type 0
BufferShort s L st =
    let iterations = length (points_of s) in
    OneShort iterations (length L.steps) (length L.processors) (length st.values) (length st.done)
    ⊎ (length st.delivered < iterations)

-- all of them: 2 to 13, then 14, then those of the rules
abbrev pub move_order : {Val : Type 0} → LoopNest → Layout → State Val → Move → Order
move_order s L st mv = nest_order s ++ ((14, BufferShort s L st) ∷ rule_order s (state_view L st) mv)

-- a whole list of moves, by the sentences alone: what a machine that holds b answers on this
-- layout, each effect told so, and what it then holds
pub data SaysList {A : Type 0} (tell : Effect → A) (s : LoopNest) (L : Layout)
    : Machine → List Move → List A → Machine → Type 0 where
  no_move : {b : Machine} → SaysList tell s L b [] [] b
  next_move : {b last : Machine} {mv : Move} {ms : List Move} {x : Effect} {told : List A}
      → Says s (machine_view L b) mv x → SaysList tell s L (machine_after b x) ms told last
      → SaysList tell s L b (mv ∷ ms) (tell x ∷ told) last
