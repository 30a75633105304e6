-- Steps that are numbered anew in the same order (document 02, U2). A compute takes its processor's
-- iteration least in step, then in rank: it compares steps and looks at nothing else of them. So no
-- move, and no run, can tell such layouts apart. proofs/OrderLaws.antt proves `SameRun` from
-- `SameOrder` for any nest, and `StepsChangeNothing` for every accepted one.
-- Assumes nothing.
use Rattle.std.specs.Prelude.{◌≡◌, List, ◌++◌, ◌↔◌, ℕ, ◌<◌, length, get_or}
use Rattle.nest.specs.declared.LoopNest.{LoopNest}
use Rattle.nest.specs.Points.{points_of}
use Rattle.partition.specs.Partition.{steps_of, elapsed_of}
use Rattle.sequential.specs.Sequential.{Rule}
use Rattle.execution.specs.Rules.{Move, Effect, Layout}
use Rattle.execution.specs.Machine.{Machine, machine_run, machine_told}
use Rattle.execution.specs.Run.{State, move_effect, run, answers}

-- two layouts that differ in the numbers of the steps alone
pub record SameOrder (s : LoopNest) (L M : Layout) : Type 0 where
  -- the processors are the same
  pub processors : L.processors ≡ M.processors
  -- the tables of steps are equally long, so that 14 is the same
  pub as_long : length L.steps ≡ length M.steps
  -- an iteration is at an earlier step than another in both, or in neither
  pub earlier : (j k : ℕ) → j < length (points_of s) → k < length (points_of s)
      → (get_or L.steps j 0 < get_or L.steps k 0) ↔ (get_or M.steps j 0 < get_or M.steps k 0)

-- two layouts that no moves tell apart, from whatever machine or state they are made
pub record SameRun (s : LoopNest) (L M : Layout) : Type 1 where
  -- the machine answers the moves the same, however its effects are told
  pub told : {A : Type 0} (tell : Effect → A) (b : Machine) (ms : List Move)
      → machine_told s L tell b ms ≡ machine_told s M tell b ms
  -- and holds the same after them
  pub held : (b : Machine) (ms : List Move) → machine_run s L b ms ≡ machine_run s M b ms
  -- on lent tables of any content a move comes to the same
  pub comes_to : {Val : Type 0} (st : State Val) (mv : Move) → move_effect s L st mv ≡ move_effect s M st mv
  -- moves are answered the same, under any rule
  pub answered : {Val : Type 0} (R : Rule Val) (st : State Val) (ms : List Move)
      → answers R s L st ms ≡ answers R s M st ms
  -- and leave the same
  pub left : {Val : Type 0} (R : Rule Val) (st : State Val) (ms : List Move) → run R s L st ms ≡ run R s M st ms

-- ---- document 02's steps (U2) in place of document 01's

-- lent tables that begin with these steps
abbrev pub on_steps : List ℕ → List ℕ → List ℕ → Layout
on_steps steps behind processors = record { steps = steps ++ behind; processors = processors }

-- they change no run, whatever stands behind the steps and whatever the processors are
abbrev pub StepsChangeNothing : LoopNest → Type 1
StepsChangeNothing s =
    (behind processors : List ℕ)
    → SameRun s (on_steps (steps_of s) behind processors) (on_steps (elapsed_of s) behind processors)
