-- The moves of a machine that runs a loop nest, and the rules that answer them (document 01, "The
-- run"). An iteration is named by its rank, a dependence by its number. The rules stand here once,
-- for whatever a move looks at: the reference machine's sets, or lent tables of any content.
-- specs/Words.antt has them in the document's sentences.
-- Assumes nothing.
use Rattle.std.specs.Prelude.{Bool, true, false, not, ◌&&◌, List, ℕ, zero, suc, ◌^◌, eqb, ltb, length, get_or}
use Rattle.std.proofs.Math.Option.{Option, none, some}
use Rattle.nest.specs.declared.LoopNest.{LoopNest}
use Rattle.nest.specs.Nest.{to_ℕ, count_of}
use Rattle.nest.specs.Points.{points_of}
use Rattle.nest.specs.Sources.{source_rank}
use Rattle.mapping.specs.Mapping.{is_message}

-- ---- tests of the numbers below k

-- every one passes
unfoldable pub every : (ℕ → Bool) → ℕ → Bool
every t zero = true
every t (suc k) = every t k && t k

-- the better of k and the best so far: k, if it passes and none does before it or its key is
-- less than that of the best
unfoldable pub better : (ℕ → ℕ) → ℕ → Bool → Option ℕ → Option ℕ
better key k false best = best
better key k true none = some k
better key k true (some b) = elim (ltb (key k) (key b)) [ true ↦ some k | false ↦ some b ]

-- of those that pass, the one with the least key, and the first of several such
unfoldable pub least : (ℕ → Bool) → (ℕ → ℕ) → ℕ → Option ℕ
least test key zero = none
least test key (suc k) = better key k (test k) (least test key k)

-- ---- moves

-- a compute on a processor (document 01: card), or a delivery that names a rank and a dependence
-- number (offset number); any numbers
pub data Move : Type 0 where
  compute : ℕ → Move
  deliver : ℕ → ℕ → Move

-- what a move comes to: it is refused with a number, or computes one iteration, or delivers the
-- message of an iteration along a dependence
pub data Effect : Type 0 where
  refuse : ℕ → Effect
  iteration : ℕ → Effect
  message : ℕ → ℕ → Effect

-- the number answered: 0 for a move that is made
abbrev pub answer : Effect → ℕ
answer (refuse a) = a
answer (iteration k) = 0
answer (message k i) = 0

-- ---- what a move looks at

-- the step and the processor of each iteration, as two tables
pub record Layout : Type 0 where
  pub steps : List ℕ
  pub processors : List ℕ

-- the layout, which iterations are done, and which messages are delivered
pub record View : Type 0 where
  pub layout : Layout
  pub done : ℕ → Bool
  pub delivered : ℕ → ℕ → Bool

-- of iteration k
abbrev pub step_in : View → ℕ → ℕ
step_in v k = get_or v.layout.steps k 0

abbrev pub processor_in : View → ℕ → ℕ
processor_in v k = get_or v.layout.processors k 0

-- ---- the rules

-- iteration k is on processor p and not done
abbrev pub waits : View → ℕ → ℕ → Bool
waits v p k = not (v.done k) && eqb (processor_in v k) p

-- the source of iteration k along dependence i is there for processor p: done if on p, its message
-- delivered otherwise; one that is no iteration always is
abbrev pub there : View → ℕ → ℕ → ℕ → Option ℕ → Bool
there v p k i none = true
there v p k i (some j) = elim (eqb (processor_in v j) p) [ true ↦ v.done j | false ↦ v.delivered k i ]

-- a source is an iteration, and done
abbrev pub source_done : View → Option ℕ → Bool
source_done v none = false
source_done v (some j) = v.done j

-- compute on processor p, once the iteration that it takes is known: 17 if there is none, 15
-- if a source is not there
unfoldable pub taking : LoopNest → View → ℕ → Option ℕ → Effect
taking s v p none = refuse 17
taking s v p (some k) = elim (every (λ i. there v p k i (source_rank s k i)) (count_of s)) [
  | true ↦ iteration k
  | false ↦ refuse 15
]

-- the message of an iteration along a dependence can be delivered: it is one, its source is
-- done, and it is not delivered
abbrev pub ready : LoopNest → View → ℕ → ℕ → Bool
ready s v k i = is_message s v.layout.processors k i && (source_done v (source_rank s k i) && not (v.delivered k i))

-- its delivery: 16 if it cannot be
unfoldable pub delivering : LoopNest → View → ℕ → ℕ → Effect
delivering s v k i = elim (ready s v k i) [ true ↦ message k i | false ↦ refuse 16 ]

-- a move: 18 where there is no such processor, rank or dependence. A compute takes the processor's
-- iteration that is not done, least in step, then in rank
unfoldable pub effect : LoopNest → View → Move → Effect
effect s v (compute p) =
    elim (ltb p (2 ^ to_ℕ s.cube)) [
      | true ↦ taking s v p (least (waits v p) (step_in v) (length (points_of s)))
      | false ↦ refuse 18
    ]
effect s v (deliver k i) = elim (ltb k (length (points_of s)) && ltb i (count_of s)) [
  | true ↦ delivering s v k i
  | false ↦ refuse 18
]
