-- Demand 1 (document 00): whoever calls, with any nest, table or move, gets a plan, a table, a move
-- done or one refusal from the list; a refusal changes no lent byte. It is said of every entry, by
-- what its contract promises; and so is that number 12 is not used (document 02, U8).
-- Assumes nothing.
use Rattle.std.specs.Prelude.{◌≡◌, ◌≢◌, ◌↔◌, ℕ, ℤ}
use mathlib.Core.List.{List, [], ◌∷◌, ◌++◌, Memᴰ}
use Rattle.nest.specs.declared.LoopNest.{LoopNest}
use Rattle.nest.specs.Refusals.{Inspection}
use Rattle.nest.specs.Nest.{empty_nest}
use Rattle.nest.specs.Refusals.{nest_numbers, Checks, Inspects}
use Rattle.nest_text.specs.Fields.{Bytes}
use Rattle.nest_text.specs.Answered.{Reading}
use Rattle.nest_text.specs.Answered.{Writing}
use Rattle.nest_text.specs.Text.{Reads, Writes}
use Rattle.rows.specs.Rows.{Span}
use Rattle.rows.specs.Rows.{Locates, Cuts}
use Rattle.sequential.specs.Sequential.{Fills}
use Rattle.partition.specs.Sending.{Receivers, Bounds}
use Rattle.planner.specs.Plan.{Planning}
use Rattle.planner.specs.Plan.{Tables, Plans}
use Rattle.planner.specs.Listing.{Lists}
use Rattle.execution.specs.Answer.{Answer}
use Rattle.execution.specs.Rules.{Move, compute, deliver, Layout}
use Rattle.execution.specs.Run.{State}
use Rattle.execution.specs.declared.Move as asked
use Rattle.execution.specs.Entry.{move_of, number_of, Makes}
use Rattle.foreign.specs.Numbers.{numbers_of, ReadsInto, MakesInto}

-- ---- the refusals of document 01 that each call has, by their numbers, in the order in which they
-- are tested; 12 is not used

-- of a nest and a lent buffer: 2 to 14
abbrev pub buffer_numbers : List ℕ
buffer_numbers = nest_numbers ++ (14 ∷ [])

-- of a row: 2 to 14, then 19
abbrev pub row_numbers : List ℕ
row_numbers = nest_numbers ++ (14 ∷ 19 ∷ [])

-- of a text: line 1's form, then 2, 3, 4; the form of the remaining lines; then 5 to 13
abbrev pub text_numbers : List ℕ
text_numbers = 1 ∷ 2 ∷ 3 ∷ 4 ∷ 1 ∷ 5 ∷ 6 ∷ 7 ∷ 8 ∷ 9 ∷ 10 ∷ 11 ∷ 13 ∷ []

-- of a move: 2 to 14, then 18, 17, 15 or 18, 16
abbrev pub move_numbers : Move → List ℕ
move_numbers (compute p) = nest_numbers ++ (14 ∷ 18 ∷ 17 ∷ 15 ∷ [])
move_numbers (deliver k i) = nest_numbers ++ (14 ∷ 18 ∷ 16 ∷ [])

-- ---- one outcome

-- A call promises P of its outcome, which is what it answers and what it leaves in its buffers;
-- `number` is the number answered.
pub record OneOutcome (A : Type 0) (P : A → Type 0) (number : A → ℕ) (listed : List ℕ)
    (Untouched : A → Type 0) : Type 0 where
  -- there is an outcome that the promise allows, and no other
  pub outcome : A
  pub promised : P outcome
  pub no_other : (a : A) → P a → a ≡ outcome
  -- the number is 0, or one of the refusals listed
  pub number_listed : Memᴰ (number outcome) (0 ∷ listed)
  -- a refusal answers nothing beside its number and leaves every buffer as it was
  pub refused : number outcome ≢ 0 → Untouched outcome

-- a call that writes bytes into a buffer wrote none: an answer, and the buffer that it left
abbrev pub NoBytes : Bytes → Writing × Bytes → Type 0
NoBytes old o = (o.0.length ≡ 0) × (o.1 ≡ old)

-- every count of an answer of `plan` is 0
pub record NoCounts (p : Planning) : Type 0 where
  pub iterations : p.iterations ≡ 0
  pub steps : p.steps ≡ 0
  pub blocks : p.blocks ≡ 0
  pub processors : p.processors ≡ 0
  pub messages : p.messages ≡ 0

-- ---- every entry

-- What is said of every entry: of its outcomes, what a call promises of them, the number answered,
-- the refusals that it has, and what a refusal leaves untouched.
pub record EveryEntry (Says : (A : Type 0) → (A → Type 0) → (A → ℕ) → List ℕ → (A → Type 0) → Type 0) : Type 0 where
  pub check : (s : LoopNest) → Says ℕ (Checks s) (λ r. r) nest_numbers (λ r. Unit {0})
  pub inspect : (s : LoopNest) → Says Inspection (Inspects s) (λ r. r.refusal) nest_numbers (λ r. r.iterations ≡ 0)
  pub most_receivers : (s : LoopNest) → Says Receivers (Bounds s) (λ r. r.refusal) nest_numbers (λ r. r.most ≡ 0)
  pub read : (text : Bytes) → Says Reading (Reads text) (λ r. r.refusal) text_numbers (λ r. r.nest ≡ empty_nest)
  pub write : (s : LoopNest) (old : Bytes)
      → Says (Writing × Bytes) (λ o. Writes s old o.0 o.1) (λ o. o.0.refusal) buffer_numbers (NoBytes old)
  pub locate : (s : LoopNest) (entries : ℕ) (i : ℤ)
      → Says Span (Locates s entries i) (λ r. r.refusal) row_numbers (λ r. (r.start ≡ 0) × (r.length ≡ 0))
  pub row : (s : LoopNest) (table : List ℕ) (i : ℤ)
      → Says (List ℕ × ℕ) (λ o. Cuts s table i o.0 o.1) (λ o. o.1) row_numbers (λ o. o.0 ≡ [])
  pub fill : (s : LoopNest) (old : List ℕ)
      → Says (ℕ × List ℕ) (λ o. Fills s old o.0 o.1) (λ o. o.0) buffer_numbers (λ o. o.1 ≡ old)
  pub plan : (s : LoopNest) (old : Tables)
      → Says (Planning × Tables) (λ o. Plans s old o.0 o.1) (λ o. o.0.refusal) buffer_numbers
      (λ o. NoCounts o.0 × (o.1 ≡ old))
  pub list : (text old : Bytes)
      → Says (Writing × Bytes) (λ o. Lists text old o.0 o.1) (λ o. o.0.refusal) (text_numbers ++ (14 ∷ []))
      (NoBytes old)
  pub move : (s : LoopNest) (L : Layout) (st : State ℕ) (mv : Move)
      → Says (Answer × State ℕ) (λ o. Makes s L st mv o.0 o.1) (λ o. number_of o.0) (move_numbers mv)
      (λ o. o.1 ≡ st)
  -- the two exported functions whose promises are not an entry's word for word: they store as
  -- numbers what the entry answers
  pub read_into : (text : Bytes)
      → Says (ℕ × List ℤ) (λ o. ReadsInto text o.0 o.1) (λ o. o.0) text_numbers
      (λ o. o.1 ≡ numbers_of empty_nest)
  pub move_into : (s : LoopNest) (L : Layout) (st : State ℕ) (what : asked.Move)
      → Says (ℕ × List ℕ × State ℕ) (λ o. MakesInto s L st what o.0 o.1 o.2) (λ o. o.0)
      (move_numbers (move_of what)) (λ o. (o.1 ≡ 0 ∷ 0 ∷ []) × (o.2 ≡ st))

-- ---- the demand
pub record Demand1 : Type 0 where
  pub entries : EveryEntry OneOutcome
  -- a part is empty exactly if the call is refused
  pub row_empty : (s : LoopNest) (table : List ℕ) (i : ℤ) (part : List ℕ) (k : ℕ) → Cuts s table i part k
      → (part ≡ []) ↔ (k ≢ 0)

-- ---- a number that is not used (document 02, U8)

-- no outcome that a call promises has the number n
abbrev pub Never : ℕ → (A : Type 0) → (A → Type 0) → (A → ℕ) → Type 0
Never n A P number = (a : A) → P a → number a ≢ n

-- no entry answers it
abbrev pub Unused : ℕ → Type 0
Unused n = EveryEntry (λ A P number listed Untouched. Never n A P number)

-- 12, which stood for a time vector that is zero
abbrev pub TwelveUnused : Type 0
TwelveUnused = Unused 12
