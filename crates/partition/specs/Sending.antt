-- To how many other blocks a block sends, and to how many at most (document 02, U3; 000, theorem
-- 2). Nothing here asks for a class: dependences that leave theirs count too.
-- Assumes nothing.
use Rattle.std.specs.Prelude.{◌≡◌, Bool, true, false, List, ℕ, ◌-◌, ◌*◌, ◌<◌, eqb, length, get_or, Result}
use Rattle.std.proofs.Math.Option.{none, some}
use Rattle.integers.specs.Lists.{any, tab, count}
use Rattle.nest.specs.declared.LoopNest.{LoopNest}
use Rattle.nest.specs.Nest.{count_of}
use Rattle.nest.specs.Points.{points_of}
use Rattle.nest.specs.Sources.{source_rank}
use Rattle.nest.specs.Refusals.{refusal}
use Rattle.nest.specs.declared.refusals.Refusal.{Refusal}
use Rattle.nest.specs.Outcomes.{number_in, value_in}
use Rattle.partition.specs.Partition.{chosen_of}

-- ---- block a sends to block b, in a table that has the block of each iteration

-- a dependence leads from an iteration of a to an iteration of b
pub record Sends (s : LoopNest) (table : List ℕ) (a b : ℕ) : Type 0 where
  pub to : ℕ
  pub iteration : to < length (points_of s)
  pub along : ℕ
  pub listed : along < count_of s
  pub from : ℕ
  pub leads : source_rank s to along ≡ some from
  pub sender : get_or table from 0 ≡ a
  pub receiver : get_or table to 0 ≡ b

-- the same as a test (proofs/Sends.antt: the test is that): the source of iteration k along
-- dependence i is an iteration of a
unfoldable pub comes_from : LoopNest → List ℕ → ℕ → ℕ → ℕ → Bool
comes_from s table a k i = elim (source_rank s k i) [ none ↦ false | some j ↦ eqb (get_or table j 0) a ]

-- iteration k has a source in a
unfoldable pub has_source_in : LoopNest → List ℕ → ℕ → ℕ → Bool
has_source_in s table a k = any (comes_from s table a k) (tab (λ i. i) (count_of s))

-- some iteration of b has
unfoldable pub sends_to : LoopNest → List ℕ → ℕ → ℕ → Bool
sends_to s table a b =
    any (λ k. elim (eqb (get_or table k 0) b) as (λ _. Bool) [ true ↦ has_source_in s table a k | false ↦ false ])
    (tab (λ k. k) (length (points_of s)))

-- ---- how many

-- b is another block than a, and a sends to it
unfoldable pub receives : LoopNest → List ℕ → ℕ → ℕ → Bool
receives s table a b = elim (eqb b a) [ true ↦ false | false ↦ sends_to s table a b ]

-- to how many other blocks a sends, of so many blocks
unfoldable pub receiver_count : LoopNest → List ℕ → ℕ → ℕ → ℕ
receiver_count s table blocks a = count (receives s table a) (tab (λ b. b) blocks)

-- 2m - β, which is the most (proofs/Theorem2.antt)
unfoldable pub most_receivers : LoopNest → ℕ
most_receivers s = 2 * count_of s - chosen_of s

-- ---- what a call of `most_receivers` promises

-- an answer: the number of the first refusal with 0, or 0 with the number of other blocks to which
-- a block sends at most
pub record Receivers : Type 0 where
  pub refusal : ℕ
  pub most : ℕ

-- the same of what the call answers
abbrev pub receivers_of : Result ℕ Refusal → Receivers
receivers_of answer = record { refusal = number_in answer; most = value_in 0 answer }

-- the most for an accepted nest, 0 for a refused one
unfoldable pub bound_of : LoopNest → ℕ
bound_of s = elim (eqb (refusal s) 0) [ true ↦ most_receivers s | false ↦ 0 ]

-- the call answers r
abbrev pub Bounds : LoopNest → Receivers → Type 0
Bounds s r = r ≡ record { refusal = refusal s; most = bound_of s }
