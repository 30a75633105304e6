-- The law of one more loop (document 02, U11): a nest whose outermost loop has one index and whose vectors begin with 0 has the plan of the inner
-- loops, whatever their number; where both depths and that index are in span a call of `plan` answers and leaves the same for both. Such a nest
-- can be made from every accepted one that has fewer loops than the most. Assumes nothing.
use mathlib.Core.Path.{◌≡◌, sym, ap, ap₂, ◌∙◌}
use mathlib.Core.Bool.{true, false}
use mathlib.Core.List.{List, [], ◌∷◌}
use mathlib.Core.Logic.{◌↔◌}
use Prim.Native.Nat.{ℕ, ◌<◌, ◌≤◌}
use lib.Dec.{eqb}
use lib.IntN.{ℤ, pos, neg_ℤ}
use lib.ListN.{length, get_or}
use lib.Signed.{◌≤ℤ◌}
use Rattle.nest.specs.declared.LoopNest.{LoopNest}
use Rattle.nest.specs.Nest.{depth_of, max_depth, max_limit}
use Rattle.nest.specs.Outermost.{Outermost, around}
use Rattle.nest.specs.Points.{points_of}
use Rattle.nest.specs.Refusals.{refusal, or_else, no_room, table_after}
use Rattle.nest.proofs.Outermost.{outer-number, outer-refusal, inner-accepted, accepted-around, around-accepted}
use Rattle.partition.proofs.Outermost.{outer-steps, outer-step-count, outer-blocks, outer_block_count}
use Rattle.mapping.proofs.Outermost.{outer-processors, outer-processor-count, outer-messages}
use Rattle.sequential.proofs.Outermost.{outer-values}
use Rattle.planner.specs.Plan.{Planning}
use Rattle.planner.specs.Plan.{counts_of, plan_refusal, refused_with, plan_answer, SamePlan, Tables, tables_refusal, Plans}

-- ---- the plan

-- the counts
outer-counts : {s t : LoopNest} → Outermost s t → counts_of s ≡ counts_of t
unfolding counts_of
outer-counts o = λ x. outer-number o x ∷ outer-step-count o x ∷ outer_block_count o x ∷ outer-processor-count o x ∷ outer-messages o x ∷ []

-- a loop with one index along which no vector moves changes nothing
pub same-plan : {s t : LoopNest} → Outermost s t → SamePlan s t
same-plan o = record { steps = outer-steps o; blocks_are = outer-blocks o; processors = outer-processors o; values = outer-values o; counts = outer-counts o }

-- ---- what a call answers and leaves

-- the answer from the counts
abbrev answer_from : ℕ → List ℕ → Planning
answer_from k counts =
    elim (eqb k 0) as (λ _. Planning) [
      | true ↦ record { refusal = 0; iterations = get_or counts 0 0; steps = get_or counts 1 0; blocks = get_or counts 2 0; processors = get_or counts 3 0; messages = get_or counts 4 0 }
      | false ↦ refused_with k
    ]

-- two nests with the same plan that are refused alike
module _ {s t : LoopNest} (p : SamePlan s t) (alike : refusal s ≡ refusal t) where
  -- the same answer to a call that is refused with number k, or not refused
  answers-same : (k : ℕ) → plan_answer s k ≡ plan_answer t k
  unfolding plan_answer counts_of
  answers-same k = ap (answer_from k) p.counts

  -- the same number of iterations
  number_same : length (points_of s) ≡ length (points_of t)
  unfolding counts_of
  number_same = ap (λ (counts : List ℕ). get_or counts 0 0) p.counts

  -- the same refusal
  number-refused : (old : Tables) → tables_refusal s old ≡ tables_refusal t old
  unfolding plan_refusal
  number-refused old = ap₂ (λ (k n : ℕ). or_else k (no_room n (length old.steps) (length old.blocks) (length old.processors) (length old.values))) alike number_same

  -- what is promised of the one is promised of the other
  plans-same : (old : Tables) (r : Planning) (new : Tables) → Plans s old r new → Plans t old r new
  plans-same old r new h = (
    h.0 ∙ answers-same (tables_refusal s old) ∙ ap (plan_answer t) (number-refused old),
    (
      h.1.0 ∙ ap (λ (l : List ℕ). table_after r.refusal l old.steps) p.steps,
      (
        h.1.1.0 ∙ ap (λ (l : List ℕ). table_after r.refusal l old.blocks) p.blocks_are,
        (
          h.1.1.1.0 ∙ ap (λ (l : List ℕ). table_after r.refusal l old.processors) p.processors,
          h.1.1.1.1 ∙ ap (λ (l : List ℕ). table_after r.refusal l old.values) p.values,
        ),
      ),
    ),
  )

-- the other way round
turned : {s t : LoopNest} → SamePlan s t → SamePlan t s
turned p = record { steps = sym p.steps; blocks_are = sym p.blocks_are; processors = sym p.processors; values = sym p.values; counts = sym p.counts }

-- a call of `plan` for the nest with the loop is one for the nest without it
pub same-call : {s t : LoopNest} (o : Outermost s t) → 1 ≤ depth_of t → depth_of t < max_depth → neg_ℤ (pos max_limit) ≤ℤ o.index → o.index ≤ℤ pos max_limit
    → (old : Tables) (r : Planning) (new : Tables) → Plans s old r new ↔ Plans t old r new
same-call o deep few lowest highest old r new =
    let alike = outer-refusal o deep few lowest highest in
    (plans-same (same-plan o) alike old r new, plans-same (turned (same-plan o)) (sym alike) old r new)

-- the inner loops of an accepted nest are accepted, with its plan
pub inner-planned : {s t : LoopNest} → Outermost s t → refusal s ≡ 0 → 1 ≤ depth_of t → (refusal t ≡ 0) × SamePlan s t
inner-planned o ok deep = (inner-accepted o ok deep, same-plan o)

-- ---- every accepted nest of fewer loops than the most

module _ (x : ℤ) (t : LoopNest) (ok : refusal t ≡ 0) (few : depth_of t < max_depth) where
  -- has the plan that it has with one more loop around it
  pub around-plan : SamePlan (around x t) t
  around-plan = same-plan (accepted-around x t few ok)

  -- and that nest is accepted, too, where the loop's index is in span
  pub around-planned : neg_ℤ (pos max_limit) ≤ℤ x → x ≤ℤ pos max_limit → (refusal (around x t) ≡ 0) × SamePlan (around x t) t
  around-planned lowest highest = (around-accepted x t few ok lowest highest, around-plan)
