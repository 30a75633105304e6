-- Nests with the same parts have the same plan; so places of the struct that are no part of a nest change nothing that `plan` answers or writes.
-- Assumes nothing.
use mathlib.Core.Path.{◌≡◌, ap}
use mathlib.Core.List.{[], ◌∷◌, map}
use lib.Dec.{eqb}
use lib.ListN.{length}
use Rattle.integers.specs.Lists.{tab, count, firsts, total}
use Rattle.nest.specs.declared.LoopNest.{LoopNest}
use Rattle.nest.specs.Nest.{to_ℕ, cleared}
use Rattle.nest.specs.Refusals.{refusal}
use Rattle.nest.proofs.Places.{SameParts, same_points, same_source, accepted-same}
use Rattle.grouping.specs.Grouping.{frame, seeds, group, blocks, block_number}
use Rattle.partition.specs.Partition.{step, step_number, steps_of, step_count, frame_of, groups_of, blocks_of, block_count}
use Rattle.mapping.specs.Mapping.{undealt, dealt, directions_of, processor, processors_of, processor_count, crosses, is_message, message_count}
use Rattle.sequential.proofs.Ignored.{same-values}
use Rattle.planner.specs.Plan.{counts_of, SamePlan}

module _ {s t : LoopNest} (p : SameParts s t) where
  same-steps : steps_of s ≡ steps_of t
  unfolding steps_of
  same-steps = λ x. let ps = same_points p x in map (step (p.times x) ps) ps

  same-groups : groups_of s ≡ groups_of t
  unfolding groups_of frame_of
  same-groups = λ x. let F = frame (p.times x) (p.dependences_are x) in let ps = same_points p x in map (group F (seeds F ps)) ps

  same_blocks : blocks_of s ≡ blocks_of t
  unfolding blocks_of
  same_blocks = ap (λ gs. map (block_number (blocks gs)) gs) same-groups

  same-processors : processors_of s ≡ processors_of t
  unfolding processors_of directions_of
  same-processors = λ x. let gs = same-groups x in map (processor (dealt (to_ℕ (p.cubes x)) (undealt (blocks gs)))) gs

  same-messages : message_count s ≡ message_count t
  unfolding message_count is_message
  same-messages = λ x.
      let ps = same-processors x in
      total (tab (λ k. count (λ i. crosses ps k (same_source p k i x)) (tab (λ i. i) (to_ℕ (p.counts x)))) (length (same_points p x)))

  same-counts : counts_of s ≡ counts_of t
  unfolding counts_of step_count block_count processor_count
  same-counts = λ x. length (same_points p x) ∷ step_number (p.times x) (same_points p x) ∷ length (blocks (same-groups x)) ∷ length (firsts eqb (same-processors x)) ∷ same-messages x ∷ []

  pub same-plan : SamePlan s t
  same-plan = record { steps = same-steps; blocks_are = same_blocks; processors = same-processors; values = same-values p; counts = same-counts }

-- the places that are no part of a nest are ignored; by nest Places.cleared-refusal it is refused alike, too
pub plan_ignored : (s : LoopNest) → refusal s ≡ 0 → SamePlan (cleared s) s
plan_ignored s ok = same-plan (accepted-same s ok)
