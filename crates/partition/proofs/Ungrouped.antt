-- Document 01: "If all projections are zero there is none, and each projected point is a group." There is no grouping vector, no vector is chosen (β = 0), and
-- two iterations are in one group, and so in one block, exactly if their projections are equal.
-- Assumes nothing.
use mathlib.Core.Path.{◌≡◌, refl, sym, ap, ap₂, ◌∙◌}
use mathlib.Core.Logic.{◌↔◌}
use mathlib.Core.List.{List, [], ◌∷◌}
use Prim.Native.Nat.{ℕ, ◌<◌}
use native.Mathlib.Nat.{suc-ne-zero}
use lib.IntN.{ℤ}
use lib.ListN.{length}
use Rattle.integers.specs.Vector.{Vector}
use Rattle.nest.specs.declared.LoopNest.{LoopNest}
use Rattle.nest.specs.Nest.{count_of, time_of, dependences_of}
use Rattle.nest.specs.Points.{points_of, point}
use Rattle.nest.specs.Refusals.{refusal, dependence}
use Rattle.grouping.specs.Projection.{projection}
use Rattle.grouping.specs.Grouping.{shifted, grouping_vector, extend, chosen_vectors, chosen_count, Zero, frame, directions, SameClass, Group}
use Rattle.partition.specs.Partition.{frame_of, chosen_of, class_of, group_at, block_at}
use Rattle.grouping.proofs.Vectors.{→is_zero_v}
use Rattle.grouping.proofs.Chosen.{no_grouping_iff}
use Rattle.grouping.proofs.Frames.{extend-none}
use Rattle.partition.proofs.Theorems.{no_grouping_vector, block_iff, group-class, along-length, class-number_iff}

-- a list of length 0 has no entry
no_entry : {A : Type 0} (xs : List A) → length xs ≡ 0 → xs ≡ []
no_entry [] e = refl
no_entry (x ∷ xs) e = absurd (suc-ne-zero (length xs) e)

module _ (s : LoopNest) (ok : refusal s ≡ 0) (zero : (i : ℕ) → i < count_of s → Zero (projection (time_of s) (dependence s i))) where
  -- there is no grouping vector
  pub none-groups : grouping_vector (time_of s) (dependences_of s) ≡ []
  none-groups = (no_grouping_vector s ok).1 zero

  -- and no auxiliary vector
  pub none-chosen : chosen_vectors (time_of s) (dependences_of s) ≡ []
  unfolding chosen_vectors
  none-chosen =
      ap (λ vs. extend (time_of s) vs (dependences_of s)) none-groups
      ∙ extend-none (time_of s) (dependences_of s) (λ d m. →is_zero_v (projection (time_of s) d) ((no_grouping_iff (time_of s) (dependences_of s)).0 none-groups d m))

  -- β is 0
  pub none-counted : chosen_of s ≡ 0
  unfolding chosen_count
  none-counted = ap length none-chosen

  -- the frame has no vector
  frame-none : (frame_of s).chosen ≡ []
  unfolding frame_of frame
  frame-none = none-chosen

  -- two iterations are in one class exactly if their projections are equal
  pub class-is-point : (j k : ℕ) → SameClass (frame_of s) (point s j) (point s k) ↔ (projection (time_of s) (point s j) ≡ projection (time_of s) (point s k))
  unfolding shifted frame_of frame
  class-is-point j k = (
    λ c. c.combines ∙ ap (λ (cs : List ℤ). shifted (projection (time_of s) (point s k)) cs (directions (frame_of s))) (no_entry c.coordinates (c.each ∙ ap length frame-none)),
    λ e. record { coordinates = []; each = sym (ap length frame-none); combines = e },
  )

  -- in one group exactly if their projections are equal: each projected point is a group
  pub group-is-point : (j k : ℕ) → j < length (points_of s) → k < length (points_of s) → (group_at s j ≡ group_at s k) ↔ (projection (time_of s) (point s j) ≡ projection (time_of s) (point s k))
  group-is-point j k hj hk = (
    λ e. (class-is-point j k).0 ((class-number_iff s ok j k hj hk).0 (sym (group-class s ok j hj) ∙ ap (λ (g : Group). g.class) e ∙ group-class s ok k hk)),
    λ e. same ((class-number_iff s ok j k hj hk).1 ((class-is-point j k).1 e)),
  )
    where
      empty : (i : ℕ) → i < length (points_of s) → (group_at s i).along ≡ []
      empty i h = no_entry (group_at s i).along (along-length s ok i h ∙ none-counted)

      same : class_of s j ≡ class_of s k → group_at s j ≡ group_at s k
      same q =
          ap₂ (λ (c : ℕ) (v : Vector). let r : Group = record { class = c; along = v } in r)
          (group-class s ok j hj ∙ q ∙ sym (group-class s ok k hk)) (empty j hj ∙ sym (empty k hk))

  -- and in one block exactly if their projections are equal
  pub block_is-point : (j k : ℕ) → j < length (points_of s) → k < length (points_of s) → (block_at s j ≡ block_at s k) ↔ (projection (time_of s) (point s j) ≡ projection (time_of s) (point s k))
  block_is-point j k hj hk = (
    λ e. (group-is-point j k hj hk).0 ((block_iff s ok j k hj hk).0 e),
    λ e. (block_iff s ok j k hj hk).1 ((group-is-point j k hj hk).1 e),
  )
