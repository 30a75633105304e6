-- One more loop around a nest, which has one index and along which no vector moves, changes no step, no group and no block. Assumes nothing.
use mathlib.Core.Path.{◌≡◌, refl, ap, ap₂, ◌∙◌}
use mathlib.Core.List.{List, [], ◌∷◌, map, Memᴰ}
use Prim.Native.Nat.{◌<◌}
use lib.IntN.{ℤ}
use lib.ListN.{length}
use lib.Signed.{lt_z}
use Rattle.integers.specs.Lists.{firsts, count}
use Rattle.integers.specs.Vector.{Vector, dots, eq_z}
use Rattle.integers.proofs.Images.{behind, map_images}
use Rattle.integers.proofs.ListFacts.{firsts_cover}
use Rattle.integers.proofs.Lists.{T_true, place-below}
use Rattle.nest.specs.declared.LoopNest.{LoopNest}
use Rattle.nest.specs.Nest.{depth_of, time_of, dependences_of}
use Rattle.nest.specs.Outermost.{Outermost}
use Rattle.nest.specs.Points.{points_of}
use Rattle.nest.proofs.Lengths.{time_length}
use Rattle.nest.proofs.Outermost.{outer-points}
use Rattle.grouping.specs.Grouping.{Frame, Group, frame, same_class, seeds, class_number, group, blocks, block_number}
use Rattle.grouping.proofs.Classes.{same-class_refl}
use Rattle.grouping.proofs.Frames.{frame_sound}
use Rattle.grouping.proofs.Leading.{dots-lead, lead, lead_frame, frame-lead, seeds-lead, group-lead}
use Rattle.grouping.proofs.Vectors.{mem-length}
use Rattle.partition.specs.Partition.{distinct_products, step, step_number, steps_of, step_count, frame_of, groups_of, blocks_of, block_count}
use Rattle.partition.proofs.Nests.{dependences_length, points-length}

-- ---- steps, over any points

module _ (x : ℤ) (P : Vector) (ps : List Vector) where
  -- the distinct products are the same
  products-lead : distinct_products (lead P) (map (behind x) ps) ≡ distinct_products P ps
  unfolding distinct_products
  products-lead = ap (firsts eq_z) (map_images (behind x) (dots (lead P)) (dots P) (dots-lead x P) ps)

  -- the step of a point
  step-lead : (j : Vector) → step (lead P) (map (behind x) ps) (behind x j) ≡ step P ps j
  unfolding step
  step-lead j = ap₂ (λ (d : ℤ) (zs : List ℤ). count (λ z. lt_z z d) zs) (dots-lead x P j) products-lead

  -- those of all
  steps-lead : map (step (lead P) (map (behind x) ps)) (map (behind x) ps) ≡ map (step P ps) ps
  steps-lead = map_images (behind x) (step (lead P) (map (behind x) ps)) (step P ps) step-lead ps

  -- how many there are
  number-lead : step_number (lead P) (map (behind x) ps) ≡ step_number P ps
  unfolding step_number
  number-lead = ap (λ (zs : List ℤ). length zs) products-lead

-- ---- groups, over any points that are in a seed's class

-- functions that agree on a list's members
map_members : {A B C : Type 0} (f : A → B) (g : B → C) (h : A → C) (xs : List A) → ((x : A) → Memᴰ x xs → g (f x) ≡ h x) → map g (map f xs) ≡ map h xs
map_members f g h [] same = refl
map_members {C = C} f g h (x ∷ xs) same =
    ap₂ (λ (y : C) (l : List C). y ∷ l) (same x (Memᴰ.head refl)) (map_members f g h xs (λ y m. same y (Memᴰ.tail m)))

-- the groups of some points, by the seeds among them
abbrev groups : Frame → List Vector → List Group
groups F ps = map (group F (seeds F ps)) ps

groups-lead : (x : ℤ) (F : Frame) (ps : List Vector) → ((j : Vector) → Memᴰ j ps → class_number F (seeds F ps) j < length (seeds F ps)) → groups (lead_frame F) (map (behind x) ps) ≡ groups F ps
groups-lead x F ps low =
    ap (λ (sds : List Vector). map (group (lead_frame F) sds) (map (behind x) ps)) (seeds-lead x F ps)
    ∙ map_members (behind x) (group (lead_frame F) (map (behind x) (seeds F ps))) (group F (seeds F ps)) ps (λ j m. group-lead x F (seeds F ps) j (low j m))

-- each index point of a nest is in a seed's class
class_low : (s : LoopNest) (j : Vector) → Memᴰ j (points_of s) → class_number (frame_of s) (seeds (frame_of s) (points_of s)) j < length (seeds (frame_of s) (points_of s))
unfolding class_number seeds frame_of
class_low s j m =
    place-below (same_class (frame_of s) j) (firsts (same_class (frame_of s)) (points_of s))
    (T_true
    (firsts_cover (same_class (frame_of s)) (points_of s) j
    (same-class_refl (depth_of s) (frame_of s) (frame_sound (depth_of s) (time_of s) (dependences_of s) (time_length s) (dependences_length s)) j (mem-length (depth_of s) (points_of s) (points-length s) j m)) m))

-- ---- the two nests

module _ {s t : LoopNest} (o : Outermost s t) where
  -- steps
  pub outer-steps : steps_of s ≡ steps_of t
  unfolding steps_of
  outer-steps = ap₂ (λ (P : Vector) (ps : List Vector). map (step P ps) ps) o.times (outer-points o) ∙ steps-lead o.index (time_of t) (points_of t)

  -- their number
  pub outer-step-count : step_count s ≡ step_count t
  unfolding step_count
  outer-step-count = ap₂ step_number o.times (outer-points o) ∙ number-lead o.index (time_of t) (points_of t)

  -- the frame
  outer-frame : frame_of s ≡ lead_frame (frame_of t)
  unfolding frame_of
  outer-frame = ap₂ frame o.times o.dependences_are ∙ frame-lead (time_of t) (dependences_of t)

  -- groups
  pub outer-groups : groups_of s ≡ groups_of t
  unfolding groups_of
  outer-groups = ap₂ groups outer-frame (outer-points o) ∙ groups-lead o.index (frame_of t) (points_of t) (class_low t)

  -- blocks
  pub outer-blocks : blocks_of s ≡ blocks_of t
  unfolding blocks_of
  outer-blocks = ap (λ (gs : List Group). map (block_number (blocks gs)) gs) outer-groups

  -- their number
  pub outer_block_count : block_count s ≡ block_count t
  unfolding block_count
  outer_block_count = ap (λ (gs : List Group). length (blocks gs)) outer-groups
