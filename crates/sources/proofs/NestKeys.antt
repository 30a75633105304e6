-- The keys of an accepted nest: those of its points increase, their digits are the points, the place of the key of a source is the source's rank, and a
-- source has the smaller key. Assumes nothing.
use mathlib.Core.Path.{◌≡◌, sym, ap, ap₂, subst, subst₂, ◌∙◌}
use mathlib.Core.Bool.{false}
use mathlib.Core.List.{[], map}
use Prim.Native.Nat.{ℕ, ◌+◌, ◌*◌, ◌<◌, ◌≤◌}
use native.Mathlib.Omega.{arith}
use lib.IntN.{ℤ, pos, nat_abs, ◌-ℤ◌}
use lib.ListN.{length, get_or}
use lib.Signed.{◌<ℤ◌}
use Rattle.integers.specs.Lists.{place}
use Rattle.integers.proofs.Lists.{any-tab-each}
use Rattle.integers.specs.Vector.{Vector, AllWithin, eq_z}
use Rattle.integers.proofs.Vector.{all_wider, all-each, all-minus}
use Rattle.integers.proofs.ListFacts.{get_d_map}
use Rattle.nest.specs.declared.LoopNest.{LoopNest}
use Rattle.nest.specs.Nest.{depth_of, count_of, dependence_at, dependences_of, max_depth, max_limit, max_component}
use Rattle.nest.specs.Points.{points_of, point, rank, source}
use Rattle.nest.specs.Refusals.{refusal, backward, backward_dependence, dependence, holds}
use Rattle.nest.proofs.Accepted.{component-size}
use Rattle.nest.proofs.PointLaws.{point-length, point-size, points_ordered}
use Rattle.nest.proofs.Refused.{accepted}
use Rattle.nest.proofs.Lengths.{dependence-length}
use Rattle.nest.proofs.Sources.{source-before, source-length}
use Rattle.nest.proofs.Words.{dependence-at, part_at}
use Rattle.sources.specs.Keys.{key, digits, keys_of, Increasing}
use Rattle.sources.proofs.Digits.{digits-key}
use Rattle.sources.proofs.KeyOrder.{key-minus, key-before}
use Rattle.sources.proofs.KeyTables.{Ordered, keys_increase, place-rank}

-- ---- an accepted nest

-- of the components of a point and of a source
abbrev pub reach : ℕ
reach = max_limit + max_component

module _ (s : LoopNest) (ok : refusal s ≡ 0) where
  -- a point's indices are in span
  pub point-within : (k : ℕ) → k < length (points_of s) → AllWithin max_limit (point s k)
  point-within k h = all-each max_limit (point s k) (λ i l. point-size s k h ok i)

  -- and so are a dependence's components
  pub dependence-within : (i : ℕ) → i < count_of s → AllWithin max_component (dependence s i)
  dependence-within i h = all-each max_component (dependence s i) (λ k l. let b : k < depth_of s = (let e = dependence-length s i h in omega arith) in subst (λ (z : ℤ). nat_abs z ≤ max_component) (sym (ap (λ (v : Vector). get_or v k (pos 0)) (dependence-at s i h) ∙ part_at s.dependences (i * max_depth) (depth_of s) k b)) (component-size s ok i k h b))

  -- the points come one after the other in loop order
  pub nest_ordered : Ordered (depth_of s) reach (points_of s)
  nest_ordered = record {
    small = omega arith;
    lengths = point-length s;
    sizes_are = λ k h. all_wider max_limit reach (point s k) (omega arith) (point-within k h);
    before = points_ordered s;
  }

  -- the keys increase
  pub nest-keys_increase : Increasing (keys_of s)
  unfolding keys_of
  nest-keys_increase = keys_increase (depth_of s) reach (points_of s) nest_ordered

  -- the digits of a point's key are the point
  pub digits-point : (k : ℕ) → k < length (points_of s) → digits (depth_of s) (get_or (keys_of s) k (pos 0)) ≡ point s k
  unfolding keys_of
  digits-point k h =
      ap₂ digits (sym (point-length s k h)) (get_d_map key (points_of s) k [] (pos 0) h) ∙ digits-key max_limit (omega arith) (point s k) (point-within k h)

  module _ (k i : ℕ) (hk : k < length (points_of s)) (hi : i < count_of s) where
    -- the source
    abbrev at : Vector
    at = source (point s k) (dependence s i)

    -- a point is as long as a dependence
    same_length : length (point s k) ≡ length (dependence s i)
    same_length = point-length s k hk ∙ sym (dependence-length s i hi)

    -- the source's components are in reach
    at-within : AllWithin reach at
    unfolding source
    at-within = all-minus max_limit max_component (point s k) (dependence s i) (point-within k hk) (dependence-within i hi)

    -- it has a component for each loop
    at_length : length at ≡ depth_of s
    at_length = source-length (point s k) (dependence s i) (depth_of s) (point-length s k hk) (dependence-length s i hi)

    -- the key of the source
    pub target_is : get_or (keys_of s) k (pos 0) -ℤ key (dependence s i) ≡ key at
    unfolding keys_of source
    target_is = ap (λ (z : ℤ). z -ℤ key (dependence s i)) (get_d_map key (points_of s) k [] (pos 0) hk) ∙ sym (key-minus (point s k) (dependence s i) same_length)

    -- its place is the source's rank
    pub source-place : place (eq_z (get_or (keys_of s) k (pos 0) -ℤ key (dependence s i))) (keys_of s) ≡ rank (points_of s) at
    unfolding keys_of
    source-place = ap (λ (z : ℤ). place (eq_z z) (map key (points_of s))) (unfold keys_of in target_is) ∙ place-rank (depth_of s) reach (points_of s) nest_ordered at at_length at-within

    -- and it is below the iteration's own
    pub source-below : (get_or (keys_of s) k (pos 0) -ℤ key (dependence s i)) <ℤ get_or (keys_of s) k (pos 0)
    unfolding keys_of
    source-below =
        subst₂ (λ (x y : ℤ). x <ℤ y) (sym target_is) (sym (get_d_map key (points_of s) k [] (pos 0) hk))
        (key-before reach (omega arith) at (point s k) (at_length ∙ sym (point-length s k hk)) at-within (nest_ordered.sizes_are k hk)
        (source-before (point s k) (dependence s i) same_length forward))
      where
        forward : backward (dependence s i) ≡ false
        forward = ap backward (dependence-at s i hi) ∙ any-tab-each backward (dependence_at s.dependences (depth_of s)) (count_of s) i (unfold holds dependences_of in accepted s ok backward_dependence) hi
