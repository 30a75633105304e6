-- A nest and the same with one more loop around it that has one index and along which no vector moves: they have the same index points but for that
-- index in front, the same sources, and the same refusals. Assumes nothing.
use mathlib.Core.Path.{◌≡◌, refl, sym, ap, ap₂, subst, ◌∙◌}
use mathlib.Core.Bool.{Bool, true, false, ◌||◌}
use mathlib.Core.List.{List, [], ◌∷◌, ◌++◌, map, flat_map}
use mathlib.Core.Option.{Option, none, some}
use Prim.Native.Nat.{ℕ, zero, suc, ◌*◌, ◌<◌, ◌≤◌}
use native.Mathlib.Nat.{suc-ne-zero, one-mul}
use native.Mathlib.Omega.{arith}
use lib.Dec.{ltb}
use lib.IntN.{ℤ, pos, negsuc, neg_ℤ, ◌+ℤ◌, +ℤ_idl, +ℤ_idr}
use lib.ListN.{length, get_or, length-map}
use lib.Signed.{lt_z, ◌≤ℤ◌, ≤ℤ_refl}
use Rattle.integers.specs.Lists.{any, repeats, tab}
use Rattle.integers.specs.Vector.{Vector, dots, plus, times, minus, eq_v}
use Rattle.integers.proofs.Images.{behind, any_images, place_images, repeats_images}
use Rattle.integers.proofs.Linear.{ints}
use Rattle.integers.proofs.ListFacts.{get_d_map}
use Rattle.integers.proofs.Lists.{clash, split, or_false, any-first, any_past, flat_map-one}
use Rattle.integers.proofs.Ring.{sub_self}
use Rattle.integers.proofs.Tests.{signed}
use Rattle.integers.proofs.Vector.{plus_nil, eq_z_refl}
use Rattle.nest.specs.declared.LoopNest.{LoopNest}
use Rattle.nest.specs.Nest.{Limit, to_ℕ, depth_of, count_of, limits_of, time_of, dependences_of, boundaries_of, weights_of, nest_of, max_depth, max_dependences, max_cube, max_limit, max_iterations, max_component, max_boundary, max_weight}
use Rattle.nest.specs.Outermost.{only, Outermost, around}
use Rattle.nest.specs.Points.{extent, indices, points, points_of, point_count, rank, is_point, source}
use Rattle.nest.specs.Refusals.{Refusal, bad_depth, bad_count, bad_cube, bad_limits, too_many_points, bad_time, bad_dependence, backward_dependence, equal_dependences, against_time, bad_weight, number, header_order, body_order, outside, crossed, out_of_span, backward, against, holds, first_met, refusal}
use Rattle.nest.specs.Sources.{source_rank}
use Rattle.nest.proofs.Accepted.{depth_is, count_is}
use Rattle.nest.proofs.Conditions.{in_span}
use Rattle.nest.proofs.Lengths.{limits-length, time_length, dependences_count, dependence-length, boundaries-length, weights-length}
use Rattle.nest.proofs.Places.{Fitting, made-limits, made-time, made-boundaries, made-weights, made_dependences}
use Rattle.nest.proofs.Refused.{accepted}

-- ---- index points

-- the loop has one index
one-extent : (x : ℤ) → extent (only x) ≡ 1
unfolding extent to_ℕ
one-extent x = ap (λ z. to_ℕ (z +ℤ pos 1)) (sub_self x)

-- its own
one_index : (x : ℤ) → indices (only x) ≡ x ∷ []
unfolding indices tab
one_index x = ap (tab (λ k. x +ℤ pos k)) (one-extent x) ∙ ap (λ (z : ℤ). z ∷ []) (+ℤ_idr x)

-- each index point has it in front
points-behind : (x : ℤ) (ls : List Limit) → points (only x ∷ ls) ≡ map (behind x) (points ls)
unfolding points
points-behind x ls = ap (flat_map (λ i. map (behind i) (points ls))) (one_index x) ∙ flat_map-one (λ i. map (behind i) (points ls)) x

-- ---- ranks and sources

-- vectors with the same component in front are equal where they are equal without it
pub eq_v-behind : (x : ℤ) (v w : Vector) → eq_v (behind x v) (behind x w) ≡ eq_v v w
unfolding eq_v
eq_v-behind x v w = ap (λ b. elim b as (λ _. Bool) [ true ↦ eq_v v w | false ↦ false ]) (eq_z_refl x)

-- the test for a point
point-behind : (x : ℤ) (ps : List Vector) (j : Vector) → is_point (map (behind x) ps) (behind x j) ≡ is_point ps j
unfolding is_point
point-behind x ps j = any_images (behind x) (eq_v (behind x j)) (eq_v j) (eq_v-behind x j) ps

-- ranks
rank-behind : (x : ℤ) (ps : List Vector) (j : Vector) → rank (map (behind x) ps) (behind x j) ≡ rank ps j
unfolding rank
rank-behind x ps j = place_images (behind x) (eq_v (behind x j)) (eq_v j) (eq_v-behind x j) ps

-- sources along dependence i, and along none where there is no such dependence
source-behind : (x : ℤ) (j : Vector) (ds : List Vector) (i : ℕ) → source (behind x j) (get_or (map (behind (pos 0)) ds) i []) ≡ behind x (source j (get_or ds i []))
unfolding source plus times
source-behind x j [] i = ap (behind x) (sym (plus_nil j))
source-behind x j (d ∷ ds) zero = ap (λ (z : ℤ). z ∷ minus j d) (+ℤ_idr x)
source-behind x j (d ∷ ds) (suc i) = source-behind x j ds i

module _ {s t : LoopNest} (o : Outermost s t) where
  -- the index points
  pub outer-points : points_of s ≡ map (behind o.index) (points_of t)
  unfolding points_of
  outer-points = ap points o.limits ∙ points-behind o.index _

  -- there are as many
  pub outer-number : length (points_of s) ≡ length (points_of t)
  outer-number = ap (λ (ps : List Vector). length ps) outer-points ∙ length-map (points_of t) (behind o.index)

  -- sources of the iterations
  pub outer-source : (k i : ℕ) → k < length (points_of t) → source_rank s k i ≡ source_rank t k i
  unfolding source_rank
  outer-source k i h =
      ap₂ (λ (ps ds : List Vector). rank_of ps (source (get_or ps k []) (get_or ds i []))) outer-points o.dependences_are
      ∙ ap (rank_of qs)
      (ap (λ (j : Vector). source j (get_or (map (behind (pos 0)) (dependences_of t)) i [])) (get_d_map (behind o.index) (points_of t) k [] [] h) ∙ source-behind o.index (get_or (points_of t) k []) (dependences_of t) i)
      ∙ ap₂ (λ (b : Bool) (r : ℕ). elim b as (λ _. Option ℕ) [ true ↦ some r | false ↦ none ]) (point-behind o.index (points_of t) j) (rank-behind o.index (points_of t) j)
    where
      j : Vector
      j = source (get_or (points_of t) k []) (get_or (dependences_of t) i [])

      qs : List Vector
      qs = map (behind o.index) (points_of t)

      rank_of : List Vector → Vector → Option ℕ
      rank_of ps j = elim (is_point ps j) as (λ _. Option ℕ) [ true ↦ some (rank ps j) | false ↦ none ]

-- ---- refusals

-- not below
not_less : (a b : ℤ) → b ≤ℤ a → lt_z a b ≡ false
not_less a b h = split (lt_z a b) (λ t. absurd (omega signed)) (λ f. f)

-- from low to high
not_outside : (low high z : ℤ) → low ≤ℤ z → z ≤ℤ high → outside low high z ≡ false
unfolding outside
not_outside low high z p q = ap₂ (λ (a b : Bool). a || b) (not_less z low p) (not_less high z q)

-- limits in span that are equal are not crossed
only_uncrossed : (x : ℤ) → neg_ℤ (pos max_limit) ≤ℤ x → x ≤ℤ pos max_limit → crossed (only x) ≡ false
unfolding crossed
only_uncrossed x p q =
    let e = not_outside (neg_ℤ (pos max_limit)) (pos max_limit) x p q in
    ap₂ (λ (a b : Bool). a || b) e (ap₂ (λ (a b : Bool). a || b) e (not_less x x (≤ℤ_refl x)))

-- the number of points
number_behind : (x : ℤ) (ls : List Limit) → point_count (only x ∷ ls) ≡ point_count ls
unfolding point_count
number_behind x ls = ap (λ n. n * point_count ls) (one-extent x) ∙ one-mul (point_count ls)

-- components out of span
span_behind : (v : Vector) → out_of_span (behind (pos 0) v) ≡ out_of_span v
unfolding out_of_span
span_behind v = any_past (outside (neg_ℤ (pos max_component)) (pos max_component)) (pos 0) v (not_outside (neg_ℤ (pos max_component)) (pos max_component) (pos 0) (omega ints) (omega ints))

-- the first component that is not zero
backward-behind : (v : Vector) → backward (behind (pos 0) v) ≡ backward v
unfolding backward
backward-behind v = ap (λ b. elim b as (λ _. Bool) [ true ↦ backward v | false ↦ lt_z (pos 0) (pos 0) ]) (eq_z_refl (pos 0))

-- the inner product with the time vector
against-behind : (P d : Vector) → against (behind (pos 0) P) (behind (pos 0) d) ≡ against P d
unfolding against dots
against-behind P d = ap (λ z. lt_z z (pos 1)) (+ℤ_idl (dots P d))

-- a size that is not 0 is the number's own
size_own : (z : ℤ) (n : ℕ) → to_ℕ z ≡ suc n → z ≡ pos (suc n)
unfolding to_ℕ
size_own (pos k) n e = ap pos e
size_own (negsuc k) n e = absurd (suc-ne-zero n (sym e))

-- it is in span where it is not above the most
size-inside : (high : ℕ) (z : ℤ) (n : ℕ) → to_ℕ z ≡ suc n → suc n ≤ high → outside (pos 1) (pos high) z ≡ false
size-inside high z n e h = ap (outside (pos 1) (pos high)) (size_own z n e) ∙ not_outside (pos 1) (pos high) (pos (suc n)) (omega ints) (omega ints)

-- nests that meet the same conditions are refused alike
first-same : (s t : LoopNest) → ((r : Refusal) → holds s r ≡ holds t r) → (rs : List Refusal) → first_met s rs ≡ first_met t rs
unfolding first_met
first-same s t h [] = refl
first-same s t h (r ∷ rs) = ap₂ (λ (b : Bool) (n : ℕ). elim b as (λ _. ℕ) [ true ↦ number r | false ↦ n ]) (h r) (first-same s t h rs)

module _ {s t : LoopNest} (o : Outermost s t) where
  -- one loop more
  pub outer_depth : depth_of s ≡ suc (depth_of t)
  outer_depth = sym (limits-length s) ∙ ap (λ (ls : List Limit). length ls) o.limits ∙ ap suc (limits-length t)

  module _ (deep : 1 ≤ depth_of t) (few : depth_of t < max_depth) (lowest : neg_ℤ (pos max_limit) ≤ℤ o.index) (highest : o.index ≤ℤ pos max_limit) where
    -- both depths are in span
    depths-inside : holds s bad_depth ≡ holds t bad_depth
    unfolding holds
    depths-inside = size-inside max_depth s.depth (depth_of t) outer_depth few ∙ sym (inner (depth_of t) refl)
      where
        inner : (n : ℕ) → depth_of t ≡ n → outside (pos 1) (pos max_depth) t.depth ≡ false
        inner zero e = absurd (omega arith)
        inner (suc n) e = size-inside max_depth t.depth n e (omega arith)

    -- they meet the same conditions
    outer-holds : (r : Refusal) → holds s r ≡ holds t r
    unfolding holds
    outer-holds bad_depth = depths-inside
    outer-holds bad_count = ap (outside (pos 1) (pos max_dependences)) o.counts
    outer-holds bad_cube = ap (outside (pos 0) (pos max_cube)) o.cubes
    outer-holds bad_limits = ap (any crossed) o.limits ∙ any_past crossed (only o.index) (limits_of t) (only_uncrossed o.index lowest highest)
    outer-holds too_many_points = ap (λ (ls : List Limit). ltb max_iterations (point_count ls)) o.limits ∙ ap (ltb max_iterations) (number_behind o.index (limits_of t))
    outer-holds bad_time = ap out_of_span o.times ∙ span_behind (time_of t)
    outer-holds bad_dependence = ap (any out_of_span) o.dependences_are ∙ any_images (behind (pos 0)) out_of_span out_of_span span_behind (dependences_of t)
    outer-holds backward_dependence = ap (any backward) o.dependences_are ∙ any_images (behind (pos 0)) backward backward backward-behind (dependences_of t)
    outer-holds equal_dependences = ap (repeats eq_v) o.dependences_are ∙ repeats_images (behind (pos 0)) eq_v eq_v (eq_v-behind (pos 0)) (dependences_of t)
    outer-holds against_time =
        ap₂ (λ (P : Vector) (ds : List Vector). any (against P) ds) o.times o.dependences_are
        ∙ any_images (behind (pos 0)) (against (behind (pos 0) (time_of t))) (against (time_of t)) (against-behind (time_of t)) (dependences_of t)
    outer-holds bad_weight =
        ap₂ (λ (bs ws : List ℤ). any (outside (pos 0) (pos max_boundary)) bs || any (outside (pos 0) (pos max_weight)) ws) o.boundaries_are o.weights_are

    -- and are refused alike
    pub outer-refusal : refusal s ≡ refusal t
    unfolding refusal
    outer-refusal = first-same s t outer-holds (header_order ++ body_order)

-- ---- the inner loops of an accepted nest

module _ {s t : LoopNest} (o : Outermost s t) (ok : refusal s ≡ 0) where
  -- the loop's limits are not crossed
  index_uncrossed : crossed (only o.index) ≡ false
  unfolding holds
  index_uncrossed =
      split (crossed (only o.index)) (λ c. clash (ap (any crossed) o.limits ∙ any-first crossed (only o.index) (limits_of t) c) (accepted s ok bad_limits)) (λ f. f)

  -- so its index is in span
  index_span : (neg_ℤ (pos max_limit) ≤ℤ o.index) × (o.index ≤ℤ pos max_limit)
  unfolding crossed
  index_span =
      let a = outside (neg_ℤ (pos max_limit)) (pos max_limit) o.index in
      in_span (neg_ℤ (pos max_limit)) (pos max_limit) o.index (or_false a (a || lt_z o.index o.index) index_uncrossed).0

  -- and they are accepted, too
  pub inner-accepted : 1 ≤ depth_of t → refusal t ≡ 0
  inner-accepted deep = sym (outer-refusal o deep (omega (arith, (depth_is s ok).1, outer_depth o)) index_span.0 index_span.1) ∙ ok

-- ---- such a nest, made from the inner one

-- its parts fit
around-fits : (x : ℤ) (t : LoopNest) → depth_of t < max_depth
    → Fitting (only x ∷ limits_of t) (pos 0 ∷ time_of t) (map (behind (pos 0)) (dependences_of t)) (boundaries_of t) (weights_of t)
around-fits x t few = record {
  few = subst (λ n. suc n ≤ max_depth) (sym (limits-length t)) few;
  time_fits = ap suc (time_length t ∙ sym (limits-length t));
  each_fits = λ i l.
      let h : i < length (dependences_of t) = subst (λ n. i < n) number l in
      ap length (get_d_map (behind (pos 0)) (dependences_of t) i [] [] h) ∙ ap suc (dependence-length t i (subst (λ n. i < n) (dependences_count t) h) ∙ sym (limits-length t));
  boundaries_fit = boundaries-length t ∙ sym (dependences_count t) ∙ sym number;
  weights_fit = weights-length t ∙ sym (dependences_count t) ∙ sym number;
}
  where
    number : length (map (behind (pos 0)) (dependences_of t)) ≡ length (dependences_of t)
    number = length-map (dependences_of t) (behind (pos 0))

module _ (x : ℤ) (t : LoopNest) (few : depth_of t < max_depth) where
  -- a nest of fewer loops than the most has one more loop around it
  pub around-outermost : t.count ≡ pos (count_of t) → Outermost (around x t) t
  unfolding around
  around-outermost counted =
      let ds = map (behind (pos 0)) (dependences_of t) in
      let fit = around-fits x t few in
      record {
        index = x;
        limits = made-limits t.cube (only x ∷ limits_of t) (pos 0 ∷ time_of t) ds (boundaries_of t) (weights_of t);
        times = made-time t.cube (only x ∷ limits_of t) (pos 0 ∷ time_of t) ds (boundaries_of t) (weights_of t) fit;
        dependences_are = made_dependences t.cube (only x ∷ limits_of t) (pos 0 ∷ time_of t) ds (boundaries_of t) (weights_of t) fit;
        boundaries_are = made-boundaries t.cube (only x ∷ limits_of t) (pos 0 ∷ time_of t) ds (boundaries_of t) (weights_of t) fit;
        weights_are = made-weights t.cube (only x ∷ limits_of t) (pos 0 ∷ time_of t) ds (boundaries_of t) (weights_of t) fit;
        counts = (unfold nest_of in ap pos (length-map (dependences_of t) (behind (pos 0)) ∙ dependences_count t) ∙ sym counted);
        cubes = (unfold nest_of in refl);
      }

  module _ (ok : refusal t ≡ 0) where
    -- so has an accepted one
    pub accepted-around : Outermost (around x t) t
    accepted-around = around-outermost (count_is t ok).2

    -- and with an index in span it is accepted, too
    pub around-accepted : neg_ℤ (pos max_limit) ≤ℤ x → x ≤ℤ pos max_limit → refusal (around x t) ≡ 0
    unfolding accepted-around around-outermost
    around-accepted lowest highest = outer-refusal accepted-around (depth_is t ok).0 few lowest highest ∙ ok
