-- The cursors while the iterations are gone through, and what they find of an accepted nest: the ranks of the sources. Assumes nothing.
use mathlib.Core.Path.{◌≡◌, refl, sym, ap, ap₂, subst, subst₂, ◌∙◌}
use mathlib.Core.List.{List, [], ◌++◌, map}
use mathlib.Core.Logic.{⊎_elim}
use Prim.Native.Nat.{ℕ, zero, suc, ◌+◌, ◌-◌, ◌^◌, ◌<◌, ◌≤◌, zero-le}
use native.Mathlib.Omega.{arith}
use borrow.Author.Tests.{eqb-true, eqb-false}
use lib.Dec.{eqb}
use lib.IntN.{ℤ, pos, nat_abs, ◌-ℤ◌}
use lib.ListN.{length, length-map, get_or, set, take, replicate, length-append, get_or-eq_default}
use lib.Seq.{get_or-set_same, get_or-set_other, set_out, take_at}
use lib.Signed.{◌≤ℤ◌, ◌<ℤ◌}
use Rattle.std.specs.Prelude.{Option, None, Some, MatchOption}
use Rattle.std.specs.Option.{unwrap_or}
use Rattle.integers.proofs.Linear.{ints, dif}
use Rattle.integers.specs.Lists.{place}
use Rattle.integers.proofs.Lists.{split, below_or_not}
use Rattle.integers.specs.Vector.{Vector, AllWithin, eq_z}
use Rattle.integers.proofs.Vector.{all_wider}
use Rattle.integers.proofs.ListFacts.{get_d_map}
use Rattle.nest.specs.declared.LoopNest.{LoopNest}
use Rattle.nest.specs.Nest.{padded, depth_of, count_of, dependences_of, max_dependences, max_limit, max_component}
use Rattle.nest.specs.Points.{points_of, point, rank, source}
use Rattle.nest.specs.Refusals.{refusal, dependence}
use Rattle.nest.proofs.Accepted.{depth_is}
use Rattle.nest.proofs.Padding.{at-padded}
use Rattle.nest.proofs.PointLaws.{some-points, point-length}
use Rattle.nest.proofs.Lengths.{dependences_count, dependence-length}
use Rattle.sources.specs.Keys.{base, key, max_key, keys_of, distances_of, Increasing, not_below, target_in, source_in, Searchable, Behind}
use Rattle.sources.proofs.KeyOrder.{key-size}
use Rattle.sources.proofs.NestKeys.{point-within, dependence-within, nest-keys_increase, source-place, source-below}
use Rattle.sources.proofs.Places.{target_later}
use Rattle.sources.proofs.Arrays.{power-most, keys_length}

-- ---- the cursors

-- all at the front
pub at_front : (n i : ℕ) → get_or {A = ℕ} (replicate n 0) i 0 ≡ 0
at_front zero i = refl
at_front (suc n) zero = refl
at_front (suc n) (suc i) = at_front n i

module _ (ks distances : List ℤ) (m : ℕ) where
  -- no cursor at the front is past a place
  pub behind-start : (n : ℕ) → Behind ks distances 0 m (replicate n 0)
  behind-start n i h = let e = at_front n i in omega arith

  -- and the next iteration's place is no earlier
  pub behind_more : (k : ℕ) (cursors : List ℕ) → Increasing ks → k + 1 < length ks → Behind ks distances k m cursors → Behind ks distances (k + 1) m cursors
  behind_more k cursors up h b i l =
      let d = get_or distances i (pos 0) in
      let x = get_or ks k (pos 0) in
      let y = get_or ks (k + 1) (pos 0) in
      let g : x <ℤ y = up k (k + 1) (omega arith) h in
      let t = target_later (x -ℤ d) (y -ℤ d) ks (omega (ints, dif x d, dif y d)) in
      let c = b i l in
      omega arith

-- ---- an accepted nest
module _ (s : LoopNest) (ok : refusal s ≡ 0) where
  -- the key of a vector of the nest's depth
  pub key-most : (v : Vector) → length v ≡ depth_of s → AllWithin max_limit v → nat_abs (key v) ≤ max_key
  key-most v e w =
      let p = key-size max_limit (omega arith) v w in
      let q : base ^ length v ≤ max_key = power-most (length v) (omega (arith, (depth_is s ok).1)) in
      omega arith

  -- the key of iteration k
  key-at : (k : ℕ) → k < length (points_of s) → get_or (keys_of s) k (pos 0) ≡ key (point s k)
  unfolding keys_of
  key-at k h = get_d_map key (points_of s) k [] (pos 0) h

  -- it is small, and so is what is read behind them
  pub keys-most : (k : ℕ) → nat_abs (get_or (keys_of s) k (pos 0)) ≤ max_key
  keys-most k =
      ⊎_elim
      (λ (h : k < length (points_of s)). subst (λ (z : ℤ). nat_abs z ≤ max_key) (sym (key-at k h)) (key-most (point s k) (point-length s k h) (point-within s ok k h)))
      (λ (h : length (points_of s) ≤ k). subst (λ (z : ℤ). nat_abs z ≤ max_key) (sym (get_or-eq_default (keys_of s) (pos 0) {n = k} (omega (arith, keys_length s)))) zero-le)
      (below_or_not k (length (points_of s)))

  -- so it is below 2^52
  pub keys_below : (k : ℕ) → nat_abs (get_or (keys_of s) k (pos 0)) < 2 ^ 52
  keys_below k = omega (arith, keys-most k)

  -- in the array of distances
  pub distance_is : (i : ℕ) → i < count_of s → get_or (padded max_dependences (distances_of s)) i (pos 0) ≡ key (dependence s i)
  unfolding distances_of
  distance_is i h =
      at-padded max_dependences (map key (dependences_of s)) i ∙ get_d_map key (dependences_of s) i [] (pos 0) (subst (λ n. i < n) (sym (dependences_count s)) h)

  -- sources can be searched for
  pub nest_searchable : (i : ℕ) → i < count_of s → Searchable (keys_of s) (get_or (padded max_dependences (distances_of s)) i (pos 0))
  nest_searchable i h = record {
    increasing = nest-keys_increase s ok;
    keys_small = keys-most;
    distance_small = subst (λ (z : ℤ). nat_abs z ≤ max_key) (sym (distance_is i h)) (key-most (dependence s i) (dependence-length s i h) (all_wider max_component max_limit (dependence s i) (omega arith) (dependence-within s ok i h)));
    forward = subst (λ (z : ℤ). pos 0 ≤ℤ z) (sym (distance_is i h)) (let l = source-below s ok 0 i (some-points s ok) h in omega (ints, dif (get_or (keys_of s) 0 (pos 0)) (key (dependence s i))));
  }

  -- and what is found is the rank of the source
  pub nest-source : (k i : ℕ) → k < length (points_of s) → i < count_of s → source_in (keys_of s) k (get_or (padded max_dependences (distances_of s)) i (pos 0)) ≡ rank (points_of s) (source (point s k) (dependence s i))
  unfolding source_in
  nest-source k i hk hi = ap (λ (z : ℤ). place (eq_z (get_or (keys_of s) k (pos 0) -ℤ z)) (keys_of s)) (distance_is i hi) ∙ source-place s ok k i hk hi

-- ---- a table of keys, the number of dependences and their distances, and the nest that they are of
pub record OfNest (s : LoopNest) (keys : List ℤ) (m : ℕ) (distances : List ℤ) : Type 0 where
  -- an accepted nest
  pub accepted : refusal s ≡ 0
  -- the keys of its points
  pub keys_are : keys ≡ keys_of s
  -- the number of its dependences
  pub count : m ≡ count_of s
  -- and their keys
  pub distances_are : distances ≡ distances_of s

-- the slice of the distances that `distances_of` answers
pub distances-front : (s : LoopNest) → refusal s ≡ 0 → (m : ℕ) → m ≡ count_of s → take m (padded max_dependences (distances_of s)) ≡ distances_of s
unfolding distances_of padded
distances-front s ok m e = take_at (map key (dependences_of s)) (replicate (max_dependences - length (map key (dependences_of s))) (pos 0)) m (length-map (dependences_of s) key ∙ dependences_count s ∙ sym e)

module _ (s : LoopNest) (keys : List ℤ) (m : ℕ) (distances : List ℤ) (K : OfNest s keys m distances) where
  -- there is a key for each iteration
  pub keyed-length : length keys ≡ length (points_of s)
  keyed-length = ap length K.keys_are ∙ keys_length s

  -- sources can be searched for
  pub keyed_search : (i : ℕ) → i < m → Searchable keys (get_or distances i (pos 0))
  keyed_search i h =
      subst₂ (λ (ks : List ℤ) (d : ℤ). Searchable ks d) (sym K.keys_are) (at-padded max_dependences (distances_of s) i ∙ ap (λ (ds : List ℤ). get_or ds i (pos 0)) (sym K.distances_are))
      (nest_searchable s K.accepted i (subst (λ n. i < n) K.count h))

  -- and what is found is the rank of the source
  pub keyed-source : (k i : ℕ) → k < length (points_of s) → i < m → source_in keys k (get_or distances i (pos 0)) ≡ rank (points_of s) (source (point s k) (dependence s i))
  keyed-source k i hk hi =
      ap₂ (λ (ks : List ℤ) (d : ℤ). source_in ks k d) K.keys_are (ap (λ (ds : List ℤ). get_or ds i (pos 0)) K.distances_are ∙ sym (at-padded max_dependences (distances_of s) i)) ∙ nest-source s K.accepted k i hk (subst (λ n. i < n) K.count hi)
