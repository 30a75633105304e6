-- The projection lines of an accepted nest: an iteration's source along the shortest vector is on the same line, and can be searched for by keys.
-- Assumes nothing.
use mathlib.Core.Path.{◌≡◌, sym, ap, ap₂, subst, ◌∙◌}
use mathlib.Core.Logic.{◌⊎◌, inl, inr, ⊎_elim}
use mathlib.Core.List.{[], ◌∷◌}
use Prim.Native.Nat.{ℕ, ◌+◌, ◌-◌, ◌<◌, ◌≤◌}
use native.Mathlib.Omega.{arith}
use lib.IntN.{ℤ, pos, nat_abs, ◌-ℤ◌}
use lib.ListN.{length, get_or, get_or-eq_default}
use lib.Signed.{◌≤ℤ◌, ◌<ℤ◌}
use Rattle.integers.proofs.Linear.{ints, dif, sizes}
use Rattle.integers.proofs.Lists.{below_or_not}
use Rattle.integers.proofs.Order.{decide}
use Rattle.integers.proofs.Ring.{zero-factor}
use Rattle.integers.proofs.Solver.{var, ◌⊗◌, ring}
use Rattle.integers.specs.Vector.{Vector, AllWithin, minus, eq_z}
use Rattle.integers.proofs.Vector.{zeros, eq_z_true, all_wider, all-each, all-minus, length-times, get_or-times, get_or-within}
use Rattle.integers.proofs.ListFacts.{place_true, get_d_map}
use Rattle.nest.specs.declared.LoopNest.{LoopNest}
use Rattle.nest.specs.Nest.{part, padded, depth_of, time_of, max_limit, max_component}
use Rattle.nest.specs.Points.{points_of, point}
use Rattle.nest.specs.Refusals.{refusal}
use Rattle.nest.proofs.Padding.{at-padded, length-padded}
use Rattle.nest.proofs.Lengths.{time_length}
use Rattle.nest.proofs.PointLaws.{point-length}
use Rattle.nest.proofs.Words.{part_length, part_at}
use Rattle.sources.specs.Keys.{key, keys_of, source_in, Searchable}
use Rattle.sources.proofs.Arrays.{keys_length}
use Rattle.sources.proofs.Cursors.{key-most, keys-most}
use Rattle.sources.proofs.KeyOrder.{key-minus, key_injective}
use Rattle.sources.proofs.NestKeys.{point-within, nest-keys_increase}
use Rattle.grouping.specs.Projection.{projection}
use Rattle.grouping.proofs.Padded.{minus-pad}
use Rattle.grouping.proofs.Vectors.{comp, same-components, length-minus}
use Rattle.classes.proofs.Lined.{one_line}
use Rattle.partition.specs.Lines.{Apart}
use Rattle.partition.proofs.LineLaws.{shortest-along}
use Rattle.partition.proofs.NestVectors.{depth_few, padded-is}

module _ (s : LoopNest) (ok : refusal s ≡ 0) (P : Vector) (time : P ≡ padded 4 (time_of s)) (distance : ℤ) (A : Apart P (depth_of s) distance) where
  -- the depth
  abbrev n : ℕ
  n = depth_of s

  -- what leads along a line
  abbrev w : Vector
  w = part A.vector 0 n

  -- it has a component for each loop
  w-length : length w ≡ n
  w-length = part_length A.vector 0 n

  -- the time vector with its zeros has four
  P-length : length P ≡ 4
  P-length = ap (λ (u : Vector). length u) time ∙ length-padded 4 (time_of s) (omega (arith, time_length s, depth_few s ok))

  -- and so has the shortest vector
  v-length : length A.vector ≡ 4
  v-length = sym (length-times (pos A.shortest.factor) A.vector) ∙ ap (λ (u : Vector). length u) A.shortest.product ∙ P-length

  -- its components are those of the shortest vector
  w_at : (i : ℕ) → i < n → comp w i ≡ comp A.vector i
  w_at i l = part_at A.vector 0 n i l ∙ ap (λ (k : ℕ). get_or A.vector k (pos 0)) (omega arith)

  -- so they are small
  w-within : AllWithin max_component w
  w-within = all-each max_component w (λ i l. subst (λ (z : ℤ). nat_abs z ≤ max_component) (sym (w_at i (omega (arith, l, w-length)))) (get_or-within max_component A.vector i A.small))

  -- behind the depth there is nothing of it
  behind : (i : ℕ) → n ≤ i → comp A.vector i ≡ pos 0
  behind i l =
      zero-factor (comp A.vector i) (pos A.shortest.factor) (λ e. omega (ints, e, A.shortest.positive))
      (ring (comp A.vector i ∷ pos A.shortest.factor ∷ []) (var 0 ⊗ var 1) (var 1 ⊗ var 0) tt ∙ sym (get_or-times (pos A.shortest.factor) A.vector i)
      ∙ ap (λ (u : Vector). comp u i) (A.shortest.product ∙ time) ∙ at-padded 4 (time_of s) i ∙ get_or-eq_default (time_of s) (pos 0) {n = i} (omega (arith, time_length s, l)))

  -- so the shortest vector is w with zeros behind
  whole : A.vector ≡ padded 4 w
  whole =
      same-components A.vector (padded 4 w) (v-length ∙ sym (length-padded 4 w (omega (arith, w-length, depth_few s ok))))
      (λ i. ⊎_elim (λ (l : i < n). sym (at-padded 4 w i ∙ w_at i l)) (λ (l : n ≤ i). behind i l ∙ sym (at-padded 4 w i ∙ get_or-eq_default w (pos 0) {n = i} (omega (arith, w-length, l)))) (below_or_not i n))

  -- its projection is zero
  along : projection P (padded 4 w) ≡ zeros 4
  along = ap (projection P) (sym whole) ∙ shortest-along P A.vector P-length A.shortest

  -- the iterations before can be searched for
  pub line_searchable : Searchable (keys_of s) distance
  line_searchable = record {
    increasing = nest-keys_increase s ok;
    keys_small = keys-most s ok;
    distance_small = subst (λ (z : ℤ). nat_abs z ≤ Rattle.sources.specs.Keys.max_key) (sym A.size) (key-most s ok w w-length (all_wider max_component max_limit w (omega arith) w-within));
    forward = subst (λ (z : ℤ). pos 0 ≤ℤ z) (sym A.size) (omega ints);
  }

  -- iterations whose difference is w, one way or the other, have one projection
  module _ (i k : ℕ) (hi : i < length (points_of s)) (hk : k < length (points_of s)) where
    -- the difference of the points, with zeros behind
    apart : minus (padded 4 (point s i)) (padded 4 (point s k)) ≡ padded 4 (minus (point s i) (point s k))
    apart =
        ap₂ minus (padded-is n (point s i) (point-length s i hi)) (padded-is n (point s k) (point-length s k hk))
        ∙ minus-pad (4 - n) (point s i) (point s k) (point-length s i hi ∙ sym (point-length s k hk))
        ∙ sym (padded-is n (minus (point s i) (point s k)) (length-minus (point s i) (point s k) (point-length s i hi ∙ sym (point-length s k hk)) ∙ point-length s i hi))

    -- a point with its zeros has four components
    four : (j : ℕ) → j < length (points_of s) → length (padded 4 (point s j)) ≡ 4
    four j h = length-padded 4 (point s j) (omega (arith, point-length s j h, depth_few s ok))

    -- points whose keys are that far apart have one projection
    one : key (point s i) -ℤ key (point s k) ≡ key w → projection P (padded 4 (point s i)) ≡ projection P (padded 4 (point s k))
    one e =
        one_line P (padded 4 (point s i)) (padded 4 (point s k)) (padded 4 w) P-length (four i hi) (four k hk) along
        (apart ∙ ap (padded 4)
        (key_injective (max_limit + max_limit) (omega arith) (minus (point s i) (point s k)) w
        (length-minus (point s i) (point s k) (point-length s i hi ∙ sym (point-length s k hk)) ∙ point-length s i hi ∙ sym w-length)
        (all-minus max_limit max_limit (point s i) (point s k) (point-within s ok i hi) (point-within s ok k hk))
        (all_wider max_component (max_limit + max_limit) w (omega arith) w-within)
        (key-minus (point s i) (point s k) (point-length s i hi ∙ sym (point-length s k hk)) ∙ e)))

  -- the key of an iteration
  key-at : (k : ℕ) → k < length (points_of s) → get_or (keys_of s) k (pos 0) ≡ key (point s k)
  unfolding keys_of
  key-at k h = get_d_map key (points_of s) k [] (pos 0) h

  -- an iteration that is found has the key that was searched for
  found_key : (i : ℕ) → source_in (keys_of s) i distance < length (keys_of s) → get_or (keys_of s) i (pos 0) -ℤ distance ≡ get_or (keys_of s) (source_in (keys_of s) i distance) (pos 0)
  unfolding source_in
  found_key i l = eq_z_true (get_or (keys_of s) i (pos 0) -ℤ distance) (get_or (keys_of s) (source_in (keys_of s) i distance) (pos 0)) (place_true (pos 0) (eq_z (get_or (keys_of s) i (pos 0) -ℤ distance)) (keys_of s) l)

  -- the iteration before has the same projection
  pub line-projection : (i : ℕ) → i < length (points_of s) → source_in (keys_of s) i distance < i → projection P (padded 4 (point s i)) ≡ projection P (padded 4 (point s (source_in (keys_of s) i distance)))
  line-projection i h l = go (decide (pos 0) (key w))
    where
      j : ℕ
      j = source_in (keys_of s) i distance

      low : j < length (points_of s)
      low = omega (arith, l, h)

      found : key (point s i) -ℤ distance ≡ key (point s j)
      found = ap (λ (z : ℤ). z -ℤ distance) (sym (key-at i h)) ∙ found_key i (omega (arith, low, keys_length s)) ∙ key-at j low

      go : (pos 0 ≤ℤ key w) ⊎ (key w <ℤ pos 0) → projection P (padded 4 (point s i)) ≡ projection P (padded 4 (point s j))
      go (inl q) = one i j h low (omega (ints, found, A.size, dif (key (point s i)) distance, dif (key (point s i)) (key (point s j)), sizes (key w), q))
      go (inr q) = sym (one j i low h (omega (ints, found, A.size, dif (key (point s i)) distance, dif (key (point s j)) (key (point s i)), sizes (key w), q)))
