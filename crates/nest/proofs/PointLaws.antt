-- The laws of a nest's index points, `points_of s`, and of its sources: all that the crates above use of them. No statement here speaks of limits, so where
-- the limits of a nest change their form these laws are proved again, and nothing above them. (`rows` and the text have words about limits of their own.)
-- Assumes nothing.
use mathlib.Core.Path.{◌≡◌, refl, sym, ap, subst, ◌∙◌}
use mathlib.Core.Bool.{true, false}
use mathlib.Core.Logic.{◌↔◌, ⊎_elim}
use mathlib.Core.List.{List, []}
use mathlib.Core.Option.{none, some, some-injective, some-ne-none}
use Prim.Native.Nat.{ℕ, ◌<◌, ◌≤◌, zero-le}
use native.Mathlib.Omega.{arith}
use borrow.Author.Tests.{ltb-false}
use lib.Dec.{ltb}
use lib.IntN.{ℤ, pos, nat_abs}
use lib.ListN.{length, get_or, get_or-eq_default}
use Rattle.integers.proofs.Lists.{split, below_or_not, length-tab, get_or-tab, any_at, place_none, place-below, place-passes}
use Rattle.integers.specs.Vector.{Vector, eq_v}
use Rattle.integers.proofs.Vector.{eq_v_true, eq_v_refl}
use Rattle.std.specs.Prelude.{Option, Some, None, unwrap_or}
use Rattle.nest.specs.declared.LoopNest.{LoopNest}
use Rattle.nest.specs.Nest.{part, padded, depth_of, count_of, limit_at, limits_of, max_depth, max_limit, max_iterations}
use Rattle.nest.specs.Points.{points_of, point, rank, is_point, place_of, source, Before}
use Rattle.nest.specs.Sources.{source_rank}
use Rattle.nest.specs.Refusals.{refusal, holds, crossed, too_many_points, dependence}
use Rattle.nest.proofs.Accepted.{not_crossed, some-product}
use Rattle.nest.proofs.Order.{point-count, point-inside, points_increase, rank-of-point}
use Rattle.nest.proofs.Lengths.{limits-length, dependence-length}
use Rattle.nest.proofs.Padding.{part-padded, part-whole}
use Rattle.nest.proofs.Refused.{accepted}
use Rattle.nest.proofs.Sources.{inside-length, source-length, source-earlier, index-size}
use Rattle.nest.proofs.Words.{part_length}

-- ---- how many there are

-- the product that refusal 6 compares with 4096 is their number
pub number_tested : (s : LoopNest) → holds s too_many_points ≡ ltb max_iterations (length (points_of s))
unfolding points_of holds
number_tested s = ap (ltb max_iterations) (sym (point-count (limits_of s)))

-- so there are no more, of an accepted nest
pub few-points : (s : LoopNest) → refusal s ≡ 0 → length (points_of s) ≤ max_iterations
few-points s ok = omega (arith, ltb-false max_iterations (length (points_of s)) (sym (number_tested s) ∙ accepted s ok too_many_points))

-- and one at least
pub some-points : (s : LoopNest) → refusal s ≡ 0 → 0 < length (points_of s)
unfolding points_of limits_of
some-points s ok =
    let f = limit_at s.lower s.upper in
    let n = length-tab f (depth_of s) in
    let p = some-product (limits_of s) (f 0) (λ k h. let b : k < depth_of s = omega arith in ap crossed (get_or-tab f (depth_of s) k (f 0) b) ∙ not_crossed s ok k b) in
    omega (arith, point-count (limits_of s))

-- ---- the point of iteration k

module _ (s : LoopNest) (k : ℕ) (h : k < length (points_of s)) where
  -- it has an index for each loop
  pub point-length : length (point s k) ≡ depth_of s
  unfolding points_of
  point-length = inside-length (limits_of s) (point s k) (point-inside (limits_of s) k (let c = point-count (limits_of s) in omega arith)) ∙ limits-length s

  -- it is an index point
  pub point-there : is_point (points_of s) (point s k) ≡ true
  unfolding is_point
  point-there = any_at (eq_v (point s k)) (points_of s) k [] h (eq_v_refl (point s k))

  -- its rank is k
  pub point-rank : rank (points_of s) (point s k) ≡ k
  unfolding points_of
  point-rank = rank-of-point (limits_of s) k (let c = point-count (limits_of s) in omega arith)

  -- its indices are small, of an accepted nest
  pub point-size : refusal s ≡ 0 → (i : ℕ) → nat_abs (get_or (point s k) i (pos 0)) ≤ max_limit
  point-size ok i =
      ⊎_elim (λ (l : i < depth_of s). index-size s ok (point s k) (ap (is_point (points_of s)) (part-whole (depth_of s) (point s k) point-length) ∙ point-there) i l)
      (λ (l : depth_of s ≤ i). subst (λ (z : ℤ). nat_abs z ≤ max_limit) (sym (get_or-eq_default (point s k) (pos 0) (omega (arith, point-length)))) zero-le) (below_or_not i (depth_of s))

-- they strictly increase in loop order
pub points_ordered : (s : LoopNest) (j k : ℕ) → j < k → k < length (points_of s) → Before (point s j) (point s k)
unfolding points_of
points_ordered s j k l h = points_increase (limits_of s) j k l (let c = point-count (limits_of s) in omega arith)

-- two iterations with one point are one iteration
pub same_rank : (s : LoopNest) (j k : ℕ) → j < length (points_of s) → k < length (points_of s) → point s j ≡ point s k → j ≡ k
same_rank s j k hj hk e = sym (point-rank s j hj) ∙ ap (rank (points_of s)) e ∙ point-rank s k hk

-- ---- the rank of a point

-- a point has the rank of an iteration, and is that iteration's point
pub rank-there : (s : LoopNest) (j : Vector) → is_point (points_of s) j ≡ true → (rank (points_of s) j < length (points_of s)) × (point s (rank (points_of s) j) ≡ j)
unfolding rank is_point
rank-there s j t = (place-below (eq_v j) (points_of s) t, sym (eq_v_true j (point s (rank (points_of s) j)) (place-passes (eq_v j) (points_of s) [] t)))

-- any other vector has the number of iterations for its rank
pub rank-missing : (s : LoopNest) (j : Vector) → is_point (points_of s) j ≡ false → rank (points_of s) j ≡ length (points_of s)
unfolding rank is_point
rank-missing s j f = place_none (eq_v j) (points_of s) f

-- so its place is its rank, and any other vector has none
pub place-there : (s : LoopNest) (j : Vector) → is_point (points_of s) j ≡ true → place_of (points_of s) j ≡ Some (rank (points_of s) j)
unfolding place_of
place-there s j t = rw (place_of, t) refl

pub place-missing : (s : LoopNest) (j : Vector) → is_point (points_of s) j ≡ false → place_of (points_of s) j ≡ None
unfolding place_of
place-missing s j f = rw (place_of, f) refl

-- with the number of iterations for none, it is the rank
pub place-rank : (s : LoopNest) (j : Vector) → unwrap_or (place_of (points_of s) j) (length (points_of s)) ≡ rank (points_of s) j
place-rank s j =
    split (is_point (points_of s) j)
    (λ t. ap (λ (o : Option ℕ). unwrap_or o (length (points_of s))) (place-there s j t))
    (λ f. ap (λ (o : Option ℕ). unwrap_or o (length (points_of s))) (place-missing s j f) ∙ sym (rank-missing s j f))

-- a place that is had is that of an iteration, and is the vector's rank
pub placed : (s : LoopNest) (j : Vector) (r : ℕ) → place_of (points_of s) j ≡ Some r → (is_point (points_of s) j ≡ true) × (r < length (points_of s)) × (r ≡ rank (points_of s) j)
placed s j r e =
    split (is_point (points_of s) j)
    (λ t. let q : rank (points_of s) j ≡ r = let h = place-there s j t in cc in (t, rw q at (rank-there s j t).0, sym q))
    (λ f. let h = place-missing s j f in cc)

-- where there is none the vector is no point
pub unplaced : (s : LoopNest) (j : Vector) → place_of (points_of s) j ≡ None → is_point (points_of s) j ≡ false
unplaced s j e = split (is_point (points_of s) j) (λ t. let h = place-there s j t in cc) (λ f. f)

-- points with one rank are equal
pub same_point : (s : LoopNest) (i j : Vector) → is_point (points_of s) i ≡ true → is_point (points_of s) j ≡ true → rank (points_of s) i ≡ rank (points_of s) j → i ≡ j
same_point s i j ti tj e = sym (rank-there s i ti).1 ∙ ap (point s) e ∙ (rank-there s j tj).1

-- ---- sources

-- the source of iteration k along dependence i
abbrev source_of : LoopNest → ℕ → ℕ → Vector
source_of s k i = source (point s k) (dependence s i)

-- one that is an index point has its rank
source-there : (s : LoopNest) (k i : ℕ) → is_point (points_of s) (source_of s k i) ≡ true → source_rank s k i ≡ some (rank (points_of s) (source_of s k i))
unfolding source_rank
source-there s k i t = rw (source_rank, t) refl

-- and any other none
source-missing : (s : LoopNest) (k i : ℕ) → is_point (points_of s) (source_of s k i) ≡ false → source_rank s k i ≡ none
unfolding source_rank
source-missing s k i f = rw (source_rank, f) refl

-- the rank j of the source's vector
module _ (s : LoopNest) (k i j : ℕ) (e : j ≡ rank (points_of s) (source (point s k) (dependence s i))) where
  -- below the number of iterations it is the source
  pub rank_found : j < length (points_of s) → source_rank s k i ≡ some j
  rank_found l =
      split (is_point (points_of s) (source_of s k i)) (λ t. source-there s k i t ∙ ap some (sym e))
      (λ f. absurd (omega (arith, e, rank-missing s (source_of s k i) f)))

  -- and any other number says that there is none
  pub rank-none : length (points_of s) ≤ j → source_rank s k i ≡ none
  rank-none l =
      split (is_point (points_of s) (source_of s k i)) (λ t. absurd (omega (arith, e, (rank-there s (source_of s k i) t).0)))
      (λ f. source-missing s k i f)

-- the place of the source's vector: it is the source, and where there is none there is no source
module _ (s : LoopNest) (k i : ℕ) where
  pub place_found : (j : ℕ) → place_of (points_of s) (source (point s k) (dependence s i)) ≡ Some j → source_rank s k i ≡ some j
  place_found j e = let p = placed s (source_of s k i) j e in source-there s k i p.0 ∙ ap some (sym p.2)

  pub place-none : place_of (points_of s) (source (point s k) (dependence s i)) ≡ None → source_rank s k i ≡ none
  place-none e = source-missing s k i (unplaced s (source_of s k i) e)

-- the source of iteration k is iteration j exactly if its point is point k less the dependence
pub source_iff : (s : LoopNest) (k i j : ℕ) → (source_rank s k i ≡ some j) ↔ ((j < length (points_of s)) × (point s j ≡ source (point s k) (dependence s i)))
source_iff s k i j = (there, back)
  where
    there : source_rank s k i ≡ some j → (j < length (points_of s)) × (point s j ≡ source_of s k i)
    there e =
        split (is_point (points_of s) (source_of s k i))
        (λ t.
        let q : j ≡ rank (points_of s) (source_of s k i) = some-injective j (rank (points_of s) (source_of s k i)) (sym e ∙ source-there s k i t) in
        let r = rank-there s (source_of s k i) t in
        (subst (λ n. n < length (points_of s)) (sym q) r.0, ap (point s) q ∙ r.1))
        (λ f. absurd (some-ne-none j (sym e ∙ source-missing s k i f)))

    back : (j < length (points_of s)) × (point s j ≡ source_of s k i) → source_rank s k i ≡ some j
    back p =
        source-there s k i (ap (is_point (points_of s)) (sym p.1) ∙ point-there s j p.0)
        ∙ ap some (ap (rank (points_of s)) (sym p.1) ∙ point-rank s j p.0)

-- it is no iteration exactly if point k less the dependence is no index point
pub no_source_iff : (s : LoopNest) (k i : ℕ) → (source_rank s k i ≡ none) ↔ (is_point (points_of s) (source (point s k) (dependence s i)) ≡ false)
no_source_iff s k i = (there, source-missing s k i)
  where
    there : source_rank s k i ≡ none → is_point (points_of s) (source_of s k i) ≡ false
    there e =
        split (is_point (points_of s) (source_of s k i)) (λ t. absurd (some-ne-none (rank (points_of s) (source_of s k i)) (sym (source-there s k i t) ∙ e)))
        (λ f. f)

-- a source that is an iteration has a smaller rank, of an accepted nest
pub source_smaller : (s : LoopNest) → refusal s ≡ 0 → (k i j : ℕ) → k < length (points_of s) → i < count_of s → source_rank s k i ≡ some j → j < k
source_smaller s ok k i j hk hi e =
    let p = (source_iff s k i j).0 e in
    let t = ap (is_point (points_of s)) (sym p.1) ∙ point-there s j p.0 in
    let l = source-earlier s ok i hi (point s k) (point-there s k hk) t in
    omega (arith, l, point-rank s k hk, ap (rank (points_of s)) p.1, point-rank s j p.0)

-- ---- points in arrays

-- the point of iteration k, read from an array that holds it
pub point_in_array : (s : LoopNest) (k : ℕ) → k < length (points_of s) → part (padded max_depth (point s k)) 0 (depth_of s) ≡ point s k
point_in_array s k h = part-padded max_depth (depth_of s) (point s k) (point-length s k h)

-- so what is read there is an index point
pub array_point : (s : LoopNest) (k : ℕ) (array : List ℤ) → k < length (points_of s) → array ≡ padded max_depth (point s k) → is_point (points_of s) (part array 0 (depth_of s)) ≡ true
array_point s k array h e = ap (is_point (points_of s)) (ap (λ (v : List ℤ). part v 0 (depth_of s)) e ∙ point_in_array s k h) ∙ point-there s k h

-- the source of a point, both in arrays
pub source_in_array : (s : LoopNest) (array : List ℤ) (i : ℕ) → i < count_of s
    → part (padded max_depth (source (part array 0 (depth_of s)) (dependence s i))) 0 (depth_of s) ≡ source (part array 0 (depth_of s)) (dependence s i)
source_in_array s array i h =
    part-padded max_depth (depth_of s) (source (part array 0 (depth_of s)) (dependence s i))
    (source-length (part array 0 (depth_of s)) (dependence s i) (depth_of s) (part_length array 0 (depth_of s)) (dependence-length s i h))

-- the rank j that `source_at` answers along dependence i, at the point of iteration k in an array
module _ (s : LoopNest) (k i j : ℕ) (array : List ℤ) (h : k < length (points_of s)) (p : array ≡ padded max_depth (point s k))
    (e : j ≡ rank (points_of s) (source (part array 0 (depth_of s)) (dependence s i))) where
  -- it is the source's
  pub answer-is : j ≡ rank (points_of s) (source (point s k) (dependence s i))
  answer-is = e ∙ ap (λ (v : Vector). rank (points_of s) (source v (dependence s i))) (ap (λ (v : List ℤ). part v 0 (depth_of s)) p ∙ point_in_array s k h)

  -- below the number of iterations it is the source
  pub source_found : j < length (points_of s) → source_rank s k i ≡ some j
  source_found = rank_found s k i j answer-is

  -- and any other number says that there is none
  pub source-none : length (points_of s) ≤ j → source_rank s k i ≡ none
  source-none = rank-none s k i j answer-is
