-- Where the row of an index lies: its start, its length, and that it is exactly the iterations with that outermost index.
-- Assumes nothing.
use mathlib.Core.Path.{◌≡◌, refl, sym, ap, subst, ◌∙◌}
use mathlib.Core.Bool.{false}
use mathlib.Core.Logic.{⊎_elim, ◌↔◌}
use mathlib.Core.List.{List, [], ◌∷◌}
use Prim.Native.Nat.{ℕ, zero, suc, ◌+◌, ◌*◌, ◌/◌, ◌<◌, ◌≤◌}
use native.Mathlib.Nat as NatL
use native.Mathlib.Omega.{arith}
use lib.IntN.{ℤ, pos, ◌+ℤ◌, ◌-ℤ◌}
use lib.ListN.{length, get_or}
use lib.Signed.{◌≤ℤ◌, lt_z}
use Rattle.integers.proofs.Linear.{ints, sum}
use Rattle.integers.specs.Lists.{tab, count}
use Rattle.integers.proofs.Lists.{below_or_not, tab-cons}
use Rattle.integers.specs.Vector.{eq_z}
use Rattle.nest.specs.declared.LoopNest.{LoopNest}
use Rattle.nest.specs.Nest.{Limit, to_ℕ, limit_at, limits_of, depth_of}
use Rattle.nest.specs.Points.{extent, points, points_of, point_count}
use Rattle.nest.specs.Refusals.{refusal, outside, limit}
use Rattle.nest.proofs.Order.{point-count, point_at, index_of, places, Places}
use Rattle.nest.proofs.Accepted.{depth_is}
use Rattle.nest.proofs.PointLaws.{some-points}
use Rattle.nest.proofs.Conditions.{in_span}
use Rattle.nest.proofs.Counted.{extent-distance}
use Rattle.integers.proofs.Order.{≤_trans}
use Rattle.rows.specs.Rows.{outermost, row_start, row_length}
use Rattle.rows.proofs.Counts.{start_is, length_is}

-- ---- the outermost loop and the inner ones
pub record Outer (s : LoopNest) : Type 0 where
  pub inner : List Limit
  pub all : limits_of s ≡ limit s 0 ∷ inner

-- an accepted nest has an outermost loop
pub outer : (s : LoopNest) → refusal s ≡ 0 → Outer s
outer s ok = at (depth_of s) refl
  where
    at : (n : ℕ) → depth_of s ≡ n → Outer s
    at zero e = absurd (let d = (depth_is s ok).0 in omega arith)
    at (suc n) e = record {
      inner = tab (λ k. limit s (suc k)) n;
      all = unfold limits_of in ap (tab (limit_at s.lower s.upper)) e ∙ tab-cons (limit_at s.lower s.upper) n;
    }

-- ---- the row of an index that is within the outermost limits of an accepted nest
module _ (s : LoopNest) (ok : refusal s ≡ 0) (i : ℤ) (there : outside (limit s 0).lower (limit s 0).upper i ≡ false) where
  -- the points of the inner loops
  abbrev pub width : ℕ
  width = point_count (outer s ok).inner

  -- how far the index is from the lowest
  abbrev pub place : ℕ
  place = to_ℕ (i -ℤ (limit s 0).lower)

  abbrev low : (limit s 0).lower ≤ℤ i
  low = (in_span (limit s 0).lower (limit s 0).upper i there).0

  abbrev high : i ≤ℤ (limit s 0).upper
  high = (in_span (limit s 0).lower (limit s 0).upper i there).1

  points_are : points_of s ≡ points (limit s 0 ∷ (outer s ok).inner)
  points_are = unfold points_of in ap points (outer s ok).all

  pub start-at : row_start s i ≡ place * width
  start-at = unfold row_start in ap (count (λ j. lt_z (outermost j) i)) points_are ∙ start_is (limit s 0) i low high (outer s ok).inner

  pub length_at : row_length s i ≡ width
  length_at = unfold row_length in ap (count (λ j. eq_z (outermost j) i)) points_are ∙ length_is (limit s 0) i low high (outer s ok).inner

  pub all-points : length (points_of s) ≡ extent (limit s 0) * width
  all-points = ap length points_are ∙ point-count (limit s 0 ∷ (outer s ok).inner) ∙ (unfold point_count in refl)

  -- divided by the number of outermost indices
  pub width_is : (e : ℕ) → e ≡ extent (limit s 0) → length (points_of s) / e ≡ width
  width_is e q =
      let x = extent-distance (limit s 0).lower (limit s 0).upper (≤_trans (limit s 0).lower i (limit s 0).upper low high) in
      ap (λ n. n / e) (all-points ∙ ap (λ n. n * width) (sym q)) ∙ NatL.mul-div_cancel_left width {n = e} (omega (arith, q, x))

  -- the row ends within the points
  pub row_fits : row_start s i + row_length s i ≤ length (points_of s)
  row_fits =
      let a = start-at in let b = length_at in let c = all-points in
      let m = NatL.mul-le-mul_right {m = suc place} {n = extent (limit s 0)} width (index_of (limit s 0) i low high).0 in
      let e = NatL.suc-mul place width in
      omega arith

  -- the row is not empty
  pub row-some : 0 < row_length s i
  row-some = ⊎_elim (λ l. l) (λ (z : row_length s i ≤ 0). absurd (empty z)) (below_or_not 0 (row_length s i))
    where
      empty : row_length s i ≤ 0 → ⊥
      empty z =
          let b = length_at in let e = all-points in let p = some-points s ok in
          let w : width ≡ 0 = omega arith in
          let m = ap (λ n. extent (limit s 0) * n) w ∙ NatL.mul-zero (extent (limit s 0)) in
          omega arith

  -- an iteration is in the row exactly if its outermost index is the row's
  pub row_ranks : (r : ℕ) → r < length (points_of s) → (outermost (get_or (points_of s) r []) ≡ i) ↔ ((row_start s i ≤ r) × (r < row_start s i + row_length s i))
  row_ranks r h = at (places (extent (limit s 0)) width r (subst (λ n. r < n) all-points h))
    where
      at : Places (extent (limit s 0)) width r → (outermost (get_or (points_of s) r []) ≡ i) ↔ ((row_start s i ≤ r) × (r < row_start s i + row_length s i))
      at w = (
        λ e.
            let o : w.outer ≡ place = omega (ints, point-is, sum (limit s 0).lower (pos w.outer), sum (limit s 0).lower (pos place), (index_of (limit s 0) i low high).1) in
            let m = ap (λ n. n * width) o in
            (omega (arith, start-at, length_at, w.joined), omega (arith, start-at, length_at, w.joined, w.inner_below)),
        λ b. point-is ∙ ap (λ n. (limit s 0).lower +ℤ pos n) (same b.0 b.1) ∙ (index_of (limit s 0) i low high).1,
      )
        where
          point-is : outermost (get_or (points_of s) r []) ≡ (limit s 0).lower +ℤ pos w.outer
          point-is =
              ap (λ ps. outermost (get_or ps r [])) points_are ∙ ap (λ n. outermost (get_or (points (limit s 0 ∷ (outer s ok).inner)) n [])) (sym w.joined)
              ∙ ap outermost (point_at (limit s 0) (outer s ok).inner w.outer w.inner w.outer_below w.inner_below)

          before : (a b : ℕ) → a < b → a * width + width ≤ b * width
          before a b l = let m = NatL.mul-le-mul_right {m = suc a} {n = b} width l in let e = NatL.suc-mul a width in omega arith

          same : row_start s i ≤ r → r < row_start s i + row_length s i → w.outer ≡ place
          same l h =
              ⊎_elim (λ (a : w.outer < place). absurd (omega (arith, before w.outer place a, start-at, w.joined, w.inner_below)))
              (λ (a : place ≤ w.outer). ⊎_elim (λ (q : place ≡ w.outer). sym q) (λ q. absurd (omega (arith, before place w.outer q, start-at, length_at, w.joined))) (NatL.eq-or-lt_of_le a))
              (below_or_not w.outer place)
