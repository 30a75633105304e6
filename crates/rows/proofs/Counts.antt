-- How many points of a nest have a smaller outermost index, and how many have that index: multiples of the number of points of the inner loops.
-- Assumes nothing.
use mathlib.Core.Path.{◌≡◌, refl, sym, ap, ◌∙◌}
use mathlib.Core.Bool.{Bool, true, false}
use mathlib.Core.Logic.{⊎_elim}
use mathlib.Core.List.{List, [], ◌∷◌, map, flat_map}
use Prim.Native.Nat.{ℕ, suc, ◌*◌, ◌<◌, ◌≤◌}
use native.Mathlib.Nat as NatL
use native.Mathlib.Omega.{arith}
use borrow.Author.Tests.{lt-ltb, le-ltb, eqb-true, eqb-false}
use lib.Dec.{ltb, eqb}
use lib.IntN.{ℤ, pos, ◌+ℤ◌, ◌-ℤ◌}
use lib.ListN.{length}
use lib.Signed.{◌≤ℤ◌, ◌<ℤ◌, lt_z}
use Rattle.integers.proofs.Linear.{ints, sum}
use Rattle.integers.proofs.Tests.{signed}
use Rattle.integers.specs.Lists.{count}
use Rattle.integers.proofs.Lists.{split, below_or_not, count_yes, count_no, count-append, T_true}
use Rattle.integers.proofs.Sums.{count-before, count_at}
use Rattle.integers.specs.Vector.{Vector, eq_z}
use Rattle.integers.proofs.Vector.{eq_z-same, eq_z_other}
use Rattle.nest.specs.Nest.{Limit, to_ℕ}
use Rattle.nest.specs.Points.{extent, indices, points, point_count}
use Rattle.nest.proofs.Order.{point-count, index_of}
use Rattle.rows.specs.Rows.{outermost}

-- ---- lists of blocks
module _ (test : ℤ → Bool) where
  heads_yes : (i : ℤ) (ps : List Vector) → test i ≡ true → count (λ j. test (outermost j)) (map (λ j. i ∷ j) ps) ≡ length ps
  heads_yes i [] t = unfold count in refl
  heads_yes i (p ∷ ps) t = count_yes (λ j. test (outermost j)) (i ∷ p) (map (λ j. i ∷ j) ps) t ∙ ap suc (heads_yes i ps t)

  heads_no : (i : ℤ) (ps : List Vector) → test i ≡ false → count (λ j. test (outermost j)) (map (λ j. i ∷ j) ps) ≡ 0
  heads_no i [] f = unfold count in refl
  heads_no i (p ∷ ps) f = count_no (λ j. test (outermost j)) (i ∷ p) (map (λ j. i ∷ j) ps) f ∙ heads_no i ps f

  -- the points whose outermost index passes: so many indices pass, each with all points of the inner loops
  blocks-count : (ps : List Vector) (is : List ℤ) → count (λ j. test (outermost j)) (flat_map (λ i. map (λ j. i ∷ j) ps) is) ≡ count test is * length ps
  unfolding flat_map
  blocks-count ps [] = unfold count in sym (NatL.zero-mul (length ps))
  blocks-count ps (i ∷ is) =
      let a = count-append (λ j. test (outermost j)) (map (λ j. i ∷ j) ps) (flat_map (λ i. map (λ j. i ∷ j) ps) is) in
      let h = blocks-count ps is in
      split (test i)
      (λ t. let b = heads_yes i ps t in let c = ap (λ n. n * length ps) (count_yes test i is t) ∙ NatL.suc-mul (count test is) (length ps) in omega arith)
      (λ f. let b = heads_no i ps f in let c = ap (λ n. n * length ps) (count_no test i is f) in omega arith)

  pub points-count : (l : Limit) (ls : List Limit) → count (λ j. test (outermost j)) (points (l ∷ ls)) ≡ count test (indices l) * point_count ls
  points-count l ls = unfold points in blocks-count (points ls) (indices l) ∙ ap (λ n. count test (indices l) * n) (point-count ls)

-- ---- the row of an index within the outermost limits
module _ (l : Limit) (i : ℤ) (low : l.lower ≤ℤ i) (high : i ≤ℤ l.upper) where
  -- how far the index is from the lowest
  abbrev pub place : ℕ
  place = to_ℕ (i -ℤ l.lower)

  below_test : (k : ℕ) → lt_z (l.lower +ℤ pos k) i ≡ ltb k place
  below_test k =
      let w = (index_of l i low high).1 in
      ⊎_elim
      (λ (h : k < place). let z : (l.lower +ℤ pos k) <ℤ i = omega (ints, sum l.lower (pos k), sum l.lower (pos place)) in T_true z.lt ∙ sym (lt-ltb k place h))
      (λ (h : place ≤ k). split (lt_z (l.lower +ℤ pos k) i) (λ t. absurd (omega (signed, sum l.lower (pos k), sum l.lower (pos place)))) (λ f. f) ∙ sym (le-ltb k place h))
      (below_or_not k place)

  same_test : (k : ℕ) → eq_z (l.lower +ℤ pos k) i ≡ eqb k place
  same_test k =
      let w = (index_of l i low high).1 in
      split (eqb k place)
      (λ t. let z = eqb-true k place t in eq_z-same (l.lower +ℤ pos k) i (ap (λ n. l.lower +ℤ pos n) z ∙ w) ∙ sym t)
      (λ f. eq_z_other (l.lower +ℤ pos k) i (λ e. eqb-false k place f (omega (ints, sum l.lower (pos k), sum l.lower (pos place)))) ∙ sym f)

  -- the iterations with a smaller outermost index
  pub start_is : (ls : List Limit) → count (λ j. lt_z (outermost j) i) (points (l ∷ ls)) ≡ place * point_count ls
  unfolding indices
  start_is ls =
      let b = (index_of l i low high).0 in
      let c : count (λ x. lt_z x i) (indices l) ≡ place = count-before (λ x. lt_z x i) (λ k. l.lower +ℤ pos k) place below_test (extent l) ∙ omega arith in
      points-count (λ x. lt_z x i) l ls ∙ ap (λ n. n * point_count ls) c

  -- and those with that index
  pub length_is : (ls : List Limit) → count (λ j. eq_z (outermost j) i) (points (l ∷ ls)) ≡ point_count ls
  unfolding indices
  length_is ls =
      let b = (index_of l i low high).0 in
      let c : count (λ x. eq_z x i) (indices l) ≡ 1 = count_at (λ x. eq_z x i) (λ k. l.lower +ℤ pos k) place same_test (extent l) ∙ omega arith in
      points-count (λ x. eq_z x i) l ls ∙ ap (λ n. n * point_count ls) c ∙ NatL.one-mul (point_count ls)
