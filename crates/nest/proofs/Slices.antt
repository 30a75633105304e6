-- What a slice of an array has, by the definitions that name its places. Assumes nothing.
use mathlib.Core.Path.{◌≡◌, refl, sym, ◌∙◌, ap, ap₂}
use mathlib.Core.Bool.{Bool}
use mathlib.Core.List.{List, [], map}
use Prim.Native.Nat.{ℕ, zero, suc, ◌+◌, ◌*◌, ◌<◌, ◌≤◌}
use native.Mathlib.Nat.{zero-mul, suc-mul, not-suc-le-zero, le_of_suc-le-suc}
use native.Mathlib.Omega.{arith}
use lib.IntN.{ℤ, pos}
use lib.ListN.{length, get_or, take, drop, length-drop}
use lib.Seq.{get_or-take}
use Rattle.std.proofs.lemmas.List.{length-take-le, get_or-drop, length-map, get_or-map, drop-drop, take-take}
use Rattle.std.proofs.lemmas.Slice.Zip.{length-zip, get_or-zip}
use Rattle.std.specs.List.{list_any, zip}
use Rattle.std.specs.Simd.{first_chunks}
use Rattle.integers.specs.Lists.{any, tab}
use Rattle.integers.proofs.Lists.{tab-list, tab-same}
use Rattle.nest.specs.declared.LoopNest.{LoopNest}
use Rattle.nest.specs.Nest.{part, depth_of, dependence_at, limit_at, limits_in, limits_of, max_depth}
use Rattle.nest.specs.Refusals.{crossed}
use Rattle.nest.proofs.Chains.{listed-any, mapped-any}
use Rattle.nest.proofs.Conditions.{limit_of}

-- n places from a place on
pub part-slice : (xs : List ℤ) (from n : ℕ) → from + n ≤ length xs → take n (drop from xs) ≡ part xs from n
unfolding part
part-slice xs from n h =
    let long : n ≤ length (drop from xs) = rw (length-drop from xs) (omega arith) in
    sym (tab-list (λ k. get_or xs (from + k) (pos 0)) (take n (drop from xs)) (pos 0) n (length-take-le n (drop from xs) long)
    (λ i l. sym (get_or-take n (drop from xs) i (pos 0) l ∙ get_or-drop from xs i (pos 0))))

-- the first n
pub part-first : (xs : List ℤ) (n : ℕ) → n ≤ length xs → take n xs ≡ part xs 0 n
part-first xs n h = part-slice xs 0 n (omega arith)

-- the limits of the first n loops
pub limits-first : (lower upper : List ℤ) (n : ℕ) → n ≤ length lower → limits_in (take n lower) (take n upper) ≡ tab (limit_at lower upper) n
limits-first lower upper n h =
    ap (tab (limit_at (take n lower) (take n upper))) (length-take-le n lower h)
    ∙ tab-same (limit_at (take n lower) (take n upper)) (limit_at lower upper) n
    (λ k l. ap₂ limit_of (get_or-take n lower k (pos 0) l) (get_or-take n upper k (pos 0) l))

-- those of a nest
pub limits-slices : (s : LoopNest) (n : ℕ) → n ≡ depth_of s → n ≤ length s.lower → limits_in (take n s.lower) (take n s.upper) ≡ limits_of s
unfolding limits_of
limits-slices s n e h = limits-first s.lower s.upper n h ∙ ap (tab (limit_at s.lower s.upper)) e

-- ---- what the tests of faults say

-- of the first n numbers
pub any-first : (p : ℤ → Bool) (xs : List ℤ) (n : ℕ) → n ≤ length xs → list_any p (take n xs) ≡ any p (part xs 0 n)
any-first p xs n h = listed-any p (take n xs) ∙ ap (any p) (part-first xs n h)

-- limits side by side
zipped : (xs ys : List ℤ) → length xs ≡ length ys → map (λ (l : ℤ × ℤ). limit_of l.0 l.1) (zip xs ys) ≡ limits_in xs ys
zipped xs ys e =
    let both = zip xs ys in
    let f = λ (l : ℤ × ℤ). limit_of l.0 l.1 in
    let d : ℤ × ℤ = (pos 0, pos 0) in
    let n : length (zip xs ys) ≡ length xs = length-zip xs ys ∙ omega arith in
    sym (tab-list (limit_at xs ys) (map f both) (limit_of (pos 0) (pos 0)) (length xs) (length-map both f ∙ n)
    (λ i l. sym (get_or-map f both i d (limit_of (pos 0) (pos 0)) (rw n l) ∙ ap f (get_or-zip xs ys i d l (omega arith)))))

pub crossed-first : (lower upper : List ℤ) (n : ℕ) → n ≤ length lower → n ≤ length upper
    → list_any (λ (l : ℤ × ℤ). crossed (limit_of l.0 l.1)) (zip (take n lower) (take n upper)) ≡ any crossed (tab (limit_at lower upper) n)
crossed-first lower upper n h g =
    mapped-any (λ (l : ℤ × ℤ). limit_of l.0 l.1) crossed (zip (take n lower) (take n upper))
    ∙ ap (any crossed) (zipped (take n lower) (take n upper) (length-take-le n lower h ∙ sym (length-take-le n upper g)) ∙ limits-first lower upper n h)

-- ---- the dependences as rows

-- row i of k rows of N numbers
row-at : (N k : ℕ) (xs : List ℤ) (i : ℕ) (d : List ℤ) → i < k → get_or (first_chunks N k xs) i d ≡ take N (drop (i * N) xs)
row-at N zero xs i d h = absurd (not-suc-le-zero h)
row-at N (suc k) xs zero d h = ap (λ j. take N (drop j xs)) (sym (zero-mul N))
row-at N (suc k) xs (suc i) d h =
    row-at N k (drop N xs) i d (le_of_suc-le-suc h)
    ∙ ap (take N) (drop-drop (i * N) N xs ∙ ap (λ j. drop j xs) (omega (arith, suc-mul i N)))

row-count : (N k : ℕ) (xs : List ℤ) → length (first_chunks N k xs) ≡ k
row-count N zero xs = refl
row-count N (suc k) xs = ap suc (row-count N k (drop N xs))

-- rows of which m are looked at, each with its first n components
module _ (k n m : ℕ) (xs : List ℤ) (few : n ≤ max_depth) (some : m ≤ k) (long : m * max_depth ≤ length xs) where
  pub rows-length : length (take m (first_chunks max_depth k xs)) ≡ m
  rows-length = length-take-le m (first_chunks max_depth k xs) (rw (row-count max_depth k xs) some)

  -- row i has dependence i
  row-is : (i : ℕ) → i < m → take n (get_or (take m (first_chunks max_depth k xs)) i []) ≡ dependence_at xs n i
  row-is i h =
      ap (take n) (get_or-take m (first_chunks max_depth k xs) i [] h ∙ row-at max_depth k xs i [] (omega arith))
      ∙ take-take n max_depth (drop (i * max_depth) xs) few
      ∙ part-slice xs (i * max_depth) n (omega arith)

  pub rows-tab : map (take n) (take m (first_chunks max_depth k xs)) ≡ tab (dependence_at xs n) m
  rows-tab =
      let r = take m (first_chunks max_depth k xs) in
      sym (tab-list (dependence_at xs n) (map (take n) r) [] m (length-map r (take n) ∙ rows-length)
      (λ i h. sym (get_or-map (take n) r i [] [] (rw rows-length h) ∙ row-is i h)))

  -- so what is said of the rows is said of the dependences
  pub any-rows : (p : List ℤ → Bool) → list_any (λ row. p (take n row)) (take m (first_chunks max_depth k xs)) ≡ any p (tab (dependence_at xs n) m)
  any-rows p = mapped-any (take n) p (take m (first_chunks max_depth k xs)) ∙ ap (any p) rows-tab
