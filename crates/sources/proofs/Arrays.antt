-- The keys of vectors that stand in arrays: digit by digit, and those of a nest's dependences one after the other; how many the iterations have. Assumes nothing.
use mathlib.Core.Path.{◌≡◌, refl, sym, ap, ap₂, ◌∙◌}
use mathlib.Core.List.{List, [], ◌∷◌, ◌++◌}
use Prim.Native.Nat.{ℕ, zero, suc, ◌+◌, ◌-◌, ◌^◌, ◌<◌, ◌≤◌}
use native.Mathlib.Nat as NatL
use native.Mathlib.Omega.{arith}
use lib.IntN.{ℤ, pos, nat_abs, ◌+ℤ◌, ◌*ℤ◌}
use lib.ListN.{length, get_or, take, drop, replicate, length-map}
use Rattle.std.proofs.lemmas.List.{take_more, length-take, length-take-le, length-drop, get_or-take, get_or-drop}
use Rattle.integers.specs.Lists.{tab}
use Rattle.integers.proofs.Lists.{tab-list, length-tab, map-tab}
use Rattle.integers.specs.Vector.{AllWithin}
use Rattle.nest.specs.declared.LoopNest.{LoopNest}
use Rattle.nest.specs.Nest.{part, padded, depth_of, count_of, dependence_at, dependences_of, max_depth, max_dependences, max_limit}
use Rattle.nest.specs.Points.{points_of}
use Rattle.nest.proofs.Padding.{drop-zeros}
use Rattle.sources.specs.Keys.{base, key_from, key, max_key, distances_of, keys_of}
use Rattle.sources.proofs.KeyOrder.{key-size, key_snoc}

-- ---- components in a slice

-- no components yet
pub key-none : key [] ≡ pos 0
unfolding key key_from
key-none = refl

-- one digit more
pub key-take_more : (xs : List ℤ) (i : ℕ) → i < length xs → key (take (i + 1) xs) ≡ key (take i xs) *ℤ pos base +ℤ get_or xs i (pos 0)
unfolding key
key-take_more xs i h = ap (key_from (pos 0)) (take_more xs i (pos 0) h) ∙ key_snoc (pos 0) (take i xs) (get_or xs i (pos 0))

-- no larger than the largest key
pub power-most : (k : ℕ) → k ≤ max_depth → base ^ k ≤ max_key
power-most k h = NatL.pow-le-pow_right {n = base} (omega arith) h

-- and above 0
pub power-some : (k : ℕ) → 0 < base ^ k
power-some k =
    let h : 0 ≤ k = omega arith in
    let p : base ^ 0 ≤ base ^ k = NatL.pow-le-pow_right {n = base} (omega arith) h in
    omega arith

-- the first i of small components are small
all_take : (A i : ℕ) (xs : List ℤ) → AllWithin A xs → AllWithin A (take i xs)
all_take A zero xs w = tt
all_take A (suc i) [] w = tt
all_take A (suc i) (x ∷ xs) w = (w.0, all_take A i xs w.1)

-- and so is their key
pub key-take-size : (xs : List ℤ) (i : ℕ) → length xs ≤ max_depth → i ≤ length xs → AllWithin max_limit xs → nat_abs (key (take i xs)) ≤ max_key
key-take-size xs i m l w =
    let e : length (take i xs) ≡ i = length-take-le i xs l in
    let p = key-size max_limit (omega arith) (take i xs) (all_take max_limit i xs w) in
    let q : base ^ length (take i xs) ≤ max_key = power-most (length (take i xs)) (omega arith) in
    omega arith

-- n places of an array, from a place on, as a slice
pub part-slice : (xs : List ℤ) (from n : ℕ) → from + n ≤ length xs → take n (drop from xs) ≡ part xs from n
unfolding part
part-slice xs from n h =
    sym (tab-list (λ k. get_or xs (from + k) (pos 0)) (take n (drop from xs)) (pos 0) n (simp (length-take, length-drop) (omega arith)) (λ i l. sym (get_or-take n (drop from xs) i (pos 0) l ∙ get_or-drop from xs i (pos 0))))

-- ---- the keys of the iterations

-- there is a key for each
pub keys_length : (s : LoopNest) → length (keys_of s) ≡ length (points_of s)
unfolding keys_of
keys_length s = length-map (points_of s) key

-- ---- the keys of the dependences in an array

module _ (s : LoopNest) where
  -- that of dependence i
  abbrev pub distance_at : ℕ → ℤ
  distance_at i = key (dependence_at s.dependences (depth_of s) i)

  -- with those of the places behind them
  pub distances-all : (m : ℕ) → m ≡ count_of s → tab distance_at m ++ drop m (replicate max_dependences (pos 0)) ≡ padded max_dependences (distances_of s)
  unfolding distances_of dependences_of padded
  distances-all m e =
      ap₂ (λ (t : List ℤ) (z : List ℤ). t ++ z) (ap (tab distance_at) e ∙ sym (map-tab key (dependence_at s.dependences (depth_of s)) (count_of s)))
      (drop-zeros m max_dependences ∙ ap (λ n. replicate (max_dependences - n) (pos 0)) (e ∙ sym (length-map (dependences_of s) key ∙ length-tab (dependence_at s.dependences (depth_of s)) (count_of s))))
