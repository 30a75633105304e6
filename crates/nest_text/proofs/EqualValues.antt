-- Whether boundary values are all equal, as a test and in words, and which last line is written for
-- them.
-- Assumes nothing.
use mathlib.Core.Path.{◌≡◌, refl, sym, ap, subst, ◌∙◌}
use mathlib.Core.Bool.{true, false, not}
use mathlib.Core.List.{List, [], ◌∷◌, ◌++◌}
use mathlib.Core.Logic.{inl, inr, ◌↔◌}
use Prim.Native.Nat.{ℕ, zero, suc, ◌+◌, ◌≤◌, ◌<◌}
use native.Mathlib.Omega.{arith}
use lib.IntN.{ℤ, pos}
use lib.ListN.{length, get_or, replicate, length-replicate, get_or-replicate}
use lib.Seq.{ext_get_or}
use Rattle.std.specs.List.{AllWithin, HoldsAt}
use Rattle.integers.specs.Lists.{any, tab, place}
use Rattle.integers.proofs.Lists.{split, clash, any_at, place-below, place-passes, get_or-tab}
use Rattle.integers.specs.Vector.{eq_z}
use Rattle.integers.proofs.Vector.{eq_z_true, eq_z-same}
use Rattle.nest.specs.declared.LoopNest.{LoopNest}
use Rattle.nest.specs.Nest.{part, count_of, boundaries_of, weights_of}
use Rattle.nest.proofs.Lengths.{boundaries-length}
use Rattle.nest_text.specs.Text.{at, short_last, long_last, differ, last_of}
use Rattle.nest_text.specs.Reader.{value_count}
use Rattle.nest_text.specs.Form.{LastSays, AllEqual}

-- ---- numbers that are all equal

module _ (zs : List ℤ) where
  -- where none is another than the first, each is the first
  same_first : differ zs ≡ false → (i : ℕ) → i < length zs → at zs i ≡ at zs 0
  unfolding differ
  same_first h i l =
      eq_z_true (at zs i) (at zs 0)
      (split (eq_z (at zs i) (at zs 0)) (λ t. t) (λ f. clash (any_at (λ z. not (eq_z z (at zs 0))) zs i (pos 0) l (ap not f)) h))

  -- the test says that any two are equal
  pub differ_words : (differ zs ≡ false) ↔ AllEqual zs
  unfolding differ
  differ_words = (
    λ h i j l k. same_first h i l ∙ sym (same_first h j k),
    λ e. split (differ zs)
        (λ t.
        let p = place (λ z. not (eq_z z (at zs 0))) zs in
        let b = place-below (λ z. not (eq_z z (at zs 0))) zs t in
        clash (place-passes (λ z. not (eq_z z (at zs 0))) zs (pos 0) t) (ap not (eq_z-same (at zs p) (at zs 0) (e p 0 b (omega arith)))))
        (λ f. f),
  )

  -- they are then so many of the first
  pub equal_first : differ zs ≡ false → zs ≡ replicate (length zs) (at zs 0)
  equal_first h =
      ext_get_or (pos 0) zs (replicate (length zs) (at zs 0)) (sym (length-replicate (length zs) (at zs 0)))
      (λ i l. same_first h i l ∙ sym (get_or-replicate (length zs) i (at zs 0) (pos 0) l))

-- so many of one number are all equal
pub replicate_equal : (n : ℕ) (z : ℤ) → differ (replicate n z) ≡ false
replicate_equal n z = (differ_words (replicate n z)).1 (λ i j l k. each i l ∙ sym (each j k))
  where
    each : (i : ℕ) → i < length (replicate n z) → at (replicate n z) i ≡ z
    each i l = get_or-replicate n i z (pos 0) (subst (λ m. i < m) (length-replicate n z) l)

-- ---- how many numbers are written

-- one, where each is the first
pub count-one : (a : ℤ) (zs : List ℤ) → AllWithin (λ z. z ≡ a) zs 0 (length zs) → value_count (a ∷ zs) ≡ 1
unfolding value_count
count-one a zs h = rw ((differ_words (a ∷ zs)).1 (λ i j l k. each i l ∙ sym (each j k)), value_count) refl
  where
    each : (i : ℕ) → i < suc (length zs) → at (a ∷ zs) i ≡ a
    each zero l = refl
    each (suc i) l = h i (pos 0) (omega arith) (omega arith)

-- all, where one is another
pub count-all : (a : ℤ) (zs : List ℤ) (k : ℕ) → k < length zs → HoldsAt (λ z. z ≡ a → ⊥) zs k → value_count (a ∷ zs) ≡ suc (length zs)
unfolding value_count
count-all a zs k l h =
    let t : differ (a ∷ zs) ≡ true = split (differ (a ∷ zs)) (λ t. t)
    (λ f. absurd (h (pos 0) (same_first (a ∷ zs) f (suc k) (omega arith)))) in
    rw (t, value_count) refl

-- one, where there is none
pub count_none : (zs : List ℤ) → length zs ≡ 0 → value_count zs ≡ 1
unfolding value_count differ any
count_none [] h = refl
count_none (z ∷ zs) h = absurd (omega arith)

-- ---- the last line that is written

module _ (s : LoopNest) where
  -- the long one
  pub last-long : differ (boundaries_of s) ≡ true → last_of s ≡ long_last s
  unfolding last_of
  last-long e = rw (e, last_of) refl

  -- the short one
  pub last_short : differ (boundaries_of s) ≡ false → last_of s ≡ short_last s
  unfolding last_of
  last_short e = rw (e, last_of) refl

  -- equal values, so many of the first
  pub boundaries_equal : differ (boundaries_of s) ≡ false → boundaries_of s ≡ replicate (count_of s) (at (boundaries_of s) 0)
  boundaries_equal e = equal_first (boundaries_of s) e ∙ ap (λ n. replicate n (at (boundaries_of s) 0)) (boundaries-length s)

  -- it says the boundary values and the weights
  pub last_written : LastSays s (last_of s)
  last_written = split (differ (boundaries_of s)) (λ t. inl (last-long t)) (λ f. inr (at (boundaries_of s) 0, boundaries_equal f, last_short f))

  -- with one dependence both are the same
  pub one_last : count_of s ≡ 1 → long_last s ≡ short_last s
  one_last e = ap (λ zs. zs ++ weights_of s) (one (boundaries_of s) (boundaries-length s ∙ e))
    where
      one : (zs : List ℤ) → length zs ≡ 1 → zs ≡ at zs 0 ∷ []
      one zs l = ext_get_or (pos 0) zs (at zs 0 ∷ []) l (λ i h. let z : i ≡ 0 = omega arith in ap (λ j. at zs j) z ∙ sym (ap (λ j. get_or (at zs 0 ∷ []) j (pos 0)) z))

  -- of one value for all, the value is the first
  pub short_last_lem : (z : ℤ) → 1 ≤ count_of s → boundaries_of s ≡ replicate (count_of s) z → (last_of s ≡ z ∷ weights_of s)
  short_last_lem z some e =
      let first : at (boundaries_of s) 0 ≡ z = ap (λ zs. at zs 0) e ∙ get_or-replicate (count_of s) 0 z (pos 0) some in
      last_short (ap differ e ∙ replicate_equal (count_of s) z) ∙ ap (λ (a : ℤ). a ∷ weights_of s) first

  -- ---- how many boundary values it has

  -- they are the first so many
  pub last-part : 1 ≤ count_of s → last_of s ≡ part s.boundaries 0 (value_count (boundaries_of s)) ++ weights_of s
  unfolding value_count
  last-part some = split (differ (boundaries_of s)) long short
    where
      long : differ (boundaries_of s) ≡ true → last_of s ≡ part s.boundaries 0 (value_count (boundaries_of s)) ++ weights_of s
      long t = last-long t ∙ sym (rw (t, value_count) (unfold boundaries_of in ap (λ n. part s.boundaries 0 n ++ weights_of s) (boundaries-length s)))

      short : differ (boundaries_of s) ≡ false → last_of s ≡ part s.boundaries 0 (value_count (boundaries_of s)) ++ weights_of s
      short f = last_short f ∙ sym (rw (f, value_count) (unfold boundaries_of part tab in ap (λ (a : ℤ). a ∷ weights_of s) (sym (get_or-tab (λ k. get_or s.boundaries (0 + k) (pos 0)) (count_of s) 0 (pos 0) some))))

  -- one at least, and no more than there are
  pub values-few : 1 ≤ count_of s → (1 ≤ value_count (boundaries_of s)) × (value_count (boundaries_of s) ≤ count_of s)
  unfolding value_count
  values-few some = split (differ (boundaries_of s))
      (λ t. rw (t, value_count) (omega (arith, boundaries-length s), omega (arith, boundaries-length s)))
      (λ f. rw (f, value_count) (omega arith, omega arith))
