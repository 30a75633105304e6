-- Document 01 had one boundary value for all dependences: with equal boundary values every value is
-- what it was.
-- Assumes nothing.
use mathlib.Core.Path.{◌≡◌, refl, ap, ap₂, ◌∙◌}
use mathlib.Core.List.{List, [], ◌∷◌, ◌++◌}
use mathlib.Core.Option.{Option, none, some}
use Prim.Native.Nat.{ℕ, zero, suc, ◌<◌}
use lib.IntN.{ℤ, pos}
use lib.ListN.{length, get_or}
use Rattle.integers.proofs.Lists.{tab-same}
use Rattle.nest.specs.declared.LoopNest.{LoopNest}
use Rattle.nest.specs.Nest.{to_ℕ, count_of, boundaries_of, weights_of}
use Rattle.nest.specs.Points.{points_of}
use Rattle.nest.specs.Sources.{source_rank}
use Rattle.sequential.specs.Sequential.{Rule, source_value, value_of, loop, sequential, rule_of, rule_of_one, values_of}

-- ---- two rules with the same boundary value for each dependence of the nest
module _ {Val : Type 0} (s : LoopNest) (R T : Rule Val) (Values-same : R.value ≡ T.value) (boundaries-same : (i : ℕ) → i < count_of s → R.boundary i ≡ T.boundary i) where
  -- the same is read along dependence i
  rules_source : (values : List Val) (i : ℕ) → i < count_of s → (o : Option ℕ) → source_value R values i o ≡ source_value T values i o
  unfolding source_value
  rules_source values i h none = boundaries-same i h
  rules_source values i h (some j) = ap (get_or values j) (boundaries-same i h)

  -- they give iteration k the same value
  pub rules_value : (values : List Val) (k : ℕ) → value_of R s values k ≡ value_of T s values k
  unfolding value_of
  rules_value values k =
      ap₂ (λ (f : List Val → Val) (xs : List Val). f xs) (ap (λ v. v (get_or (points_of s) k []) k) Values-same)
      (tab-same (λ i. source_value R values i (source_rank s k i)) (λ i. source_value T values i (source_rank s k i)) (count_of s) (λ i h. rules_source values i h (source_rank s k i)))

  -- the first n iterations have the same values
  rules_loop : (n : ℕ) → loop R s n ≡ loop T s n
  unfolding loop
  rules_loop zero = refl
  rules_loop (suc n) = ap₂ (λ values v. values ++ (v ∷ [])) (rules_loop n) (rules_value (loop R s n) n ∙ ap (λ values. value_of T s values n) (rules_loop n))

  -- all iterations
  pub rules_sequential : sequential R s ≡ sequential T s
  unfolding sequential
  rules_sequential = rules_loop (length (points_of s))

-- ---- a nest whose dependences all have the boundary value z
module _ (s : LoopNest) (z : ℤ) (equal : (i : ℕ) → i < count_of s → get_or (boundaries_of s) i (pos 0) ≡ z) where
  -- document 01's rule for it
  abbrev former : Rule ℕ
  former = rule_of_one z (weights_of s)

  -- it is the nest's own but for the boundary values
  former-values : (rule_of s).value ≡ former.value
  unfolding rule_of rule_of_one
  former-values = refl

  -- and they are the same for each dependence
  former-boundaries : (i : ℕ) → i < count_of s → (rule_of s).boundary i ≡ former.boundary i
  unfolding rule_of rule_of_one
  former-boundaries i h = ap to_ℕ (equal i h)

  -- from any table, an iteration gets the value of document 01
  pub value_as_before : (values : List ℕ) (k : ℕ) → value_of (rule_of s) s values k ≡ value_of (rule_of_one z (weights_of s)) s values k
  value_as_before = rules_value s (rule_of s) former former-values former-boundaries

  -- and so do all
  pub values_as_before : values_of s ≡ sequential (rule_of_one z (weights_of s)) s
  unfolding values_of
  values_as_before = rules_sequential s (rule_of s) former former-values former-boundaries
