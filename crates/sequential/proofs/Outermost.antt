-- One more loop around a nest, which has one index and along which no vector moves, changes no value: the rule of a nest does not look at index
-- points. Under any rule the values are those of the rule that is told the inner indices only. Assumes nothing.
use mathlib.Core.Path.{◌≡◌, refl, ap, ap₂, ◌∙◌}
use mathlib.Core.List.{List, [], ◌∷◌, ◌++◌}
use mathlib.Core.Option.{Option, none, some}
use Prim.Native.Nat.{ℕ, zero, suc, ◌<◌, ◌≤◌}
use native.Mathlib.Nat.{le_refl}
use native.Mathlib.Omega.{arith}
use lib.IntN.{pos}
use lib.ListN.{length, get_or}
use Rattle.integers.specs.Lists.{tab}
use Rattle.integers.specs.Vector.{Vector}
use Rattle.integers.proofs.Images.{behind}
use Rattle.integers.proofs.ListFacts.{get_d_map}
use Rattle.nest.specs.declared.LoopNest.{LoopNest}
use Rattle.nest.specs.Nest.{to_ℕ}
use Rattle.nest.specs.Outermost.{Outermost}
use Rattle.nest.specs.Points.{points_of}
use Rattle.nest.specs.Sources.{source_rank}
use Rattle.nest.proofs.Outermost.{outer-points, outer-number, outer-source}
use Rattle.sequential.specs.Sequential.{Rule, source_value, value_of, loop, sequential, weighted_sum, rule_of, values_of}

module _ {s t : LoopNest} (o : Outermost s t) where
  module _ {Val : Type 0} (R : Rule Val) where
    -- the rule, told the inner indices only
    abbrev pub inner : Rule Val
    inner = record { boundary = R.boundary; value = λ j. R.value (behind o.index j) }

    -- it reads the same
    inner-source : (values : List Val) (i : ℕ) (k : Option ℕ) → source_value R values i k ≡ source_value inner values i k
    unfolding source_value
    inner-source values i none = refl
    inner-source values i (some k) = refl

    -- the point of an iteration
    point-outer : (k : ℕ) → k < length (points_of t) → get_or (points_of s) k [] ≡ behind o.index (get_or (points_of t) k [])
    point-outer k h = ap (λ (ps : List Vector). get_or ps k []) (outer-points o) ∙ get_d_map (behind o.index) (points_of t) k [] [] h

    -- it gives iteration k the same value
    value-outer : (values : List Val) (k : ℕ) → k < length (points_of t) → value_of R s values k ≡ value_of inner t values k
    unfolding value_of
    value-outer values k h = λ x.
        R.value (point-outer k h x) k (tab (λ i. (ap (source_value R values i) (outer-source o k i h) ∙ inner-source values i (source_rank t k i)) x) (to_ℕ (o.counts x)))

    -- the first n iterations
    loop-outer : (n : ℕ) → n ≤ length (points_of t) → loop R s n ≡ loop inner t n
    unfolding loop
    loop-outer zero h = refl
    loop-outer (suc n) h = ap₂ (λ (values : List Val) (v : Val). values ++ (v ∷ [])) (loop-outer n (omega arith)) (ap (λ values. value_of R s values n) (loop-outer n (omega arith)) ∙ value-outer (loop inner t n) n h)

    -- all iterations
    pub sequential-outer : sequential R s ≡ sequential inner t
    unfolding sequential
    sequential-outer = ap (loop R s) (outer-number o) ∙ loop-outer (length (points_of t)) (le_refl (length (points_of t)))

  -- the nests' own rules are the same
  rule_outer : inner (rule_of s) ≡ rule_of t
  unfolding rule_of
  rule_outer = λ x.
      record { boundary = λ i. to_ℕ (get_or (o.boundaries_are x) i (pos 0)); value = λ j k sources. weighted_sum (o.weights_are x) k sources }

  -- and so are their values
  pub outer-values : values_of s ≡ values_of t
  unfolding values_of
  outer-values = sequential-outer (rule_of s) ∙ ap (λ R. sequential R t) rule_outer
