-- The weighted sum of sources that are found in a table of keys, one dependence after the other: it
-- is the value of the nest's rule. Assumes nothing.
use mathlib.Core.Path.{◌≡◌, refl, sym, ap, ap₂, subst, ◌∙◌}
use mathlib.Core.List.{List, [], ◌∷◌, ◌++◌}
use Prim.Native.Nat.{ℕ, zero, suc, ◌+◌, ◌*◌, ◌%◌, ◌<◌, ◌≤◌}
use native.Mathlib.Nat.{add_assoc}
use native.Mathlib.Numerals.{add-one}
use native.Mathlib.Omega.{arith}
use lib.IntN.{ℤ, pos}
use lib.ListN.{length, get_or, take}
use Rattle.integers.specs.Lists.{tab, total}
use Rattle.integers.proofs.Lists.{tab-more}
use Rattle.nest.specs.declared.LoopNest.{LoopNest}
use Rattle.nest.specs.Nest.{to_ℕ, count_of}
use Rattle.nest.specs.Points.{points_of}
use Rattle.nest.specs.Sources.{source_rank}
use Rattle.sources.specs.Keys.{source_in}
use Rattle.sources.proofs.Cursors.{OfNest, keyed-length, keyed-source}
use Rattle.sequential.specs.ByKeys.{term_in, value_in}
use Rattle.sequential.specs.Sequential.{source_value, value_of, rule_of, modulus}
use Rattle.sequential.proofs.SourceLaws.{source-read}
use Rattle.sequential.proofs.SumLaws.{sum_to, sum-none, sum_more, sum-all}

-- one number more
sum_one : (xs : List ℕ) (x : ℕ) → total (xs ++ (x ∷ [])) ≡ total xs + x
unfolding total
sum_one [] x = omega arith
sum_one (y ∷ xs) x = ap (λ n. y + n) (sum_one xs x) ∙ sym (add_assoc y (total xs) x)

module _ (keys distances : List ℤ) (weights boundaries values : List ℕ) (k : ℕ) where
  -- of the first i dependences
  abbrev pub terms_to : ℕ → ℕ
  terms_to i = total (tab (term_in keys distances weights boundaries values k) i)

  -- of none
  pub terms_none : terms_to 0 ≡ 0
  unfolding total tab
  terms_none = refl

  -- of one more
  pub terms_more : (i : ℕ) → terms_to (i + 1) ≡ terms_to i + term_in keys distances weights boundaries values k i
  terms_more i = ap total (tab-more (term_in keys distances weights boundaries values k) i) ∙ sum_one (tab (term_in keys distances weights boundaries values k) i) (term_in keys distances weights boundaries values k i)

  -- one dependence more, as the loop has it
  pub terms_next : (i j acc x : ℕ) → acc ≡ k + terms_to i → j ≡ source_in keys k (get_or distances i (pos 0)) → x ≡ get_or weights i 0 * get_or (take (length keys) values) j (get_or boundaries i 0) → acc + x ≡ k + terms_to (i + 1)
  unfolding term_in
  terms_next i j acc x e p q = let t = q ∙ ap (λ a. get_or weights i 0 * get_or (take (length keys) values) a (get_or boundaries i 0)) p in omega (arith, terms_more i)

  -- all
  pub terms_all : (i m acc : ℕ) → acc ≡ k + terms_to i → i ≡ m → acc % modulus ≡ value_in keys distances weights boundaries values k m
  unfolding value_in
  terms_all i m acc e q = ap (λ a. a % modulus) (e ∙ ap (λ a. k + terms_to a) q)

-- ---- the numbers that the loop over the iterations uses, and the nest that they are of
pub record Uses (s : LoopNest) (keys : List ℤ) (m : ℕ) (distances : List ℤ) (weights boundaries : List ℕ) : Type 0 where
  -- its keys, its dependences and their keys
  pub keyed : OfNest s keys m distances
  -- its weights
  pub weights_are : (i : ℕ) → i < m → get_or weights i 0 ≡ to_ℕ (get_or s.weights i (pos 0))
  -- its boundary values
  pub boundaries_are : (i : ℕ) → i < m → get_or boundaries i 0 ≡ to_ℕ (get_or s.boundaries i (pos 0))

module _ (s : LoopNest) (keys : List ℤ) (m : ℕ) (distances : List ℤ) (weights boundaries : List ℕ) (U : Uses s keys m distances weights boundaries) where
  -- one of m dependences is one of the nest
  own : (i : ℕ) → i < m → i < count_of s
  own i h = subst (λ n. i < n) U.keyed.count h

  module _ (values : List ℕ) (k : ℕ) (h : k < length (points_of s)) where
    -- what is read along dependence i
    nest-term : (i : ℕ) → i < m → term_in keys distances weights boundaries values k i ≡ to_ℕ (get_or s.weights i (pos 0)) * source_value (rule_of s) values i (source_rank s k i)
    unfolding term_in
    nest-term i l =
        let j = source_in keys k (get_or distances i (pos 0)) in
        ap₂ (λ (w b : ℕ). w * get_or (take (length keys) values) j b) (U.weights_are i l) (U.boundaries_are i l)
        ∙ ap (λ x. to_ℕ (get_or s.weights i (pos 0)) * x) (source-read s k i j (own i l) (keyed-source s keys m distances U.keyed k i h l) (length keys) values (keyed-length s keys m distances U.keyed))

    -- the weighted sum of the first i sources
    nest_terms : (i : ℕ) → i ≤ m → terms_to keys distances weights boundaries values k i ≡ sum_to s values k i
    nest_terms zero l = terms_none keys distances weights boundaries values k ∙ sym (sum-none s values k)
    nest_terms (suc i) l =
        rw add-one at (terms_more keys distances weights boundaries values k i) ∙ ap₂ (λ a b. a + b) (nest_terms i (omega arith)) (nest-term i (omega arith)) ∙ sym (rw add-one at (sum_more s values k i))

    -- the value is that of the nest's rule
    pub uses_value : (v : ℕ) → v ≡ value_in keys distances weights boundaries values k m → v ≡ value_of (rule_of s) s values k
    unfolding value_in
    uses_value v e = e ∙ ap (λ a. (k + a) % modulus) (nest_terms m (omega arith) ∙ ap (sum_to s values k) U.keyed.count) ∙ sym (sum-all s values k)
