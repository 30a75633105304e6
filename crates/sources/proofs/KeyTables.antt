-- The keys of a list of points, of any depth and whatever their limits, that come one after the other in loop order: they increase, and the rank of a vector
-- is the place of its key. Assumes nothing.
use mathlib.Core.Path.{◌≡◌, sym, subst, subst₂, ◌∙◌}
use mathlib.Core.List.{List, [], map}
use Prim.Native.Nat.{ℕ, ◌+◌, ◌<◌}
use lib.IntN.{ℤ, pos}
use lib.ListN.{length, get_or, length-map}
use lib.Signed.{◌<ℤ◌}
use Rattle.integers.specs.Lists.{place}
use Rattle.integers.specs.Vector.{Vector, AllWithin, eq_z, eq_v}
use Rattle.integers.proofs.ListFacts.{get_d_map, place_map}
use Rattle.nest.specs.Points.{Before, rank}
use Rattle.sources.specs.Keys.{base, key, Increasing}
use Rattle.sources.proofs.KeyOrder.{key-before, key_test}

-- points of n components of at most A, each before the later ones
pub record Ordered (n A : ℕ) (ps : List Vector) : Type 0 where
  -- below half the base
  pub small : A + A < base
  -- one length
  pub lengths : (k : ℕ) → k < length ps → length (get_or ps k []) ≡ n
  -- small components
  pub sizes_are : (k : ℕ) → k < length ps → AllWithin A (get_or ps k [])
  -- in loop order
  pub before : (i k : ℕ) → i < k → k < length ps → Before (get_or ps i []) (get_or ps k [])

module _ (n A : ℕ) (ps : List Vector) (O : Ordered n A ps) where
  -- the keys increase
  pub keys_increase : Increasing (map key ps)
  keys_increase i k l h =
      let b : k < length ps = subst (λ m. k < m) (length-map ps key) h in
      let a : i < length ps = omega native.Mathlib.Omega.arith in
      subst₂ (λ (x y : ℤ). x <ℤ y) (sym (get_d_map key ps i [] (pos 0) a)) (sym (get_d_map key ps k [] (pos 0) b))
      (key-before A O.small (get_or ps i []) (get_or ps k []) (O.lengths i a ∙ sym (O.lengths k b)) (O.sizes_are i a) (O.sizes_are k b) (O.before i k l b))

  -- the place of a vector's key is the vector's rank
  pub place-rank : (v : Vector) → length v ≡ n → AllWithin A v → place (eq_z (key v)) (map key ps) ≡ rank ps v
  unfolding rank
  place-rank v e a = place_map key (eq_z (key v)) (eq_v v) [] ps (λ k l. key_test A O.small v (get_or ps k []) (e ∙ sym (O.lengths k l)) a (O.sizes_are k l))
