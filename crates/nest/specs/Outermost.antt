-- A nest with one more loop around it, which has one index and along which no vector moves
-- (document 02, U11): such a loop changes nothing in a plan (planner's proofs/Outermost.antt).
-- Assumes nothing.
use Rattle.std.specs.Prelude.{◌≡◌, ◌∷◌, map, ℤ, pos}
use Rattle.nest.specs.declared.LoopNest.{LoopNest}
use Rattle.nest.specs.Nest.{Limit, limits_of, time_of, dependences_of, boundaries_of, weights_of, nest_of}

-- the limits of a loop with one index
abbrev pub only : ℤ → Limit
only x = record { lower = x; upper = x }

-- t is s without its outermost loop, which has one index and along which no vector moves
pub record Outermost (s t : LoopNest) : Type 0 where
  pub index : ℤ
  pub limits : limits_of s ≡ only index ∷ limits_of t
  pub times : time_of s ≡ pos 0 ∷ time_of t
  pub dependences_are : dependences_of s ≡ map (λ d. pos 0 ∷ d) (dependences_of t)
  pub boundaries_are : boundaries_of s ≡ boundaries_of t
  pub weights_are : weights_of s ≡ weights_of t
  pub counts : s.count ≡ t.count
  pub cubes : s.cube ≡ t.cube

-- a nest with such a loop around it
unfoldable pub around : ℤ → LoopNest → LoopNest
around x t = nest_of t.cube (only x ∷ limits_of t) (pos 0 ∷ time_of t)
    (map (λ d. pos 0 ∷ d) (dependences_of t)) (boundaries_of t) (weights_of t)
