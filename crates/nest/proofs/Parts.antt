-- Each part of the check reads some fields of a nest: it answers the same of the nest that has these alone. Assumes nothing.
use mathlib.Core.Path.{◌≡◌, refl, sym, subst}
use mathlib.Core.List.{[]}
use Prim.Native.Nat.{ℕ}
use lib.IntN.{pos}
use Rattle.nest.specs.declared.LoopNest.{LoopNest}
use Rattle.nest.specs.Nest.{nest_from, to_ℕ, depth_of, count_of, limits_of, time_of, dependences_of, boundaries_of, weights_of}
use Rattle.nest.specs.Refusals.{holds, first_met, header_order, limit_order, vector_order, weight_order}

-- the depth, the number of dependences and the cube dimension
pub header-parts : (s : LoopNest) → first_met (nest_from s.depth s.count s.cube [] [] [] [] [] []) header_order ≡ first_met s header_order
unfolding first_met holds
header-parts s = refl

module _ (s : LoopNest) where
  -- the limits of as many loops as the depth says
  limits_alone : first_met (nest_from (pos (depth_of s)) (pos 0) (pos 0) s.lower s.upper [] [] [] []) limit_order ≡ first_met s limit_order
  unfolding first_met holds limits_of to_ℕ
  limits_alone = refl

  pub limit-parts : (n : ℕ) → n ≡ depth_of s → first_met (nest_from (pos n) (pos 0) (pos 0) s.lower s.upper [] [] [] []) limit_order ≡ first_met s limit_order
  limit-parts n e = subst (λ n. first_met (nest_from (pos n) (pos 0) (pos 0) s.lower s.upper [] [] [] []) limit_order ≡ first_met s limit_order) (sym e) limits_alone

  -- the time vector and the dependences
  vectors_alone : first_met (nest_from (pos (depth_of s)) (pos (count_of s)) (pos 0) [] [] s.time s.dependences [] []) vector_order ≡ first_met s vector_order
  unfolding first_met holds time_of dependences_of to_ℕ
  vectors_alone = refl

  pub vector-parts : (n m : ℕ) → n ≡ depth_of s → m ≡ count_of s
      → first_met (nest_from (pos n) (pos m) (pos 0) [] [] s.time s.dependences [] []) vector_order ≡ first_met s vector_order
  vector-parts n m e g =
      subst (λ n. first_met (nest_from (pos n) (pos m) (pos 0) [] [] s.time s.dependences [] []) vector_order ≡ first_met s vector_order) (sym e)
      (subst (λ m. first_met (nest_from (pos (depth_of s)) (pos m) (pos 0) [] [] s.time s.dependences [] []) vector_order ≡ first_met s vector_order) (sym g) vectors_alone)

  -- the boundary values and the weights
  weights_alone : first_met (nest_from (pos 0) (pos (count_of s)) (pos 0) [] [] [] [] s.boundaries s.weights) weight_order ≡ first_met s weight_order
  unfolding first_met holds boundaries_of weights_of to_ℕ
  weights_alone = refl

  pub weight-parts : (m : ℕ) → m ≡ count_of s → first_met (nest_from (pos 0) (pos m) (pos 0) [] [] [] [] s.boundaries s.weights) weight_order ≡ first_met s weight_order
  weight-parts m e = subst (λ m. first_met (nest_from (pos 0) (pos m) (pos 0) [] [] [] [] s.boundaries s.weights) weight_order ≡ first_met s weight_order) (sym e) weights_alone
