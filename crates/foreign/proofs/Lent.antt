-- The parts of a nest where they stand in numbers, and what the calls on them ask and answer. Assumes nothing.
use mathlib.Core.Path.{◌≡◌, refl, sym, ap, ap₂, subst, ◌∙◌}
use mathlib.Core.List.{List, []}
use Prim.Native.Nat.{ℕ, ◌*◌, ◌<◌, ◌≤◌}
use native.Mathlib.Omega.{arith}
use lib.IntN.{ℤ, pos, nat_abs}
use lib.ListN.{length, get_or, take, drop}
use Rattle.std.specs.Prelude.{Option as Found}
use Rattle.integers.specs.Vector.{Vector}
use Rattle.nest.specs.declared.LoopNest.{LoopNest}
use Rattle.nest.specs.Nest.{Limit, nest_from, depth_of, count_of, limits_in, limits_of, dependence_at, max_depth, max_dependences, max_iterations, max_component}
use Rattle.nest.specs.Points.{points, points_of, point_count, place_of, source}
use Rattle.nest.specs.Refusals.{refusal}
use Rattle.nest.specs.Sources.{source_rank}
use Rattle.nest.proofs.Accepted.{component-size}
use Rattle.nest.proofs.Order.{point-count}
use Rattle.nest.proofs.PointLaws.{few-points}
use Rattle.nest.proofs.Slices.{part-slice}
use Rattle.nest.proofs.Words.{dependence-at, part_length, part_at}
use Rattle.execution.specs.Inner.{option_in}
use Rattle.execution.proofs.SourceLaws.{place-is}
use Rattle.foreign.specs.Numbers.{upper_from, time_from, dependences_from, boundaries_from, weights_from, number_count, nest_in}
use Rattle.foreign.proofs.Parts.{joined-nest}

-- the nest that has the lent parts is the one that the numbers are
pub lent-nest : (xs : List ℤ) → length xs ≡ number_count
    → nest_from (get_or xs 0 (pos 0)) (get_or xs 1 (pos 0)) (get_or xs 2 (pos 0)) (take max_depth (drop 3 xs)) (take max_depth (drop upper_from xs)) (take max_depth (drop time_from xs)) (take (max_depth * max_dependences) (drop dependences_from xs)) (take max_dependences (drop boundaries_from xs)) (take max_dependences (drop weights_from xs))
    ≡ nest_in xs
lent-nest xs h =
    joined-nest xs (get_or xs 0 (pos 0)) (get_or xs 1 (pos 0)) (get_or xs 2 (pos 0)) (take max_depth (drop 3 xs)) (take max_depth (drop upper_from xs)) (take max_depth (drop time_from xs)) (take (max_depth * max_dependences) (drop dependences_from xs)) (take max_dependences (drop boundaries_from xs)) (take max_dependences (drop weights_from xs)) refl refl refl
    (part-slice xs 3 max_depth (omega arith)) (part-slice xs upper_from max_depth (omega arith)) (part-slice xs time_from max_depth (omega arith)) (part-slice xs dependences_from (max_depth * max_dependences) (omega arith)) (part-slice xs boundaries_from max_dependences (omega arith)) (part-slice xs weights_from max_dependences (omega arith))

-- what `source_rank` is asked of the loops of an accepted nest, and what it answers
module _ (s : LoopNest) (ok : refusal s ≡ 0) (lower upper : List ℤ) (depth : length lower ≡ depth_of s) (limits : limits_in lower upper ≡ limits_of s) (k i : ℕ) (d : Vector)
    (q : d ≡ dependence_at s.dependences (length lower) i) (h : i < count_of s) where
  pub dependence-whole : length d ≡ length lower
  dependence-whole = ap length q ∙ part_length s.dependences (i * max_depth) (length lower)

  pub asked_limits : k < length (points_of s) → (point_count (limits_in lower upper) ≤ max_iterations) × (k < point_count (limits_in lower upper))
  unfolding points_of
  asked_limits l =
      let c = point-count (limits_of s) in
      let m = few-points s ok in
      rw limits (subst (λ x. x ≤ max_iterations) c m, subst (λ x. k < x) c l)

  pub asked_sizes : (j : ℕ) → j < length d → nat_abs (get_or d j (pos 0)) ≤ max_component
  asked_sizes j l =
      let b : j < length lower = omega (arith, dependence-whole) in
      rw (q, part_at s.dependences (i * max_depth) (length lower) j b) (component-size s ok i j h (omega (arith, depth)))

  pub answered : (r : Found ℕ) → r ≡ place_of (points (limits_in lower upper)) (source (get_or (points (limits_in lower upper)) k []) d) → option_in r ≡ source_rank s k i
  unfolding points_of
  answered r a =
      let f = q ∙ ap (λ m. dependence_at s.dependences m i) depth ∙ sym (dependence-at s i h) in
      ap option_in (a ∙ ap₂ (λ (ls : List Limit) (v : Vector). place_of (points ls) (source (get_or (points ls) k []) v)) limits f) ∙ place-is s k i

-- the number of dependences
pub count-lent : (xs : List ℤ) → (nest_in xs).count ≡ get_or xs 1 (pos 0)
unfolding nest_in
count-lent xs = refl
