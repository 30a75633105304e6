-- Sources as they are found: the rank of one that is an iteration, none for any other. Assumes nothing.
use mathlib.Core.Path.{◌≡◌, refl, sym, ap, subst, ◌∙◌}
use mathlib.Core.Option.{none, some}
use mathlib.Core.List.{List}
use Prim.Native.Nat.{ℕ, ◌<◌}
use lib.IntN.{ℤ}
use lib.ListN.{length}
use Rattle.std.specs.Prelude.{Option as Found, IfSome}
use Rattle.integers.specs.Vector.{Vector}
use Rattle.integers.proofs.Lists.{split}
use Rattle.nest.specs.declared.LoopNest.{LoopNest}
use Rattle.nest.specs.Nest.{part, padded, depth_of, max_depth}
use Rattle.nest.specs.Points.{points_of, point, is_point, place_of, rank, source}
use Rattle.nest.specs.Refusals.{dependence}
use Rattle.nest.specs.Sources.{source_rank}
use Rattle.nest.proofs.PointLaws.{rank-there, place-there, place-missing, point_in_array}
use Rattle.execution.specs.Inner.{option_in}

-- the place of an iteration's source
pub place-is : (s : LoopNest) (k i : ℕ) → option_in (place_of (points_of s) (source (point s k) (dependence s i))) ≡ source_rank s k i
unfolding source_rank
place-is s k i =
    let v = source (point s k) (dependence s i) in
    split (is_point (points_of s) v)
    (λ t. ap option_in (place-there s v t) ∙ sym (let e : source_rank s k i ≡ some (rank (points_of s) v) = rw (source_rank, t) refl in e))
    (λ f. ap option_in (place-missing s v f) ∙ sym (let e : source_rank s k i ≡ none = rw (source_rank, f) refl in e))

-- a place is that of an iteration
pub place_below : (s : LoopNest) (v : Vector) → IfSome (place_of (points_of s) v) (λ j. j < length (points_of s))
place_below s v =
    let P : Found ℕ → Type 0 = λ o. IfSome o (λ j. j < length (points_of s)) in
    split (is_point (points_of s) v) (λ t. subst P (sym (place-there s v t)) (rank-there s v t).0) (λ f. subst P (sym (place-missing s v f)) tt)

-- where the iteration's point is in an array, the source is answered so
module _ (s : LoopNest) (k i : ℕ) (array : List ℤ) (h : k < length (points_of s)) (at : array ≡ padded max_depth (point s k)) (r : Found ℕ)
    (e : r ≡ place_of (points_of s) (source (part array 0 (depth_of s)) (dependence s i))) where
  answered : r ≡ place_of (points_of s) (source (point s k) (dependence s i))
  answered = e ∙ ap (λ (v : Vector). place_of (points_of s) (source v (dependence s i))) (ap (λ (v : List ℤ). part v 0 (depth_of s)) at ∙ point_in_array s k h)

  pub source-is : option_in r ≡ source_rank s k i
  source-is = ap option_in answered ∙ place-is s k i

  pub source_below : IfSome r (λ j. j < length (points_of s))
  source_below = subst (λ (o : Found ℕ). IfSome o (λ j. j < length (points_of s))) (sym answered) (place_below s (source (point s k) (dependence s i)))
