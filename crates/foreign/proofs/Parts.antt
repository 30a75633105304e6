-- The parts of a nest joined; nothing is lost between a nest and its numbers. Assumes nothing.
use mathlib.Core.Path.{◌≡◌, refl, ap}
use mathlib.Core.List.{List}
use Prim.Native.Nat.{ℕ, ◌+◌, ◌*◌}
use native.Mathlib.Omega.{arith}
use lib.IntN.{ℤ, pos}
use lib.ListN.{length, get_or}
use Rattle.integers.specs.Lists.{tab}
use Rattle.integers.proofs.Lists.{tab-list}
use Rattle.nest.specs.declared.LoopNest.{LoopNest}
use Rattle.nest.specs.Nest.{part, max_depth, max_dependences}
use Rattle.foreign.specs.Numbers.{upper_from, time_from, dependences_from, boundaries_from, weights_from, number_count, nest_in, numbers_of}

-- a nest made of the parts of numbers
pub joined-nest : (xs : List ℤ) (depth count cube : ℤ) (lower upper time dependences boundaries weights : List ℤ)
    → depth ≡ get_or xs 0 (pos 0) → count ≡ get_or xs 1 (pos 0) → cube ≡ get_or xs 2 (pos 0) → lower ≡ part xs 3 max_depth → upper ≡ part xs upper_from max_depth → time ≡ part xs time_from max_depth
    → dependences ≡ part xs dependences_from (max_depth * max_dependences) → boundaries ≡ part xs boundaries_from max_dependences → weights ≡ part xs weights_from max_dependences
    → ◌≡◌ {A = LoopNest} (record { depth = depth; count = count; cube = cube; lower = lower; upper = upper; time = time; dependences = dependences; boundaries = boundaries; weights = weights }) (nest_in xs)
unfolding nest_in
joined-nest xs depth count cube lower upper time dependences boundaries weights p q r s t u v w x =
    λ i. record { depth = p i; count = q i; cube = r i; lower = s i; upper = t i; time = u i; dependences = v i; boundaries = w i; weights = x i }

-- the numbers of the nest that so many numbers are, are these numbers
pub numbers-back : (xs : List ℤ) → length xs ≡ number_count → numbers_of (nest_in xs) ≡ xs
unfolding numbers_of nest_in part tab
numbers-back xs h = tab-list (λ i. get_or xs i (pos 0)) xs (pos 0) number_count h (λ i l. refl)

-- an array as a part of itself
pub whole : (xs : List ℤ) (n : ℕ) → length xs ≡ n → part xs 0 n ≡ xs
unfolding part
whole xs n h = tab-list (λ i. get_or xs (0 + i) (pos 0)) xs (pos 0) n h (λ i l. ap (λ k. get_or xs k (pos 0)) (omega arith))

-- the nest that the numbers of a nest are, is this nest
pub nest_back : (s : LoopNest) → length s.lower ≡ max_depth → length s.upper ≡ max_depth → length s.time ≡ max_depth → length s.dependences ≡ max_depth * max_dependences → length s.boundaries ≡ max_dependences → length s.weights ≡ max_dependences → nest_in (numbers_of s) ≡ s
unfolding numbers_of nest_in part tab
nest_back s a b c d e f =
    λ i. record { depth = s.depth; count = s.count; cube = s.cube; lower = whole s.lower max_depth a i; upper = whole s.upper max_depth b i; time = whole s.time max_depth c i; dependences = whole s.dependences (max_depth * max_dependences) d i; boundaries = whole s.boundaries max_dependences e i; weights = whole s.weights max_dependences f i }
