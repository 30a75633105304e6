-- The lengths of the lists that a nest has: of its limits, its time vector, its dependences, its boundary values and its weights. Assumes nothing.
use mathlib.Core.Path.{◌≡◌, ap, ◌∙◌}
use Prim.Native.Nat.{ℕ, ◌*◌, ◌<◌}
use lib.ListN.{length}
use Rattle.integers.proofs.Lists.{length-tab}
use Rattle.nest.specs.declared.LoopNest.{LoopNest}
use Rattle.nest.specs.Nest.{depth_of, count_of, limit_at, limits_of, time_of, dependence_at, dependences_of, boundaries_of, weights_of, max_depth}
use Rattle.nest.specs.Refusals.{dependence}
use Rattle.nest.proofs.Words.{part_length, dependence-at}

-- there are limits for each loop
pub limits-length : (s : LoopNest) → length (limits_of s) ≡ depth_of s
unfolding limits_of
limits-length s = length-tab (limit_at s.lower s.upper) (depth_of s)

-- the time vector has a component for each loop
pub time_length : (s : LoopNest) → length (time_of s) ≡ depth_of s
unfolding time_of
time_length s = part_length s.time 0 (depth_of s)

-- there are as many dependences as the nest says
pub dependences_count : (s : LoopNest) → length (dependences_of s) ≡ count_of s
unfolding dependences_of
dependences_count s = length-tab (dependence_at s.dependences (depth_of s)) (count_of s)

-- each has a component for each loop
pub dependence-length : (s : LoopNest) (i : ℕ) → i < count_of s → length (dependence s i) ≡ depth_of s
dependence-length s i h = ap length (dependence-at s i h) ∙ part_length s.dependences (i * max_depth) (depth_of s)

-- there is a boundary value for each dependence
pub boundaries-length : (s : LoopNest) → length (boundaries_of s) ≡ count_of s
unfolding boundaries_of
boundaries-length s = part_length s.boundaries 0 (count_of s)

-- and a weight
pub weights-length : (s : LoopNest) → length (weights_of s) ≡ count_of s
unfolding weights_of
weights-length s = part_length s.weights 0 (count_of s)
