-- The loop of `extended`: the vector that is tried has no coordinate along those that were passed. Assumes nothing.
use mathlib.Core.Path.{◌≡◌}
use Prim.Native.Nat.{ℕ, ◌≤◌, ◌<◌}
use lib.IntN.{pos}
use Rattle.integers.specs.Vector.{dots}
use Rattle.grouping.specs.Basis.{dual_of}
use Rattle.grouping.proofs.lattice.extended.Given as goal

abbrev pub invariant-loop-place : goal.invariant-loop-place
invariant-loop-place l = (k : ℕ) → k < l.place → l.fn.f.count ≤ k → dots (dual_of l.fn.f k) l.fn.w ≡ pos 0
