-- `source_rank` meets its contract. The loop's invariant: what is left of the iteration's rank is that of its first k indices, and the source's indices from loop k on
-- are those of a point of these loops, of the rank so far. Assumes nothing.
use mathlib.Core.List.{List, []}
use Prim.Native.Nat.{ℕ, ◌≤◌}
use lib.IntN.{ℤ, pos, ◌-ℤ◌}
use lib.ListN.{length, get_or}
use Rattle.integers.specs.Vector.{Vector}
use Rattle.nest.specs.Nest.{limit_at, limits_in}
use Rattle.nest.specs.Points.{points}
use Rattle.nest.proofs.SourceRanks.{Led, Behind}
use Rattle.nest.proofs.loops.Loops.source_rank.Given as goal

-- the index point of an iteration, and the indices of its source
abbrev pub point_at : List ℤ → List ℤ → ℕ → Vector
point_at lower upper iteration = get_or (points (limits_in lower upper)) iteration []

abbrev pub less_at : Vector → Vector → ℕ → ℤ
less_at J d i = get_or J i (pos 0) -ℤ get_or d i (pos 0)

abbrev pub invariant-loop-k : goal.invariant-loop-k
invariant-loop-k l =
    (l.k ≤ length l.self.lower.now) × Led (limit_at l.self.lower.now l.self.upper.now) (point_at l.self.lower.now l.self.upper.now l.iteration) l.k l.rest
    × Behind (limit_at l.self.lower.now l.self.upper.now) (less_at (point_at l.self.lower.now l.self.upper.now l.iteration) l.dependence) (length l.self.lower.now) l.k l.stride l.at
