-- `points_into` meets its contract. The loop's invariant: the first l points stand in the table. Assumes nothing.
use Rattle.std.proofs.Common.{◌≡◌, ℕ, List, ℤ, pos, get_or}
use Rattle.integers.specs.Vector.{Vector}
use Rattle.nest.specs.Nest.{padded}
use Rattle.numbering.proofs.Filled.{filled_to}
use Rattle.sources.specs.Keys.{digits}
use Rattle.partition.proofs.lines.Lines.points_into.Given as goal

-- the point of line l
abbrev pub point_at : List ℤ → ℕ → List ℕ → ℕ → Vector
point_at keys n heads l = padded 4 (digits n (get_or keys (get_or heads l 0) (pos 0)))

abbrev pub invariant-loop-l : goal.invariant-loop-l
invariant-loop-l k = k.points ≡ filled_to (point_at k.self.keys.now k.self.depth k.self.heads.now) k.initial.points k.l
