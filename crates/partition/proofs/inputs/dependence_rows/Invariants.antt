-- `dependence_rows` has a row for each dependence. The loop's invariant: the first i rows stand.
use Rattle.std.proofs.Common.{◌≡◌, ℕ}
use Rattle.integers.specs.Vector.{Vector}
use Rattle.nest.specs.Nest.{padded, dependence_at, depth_of}
use Rattle.numbering.proofs.Filled.{filled_to}
use Rattle.nest.specs.declared.LoopNest.{LoopNest}
use Rattle.partition.proofs.inputs.dependence_rows.Given as goal

-- dependence j, with zeros behind
abbrev pub row_at : LoopNest → ℕ → Vector
row_at s j = padded 4 (dependence_at s.dependences (depth_of s) j)

abbrev pub invariant-loop-i : goal.invariant-loop-i
invariant-loop-i l = l.row-items ≡ filled_to (row_at l.s.nest) l.initial.row-items l.i
