-- `lines_into` meets its contract. The loop's invariant: the tables hold the lines of the first k iterations, and the sources are those of iteration k.
-- Assumes nothing.
use Rattle.std.proofs.Common.{◌≡◌, ℕ, List, ℤ, pos, get_or}
use Rattle.sources.specs.Keys.{source_in}
use Rattle.partition.proofs.LineTables.{Lined}
use Rattle.partition.proofs.lines.lines_into.Given as goal

-- the iteration before one on its line
abbrev pub before : List ℤ → List ℤ → ℕ → ℕ
before keys distances k = source_in keys k (get_or distances 0 (pos 0))

abbrev pub invariant-loop-k : goal.invariant-loop-k
invariant-loop-k l = record {
  lines_so_far : Lined (before l.initial.sources.keys.now l.initial.sources.distances.now) l.initial.lines l.heads l.lines l.count l.k;
  same_keys : l.sources.keys.now ≡ l.initial.sources.keys.now;
  same_distances : l.sources.distances.now ≡ l.initial.sources.distances.now;
  at_k : l.sources.iteration ≡ l.k;
}
