-- `number_table` numbers the rows by first equal row. The loop's invariant: the numbers of the first i rows stand, the heads are the first rows of their
-- kind, and their numbers are in chains by hash.
use mathlib.Core.Path.{◌≡◌}
use lib.ListN.{length}
use Rattle.integers.specs.Vector.{eq_v}
use Rattle.numbering.specs.Chains.{head_hash, Chained}
use Rattle.numbering.proofs.Table.{Numbered}
use Rattle.numbering.proofs.numbers.number_table.Given as goal

abbrev pub invariant-loop-i : goal.invariant-loop-i
invariant-loop-i l =
    record {
      wide : length l.chains.heads ≡ 4096;
      numbered : Numbered eq_v l.table l.initial.out l.out l.chains.heads l.chains.count l.i;
      chained : Chained (head_hash l.table l.chains.heads) l.chains.first l.chains.next l.chains.count;
    }
