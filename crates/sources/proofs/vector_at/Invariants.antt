-- `vector_at` meets its contract. The loop's invariant: the digits from place k on are in the array, and `rest` is the key of those before it. Assumes nothing.
use Rattle.std.proofs.Common.{◌≡◌, ◌++◌, ◌≤◌, length, drop, nat_abs}
use Rattle.nest.specs.Nest.{padded, max_depth}
use Rattle.sources.specs.Keys.{max_key, digits}
use Rattle.sources.proofs.vector_at.Given as goal

abbrev pub invariant-loop-k : goal.invariant-loop-k
invariant-loop-k l = record {
  within : l.k ≤ l.n;
  places : length l.v ≡ max_depth;
  small : nat_abs l.rest ≤ max_key;
  digits_behind : digits l.k l.rest ++ drop l.k l.v ≡ padded max_depth (digits l.n l.key);
}
