-- `difference` meets its contract. The loop's invariant: the array has the source of the components passed. Assumes nothing.
use mathlib.Core.Path.{◌≡◌}
use Prim.Native.Nat.{◌≤◌}
use lib.ListN.{length, drop}
use Rattle.nest.proofs.Sources.{source_to}
use Rattle.nest.proofs.source.difference.Given as goal

abbrev pub invariant-loop-k : goal.invariant-loop-k
invariant-loop-k l = record {
  passed : l.k-iterator.count ≤ length l.point;
  point : l.k-iterator.iter.a.rest.now ≡ drop l.k-iterator.count l.point;
  dependence : l.k-iterator.iter.b.rest.now ≡ drop l.k-iterator.count l.dependence;
  source : l.source ≡ source_to l.point l.dependence 0 l.k-iterator.count;
}
