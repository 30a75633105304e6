-- `fill_by_keys` meets its contract. The loop's invariant: the values of the first k iterations,
-- and what stood behind them; and the search is at iteration k.
-- Assumes nothing.
use Rattle.std.proofs.Common.{◌≡◌}
use Rattle.sequential.proofs.FillLaws.{filled_to}
use Rattle.sequential.proofs.fill_by_keys.Given as goal

abbrev pub invariant-loop-k : goal.invariant-loop-k
invariant-loop-k l = record {
  table : l.values ≡ filled_to l.fn.s.nest.now.nest l.initial.values l.k;
  same_keys : l.sources.keys.now ≡ l.initial.sources.keys.now;
  same_distances : l.sources.distances.now ≡ l.initial.sources.distances.now;
  at_k : l.sources.iteration ≡ l.k;
}
