-- `next_value` meets its contract. The loop's invariant: the sum is the rank and the weighted sum
-- of the first i sources, and the search is at the same iteration.
-- Assumes nothing.
use Rattle.std.proofs.Common.{◌≡◌, ◌+◌, ◌*◌, ◌≤◌}
use Rattle.nest.specs.Nest.{max_boundary, max_weight}
use Rattle.sequential.specs.Edges.{weights_in, boundaries_in}
use Rattle.sequential.proofs.KeyLaws.{terms_to}
use Rattle.sequential.proofs.next_value.Given as goal

abbrev pub invariant-loop-i : goal.invariant-loop-i
invariant-loop-i l = record {
  sum : l.total ≡ l.initial.total + terms_to l.initial.sources.keys.now l.initial.sources.distances.now (weights_in l.edges) (boundaries_in l.edges) l.values l.initial.total l.i;
  small : l.total ≤ l.initial.total + l.i * (max_weight * max_boundary);
  same_keys : l.sources.keys.now ≡ l.initial.sources.keys.now;
  same_distances : l.sources.distances.now ≡ l.initial.sources.distances.now;
  same_iteration : l.sources.iteration ≡ l.initial.sources.iteration;
}
