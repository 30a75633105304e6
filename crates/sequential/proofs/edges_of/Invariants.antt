-- `edges_of` meets its contract. The loop's invariant: what is read along the first i dependences. Assumes nothing.
use Rattle.std.proofs.Common.{◌≡◌, ℕ, ◌<◌, get_or, pos, length}
use Rattle.nest.specs.Nest.{to_ℕ}
use Rattle.sequential.specs.Edges.{weights_in, boundaries_in}
use Rattle.sequential.proofs.edges_of.Given as goal

abbrev pub invariant-loop-i : goal.invariant-loop-i
invariant-loop-i l = record {
  places : length l.edge-items ≡ length l.initial.edge-items;
  weights : (j : ℕ) → j < l.i → get_or (weights_in l.edge-items) j 0 ≡ to_ℕ (get_or l.s.nest.weights j (pos 0));
  boundaries : (j : ℕ) → j < l.i → get_or (boundaries_in l.edge-items) j 0 ≡ to_ℕ (get_or l.s.nest.boundaries j (pos 0));
}
