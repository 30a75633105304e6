-- Serves the proofs alone: what is read along the dependences, as two lists. Assumes nothing.
use Rattle.std.specs.Prelude.{List, map, ℕ}
use Rattle.sequential.specs.declared.Edge.{Edge}

-- the weights
abbrev pub weights_in : List Edge → List ℕ
weights_in edges = map (λ e. e.weight) edges

-- the boundary values
abbrev pub boundaries_in : List Edge → List ℕ
boundaries_in edges = map (λ e. e.boundary) edges
