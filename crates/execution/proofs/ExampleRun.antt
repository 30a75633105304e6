-- The claim at document 01's listing (P2): its hypotheses can be met, and what it says there is what the definitions compute.
-- Assumes nothing.
use mathlib.Core.Path.{◌≡◌, refl, sym, ap}
use mathlib.Core.Bool.{true}
use mathlib.Core.List.{List, [], ◌∷◌, ◌++◌, flat_map}
use Prim.Native.Nat.{ℕ, ◌<◌}
use native.Mathlib.Omega.{arith}
use borrow.Author.Tests.{eqb-true}
use lib.Dec.{eqb}
use lib.ListN.{length, get_or}
use Rattle.integers.specs.Lists.{any, tab, repeats}
use Rattle.integers.specs.Vector.{dots, eq_z, eq_v}
use Rattle.nest.specs.Nest.{to_ℕ, part, limits_of, time_of, dependences_of, boundaries_of, weights_of, padded, nest_of}
use Rattle.nest.specs.Points.{extent, indices, points, points_of, point_count}
use Rattle.nest.specs.Refusals.{number, outside, crossed, out_of_span, backward, against, holds, first_met, refusal}
use Rattle.sequential.specs.Sequential.{Rule}
use Rattle.partition.specs.Examples.{vector}
use Rattle.planner.specs.Examples.{listed_with, listed}
use Rattle.execution.specs.Rules.{every, Move}
use Rattle.execution.specs.Machine.{layout_of}
use Rattle.execution.specs.Claim.{Planned, Fresh, Outcome}
use Rattle.execution.specs.Example.{example_layout, example_state, example_steps, example_processors}
use Rattle.execution.proofs.Base.{every_true}
use Rattle.execution.proofs.Demand.{run-outcome}

-- the nest is accepted
example_accepted : refusal listed ≡ 0
unfolding any tab repeats dots eq_z eq_v to_ℕ part limits_of time_of dependences_of boundaries_of weights_of padded nest_of extent indices points points_of point_count number outside crossed out_of_span backward against holds first_met refusal vector listed_with listed flat_map
example_accepted = refl

-- it has six iterations
example_count : length (points_of listed) ≡ 6
unfolding tab to_ℕ limits_of padded nest_of extent indices points points_of vector listed_with listed flat_map
example_count = refl

-- the tables are the planner's
example_planned : Planned (layout_of listed) example_layout
example_planned = record {
  behind_steps = 8 ∷ [];
  behind_processors = 200 ∷ [];
  steps = ap (λ xs. xs ++ (8 ∷ [])) (sym example_steps);
  processors = ap (λ xs. xs ++ (200 ∷ [])) (sym example_processors);
}

-- an entry of 0, for each number below n, by a test
zeros_by_test : (xs : List ℕ) (n : ℕ) → every (λ k. eqb (get_or xs k 0) 0) n ≡ true → (k : ℕ) → k < n → get_or xs k 0 ≡ 0
zeros_by_test xs n e k l = eqb-true (get_or xs k 0) 0 (every_true (λ c. eqb (get_or xs c 0) 0) n e k l)

-- the state is fresh
example_fresh : Fresh listed example_state
unfolding every
example_fresh = record {
  values_room = omega (arith, example_count);
  done_room = omega (arith, example_count);
  delivered_room = omega (arith, example_count);
  none_done = λ k l. zeros_by_test example_state.done 6 refl k (omega (arith, example_count));
  none_delivered = λ k l. zeros_by_test example_state.delivered 6 refl k (omega (arith, example_count));
}

-- so every list of moves comes to what the claim says
pub example_outcome : (R : Rule ℕ) (ms : List Move) → Outcome R listed (layout_of listed) example_layout example_state ms
example_outcome R ms = run-outcome R listed example_layout example_state example_accepted example_planned example_fresh ms
