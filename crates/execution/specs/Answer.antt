-- What a move is answered, as the document has it: what it did, or the number of its refusal, 2 to
-- 18. Assumes nothing.
use Rattle.std.specs.Prelude.{ℕ, Result, Ok, Err}
use Rattle.nest.specs.declared.refusals.Refusal.{Refusal}
use Rattle.nest.specs.Outcomes.{code}
use Rattle.execution.specs.declared.Computation.{Computation}
use Rattle.execution.specs.declared.Delivery.{Delivery}
use Rattle.execution.specs.declared.Done.{Done}
use Rattle.execution.specs.declared.Done.TheVariants.{Computed as DidCompute, Delivered as DidDeliver}

pub data Answer : Type 0 where
  Computed : Computation → Answer
  Delivered : Delivery → Answer
  Refused : ℕ → Answer

-- what `make_move` answers, so said
abbrev pub answer_in : Result Done Refusal → Answer
answer_in (Ok (DidCompute c)) = Computed c
answer_in (Ok (DidDeliver d)) = Delivered d
answer_in (Err e) = Refused (code e)
