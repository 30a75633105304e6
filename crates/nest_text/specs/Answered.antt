-- What `read` and `write` answer, said as the definitions of a text say it: a number, and a nest or
-- a length beside it.
-- Assumes nothing.
use Rattle.std.specs.Prelude.{ℕ, Result}
use Rattle.nest.specs.declared.LoopNest.{LoopNest}
use Rattle.nest.specs.declared.refusals.Refusal.{Refusal}
use Rattle.nest.specs.Nest.{empty_nest}
use Rattle.nest.specs.Outcomes.{number_in, value_in}

-- what a text is read as: the number of the first refusal with a nest of zeros, or 0 with the nest
pub record Reading : Type 0 where
  pub refusal : ℕ
  pub nest : LoopNest

-- what a call that writes answers: the number of the first refusal, or 0 with the number of bytes
-- written
pub record Writing : Type 0 where
  pub refusal : ℕ
  pub length : ℕ

-- an answer of `read`, so said
abbrev pub reading_of : Result LoopNest Refusal → Reading
reading_of r = record { refusal = number_in r; nest = value_in empty_nest r }

-- an answer of a call that writes
abbrev pub writing_of : Result ℕ Refusal → Writing
writing_of r = record { refusal = number_in r; length = value_in 0 r }
