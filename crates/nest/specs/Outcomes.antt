-- What a call answers, said as the documents say it: a number, which is 0 where the call is done
-- and that of its refusal where it is not, and beside it what is known, or zeros where refused.
-- Assumes nothing.
use Rattle.std.specs.Prelude.{ℕ, Ok, Err, Result}
use Rattle.nest.specs.declared.refusals.Refusal.{Refusal}
use Rattle.nest.specs.declared.refusals.Refusal.TheVariants.{MalformedText, BadDepth, BadCount, BadCube, BadLimits}
use Rattle.nest.specs.declared.refusals.Refusal.TheVariants.{TooManyPoints, BadTime, BadDependence, BackwardDependence}
use Rattle.nest.specs.declared.refusals.Refusal.TheVariants.{EqualDependences, AgainstTime, BadWeight, ShortBuffer}
use Rattle.nest.specs.declared.refusals.Refusal.TheVariants.{Waiting, OutOfTurn, IdleProcessor, NoSuchPlace, NoSuchRow}

-- the document's number of a refusal
abbrev pub code : Refusal → ℕ
code MalformedText = 1
code BadDepth = 2
code BadCount = 3
code BadCube = 4
code BadLimits = 5
code TooManyPoints = 6
code BadTime = 7
code BadDependence = 8
code BackwardDependence = 9
code EqualDependences = 10
code AgainstTime = 11
code BadWeight = 13
code ShortBuffer = 14
code Waiting = 15
code OutOfTurn = 16
code IdleProcessor = 17
code NoSuchPlace = 18
code NoSuchRow = 19

-- the number that an answer comes to: 0 where the call is done
abbrev pub number_in : {A : Type 0} → Result A Refusal → ℕ
number_in (Ok _) = 0
number_in (Err r) = code r

-- what an answer has beside its number: what is given here where the call is refused
abbrev pub value_in : {A : Type 0} → A → Result A Refusal → A
value_in refused (Ok x) = x
value_in refused (Err _) = refused
