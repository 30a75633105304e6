-- The number that an answer comes to, where it is the refusal that a `?` hands on. Assumes nothing.
use native.Mathlib.Omega.{arith}
use Rattle.std.specs.Prelude.{◌≡◌, ◌≤◌, refl, Result, Err}
use Rattle.std.specs.Result.{IsErrAnd}
use Rattle.std.proofs.lemmas.Result.{err_from_is_err_and}
use Rattle.nest.specs.declared.refusals.Refusal.{Refusal}
use Rattle.nest.specs.declared.refusals.Refusal.TheVariants.{MalformedText, BadDepth, BadCount, BadCube, BadLimits}
use Rattle.nest.specs.declared.refusals.Refusal.TheVariants.{TooManyPoints, BadTime, BadDependence, BackwardDependence}
use Rattle.nest.specs.declared.refusals.Refusal.TheVariants.{EqualDependences, AgainstTime, BadWeight, ShortBuffer}
use Rattle.nest.specs.declared.refusals.Refusal.TheVariants.{Waiting, OutOfTurn, IdleProcessor, NoSuchPlace, NoSuchRow}
use Rattle.nest.specs.Outcomes.{code, number_in, value_in}

-- no refusal has the number 0
pub code-above : (e : Refusal) → 1 ≤ code e
code-above MalformedText = omega arith
code-above BadDepth = omega arith
code-above BadCount = omega arith
code-above BadCube = omega arith
code-above BadLimits = omega arith
code-above TooManyPoints = omega arith
code-above BadTime = omega arith
code-above BadDependence = omega arith
code-above BackwardDependence = omega arith
code-above EqualDependences = omega arith
code-above AgainstTime = omega arith
code-above BadWeight = omega arith
code-above ShortBuffer = omega arith
code-above Waiting = omega arith
code-above OutOfTurn = omega arith
code-above IdleProcessor = omega arith
code-above NoSuchPlace = omega arith
code-above NoSuchRow = omega arith

pub refused-above : {A : Type 0} (r : Result A Refusal) (e : Refusal) → r ≡ Err e → number_in r ≡ 0 → ⊥
refused-above r e h z = omega (arith, code-above e, (rw (h) at z))

module _ {A : Type 0} (r : Result A Refusal) (e : Refusal) (h : IsErrAnd r (λ y. y ≡ e)) where
  pub number_out : number_in r ≡ code e
  number_out = let p = err_from_is_err_and r h in rw (p.1, p.2) refl

  pub value_out : (x : A) → value_in x r ≡ x
  value_out x = let p = err_from_is_err_and r h in rw (p.1) refl
