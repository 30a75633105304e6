-- `better_of` meets its contract: a law for each way out. Assumes nothing.
use borrow.Author.Tests.{lt-ltb, le-ltb}
use mathlib.Core.Path.{refl, sym, ap, ◌∙◌}
use mathlib.Core.Bool.{true}
use Prim.Native.Nat.{ℕ}
use lib.ListN.{get_or}
use Rattle.execution.specs.Rules.{better}
use Rattle.execution.specs.Inner.{option_in}
use Rattle.execution.proofs.Base.{better-less, better_not}
use Rattle.execution.proofs.finding.better_of.Goals as goal

pub returns-in-None : goal.returns-in-None
unfolding better
returns-in-None c = rw c.in-None.is refl

pub returns-then-steps-k : goal.returns-then-steps-k
returns-then-steps-k c =
    let a = c.args in
    let key : ℕ → ℕ = λ i. get_or a.steps.now i 0 in
    sym (ap (λ o. better key a.k true (option_in o)) c.in-Some.is ∙ better-less key a.k c.in-Some.j (lt-ltb (key a.k) (key c.in-Some.j) c.if-steps-k.true))

pub returns-else-steps-k : goal.returns-else-steps-k
returns-else-steps-k c =
    let a = c.args in
    let key : ℕ → ℕ = λ i. get_or a.steps.now i 0 in
    sym (ap (λ o. better key a.k true (option_in o)) c.in-Some.is ∙ better_not key a.k c.in-Some.j (le-ltb (key a.k) (key c.in-Some.j) c.if-steps-k.false))
