-- `value_count` answers 1 where each boundary value is the first.
use Rattle.std.proofs.Common.{rules, ◌≡◌, sym, List, ◌∷◌, ℕ, ◌<◌, ℤ, Bool, length}
use Rattle.std.specs.Bool.{MatchBool}
use Rattle.std.specs.List.{AllWithin, HoldsAt}
use Rattle.std.proofs.lemmas.Iterator.{YieldsList-from_slice, cases_from_any}
use borrow.Author.Tests.{tests}
use Rattle.nest_text.proofs.EqualValues.{count-one, count-all, count_none}
use Rattle.nest_text.proofs.lengths.value_count.Goals as goal
use Rattle.nest_text.proofs.lengths.value_count.Goals.{After-any}

-- the first and the others, and what the test of the others answers
record Tested (bs : List ℤ) (a : ℤ) (zs : List ℤ) (differs : Bool) : Type 0 where
  parts : bs ≡ a ∷ zs
  answer : MatchBool differs ((k : ℕ) × (k < length zs) × HoldsAt (λ z. z ≡ a → ⊥) zs k) (AllWithin (λ z. z ≡ a) zs 0 (length zs))

tested : (c : After-any) → Tested c.args.boundaries.now c.in-Some.first.now c.in-Some.others.now c.any.result
tested c =
    let a = c.in-Some.first.now in
    let zs = c.in-Some.others.now in
    record {
      parts = search rules;
      answer = cases_from_any _ _ c.any.result (λ z. z ≡ a → ⊥) (λ z. z ≡ a) c.any.ensures.ran (YieldsList-from_slice zs (cc))
          (λ x q k. search (rules, tests)) (λ x q k. search (rules, tests));
    }

pub returns-in-Some : goal.returns-in-Some
returns-in-Some c =
    let t = tested (goal.at.returns-in-Some c).After-any in
    let d = rw c.if-any.true at t.answer in
    rw t.parts (sym (count-all c.in-Some.first.now c.in-Some.others.now d.0 d.1 d.2))

pub returns-in_default : goal.returns-in_default
returns-in_default c =
    let t = tested (goal.at.returns-in_default c).After-any in
    rw t.parts (sym (count-one c.in-Some.first.now c.in-Some.others.now (rw c.if-any.false at t.answer)))

pub returns-in_default-2 : goal.returns-in_default-2
returns-in_default-2 c = sym (count_none c.args.boundaries.now (search rules))
