-- The ways out of `plan`, and what holds of a call that was not refused. Assumes nothing.
use mathlib.Core.Path.{◌≡◌, refl, sym, ap, ◌∙◌}
use mathlib.Core.List.{List, ◌++◌}
use Prim.Native.Nat.{ℕ, zero, suc}
use native.Mathlib.Omega.{arith}
use borrow.Author.Tests.{ne_eqb}
use lib.ListN.{length, drop}
use Rattle.nest.specs.declared.LoopNest.{LoopNest}
use Rattle.nest.specs.Points.{points_of}
use Rattle.nest.specs.Refusals.{refusal, no_room}
use Rattle.nest.proofs.Entries.{or_else-first, or_else-second, or_else-zero, same-table, made_table}
use Rattle.partition.specs.Partition.{steps_of, blocks_of}
use Rattle.partition.proofs.Nests.{steps-length}
use Rattle.partition.proofs.Theorems.{blocks-length}
use Rattle.mapping.specs.Mapping.{processors_of}
use Rattle.mapping.proofs.Theorems.{processors-length}
use Rattle.sequential.specs.Sequential.{sequential, rule_of, values_of}
use Rattle.sequential.proofs.LoopLaws.{loop-length}
use Rattle.std.specs.Prelude.{Result}
use Rattle.std.specs.Result.{IsErrAnd}
use Rattle.std.proofs.lemmas.Result.{err_from_is_err_and}
use Rattle.nest.specs.declared.refusals.Refusal.{Refusal}
use Rattle.nest.specs.Outcomes.{code}
use Rattle.planner.specs.declared.Counts.{Counts}
use Rattle.planner.specs.Answered.{planning_of}
use Rattle.planner.specs.Plan.{Planning}
use Rattle.planner.specs.Plan.{plan_refusal, refused_with, plan_answer, Tables, tables_in, tables_refusal, Plans}

-- each iteration has a value
pub values_length : (s : LoopNest) → length (values_of s) ≡ length (points_of s)
unfolding values_of sequential
values_length s = loop-length (rule_of s) s (length (points_of s))

-- ---- the ways out
-- what a refused call answers
pub refused-answer : (s : LoopNest) (k : ℕ) → (k ≡ 0 → ⊥) → plan_answer s k ≡ refused_with k
unfolding plan_answer
refused-answer s k h = rw (plan_answer, ne_eqb k 0 h) refl

-- the number that an answer holds
pub plan-number : (s : LoopNest) (k : ℕ) → (plan_answer s k).refusal ≡ k
unfolding plan_answer
plan-number s zero = refl
plan-number s (suc k) = rw (plan_answer, ne_eqb (suc k) 0 (λ q. absurd (omega arith))) refl

-- the refusal that a `?` hands on
pub planning-out : (r : Result Counts Refusal) (e : Refusal) → IsErrAnd r (λ y. y ≡ e) → planning_of r ≡ refused_with (code e)
planning-out r e h = let p = err_from_is_err_and r h in rw (p.1, p.2) refl

module _ (s : LoopNest) (a b c d : List ℕ) where
  -- the tables that are lent
  abbrev pub old : Tables
  old = tables_in a b c d

  -- the number that the call answers
  abbrev pub number : ℕ
  number = tables_refusal s old

  -- refused with this number
  refused-call : (r : Planning) (k : ℕ) → r ≡ refused_with k → number ≡ k → (k ≡ 0 → ⊥) → Plans s old r old
  refused-call r k q e h = (
    q ∙ sym (refused-answer s k h) ∙ ap (plan_answer s) (sym e),
    (
      sym (same-table r.refusal (steps_of s) a g),
      (sym (same-table r.refusal (blocks_of s) b g), (sym (same-table r.refusal (processors_of s) c g), sym (same-table r.refusal (values_of s) d g))),
    ),
  )
    where
      g : r.refusal ≡ 0 → ⊥
      g z = h (sym (ap (λ (x : Planning). x.refusal) q) ∙ z)

  -- the nest is refused
  pub refused-nest : (r : Planning) (k : ℕ) → r ≡ refused_with k → k ≡ refusal s → (k ≡ 0 → ⊥) → Plans s old r old
  refused-nest r k q e h =
      refused-call r k q (unfold plan_refusal in or_else-first (refusal s) (no_room (length (points_of s)) (length a) (length b) (length c) (length d)) (λ z. h (e ∙ z)) ∙ sym e) h

  module _ (ok : refusal s ≡ 0) (n : ℕ) (count : n ≡ length (points_of s)) where
    -- it lies with the tables
    behind : number ≡ no_room n (length a) (length b) (length c) (length d)
    behind =
        unfold plan_refusal in
        or_else-second (refusal s) (no_room (length (points_of s)) (length a) (length b) (length c) (length d)) ok
        ∙ ap (λ m. no_room m (length a) (length b) (length c) (length d)) (sym count)

    -- a table is too short
    pub short_table : (r : Planning) (k : ℕ) → r ≡ refused_with k → k ≡ no_room n (length a) (length b) (length c) (length d) → (k ≡ 0 → ⊥) → Plans s old r old
    short_table r k q e h = refused-call r k q (behind ∙ sym e) h

    -- the plan is made
    pub made-plan : (r : Planning) (a' b' c' d' : List ℕ) → no_room n (length a) (length b) (length c) (length d) ≡ 0 → r ≡ plan_answer s 0 → a' ≡ steps_of s ++ drop n a
        → b' ≡ blocks_of s ++ drop n b → c' ≡ processors_of s ++ drop n c → d' ≡ values_of s ++ drop n d → Plans s old r (tables_in a' b' c' d')
    made-plan r a' b' c' d' e q ea eb ec ed = (
      q ∙ ap (plan_answer s) (sym (behind ∙ e)),
      (
        ea ∙ sym (made_table r.refusal n (steps_of s) a g (steps-length s ∙ sym count)),
        (
          eb ∙ sym (made_table r.refusal n (blocks_of s) b g (blocks-length s ok ∙ sym count)),
          (
            ec ∙ sym (made_table r.refusal n (processors_of s) c g (processors-length s ∙ sym count)),
            ed ∙ sym (made_table r.refusal n (values_of s) d g (values_length s ∙ sym count)),
          ),
        ),
      ),
    )
      where
        g : r.refusal ≡ 0
        g = ap (λ (x : Planning). x.refusal) q ∙ plan-number s 0

-- ---- a call that was not refused
module _ (s : LoopNest) (old : Tables) (r : Planning) (new : Tables) (P : Plans s old r new) (z : r.refusal ≡ 0) where
  -- no number was met
  none-met : tables_refusal s old ≡ 0
  none-met = sym (plan-number s (tables_refusal s old)) ∙ ap (λ (x : Planning). x.refusal) (sym P.0) ∙ z

  -- its answer has the counts
  pub plan-answer : r ≡ plan_answer s 0
  plan-answer = P.0 ∙ ap (plan_answer s) none-met

  -- its nest is accepted
  pub plan-accepted : refusal s ≡ 0
  unfolding plan_refusal
  plan-accepted = (or_else-zero (refusal s) (no_room (length (points_of s)) (length old.steps) (length old.blocks) (length old.processors) (length old.values)) none-met).0
