-- `next_iteration` meets its contract. Assumes nothing.
use mathlib.Core.Path.{ap, ◌∙◌}
use mathlib.Core.Bool.{true}
use Prim.Native.Nat.{ℕ}
use native.Mathlib.Omega.{arith}
use lib.ListN.{length, get_or}
use Rattle.execution.specs.Inner.{option_in}
use Rattle.execution.specs.Rules.{better}
use Rattle.execution.proofs.FindingLaws.{taken-none, taken_within, taken-elsewhere, taken-done, taken-waiting}
use Rattle.execution.proofs.finding.Seen.next_iteration.Goals as goal
use Rattle.execution.proofs.finding.Seen.next_iteration.Goals.{then-processor-p+then-self-k-eq0, else-processor-p, else-processor-p-via-then-processor-p+else-self-k-eq0, else-processor-p-via-else-processor-p}

pub loop-k-init : goal.loop-k-init
loop-k-init c = let a = c.args in taken-none a.steps.now a.self.now.processors.now a.self.now.done.now a.p

pub better_of-best-requires-clause-best_in_bounds : goal.better_of-best-requires-clause-best_in_bounds
better_of-best-requires-clause-best_in_bounds c =
    let a = c.args in
    let s = a.self.now in
    let k = c.loop-k.k in
    taken_within a.steps.now s.processors.now s.done.now a.p k (length a.steps.now) c.loop-k.best c.loop-k.invariant (omega arith)

pub loop-k-preserved : goal.loop-k-preserved
loop-k-preserved c =
    let a = c.args in
    let s = a.self.now in
    let ps = s.processors.now in
    let k = c.loop-k.k in
    let key : ℕ → ℕ = λ i. get_or a.steps.now i 0 in
    elim c.if-processor-p.branch [
      | then-processor-p+then-self-k-eq0 w ↦
          ap option_in w.best-is ∙ w.better_of-best.ensures ∙ ap (better key k true) c.loop-k.invariant
          ∙ taken-waiting a.steps.now ps s.done.now a.p k w.if-processor-p.true w.if-self-k-eq0.true
      | else-processor-p w ↦ elim w.else-processor-p.branch [
        | else-processor-p-via-then-processor-p+else-self-k-eq0 w' ↦
            ap option_in w.best-is ∙ c.loop-k.invariant ∙ taken-done a.steps.now ps s.done.now a.p k w'.if-self-k-eq0.false
        | else-processor-p-via-else-processor-p w' ↦
            ap option_in w.best-is ∙ c.loop-k.invariant ∙ taken-elsewhere a.steps.now ps s.done.now a.p k w'.if-processor-p.false
      ]
    ]

pub returns-clause-below : goal.returns-clause-below
returns-clause-below c = let s = c.args.self.now in taken_within c.args.steps.now s.processors.now s.done.now c.args.p c.loop-k.k (length s.processors.now) c.loop-k.best c.loop-k.invariant c.loop-k.auto.k-end
