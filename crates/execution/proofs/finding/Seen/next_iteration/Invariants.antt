-- `next_iteration` meets its contract. The loop's invariant: the best of the first k iterations. Assumes nothing.
use mathlib.Core.Path.{◌≡◌}
use Rattle.execution.specs.Inner.{option_in}
use Rattle.execution.proofs.FindingLaws.{taken_of}
use Rattle.execution.proofs.finding.Seen.next_iteration.Given as goal

abbrev pub invariant-loop-k : goal.invariant-loop-k
invariant-loop-k l = option_in l.best ≡ taken_of l.steps l.self.processors.now l.self.done.now l.p l.k
