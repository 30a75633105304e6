-- `all_there` meets its contract. The loop's invariant: the first i sources are there. Assumes nothing.
use mathlib.Core.Path.{◌≡◌}
use mathlib.Core.Bool.{true}
use mathlib.Core.List.{[]}
use Rattle.nest.specs.Sources.{source_rank}
use Rattle.execution.specs.Rules.{every, there}
use Rattle.execution.specs.Inner.{view_in}
use Rattle.execution.proofs.finding.Seen.all_there.Given as goal

abbrev pub invariant-loop-i : goal.invariant-loop-i
invariant-loop-i l =
    let v = view_in [] l.self.processors.now l.self.done.now l.self.delivered.now in
    every (λ i. there v l.p l.k i (source_rank l.s.nest l.k i)) l.i ≡ true
