-- The loop of `choose`: what is chosen of the vectors that were passed. Assumes nothing.
use mathlib.Core.Path.{◌≡◌}
use lib.ListN.{take}
use Rattle.grouping.specs.Basis.{chosen_in}
use Rattle.grouping.specs.Grouping.{extend}
use Rattle.grouping.proofs.choice.Candidates.choose.Given as goal

abbrev pub invariant-loop-d : goal.invariant-loop-d
invariant-loop-d l = record {
  time : l.f.p ≡ l.initial.f.p;
  chosen : chosen_in l.f ≡ extend l.initial.f.p (chosen_in l.initial.f) (take l.d-index l.self.ds.now);
}
