-- `residues_of` answers the residues of a point. The loop's invariant: the products that were passed are divided, and the others are as they were.
use mathlib.Core.Path.{◌≡◌}
use mathlib.Core.Bool.{true}
use mathlib.Core.List.{◌++◌, map}
use lib.ListN.{take, drop}
use Rattle.grouping.specs.Basis.{residue_of}
use Rattle.classes.proofs.groups.residues_of.Given as goal

abbrev pub invariant-loop-t : goal.invariant-loop-t
invariant-loop-t l = l.t-items ≡ map (λ t. residue_of true t l.f.d) (take l.t-index l.initial.t-items) ++ drop l.t-index l.initial.t-items
