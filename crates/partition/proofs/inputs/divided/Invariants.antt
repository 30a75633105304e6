-- `divided` meets its contract. The loop's invariant: the components that were passed are divided, the others are as they were. Assumes nothing.
use Rattle.std.proofs.Common.{◌≡◌, ◌++◌, map, take, drop}
use Rattle.std.specs.Int.Signed.{quot_z}
use Rattle.partition.proofs.inputs.divided.Given as goal

abbrev pub invariant-loop-part : goal.invariant-loop-part
invariant-loop-part l = l.part-items ≡ map (λ x. quot_z x l.g) (take l.part-index l.initial.part-items) ++ drop l.part-index l.initial.part-items
