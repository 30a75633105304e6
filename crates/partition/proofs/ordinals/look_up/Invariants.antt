-- `look_up` meets its contract. The loop's invariant: the numbers that were passed are the entries at their places, the others are as they were. Assumes nothing.
use Rattle.std.proofs.Common.{◌≡◌, ◌++◌, map, get_or, take, drop}
use Rattle.partition.proofs.ordinals.look_up.Given as goal

abbrev pub invariant-loop-number : goal.invariant-loop-number
invariant-loop-number l = l.numbers ≡ map (λ x. get_or l.table x 0) (take l.number-index l.initial.numbers) ++ drop l.number-index l.initial.numbers
