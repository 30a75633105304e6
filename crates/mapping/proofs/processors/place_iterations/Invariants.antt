-- `place_iterations` meets its contract. The loop's invariant: the first k entries are those of the blocks, and the others are as they were. Assumes nothing.
use Rattle.std.proofs.Common.{◌≡◌, get_or}
use Rattle.numbering.proofs.Filled.{filled_to}
use Rattle.mapping.proofs.processors.place_iterations.Given as goal

abbrev pub invariant-loop-k : goal.invariant-loop-k
invariant-loop-k l = l.processors ≡ filled_to (λ k. get_or l.owners (get_or l.blocks k 0) 0) l.initial.processors l.k
