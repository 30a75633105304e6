-- `row_of` meets its contract. Assumes nothing.
use Rattle.std.proofs.Common.{◌++◌, ℤ, List, pos, length, ap₂}
use Rattle.std.proofs.lemmas.List.{drop-replicate}
use Rattle.nest.specs.Nest.{padded}
use Rattle.partition.proofs.inputs.row_of.Goals as goal

pub returns : goal.returns
unfolding padded
returns c = ap₂ (λ (u v : List ℤ). u ++ v) c.copy_from_slice.ensures.after (drop-replicate (length c.args.xs.now) 4 (pos 0))
