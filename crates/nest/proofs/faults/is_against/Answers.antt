-- `is_against` meets its contract. Assumes nothing.
use mathlib.Core.Path.{sym}
use Prim.Native.Nat.{◌≤◌}
use lib.ListN.{length, take}
use Rattle.std.proofs.lemmas.List.{length-take-le}
use borrow.Author.Rules.{rules}
use Rattle.nest.specs.Refusals.{against}
use Rattle.nest.proofs.Vectors.{both_small}
use Rattle.nest.proofs.faults.is_against.Goals as goal

pub inner_product-requires-clause-by_index : goal.inner_product-requires-clause-by_index
inner_product-requires-clause-by_index c =
    let n = length c.args.time.now in
    let long : n ≤ length c.args.row.now = search rules in
    both_small c.args.time.now (take n c.args.row.now) c.requires.time_span c.requires.row_span (sym (length-take-le n c.args.row.now long))

pub returns : goal.returns
unfolding against
returns c = search rules
