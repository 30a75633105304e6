-- `nest_in` answers the nest that numbers are. Assumes nothing.
use mathlib.Core.Path.{◌≡◌}
use lib.IntN.{pos}
use lib.ListN.{get_or}
use Rattle.std.proofs.Common.{rules}
use Rattle.integers.proofs.Machine.{reads}
use Rattle.foreign.proofs.Parts.{joined-nest}
use Rattle.foreign.proofs.nests.nest_in.Goals as goal

pub returns : goal.returns
returns c =
    let xs = c.args.numbers.now in
    let x : reads (get_or xs 0 (pos 0)) ≡ get_or xs 0 (pos 0) = search rules in
    let y : reads (get_or xs 1 (pos 0)) ≡ get_or xs 1 (pos 0) = search rules in
    let z : reads (get_or xs 2 (pos 0)) ≡ get_or xs 2 (pos 0) = search rules in
    joined-nest xs _ _ _ _ _ _ _ _ _ x y z c.part_at.ensures c.part_at-2.ensures c.part_at-3.ensures c.part_at-4.ensures c.part_at-5.ensures c.part_at-6.ensures
