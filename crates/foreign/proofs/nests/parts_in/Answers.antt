-- `parts_in` lends the parts of the nest that numbers are. Assumes nothing.
use mathlib.Core.Path.{◌≡◌}
use lib.IntN.{pos}
use lib.ListN.{length, get_or}
use Rattle.std.proofs.Common.{rules}
use Rattle.integers.proofs.Machine.{reads}
use Rattle.foreign.specs.Numbers.{number_count}
use Rattle.foreign.proofs.Lent.{lent-nest}
use Rattle.foreign.proofs.nests.parts_in.Goals as goal

pub returns : goal.returns
returns c =
    let xs = c.args.numbers.now in
    let l : length xs ≡ number_count = search rules in
    let x : reads (get_or xs 0 (pos 0)) ≡ get_or xs 0 (pos 0) = search rules in
    let y : reads (get_or xs 1 (pos 0)) ≡ get_or xs 1 (pos 0) = search rules in
    let z : reads (get_or xs 2 (pos 0)) ≡ get_or xs 2 (pos 0) = search rules in
    rw (x, y, z) (lent-nest xs l)
