-- `code_of` meets its contract: the value is in the width, so its part is one that `gray_of` has a case for. Assumes nothing.
use Rattle.std.proofs.Common.{◌≡◌, arith}
use lib.Pow.{pow_mono}
use Rattle.nest.specs.Nest.{max_cube}
use Rattle.mapping.specs.Mapping.{part_of}
use Rattle.mapping.specs.Held.{direction_of}
use Rattle.mapping.proofs.Codes.{part-below}
use Rattle.mapping.proofs.Small.{small}
use Rattle.mapping.proofs.directions.Direction.code_of.Goals as goal
use Rattle.mapping.proofs.directions.Direction.code_of.Goals.{After-part_of}

-- what `part_of` answers is the value's part
part-is : (c : After-part_of) → c.part_of.result ≡ part_of (direction_of c.args.self) c.args.value
part-is c = rw (small c.args.value c.requires.value_small) at c.part_of.ensures

-- and a direction of at most 6 bits has no part from 64 up
pub gray_of-requires : goal.gray_of-requires
gray_of-requires c =
    let part = part-is (goal.at.gray_of-requires c).After-part_of in
    let below = part-below (direction_of c.args.self) c.args.value c.requires.in_width.1 in
    let few = pow_mono {i = c.args.self.bits} {j = max_cube} c.requires.few_bits in
    omega (arith, part, below, few)
