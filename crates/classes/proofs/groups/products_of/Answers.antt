-- `products_of` answers the products of a point. Assumes nothing.
use lib.Dec.{lit≤}
use Rattle.integers.specs.Vector.{AllWithin}
use Rattle.integers.proofs.Vector.{all_wider}
use Rattle.grouping.proofs.Located.{within_1, within_2, within_3}
use Rattle.classes.proofs.groups.products_of.Goals as goal
use Rattle.classes.proofs.groups.products_of.Goals.{Start}

-- the point
wide : (d : Start) → AllWithin 30000 d.args.j
wide d = all_wider 1000 30000 d.args.j (lit≤ tt) d.requires

pub inner-a-requires : goal.inner-a-requires
inner-a-requires c = (within_1 c.args.f.framed, wide (goal.at.inner-a-requires c).Start)

pub inner-b-requires : goal.inner-b-requires
inner-b-requires c = (within_2 c.args.f.framed, wide (goal.at.inner-b-requires c).Start)

pub inner-c-requires : goal.inner-c-requires
inner-c-requires c = (within_3 c.args.f.framed, wide (goal.at.inner-c-requires c).Start)
