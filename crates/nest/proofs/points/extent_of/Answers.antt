-- `extent_of` meets its contract. Assumes nothing.
use mathlib.Core.Path.{◌≡◌, sym, ◌∙◌, ap}
use Prim.Native.Nat.{◌+◌}
use native.Mathlib.Omega.{arith}
use lib.IntN.{◌-ℤ◌}
use mir.Facts.{to_z-of_z}
use Rattle.nest.specs.Nest.{to_ℕ}
use Rattle.nest.proofs.Conditions.{Uncrossed, uncrossed}
use Rattle.nest.proofs.Counted.{extent-distance, distance-within}
use Rattle.nest.proofs.points.extent_of.Goals as goal
use Rattle.nest.proofs.points.extent_of.Goals.{After-distance, Start}

-- what the limits have
limits : (c : Start) → Uncrossed c.args.lower c.args.upper
limits c = uncrossed c.args.lower c.args.upper c.requires

-- what the call gives
gives : (c : After-distance) → c.distance.result ≡ to_ℕ (c.args.upper -ℤ c.args.lower)
gives c = rw (to_z-of_z c.ranges.lower, to_z-of_z c.ranges.upper) at c.distance.ensures

pub distance-requires : goal.distance-requires
distance-requires c = rw (to_z-of_z c.ranges.lower, to_z-of_z c.ranges.upper) (limits c).order

pub overflow_add-result : goal.overflow_add-result
overflow_add-result c =
    let h = limits c.before in
    rw (gives c) (let k = distance-within c.args.lower c.args.upper h.lower_size h.upper_size h.order in omega arith)

pub returns : goal.returns
returns c = ap (λ m. m + 1) (gives c) ∙ sym (extent-distance c.args.lower c.args.upper (limits c.before).order)
