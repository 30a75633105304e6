-- `distance` meets its contract. Assumes nothing.
use mathlib.Core.Path.{◌∙◌, ap, ap₂}
use lib.IntN.{nat_abs, ◌-ℤ◌}
use mir.Facts.{to_z-of_z}
use Rattle.integers.proofs.Linear.{ints, dif}
use Rattle.nest.proofs.Counted.{size_is}
use Rattle.nest.proofs.points.distance.Goals as goal

pub returns : goal.returns
returns c =
    let order = c.requires in
    c.abs_diff.ensures ∙ ap nat_abs (ap₂ (λ x y. x -ℤ y) (to_z-of_z c.ranges.index) (to_z-of_z c.ranges.lower))
    ∙ size_is (c.args.index -ℤ c.args.lower) (omega (ints, dif c.args.index c.args.lower))
