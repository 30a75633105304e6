-- `seek` meets its contract. Assumes nothing.
use Prim.Native.Nat.{◌<◌, ◌≤◌}
use native.Mathlib.Omega.{arith}
use lib.ListN.{length}
use mir.Facts.{to_z-of_z}
use Rattle.integers.proofs.Tests.{<-taken, <-left}
use Rattle.sources.specs.Keys.{not_below}
use Rattle.sources.proofs.Places.{search_more, search_end}
use Rattle.sources.proofs.seeking.seek.Goals as goal
use Rattle.sources.proofs.seeking.seek.Goals.{After-t7-1, At-loop-place}

-- c is a place of the table
inside : (d : At-loop-place) → (d.loop-place.place ≤ not_below d.args.target d.args.keys.now) × (d.loop-place.place < length d.args.keys.now)
inside d =
    let h : d.loop-place.place ≤ not_below d.args.target d.args.keys.now = rw (to_z-of_z d.ranges.target) at d.loop-place.invariant in
    (h, omega (arith, d.requires.1))

pub loop-place-preserved : goal.loop-place-preserved
loop-place-preserved c =
    let a = c.args in
    rw (to_z-of_z c.ranges.target)
    (search_more a.target a.keys.now c.loop-place.place c.requires.1 (inside (goal.at.loop-place-preserved c).At-loop-place).0 (<-taken (record { sfits = c.t7-1.given }) c.ranges.target c.loop-place-test.true))

pub returns : goal.returns
returns c = search_end c.args.target c.args.keys.now c.loop-place.place (inside (goal.at.returns c).At-loop-place).0 (<-left (record { sfits = c.t7-1.given }) c.ranges.target c.loop-place-test.false)
