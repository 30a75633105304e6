-- `grouping_index` meets its contract. Assumes nothing.
use mathlib.Core.Path.{◌≡◌, sym, ◌∙◌, ap}
use mathlib.Core.Bool.{not, ◌&&◌}
use lib.Dec.{eqb}
use lib.ListN.{length}
use lib.IntN.{ℤ, nat_abs}
use mir.Facts.{to_z-of_z}
use Rattle.std.proofs.Common.{rules}
use Rattle.std.proofs.lemmas.Iterator.{YieldsList-from_slice}
use Rattle.std.proofs.lemmas.Iterator.Search.{position_from_yields_List}
use Rattle.std.specs.Prelude.{unwrap_or}
use Rattle.integers.proofs.Machine.{reads}
use Rattle.integers.specs.Vector.{Vector, is_zero_v}
use Rattle.grouping.specs.Projection.{projection, multiplier}
use Rattle.grouping.specs.Grouping.{may_group}
use Rattle.grouping.proofs.Listed.{may-group-is, place_found}
use Rattle.grouping.proofs.choice.Candidates.grouping_index.Goals as goal
use Rattle.grouping.proofs.choice.Candidates.grouping_index.Goals.{Start}

-- the test that the closure makes
tested : (d : Start) (v : Vector) → eqb (multiplier d.args.self.now.time.p v) (nat_abs (reads d.args.r)) && not (is_zero_v (projection d.args.self.now.time.p v)) ≡ may_group d.args.self.now.time.p d.args.self.now.ds.now v
tested d v =
    ap (λ (r : ℤ). eqb (multiplier d.args.self.now.time.p v) (nat_abs r) && not (is_zero_v (projection d.args.self.now.time.p v))) (to_z-of_z d.ranges.r ∙ d.requires)
    ∙ sym (may-group-is d.args.self.now.time.p d.args.self.now.ds.now v)

pub returns-clause-index : goal.returns-clause-index
returns-clause-index c =
    let t = tested (goal.at.returns-clause-index c).Start in
    position_from_yields_List (may_group c.args.self.now.time.p c.args.self.now.ds.now) _ _ _ c.position.ensures.ran (YieldsList-from_slice c.args.self.now.ds.now cc) (λ x b q k. let h = k.met.0 in search (rules, h, t))

pub returns-clause-place : goal.returns-clause-place
returns-clause-place c =
    ap (λ g. unwrap_or g (length c.args.self.now.ds.now)) (returns-clause-index c) ∙ place_found (may_group c.args.self.now.time.p c.args.self.now.ds.now) c.args.self.now.ds.now
