-- `source_at` meets its contract. Assumes nothing.
use mathlib.Core.Path.{ap, ◌∙◌}
use mathlib.Core.List.{List}
use lib.IntN.{ℤ}
use Rattle.nest.specs.Nest.{part, depth_of}
use Rattle.nest.specs.Points.{points_of, place_of}
use Rattle.nest.proofs.PointLaws.{source_in_array}
use Rattle.nest.proofs.accepted_nest.AcceptedNest.source_at.Goals as goal

pub returns : goal.returns
returns c =
    let a = c.args in
    c.rank_of.ensures
    ∙ ap (place_of (points_of a.self.now.nest)) (ap (λ (v : List ℤ). part v 0 (depth_of a.self.now.nest)) c.source_of-source.ensures ∙ source_in_array a.self.now.nest a.point a.i c.requires.1)
