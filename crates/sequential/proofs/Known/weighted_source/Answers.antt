-- `weighted_source` meets its contract. Assumes nothing.
use Rattle.std.proofs.Common.{arith, get_or, pos}
use Rattle.nest.specs.Nest.{to_ℕ, part, depth_of}
use Rattle.nest.specs.Points.{points_of, rank, source}
use Rattle.nest.specs.Refusals.{dependence}
use Rattle.sequential.proofs.SourceLaws.{placed-source, placed-below}
use Rattle.sequential.proofs.EdgeLaws.{read-term}
use Rattle.sequential.proofs.Known.weighted_source.Goals as goal

pub read-requires : goal.read-requires
read-requires c =
    let s = c.args.self.now.nest.now in
    placed-below s.nest (source (part c.args.point 0 (depth_of s.nest)) (dependence s.nest c.args.i)) c.source_at-source.result _ c.source_at-source.ensures (omega (arith, s.counted, c.args.self.now.room))

pub returns-clause-value : goal.returns-clause-value
returns-clause-value c =
    let s = c.args.self.now.nest.now in
    let v = source (part c.args.point 0 (depth_of s.nest)) (dependence s.nest c.args.i) in
    let x = rw (c.edge_at.ensures.weight, c.edge_at.ensures.boundary) at c.read.ensures.value in
    read-term c.source_at-source.result s.iterations (rank (points_of s.nest) v) c.args.self.now.values.now (to_ℕ (get_or s.nest.weights c.args.i (pos 0))) (to_ℕ (get_or s.nest.boundaries c.args.i (pos 0))) c.read.result c.args.self.now.room
    (placed-source s.nest v c.source_at-source.result s.iterations c.source_at-source.ensures s.counted) x
