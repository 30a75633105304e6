-- `source` meets its contract. Assumes nothing.
use Rattle.nest.proofs.PointLaws.{array_point}
use Rattle.execution.proofs.SourceLaws.{source-is}
use Rattle.execution.proofs.run_nest.AcceptedNestRunNest.source.Goals as goal

pub source_at-requires : goal.source_at-requires
source_at-requires c = (array_point c.args.self.now.nest c.args.k c.point_of.result c.requires.0 c.point_of.ensures, c.requires.1)

pub returns : goal.returns
returns c = source-is c.args.self.now.nest c.args.k c.args.i c.point_of.result c.requires.0 c.point_of.ensures c.source_at.result c.source_at.ensures
