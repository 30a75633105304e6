-- `fill_values` meets its contract: there are no more iterations than a table has room for. Assumes nothing.
use Rattle.std.proofs.Common.{arith}
use Rattle.nest.proofs.PointLaws.{few-points}
use Rattle.sequential.proofs.fill_values.Goals as goal

pub fill_sized-requires-else-s-le-FEW_ITERATIONS-clause-room : goal.fill_sized-requires-else-s-le-FEW_ITERATIONS-clause-room
fill_sized-requires-else-s-le-FEW_ITERATIONS-clause-room c = (omega (arith, c.args.s.now.counted, few-points c.args.s.now.nest c.args.s.now.accepted), omega arith)
