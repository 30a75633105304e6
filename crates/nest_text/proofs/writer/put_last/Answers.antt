-- `put_last` stores the last line: the boundary values' fields, and the weights behind them.
use native.Mathlib.Omega.{arith}
use Rattle.nest_text.proofs.WriteLaws.{stored_more, stored_as, stored-length, line-append, listed_length}
use Rattle.nest_text.proofs.writer.put_last.Goals as goal

pub put_line-requires : goal.put_line-requires
put_line-requires c =
    (omega (arith, listed_length c.args.boundaries.now c.requires.1, stored-length c.put_fields-weights_at.ensures), c.requires.2)

pub returns : goal.returns
returns c = stored_as (line-append c.args.boundaries.now c.args.weights.now) (stored_more c.put_fields-weights_at.ensures c.put_line.ensures)
