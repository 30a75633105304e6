-- `put_line` stores a line: the fields of its numbers, and byte 10 behind them.
use native.Mathlib.Omega.{arith}
use Rattle.nest_text.proofs.WriteLaws.{listed_length, line-ends}
use Rattle.nest_text.proofs.writer.put_line.Goals as goal

pub bounds-out-end : goal.bounds-out-end
bounds-out-end c = omega (arith, listed_length c.args.numbers.now c.requires.1)

pub overflow_add-result : goal.overflow_add-result
overflow_add-result c = omega (arith, listed_length c.args.numbers.now c.requires.1)

pub returns : goal.returns
returns c = line-ends c.args.numbers.now c.put_fields-end.ensures
