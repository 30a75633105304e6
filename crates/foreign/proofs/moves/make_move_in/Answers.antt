-- `make_move_in` meets its contract where the nest is refused. Assumes nothing.
use Rattle.execution.specs.Entry.{move_of}
use Rattle.execution.proofs.EntryLaws.{bad_nest}
use Rattle.foreign.specs.Numbers.{nest_in}
use Rattle.foreign.proofs.moves.make_move_in.Goals as goal

pub returns-in_err-accepted : goal.returns-in_err-accepted
returns-in_err-accepted c =
    let a = c.args in
    bad_nest (nest_in a.numbers.now) a.steps.now a.processors.now a.values.now a.done.now a.delivered.now (move_of a.what) c.from_residual.result c.in_err-accepted.field-0.0 c.from_residual.ensures.1
    c.in_err-accepted.ensures.number
