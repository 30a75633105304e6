-- `make_move` meets its contract where the nest is refused. Assumes nothing.
use Rattle.execution.specs.Entry.{move_of}
use Rattle.execution.proofs.EntryLaws.{bad_nest}
use Rattle.execution.proofs.make_move.Goals as goal

pub returns-in_err-accepted : goal.returns-in_err-accepted
returns-in_err-accepted c =
    let a = c.args in
    bad_nest a.s a.steps.now a.processors.now a.values.now a.done.now a.delivered.now (move_of a.request.what) c.from_residual.result c.in_err-accepted.field-0.0 c.from_residual.ensures.1
    c.in_err-accepted.ensures.number
