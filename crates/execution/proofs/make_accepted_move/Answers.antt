-- `make_accepted_move` meets its contract: a law of `EntryLaws` for each way out. Assumes nothing.
use mathlib.Core.Path.{refl, sym, ap, ◌∙◌}
use native.Mathlib.Omega.{arith}
use lib.ListN.{length}
use Rattle.nest.specs.Points.{points_of}
use Rattle.execution.specs.Rules.{compute, deliver}
use Rattle.execution.specs.Entry.{layout_in, state_in, move_of}
use Rattle.execution.specs.Inner.{Room}
use Rattle.execution.specs.Answer.{answer_in}
use Rattle.execution.proofs.EntryLaws.{short_room, enough_room, made_move}
use Rattle.execution.proofs.make_accepted_move.Goals as goal
use Rattle.execution.proofs.make_accepted_move.Goals.{In_ok-check_room}

pub returns-in_err-check_room : goal.returns-in_err-check_room
returns-in_err-check_room g c =
    let a = c.args in
    let s = g.N.RunNest.nest_of a.s.now in
    short_room s a.steps.now a.processors.now a.values.now a.done.now a.delivered.now (move_of a.what) (g.met.N.RunNest.accepted a.s.now) c.iterations.result c.iterations.ensures c.from_residual.result c.in_err-check_room.field-0.0
    c.from_residual.ensures.1 c.in_err-check_room.ensures

-- the buffers have room
room : (g : _) (c : In_ok-check_room g) → (let a = c.args in Room c.iterations.result (layout_in a.steps.now a.processors.now) (state_in a.values.now a.done.now a.delivered.now))
room g c =
    let a = c.args in
    enough_room (g.N.RunNest.nest_of a.s.now) a.steps.now a.processors.now a.values.now a.done.now a.delivered.now (move_of a.what) (g.met.N.RunNest.accepted a.s.now) c.iterations.result c.iterations.ensures c.in_ok-check_room.ensures

pub compute-requires : goal.compute-requires
compute-requires g c =
    let h = room g (goal.at.compute-requires g c).In_ok-check_room in
    let n = c.copied.result.counted ∙ ap (λ s. length (points_of s)) c.copied.ensures ∙ sym c.iterations.ensures in
    record { room = (omega (arith, h.0), omega (arith, h.1), omega (arith, h.2), omega (arith, h.3), omega (arith, h.4)) }

pub deliver-requires : goal.deliver-requires
deliver-requires g c =
    let h = room g (goal.at.deliver-requires g c).In_ok-check_room in
    (omega (arith, h.1, c.iterations.ensures), omega (arith, h.3, c.iterations.ensures), omega (arith, h.4, c.iterations.ensures))

pub returns-in-Compute : goal.returns-in-Compute
returns-in-Compute g c =
    let a = c.args in
    let s = a.s.now in
    let f = c.compute in
    made_move (g.N.RunNest.nest_of s) a.steps.now a.processors.now a.values.now a.done.now a.delivered.now (move_of a.what) (g.met.N.RunNest.accepted s) c.iterations.result c.iterations.ensures c.in_ok-check_room.ensures
    c.copied.result.nest c.copied.ensures (compute c.in-Compute.p) (ap move_of c.in-Compute.is) (answer_in f.result) (state_in f.new.state.0 f.new.state.1.0 a.delivered.now)
    (f.ensures.answers, f.ensures.leaves)

pub returns-in-Deliver : goal.returns-in-Deliver
returns-in-Deliver g c =
    let a = c.args in
    let s = a.s.now in
    let f = c.deliver in
    let d = c.in-Deliver.message in
    made_move (g.N.RunNest.nest_of s) a.steps.now a.processors.now a.values.now a.done.now a.delivered.now (move_of a.what) (g.met.N.RunNest.accepted s) c.iterations.result c.iterations.ensures c.in_ok-check_room.ensures
    (g.N.RunNest.nest_of s) refl (deliver d.rank d.dependence) (ap move_of c.in-Deliver.is) (answer_in f.result) (state_in a.values.now a.done.now f.new.delivered)
    (f.ensures.0 a.steps.now a.values.now, f.ensures.1 a.steps.now a.values.now)
