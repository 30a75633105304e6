-- `plan` meets its contract: one law of `PlanLaws` for each way out. Assumes nothing.
use mathlib.Core.Path.{◌≡◌, sym, ap, ◌∙◌}
use mathlib.Core.List.{◌++◌}
use lib.ListN.{length, drop}
use Rattle.partition.specs.Partition.{steps_of, blocks_of}
use Rattle.mapping.specs.Mapping.{processors_of}
use Rattle.sequential.specs.Sequential.{values_of}
use Rattle.nest.specs.Points.{points_of}
use Rattle.nest.specs.Outcomes.{code, number_in}
use Rattle.nest.specs.Refusals.{refusal, no_room}
use Rattle.nest.proofs.Entries.{all_enough, four-rooms}
use Rattle.nest.proofs.Outcomes.{refused-above}
use Rattle.planner.specs.Plan.{plan_answer}
use Rattle.planner.specs.Answered.{made_of, planning_of}
use Rattle.planner.proofs.PlanLaws.{refused-nest, short_table, made-plan, planning-out}
use Rattle.planner.proofs.plan.Goals as goal
use Rattle.planner.proofs.plan.Goals.{After-branch-check_room, After-check_room}

-- the nest is accepted, and so many iterations it has
accepted : (c : After-branch-check_room) → refusal c.args.s ≡ 0
accepted c = sym c.in_ok-accepted.ensures.number

count : (c : After-branch-check_room) → c.in_ok-accepted.accepted.iterations ≡ length (points_of c.args.s)
count c = c.in_ok-accepted.accepted.counted ∙ ap (λ s. length (points_of s)) c.in_ok-accepted.ensures.same_nest

-- the room of the tables
room : (c : After-check_room)
    → number_in c.check_room.result ≡ (let a = c.args in no_room c.in_ok-accepted.accepted.iterations (length a.steps.now) (length a.blocks.now) (length a.processors.now) (length a.values.now))
room c = let a = c.args in c.check_room.ensures ∙ four-rooms c.in_ok-accepted.accepted.iterations (length a.steps.now) (length a.blocks.now) (length a.processors.now) (length a.values.now)

pub returns-in_err-accepted : goal.returns-in_err-accepted
returns-in_err-accepted c =
    let a = c.args in
    let e = c.in_err-accepted.field-0.0 in
    let w = c.in_err-accepted.was in
    refused-nest a.s a.steps.now a.blocks.now a.processors.now a.values.now (planning_of c.from_residual.result) (code e)
    (planning-out c.from_residual.result e c.from_residual.ensures.1) c.in_err-accepted.ensures.number (λ z. refused-above c.accept.result e w (ap number_in w ∙ z))

pub returns-in_err-check_room : goal.returns-in_err-check_room
returns-in_err-check_room c =
    let a = c.args in
    let p = (goal.at.returns-in_err-check_room c).After-branch-check_room in
    let q = (goal.at.returns-in_err-check_room c).After-check_room in
    let e = c.in_err-check_room.field-0.0 in
    let w = c.in_err-check_room.was in
    short_table a.s a.steps.now a.blocks.now a.processors.now a.values.now (accepted p) c.in_ok-accepted.accepted.iterations (count p) (planning_of c.from_residual-in_err-check_room.result) (code e)
    (planning-out c.from_residual-in_err-check_room.result e c.from_residual-in_err-check_room.ensures.1) (sym (ap number_in w) ∙ room q) (λ z. refused-above c.check_room.result e w (ap number_in w ∙ z))

pub returns : goal.returns
returns c =
    let a = c.args in
    let t = c.in_ok-accepted.accepted in
    let e = c.in_ok-accepted.ensures.same_nest in
    let p = (goal.at.returns c).After-branch-check_room in
    let f = c.make in
    made-plan a.s a.steps.now a.blocks.now a.processors.now a.values.now (accepted p) t.iterations (count p) (made_of f.result)
    f.new.steps f.new.blocks f.new.processors f.new.values
    (sym (room (goal.at.returns c).After-check_room) ∙ ap number_in c.in_ok-check_room.was)
    (f.ensures.value ∙ ap (λ s. plan_answer s 0) e)
    (f.ensures.steps_after ∙ ap (λ s. steps_of s ++ drop t.iterations a.steps.now) e) (f.ensures.blocks_after ∙ ap (λ s. blocks_of s ++ drop t.iterations a.blocks.now) e)
    (f.ensures.processors_after ∙ ap (λ s. processors_of s ++ drop t.iterations a.processors.now) e) (f.ensures.values_after ∙ ap (λ s. values_of s ++ drop t.iterations a.values.now) e)

pub make-requires : goal.make-requires
make-requires c =
    let a = c.args in
    let r = room (goal.at.make-requires c).After-check_room in
    all_enough c.in_ok-accepted.accepted.iterations (length a.steps.now) (length a.blocks.now) (length a.processors.now) (length a.values.now) (sym r ∙ ap number_in c.in_ok-check_room.was)
