-- `fill` meets its contract: one law of `FillLaws` for each way out. Assumes nothing.
use Rattle.std.proofs.Common.{◌≡◌, sym, ap, subst, ◌∙◌, arith, length}
use Rattle.nest.specs.Points.{points_of}
use Rattle.nest.specs.Outcomes.{code, number_in}
use Rattle.nest.specs.Refusals.{refusal}
use Rattle.nest.proofs.Entries.{one-room, short_number, enough}
use Rattle.nest.proofs.Outcomes.{code-above, number_out}
use Rattle.sequential.specs.Sequential.{Fills}
use Rattle.sequential.proofs.FillLaws.{refused-nest, short_table, filled-table}
use Rattle.sequential.proofs.fill.Goals as goal
use Rattle.sequential.proofs.fill.Goals.{After-branch-check_room}

-- the nest is accepted, and how many iterations it has
accepted : (c : After-branch-check_room) → refusal c.args.s ≡ 0
accepted c = sym c.in_ok-accepted.ensures.number

count : (c : After-branch-check_room) → c.in_ok-accepted.accepted.iterations ≡ length (points_of c.args.s)
count c = c.in_ok-accepted.accepted.counted ∙ ap (λ s. length (points_of s)) c.in_ok-accepted.ensures.same_nest

pub returns-in_err-accepted : goal.returns-in_err-accepted
returns-in_err-accepted c =
    let e = c.in_err-accepted.field-0.0 in
    let n = number_out c.from_residual.result e c.from_residual.ensures.1 in
    refused-nest c.args.s c.args.values.now (number_in c.from_residual.result) (n ∙ c.in_err-accepted.ensures.number) (λ z. omega (arith, n, z, code-above e))

pub returns-in_err-check_room : goal.returns-in_err-check_room
returns-in_err-check_room c =
    let a = c.args in
    let p = (goal.at.returns-in_err-check_room c).After-branch-check_room in
    let e = c.in_err-check_room.field-0.0 in
    let n = c.in_ok-accepted.accepted.iterations in
    let q = short_number n (length a.values.now) (code e) (code-above e) (c.in_err-check_room.ensures ∙ one-room n (length a.values.now)) in
    let t = short_table a.s a.values.now (accepted p) (omega (arith, q.0, count p)) in
    (number_out c.from_residual-in_err-check_room.result e c.from_residual-in_err-check_room.ensures.1 ∙ q.1 ∙ t.0, t.1)

-- the table is long enough
pub fill_values-requires : goal.fill_values-requires
fill_values-requires c =
    let n = c.in_ok-accepted.accepted.iterations in
    enough n (length c.args.values.now) (sym (c.in_ok-check_room.ensures ∙ one-room n (length c.args.values.now)))

pub returns : goal.returns
returns c =
    let a = c.in_ok-accepted.accepted in
    let old = c.args.values.now in
    let room = enough a.iterations (length old) (sym (c.in_ok-check_room.ensures ∙ one-room a.iterations (length old))) in
    subst (λ s. Fills s old 0 c.fill_values.new.values) c.in_ok-accepted.ensures.same_nest
    (filled-table a.nest old c.fill_values.new.values a.iterations a.accepted a.counted room c.fill_values.ensures)
