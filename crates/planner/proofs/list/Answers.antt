-- `list` answers as the definitions say, and leaves the plan's text, or a refused call's buffer as it was. Assumes nothing.
use mathlib.Core.Path.{◌≡◌, sym, ap, ap₂, subst, ◌∙◌}
use Prim.Native.Nat.{ℕ, ◌+◌, ◌*◌, ◌≤◌}
use native.Mathlib.Omega.{arith}
use lib.ListN.{length}
use lib.Seq.{sets}
use Rattle.nest.specs.declared.LoopNest.{LoopNest}
use Rattle.nest.specs.Refusals.{refusal}
use Rattle.nest.specs.Nest.{empty_nest}
use Rattle.nest.specs.Outcomes.{code, number_in, value_in}
use Rattle.nest.proofs.PointLaws.{few-points}
use Rattle.nest.proofs.Entries.{one-room, short_number, enough}
use Rattle.nest.proofs.Outcomes.{code-above, number_out, value_out}
use Rattle.nest_text.specs.Answered.{Reading, Writing, writing_of}
use Rattle.nest_text.specs.Text.{read_refusal, read_nest, Puts}
use Rattle.nest_text.proofs.RoundTrip.{written_read}
use Rattle.nest_text.proofs.WriteAnswers.{refused_short, refused_out, bytes-written}
use Rattle.planner.specs.Listing.{plan_text}
use Rattle.planner.proofs.Sizes.{plan-length}
use Rattle.planner.proofs.list.Goals as goal
use Rattle.planner.proofs.list.Goals.{After-accept, After-branch-check_room, After-read, In_ok-accepted}

-- what `read` answers
number : (c : After-read) → number_in c.read.result ≡ read_refusal c.args.text.now
number c = ap (λ (r : Reading). r.refusal) c.read.ensures

pub returns-in_err-s : goal.returns-in_err-s
returns-in_err-s c =
    let text = c.args.text.now in
    refused_out (read_refusal text) (plan_text (read_nest text)) c.args.out.now c.from_residual.result c.in_err-s.field-0.0 c.from_residual.ensures.1
    (sym (ap number_in c.in_err-s.was) ∙ number (goal.at.returns-in_err-s c).After-read)

-- behind the test the text is accepted, and so is its nest
taken : (c : After-accept) → read_refusal c.args.text.now ≡ 0
taken c = sym (number (goal.at.After-accept c).After-read) ∙ ap number_in c.in_ok-s.was

nest-is : (c : After-accept) → c.in_ok-s.s ≡ read_nest c.args.text.now
nest-is c = sym (ap (value_in empty_nest) c.in_ok-s.was) ∙ ap (λ (r : Reading). r.nest) c.read.ensures

accepted : (c : After-accept) → refusal c.in_ok-s.s ≡ 0
accepted c = subst (λ (s : LoopNest). refusal s ≡ 0) (sym (nest-is c)) (written_read c.args.text.now (taken c)).accepted

pub returns-in_err-accepted : goal.returns-in_err-accepted
returns-in_err-accepted c =
    absurd (omega (arith, code-above c.in_err-accepted.field-0.0, c.in_err-accepted.ensures.number, accepted (goal.at.returns-in_err-accepted c).After-accept))

-- there are few iterations
few : (c : In_ok-accepted) → c.in_ok-accepted.accepted.iterations ≤ 4096
few c = let t = c.in_ok-accepted.accepted in omega (arith, t.counted, few-points t.nest t.accepted)

-- and so long is the plan's text
long : (c : In_ok-accepted) → 31 * (c.in_ok-accepted.accepted.iterations + 1) ≡ length (plan_text (read_nest c.args.text.now))
long c =
    let t = c.in_ok-accepted.accepted in
    let e = c.in_ok-accepted.ensures.same_nest ∙ nest-is (goal.at.In_ok-accepted c).After-accept in
    ap (λ n. 31 * (n + 1)) t.counted ∙ sym (plan-length t.nest t.accepted) ∙ ap (λ (z : LoopNest). length (plan_text z)) e

pub overflow_add-length : goal.overflow_add-length
overflow_add-length c = omega (arith, few c)

pub overflow_mul-length : goal.overflow_mul-length
overflow_mul-length c = omega (arith, few (goal.at.overflow_mul-length c).In_ok-accepted)

pub returns-in_err-check_room : goal.returns-in_err-check_room
returns-in_err-check_room c =
    let text = c.args.text.now in
    let p = (goal.at.returns-in_err-check_room c).In_ok-accepted in
    let n = 31 * (c.in_ok-accepted.accepted.iterations + 1) in
    let e = c.in_err-check_room.field-0.0 in
    let r = c.from_residual-in_err-check_room.result in
    let h = c.from_residual-in_err-check_room.ensures.1 in
    let q = short_number n (length c.args.out.now) (code e) (code-above e) (c.in_err-check_room.ensures ∙ one-room n (length c.args.out.now)) in
    let w : writing_of r ≡ record { refusal = 14; length = 0 } = ap₂ (λ (a b : ℕ). let x : Writing = record { refusal = a; length = b } in x) (number_out r e h ∙ q.1) (value_out r e h 0) in
    subst (λ (x : Writing). Puts (read_refusal text) (plan_text (read_nest text)) c.args.out.now x c.args.out.now) (sym w)
    (refused_short (read_refusal text) (plan_text (read_nest text)) c.args.out.now (taken (goal.at.returns-in_err-check_room c).After-accept) (omega (arith, q.0, long p)))

-- the buffer has room
room : (c : After-branch-check_room) → number_in c.check_room.result ≡ 0 → 31 * (c.in_ok-accepted.accepted.iterations + 1) ≤ length c.args.out.now
room c e = let n = 31 * (c.in_ok-accepted.accepted.iterations + 1) in enough n (length c.args.out.now) (sym (c.check_room.ensures ∙ one-room n (length c.args.out.now)) ∙ e)

pub put_plan-requires : goal.put_plan-requires
put_plan-requires c = room (goal.at.put_plan-requires c).After-branch-check_room (ap number_in c.in_ok-check_room.was)

pub returns : goal.returns
returns c =
    let text = c.args.text.now in
    let p = (goal.at.returns c).In_ok-accepted in
    let b = (goal.at.returns c).After-branch-check_room in
    let t = c.in_ok-accepted.accepted in
    let e = c.in_ok-accepted.ensures.same_nest ∙ nest-is (goal.at.returns c).After-accept in
    bytes-written (read_refusal text) (plan_text (read_nest text)) c.args.out.now (taken (goal.at.returns c).After-accept) (31 * (t.iterations + 1)) c.put_plan.new.out (long p)
    (omega (arith, long p, room b (ap number_in c.in_ok-check_room.was))) (c.put_plan.ensures ∙ ap (λ (s : LoopNest). sets c.args.out.now 0 (plan_text s)) e)
