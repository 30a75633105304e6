-- The numbers that `plan` and `list` answer are what their refusals, in their order, answer.
-- Assumes nothing.
use mathlib.Core.List.{[], ◌∷◌}
use Prim.Native.Nat.{ℕ, ◌<◌}
use native.Mathlib.Omega.{arith}
use lib.ListN.{length}
use Rattle.nest.specs.declared.LoopNest.{LoopNest}
use Rattle.nest.specs.Points.{points_of}
use Rattle.nest.specs.Refusals.{short_buffer, no_room, OneShort, Answered, FromOne}
use Rattle.nest.proofs.Answers.{answered-append, one-append, short_answered, room-answered, call-one, call-answered}
use Rattle.nest_text.specs.Fields.{Bytes}
use Rattle.nest_text.specs.Text.{read_refusal, read_nest, write_refusal}
use Rattle.nest_text.specs.Form.{read_order}
use Rattle.nest_text.proofs.Answers.{read-answered, read_one}
use Rattle.planner.specs.Plan.{plan_refusal, plan_order}
use Rattle.planner.specs.Listing.{plan_text, list_order}

-- 2 to 13, then 14
pub plan-answered : (s : LoopNest) (steps blocks processors values : ℕ) → Answered (plan_order s steps blocks processors values) (plan_refusal s steps blocks processors values)
unfolding plan_refusal
plan-answered s steps blocks processors values =
    let n = length (points_of s) in
    call-answered s ((14, OneShort n steps blocks processors values) ∷ []) (no_room n steps blocks processors values) (λ e. room-answered n steps blocks processors values)

-- none of these numbers is 0
pub plan-one : (s : LoopNest) (steps blocks processors values : ℕ) → FromOne (plan_order s steps blocks processors values)
plan-one s steps blocks processors values = call-one s ((14, OneShort (length (points_of s)) steps blocks processors values) ∷ []) (omega arith, tt)

-- those of the text, then 14
pub list-answered : (text : Bytes) (room : ℕ) → Answered (list_order text room) (write_refusal (read_refusal text) (plan_text (read_nest text)) room)
unfolding write_refusal
list-answered text room =
    let needed = length (plan_text (read_nest text)) in
    answered-append (read_order text) ((14, room < needed) ∷ []) (read_refusal text) (short_buffer needed room) (read_one text) (read-answered text) (λ e. short_answered needed room)

-- none of these numbers is 0
pub list-one : (text : Bytes) (room : ℕ) → FromOne (list_order text room)
list-one text room = one-append (read_order text) ((14, room < length (plan_text (read_nest text))) ∷ []) (read_one text) (omega arith, tt)
