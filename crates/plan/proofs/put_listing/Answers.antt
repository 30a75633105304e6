-- `put_listing` stores what is printed for its text. Assumes nothing.
use mathlib.Core.Path.{◌≡◌, refl, subst}
use mathlib.Core.List.{[], ◌∷◌}
use native.Mathlib.Omega.{arith}
use lib.IntN.{pos}
use Rattle.std.specs.Prelude.{Ok, Err}
use Rattle.nest.specs.Outcomes.{code}
use Rattle.nest.proofs.Outcomes.{code-above}
use Rattle.nest_text.specs.Answered.{writing_of}
use Rattle.nest_text.specs.Stored.{Stored}
use Rattle.nest_text.specs.Text.{line}
use Rattle.plan.proofs.Printed.{number-printed, plan-printed, plan-within}
use Rattle.plan.proofs.put_listing.Goals as goal

pub returns-in-Err-clause-stored : goal.returns-in-Err-clause-stored
returns-in-Err-clause-stored c =
    let q = c.put_number in
    let a = c.args in
    let e = c.in-Err.refusal in
    let some : code e ≡ 0 → ⊥ = λ z. absurd (omega (arith, code-above e, z)) in
    let s : Stored c.list.new.out 0 (line (pos (code e) ∷ [])) q.new.out q.result =
    subst (λ n. Stored c.list.new.out 0 (line (pos n ∷ [])) q.new.out q.result) c.into.ensures q.ensures.1 in
    number-printed a.text.now a.out.now c.requires (writing_of (Err e)) c.list.new.out c.in-Err.ensures some s

pub returns-in-Ok-clause-stored : goal.returns-in-Ok-clause-stored
returns-in-Ok-clause-stored c = plan-printed c.args.text.now c.args.out.now c.requires (writing_of (Ok c.in-Ok.length)) c.list.new.out c.in-Ok.ensures refl

pub returns-in-Ok-clause-prefix_len : goal.returns-in-Ok-clause-prefix_len
returns-in-Ok-clause-prefix_len c = plan-within c.args.text.now c.args.out.now c.requires (writing_of (Ok c.in-Ok.length)) c.list.new.out c.in-Ok.ensures refl
