-- `read_header` answers the first refusal of line 1, or its numbers.
use Rattle.std.proofs.Common.{rules, ◌≡◌, ◌∙◌, sym, ap, [], ℕ, pos, get_or, arith, None, Some}
use Rattle.nest.specs.declared.LoopNest.{LoopNest}
use Rattle.nest.specs.declared.refusals.Refusal.TheVariants.{MalformedText}
use Rattle.nest.specs.Nest.{with_shape, nest_from}
use Rattle.nest.specs.Outcomes.{code, number_in}
use Rattle.nest.specs.Refusals.{first_met, header_order}
use Rattle.nest.proofs.Outcomes.{code-above}
use Rattle.nest.proofs.Parts.{header-parts}
use Rattle.nest_text.specs.Fields.{Bytes}
use Rattle.nest_text.proofs.ReadLaws.{Headed, refused_as, reading_out, line_refused, header_read_lem}
use Rattle.nest_text.proofs.reader.read_header.Goals as goal
use Rattle.nest_text.proofs.reader.read_header.Goals.{After-check_header}

pub returns-in_err-row : goal.returns-in_err-row
returns-in_err-row c =
    let m : c.in_err-row.field-0.0 ≡ MalformedText = search rules in
    let none : c.read_line.result ≡ None = search rules in
    reading_out c.from_residual.result c.in_err-row.field-0.0 c.from_residual.ensures.1
    ∙ ap (λ r. refused_as (code r)) m
    ∙ line_refused c.args.text.now (sym none ∙ c.read_line.ensures)

-- the nest with line 1's numbers is made, and what the check of it answers
record Made (bs : Bytes) (s : LoopNest) (r : ℕ) : Type 0 where
  headed : Headed bs s
  checked : r ≡ first_met s header_order

made : (c : After-check_header) → Made c.args.text.now c.with_shape-header.result (number_in c.check_header.result)
made c =
    let row = c.in_ok-row.row in
    let s = c.with_shape-header.result in
    let some : c.read_line.result ≡ Some row = search rules in
    let shaped : s ≡ with_shape c.empty.result (get_or row 0 (pos 0)) (get_or row 1 (pos 0)) (get_or row 2 (pos 0)) = search rules in
    let e : number_in c.check_header.result ≡ first_met (nest_from s.depth s.count s.cube [] [] [] [] [] []) header_order = search rules in
    record {
      headed = header_read_lem c.args.text.now row (sym some ∙ c.read_line.ensures) c.empty.result s c.empty.ensures.value shaped;
      checked = e ∙ header-parts s;
    }

pub returns-in_err-check_header : goal.returns-in_err-check_header
returns-in_err-check_header c =
    let h = made (goal.at.returns-in_err-check_header c).After-check_header in
    let r = c.in_err-check_header.field-0.0 in
    reading_out c.from_residual-in_err-check_header.result r c.from_residual-in_err-check_header.ensures.1
    ∙ h.headed.refused_with (code r) (sym (ap number_in c.in_err-check_header.was) ∙ h.checked) (λ z. absurd (omega (arith, code-above r, z)))

pub returns : goal.returns
returns c =
    let h = made (goal.at.returns c).After-check_header in
    h.headed.accepted (sym h.checked ∙ ap number_in c.in_ok-check_header.was)
