-- `read` answers the first refusal of a text, or its nest.
use Rattle.std.proofs.Common.{rules, ◌≡◌, ◌∙◌, sym, ap, arith, None, Some, Ok, Err, refl}
use Rattle.nest.specs.declared.refusals.Refusal.TheVariants.{MalformedText}
use Rattle.nest.specs.Outcomes.{code, number_in}
use Rattle.nest.proofs.Outcomes.{code-above}
use Rattle.nest_text.specs.Answered.{reading_of}
use Rattle.nest_text.proofs.ReadLaws.{Passed, refused_as, reading_out, body-behind, first-refused, first-passed}
use Rattle.nest_text.proofs.read.Goals as goal
use Rattle.nest_text.proofs.read.Goals.{In_ok-header}

pub returns-in_err-header : goal.returns-in_err-header
returns-in_err-header c =
    let r = c.in_err-header.field-0.0 in
    reading_out c.from_residual.result r c.from_residual.ensures.1
    ∙ first-refused c.args.text.now (reading_of (Err r)) c.in_err-header.ensures (λ z. absurd (omega (arith, code-above r, z)))

-- line 1 has passed
passed : (c : In_ok-header) → Passed c.args.text.now c.in_ok-header.header
passed c = first-passed c.args.text.now (reading_of (Ok c.in_ok-header.header)) c.in_ok-header.ensures refl

pub slice_bounds-behind-count : goal.slice_bounds-behind-count
slice_bounds-behind-count c = (passed (goal.at.slice_bounds-behind-count c).In_ok-header).room

pub slice_bounds-behind-start : goal.slice_bounds-behind-start
slice_bounds-behind-start c = (passed (goal.at.slice_bounds-behind-start c).In_ok-header).room

pub read_body-requires : goal.read_body-requires
read_body-requires c =
    let p = passed (goal.at.read_body-requires c).In_ok-header in
    (p.fits.depth_few, p.fits.count_few, p.start)

pub returns-in_err-s : goal.returns-in_err-s
returns-in_err-s c =
    let p = passed (goal.at.returns-in_err-s c).In_ok-header in
    let r : c.in_err-s.field-0.0 ≡ MalformedText = search rules in
    let none : c.read_body.result ≡ None = search rules in
    reading_out c.from_residual-in_err-s.result c.in_err-s.field-0.0 c.from_residual-in_err-s.ensures.1
    ∙ ap (λ e. refused_as (code e)) r
    ∙ p.malformed (body-behind c.args.text.now c.in_ok-header.header None (sym none ∙ c.read_body.ensures))

pub returns-in_err-check : goal.returns-in_err-check
returns-in_err-check c =
    let p = passed (goal.at.returns-in_err-check c).In_ok-header in
    let r = c.in_err-check.field-0.0 in
    let some : c.read_body.result ≡ Some c.in_ok-s.s = search rules in
    reading_out c.from_residual-in_err-check.result r c.from_residual-in_err-check.ensures.1
    ∙ p.refused_with c.in_ok-s.s (body-behind c.args.text.now c.in_ok-header.header (Some c.in_ok-s.s) (sym some ∙ c.read_body.ensures))
    (code r) (sym (ap number_in c.in_err-check.was) ∙ c.check.ensures) (λ z. absurd (omega (arith, code-above r, z)))

pub returns : goal.returns
returns c =
    let p = passed (goal.at.returns c).In_ok-header in
    let some : c.read_body.result ≡ Some c.in_ok-s.s = search rules in
    p.accepted c.in_ok-s.s (body-behind c.args.text.now c.in_ok-header.header (Some c.in_ok-s.s) (sym some ∙ c.read_body.ensures))
    (sym c.check.ensures ∙ ap number_in c.in_ok-check.was)
