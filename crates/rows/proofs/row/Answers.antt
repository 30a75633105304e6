-- `row` meets its contract: the part that `locate` names lies within the table. Assumes nothing.
use mathlib.Core.Path.{◌≡◌, sym, ap, ◌∙◌}
use Prim.Native.Nat.{◌+◌, ◌-◌, ◌≤◌}
use native.Mathlib.Omega.{arith}
use lib.ListN.{length, take, drop}
use Rattle.std.proofs.Common.{rules, Ok}
use Rattle.rows.specs.declared.RowSpan.{RowSpan}
use Rattle.integers.proofs.Machine.{reads}
use Rattle.nest.proofs.Outcomes.{number_out}
use Rattle.rows.specs.Rows.{Span, span_of, row_of}
use Rattle.rows.specs.Answered.{span_in}
use Rattle.rows.proofs.SpanLaws.{span_fits, span_refusal, part_out}
use Rattle.rows.proofs.row.Goals as goal
use Rattle.rows.proofs.row.Goals.{After-locate}

-- the span, and that it ends within the table
span : (c : After-locate) → span_in c.locate.result ≡ span_of c.args.s (length c.args.table.now) c.args.index
span c = let i : reads c.args.index ≡ c.args.index = search rules in c.locate.ensures ∙ ap (span_of c.args.s (length c.args.table.now)) i

found : (c : After-locate) (at : RowSpan) → c.locate.result ≡ Ok at → ◌≡◌ {A = Span} (record { refusal = 0; start = at.start; length = at.length }) (span_of c.args.s (length c.args.table.now) c.args.index)
found c at e = sym (ap span_in e) ∙ span c

fits : (c : After-locate) (at : RowSpan) → c.locate.result ≡ Ok at → at.start + at.length ≤ length c.args.table.now
fits c at e =
    let a = c.args in
    omega (arith, span_fits a.s (length a.table.now) a.index, ap (λ (r : Span). r.start + r.length) (found c at e))

pub returns-in_err-at : goal.returns-in_err-at
unfolding row_of
returns-in_err-at c =
    let a = c.args in
    let r = c.from_residual.result in
    let h = c.from_residual.ensures.1 in
    let e = c.in_err-at.field-0.0 in
    let f = sym (ap span_in c.in_err-at.was) ∙ span (goal.at.returns-in_err-at c).After-locate in (
      part_out r e h ∙ ap (λ (p : Span). take p.length (drop p.start a.table.now)) f,
      number_out r e h ∙ ap (λ (p : Span). p.refusal) f ∙ span_refusal a.s (length a.table.now) a.index,
    )

pub overflow_add-result : goal.overflow_add-result
overflow_add-result c = let f = fits (goal.at.overflow_add-result c).After-locate c.in_ok-at.at c.in_ok-at.was in search rules

pub offset_bounds-table-at : goal.offset_bounds-table-at
offset_bounds-table-at c = let f = fits (goal.at.offset_bounds-table-at c).After-locate c.in_ok-at.at c.in_ok-at.was in omega arith

pub slice_bounds-result-end : goal.slice_bounds-result-end
slice_bounds-result-end c = let f = fits (goal.at.slice_bounds-result-end c).After-locate c.in_ok-at.at c.in_ok-at.was in omega arith

pub returns : goal.returns
unfolding row_of
returns c =
    let a = c.args in
    let r = c.in_ok-at.at in
    let e : r.start + r.length - r.start ≡ r.length = omega arith in
    let f = found (goal.at.returns c).After-locate c.in_ok-at.at c.in_ok-at.was in (
      rw e (ap (λ (p : Span). take p.length (drop p.start a.table.now)) f),
      ap (λ (p : Span). p.refusal) f ∙ span_refusal a.s (length a.table.now) a.index,
    )
