-- `inspect_parts` meets its contract. Assumes nothing.
use Rattle.nest.specs.NestParts.{nest_of_parts}
use Rattle.nest.specs.Outcomes.{number_in}
use Rattle.nest.proofs.Outcomes.{number_out, value_out, refused-above}
use mathlib.Core.Path.{◌≡◌, refl, sym, ◌∙◌, ap}
use Prim.Native.Nat.{ℕ}
use borrow.Author.Tests.{eq-eqb, ne_eqb}
use Rattle.nest.specs.declared.LoopNest.{LoopNest}
use Rattle.nest.specs.Nest.{limits_of}
use Rattle.nest.specs.Points.{point_count, points_of}
use Rattle.nest.specs.Refusals.{refusal, iterations, Inspection}
use Rattle.nest.proofs.Order.{point-count}
use Rattle.nest.proofs.refusals.inspect_parts.Goals as goal

-- the iterations of a refused nest, and of an accepted one
refused_none : (s : LoopNest) → (refusal s ≡ 0 → ⊥) → iterations s ≡ 0
unfolding iterations
refused_none s h = rw (iterations, ne_eqb (refusal s) 0 h) refl

accepted-count : (s : LoopNest) → refusal s ≡ 0 → iterations s ≡ point_count (limits_of s)
unfolding iterations points_of
accepted-count s e = rw (iterations, eq-eqb (refusal s) 0 e) (point-count (limits_of s))

-- two answers with equal parts
both : {r q m n : ℕ} → r ≡ q → m ≡ n → ◌≡◌ {A = Inspection} (record { refusal = r; iterations = m }) (record { refusal = q; iterations = n })
both e f = λ i. record { refusal = e i; iterations = f i }

pub returns-in_err-check_parts : goal.returns-in_err-check_parts
returns-in_err-check_parts c =
    let r = c.from_residual.result in
    let e = c.in_err-check_parts.field-0.0 in
    let h = c.check_parts.ensures in
    let w = c.in_err-check_parts.was in
    both (number_out r e c.from_residual.ensures.1 ∙ sym (ap number_in w) ∙ h)
    (value_out r e c.from_residual.ensures.1 0 ∙ sym (refused_none (nest_of_parts c.args.s.now) (λ z. refused-above c.check_parts.result e w (h ∙ z))))

pub returns : goal.returns
returns c =
    let s = nest_of_parts c.args.s.now in
    let e = sym c.check_parts.ensures ∙ ap number_in c.in_ok-check_parts.was in
    both (sym e) (c.point_count.ensures ∙ ap point_count c.loops.ensures.limits ∙ sym (accepted-count s e))
