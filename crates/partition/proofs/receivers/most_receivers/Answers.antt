-- `most_receivers` answers 2m - β, or the refusal. Assumes nothing.
use Rattle.std.proofs.Common.{◌≡◌, ◌∙◌, ◌*◌, ◌-◌, ℕ, sym, ap, ap₂, arith}
use Rattle.nest.specs.Outcomes.{number_in}
use Rattle.nest.proofs.Accepted.{count_is}
use Rattle.nest.proofs.Outcomes.{refused-above, number_out, value_out}
use Rattle.partition.specs.Sending.{Receivers, most_receivers, bound_of}
use Rattle.partition.proofs.Theorem2.{chosen-few, most-refused, most-accepted}
use Rattle.partition.proofs.receivers.most_receivers.Goals as goal

-- two answers with equal parts
both : {r q m n : ℕ} → r ≡ q → m ≡ n → ◌≡◌ {A = Receivers} (record { refusal = r; most = m }) (record { refusal = q; most = n })
both e f = λ i. record { refusal = e i; most = f i }

pub returns-in_err-accepted : goal.returns-in_err-accepted
returns-in_err-accepted c =
    let r = c.from_residual.result in
    let h = c.from_residual.ensures.1 in
    let e = c.in_err-accepted.field-0.0 in
    let n = c.in_err-accepted.ensures.number in
    both (number_out r e h ∙ n) (value_out r e h 0 ∙ sym (most-refused c.args.s (λ z. refused-above c.accept.result e c.in_err-accepted.was (ap number_in c.in_err-accepted.was ∙ n ∙ z))))

pub bound-requires : goal.bound-requires
bound-requires c =
    let a = c.in_ok-accepted.accepted in
    (omega (arith, c.count.ensures, c.chosen_count.ensures, chosen-few a.nest a.accepted), omega (arith, c.count.ensures, (count_is a.nest a.accepted).1))

pub returns : goal.returns
returns c =
    let a = c.in_ok-accepted.accepted in
    let is : 2 * c.count.result - c.chosen_count.result ≡ most_receivers a.nest = unfold most_receivers in ap₂ (λ (m b : ℕ). 2 * m - b) c.count.ensures c.chosen_count.ensures in
    both c.in_ok-accepted.ensures.number (c.bound.ensures ∙ is ∙ sym (most-accepted a.nest a.accepted) ∙ ap bound_of c.in_ok-accepted.ensures.same_nest)
