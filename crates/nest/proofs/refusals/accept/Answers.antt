-- `accept` meets its contract. Assumes nothing.
use mathlib.Core.Path.{◌≡◌, sym, ◌∙◌, ap}
use Rattle.nest.specs.Refusals.{refusal, Inspection, inspection_of}
use Rattle.nest.proofs.Entries.{iterations_are}
use Rattle.nest.proofs.refusals.accept.Goals as goal

pub invariant_of-result : goal.invariant_of-result
invariant_of-result c =
    let s = c.args.s in
    let e = c.inspect.ensures in
    let w = ap inspection_of c.in_ok-iterations.was in
    let a : refusal s ≡ 0 = sym (ap (λ (r : Inspection). r.refusal) e) ∙ ap (λ (r : Inspection). r.refusal) w in
    record {
      accepted = a;
      counted = sym (ap (λ (r : Inspection). r.iterations) w) ∙ ap (λ (r : Inspection). r.iterations) e ∙ iterations_are s a;
    }
