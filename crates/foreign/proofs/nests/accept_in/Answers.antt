-- `accept_in` meets its contract. Assumes nothing.
use mathlib.Core.Path.{◌≡◌, sym, ap, ◌∙◌}
use Rattle.nest.specs.declared.LoopNest.{LoopNest}
use Rattle.nest.specs.Outcomes.{number_in}
use Rattle.nest.specs.Refusals.{refusal, iterations, Inspection, inspection_of}
use Rattle.nest.proofs.Entries.{iterations_are}
use Rattle.foreign.specs.Numbers.{nest_in}
use Rattle.foreign.proofs.nests.accept_in.Goals as goal
use Rattle.foreign.proofs.nests.accept_in.Goals.{After-inspect_parts}

-- what is known of a nest
abbrev known_of : LoopNest → Inspection
known_of s = record { refusal = refusal s; iterations = iterations s }

known : (c : After-inspect_parts) → inspection_of c.inspect_parts.result ≡ known_of (nest_in c.args.numbers.now)
known c = c.inspect_parts.ensures ∙ ap known_of c.parts_in.ensures

number : (c : After-inspect_parts) → number_in c.inspect_parts.result ≡ refusal (nest_in c.args.numbers.now)
number c = ap (λ (r : Inspection). r.refusal) (known c)

pub invariant_of-result : goal.invariant_of-result
invariant_of-result c =
    let p = (goal.at.invariant_of-result c).After-inspect_parts in
    let s = nest_in c.args.numbers.now in
    let w = ap inspection_of c.in_ok-iterations.was in
    let a : refusal s ≡ 0 = sym (number p) ∙ ap (λ (r : Inspection). r.refusal) w in
    record {
      accepted = a;
      counted = sym (ap (λ (r : Inspection). r.iterations) w) ∙ ap (λ (r : Inspection). r.iterations) (known p) ∙ iterations_are s a;
    }
