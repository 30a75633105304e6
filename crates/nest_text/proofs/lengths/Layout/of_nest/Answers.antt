-- `of_nest` lays out the text that is written for a nest.
use Rattle.std.proofs.Common.{rules, ◌≡◌, ◌∙◌, sym, ap, ap₂, ℕ, ◌+◌, ◌≤◌, length, take, arith}
use Rattle.nest.specs.declared.LoopNest.{LoopNest}
use Rattle.nest.specs.Nest.{part, depth_of, count_of, boundaries_of, max_dependences}
use Rattle.nest.proofs.Spans.{spans}
use Rattle.nest_text.specs.Reader.{value_count}
use Rattle.nest_text.proofs.EqualValues.{values-few}
use Rattle.nest_text.proofs.WriteLaws.{part-taken}
use Rattle.nest_text.proofs.lengths.Layout.of_nest.Goals as goal

-- how many boundary values are written
values : (s : LoopNest) (m k : ℕ) → m ≡ count_of s → m ≤ length s.boundaries → k ≡ value_count (take m s.boundaries) → k ≡ value_count (boundaries_of s)
unfolding boundaries_of
values s m k d h e = e ∙ ap value_count (sym (part-taken s.boundaries 0 m (omega arith)) ∙ ap (part s.boundaries 0) d)

pub shared_ref_as_front-value_count : goal.shared_ref_as_front-value_count
shared_ref_as_front-value_count c =
    let s = c.args.s.now.nest in
    let m : c.to_size-dependences.result ≡ count_of s = search rules in
    omega (arith, m, (spans s c.args.s.now.accepted).count_few)

pub overflow_add-result : goal.overflow_add-result
overflow_add-result c =
    let s = c.args.s.now.nest in
    let h = spans s c.args.s.now.accepted in
    let long : length s.boundaries ≡ max_dependences = search rules in
    let m : c.to_size-dependences.result ≡ count_of s = search rules in
    let v = values s c.to_size-dependences.result c.value_count-values.result m (omega (arith, m, h.count_few)) c.value_count-values.ensures in
    omega (arith, v, (values-few s h.count_some).1, m, h.count_few)

pub invariant_of-result : goal.invariant_of-result
invariant_of-result c =
    let s = c.args.s.now.nest in
    let h = spans s c.args.s.now.accepted in
    let long : length s.boundaries ≡ max_dependences = search rules in
    let m : c.to_size-dependences.result ≡ count_of s = search rules in
    let v = values s c.to_size-dependences.result c.value_count-values.result m (omega (arith, m, h.count_few)) c.value_count-values.ensures in
    let n : c.to_size.result ≡ depth_of s = search rules in
    record {
      within = (
        omega (arith, n, h.depth_few),
        omega (arith, m, h.count_few),
        omega arith,
        omega (arith, v, (values-few s h.count_some).1, m, h.count_few),
      );
    }

pub returns : goal.returns
returns c =
    let s = c.args.s.now.nest in
    let h = spans s c.args.s.now.accepted in
    let long : length s.boundaries ≡ max_dependences = search rules in
    let m : c.to_size-dependences.result ≡ count_of s = search rules in
    let v = values s c.to_size-dependences.result c.value_count-values.result m (omega (arith, m, h.count_few)) c.value_count-values.ensures in
    (search rules, m, ap₂ (λ (x y : ℕ). x + y) v m)
