-- `make` writes the four tables of an accepted nest and answers its counts.
use mathlib.Core.Path.{◌≡◌, refl, sym, ap, subst, ◌∙◌}
use mathlib.Core.List.{◌++◌}
use Prim.Native.Nat.{ℕ, ◌^◌, ◌<◌}
use native.Mathlib.Omega.{arith}
use lib.ListN.{length, take, drop}
use Rattle.std.proofs.lemmas.List.{get_or-take, length-take-le}
use Rattle.nest.specs.declared.accepted_nest.AcceptedNest.{AcceptedNest}
use Rattle.nest.specs.Points.{points_of}
use Rattle.nest.proofs.PointLaws.{few-points}
use Rattle.partition.specs.Partition.{block_count, step_count}
use Rattle.integers.specs.Lists.{tab, count, total}
use Rattle.nest.specs.Nest.{count_of, max_cube}
use Rattle.mapping.specs.Mapping.{processors_of, is_message}
use Rattle.sequential.specs.Sequential.{loop, rule_of}
use Rattle.planner.proofs.Bridge.{placed_room, placed_below, placed_processors, placed_messages, loop-values, answer-is}
use Rattle.planner.proofs.make.Goals as goal
use Rattle.planner.proofs.make.Goals.{After-place_blocks-block_count}

-- the processors that were placed
placed : (c : After-place_blocks-block_count) → c.place_blocks-block_count.new.processors ≡ processors_of c.args.s.now.nest ++ drop c.args.s.now.iterations c.args.processors.now
placed c = c.place_blocks-block_count.ensures.processors_after ∙ ap (λ (t : AcceptedNest). processors_of t.nest ++ drop t.iterations c.args.processors.now) c.new-keyed.ensures

pub new-keyed-requires : goal.new-keyed-requires
new-keyed-requires c = few-points c.args.s.now.nest c.args.s.now.accepted

pub processor_count-processor_count-requires : goal.processor_count-processor_count-requires
processor_count-processor_count-requires c = λ k h.
    let b = (goal.at.processor_count-processor_count-requires c).After-place_blocks-block_count in
    let s = c.args.s.now in
    let ps = c.place_blocks-block_count.new.processors in
    let old = drop s.iterations c.args.processors.now in
    let l = length-take-le s.iterations ps (placed_room s.nest old s.iterations s.counted ps (placed b)) in
    let i : k < s.iterations = omega (arith, h, l) in
    subst (λ x. x < 2 ^ max_cube) (sym (get_or-take s.iterations ps k 0 i)) (placed_below s.nest old s.iterations s.counted ps (placed b) s.accepted k i)

pub returns-clause-value : goal.returns-clause-value
returns-clause-value c =
    let s = c.args.s.now in
    let b = (goal.at.returns-clause-value c).After-place_blocks-block_count in
    let ps = c.place_blocks-block_count.new.processors in
    let old = drop s.iterations c.args.processors.now in
    let e = c.new-keyed.ensures in
    answer-is s.nest s.iterations c.steps_into-step_count.result c.place_blocks-block_count.result c.processor_count-processor_count.result c.message_count-message_count.result s.counted
    (c.steps_into-step_count.ensures.value ∙ ap (λ (t : AcceptedNest). step_count t.nest) e)
    (c.place_blocks-block_count.ensures.value ∙ ap (λ (t : AcceptedNest). block_count t.nest) e)
    (c.processor_count-processor_count.ensures ∙ placed_processors s.nest old s.iterations s.counted ps (placed b))
    (c.message_count-message_count.ensures
    ∙ ap (λ (t : AcceptedNest). total (tab (λ k. count (is_message t.nest (take (length (points_of t.nest)) ps) k) (tab (λ (i : ℕ). i) (count_of t.nest))) (length (points_of t.nest)))) e
    ∙ placed_messages s.nest old (length (points_of s.nest)) refl ps (placed b))

pub returns-clause-values_after : goal.returns-clause-values_after
returns-clause-values_after c =
    let s = c.args.s.now in
    c.fill_by_keys.ensures
    ∙ ap (λ (t : AcceptedNest). loop (rule_of t.nest) t.nest (length (points_of t.nest)) ++ drop (length (points_of t.nest)) c.args.values.now) c.new-keyed.ensures
    ∙ loop-values s.nest c.args.values.now s.iterations s.counted
