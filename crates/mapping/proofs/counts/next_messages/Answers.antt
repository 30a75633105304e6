-- `next_messages` meets its contract. Assumes nothing.
use Rattle.std.proofs.Common.{◌≡◌, refl, sym, ◌∙◌, arith, length, get_or, pos, ◌<◌, ℕ, subst, Option, MatchOption}
use Rattle.sources.specs.Keys.{source_in}
use Rattle.mapping.proofs.KeyMessages.{messages-none, messages_missing, messages-same, messages-other, messages-all}
use Rattle.mapping.proofs.counts.next_messages.Goals as goal
use Rattle.mapping.proofs.counts.next_messages.Goals.{in-Some+then-processors-j, in-Some+else-processors-j, in_default}

pub loop-i-init : goal.loop-i-init
loop-i-init c =
    let S = c.args.sources.now in
    record { counted = sym (messages-none S.keys.now S.distances.now c.args.processors.now S.iteration); most = omega arith; same_keys = refl; same_distances = refl; same_iteration = refl }

pub loop-i-preserved : goal.loop-i-preserved
loop-i-preserved c =
    let l = c.loop-i in
    let S = c.args.sources.now in
    let Found : Option ℕ → Type 0 = λ o. let source = source_in S.keys.now S.iteration (get_or S.distances.now l.i (pos 0)) in MatchOption o (source ≡ length S.keys.now) (λ j. (j < length S.keys.now) × (j ≡ source)) in
    let v = rw (l.invariant.same_keys, l.invariant.same_distances, l.invariant.same_iteration) at c.source.ensures.value in record {
      counted = elim c.match-source.branch [
        | in-Some+then-processors-j w ↦
            let f = subst (λ (o : Option ℕ). Found o) w.in-Some.is v in
            w.number-is ∙ messages-other S.keys.now S.distances.now c.args.processors.now S.iteration l.i w.in-Some.j l.number l.invariant.counted f.0 f.1 w.if-processors-j.true
        | in-Some+else-processors-j w ↦
            let f = subst (λ (o : Option ℕ). Found o) w.in-Some.is v in
            w.number-is ∙ messages-same S.keys.now S.distances.now c.args.processors.now S.iteration l.i w.in-Some.j l.number l.invariant.counted f.0 f.1 w.if-processors-j.false
        | in_default w ↦
            let f = subst (λ (o : Option ℕ). Found o) w.in_default.is v in
            w.number-is ∙ messages_missing S.keys.now S.distances.now c.args.processors.now S.iteration l.i l.number l.invariant.counted f
      ];
      most = elim c.match-source.branch [
        | in-Some+then-processors-j w ↦ omega (arith, w.number-is, l.invariant.most)
        | in-Some+else-processors-j w ↦ omega (arith, w.number-is, l.invariant.most)
        | in_default w ↦ omega (arith, w.number-is, l.invariant.most)
      ];
      same_keys = c.source.ensures.keys ∙ l.invariant.same_keys;
      same_distances = c.source.ensures.distances ∙ l.invariant.same_distances;
      same_iteration = c.source.ensures.iteration ∙ l.invariant.same_iteration;
    }

pub returns-clause-value : goal.returns-clause-value
returns-clause-value c = let S = c.args.sources.now in messages-all S.keys.now S.distances.now c.args.processors.now S.iteration c.loop-i.i (length S.distances.now) c.loop-i.number c.loop-i.invariant.counted (omega (arith, c.loop-i.auto.i-end, c.loop-i-test.false))
