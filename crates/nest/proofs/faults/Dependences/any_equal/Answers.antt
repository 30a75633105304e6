-- `any_equal` meets its contract. Assumes nothing.
use mathlib.Core.Path.{◌≡◌, sym, ◌∙◌, ap}
use mathlib.Core.List.{[], ◌∷◌, map}
use mathlib.Core.Bool.{Bool, true, false}
use lib.ListN.{take}
use Rattle.std.proofs.lemmas.List.{nil_from_length}
use Rattle.integers.specs.Lists.{repeats}
use Rattle.integers.specs.Vector.{eq_v}
use Rattle.nest.proofs.Chains.{repeats-first}
use Rattle.nest.proofs.faults.Dependences.any_equal.Goals as goal
use Rattle.nest.proofs.faults.Dependences.any_equal.Goals.{After-has}

-- whether two of the rows that are left are equal
left : (c : After-has)
    → repeats eq_v (map (take c.args.self.now.n) c.args.self.now.rows.now)
    ≡ elim c.has.result as (λ _. Bool) [ true ↦ true | false ↦ repeats eq_v (map (take c.args.self.now.n) c.in-Some.rows.now) ]
left c =
    let n = c.args.self.now.n in
    let e : c.loop-first.rest.now ≡ c.in-Some.first.now ∷ c.in-Some.rows.now = c.in-Some.ensures.cases.0 in
    c.loop-first.invariant ∙ ap (λ rows. repeats eq_v (map (take n) rows)) e
    ∙ repeats-first (take n) eq_v c.in-Some.first.now c.in-Some.rows.now c.has.result c.has.ensures

pub returns-then-has : goal.returns-then-has
returns-then-has c = sym (rw c.if-has.true at (left (goal.at.returns-then-has c).After-has))

pub loop-first-preserved : goal.loop-first-preserved
loop-first-preserved c = rw c.if-has.false at (left (goal.at.loop-first-preserved c).After-has)

pub returns : goal.returns
unfolding repeats
returns c =
    let e : c.loop-first.rest.now ≡ [] = nil_from_length c.loop-first.rest.now c.in_default.ensures.cases in
    sym (c.loop-first.invariant ∙ ap (λ rows. repeats eq_v (map (take c.args.self.now.n) rows)) e)
