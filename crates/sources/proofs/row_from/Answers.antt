-- `row_from` meets its contract. Assumes nothing.
use Rattle.std.proofs.Common.{◌≡◌, subst, nat_abs, ◌≤◌, ℤ, sym, ◌-◌, arith, length-take-le}
use Rattle.nest.specs.Nest.{max_depth}
use Rattle.nest.specs.Points.{extent}
use Rattle.sources.specs.Keys.{max_key}
use Rattle.sources.specs.Loops.{limit_of}
use Rattle.sources.proofs.Steps.{FineLimits, fine_limits, FirstKey, first_key, first_held}
use Rattle.sources.proofs.Walk.{row_done}
use Rattle.sources.proofs.row_from.Goals as goal
use Rattle.sources.proofs.row_from.Goals.{Start, After-extent_of-count}

fine : (d : Start) → FineLimits d.args.limits
fine d = fine_limits d.args.limits d.requires.1

first : (d : Start) → FirstKey d.args.prefix d.args.limits.lower (max_depth - 1)
first d = first_key d.args.prefix d.args.limits.lower (max_depth - 1) (omega arith) d.requires.0 (fine d).lower_size

count : (c : After-extent_of-count) → c.extent_of-count.result ≡ extent (limit_of c.args.limits)
count c = let f = fine (goal.at.After-extent_of-count c).Start in rw (f.lower_read, f.upper_read) at c.extent_of-count.ensures

pub overflow_add-first : goal.overflow_add-first
overflow_add-first c = (first (goal.at.overflow_add-first c).Start).sum

pub row_into-requires : goal.row_into-requires
row_into-requires c =
    let d = (goal.at.row_into-requires c).Start in
    let f = first d in
    let l = length-take-le c.extent_of-count.result c.args.keys.now (omega (arith, count (goal.at.row_into-requires c).After-extent_of-count, c.requires.2)) in
    (subst (λ (z : ℤ). nat_abs z ≤ max_key) (sym f.is) f.most, omega (arith, l, count (goal.at.row_into-requires c).After-extent_of-count, (fine d).few))

pub returns-clause-keys_after : goal.returns-clause-keys_after
returns-clause-keys_after c =
    let a = c.args in
    row_done (limit_of a.limits) a.prefix (first_held a.prefix a.limits.lower) c.extent_of-count.result a.keys.now c.row_into.new.row (first (goal.at.returns-clause-keys_after c).Start).is (count (goal.at.returns-clause-keys_after c).After-extent_of-count) c.requires.2 c.row_into.ensures
