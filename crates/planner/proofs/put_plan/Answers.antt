-- `put_plan` stores the plan's text: the line of the counts, and behind it the rows. Assumes nothing.
use mathlib.Core.Path.{◌≡◌, sym, ap, ◌∙◌}
use mathlib.Core.List.{List, [], ◌∷◌, flat_map}
use lib.IntN.{pos}
use Prim.Native.Nat.{ℕ, ◌<◌}
use native.Mathlib.Omega.{arith}
use lib.ListN.{length, get_or, replicate, take}
use Rattle.std.proofs.lemmas.List.{get_or-take, length-take-le}
use Rattle.integers.specs.Lists.{tab}
use Rattle.integers.proofs.Lists.{tab-same}
use Rattle.nest.proofs.PointLaws.{few-points}
use Rattle.nest_text.specs.Text.{line}
use Rattle.nest_text.proofs.WriteLaws.{stored_as}
use Rattle.planner.specs.Answered.{made_of}
use Rattle.planner.specs.Listing.{row_of}
use Rattle.planner.proofs.ListLaws.{Tabled, tabled}
use Rattle.planner.proofs.put_plan.Goals as goal
use Rattle.planner.proofs.put_plan.Goals.{After-make-made}

-- a table before the call of `make`, and the tables behind it
abbrev empty : List ℕ
empty = replicate 4096 0

tables : (p : After-make-made) → (let l = p.make-made.new in Tabled p.args.s.now.nest p.args.s.now.iterations (made_of p.make-made.result) l.steps l.blocks l.processors l.values)
tables p =
    let s = p.args.s.now in
    let l = p.make-made.new in
    let e = p.make-made.ensures in
    tabled s.nest s.accepted s.iterations s.counted empty empty empty empty (made_of p.make-made.result) l.steps l.blocks l.processors l.values e.value e.steps_after e.blocks_after e.processors_after e.values_after

pub make-made-requires : goal.make-made-requires
make-made-requires c = let f = few-points c.args.s.now.nest c.args.s.now.accepted in let n = c.args.s.now.counted in (omega arith, omega arith, omega arith, omega arith)

pub put_counts-end-requires : goal.put_counts-end-requires
put_counts-end-requires c = (omega (arith, c.requires), (tables (goal.at.put_counts-end-requires c).After-make-made).counts_fit)

-- as many steps as iterations
steps_long : (p : After-make-made) → length (take p.args.s.now.iterations p.make-made.new.steps) ≡ p.args.s.now.iterations
steps_long p = length-take-le p.args.s.now.iterations p.make-made.new.steps (tables p).long.0

pub slice_bounds-steps-end : goal.slice_bounds-steps-end
slice_bounds-steps-end c = (tables (goal.at.slice_bounds-steps-end c).After-make-made).long.0

pub slice_bounds-put_rows-end : goal.slice_bounds-put_rows-end
slice_bounds-put_rows-end c = sym (steps_long (goal.at.slice_bounds-put_rows-end c).After-make-made)

pub put_rows-requires-clause-iterations_in_bounds : goal.put_rows-requires-clause-iterations_in_bounds
put_rows-requires-clause-iterations_in_bounds c =
    let p = (goal.at.put_rows-requires-clause-iterations_in_bounds c).After-make-made in
    let l = steps_long p in
    (omega (arith, l, (tables p).room c.requires c.put_counts-end.ensures), omega (arith, l, few-points c.args.s.now.nest c.args.s.now.accepted, c.args.s.now.counted))

pub put_rows-requires-clause-by_index : goal.put_rows-requires-clause-by_index
put_rows-requires-clause-by_index c = λ k h.
    let p = (goal.at.put_rows-requires-clause-by_index c).After-make-made in
    let i : k < c.args.s.now.iterations = omega (arith, h, steps_long p) in
    omega (arith, get_or-take c.args.s.now.iterations c.make-made.new.steps k 0 i, (tables p).steps_fit k i)

-- the rows of the front of the steps are those of the whole table
rows : (a b c d : List ℕ) (n : ℕ) → tab (row_of (take n a) b c d) n ≡ tab (row_of a b c d) n
unfolding row_of
rows a b c d n =
    tab-same (row_of (take n a) b c d) (row_of a b c d) n
    (λ k h. ap (λ x. pos k ∷ pos x ∷ pos (get_or b k 0) ∷ pos (get_or c k 0) ∷ pos (get_or d k 0) ∷ []) (get_or-take n a k 0 h))

pub returns : goal.returns
returns c =
    let p = (goal.at.returns c).After-make-made in
    let n = c.args.s.now.iterations in
    let t = c.make-made.new in
    let e = ap (tab (row_of (take n t.steps) t.blocks t.processors t.values)) (steps_long p) ∙ rows t.steps t.blocks t.processors t.values n in
    (tables p).stored c.put_counts-end.ensures (stored_as (ap (flat_map line) e) c.put_rows.ensures)
