-- `with_boundary_line` puts the boundary values in their places.
use Rattle.std.proofs.Common.{rules, ◌≡◌, replicate, take}
use native.Mathlib.Numerals.{unary_clauses}
use Rattle.nest_text.specs.Text.{at}
use Rattle.nest_text.specs.Reader.{with_boundary_line}
use Rattle.nest_text.proofs.LastLine.{boundaries_short, boundaries-long}
use Rattle.nest_text.proofs.reader.with_boundary_line.Goals as goal

pub returns-then-layout-m : goal.returns-then-layout-m
unfolding with_boundary_line
returns-then-layout-m c =
    let m = c.args.layout.dependences in
    let k = c.args.layout.last in
    let row = c.args.row.now in
    let e : c.fill.new.self ≡ replicate m (at row 0) = search rules in
    rw (e, boundaries_short m k row c.if-layout-m.true) (simp unary_clauses)

pub returns-else-layout-m : goal.returns-else-layout-m
unfolding with_boundary_line
returns-else-layout-m c =
    let m = c.args.layout.dependences in
    let k = c.args.layout.last in
    let row = c.args.row.now in
    let e : c.copy_from_slice.new.self ≡ take m row = search rules in
    rw (e, boundaries-long m k row c.if-layout-m.false) (simp unary_clauses)
