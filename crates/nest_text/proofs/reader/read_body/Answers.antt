-- `read_body` meets its contract. Assumes nothing.
use Rattle.std.proofs.Common.{rules, ◌≡◌, ◌∙◌, sym, ap₂, subst, ℕ, ◌+◌, ◌*◌, ◌≤◌, ◌<◌, length, arith}
use Rattle.nest_text.specs.Fields.{Bytes, columns}
use Rattle.nest.specs.declared.LoopNest.{LoopNest}
use Rattle.nest_text.specs.declared.lengths.Layout.{Layout}
use Rattle.nest.specs.Nest.{depth_of, count_of}
use Rattle.nest_text.specs.Reader.{body_read, last_width}
use Rattle.nest_text.proofs.FieldLaws.{rest_part}
use Rattle.nest_text.proofs.BodyLaws.{Reached, turn_more, turn-malformed, body_trailing}
use Rattle.nest_text.proofs.BodyLaws.{answered_inside, body-whole, body-malformed}
use Rattle.nest_text.proofs.reader.read_body.Goals as goal
use Rattle.nest_text.proofs.reader.read_body.Goals.{After-of_text-layout}

-- the layout is that of the text: what is read by it, and the width of the last line
record Laid (h : LoopNest) (bs : Bytes) (l : Layout) : Type 0 where
  read_so : body_read l.loops l.dependences h.cube bs ≡ body_read (depth_of h) (count_of h) h.cube bs
  wide : l.last ≡ last_width l.loops l.dependences (length bs)

laid : (c : After-of_text-layout) → Laid c.args.header c.args.text.now c.of_text-layout.result
laid c =
    let bs = c.args.text.now in
    let t = c.of_text-layout.ensures in
    let n : c.to_size-n.result ≡ depth_of c.args.header = search rules in
    let m : c.to_size-m.result ≡ count_of c.args.header = search rules in
    record {
      read_so = ap₂ (λ (a b : ℕ). body_read a b c.args.header.cube bs) (t.0 ∙ n) (t.1 ∙ m);
      wide = t.2 ∙ sym (ap₂ (λ (a b : ℕ). last_width a b (length bs)) t.0 t.1);
    }

pub returns-in_err-row : goal.returns-in_err-row
returns-in_err-row c =
    let l = c.of_text-layout.result in
    let w = l.within in
    let bs = c.args.text.now in
    let cube = c.args.header.cube in
    let h = laid (goal.at.returns-in_err-row c).After-of_text-layout in
    let inside : c.loop-i.i < l.loops + 1 + l.dependences + 1 = omega arith in
    c.from_residual.ensures
    ∙ body-malformed l.loops l.dependences l.last cube bs w.0 w.1 w.2 w.3 h.wide
    (turn-malformed l.loops l.dependences l.last cube bs w.0 w.1 w.2 w.3 c.loop-i.i c.loop-i.rest.now c.loop-i.s c.loop-i.invariant inside
    c.width-k.result c.width-k.ensures.0 c.in_err-row.ensures)
    ∙ h.read_so

pub slice_bounds-rest-count : goal.slice_bounds-rest-count
slice_bounds-rest-count c = answered_inside c.width-k.result c.loop-i.rest.now c.in_ok-row.row c.in_ok-row.ensures

pub slice_bounds-rest-start : goal.slice_bounds-rest-start
slice_bounds-rest-start c = answered_inside c.width-k.result c.loop-i.rest.now c.in_ok-row.row c.in_ok-row.ensures

pub loop-i-preserved : goal.loop-i-preserved
loop-i-preserved c =
    let l = c.of_text-layout.result in
    let w = l.within in
    let bs = c.args.text.now in
    let cube = c.args.header.cube in
    let rest = c.loop-i.rest.now in
    let k = c.width-k.result in
    let inside : c.loop-i.i < l.loops + 1 + l.dependences + 1 = omega arith in
    subst (λ (r : Bytes). Reached l.loops l.dependences l.last cube bs (c.loop-i.i + 1) r c.with_line-s.result)
    (sym (rest_part rest (columns * k + 1)))
    (turn_more l.loops l.dependences l.last cube bs w.0 w.1 w.2 w.3 c.loop-i.i rest c.loop-i.s c.loop-i.invariant inside
    k c.width-k.ensures.0 c.in_ok-row.row c.in_ok-row.ensures c.with_line-s.result c.with_line-s.ensures)

pub returns-then-not-is_empty : goal.returns-then-not-is_empty
returns-then-not-is_empty c =
    let l = c.of_text-layout.result in
    let w = l.within in
    let bs = c.args.text.now in
    let cube = c.args.header.cube in
    let h = laid (goal.at.returns-then-not-is_empty c).After-of_text-layout in
    let some : 0 < length c.loop-i.rest.now = search rules in
    let all : l.loops + 1 + l.dependences + 1 ≤ c.loop-i.i = omega arith in
    body-malformed l.loops l.dependences l.last cube bs w.0 w.1 w.2 w.3 h.wide
    (body_trailing l.loops l.dependences l.last cube bs w.0 w.1 w.2 w.3 c.loop-i.i c.loop-i.rest.now c.loop-i.s c.loop-i.invariant all some)
    ∙ h.read_so

pub returns : goal.returns
returns c =
    let l = c.of_text-layout.result in
    let w = l.within in
    let bs = c.args.text.now in
    let cube = c.args.header.cube in
    let h = laid (goal.at.returns c).After-of_text-layout in
    let none : length c.loop-i.rest.now ≡ 0 = search rules in
    let all : l.loops + 1 + l.dependences + 1 ≤ c.loop-i.i = omega arith in
    body-whole l.loops l.dependences l.last cube bs w.0 w.1 w.2 w.3 c.loop-i.i c.loop-i.rest.now c.loop-i.s c.loop-i.invariant all h.wide none
    ∙ h.read_so
