-- `with_line` puts the numbers of any line behind line 1 in their places.
use mathlib.Core.Path.{◌≡◌, ◌∙◌}
use native.Mathlib.Omega.{arith}
use borrow.Author.Rules.{rules}
use Rattle.nest_text.specs.Reader.{with_limit_line}
use Rattle.nest_text.proofs.RowLaws.{limits-line, time-line, dependence-line, last_line}
use Rattle.nest_text.proofs.reader.with_line.Goals as goal

pub returns-then-i-n : goal.returns-then-i-n
unfolding with_limit_line
returns-then-i-n c =
    let a = c.args in
    let l = a.layout in
    let e : c.with_limits.result ≡ with_limit_line a.s a.i a.row.now = search rules in
    e ∙ limits-line l.loops l.dependences l.last a.i a.s a.row.now c.if-i-n.true

pub returns-then-i-n-2 : goal.returns-then-i-n-2
returns-then-i-n-2 c =
    let a = c.args in
    let l = a.layout in
    c.with_time_line.ensures ∙ time-line l.loops l.dependences l.last a.i a.s a.row.now c.if-i-n-2.true

pub returns-then-i-n-3 : goal.returns-then-i-n-3
returns-then-i-n-3 c =
    let a = c.args in
    let l = a.layout in
    c.with_dependence_line.ensures ∙ dependence-line l.loops l.dependences l.last a.i a.s a.row.now (omega arith) c.if-i-n-3.true

pub returns-else-i-n-3 : goal.returns-else-i-n-3
returns-else-i-n-3 c =
    let a = c.args in
    let l = a.layout in
    c.with_last_line.ensures ∙ last_line l.loops l.dependences l.last a.i a.s a.row.now c.if-i-n-3.false
