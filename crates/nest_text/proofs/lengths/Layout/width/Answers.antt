-- `width` answers how many fields a line behind line 1 has.
use mathlib.Core.Path.{◌≡◌, sym, ap, ◌∙◌}
use Prim.Native.Nat.{ℕ, suc, ◌+◌, ◌-◌}
use native.Mathlib.Omega.{arith}
use lib.ListN.{get_or}
use Rattle.nest_text.specs.Text.{widths}
use Rattle.nest_text.proofs.RowLaws.{width-limit, width-vector, width-last}
use Rattle.nest_text.proofs.lengths.Layout.width.Goals as goal

pub returns-then-i-self : goal.returns-then-i-self
returns-then-i-self c = let s = c.args.self in (sym (width-limit s.loops s.dependences s.last c.args.i c.if-i-self.true), omega arith)

pub returns-then-i-self-2 : goal.returns-then-i-self-2
returns-then-i-self-2 c =
    let s = c.args.self in
    let n = s.loops in
    let i = c.args.i in
    let e : i ≡ n + (i - n) = omega arith in
    (sym (ap (λ (k : ℕ). get_or (widths n s.dependences s.last) k 0) e ∙ width-vector n s.dependences s.last (i - n) (omega arith)), omega arith)

pub returns-else-i-self-2 : goal.returns-else-i-self-2
returns-else-i-self-2 c =
    let s = c.args.self in
    let e : c.args.i ≡ s.loops + suc s.dependences = omega arith in
    (sym (ap (λ (k : ℕ). get_or (widths s.loops s.dependences s.last) k 0) e ∙ width-last s.loops s.dependences s.last), omega arith)
