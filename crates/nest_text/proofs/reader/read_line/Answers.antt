-- `read_line` meets its contract. Assumes nothing.
use Rattle.std.proofs.Common.{rules, ◌≡◌, ◌∙◌, sym, ap, ℕ, ◌+◌, ◌*◌, ◌≤◌, ◌<◌, ◌++◌, length, take, drop, get_or, arith, Option, Some, None, ℤ, to_z, of_z, w64, length-take-le, length-drop, length-append}
use lib.Seq.{drop-drop, drop_at, take_at}
use Rattle.std.specs.Iterator.Adapters.{enumerate_source, enumerate_count}
use Rattle.std.specs.Slice.Iter.{chunks_exact_rest}
use Rattle.nest_text.specs.Text.{field_at}
use Rattle.nest_text.specs.Fields.{Bytes, columns, read_of}
use Rattle.nest_text.proofs.LineLaws.{line-unended, line_short, field_of-line, field_malformed}
use Rattle.nest_text.proofs.LineLaws.{line-start, line-more, line_end}
use Rattle.nest_text.proofs.reader.read_line.Goals as goal

pub returns-in_err-get : goal.returns-in_err-get
returns-in_err-get c =
    let short : length c.args.text.now ≤ columns * c.args.k = search rules in
    c.from_residual.ensures ∙ line_short c.args.text.now c.args.k short

pub returns-then-branch-ne-NEWLINE : goal.returns-then-branch-ne-NEWLINE
returns-then-branch-ne-NEWLINE c =
    let e : get_or c.args.text.now (columns * c.args.k) 0 ≡ c.in_ok-get.field-0.now = search rules in
    line-unended c.args.text.now c.args.k (λ p. c.if-branch-ne-NEWLINE.true (sym e ∙ p))

pub loop-i-init : goal.loop-i-init
loop-i-init c =
    let none : enumerate_count c.into_iter-i-iterator.result ≡ 0 = search rules in
    let whole : chunks_exact_rest (enumerate_source c.into_iter-i-iterator.result) ≡ take (columns * c.args.k) c.args.text.now = search rules in
    record { rest = rw none whole; size = search rules; read = rw none (line-start c.args.text.now c.args.k) }

-- what is left of the line begins with field n
module _ (text field rest : Bytes) (k n : ℕ) (long : columns * k ≤ length text) (here : drop (columns * n) (take (columns * k) text) ≡ field ++ rest) (six : length field ≡ columns) where
  below : n < k
  below = omega (arith, ap length here, length-drop (columns * n) (take (columns * k) text), length-take-le (columns * k) text long, length-append field rest)

  field_is : (f : Option ℤ) → f ≡ read_of field → field_at text n ≡ f
  field_is f e = sym (e ∙ (ap read_of (sym (ap (take columns) here ∙ take_at field rest columns six)) ∙ field_of-line text k n below long))

  -- and goes on with the next
  behind : rest ≡ drop (columns * (n + 1)) (take (columns * k) text)
  behind =
      let e : columns * (n + 1) ≡ columns * n + columns = omega arith in
      sym (ap (λ (j : ℕ). drop j (take (columns * k) text)) e ∙ (sym (drop-drop columns (columns * n) (take (columns * k) text)) ∙ (ap (drop columns) here ∙ drop_at field rest columns six)))

pub returns-in_err-row : goal.returns-in_err-row
returns-in_err-row c =
    let text = c.args.text.now in
    let k = c.args.k in
    let v = c.loop-i.invariant in
    let n = enumerate_count c.loop-i.i-iterator in
    let e = c.in-Some.ensures.steps in
    let field = c.in-Some.field.now in
    let rest = chunks_exact_rest (enumerate_source c.next.new.self) in
    let long : columns * k < length text = search rules in
    let m : columns * k ≤ length text = omega arith in
    let here : drop (columns * n) (take (columns * k) text) ≡ field ++ rest = sym v.rest ∙ e.0.1.0 in
    let six : length field ≡ columns = e.0.1.1 ∙ v.size in
    c.from_residual-in_err-row.ensures ∙ field_malformed text k n (below text field rest k n m here six) (field_is text field rest k n m here six None c.in_err-row.ensures)

pub loop-i-preserved : goal.loop-i-preserved
loop-i-preserved c =
    let text = c.args.text.now in
    let k = c.args.k in
    let v = c.loop-i.invariant in
    let n = enumerate_count c.loop-i.i-iterator in
    let e = c.in-Some.ensures.steps in
    let field = c.in-Some.field.now in
    let rest = chunks_exact_rest (enumerate_source c.next.new.self) in
    let z = c.in_ok-row.field-0 in
    let long : columns * k < length text = search rules in
    let m : columns * k ≤ length text = omega arith in
    let here : drop (columns * n) (take (columns * k) text) ≡ field ++ rest = sym v.rest ∙ e.0.1.0 in
    let six : length field ≡ columns = e.0.1.1 ∙ v.size in
    let held : to_z w64 (of_z w64 z) ≡ z = search rules in
    let more = line-more text k n c.loop-i.row z c.requires (below text field rest k n m here six) v.read (field_is text field rest k n m here six (Some z) c.in_ok-row.ensures) in
    record {
      rest = rw e.2 (behind text field rest k n m here six);
      size = e.0.0 ∙ v.size;
      read = rw (held, e.1, e.2) more;
    }

pub returns : goal.returns
returns c =
    let text = c.args.text.now in
    let k = c.args.k in
    let v = c.loop-i.invariant in
    let n = enumerate_count c.loop-i.i-iterator in
    let e : get_or text (columns * k) 0 ≡ c.in_ok-get.field-0.now = search rules in
    let long : columns * k < length text = search rules in
    let s = c.in-None.ensures.steps in
    let m : columns * k ≤ length text = omega arith in
    let l : k ≤ n = omega (arith, s, ap length v.rest, v.size, length-drop (columns * n) (take (columns * k) text), length-take-le (columns * k) text m) in
    line_end text k n c.loop-i.row v.read l (e ∙ c.if-branch-ne-NEWLINE.false)
