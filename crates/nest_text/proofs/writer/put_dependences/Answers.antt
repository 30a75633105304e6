-- `put_dependences` meets its contract. Assumes nothing.
use Rattle.std.proofs.Common.{rules, ◌≡◌, ◌∙◌, sym, ap, ℕ, ◌+◌, ◌*◌, ◌≤◌, pos, length, get_or, take, drop, arith, length-append, length-drop, List, ℤ, ◌++◌}
use Rattle.std.proofs.lemmas.List.{take-append-le}
use Rattle.std.specs.Iterator.Adapters.{take_source}
use Rattle.std.specs.Slice.Iter.{chunks_exact_rest}
use lib.Seq.{drop-drop, drop_at}
use Rattle.std.proofs.lemmas.List.{length_push}
use mathlib.Core.List.{flat_map}
use Rattle.integers.specs.Lists.{tab}
use Rattle.nest.specs.Nest.{part, dependence_at, max_depth}
use Rattle.nest_text.specs.Text.{line, line_length}
use Rattle.nest_text.specs.Stored.{EachInColumns}
use native.Mathlib.Nat.{mul-suc}
use native.Mathlib.Numerals.{add-one}
use Rattle.nest_text.proofs.WriteLaws.{stored-none, stored_as, part-taken, lines_more, line-length}
use Rattle.nest_text.proofs.writer.put_dependences.Goals as goal

-- where the next line begins
next_line : (w i : ℕ) → w * (i + 1) ≡ w * i + w
next_line w i = ap (λ k. w * k) (add-one i) ∙ mul-suc w i

-- the bytes of dependence i
row-length : (xs : List ℤ) (n i : ℕ) → EachInColumns xs (i * max_depth) n → length (line (dependence_at xs n i)) ≡ line_length n
unfolding part
row-length xs n i h = line-length (λ k. get_or xs (i * max_depth + k) (pos 0)) n h

-- the row of dependence k, which the array has behind the rows before it
module _ (xs row rest : List ℤ) (k : ℕ) (here : drop (k * max_depth) xs ≡ row ++ rest) (four : length row ≡ max_depth) where
  -- it stands in the array
  room : k * max_depth + max_depth ≤ length xs
  room = omega (arith, ap length here, length-drop (k * max_depth) xs, length-append row rest)

  -- the rows behind it
  behind_row : rest ≡ drop ((k + 1) * max_depth) xs
  behind_row =
      let e : (k + 1) * max_depth ≡ k * max_depth + max_depth = omega arith in
      sym (ap (λ (j : ℕ). drop j xs) e ∙ (sym (drop-drop max_depth (k * max_depth) xs) ∙ (ap (drop max_depth) here ∙ drop_at row rest max_depth four)))

  -- its components
  row_taken : (n : ℕ) → n ≤ max_depth → take n row ≡ dependence_at xs n k
  row_taken n h =
      sym (part-taken xs (k * max_depth) n (omega (arith, room)) ∙ (ap (take n) here ∙ take-append-le n row rest (omega arith)))

pub loop-row-init : goal.loop-row-init
unfolding tab flat_map
loop-row-init c = record {
  left = search rules;
  rest = search rules;
  size = search rules;
  place = omega arith;
  stored = stored-none c.args.out.now c.args.at;
}

pub loop-row-preserved : goal.loop-row-preserved
loop-row-preserved c =
    let l = c.loop-row in
    let i = l.invariant in
    let xs = c.args.dependences.now in
    let k = length l.yielded in
    let row = c.in-Some.row.now in
    let rest = chunks_exact_rest (take_source c.next.new.self) in
    let e = c.in-Some.ensures.steps in
    let n = length_push l.yielded c.in-Some.row in
    let here : drop (k * max_depth) xs ≡ row ++ rest = sym i.rest ∙ e.0.1.0 in
    let four : length row ≡ max_depth = e.0.1.1 ∙ i.size in
    let q = stored_as (ap line (row_taken xs row rest k here four c.args.n c.requires.1.0)) c.put_line-end.ensures in
    record {
      left = omega (arith, n, e.1);
      rest = rw n (behind_row xs row rest k here four);
      size = e.0.0 ∙ i.size;
      place = rw n (omega (arith, q.ends, i.place, next_line (line_length c.args.n) k, row-length xs c.args.n k (c.requires.1.1.1 k (omega (arith, e.1)))));
      stored = rw n (lines_more (dependence_at xs c.args.n) k i.stored q);
    }
