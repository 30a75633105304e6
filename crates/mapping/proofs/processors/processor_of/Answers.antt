-- `processor_of` meets its contract. Assumes nothing.
use Rattle.std.proofs.Common.{◌≡◌, sym, ap, ap₂, subst, subst₂, ◌∙◌, ℤ, arith, ℕ, ◌+◌, ◌*◌, ◌%◌, ◌^◌, ◌<◌, length, get_or, pos}
use Rattle.std.proofs.lemmas.List.{length-map}
use Rattle.nest.specs.Nest.{max_depth, max_cube}
use Rattle.mapping.specs.Mapping.{Direction, direction_at, gray, part_of}
use Rattle.mapping.specs.GroupNumbers.{column_of}
use Rattle.mapping.specs.Held.{direction_of, held, HoldsValue}
use Rattle.integers.proofs.Machine.{reads}
use Rattle.mapping.proofs.Arrays.{none, held-at}
use Rattle.mapping.proofs.Deals.{turn_below}
use Rattle.mapping.proofs.Small.{small, shifted}
use Rattle.mapping.proofs.Widths.{holds_at, code_at, Joining, joining_more, joining_small, joining_end}
use Rattle.mapping.proofs.processors.processor_of.Goals as goal
use Rattle.mapping.proofs.processors.processor_of.Goals.{Start, After-column_of, After-code_of, In-loop-j}

-- there are as many directions as a nest has loops at most
long : (d : Start) → length (held d.args.directions.now) ≡ max_depth
long d = length-map d.args.directions.now direction_of ∙ d.told-directions

-- direction j, and the value that it holds
here : (c : In-loop-j) → direction_at (held c.args.directions.now) c.loop-j.j ≡ direction_of (get_or c.args.directions.now c.loop-j.j none)
here c = held-at c.args.directions.now c.loop-j.j (omega (arith, c.told-directions, c.loop-j-test.true))

holds : (c : In-loop-j) → HoldsValue (direction_at (held c.args.directions.now) c.loop-j.j) (get_or c.args.row.now (column_of c.loop-j.j) (pos 0))
holds c = holds_at (held c.args.directions.now) c.args.row.now (long (goal.at.In-loop-j c).Start) c.requires c.loop-j.j c.loop-j-test.true

-- one more code is joined, and all are small
next : (c : In-loop-j) → Joining (held c.args.directions.now) c.args.row.now (long (goal.at.In-loop-j c).Start) c.requires (c.loop-j.p * 2 ^ (direction_at (held c.args.directions.now) c.loop-j.j).bits + code_at (held c.args.directions.now) c.args.row.now (long (goal.at.In-loop-j c).Start) c.requires c.loop-j.j) (c.loop-j.j + 1)
next c = joining_more (held c.args.directions.now) c.args.row.now (long (goal.at.In-loop-j c).Start) c.requires c.loop-j.p c.loop-j.j c.loop-j-test.true c.loop-j.invariant

next_small : (c : In-loop-j) → c.loop-j.p * 2 ^ (direction_at (held c.args.directions.now) c.loop-j.j).bits + code_at (held c.args.directions.now) c.args.row.now (long (goal.at.In-loop-j c).Start) c.requires c.loop-j.j < 2 ^ max_cube
next_small c = joining_small (held c.args.directions.now) c.args.row.now (long (goal.at.In-loop-j c).Start) c.requires _ (c.loop-j.j + 1) (next c)

-- the bits and the code, as the machine has them
bits : (c : In-loop-j) → (direction_at (held c.args.directions.now) c.loop-j.j).bits ≡ (get_or c.args.directions.now c.loop-j.j none).bits
bits c = ap (λ (d : Direction). d.bits) (here c)

value : (c : After-column_of) → get_or c.args.row.now c.column_of.result (pos 0) ≡ get_or c.args.row.now (column_of c.loop-j.j) (pos 0)
value c = ap (λ i. get_or c.args.row.now i (pos 0)) c.column_of.ensures

-- the shift loses nothing
joined_bits : (c : In-loop-j) → c.loop-j.p * 2 ^ (get_or c.args.directions.now c.loop-j.j none).bits % 2 ^ 64 ≡ c.loop-j.p * 2 ^ (direction_at (held c.args.directions.now) c.loop-j.j).bits
joined_bits c =
    let b = bits c in
    let p = joining_small (held c.args.directions.now) c.args.row.now (long (goal.at.In-loop-j c).Start) c.requires c.loop-j.p c.loop-j.j c.loop-j.invariant in
    shifted c.loop-j.p (get_or c.args.directions.now c.loop-j.j none).bits (omega (arith, p)) (omega (arith, b, (holds c).few_bits)) ∙ ap (λ e. c.loop-j.p * 2 ^ e) (sym b)

made : (c : After-code_of) → c.loop-j.p * 2 ^ (get_or c.args.directions.now c.loop-j.j none).bits % 2 ^ 64 + c.code_of.result ≡ c.loop-j.p * 2 ^ (direction_at (held c.args.directions.now) c.loop-j.j).bits + code_at (held c.args.directions.now) c.args.row.now (long (goal.at.After-code_of c).Start) c.requires c.loop-j.j
made c =
    let d = (goal.at.After-code_of c).In-loop-j in
    let v = value (goal.at.After-code_of c).After-column_of in
    ap₂ (λ x y. x + y) (joined_bits d)
    (c.code_of.ensures ∙ ap₂ (λ (e : Direction) (x : ℤ). gray (part_of e x)) (sym (here d)) (ap reads v ∙ small (get_or c.args.row.now (column_of c.loop-j.j) (pos 0)) (holds d).value_small))

pub overflow_shl-p : goal.overflow_shl-p
overflow_shl-p c = let d = (goal.at.overflow_shl-p c).In-loop-j in omega (arith, bits d, (holds d).few_bits)

pub offset_bounds-row-column_of : goal.offset_bounds-row-column_of
offset_bounds-row-column_of c = unfold column_of in omega (arith, turn_below max_depth c.loop-j.j c.loop-j-test.true, c.column_of.ensures)

pub bounds-row-column_of : goal.bounds-row-column_of
bounds-row-column_of c = unfold column_of in omega (arith, turn_below max_depth c.loop-j.j c.loop-j-test.true, c.column_of.ensures)

pub code_of-requires : goal.code_of-requires
code_of-requires c =
    let d = (goal.at.code_of-requires c).In-loop-j in
    let v = ap reads (value (goal.at.code_of-requires c).After-column_of) ∙ small (get_or c.args.row.now (column_of c.loop-j.j) (pos 0)) (holds d).value_small in
    subst₂ HoldsValue (here d) (sym v) (holds d)

pub overflow_add-p : goal.overflow_add-p
overflow_add-p c = let e = made c in omega (arith, e, next_small (goal.at.overflow_add-p c).In-loop-j)

pub loop-j-preserved : goal.loop-j-preserved
loop-j-preserved c =
    let d = (goal.at.loop-j-preserved c).In-loop-j in
    subst (λ (p : ℕ). Joining (held c.args.directions.now) c.args.row.now (long (goal.at.loop-j-preserved c).Start) c.requires p (c.loop-j.j + 1)) (sym (made c)) (next d)

pub overflow_cast-result : goal.overflow_cast-result
overflow_cast-result c =
    let s = joining_small (held c.args.directions.now) c.args.row.now (long (goal.at.overflow_cast-result c).Start) c.requires c.loop-j.p c.loop-j.j c.loop-j.invariant in
    omega (arith, s)

pub returns : goal.returns
returns c = joining_end (held c.args.directions.now) c.args.row.now (long (goal.at.returns c).Start) c.requires c.loop-j.p c.loop-j.j c.loop-j-test.false c.loop-j.invariant
