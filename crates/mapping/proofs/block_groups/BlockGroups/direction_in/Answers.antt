-- `direction_in` meets its contract. Assumes nothing.
use Rattle.std.proofs.Common.{◌≡◌, ℕ, sym, ap, ap₂, ◌∙◌, arith, ℤ, nat_abs, get_or, pos, length, to_z, w64, ◌+◌, ◌-◌, ◌<◌, ◌-ℤ◌, List, [], take, drop, refl, length-take, length-drop, get_or-take, get_or-drop}
use Rattle.integers.proofs.Bounds.{told}
use Rattle.integers.proofs.Machine.{reads}
use Rattle.integers.specs.Lists.{tab}
use Rattle.integers.specs.Vector.{Vector}
use Rattle.integers.proofs.Vector.{get_or-within}
use Rattle.integers.specs.Extremes.{least_z, greatest_z, lesser_z, larger_z}
use Rattle.integers.proofs.Extremes.{min_is, max_is, least-tab-one, least-tab-more, greatest-tab-one, greatest-tab-more}
use Rattle.nest.specs.Nest.{to_ℕ}
use Rattle.mapping.specs.Mapping.{Direction}
use Rattle.mapping.specs.GroupNumbers.{max_number, number_at, column, span_of}
use Rattle.mapping.proofs.Small.{small, above}
use Rattle.mapping.proofs.Widths.{in_order, height-most, width_is}
use Rattle.mapping.proofs.block_groups.BlockGroups.direction_in.Goals as goal
use Rattle.mapping.proofs.block_groups.BlockGroups.direction_in.Goals.{After-abs_diff, After-loop-row, In-loop-row}

-- the rows behind the first
left : (c : In-loop-row) → length (take (length c.args.self.now.rows.now - 1) (drop 1 c.args.self.now.rows.now)) ≡ length c.args.self.now.rows.now - 1
left c = simp (length-take, length-drop) (omega arith)

later : (rows : List Vector) (i : ℕ) → i < length rows - 1 → get_or (take (length rows - 1) (drop 1 rows)) i [] ≡ get_or rows (i + 1) []
later rows i h = get_or-take (length rows - 1) (drop 1 rows) i [] h ∙ get_or-drop 1 rows i [] ∙ ap (λ k. get_or rows k []) (omega arith)

-- all of them
all : (c : After-loop-row) → c.loop-row.row-index + 1 ≡ length c.args.self.now.rows.now
all c = let n : length (take (length c.args.self.now.rows.now - 1) (drop 1 c.args.self.now.rows.now)) ≡ length c.args.self.now.rows.now - 1 = simp (length-take, length-drop) (omega arith) in omega (arith, n, c.loop-row-test.false, c.loop-row.auto.row-index-end, c.args.self.now.some)

pub loop-row-init : goal.loop-row-init
loop-row-init c =
    let a = c.args in
    let first = small (number_at a.self.now.rows.now a.j 0) (get_or-within max_number (get_or a.self.now.rows.now 0 []) a.j (c.args.self.now.span.sized 0 (omega (arith, c.args.self.now.some)))) in
    record { least_so_far = first ∙ sym (least-tab-one (number_at a.self.now.rows.now a.j)); greatest_so_far = first ∙ sym (greatest-tab-one (number_at a.self.now.rows.now a.j)) }

pub loop-row-preserved : goal.loop-row-preserved
loop-row-preserved c =
    let l = c.loop-row in
    let a = c.args in
    let f = number_at a.self.now.rows.now a.j in
    let n = left (goal.at.loop-row-preserved c).In-loop-row in
    let value = ap (λ (v : Vector). reads (get_or v a.j (pos 0))) (later a.self.now.rows.now l.row-index (omega (arith, n, c.loop-row-test.true))) ∙ small (f (l.row-index + 1)) (get_or-within max_number (get_or a.self.now.rows.now (l.row-index + 1) []) a.j (c.args.self.now.span.sized (l.row-index + 1) (omega (arith, n, c.loop-row-test.true)))) in record {
      least_so_far = told c.min-least.result c.min-least.type_inv ∙ c.min-least.ensures.value ∙ min_is _ _ ∙ ap₂ lesser_z l.invariant.least_so_far value ∙ sym (least-tab-more f (l.row-index + 1) (omega arith));
      greatest_so_far = told c.max-greatest.result c.max-greatest.type_inv ∙ c.max-greatest.ensures.value ∙ max_is _ _ ∙ ap₂ larger_z l.invariant.greatest_so_far value ∙ sym (greatest-tab-more f (l.row-index + 1) (omega arith));
    }

-- behind the loop they are those of the whole column
least-is : (c : After-loop-row) → to_z w64 c.loop-row.least-bits ≡ least_z (column c.args.self.now.rows.now c.args.j (length c.args.self.now.rows.now))
unfolding column
least-is c = c.loop-row.invariant.least_so_far ∙ ap (λ k. least_z (tab (number_at c.args.self.now.rows.now c.args.j) k)) (all c)

greatest-is : (c : After-loop-row) → to_z w64 c.loop-row.greatest-bits ≡ greatest_z (column c.args.self.now.rows.now c.args.j (length c.args.self.now.rows.now))
unfolding column
greatest-is c = c.loop-row.invariant.greatest_so_far ∙ ap (λ k. greatest_z (tab (number_at c.args.self.now.rows.now c.args.j) k)) (all c)

-- how far they are apart
height-is : (c : After-abs_diff) → c.abs_diff.result ≡ to_ℕ (greatest_z (column c.args.self.now.rows.now c.args.j (length c.args.self.now.rows.now)) -ℤ least_z (column c.args.self.now.rows.now c.args.j (length c.args.self.now.rows.now)))
height-is c =
    let s = c.args.self.now in
    let n = length s.rows.now in
    let p = (goal.at.After-abs_diff c).After-loop-row in
    c.abs_diff.ensures ∙ ap₂ (λ (u l : ℤ). nat_abs (u -ℤ l)) (greatest-is p) (least-is p)
    ∙ above (greatest_z (column s.rows.now c.args.j n)) (least_z (column s.rows.now c.args.j n)) (in_order s.rows.now n s.span s.some c.args.j)

pub overflow_add-result : goal.overflow_add-result
overflow_add-result c =
    let s = c.args.self.now in
    omega (arith, height-most s.rows.now (length s.rows.now) s.span s.some c.args.j c.requires, height-is (goal.at.overflow_add-result c).After-abs_diff)

pub returns : goal.returns
returns c =
    let s = c.args.self.now in
    ap₂ (λ (l : ℤ) (u : ℕ). let d : Direction = record { least = l; width = u; bits = 0 } in d) (least-is (goal.at.returns c).After-loop-row)
    (ap (λ x. x + 1) (height-is (goal.at.returns c).After-abs_diff) ∙ width_is s.rows.now (length s.rows.now) s.span s.some c.args.j) ∙ (unfold span_of in refl)
