-- `locate` meets its contract: one law of `SpanLaws` for each way out. Assumes nothing.
use mathlib.Core.Path.{◌≡◌, sym, ap, ap₂, ◌∙◌}
use mathlib.Core.Bool.{false}
use Prim.Native.Nat.{◌*◌, ◌/◌, ◌≤◌}
use native.Mathlib.Omega.{arith}
use lib.IntN.{ℤ, ◌-ℤ◌}
use lib.ListN.{length}
use Rattle.std.proofs.Common.{rules}
use Rattle.integers.proofs.Machine.{reads}
use Rattle.nest.specs.Nest.{to_ℕ}
use Rattle.nest.specs.Points.{extent, points_of}
use Rattle.nest.specs.Outcomes.{code, number_in}
use Rattle.nest.specs.Refusals.{refusal, outside, limit}
use Rattle.nest.proofs.Accepted.{depth_is, not_crossed}
use Rattle.nest.proofs.Outcomes.{code-above, refused-above}
use Rattle.nest.proofs.Entries.{one-room, short_number, enough}
use Rattle.nest.proofs.PointLaws.{few-points}
use Rattle.nest.proofs.Counted.{extent-distance}
use Rattle.nest.proofs.Conditions.{Uncrossed, uncrossed, in_span}
use Rattle.rows.specs.Rows.{Span, row_start, row_length}
use Rattle.rows.proofs.RowLaws.{start-at, length_at, width_is, row_fits}
use Rattle.rows.proofs.SpanLaws.{bad_nest, short_table, no_row, found_row, span_out}
use Rattle.rows.proofs.locate.Goals as goal
use Rattle.rows.proofs.locate.Goals.{After-branch-check_room, After-extent_of, After-distance-place, After-is_outside, Else-is_outside}

-- ---- what is known at each place
accepted : (c : After-branch-check_room) → refusal c.args.s ≡ 0
accepted c = sym c.in_ok-accepted.ensures.number

count : (c : After-branch-check_room) → c.in_ok-accepted.accepted.iterations ≡ length (points_of c.args.s)
count c = c.in_ok-accepted.accepted.counted ∙ ap (λ s. length (points_of s)) c.in_ok-accepted.ensures.same_nest

room : (c : After-is_outside) → length (points_of c.args.s) ≤ c.args.entries
room c =
    let n = c.in_ok-accepted.accepted.iterations in
    let e = enough n c.args.entries (sym (c.in_ok-check_room.ensures ∙ one-room n c.args.entries)) in
    omega (arith, e, count (goal.at.After-is_outside c).After-branch-check_room)

lowest : (c : After-is_outside) → reads (limit c.args.s 0).lower ≡ (limit c.args.s 0).lower
lowest c = search rules

highest : (c : After-is_outside) → reads (limit c.args.s 0).upper ≡ (limit c.args.s 0).upper
highest c = search rules

index : (c : After-is_outside) → reads c.args.index ≡ c.args.index
index c = search rules

same_test : {a b c x y z : ℤ} → a ≡ x → b ≡ y → c ≡ z → outside a b c ≡ outside x y z
same_test p q r = cc

test : (c : After-is_outside) → c.is_outside.result ≡ outside (limit c.args.s 0).lower (limit c.args.s 0).upper c.args.index
test c = c.is_outside.ensures ∙ same_test (lowest c) (highest c) (index c)

-- the limits of the outermost loop
limits : (c : After-is_outside) → Uncrossed (limit c.args.s 0).lower (limit c.args.s 0).upper
limits c =
    let s = c.args.s in
    let ok = accepted (goal.at.After-is_outside c).After-branch-check_room in
    uncrossed (limit s 0).lower (limit s 0).upper (not_crossed s ok 0 (depth_is s ok).0)

there : (c : Else-is_outside) → outside (limit c.args.s 0).lower (limit c.args.s 0).upper c.args.index ≡ false
there c = sym (test (goal.at.Else-is_outside c).After-is_outside) ∙ c.if-is_outside.false

-- how many outermost indices there are
many : (c : After-extent_of) → c.extent_of.result ≡ extent (limit c.args.s 0)
many c = c.extent_of.ensures ∙ ap₂ (λ (l u : ℤ). extent (record { lower = l; upper = u })) (lowest (goal.at.After-extent_of c).After-is_outside) (highest (goal.at.After-extent_of c).After-is_outside)

-- how far the row's index is
place : (c : After-distance-place) → c.distance-place.result ≡ to_ℕ (c.args.index -ℤ (limit c.args.s 0).lower)
place c = c.distance-place.ensures ∙ cc (index (goal.at.After-distance-place c).After-is_outside, lowest (goal.at.After-distance-place c).After-is_outside)

-- the row's length and start
row-length : (c : After-distance-place) → c.in_ok-accepted.accepted.iterations / c.extent_of.result ≡ row_length c.args.s c.args.index
row-length c =
    let a = c.args in
    let ok = accepted (goal.at.After-distance-place c).After-branch-check_room in
    let h = there (goal.at.After-distance-place c).Else-is_outside in
    ap (λ n. n / c.extent_of.result) (count (goal.at.After-distance-place c).After-branch-check_room) ∙ width_is a.s ok a.index h c.extent_of.result (many (goal.at.After-distance-place c).After-extent_of) ∙ sym (length_at a.s ok a.index h)

row-start : (c : After-distance-place) → c.distance-place.result * (c.in_ok-accepted.accepted.iterations / c.extent_of.result) ≡ row_start c.args.s c.args.index
row-start c =
    let a = c.args in
    ap₂ (λ m n. m * n) (place c) (row-length c ∙ length_at a.s (accepted (goal.at.After-distance-place c).After-branch-check_room) a.index (there (goal.at.After-distance-place c).Else-is_outside)) ∙ sym (start-at a.s (accepted (goal.at.After-distance-place c).After-branch-check_room) a.index (there (goal.at.After-distance-place c).Else-is_outside))

pub returns-then-is_outside : goal.returns-then-is_outside
returns-then-is_outside c =
    let a = c.args in
    sym (no_row a.s a.entries a.index (accepted (goal.at.returns-then-is_outside c).After-branch-check_room) (room (goal.at.returns-then-is_outside c).After-is_outside) (sym (test (goal.at.returns-then-is_outside c).After-is_outside) ∙ c.if-is_outside.true))

pub extent_of-requires : goal.extent_of-requires
extent_of-requires c =
    let p = (goal.at.extent_of-requires c).After-is_outside in
    let ok = accepted (goal.at.extent_of-requires c).After-branch-check_room in
    rw (lowest p, highest p) (not_crossed c.args.s ok 0 (depth_is c.args.s ok).0)

pub nonzero_div-length : goal.nonzero_div-length
nonzero_div-length c =
    let p = (goal.at.nonzero_div-length c).After-extent_of in
    omega (arith, many p, extent-distance (limit c.args.s 0).lower (limit c.args.s 0).upper (limits (goal.at.nonzero_div-length c).After-is_outside).order)

pub distance-place-requires : goal.distance-place-requires
distance-place-requires c =
    let a = c.args in
    let w = in_span (limit a.s 0).lower (limit a.s 0).upper a.index (there (goal.at.distance-place-requires c).Else-is_outside) in
    rw (lowest (goal.at.distance-place-requires c).After-is_outside, index (goal.at.distance-place-requires c).After-is_outside) w.0

pub overflow_mul-result : goal.overflow_mul-result
overflow_mul-result c =
    let a = c.args in
    rw (row-start c) (let f = row_fits a.s (accepted (goal.at.overflow_mul-result c).After-branch-check_room) a.index (there (goal.at.overflow_mul-result c).Else-is_outside) in omega (arith, few-points a.s (accepted (goal.at.overflow_mul-result c).After-branch-check_room)))

pub returns : goal.returns
returns c =
    let a = c.args in
    ap₂ (λ m n. let r : Span = record { refusal = 0; start = m; length = n } in r) (row-start c) (row-length c)
    ∙ sym (found_row a.s a.entries a.index (accepted (goal.at.returns c).After-branch-check_room) (room (goal.at.returns c).After-is_outside) (there (goal.at.returns c).Else-is_outside))

pub returns-in_err-accepted : goal.returns-in_err-accepted
returns-in_err-accepted c =
    let a = c.args in
    let e = c.in_err-accepted.ensures.number in
    span_out c.from_residual.result c.in_err-accepted.field-0.0 c.from_residual.ensures.1 ∙ ap (λ n. let r : Span = record { refusal = n; start = 0; length = 0 } in r) e
    ∙ sym (bad_nest a.s a.entries a.index (λ z. refused-above c.accept.result c.in_err-accepted.field-0.0 c.in_err-accepted.was (ap number_in c.in_err-accepted.was ∙ e ∙ z)))

pub returns-in_err-check_room : goal.returns-in_err-check_room
returns-in_err-check_room c =
    let a = c.args in
    let p = (goal.at.returns-in_err-check_room c).After-branch-check_room in
    let e = c.in_err-check_room.field-0.0 in
    let q = short_number c.in_ok-accepted.accepted.iterations a.entries (code e) (code-above e) (c.in_err-check_room.ensures ∙ one-room c.in_ok-accepted.accepted.iterations a.entries) in
    span_out c.from_residual-in_err-check_room.result e c.from_residual-in_err-check_room.ensures.1 ∙ ap (λ n. let r : Span = record { refusal = n; start = 0; length = 0 } in r) q.1
    ∙ sym (short_table a.s a.entries a.index (accepted p) (omega (arith, q.0, count p)))
