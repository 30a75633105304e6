-- `keys_from` meets its contract. Assumes nothing.
use Rattle.std.proofs.Common.{◌≡◌, refl, ◌-ℤ◌, ◌*ℤ◌, ◌∙◌, ap, ap₂, sym, subst, subst₂, arith, to_z, w64, length, ℕ, ◌+◌, ◌-◌, ◌^◌, ◌<◌, ◌≤◌, Bool, true, false, ◌==◌, ℤ, List, take, nat_abs, pos, ◌+ℤ◌, map, ◌++◌, drop, [], ◌∷◌, length-take, length-drop}
use borrow.Author.Tests.{eqb-true, eqb-false}
use native.Mathlib.Nat as NatL
use mir.Facts.{to_z-of_z}
use Rattle.integers.proofs.Machine.{reads}
use Rattle.integers.proofs.Linear.{ints, sum, dif, sizes}
use Rattle.sources.specs.Loops.{limit_of, loop_limits}
use Rattle.sources.specs.Keys.{base, key_from}
use Rattle.integers.specs.Lists.{any}
use Rattle.integers.proofs.Lists.{any-one}
use Rattle.nest.specs.Nest.{max_depth}
use Rattle.nest.specs.Refusals.{crossed}
use Rattle.sources.specs.declared.Limits.{Limits}
use Rattle.nest.specs.Points.{extent, points, point_count}
use Rattle.sources.proofs.Steps.{Loops, some_loops, first_held, NextPrefix, next_one, none_left}
use Rattle.sources.proofs.Walk.{outer_of, inner_of, only-loop, row_count, walk_none, WalkedTo, walk_turn, walk_out, walk_room}
use Rattle.sources.proofs.+keys_from.Goals as goal
use Rattle.sources.proofs.+keys_from.Goals.{Start, After-extent_of, At-loop-behind, In-loop-behind, Joined-inner-eq1, After-loop-behind, then-inner-eq1, else-inner-eq1}

-- what `is_empty` says
empty : (n : ℕ) (b : Bool) → b ≡ (n == 0) → b ≡ true → n ≡ 0
empty n b e t = eqb-true n 0 (sym e ∙ t)

filled : (n : ℕ) (b : Bool) → b ≡ (n == 0) → b ≡ false → 1 ≤ n
filled n b e t = let f = eqb-false n 0 (sym e ∙ t) in omega (arith, f)

module _ (t : ℕ) where
  loops : (d : Start t) → Loops d.args.loops.now d.args.prefix
  loops d = some_loops d.args.loops.now d.args.prefix d.requires.0 d.requires.1 d.requires.2 d.requires.3

  -- the first prefix, as the machine has it
  abbrev first : Start t → ℤ
  first d = first_held d.args.prefix (outer_of d.args.loops.now).lower

  count : (c : After-extent_of t) → c.extent_of.result ≡ extent (limit_of (outer_of c.args.loops.now))
  count c = let o = loops (goal.at.After-extent_of t c).Start in rw (o.fine.lower_read, o.fine.upper_read) at c.extent_of.ensures

  -- the one behind the last
  abbrev end : After-extent_of t → ℤ
  end c = reads (first (goal.at.After-extent_of t c).Start +ℤ to_z w64 c.extent_of.result)

  end_is : (c : After-extent_of t) → end c ≡ first (goal.at.After-extent_of t c).Start +ℤ pos (extent (limit_of (outer_of c.args.loops.now)))
  end_is c =
      let d = (goal.at.After-extent_of t c).Start in
      let o = loops d in
      ap (λ k. reads (first d +ℤ to_z w64 k)) (count c) ∙ o.last.is ∙ ap (λ (z : ℤ). z +ℤ pos (extent (limit_of (outer_of c.args.loops.now)))) (sym o.first.is)

  -- that of this turn
  abbrev behind : In-loop-behind t → ℤ
  behind i = to_z w64 i.loop-behind.behind-bits

  turn : (i : In-loop-behind t) → NextPrefix (first (goal.at.In-loop-behind t i).Start) (behind i) (end (goal.at.In-loop-behind t i).After-extent_of) (extent (limit_of (outer_of i.args.loops.now)))
  turn i =
      let d = (goal.at.In-loop-behind t i).Start in
      let p = (goal.at.In-loop-behind t i).After-extent_of in
      let o = loops d in
      next_one (first d) (behind i) (end p) (extent (limit_of (outer_of i.args.loops.now))) (rw o.first.is o.first.most) o.fine.few (end_is p) i.loop-behind.invariant.from i.loop-behind-test.true

  -- how many are before it
  abbrev passed : In-loop-behind t → ℕ
  passed i = nat_abs (behind i -ℤ first (goal.at.In-loop-behind t i).Start)

  -- it is the exact prefix
  exact : (i : In-loop-behind t) → behind i ≡ (i.args.prefix *ℤ pos base +ℤ (outer_of i.args.loops.now).lower) +ℤ pos (passed i)
  exact i = (turn i).is ∙ ap (λ (z : ℤ). z +ℤ pos (passed i)) (loops (goal.at.In-loop-behind t i).Start).first.is

  -- so far
  walked : (i : In-loop-behind t) → WalkedTo i.args.loops.now i.args.prefix (loops (goal.at.In-loop-behind t i).Start).split i.args.keys.now (first (goal.at.In-loop-behind t i).Start) (passed i) i.loop-behind.written i.loop-behind.keys
  walked i = (i.loop-behind.invariant.written_so_far, i.loop-behind.invariant.table)

  room : (i : In-loop-behind t) → i.loop-behind.written + point_count (loop_limits (inner_of i.args.loops.now)) ≤ length i.loop-behind.keys
  room i =
      let d = (goal.at.In-loop-behind t i).Start in
      walk_room i.args.loops.now i.args.prefix (loops d).split i.args.keys.now (first d) (passed i) i.loop-behind.written i.loop-behind.keys (walked i) (turn i).fewer i.requires.4

pub row_from-requires : goal.row_from-requires
row_from-requires t c =
    let d = (goal.at.row_from-requires t c).Start in
    let o = loops t d in
    let n : length (inner_of c.args.loops.now) ≡ 0 = empty _ _ c.is_empty.ensures c.if-is_empty.true in
    let e : max_depth - length c.args.loops.now ≡ max_depth - 1 = omega (arith, o.split.fewer, n) in
    let h : nat_abs c.args.prefix + nat_abs c.args.prefix < base ^ (max_depth - 1) = subst (λ k. nat_abs c.args.prefix + nat_abs c.args.prefix < base ^ k) e c.requires.2 in
    (rw (to_z-of_z c.ranges.prefix) h, o.split.fine, omega (arith, c.requires.4, row_count (limit_of (outer_of c.args.loops.now)), ap point_count (only-loop c.args.loops.now (omega (arith, o.split.fewer, n)))))

pub returns-then-is_empty-clause-value : goal.returns-then-is_empty-clause-value
returns-then-is_empty-clause-value t c =
    let o = loops t (goal.at.returns-then-is_empty-clause-value t c).Start in
    let n = empty _ _ c.is_empty.ensures c.if-is_empty.true in
    c.row_from.ensures.value ∙ sym (ap point_count (only-loop c.args.loops.now (omega (arith, o.split.fewer, n))) ∙ row_count (limit_of (outer_of c.args.loops.now)))

pub returns-then-is_empty-clause-keys_after : goal.returns-then-is_empty-clause-keys_after
returns-then-is_empty-clause-keys_after t c =
    let o = loops t (goal.at.returns-then-is_empty-clause-keys_after t c).Start in
    let n = empty _ _ c.is_empty.ensures c.if-is_empty.true in
    let l = only-loop c.args.loops.now (omega (arith, o.split.fewer, n)) in
    c.row_from.ensures.keys_after
    ∙ ap₂ (λ (z : ℤ) (i : ℕ). map (key_from z) (points (limit_of (outer_of c.args.loops.now) ∷ [])) ++ drop i c.args.keys.now) (to_z-of_z c.ranges.prefix) (sym (row_count (limit_of (outer_of c.args.loops.now))))
    ∙ ap (λ ls. map (key_from c.args.prefix) (points ls) ++ drop (point_count ls) c.args.keys.now) (sym l)

pub overflow_mul-first : goal.overflow_mul-first
overflow_mul-first t c = (loops t (goal.at.overflow_mul-first t c).Start).first.product

pub overflow_add-first : goal.overflow_add-first
overflow_add-first t c = (loops t (goal.at.overflow_add-first t c).Start).first.sum

pub extent_of-requires : goal.extent_of-requires
extent_of-requires t c = let o = loops t (goal.at.extent_of-requires t c).Start in rw (o.fine.lower_read, o.fine.upper_read) o.split.fine

pub overflow_cast-end : goal.overflow_cast-end
overflow_cast-end t c = omega (arith, count t (goal.at.overflow_cast-end t c).After-extent_of, (loops t (goal.at.overflow_cast-end t c).Start).fine.few)

pub overflow_add-end : goal.overflow_add-end
overflow_add-end t c = let p = (goal.at.overflow_add-end t c).After-extent_of in rw (count t p) (loops t (goal.at.overflow_add-end t c).Start).last.sum

pub loop-behind-init : goal.loop-behind-init
loop-behind-init t c =
    let d = (goal.at.loop-behind-init t c).Start in
    let p = (goal.at.loop-behind-init t c).After-extent_of in
    let f = first t d in
    let z : nat_abs (f -ℤ f) ≡ 0 = omega (ints, dif f f, sizes (f -ℤ f)) in
    record {
      from = omega ints;
      to = omega (ints, end_is t p, sum f (pos (extent (limit_of (outer_of c.args.loops.now)))));
      written_so_far = rw z (sym (NatL.zero-mul (point_count (loop_limits (inner_of c.args.loops.now)))));
      table = rw z (walk_none c.args.keys.now (loop_limits (inner_of c.args.loops.now)) (λ i. f +ℤ pos i));
    }

pub offset_bounds-keys-written : goal.offset_bounds-keys-written
offset_bounds-keys-written t c = omega (arith, room t (goal.at.offset_bounds-keys-written t c).In-loop-behind)

pub slice_bounds-rest-count : goal.slice_bounds-rest-count
slice_bounds-rest-count t c = omega (arith, room t (goal.at.slice_bounds-rest-count t c).In-loop-behind)

pub slice_bounds-rest-start : goal.slice_bounds-rest-start
slice_bounds-rest-start t c = omega (arith, room t (goal.at.slice_bounds-rest-start t c).In-loop-behind)

pub row_from-requires-then-inner-eq1 : goal.row_from-requires-then-inner-eq1
row_from-requires-then-inner-eq1 t c =
    let i = (goal.at.row_from-requires-then-inner-eq1 t c).In-loop-behind in
    let o = loops t (goal.at.row_from-requires-then-inner-eq1 t c).Start in
    let ls = c.args.loops.now in
    let e = only-loop (inner_of ls) c.if-inner-eq1.true in
    let k : max_depth - length (inner_of ls) ≡ max_depth - 1 = ap (λ n. max_depth - n) c.if-inner-eq1.true in
    let x = o.next_size (passed t i) (turn t i).fewer in (
      subst (λ (z : ℤ). nat_abs z + nat_abs z < base ^ (max_depth - 1)) (sym (exact t i)) (rw k at x),
      sym (any-one crossed (limit_of (outer_of (inner_of ls)))) ∙ ap (any crossed) (sym e) ∙ o.split.inner_fine,
      simp (length-take, length-drop) (omega (arith, room t i, ap point_count e, row_count (limit_of (outer_of (inner_of ls))))),
    )

pub keys_from-requires : goal.keys_from-requires
keys_from-requires t c =
    let i = (goal.at.keys_from-requires t c).In-loop-behind in
    let o = loops t (goal.at.keys_from-requires t c).Start in
    let ls = c.args.loops.now in (
      omega (arith, c.decreases, o.split.fewer),
      (
        filled _ _ c.is_empty.ensures c.if-is_empty.false,
        omega (arith, c.requires.1, o.split.fewer),
        subst (λ (z : ℤ). nat_abs z + nat_abs z < base ^ (max_depth - length (inner_of ls))) (sym (exact t i)) (o.next_size (passed t i) (turn t i).fewer),
        o.split.inner_fine,
        simp (length-take, length-drop) (omega (arith, room t i)),
      ),
    )

module _ (t : ℕ) where
  -- behind either call
  turned : (c : Joined-inner-eq1 t) → (c.if-inner-eq1.written ≡ point_count (loop_limits (inner_of c.args.loops.now)))
      × WalkedTo c.args.loops.now c.args.prefix (loops t (goal.at.Joined-inner-eq1 t c).Start).split c.args.keys.now (first t (goal.at.Joined-inner-eq1 t c).Start) (passed t (goal.at.Joined-inner-eq1 t c).In-loop-behind + 1) (c.loop-behind.written + c.if-inner-eq1.written) c.if-inner-eq1.keys
  turned c =
      let i = (goal.at.Joined-inner-eq1 t c).In-loop-behind in
      let d = (goal.at.Joined-inner-eq1 t c).Start in
      let S = (loops t d).split in
      let ls = c.args.loops.now in
      let f = first t d in
      let b = behind t i in
      let q = passed t i in
      let rest = take (length c.loop-behind.keys - c.loop-behind.written) (drop c.loop-behind.written c.loop-behind.keys) in
      let n = (turn t i).is in
      let Out : ℕ → List ℤ → Type 0 = λ r cur. (r ≡ point_count (loop_limits (inner_of ls))) × WalkedTo ls c.args.prefix S c.args.keys.now f (q + 1) (c.loop-behind.written + r) cur in
      elim c.if-inner-eq1.branch [
        | then-inner-eq1 w ↦
            let e = only-loop (inner_of ls) w.if-inner-eq1.true in
            let x = w.row_from-then-inner-eq1 in
            let r = x.ensures.value ∙ sym (ap point_count e ∙ row_count (limit_of (outer_of (inner_of ls)))) in
            let k = x.ensures.keys_after ∙ ap (λ j. map (key_from b) (points (limit_of (outer_of (inner_of ls)) ∷ [])) ++ drop j rest) (sym (row_count (limit_of (outer_of (inner_of ls)))))
            ∙ ap (λ ms. map (key_from b) (points ms) ++ drop (point_count ms) rest) (sym e) in
            subst₂ Out (sym w.written-is) (sym w.keys-is) (r, walk_turn ls c.args.prefix S c.args.keys.now f b q c.loop-behind.written x.result c.loop-behind.keys x.new.keys (walked t i) n r k)
        | else-inner-eq1 w ↦
            let x = w.keys_from in
            subst₂ Out (sym w.written-is) (sym w.keys-is) (x.ensures.value, walk_turn ls c.args.prefix S c.args.keys.now f b q c.loop-behind.written x.result c.loop-behind.keys x.new.keys (walked t i) n x.ensures.value x.ensures.keys_after)
      ]

pub overflow_add-written : goal.overflow_add-written
overflow_add-written t c = omega (arith, room t (goal.at.overflow_add-written t c).In-loop-behind, (turned t (goal.at.overflow_add-written t c).Joined-inner-eq1).0)

pub loop-behind-preserved : goal.loop-behind-preserved
loop-behind-preserved t c =
    let n = turn t (goal.at.loop-behind-preserved t c).In-loop-behind in
    let w = (turned t (goal.at.loop-behind-preserved t c).Joined-inner-eq1).1 in
    record { from = n.from; to = n.to; written_so_far = rw n.more w.0; table = rw n.more w.1 }

module _ (t : ℕ) where
  done : (c : After-loop-behind t) → (c.loop-behind.written ≡ point_count (loop_limits c.args.loops.now)) × (c.loop-behind.keys ≡ map (key_from c.args.prefix) (points (loop_limits c.args.loops.now)) ++ drop (point_count (loop_limits c.args.loops.now)) c.args.keys.now)
  done c =
      let d = (goal.at.After-loop-behind t c).Start in
      let p = (goal.at.After-loop-behind t c).After-extent_of in
      let o = loops t d in
      let v = c.loop-behind.invariant in
      let b = to_z w64 c.loop-behind.behind-bits in
      let n = extent (limit_of (outer_of c.args.loops.now)) in
      let q = none_left (first t d) b (end t p) n (rw o.first.is o.first.most) o.fine.few (end_is t p) v.from v.to c.loop-behind-test.false in
      walk_out c.args.loops.now c.args.prefix o.split c.args.keys.now (first t d) n (nat_abs (b -ℤ first t d)) c.loop-behind.written c.loop-behind.keys (v.written_so_far, v.table) o.first.is refl (omega (arith, q)) (omega (arith, q))

pub returns-clause-value : goal.returns-clause-value
returns-clause-value t c = (done t c).0

pub returns-clause-keys_after : goal.returns-clause-keys_after
returns-clause-keys_after t c = (done t c).1
