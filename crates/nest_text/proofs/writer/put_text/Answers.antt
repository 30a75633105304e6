-- `put_text` writes the text of an accepted nest: after each call the lines so far stand in the
-- buffer.
use borrow.Author.Rules.{rules}
use mathlib.Core.Path.{◌≡◌, sym, ap, ap₂, subst, ◌∙◌}
use mathlib.Core.List.{List, [], ◌∷◌, ◌++◌, flat_map}
use Prim.Native.Nat.{ℕ, ◌+◌, ◌*◌, ◌-◌, ◌≤◌, ◌<◌}
use native.Mathlib.Nat.{mul-suc, zero-add}
use native.Mathlib.Numerals.{add-one}
use native.Mathlib.Omega.{arith}
use lib.IntN.{ℤ, pos}
use lib.ListN.{length, take, length-append}
use lib.Seq.{get_or-take, length-take-le}
use mir.Syntax.{w64}
use mir.Val.{to_z, of_z}
use Rattle.integers.specs.Lists.{tab}
use Rattle.integers.proofs.Lists.{tab-same}
use Rattle.nest.specs.declared.LoopNest.{LoopNest}
use Rattle.nest.specs.Nest.{part, depth_of, count_of, time_of, dependence_at, dependences_of, boundaries_of, weights_of}
use Rattle.nest.specs.Nest.{max_depth, max_dependences}
use Rattle.nest_text.specs.Fields.{Bytes}
use Rattle.nest_text.specs.Text.{line, line_length, header_width, limit_width, last_of, text_of}
use Rattle.nest_text.specs.Reader.{value_count}
use Rattle.nest_text.specs.Stored.{Stored, EachInColumns}
use Rattle.nest_text.proofs.EqualValues.{last-part, values-few}
use Rattle.nest_text.proofs.WriteLaws.{stored_more, stored_as, stored-length, part-taken, taken-columns, limits}
use Rattle.nest.proofs.Spans.{Spans, spans}
use Rattle.nest_text.proofs.TextLength.{shape_line, limit_line, limit_lines, text-parts, text-length}
use Rattle.nest_text.proofs.TextLength.{shape-length, limits-length, time_length, dependences_length}
use Rattle.nest_text.proofs.TextLength.{shape-columns, limits-columns, time-columns, dependence-columns}
use Rattle.nest_text.proofs.TextLength.{boundary-columns, weight-columns}
use Rattle.nest_text.proofs.writer.put_text.Goals as goal
use Rattle.nest_text.proofs.writer.put_text.Goals.{After-put_line-limits_at, After-put_limits-time_at}
use Rattle.nest_text.proofs.writer.put_text.Goals.{After-put_line-dependences_at, After-put_dependences-last_at}

-- the numbers of line 1, as the machine holds them
abbrev shape : LoopNest → List ℤ
shape s = to_z w64 (of_z w64 s.depth) ∷ to_z w64 (of_z w64 s.count) ∷ to_z w64 (of_z w64 s.cube) ∷ []

-- ---- the bytes of the first lines, up to the call's own
abbrev bytes_1 : LoopNest → Bytes
bytes_1 s = line (shape_line s)

abbrev bytes_2 : LoopNest → Bytes
bytes_2 s = bytes_1 s ++ flat_map line (limit_lines s)

abbrev bytes_3 : LoopNest → Bytes
bytes_3 s = bytes_2 s ++ line (time_of s)

abbrev bytes_4 : LoopNest → Bytes
bytes_4 s = bytes_3 s ++ flat_map line (dependences_of s)

-- ---- the buffer after each call
one : {old new : Bytes} {end : ℕ} (s : LoopNest) → shape s ≡ shape_line s → Stored old 0 (line (shape s)) new end → Stored old 0 (bytes_1 s) new end
one s e q = stored_as (ap line e) q

-- the lines of the limits, of which the first n are lent
limits_taken : (s : LoopNest) (n : ℕ) → n ≡ depth_of s → n ≤ length s.lower → n ≤ length s.upper
    → tab (limits (take n s.lower) (take n s.upper)) (length (take n s.lower)) ≡ limit_lines s
limits_taken s n d low high =
    ap (tab (limits (take n s.lower) (take n s.upper))) (length-take-le n s.lower low ∙ d)
    ∙ tab-same (limits (take n s.lower) (take n s.upper)) (limit_line s) (depth_of s)
    (λ k l. let b : k < n = omega arith in
    ap₂ (λ (a b : ℤ). a ∷ b ∷ []) (get_or-take n s.lower k (pos 0) b) (get_or-take n s.upper k (pos 0) b))

two : {old mid new : Bytes} {at end : ℕ} (s : LoopNest) (n : ℕ) → n ≡ depth_of s → n ≤ length s.lower → n ≤ length s.upper
    → Stored old 0 (bytes_1 s) mid at → Stored mid at (flat_map line (tab (limits (take n s.lower) (take n s.upper)) (length (take n s.lower)))) new end
    → Stored old 0 (bytes_2 s) new end
two s n d low high p q = stored_more p (stored_as (ap (flat_map line) (limits_taken s n d low high)) q)

-- the first n numbers of an array
taken : (xs : List ℤ) (n m : ℕ) → n ≡ m → n ≤ length xs → take n xs ≡ part xs 0 m
taken xs n m e h = sym (part-taken xs 0 n (omega arith)) ∙ ap (part xs 0) e

three : {old mid new : Bytes} {at end : ℕ} (s : LoopNest) (n : ℕ) → n ≡ depth_of s → n ≤ length s.time → Stored old 0 (bytes_2 s) mid at
    → Stored mid at (line (take n s.time)) new end → Stored old 0 (bytes_3 s) new end
unfolding time_of
three s n d h p q = stored_more p (stored_as (ap line (taken s.time n (depth_of s) d h)) q)

four : {old mid new : Bytes} {at end : ℕ} (s : LoopNest) (n m : ℕ) → n ≡ depth_of s → m ≡ count_of s → Stored old 0 (bytes_3 s) mid at
    → Stored mid at (flat_map line (tab (dependence_at s.dependences n) m)) new end → Stored old 0 (bytes_4 s) new end
unfolding dependences_of
four s n m d e p q = stored_more p (stored_as (ap₂ (λ n m. flat_map line (tab (dependence_at s.dependences n) m)) d e) q)

-- ---- the places where the parts end, and the room
abbrev end_1 : ℕ
end_1 = line_length header_width

abbrev end_2 : LoopNest → ℕ
end_2 s = end_1 + line_length limit_width * depth_of s

abbrev end_3 : LoopNest → ℕ
end_3 s = end_2 s + line_length (depth_of s)

abbrev end_4 : LoopNest → ℕ
end_4 s = end_3 s + line_length (depth_of s) * count_of s

one_end : {old new : Bytes} {end : ℕ} (s : LoopNest) → Spans s → Stored old 0 (bytes_1 s) new end → end ≡ end_1
one_end s h q = omega (arith, q.ends, shape-length s h)

two_end : {old new : Bytes} {end : ℕ} (s : LoopNest) → Spans s → Stored old 0 (bytes_2 s) new end → end ≡ end_2 s
two_end s h q = omega (arith, q.ends, length-append (bytes_1 s) (flat_map line (limit_lines s)), shape-length s h, limits-length s h)

three_end : {old new : Bytes} {end : ℕ} (s : LoopNest) → Spans s → Stored old 0 (bytes_3 s) new end → end ≡ end_3 s
three_end s h q =
    omega (
      arith,
      q.ends,
      length-append (bytes_2 s) (line (time_of s)),
      length-append (bytes_1 s) (flat_map line (limit_lines s)),
      shape-length s h,
      limits-length s h,
      time_length s h,
    )

four_end : {old new : Bytes} {end : ℕ} (s : LoopNest) → Spans s → Stored old 0 (bytes_4 s) new end → end ≡ end_4 s
four_end s h q =
    omega (
      arith,
      q.ends,
      length-append (bytes_3 s) (flat_map line (dependences_of s)),
      length-append (bytes_2 s) (line (time_of s)),
      length-append (bytes_1 s) (flat_map line (limit_lines s)),
      shape-length s h,
      limits-length s h,
      time_length s h,
      dependences_length s h,
    )

-- the buffer has room for all of them
room : (s : LoopNest) (long : ℕ) → Spans s → length (text_of s) ≤ long
    → end_4 s + line_length (value_count (boundaries_of s) + count_of s) ≤ long
room s long h l =
    let w : line_length (depth_of s) * (count_of s + 1) ≡ line_length (depth_of s) * count_of s + line_length (depth_of s) = ap (λ k. line_length (depth_of s) * k) (add-one (count_of s)) ∙ mul-suc (line_length (depth_of s)) (count_of s) in
    omega (arith, l, text-length s h, w)

-- ---- what is known of the nest
record Known (s : LoopNest) (n m values : ℕ) : Type 0 where
  spans_are : Spans s
  depth_is : n ≡ depth_of s
  count_is : m ≡ count_of s
  values_are : values ≡ value_count (boundaries_of s)
  -- as the machine holds the numbers of line 1
  shape_told : shape s ≡ shape_line s
  -- the arrays have as many places as are written
  lower_long : n ≤ length s.lower
  upper_long : n ≤ length s.upper
  time_long : n ≤ length s.time
  boundaries_long : values ≤ length s.boundaries
  weights_long : m ≤ length s.weights

known : (c : After-put_line-limits_at) → let l = c.args.layout in Known c.args.s.now.nest l.loops l.dependences (l.last - l.dependences)
known c =
    let s = c.args.s.now.nest in
    let h = spans s c.args.s.now.accepted in
    let d = c.requires.0 in
    let e = c.requires.1 in
    let l = c.args.layout in
    let v : l.last - l.dependences ≡ value_count (boundaries_of s) = omega (arith, c.requires.2, e) in
    let few = (values-few s h.count_some).1 in
    let lower : length s.lower ≡ max_depth = search rules in
    let upper : length s.upper ≡ max_depth = search rules in
    let time : length s.time ≡ max_depth = search rules in
    let boundaries : length s.boundaries ≡ max_dependences = search rules in
    let weights : length s.weights ≡ max_dependences = search rules in
    record {
      spans_are = h;
      depth_is = d;
      count_is = e;
      values_are = v;
      shape_told = search rules;
      lower_long = omega (arith, d, h.depth_few);
      upper_long = omega (arith, d, h.depth_few);
      time_long = omega (arith, d, h.depth_few);
      boundaries_long = omega (arith, v, few, h.count_few);
      weights_long = omega (arith, e, h.count_few);
    }

-- ---- what stands in the buffer after each call
first : (c : After-put_line-limits_at) → Stored c.args.out.now 0 (bytes_1 c.args.s.now.nest) c.put_line-limits_at.new.out c.put_line-limits_at.result
first c = one c.args.s.now.nest (known c).shape_told c.put_line-limits_at.ensures

second : (c : After-put_limits-time_at) → Stored c.args.out.now 0 (bytes_2 c.args.s.now.nest) c.put_limits-time_at.new.out c.put_limits-time_at.result
second c =
    let h = (goal.at.After-put_limits-time_at c).After-put_line-limits_at in
    let k = known h in
    two c.args.s.now.nest c.args.layout.loops k.depth_is k.lower_long k.upper_long (first h) c.put_limits-time_at.ensures

third : (c : After-put_line-dependences_at) → Stored c.args.out.now 0 (bytes_3 c.args.s.now.nest) c.put_line-dependences_at.new.out c.put_line-dependences_at.result
third c =
    let p = goal.at.After-put_line-dependences_at c in
    let k = known p.After-put_line-limits_at in
    three c.args.s.now.nest c.args.layout.loops k.depth_is k.time_long (second p.After-put_limits-time_at) c.put_line-dependences_at.ensures

fourth : (c : After-put_dependences-last_at) → Stored c.args.out.now 0 (bytes_4 c.args.s.now.nest) c.put_dependences-last_at.new.out c.put_dependences-last_at.result
fourth c =
    let p = goal.at.After-put_dependences-last_at c in
    let k = known p.After-put_line-limits_at in
    let l = c.args.layout in
    four c.args.s.now.nest l.loops l.dependences k.depth_is k.count_is (third p.After-put_line-dependences_at) c.put_dependences-last_at.ensures

-- ---- what each call asks for
pub put_line-limits_at-requires : goal.put_line-limits_at-requires
put_line-limits_at-requires c =
    let s = c.args.s.now.nest in
    let h = spans s c.args.s.now.accepted in
    let e : shape s ≡ shape_line s = search rules in
    (omega (arith, room s (length c.args.out.now) h c.requires.3), subst (λ l. EachInColumns l 0 header_width) (sym e) (shape-columns s h))

pub put_limits-time_at-requires : goal.put_limits-time_at-requires
put_limits-time_at-requires c =
    let s = c.args.s.now.nest in
    let n = c.args.layout.loops in
    let p = (goal.at.put_limits-time_at-requires c).After-put_line-limits_at in
    let k = known p in
    let h = k.spans_are in
    let q = first p in (
      omega (arith, room s (length c.args.out.now) h c.requires.3, one_end s h q, stored-length q, k.depth_is, length-take-le n s.lower k.lower_long),
      length-take-le n s.upper k.upper_long ∙ sym (length-take-le n s.lower k.lower_long),
      taken-columns s.lower n k.lower_long (λ i b. rw (zero-add i) (limits-columns s h i (omega (arith, k.depth_is))).0),
      taken-columns s.upper n k.upper_long (λ i b. rw (zero-add i) (limits-columns s h i (omega (arith, k.depth_is))).1),
    )

pub put_line-dependences_at-requires : goal.put_line-dependences_at-requires
put_line-dependences_at-requires c =
    let s = c.args.s.now.nest in
    let n = c.args.layout.loops in
    let p = goal.at.put_line-dependences_at-requires c in
    let k = known p.After-put_line-limits_at in
    let h = k.spans_are in
    let q = second p.After-put_limits-time_at in (
      omega (arith, room s (length c.args.out.now) h c.requires.3, two_end s h q, stored-length q, k.depth_is, length-take-le n s.time k.time_long),
      taken-columns s.time n k.time_long (λ i b. time-columns s h i (omega (arith, k.depth_is))),
    )

pub put_dependences-last_at-requires : goal.put_dependences-last_at-requires
put_dependences-last_at-requires c =
    let s = c.args.s.now.nest in
    let l = c.args.layout in
    let p = goal.at.put_dependences-last_at-requires c in
    let k = known p.After-put_line-limits_at in
    let h = k.spans_are in
    let q = third p.After-put_line-dependences_at in
    let w : line_length l.loops * l.dependences ≡ line_length (depth_of s) * count_of s = ap₂ (λ n m. line_length n * m) k.depth_is k.count_is in (
      omega (arith, room s (length c.args.out.now) h c.requires.3, three_end s h q, stored-length q, w),
      (
        omega (arith, k.depth_is, h.depth_few),
        (
          omega (arith, k.count_is, h.count_few),
          λ i b j d. dependence-columns s h i (omega (arith, k.count_is)) j (omega (arith, k.depth_is)),
        ),
      ),
    )

pub put_last-requires : goal.put_last-requires
put_last-requires c =
    let s = c.args.s.now.nest in
    let m = c.args.layout.dependences in
    let values = c.args.layout.last - m in
    let p = goal.at.put_last-requires c in
    let k = known p.After-put_line-limits_at in
    let h = k.spans_are in
    let q = fourth p.After-put_dependences-last_at in
    let few = (values-few s h.count_some).1 in
    let b = length-take-le values s.boundaries k.boundaries_long in
    let w = length-take-le m s.weights k.weights_long in (
      omega (arith, room s (length c.args.out.now) h c.requires.3, four_end s h q, stored-length q, k.count_is, k.values_are, b, w),
      taken-columns s.boundaries values k.boundaries_long (λ i l. boundary-columns s h i (omega (arith, k.values_are, few))),
      taken-columns s.weights m k.weights_long (λ i l. weight-columns s h i (omega (arith, k.count_is))),
    )

pub returns : goal.returns
unfolding weights_of
returns c =
    let s = c.args.s.now.nest in
    let m = c.args.layout.dependences in
    let values = c.args.layout.last - m in
    let p = goal.at.returns c in
    let k = known p.After-put_line-limits_at in
    let last = ap₂ (λ (x y : List ℤ). line (x ++ y)) (taken s.boundaries values (value_count (boundaries_of s)) k.values_are k.boundaries_long)
    (taken s.weights m (count_of s) k.count_is k.weights_long)
    ∙ ap line (sym (last-part s k.spans_are.count_some)) in
    let all = stored_as (text-parts s (last_of s)) (stored_more (fourth p.After-put_dependences-last_at) (stored_as last c.put_last.ensures)) in
    record { bytes = all.bytes; ends = omega (arith, all.ends) }
