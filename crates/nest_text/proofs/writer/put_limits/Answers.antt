-- `put_limits` meets its contract. Assumes nothing.
use Rattle.std.proofs.Common.{rules, ℕ, ◌<◌, List, ℤ, ◌≡◌, ◌∙◌, pos, length, get_or, arith, zero-add, to_z, of_z, w64}
use Rattle.std.proofs.lemmas.List.{length_push}
use mathlib.Core.List.{flat_map}
use Rattle.integers.specs.Lists.{tab}
use Rattle.std.proofs.lemmas.Slice.Zip.{zip_turn}
use Rattle.nest_text.specs.Stored.{InColumns}
use Rattle.nest_text.proofs.WriteLaws.{stored-none, stored_as, lines_more, limits, pair_fits, pair_line, pair-length}
use Rattle.nest_text.proofs.writer.put_limits.Goals as goal
use Rattle.nest_text.proofs.writer.put_limits.Goals.{In-Some}

pub loop-low-init : goal.loop-low-init
unfolding tab flat_map
loop-low-init c = record { place = omega arith; stored = stored-none c.args.out.now c.args.at }

-- the limits of this turn's loop are those of loop k, which have room in their columns
record Turn (lower upper : List ℤ) (k : ℕ) (low high : ℤ) : Type 0 where
  inside : k < length lower
  low_is : low ≡ get_or lower k (pos 0)
  high_is : high ≡ get_or upper k (pos 0)
  low_fits : InColumns (get_or lower k (pos 0))
  high_fits : InColumns (get_or upper k (pos 0))

turn : (c : In-Some) → Turn c.args.lower.now c.args.upper.now (length c.loop-low.yielded) c.in-Some.low.now c.in-Some.high.now
turn c =
    let t = zip_turn c.args.lower.now c.args.upper.now c.loop-low.yielded c.into_iter-low-iterator.result c.loop-low.low-iterator c.next.new.self
    c.next.result (cc) (cc) c.loop-low.yielded_by (c.in-Some.low, c.in-Some.high) c.in-Some.is c.next.ensures.steps in
    let k = length c.loop-low.yielded in
    record {
      inside = t.0;
      low_is = t.2 (pos 0);
      high_is = t.3 (pos 0);
      low_fits = rw zero-add at (c.requires.2 k t.0);
      high_fits = rw zero-add at (c.requires.3 k t.1);
    }

pub put_line-end-requires : goal.put_line-end-requires
put_line-end-requires c =
    let t = turn (goal.at.put_line-end-requires c).In-Some in
    let lo : to_z w64 (of_z w64 c.in-Some.low.now) ≡ c.in-Some.low.now = search rules in
    let hi : to_z w64 (of_z w64 c.in-Some.high.now) ≡ c.in-Some.high.now = search rules in
    (omega (arith, t.inside), pair_fits (lo ∙ t.low_is) (hi ∙ t.high_is) t.low_fits t.high_fits)

pub loop-low-preserved : goal.loop-low-preserved
loop-low-preserved c =
    let lower = c.args.lower.now in
    let upper = c.args.upper.now in
    let k = length c.loop-low.yielded in
    let t = turn (goal.at.loop-low-preserved c).In-Some in
    let lo : to_z w64 (of_z w64 c.in-Some.low.now) ≡ c.in-Some.low.now = search rules in
    let hi : to_z w64 (of_z w64 c.in-Some.high.now) ≡ c.in-Some.high.now = search rules in
    let q = stored_as (pair_line (lo ∙ t.low_is) (hi ∙ t.high_is)) c.put_line-end.ensures in
    let n = length_push c.loop-low.yielded (c.in-Some.low, c.in-Some.high) in
    record {
      place = rw n (omega (arith, q.ends, pair-length (get_or lower k (pos 0)) (get_or upper k (pos 0)) t.low_fits t.high_fits, c.loop-low.invariant.place));
      stored = rw n (lines_more (limits lower upper) k c.loop-low.invariant.stored q);
    }
