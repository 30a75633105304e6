-- `rank_of` meets its contract. The loop's invariant: the indices passed are within their limits, and the rank is that of the loops passed.
-- Assumes nothing.
use mathlib.Core.Path.{◌≡◌}
use Prim.Native.Nat.{◌≤◌}
use lib.IntN.{pos}
use lib.ListN.{length, get_or, drop}
use Rattle.nest.specs.Nest.{limit_at}
use Rattle.nest.proofs.Ranks.{Ranking}
use Rattle.nest.proofs.loops.Loops.rank_of.Given as goal

abbrev pub invariant-loop-low : goal.invariant-loop-low
invariant-loop-low l = record {
  passed : length l.yielded ≤ length l.self.lower.now;
  lower : l.low-iterator.a.a.rest.now ≡ drop (length l.yielded) l.self.lower.now;
  upper : l.low-iterator.a.b.rest.now ≡ drop (length l.yielded) l.self.upper.now;
  point : l.low-iterator.b.rest.now ≡ drop (length l.yielded) l.point;
  rank : Ranking (limit_at l.self.lower.now l.self.upper.now) (λ i. get_or l.point i (pos 0)) (length l.self.lower.now) (length l.yielded) l.rank;
}
