-- `message_count` meets its contract. The loop's invariant: the number is that of the messages to the iterations so far, and the search is at the next.
-- Assumes nothing.
use Rattle.std.proofs.Common.{◌≡◌, ℕ, List, length, take}
use Rattle.integers.specs.Lists.{tab, count, total}
use Rattle.nest.specs.declared.LoopNest.{LoopNest}
use Rattle.nest.specs.Nest.{count_of}
use Rattle.nest.specs.Points.{points_of}
use Rattle.mapping.specs.Mapping.{is_message}
use Rattle.mapping.proofs.counts.message_count.Given as goal

-- the messages to iteration k
abbrev pub row : LoopNest → List ℕ → ℕ → ℕ
row s ps k = count (is_message s (take (length (points_of s)) ps) k) (tab (λ (i : ℕ). i) (count_of s))

abbrev pub invariant-loop : goal.invariant-loop
invariant-loop l = record {
  counted : l.number ≡ total (tab (row l.fn.s.nest.now.nest l.processors) l.index);
  same_keys : l.sources.keys.now ≡ l.initial.sources.keys.now;
  same_distances : l.sources.distances.now ≡ l.initial.sources.distances.now;
  at_index : l.sources.iteration ≡ l.index;
}
