-- One more loop around a nest, which has one index and along which no vector moves, changes no processor and no message. Assumes nothing.
use mathlib.Core.Path.{◌≡◌, ap, ◌∙◌}
use mathlib.Core.List.{List, map}
use Prim.Native.Nat.{ℕ, ◌<◌}
use lib.Dec.{eqb}
use lib.ListN.{length}
use Rattle.integers.specs.Lists.{tab, count, firsts, total}
use Rattle.integers.proofs.Lists.{tab-same}
use Rattle.nest.specs.declared.LoopNest.{LoopNest}
use Rattle.nest.specs.Nest.{to_ℕ, count_of}
use Rattle.nest.specs.Outermost.{Outermost}
use Rattle.nest.specs.Points.{points_of}
use Rattle.nest.proofs.Outermost.{outer-number, outer-source}
use Rattle.grouping.specs.Grouping.{blocks}
use Rattle.partition.proofs.Outermost.{outer-groups}
use Rattle.mapping.specs.Mapping.{undealt, dealt, directions_of, processor, processors_of, processor_count, crosses, is_message, message_count}

module _ {s t : LoopNest} (o : Outermost s t) where
  -- processors
  pub outer-processors : processors_of s ≡ processors_of t
  unfolding processors_of directions_of
  outer-processors = λ x. let gs = outer-groups o x in map (processor (dealt (to_ℕ (o.cubes x)) (undealt (blocks gs)))) gs

  -- how many hold an iteration
  pub outer-processor-count : processor_count s ≡ processor_count t
  unfolding processor_count
  outer-processor-count = ap (λ (ps : List ℕ). length (firsts eqb ps)) outer-processors

  -- the messages to iteration k
  messages-at : (k : ℕ) → k < length (points_of t) → count (is_message s (processors_of s) k) (tab (λ i. i) (count_of s)) ≡ count (is_message t (processors_of t) k) (tab (λ i. i) (count_of t))
  unfolding is_message
  messages-at k h = λ x. count (λ i. crosses (outer-processors x) k (outer-source o k i h x)) (tab (λ i. i) (to_ℕ (o.counts x)))

  -- to all
  pub outer-messages : message_count s ≡ message_count t
  unfolding message_count
  outer-messages =
      ap (λ n. total (tab (λ k. count (is_message s (processors_of s) k) (tab (λ i. i) (count_of s))) n)) (outer-number o)
      ∙ ap total
      (tab-same (λ k. count (is_message s (processors_of s) k) (tab (λ i. i) (count_of s))) (λ k. count (is_message t (processors_of t) k) (tab (λ i. i) (count_of t))) (length (points_of t)) messages-at)
