-- Serves the proofs alone: the messages to an iteration whose sources are found in a table of the
-- index points' keys; proofs/KeyMessages.antt shows that they are the nest's own.
-- Assumes nothing.
use Rattle.std.specs.Prelude.{Bool, not, ◌&&◌, List, ℕ, eqb, ltb, ℤ, pos, length, get_or}
use Rattle.integers.specs.Lists.{tab, count}
use Rattle.sources.specs.Keys.{source_in}

module _ (keys distances : List ℤ) (ps : List ℕ) (k : ℕ) where
  -- the source along dependence i is an iteration, and on another processor
  unfoldable pub elsewhere_in : ℕ → Bool
  elsewhere_in i = ltb (source_in keys k (get_or distances i (pos 0))) (length keys)
      && not (eqb (get_or ps (source_in keys k (get_or distances i (pos 0))) 0) (get_or ps k 0))

  -- how many of m dependences
  unfoldable pub messages_in : ℕ → ℕ
  messages_in m = count elsewhere_in (tab (λ i. i) m)
