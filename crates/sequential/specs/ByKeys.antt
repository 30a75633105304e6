-- Serves the proofs alone: the weighted sum of an iteration's sources, which are found in a table
-- of keys; proofs/KeyLaws.antt shows that it is the nest's own.
-- Assumes nothing.
use Rattle.std.specs.Prelude.{List, ℕ, ◌+◌, ◌*◌, ◌%◌, ℤ, pos, length, get_or, take}
use Rattle.integers.specs.Lists.{tab, total}
use Rattle.sources.specs.Keys.{source_in}
use Rattle.sequential.specs.Sequential.{modulus}

module _ (keys distances : List ℤ) (weights boundaries values : List ℕ) (k : ℕ) where
  -- the weight of dependence i times what is read along it
  unfoldable pub term_in : ℕ → ℕ
  term_in i = get_or weights i 0
      * get_or (take (length keys) values) (source_in keys k (get_or distances i (pos 0))) (get_or boundaries i 0)

  -- the value of iteration k, with m dependences
  unfoldable pub value_in : ℕ → ℕ
  value_in m = (k + total (tab term_in m)) % modulus
