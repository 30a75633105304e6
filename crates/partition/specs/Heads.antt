-- Serves the code's inner contracts alone: projection lines in loop order. `before k` is the
-- iteration before k on its line; a number that is not below k where there is none, and then k is
-- the first of its line. So the groups need to be worked out for the first iterations alone; no
-- answer depends on it. Assumes nothing.
use Rattle.std.specs.Prelude.{true, false, List, [], ◌∷◌, ◌++◌, map, ℕ, zero, suc, ◌<◌, ◌≤◌, ltb, ℤ, pos, nat_abs}
use Rattle.std.specs.Prelude.{length, get_or}
use denote.Struct.Props as known
use Rattle.integers.specs.Vector.{Vector, AllWithin}
use Rattle.grouping.specs.Framed.{AllWithin-prop}
use Rattle.nest.specs.Nest.{padded, max_limit}
use Rattle.numbering.specs.Limits.{components}
use Rattle.sources.specs.Keys.{digits, max_key}

-- the first iteration of each line, among the first k iterations
unfoldable pub heads_to : (ℕ → ℕ) → ℕ → List ℕ
heads_to before zero = []
heads_to before (suc k) = elim (ltb (before k) k) [ true ↦ heads_to before k | false ↦ heads_to before k ++ (k ∷ []) ]

-- the number of each one's line: that of the iteration before it, or else a new number
unfoldable pub lines_to : (ℕ → ℕ) → ℕ → List ℕ
lines_to before zero = []
lines_to before (suc k) = lines_to before k ++ (get_or (lines_to before k) (before k) (length (heads_to before k)) ∷ [])

-- the index points of some iterations, by their keys: n components each, and zeros behind
unfoldable pub points_by : List ℤ → ℕ → List ℕ → List Vector
points_by keys n ks = map (λ k. padded components (digits n (get_or keys k (pos 0)))) ks

-- iteration k has a key, and its index point is small
pub record PointAt (keys : List ℤ) (n k : ℕ) : Type 0 where
  pub iteration : k < length keys
  pub key_small : nat_abs (get_or keys k (pos 0)) ≤ max_key
  pub within : AllWithin max_limit (digits n (get_or keys k (pos 0)))

-- of these facts there is one proof at most, as a ghost field asks
pub ruleset props = (AllWithin-prop, known.props)
