-- Serves the code's inner contracts alone: the steps as they are worked out from the keys of the
-- index points: P·j of each iteration, from the digits of its key, less the least, and how many
-- numbers below that are some iteration's too. Nothing here knows limits. Assumes nothing.
use Rattle.std.specs.Prelude.{◌≡◌, List, map, ℕ, ◌+◌, ◌*◌, ◌<◌, ◌≤◌, eqb, ℤ, pos, nat_abs, ◌+ℤ◌, length, get_or}
use Rattle.integers.specs.Lists.{any, count, one_if, tab}
use Rattle.integers.specs.Vector.{dots, AllWithin}
use Rattle.nest.specs.Nest.{to_ℕ, max_depth, max_limit, max_component, max_iterations}
use Rattle.sources.specs.Keys.{max_key, digits}
use Rattle.numbering.specs.Limits.{components}

-- a time vector, and the keys of points with as many indices
pub record Timed (time keys : List ℤ) : Type 0 where
  -- there is a loop
  pub some_loop : 1 ≤ length time
  -- there are few
  pub few_loops : length time ≤ max_depth
  -- its components are in span
  pub time_small : AllWithin max_component time
  -- the keys are small
  pub keys_small : (k : ℕ) → k < length keys → nat_abs (get_or keys k (pos 0)) ≤ max_key
  -- the indices are in span
  pub points_small : (k : ℕ) → k < length keys → AllWithin max_limit (digits (length time) (get_or keys k (pos 0)))

-- P·j of iteration k
abbrev pub product_at : List ℤ → List ℤ → ℕ → ℤ
product_at time keys k = dots time (digits (length time) (get_or keys k (pos 0)))

-- no P·j is larger
abbrev pub max_product : ℕ
max_product = max_depth * (max_component * max_limit)

-- a P·j as a number that is not negative: the difference of two of them stays what it was
abbrev pub raised : ℤ → ℕ
raised product = to_ℕ (product +ℤ pos max_product)

-- ---- the ordinals of numbers, which are counted from the least P·j

-- one for each value from the least to the greatest: no more in any nest that document 02 allows,
-- with four loops whose limits need not be a box
abbrev pub max_values : ℕ
max_values = 2 * (components * (max_component * max_limit)) + 1

-- up to so many, the table of flags is small
abbrev pub few_values : ℕ
few_values = 4096

-- few numbers, each below `range`
pub record Counted (numbers : List ℕ) (range : ℕ) : Type 0 where
  pub few : length numbers ≤ max_iterations
  pub small : (k : ℕ) → k < length numbers → get_or numbers k 0 < range

-- nothing stands in the table
abbrev pub Cleared : List ℕ → Type 0
Cleared table = (v : ℕ) → get_or table v 0 ≡ 0

-- a flag for each number below n: 1 if it stands in the list, 0 if not
abbrev pub flags : List ℕ → ℕ → List ℕ
flags xs n = tab (λ u. one_if (any (eqb u) xs)) n

-- how many of the numbers below v stand in the list
abbrev pub standing : List ℕ → ℕ → ℕ
standing xs v = count (λ u. any (eqb u) xs) (tab (λ u. u) v)

-- in the place of each number how many smaller ones stand in the list
abbrev pub ordinals : List ℕ → List ℕ
ordinals numbers = map (standing numbers) numbers
