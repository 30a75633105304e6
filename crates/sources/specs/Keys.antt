-- Serves the proofs alone: one number for a vector, its key. The components are digits in a base
-- that is larger than twice any of them. So keys are in the order of the vectors, and the key of a
-- difference is the difference of the keys: a source is found by its key in the table of the
-- points' keys. Nothing here knows limits, and of depths only the greatest. Assumes nothing.
use Rattle.std.specs.Prelude.{List, [], ◌∷◌, ◌++◌, map, ℕ, zero, suc, ◌^◌, ◌<◌, ◌≤◌, ℤ, pos, nat_abs, ◌+ℤ◌, ◌-ℤ◌, ◌*ℤ◌}
use Rattle.std.specs.Prelude.{length, get_or, ◌≤ℤ◌, ◌<ℤ◌}
use Rattle.std.specs.Int.Signed.{le_z}
use Rattle.integers.specs.Division.{floor_div}
use Rattle.integers.specs.Lists.{place}
use Rattle.integers.specs.Vector.{Vector, eq_z}
use Rattle.nest.specs.declared.LoopNest.{LoopNest}
use Rattle.nest.specs.Nest.{dependences_of, max_depth}
use Rattle.nest.specs.Points.{points_of}

-- components are digits in this base
abbrev pub base : ℕ
base = 4096

-- the digits of a vector behind a number
unfoldable pub key_from : ℤ → Vector → ℤ
key_from a [] = a
key_from a (x ∷ v) = key_from (a *ℤ pos base +ℤ x) v

-- the key of a vector
unfoldable pub key : Vector → ℤ
key v = key_from (pos 0) v

-- no key of a vector with components below half the base is larger
abbrev pub max_key : ℕ
max_key = base ^ max_depth

-- half the base
abbrev pub half : ℕ
half = 2048

-- a key without its last digit
unfoldable pub above : ℤ → ℤ
above a = floor_div (a +ℤ pos half) (pos base)

-- the n digits of a key: the vector of n components that has it
unfoldable pub digits : ℕ → ℤ → Vector
digits zero a = []
digits (suc n) a = digits n (above a) ++ ((a -ℤ above a *ℤ pos base) ∷ [])

-- the keys of the index points, in loop order
unfoldable pub keys_of : LoopNest → List ℤ
keys_of s = map key (points_of s)

-- the keys of the dependences: how far the key of an iteration is above that of its source
unfoldable pub distances_of : LoopNest → List ℤ
distances_of s = map key (dependences_of s)

-- ---- a table of keys

-- each number of a list is below the later ones
abbrev pub Increasing : List ℤ → Type 0
Increasing ks = (i k : ℕ) → i < k → k < length ks → get_or ks i (pos 0) <ℤ get_or ks k (pos 0)

-- the place of the first key that is not below t
abbrev pub not_below : ℤ → List ℤ → ℕ
not_below t ks = place (le_z t) ks

-- the key of the source of iteration k, where its own key is so far above it
abbrev pub target_in : List ℤ → ℕ → ℤ → ℤ
target_in ks k distance = get_or ks k (pos 0) -ℤ distance

-- the place of that key; the number of keys where it is none of them
unfoldable pub source_in : List ℤ → ℕ → ℤ → ℕ
source_in ks k distance = place (eq_z (target_in ks k distance)) ks

-- a table in which the sources along a dependence with this distance can be searched for
pub record Searchable (ks : List ℤ) (distance : ℤ) : Type 0 where
  -- the keys increase
  pub increasing : Increasing ks
  -- and they are small
  pub keys_small : (k : ℕ) → nat_abs (get_or ks k (pos 0)) ≤ max_key
  -- so is the distance
  pub distance_small : nat_abs distance ≤ max_key
  -- and it is not negative
  pub forward : pos 0 ≤ℤ distance

-- no cursor is past the place that is searched for at iteration k, of m dependences
abbrev pub Behind : List ℤ → List ℤ → ℕ → ℕ → List ℕ → Type 0
Behind ks distances k m cursors = (i : ℕ) → i < m
    → get_or cursors i 0 ≤ not_below (target_in ks k (get_or distances i (pos 0))) ks
