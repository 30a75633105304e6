-- Serves the proofs alone: the directions as the code holds them, and what is asked of the values
-- that are put into them. Assumes nothing.
use Rattle.std.specs.Prelude.{List, map, ℕ, ◌<◌, ◌≤◌, ℤ, nat_abs}
use Rattle.integers.specs.Vector.{Vector, AllWithin}
use Rattle.nest.specs.Nest.{max_depth, max_cube}
use Rattle.mapping.specs.declared.directions.Direction as Code
use Rattle.mapping.specs.Mapping.{Direction, Deal, direction_at, bits_of}
use Rattle.mapping.specs.GroupNumbers.{max_number, values_of, InWidth, Fits}

-- a direction
abbrev pub direction_of : Code.Direction → Direction
direction_of d = record { least = d.least; width = d.width; bits = d.bits }

-- some directions
abbrev pub held : List Code.Direction → List Direction
held ds = map direction_of ds

-- with the one whose turn is next
abbrev pub deal_of : List Code.Direction → ℕ → Deal
deal_of ds turn = record { directions = held ds; turn = turn }

-- a direction holds a value: both are small, and the value lies in the width
pub record HoldsValue (d : Direction) (v : ℤ) : Type 0 where
  pub least_small : nat_abs d.least ≤ max_number
  pub value_small : nat_abs v ≤ max_number
  pub few_bits : d.bits ≤ max_cube
  pub in_width : InWidth d v

-- the directions hold the values of a row
pub record Holds (ds : List Direction) (v : Vector) : Type 0 where
  pub least_small : (j : ℕ) → j < max_depth → nat_abs (direction_at ds j).least ≤ max_number
  pub values_small : AllWithin max_number v
  pub few_bits : bits_of ds ≤ max_cube
  pub fits : Fits ds (values_of v)
