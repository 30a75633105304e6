-- Serves the code's inner contracts alone: projection lines, and what leads to an index point from
-- the one before it on its line.
-- Assumes nothing.
use Rattle.std.specs.Prelude.{◌≡◌, ℕ, ◌≤◌, ℤ, pos, nat_abs}
use Rattle.integers.specs.Vector.{Vector, AllWithin, times}
use Rattle.nest.specs.Nest.{part, max_component}
use Rattle.sources.specs.Keys.{key}
use Rattle.numbering.specs.Limits.{components}
use Rattle.grouping.specs.Periods.{Serves}

-- v is the shortest whole vector along p, whose components are in span: p is a multiple of v, and
-- no larger number divides the components of p
pub record Shortest (p v : Vector) : Type 0 where
  pub factor : ℕ
  pub positive : 1 ≤ factor
  pub product : times (pos factor) v ≡ p
  pub largest : (k : ℕ) → k ≤ max_component → Serves p (pos k) (pos 1) components → k ≤ factor

-- the size of the key of the shortest vector along p, of which the first n components count: so far
-- apart are the keys of neighbours on a projection line
pub record Apart (p : Vector) (n : ℕ) (distance : ℤ) : Type 0 where
  pub vector : Vector
  pub shortest : Shortest p vector
  pub small : AllWithin max_component vector
  pub size : distance ≡ pos (nat_abs (key (part vector 0 n)))
