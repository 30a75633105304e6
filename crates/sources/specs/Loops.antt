-- Serves the proofs alone: the loops that the walk over rectangular limits goes through.
-- Assumes nothing.
use Rattle.std.specs.Prelude.{List, map}
use Rattle.nest.specs.Nest.{Limit}
use Rattle.sources.specs.declared.Limits.{Limits}

-- the limits of a loop
abbrev pub limit_of : Limits → Limit
limit_of l = record { lower = l.lower; upper = l.upper }

-- the limits of some loops
abbrev pub loop_limits : List Limits → List Limit
loop_limits ls = map limit_of ls
