-- Serves the code's inner contracts alone: the limits of vectors. They are this crate's own, since
-- it knows of no loop nest; src/lib.rt has the number of vectors. Assumes nothing.
use Rattle.std.specs.Prelude.{ℕ, ◌*◌}
use Rattle.numbering.specs.Limits.{components, max_coordinate}

-- how many of them may be chosen
abbrev pub max_chosen : ℕ
max_chosen = 3

-- how large a component of the time vector or of a vector to choose from may be, either side of 0
abbrev pub max_component : ℕ
max_component = 16

-- the inner product of two such vectors is no larger
abbrev pub max_inner : ℕ
max_inner = components * (max_component * max_component)

-- how large the components of vectors may be whose inner product is asked for, and so the minors of
-- three vectors
abbrev pub max_factor : ℕ
max_factor = 30000

-- how large numbers may be whose multiples are tested for divisibility
abbrev pub max_multiple : ℕ
max_multiple = 100000

-- how large the components of the difference of two points may be
abbrev pub max_difference : ℕ
max_difference = 2 * max_coordinate

-- how large a group size may be
abbrev pub max_group_size : ℕ
max_group_size = 1000000
