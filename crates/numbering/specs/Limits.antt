-- Serves the code's inner contracts alone: the limits of tables and of their numbers. They are this
-- crate's own, since it knows of no loop nest; src/lib.rt has the first two. Assumes nothing.
use Rattle.std.specs.Prelude.{ℕ}

-- how many numbers a row has
abbrev pub components : ℕ
components = 4

-- how many rows a table may have; there are as many chains
abbrev pub max_rows : ℕ
max_rows = 4096

-- how large a number of a row may be, either side of 0: so the sum in a hash fits
abbrev pub max_entry : ℕ
max_entry = 1000000000

-- how large a number of a point may be, either side of 0
abbrev pub max_coordinate : ℕ
max_coordinate = 1000
