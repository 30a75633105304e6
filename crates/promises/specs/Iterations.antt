-- What the demands say of iterations and of tables with an entry for each. Assumes nothing.
use Rattle.std.specs.Prelude.{List, ℕ, ◌<◌, length, drop}
use Rattle.nest.specs.declared.LoopNest.{LoopNest}
use Rattle.nest.specs.Points.{points_of}

-- k is the rank of an iteration
abbrev pub Iteration : LoopNest → ℕ → Type 0
Iteration s k = k < length (points_of s)

-- what stands in a table behind the entries of the iterations
abbrev pub behind : {A : Type 0} → LoopNest → List A → List A
behind s table = drop (length (points_of s)) table
