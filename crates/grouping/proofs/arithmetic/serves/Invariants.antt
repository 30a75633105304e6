-- The loop of `serves`: s divides each entry of k * x that was passed. Assumes nothing.
use Prim.Native.Nat.{ℕ, ◌<◌}
use lib.ListN.{get_or}
use lib.IntN.{pos, ◌*ℤ◌}
use Rattle.integers.specs.Division.{Divides}
use Rattle.grouping.proofs.arithmetic.serves.Given as goal

abbrev pub invariant-loop-c : goal.invariant-loop-c
invariant-loop-c l = (m : ℕ) → m < l.c-index → Divides l.fn.s (l.fn.k *ℤ get_or l.x m (pos 0))
