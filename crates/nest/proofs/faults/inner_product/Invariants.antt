-- `inner_product` meets its contract. The loop's invariant: the sum is the inner product of the components passed. Assumes nothing.
use mathlib.Core.Path.{◌≡◌}
use Rattle.integers.specs.Vector.{dots}
use Rattle.nest.specs.Nest.{part}
use Rattle.nest.proofs.faults.inner_product.Given as goal

abbrev pub invariant-loop-k : goal.invariant-loop-k
invariant-loop-k l = l.sum ≡ dots (part l.time 0 l.k) (part l.xs 0 l.k)
