-- `raised` meets its contract. Assumes nothing.
use mathlib.Core.Path.{◌≡◌, ap, ◌∙◌}
use mathlib.Core.List.{[], ◌∷◌}
use Prim.Native.Nat.{◌*◌, ◌≤◌}
use lib.IntN.{pos, nat_abs, ◌+ℤ◌}
use lib.Signed.{◌≤ℤ◌}
use Rattle.integers.proofs.Linear.{ints, sum, sizes}
use Rattle.integers.proofs.Machine.{reads, read}
use Rattle.integers.proofs.Solver.{var, con, ◌⊕◌}
use Rattle.nest.proofs.Counted.{size_is}
use Rattle.partition.specs.KeySteps.{max_product}
use Rattle.partition.proofs.schedule.raised.Goals as goal
use Rattle.partition.proofs.schedule.raised.Goals.{Start}

-- the sum, as the machine has it
raised_is : (c : Start) → reads (reads c.args.product +ℤ pos max_product) ≡ c.args.product +ℤ pos max_product
raised_is c = read (c.args.product ∷ []) (max_product ∷ []) (var 0 ⊕ con (pos max_product)) (c.requires, tt) tt

-- it is not negative, and small
above : (c : Start) → pos 0 ≤ℤ (c.args.product +ℤ pos max_product)
above c = omega (ints, c.requires, sum c.args.product (pos max_product), sizes c.args.product)

few : (c : Start) → nat_abs (c.args.product +ℤ pos max_product) ≤ 2 * max_product
few c = omega (ints, c.requires, sum c.args.product (pos max_product), sizes c.args.product, sizes (c.args.product +ℤ pos max_product))

pub returns : goal.returns
returns c = ap nat_abs (raised_is c) ∙ size_is (c.args.product +ℤ pos max_product) (above c)
