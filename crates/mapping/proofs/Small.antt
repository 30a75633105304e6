-- Numbers that are small, as the machine has them. Assumes nothing.
use mathlib.Core.Path.{◌≡◌}
use mathlib.Core.List.{[], ◌∷◌}
use Prim.Native.Nat.{ℕ, ◌+◌, ◌*◌, ◌%◌, ◌^◌, ◌≤◌}
use native.Mathlib.Nat.{mul-le-mul}
use native.Mathlib.Omega.{arith}
use lib.Pow.{pow_mono}
use lib.IntN.{ℤ, nat_abs, ◌-ℤ◌}
use lib.Signed.{◌≤ℤ◌}
use Rattle.integers.proofs.Bounds.{abs_sub}
use Rattle.integers.proofs.Linear.{ints, dif}
use Rattle.integers.proofs.Machine.{reads, read}
use Rattle.integers.proofs.Solver.{var}
use Rattle.nest.specs.Nest.{to_ℕ, max_cube}
use Rattle.nest.proofs.Counted.{size_is}
use Rattle.mapping.specs.GroupNumbers.{max_number}

-- a number of the table
pub small : (x : ℤ) → nat_abs x ≤ max_number → reads x ≡ x
small x h = read (x ∷ []) (max_number ∷ []) (var 0) (h, tt) tt

-- a number that is shifted by a few bits loses none
pub shifted : (x e : ℕ) → x ≤ max_number + max_number → e ≤ max_cube + 1 → x * 2 ^ e % 2 ^ 64 ≡ x * 2 ^ e
shifted x e h k = let p = mul-le-mul h (pow_mono {i = e} {j = max_cube + 1} k) in omega (arith, p)

-- how far a number is above another
pub above : (u l : ℤ) → l ≤ℤ u → nat_abs (u -ℤ l) ≡ to_ℕ (u -ℤ l)
above u l order = size_is (u -ℤ l) (omega (ints, dif u l))

-- of the table's numbers it is small
pub above_most : (u l : ℤ) → nat_abs u ≤ max_number → nat_abs l ≤ max_number → l ≤ℤ u → to_ℕ (u -ℤ l) ≤ max_number + max_number
above_most u l hu hl order = omega (arith, abs_sub u l hu hl, above u l order)
