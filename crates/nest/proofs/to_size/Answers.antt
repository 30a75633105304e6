-- `to_size` meets its contract. Assumes nothing.
use mathlib.Core.Path.{◌≡◌, refl, ◌∙◌}
use Prim.Native.Nat.{ℕ, ◌^◌, ◌<◌}
use native.Mathlib.Omega.{arith}
use lib.IntN.{ℤ, pos, negsuc, nat_abs}
use lib.Signed.{mag}
use mir.Facts.{to_z-of_z}
use Rattle.std.specs.Int.{FitsUnsignedBits}
use Rattle.std.specs.Prelude.{Result, Ok, Err}
use Rattle.std.specs.Result.{OkIff, result_unwrap_or}
use Rattle.nest.specs.Nest.{to_ℕ}
use Rattle.nest.proofs.to_size.Goals as goal

-- a number that is converted where it is not negative
converted : {E : Type 0} (x : ℤ) (r : Result ℕ E) → mag x < 2 ^ 63 → OkIff r (FitsUnsignedBits 64 x) (nat_abs x) → result_unwrap_or r 0 ≡ to_ℕ x
unfolding to_ℕ
converted (pos n) (Ok y) f h = h.1
converted (pos n) (Err e) f h = absurd (h (omega (arith, f)))
converted (negsuc n) (Ok y) f h = absurd h.0
converted (negsuc n) (Err e) f h = refl

pub returns : goal.returns
returns c = c.unwrap_or.ensures ∙ converted c.args.x c.try_from.result c.ranges.x.sfits (rw (to_z-of_z c.ranges.x) at c.try_from.ensures)
