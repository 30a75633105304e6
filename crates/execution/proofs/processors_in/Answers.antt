-- `processors_in` meets its contract: an accepted cube dimension is at most 6. Assumes nothing.
use mathlib.Core.Path.{◌≡◌, ap, ◌∙◌}
use Prim.Native.Nat.{◌*◌, ◌^◌, ◌%◌, ◌≤◌}
use native.Mathlib.Nat.{one-mul}
use native.Mathlib.Omega.{arith}
use lib.Pow.{shl_exact, pow_mono}
use Rattle.nest.specs.Nest.{max_cube}
use Rattle.nest.proofs.Accepted.{cube_is}
use Rattle.execution.proofs.processors_in.Goals as goal
use Rattle.execution.proofs.processors_in.Goals.{After-cube}

cube : (c : After-cube) → c.cube.result ≤ max_cube
cube c = let s = c.args.s.now in omega (arith, (cube_is s.nest s.accepted).1)

pub overflow_shl-result : goal.overflow_shl-result
overflow_shl-result c = omega (arith, cube c)

pub returns : goal.returns
returns c =
    let k = cube c in
    let e : 1 * 2 ^ c.cube.result % 2 ^ 64 ≡ 2 ^ c.cube.result = shl_exact {a = 1} 1 c.cube.result 64 (omega arith) (omega (arith, k)) ∙ one-mul _ in
    let m : 2 ^ c.cube.result ≤ 2 ^ max_cube = pow_mono k in
    (e ∙ ap (λ z. 2 ^ z) c.cube.ensures, omega (arith, e, m))
