-- `NestParts::loops` meets its contract. Assumes nothing.
use mathlib.Core.Path.{◌≡◌, ◌∙◌, ap}
use mathlib.Core.List.{List}
use Prim.Native.Nat.{◌≤◌}
use native.Mathlib.Omega.{arith}
use lib.IntN.{ℤ}
use lib.ListN.{length, take}
use Rattle.std.proofs.Common.{rules}
use Rattle.std.proofs.lemmas.List.{length-take-le}
use Rattle.integers.specs.Lists.{any}
use Rattle.integers.proofs.Machine.{reads}
use Rattle.nest.specs.Nest.{to_ℕ, depth_of, limits_in, limits_of, max_depth}
use Rattle.nest.specs.NestParts.{nest_of_parts}
use Rattle.nest.specs.Refusals.{crossed}
use Rattle.nest.proofs.Accepted.{depth_is, no-limit-crossed}
use Rattle.nest.proofs.Slices.{limits-slices}
use Rattle.nest.proofs.lent.NestParts.loops.Goals as goal
use Rattle.nest.proofs.lent.NestParts.loops.Goals.{After-to_size-n}

-- the depth as a size, and the slices of the limits
depth : (c : After-to_size-n) → c.to_size-n.result ≡ depth_of (nest_of_parts c.args.self.now)
depth c =
    let e : reads c.args.self.now.depth ≡ c.args.self.now.depth = search rules in
    c.to_size-n.ensures ∙ ap to_ℕ e

few : (c : After-to_size-n) → c.to_size-n.result ≤ max_depth
few c = rw (depth c) (depth_is (nest_of_parts c.args.self.now) c.requires).1

long : (c : After-to_size-n) (xs : List ℤ) → length xs ≡ max_depth → length (take c.to_size-n.result xs) ≡ c.to_size-n.result
long c xs h = length-take-le c.to_size-n.result xs (omega (arith, few c))

lower : (c : After-to_size-n) → length (take c.to_size-n.result c.args.self.now.lower.now) ≡ c.to_size-n.result
lower c = long c c.args.self.now.lower.now c.args.self.now.sized.0

upper : (c : After-to_size-n) → length (take c.to_size-n.result c.args.self.now.upper.now) ≡ c.to_size-n.result
upper c = long c c.args.self.now.upper.now c.args.self.now.sized.1

limits : (c : After-to_size-n) → limits_in (take c.to_size-n.result c.args.self.now.lower.now) (take c.to_size-n.result c.args.self.now.upper.now) ≡ limits_of (nest_of_parts c.args.self.now)
limits c = limits-slices (nest_of_parts c.args.self.now) c.to_size-n.result (depth c) (omega (arith, few c, c.args.self.now.sized.0))

pub slice_bounds-result-end : goal.slice_bounds-result-end
slice_bounds-result-end c = let t = (goal.at.slice_bounds-result-end c).After-to_size-n in omega (arith, lower t, upper t)

pub slice_bounds-result-end-2 : goal.slice_bounds-result-end-2
slice_bounds-result-end-2 c = let t = (goal.at.slice_bounds-result-end-2 c).After-to_size-n in omega (arith, lower t, upper t)

pub invariant_of-result : goal.invariant_of-result
invariant_of-result c =
    let t = (goal.at.invariant_of-result c).After-to_size-n in
    record {
      lengths = (omega (arith, few t, lower t), omega (arith, lower t, upper t));
      limits = ap (any crossed) (limits t) ∙ no-limit-crossed (nest_of_parts c.args.self.now) c.requires;
    }

pub returns-clause-depth : goal.returns-clause-depth
returns-clause-depth c = let t = (goal.at.returns-clause-depth c).After-to_size-n in lower t ∙ depth t

pub returns-clause-limits : goal.returns-clause-limits
returns-clause-limits c = limits (goal.at.returns-clause-limits c).After-to_size-n
