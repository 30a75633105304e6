-- `value_from` meets its contract. Assumes nothing.
use mathlib.Core.Path.{◌≡◌, sym, ap, ◌∙◌}
use Prim.Native.Nat.{◌+◌, ◌%◌, ◌<◌}
use native.Mathlib.Omega.{arith}
use lib.ListN.{length}
use Rattle.nest.specs.Nest.{count_of, max_dependences}
use Rattle.nest.specs.Points.{points_of}
use Rattle.nest.proofs.Accepted.{count_is}
use Rattle.nest.proofs.PointLaws.{few-points, array_point}
use Rattle.sequential.specs.Sequential.{modulus}
use Rattle.sequential.proofs.SumLaws.{sum_to, sum-none, sum_next, sum-all}
use Rattle.sequential.proofs.Known.value_from.Goals as goal
use Rattle.sequential.proofs.Known.value_from.Goals.{In-loop-i, Start}

-- iteration k is one of the nest's
iteration : (t : Start) → t.args.k < length (points_of t.args.self.now.nest.now.nest)
iteration t = omega (arith, t.requires.0, t.args.self.now.nest.now.counted)

pub loop-i-init : goal.loop-i-init
loop-i-init c =
    let a = c.args in
    let z = sum-none a.self.now.nest.now.nest a.self.now.values.now a.k in
    (omega arith, omega (arith, z), omega arith)

-- the turn's dependence is one of them, and the sum stays small
turn : (c : In-loop-i) → (c.loop-i.i < count_of c.args.self.now.nest.now.nest) × (c.loop-i.i < max_dependences)
turn c =
    let m = c.count-m.ensures in
    let i = c.loop-i-test.true in
    (omega (arith, m, i), omega (arith, m, i, (count_is c.args.self.now.nest.now.nest c.args.self.now.nest.now.accepted).1))

pub weighted_source-sum-requires : goal.weighted_source-sum-requires
weighted_source-sum-requires c =
    (array_point c.args.self.now.nest.now.nest c.args.k c.args.point (iteration (goal.at.weighted_source-sum-requires c).Start) c.requires.1, (turn c).0)

pub overflow_add-sum : goal.overflow_add-sum
overflow_add-sum c =
    let i = (turn (goal.at.overflow_add-sum c).In-loop-i).1 in
    let k = iteration (goal.at.overflow_add-sum c).Start in
    let f = few-points c.args.self.now.nest.now.nest c.args.self.now.nest.now.accepted in
    omega (arith, i, k, f, c.loop-i.invariant.2, c.weighted_source-sum.ensures.upper_bound)

pub loop-i-preserved : goal.loop-i-preserved
loop-i-preserved c =
    let l = c.loop-i in
    let s = c.args.self.now.nest.now in
    let x = c.weighted_source-sum in (
      omega (arith, c.loop-i-test.true),
      sum_next s.nest c.args.self.now.values.now c.args.k s.iterations l.i l.sum x.result c.args.point (iteration (goal.at.loop-i-preserved c).Start) (turn (goal.at.loop-i-preserved c).In-loop-i).0 s.counted c.requires.1 l.invariant.1 x.ensures.value,
      omega (arith, l.invariant.2, x.ensures.upper_bound),
    )

pub returns : goal.returns
returns c =
    let l = c.loop-i in
    let a = c.args in
    let s = a.self.now.nest.now.nest in
    let e : l.i ≡ count_of s = omega (arith, c.count-m.ensures, l.invariant.0, c.loop-i-test.false) in
    ap (λ z. z % modulus) (l.invariant.1 ∙ ap (λ i. a.k + sum_to s a.self.now.values.now a.k i) e) ∙ sym (sum-all s a.self.now.values.now a.k)
