-- `shortest` meets its contract. Assumes nothing.
use Rattle.std.proofs.Common.{◌≡◌, pos, length, subst, rules, to_z, w64}
use lib.Dec.{lit≤}
use Rattle.integers.proofs.Linear.{ints, sizes, dif}
use Rattle.integers.proofs.Tests.{le_flag, le_noflag}
use Rattle.integers.proofs.Vector.{all_wider, times-one}
use Rattle.grouping.specs.Periods.{Serves}
use Rattle.partition.proofs.LineLaws.{less_one, none-more, none-found}
use Rattle.partition.proofs.inputs.shortest.Goals as goal

pub serves-requires-clause-s_bound : goal.serves-requires-clause-s_bound
serves-requires-clause-s_bound c =
    let i = c.loop-g.invariant in
    (omega (ints, i.some, i.most, sizes (to_z w64 c.loop-g.g-bits)), lit≤ tt, all_wider 16 100000 c.args.p (lit≤ tt) c.requires)

pub returns-then-serves : goal.returns-then-serves
returns-then-serves c =
    let i = c.loop-g.invariant in
    let e = c.divided.ensures in
    (e.0, none-found c.args.p c.divided.result (to_z w64 c.loop-g.g-bits) i.some i.none e.1)

pub loop-g-preserved : goal.loop-g-preserved
loop-g-preserved c =
    let i = c.loop-g.invariant in
    let z = to_z w64 c.loop-g.g-bits in
    let l : length c.args.p ≡ 4 = search rules in
    let t = le_flag (pos 2) z c.loop-g-test.true in
    rw (less_one z i.some i.most) (record {
      some = omega (ints, t, dif z (pos 1));
      most = omega (ints, i.most, dif z (pos 1));
      none = none-more c.args.p z i.some i.none (subst (λ n. Serves c.args.p z (pos 1) n → ⊥) l (c.serves.ensures.fact c.if-serves.false));
    })

pub returns : goal.returns
returns c =
    let i = c.loop-g.invariant in
    let z = to_z w64 c.loop-g.g-bits in
    let e : z ≡ pos 1 = omega (ints, le_noflag (pos 2) z c.loop-g-test.false, i.some) in
    (c.requires, none-found c.args.p c.args.p z i.some i.none (rw e (times-one c.args.p)))
