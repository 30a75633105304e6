-- `deliver` meets its contract: a law of `EntryLaws` for each way out. Assumes nothing.
use Prim.Native.Nat.{◌<◌, ◌≤◌}
use native.Mathlib.Omega.{arith}
use lib.ListN.{length}
use lib.Seq.{length-take-le}
use Rattle.nest.specs.Nest.{count_of}
use Rattle.nest.proofs.Accepted.{count_is}
use Rattle.execution.specs.Inner.{option_in}
use Rattle.execution.proofs.EntryLaws.{no_rank, no_dependence, out_of_turn, delivery, free}
use Rattle.execution.proofs.deliver.Goals as goal
use Rattle.execution.proofs.deliver.Goals.{Else-count-i, then-n-k-via-then-n-k, then-n-k-via-else-n-k+then-count-i}

-- the dependence is there
there : (g : _) (c : Else-count-i g) → c.args.message.dependence < count_of (g.N.RunNest.nest_of c.args.s.now)
there g c = omega (arith, c.count.ensures, c.if-count-i.false)

pub returns-then-n-k : goal.returns-then-n-k
returns-then-n-k g c =
    let a = c.args in
    let s = g.N.RunNest.nest_of a.s.now in
    let m = a.message in
    let n = c.iterations-n in
    elim c.then-n-k.branch [
      | then-n-k-via-then-n-k w ↦ no_rank s a.processors.now a.done.now a.delivered.now n.result n.ensures m.rank m.dependence w.if-n-k.true
      | then-n-k-via-else-n-k+then-count-i w ↦
          no_dependence s a.processors.now a.done.now a.delivered.now n.result n.ensures m.rank m.dependence (omega (arith, w.count.ensures, w.if-count-i.true))
    ]

pub is_ready-requires : goal.is_ready-requires
is_ready-requires g c =
    let a = c.args in
    let n = c.iterations-n in
    let s = g.N.RunNest.nest_of a.s.now in (
      omega (arith, length-take-le n.result a.processors.now (let h = c.requires.0 in omega (arith, n.ensures)), c.if-n-k.false),
      omega (arith, there g (goal.at.is_ready-requires g c).Else-count-i, (count_is s (g.met.N.RunNest.accepted a.s.now)).1),
    )

-- each table has an entry for each iteration
long : (g : _) (c : Else-count-i g) → c.iterations-n.result ≤ length c.args.processors.now
long g c = let h = c.requires.0 in omega (arith, c.iterations-n.ensures)

pub returns-then-not-is_ready : goal.returns-then-not-is_ready
returns-then-not-is_ready g c =
    let a = c.args in
    let m = a.message in
    let n = c.iterations-n in
    let p = (goal.at.returns-then-not-is_ready g c).Else-count-i in
    out_of_turn (g.N.RunNest.nest_of a.s.now) a.processors.now a.done.now a.delivered.now n.result n.ensures m.rank m.dependence (option_in c.source.result) c.source.ensures c.if-n-k.false (there g p) (long g p) c.is_ready.result
    c.is_ready.ensures c.if-not-is_ready.true

pub with_bit-requires : goal.with_bit-requires
with_bit-requires g c =
    let a = c.args in
    let m = a.message in
    let n = c.iterations-n in
    let s = g.N.RunNest.nest_of a.s.now in
    let p = (goal.at.with_bit-requires g c).Else-count-i in (
      omega (arith, there g p, (count_is s (g.met.N.RunNest.accepted a.s.now)).1),
      free s a.processors.now a.done.now a.delivered.now n.result n.ensures m.rank m.dependence (option_in c.source.result) c.source.ensures c.if-n-k.false (there g p) (long g p) c.is_ready.result c.is_ready.ensures
          c.if-not-is_ready.false,
    )

pub returns : goal.returns
returns g c =
    let a = c.args in
    let m = a.message in
    let n = c.iterations-n in
    let p = (goal.at.returns g c).Else-count-i in
    delivery (g.N.RunNest.nest_of a.s.now) a.processors.now a.done.now a.delivered.now n.result n.ensures m.rank m.dependence (option_in c.source.result) c.source.ensures c.if-n-k.false (there g p) (long g p) c.is_ready.result
    c.is_ready.ensures c.with_bit.result c.if-not-is_ready.false c.with_bit.ensures
