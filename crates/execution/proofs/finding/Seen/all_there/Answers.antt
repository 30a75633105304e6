-- `all_there` meets its contract. Assumes nothing.
use mathlib.Core.Path.{◌≡◌, sym, ap, subst, ◌∙◌}
use native.Mathlib.Omega.{arith}
use lib.ListN.{length}
use mathlib.Core.Bool.{Bool}
use mathlib.Core.List.{[]}
use Prim.Native.Nat.{ℕ, ◌<◌}
use Rattle.std.specs.Prelude.{IfSome}
use Rattle.nest.specs.Nest.{count_of}
use Rattle.nest.specs.Points.{points_of}
use Rattle.nest.specs.Sources.{source_rank}
use Rattle.nest.proofs.Accepted.{count_is}
use Rattle.nest.proofs.PointLaws.{array_point}
use Rattle.nest.specs.declared.LoopNest.{LoopNest}
use Rattle.execution.specs.declared.finding.Seen.{Seen}
use Rattle.execution.specs.Rules.{there}
use Rattle.execution.specs.Inner.{view_in, option_in}
use Rattle.execution.proofs.BitLaws.{every-none}
use Rattle.execution.proofs.FindingLaws.{every_next, every_stops}
use Rattle.execution.proofs.SourceLaws.{source-is, source_below}
use Rattle.execution.proofs.finding.Seen.all_there.Goals as goal
use Rattle.execution.proofs.finding.Seen.all_there.Goals.{Start, After-source_at, After-is_there}

-- the test of one source
abbrev source_test : Seen → LoopNest → ℕ → ℕ → ℕ → Bool
source_test v s p k i = there (view_in [] v.processors.now v.done.now v.delivered.now) p k i (source_rank s k i)

-- the iteration is one of the nest's
one : (c : Start) → c.args.k < length (points_of c.args.s.now.nest)
one c = omega (arith, c.args.s.now.counted)

pub loop-i-init : goal.loop-i-init
loop-i-init c = every-none _

pub source_at-requires : goal.source_at-requires
source_at-requires c =
    let s = c.args.s.now.nest in
    (array_point s c.args.k c.point_of-point.result (one (goal.at.source_at-requires c).Start) c.point_of-point.ensures, omega arith)

-- what is answered is the source
source : (c : After-source_at) → option_in c.source_at.result ≡ source_rank c.args.s.now.nest c.args.k c.loop-i.i
source c = source-is c.args.s.now.nest c.args.k c.loop-i.i c.point_of-point.result (one (goal.at.After-source_at c).Start) c.point_of-point.ensures c.source_at.result c.source_at.ensures

pub is_there-requires : goal.is_there-requires
is_there-requires c =
    let s = c.args.s.now in
    let n = s.counted in
    record {
      source = subst (λ m. IfSome c.source_at.result (λ j. j < m)) (sym (c.requires.0 ∙ n)) (source_below s.nest c.args.k c.loop-i.i c.point_of-point.result (one (goal.at.is_there-requires c).Start) c.point_of-point.ensures c.source_at.result c.source_at.ensures);
      place = (omega (arith, c.requires.0, c.requires.1), omega (arith, (count_is s.nest s.accepted).1));
    }

-- so the test is that of the source
test : (c : After-is_there) → c.is_there.result ≡ source_test c.args.self.now c.args.s.now.nest c.args.p c.args.k c.loop-i.i
test c = c.is_there.ensures ∙ ap (λ o. let v = c.args.self.now in there (view_in [] v.processors.now v.done.now v.delivered.now) c.args.p c.args.k c.loop-i.i o) (source (goal.at.After-is_there c).After-source_at)

pub returns-then-not-is_there : goal.returns-then-not-is_there
returns-then-not-is_there c =
    every_stops _ (count_of c.args.s.now.nest) c.loop-i.i c.is_there.result (omega arith) (test (goal.at.returns-then-not-is_there c).After-is_there) c.if-not-is_there.true

pub loop-i-preserved : goal.loop-i-preserved
loop-i-preserved c =
    every_next _ c.loop-i.i c.is_there.result c.loop-i.invariant (test (goal.at.loop-i-preserved c).After-is_there) c.if-not-is_there.false
