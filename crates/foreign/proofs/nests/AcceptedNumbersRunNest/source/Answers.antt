-- `source` meets its contract: the parts that are lent are those of the nest. Assumes nothing.
use mathlib.Core.Path.{◌≡◌, ap, ◌∙◌, sym}
use Prim.Native.Nat.{◌<◌}
use native.Mathlib.Omega.{arith}
use lib.ListN.{length}
use Rattle.nest.specs.declared.LoopNest.{LoopNest}
use Rattle.nest.specs.Nest.{count_of}
use Rattle.nest.specs.NestParts.{nest_of_parts}
use Rattle.nest.specs.Points.{points_of}
use Rattle.nest.specs.Refusals.{refusal}
use Rattle.nest.specs.Sources.{source_rank}
use Rattle.nest.proofs.Accepted.{depth_is, count_is}
use Rattle.foreign.proofs.Lent.{dependence-whole, asked_limits, asked_sizes, answered}
use Rattle.foreign.proofs.nests.AcceptedNumbersRunNest.source.Goals as goal
use Rattle.foreign.proofs.nests.AcceptedNumbersRunNest.source.Goals.{After-parts_in-nest}

-- the nest that is lent is accepted, the iteration and the dependence are there
ok : (c : After-parts_in-nest) → refusal (nest_of_parts c.parts_in-nest.result) ≡ 0
ok c = ap refusal c.parts_in-nest.ensures ∙ c.args.self.now.accepted

there : (c : After-parts_in-nest) → c.args.k < length (points_of (nest_of_parts c.parts_in-nest.result))
there c = let n = c.args.self.now.counted ∙ sym (ap (λ s. length (points_of s)) c.parts_in-nest.ensures) in omega arith

along : (c : After-parts_in-nest) → c.args.i < count_of (nest_of_parts c.parts_in-nest.result)
along c = let m = ap count_of c.parts_in-nest.ensures in omega arith

pub loops-loops-requires : goal.loops-loops-requires
loops-loops-requires c = ok (goal.at.loops-loops-requires c).After-parts_in-nest

pub dependence_at-dependence-requires : goal.dependence_at-dependence-requires
dependence_at-dependence-requires c =
    let b = (goal.at.dependence_at-dependence-requires c).After-parts_in-nest in
    let s = nest_of_parts c.parts_in-nest.result in
    omega (arith, c.loops-loops.ensures.depth, (depth_is s (ok b)).1, (count_is s (ok b)).1, along b, c.parts_in-nest.result.sized.3)

pub source_rank-requires : goal.source_rank-requires
source_rank-requires c =
    let b = (goal.at.source_rank-requires c).After-parts_in-nest in
    let l = c.loops-loops in
    let d = c.dependence_at-dependence in
    let s = nest_of_parts c.parts_in-nest.result in
    record {
      lengths = dependence-whole s (ok b) l.result.lower.now l.result.upper.now l.ensures.depth l.ensures.limits c.args.k c.args.i d.result.now d.ensures (along b);
      limits = asked_limits s (ok b) l.result.lower.now l.result.upper.now l.ensures.depth l.ensures.limits c.args.k c.args.i d.result.now d.ensures (along b) (there b);
      by_index = asked_sizes s (ok b) l.result.lower.now l.result.upper.now l.ensures.depth l.ensures.limits c.args.k c.args.i d.result.now d.ensures (along b);
    }

pub returns : goal.returns
returns c =
    let b = (goal.at.returns c).After-parts_in-nest in
    let l = c.loops-loops in
    let d = c.dependence_at-dependence in
    let k = c.args.k in
    let i = c.args.i in
    answered (nest_of_parts c.parts_in-nest.result) (ok b) l.result.lower.now l.result.upper.now l.ensures.depth l.ensures.limits k i d.result.now d.ensures (along b) c.source_rank.result c.source_rank.ensures
    ∙ ap (λ (s : LoopNest). source_rank s k i) c.parts_in-nest.ensures
