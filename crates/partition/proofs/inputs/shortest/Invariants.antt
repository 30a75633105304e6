-- `shortest` answers the shortest vector of which p is a multiple. The loop's invariant: no larger number that is tried divides p.
use Rattle.std.proofs.Common.{◌≤ℤ◌, pos}
use Rattle.partition.proofs.LineLaws.{NoneAbove}
use Rattle.partition.proofs.inputs.shortest.Given as goal

abbrev pub invariant-loop-g : goal.invariant-loop-g
invariant-loop-g l = record {
  some : pos 1 ≤ℤ l.g;
  most : l.g ≤ℤ pos 16;
  none : NoneAbove l.p l.g;
}
