-- `put_limits` stores a line for each loop. The invariant: those of the loops that were passed stand
-- in the buffer.
use mathlib.Core.Path.{◌≡◌}
use mathlib.Core.List.{flat_map}
use Prim.Native.Nat.{◌+◌, ◌*◌}
use lib.ListN.{length}
use Rattle.integers.specs.Lists.{tab}
use Rattle.nest_text.specs.Text.{line_length, limit_width, line}
use Rattle.nest_text.specs.Stored.{Stored}
use Rattle.nest_text.proofs.WriteLaws.{limits}
use Rattle.nest_text.proofs.writer.put_limits.Given as goal

abbrev pub invariant-loop-low : goal.invariant-loop-low
invariant-loop-low l = record {
  place : l.end ≡ l.at + line_length limit_width * length l.yielded;
  stored : Stored l.initial.out l.at (flat_map line (tab (limits l.lower l.upper) (length l.yielded))) l.out l.end;
}
