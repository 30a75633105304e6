-- `put_dependences` stores a line for each dependence. The invariant: those of the dependences that
-- were passed stand in the buffer.
use mathlib.Core.Path.{◌≡◌}
use mathlib.Core.List.{flat_map}
use Prim.Native.Nat.{◌+◌, ◌*◌}
use lib.ListN.{length, drop}
use Rattle.std.specs.Iterator.Adapters.{take_source, take_count}
use Rattle.std.specs.Slice.Iter.{chunks_exact_rest, chunks_exact_size}
use Rattle.integers.specs.Lists.{tab}
use Rattle.nest.specs.Nest.{dependence_at, max_depth}
use Rattle.nest_text.specs.Text.{line_length, line}
use Rattle.nest_text.specs.Stored.{Stored}
use Rattle.nest_text.proofs.writer.put_dependences.Given as goal

abbrev pub invariant-loop-row : goal.invariant-loop-row
invariant-loop-row l = record {
  left : take_count l.row-iterator + length l.yielded ≡ l.m;
  rest : chunks_exact_rest (take_source l.row-iterator) ≡ drop (length l.yielded * max_depth) l.dependences;
  size : chunks_exact_size (take_source l.row-iterator) ≡ max_depth;
  place : l.end ≡ l.at + line_length l.n * length l.yielded;
  stored : Stored l.initial.out l.at (flat_map line (tab (dependence_at l.dependences l.n) (length l.yielded))) l.out l.end;
}
