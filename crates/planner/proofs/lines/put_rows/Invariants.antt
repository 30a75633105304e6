-- `put_rows` stores a line for each iteration. The invariant: those of the iterations passed stand in the buffer.
use mathlib.Core.Path.{◌≡◌}
use mathlib.Core.List.{flat_map}
use Prim.Native.Nat.{◌+◌, ◌*◌, ◌≤◌}
use lib.ListN.{length, drop}
use Rattle.integers.specs.Lists.{tab}
use Rattle.nest_text.specs.Text.{line}
use Rattle.nest_text.specs.Stored.{Stored}
use Rattle.planner.specs.Listing.{row_bytes, row_of}
use Rattle.planner.proofs.lines.put_rows.Given as goal

abbrev pub invariant-loop-rank : goal.invariant-loop-rank
invariant-loop-rank l =
    let it = l.rank-iterator in record {
      passed : it.count ≤ length l.steps;
      steps : it.iter.a.a.a.rest.now ≡ drop it.count l.steps;
      blocks : it.iter.a.a.b.rest.now ≡ drop it.count l.blocks;
      processors : it.iter.a.b.rest.now ≡ drop it.count l.processors;
      values : it.iter.b.rest.now ≡ drop it.count l.values;
      end : l.end ≡ l.at + row_bytes * it.count;
      stored : Stored l.initial.out l.at (flat_map line (tab (row_of l.steps l.blocks l.processors l.values) it.count)) l.out l.end;
    }
