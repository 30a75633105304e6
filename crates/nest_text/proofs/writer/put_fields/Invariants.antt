-- `put_fields` stores the fields of numbers one behind the other. The invariant: those of the
-- numbers that were passed stand in the buffer.
use mathlib.Core.Path.{◌≡◌}
use mathlib.Core.List.{flat_map}
use Prim.Native.Nat.{◌+◌, ◌*◌}
use lib.ListN.{take}
use Rattle.nest_text.specs.Fields.{columns, field_of}
use Rattle.nest_text.specs.Stored.{Stored}
use Rattle.nest_text.proofs.writer.put_fields.Given as goal

abbrev pub invariant-loop-z : goal.invariant-loop-z
invariant-loop-z l = record {
  place : l.end ≡ l.at + columns * l.z-index;
  stored : Stored l.initial.out l.at (flat_map field_of (take l.z-index l.numbers)) l.out l.end;
}
