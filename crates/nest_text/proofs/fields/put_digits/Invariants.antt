-- `put_digits` writes the digits of a number at the end of a field. The invariant: those from column
-- `at` on are written, and `rest` is what the others say.
use mathlib.Core.Path.{◌≡◌}
use mathlib.Core.List.{[]}
use Prim.Native.Nat.{◌≤◌, ◌<◌, ◌^◌}
use lib.ListN.{length, drop, take}
use Rattle.nest_text.specs.Fields.{columns, digits_to}
use Rattle.nest_text.proofs.fields.put_digits.Given as goal

abbrev pub invariant-loop-at : goal.invariant-loop-at
invariant-loop-at l = record {
  some : 1 ≤ l.at;
  few : l.at ≤ columns;
  long : length l.out ≡ columns;
  before : take l.at l.out ≡ take l.at l.initial.out;
  small : l.rest < 10 ^ l.at;
  digits : digits_to columns l.n [] ≡ digits_to l.at l.rest (drop l.at l.out);
}
