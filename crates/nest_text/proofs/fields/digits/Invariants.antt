-- `digits` reads a run of digits. The invariant: each of the bytes that were passed is a digit, and
-- they say `value`.
use mathlib.Core.Path.{◌≡◌}
use Prim.Native.Nat.{◌<◌, ◌^◌}
use lib.ListN.{drop}
use Rattle.nest_text.specs.Fields.{all_digits, value_of}
use Rattle.nest_text.proofs.fields.digits.Given as goal

abbrev pub invariant-loop-b : goal.invariant-loop-b
invariant-loop-b l = record {
  form : all_digits l.d ≡ all_digits (drop l.b-index l.d);
  said : value_of 0 l.d ≡ value_of l.value (drop l.b-index l.d);
  small : l.value < 10 ^ l.b-index;
}
