-- `put_fields` meets its contract. Assumes nothing.
use Rattle.std.proofs.Common.{rules, ◌≡◌, ◌+◌, ◌≤◌, pos, length, get_or, take, drop, arith, zero-add}
use mathlib.Core.List.{◌++◌, flat_map}
use Rattle.nest_text.specs.Fields.{columns, field_of}
use Rattle.nest_text.specs.Stored.{InColumns}
use Rattle.nest_text.proofs.WriteLaws.{stored-none, fields_more}
use Rattle.nest_text.proofs.writer.put_fields.Goals as goal

pub loop-z-init : goal.loop-z-init
unfolding flat_map
loop-z-init c = record { place = omega arith; stored = stored-none c.args.out.now c.args.at }

pub loop-z-preserved : goal.loop-z-preserved
loop-z-preserved c =
    let l = c.loop-z in
    let i = l.z-index in
    let xs = c.args.numbers.now in
    let z = get_or xs i (pos 0) in
    let e : c.write_at.new.line ≡ take l.end l.out ++ (field_of z ++ drop (l.end + columns) l.out) = search rules in
    let room : l.end + columns ≤ length l.out = omega arith in
    let fits : InColumns z = rw zero-add at (c.requires.1 i c.loop-z-test.true) in
    record {
      place = omega arith;
      stored = fields_more xs i c.loop-z-test.true l.invariant.stored fits room e;
    }
