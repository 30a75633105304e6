-- `read_line` answers whether the text begins with a line of k fields, and its numbers. The
-- invariant: the numbers of the fields so far stand in the row.
use Rattle.std.proofs.Common.{◌≡◌, ◌*◌, take, drop}
use Rattle.std.specs.Iterator.Adapters.{enumerate_source, enumerate_count}
use Rattle.std.specs.Slice.Iter.{chunks_exact_rest, chunks_exact_size}
use Rattle.nest_text.specs.Fields.{columns}
use Rattle.nest_text.proofs.LineLaws.{LineRead}
use Rattle.nest_text.proofs.reader.read_line.Given as goal

abbrev pub invariant-loop-i : goal.invariant-loop-i
invariant-loop-i l = record {
  rest : chunks_exact_rest (enumerate_source l.i-iterator) ≡ drop (columns * enumerate_count l.i-iterator) (take (columns * l.k) l.text);
  size : chunks_exact_size (enumerate_source l.i-iterator) ≡ columns;
  read : LineRead l.text l.k (enumerate_count l.i-iterator) l.row;
}
