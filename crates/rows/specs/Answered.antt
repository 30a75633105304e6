-- What `locate` and `row` answer, said as the definitions of a row say it. Assumes nothing.
use Rattle.std.specs.Prelude.{List, [], ℕ, Result, Ok, Err}
use Rattle.std.specs.Borrow.{Bor}
use Rattle.nest.specs.declared.refusals.Refusal.{Refusal}
use Rattle.nest.specs.Outcomes.{code}
use Rattle.rows.specs.declared.RowSpan.{RowSpan}
use Rattle.rows.specs.Rows.{Span}

-- 0 with the span, or the number of the refusal with zeros
abbrev pub span_in : Result RowSpan Refusal → Span
span_in (Ok at) = record { refusal = 0; start = at.start; length = at.length }
span_in (Err e) = record { refusal = code e; start = 0; length = 0 }

-- the part of the table; an empty one where the call is refused
abbrev pub part_in : Result (Bor (List ℕ)) Refusal → List ℕ
part_in (Ok part) = part.now
part_in (Err _) = []
