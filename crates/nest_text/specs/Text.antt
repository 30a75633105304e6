-- The text of a loop nest (document 01, "The sheet"; document 02, U1, for its last line): what is
-- written for a nest, and what a text is read as, with its refusals in the document's order.
-- Assumes nothing.
use Rattle.std.specs.Prelude.{◌≡◌, Bool, true, false, not, ◌&&◌, ℕ, ◌+◌, ◌*◌, ◌-◌, ◌<◌, eqb, ℤ, pos, length, get_or}
use Rattle.std.specs.Prelude.{take, drop, replicate, Option, Some, None}
use mathlib.Core.List.{List, [], ◌∷◌, ◌++◌, map, flat_map}
use Rattle.integers.specs.Lists.{any, first, tab}
use Rattle.integers.specs.Vector.{eq_z}
use Rattle.nest.specs.declared.LoopNest.{LoopNest}
use Rattle.nest.specs.Nest.{Limit, depth_of, count_of, limits_of, time_of, dependences_of, boundaries_of, weights_of}
use Rattle.nest.specs.Nest.{nest_of, empty_nest, max_depth, max_dependences}
use Rattle.nest.specs.Refusals.{first_met, header_order, body_order, refusal, Order, nest_order}
use Rattle.nest.specs.Refusals.{or_else, short_buffer, table_after}
use Rattle.nest_text.specs.Answered.{Reading, Writing}
use Rattle.nest_text.specs.Fields.{Bytes, columns, newline, field_of, read_of}

-- ---- writing

-- each number in six columns, then byte 10
unfoldable pub line : List ℤ → Bytes
line zs = flat_map field_of zs ++ (newline ∷ [])

-- the bytes of a line of k fields: their columns, and byte 10
abbrev pub line_length : ℕ → ℕ
line_length k = columns * k + 1

-- line 1: depth, number of dependences, cube dimension
abbrev pub header_width : ℕ
header_width = 3

-- the line of a loop: lower and upper limit
abbrev pub limit_width : ℕ
limit_width = 2

-- number i of a line; 0 where it has none
abbrev pub at : List ℤ → ℕ → ℤ
at zs i = get_or zs i (pos 0)

-- the short last line: one boundary value for all dependences, then the weights
abbrev pub short_last : LoopNest → List ℤ
short_last s = at (boundaries_of s) 0 ∷ weights_of s

-- the long one: a boundary value for each dependence, then the weights
abbrev pub long_last : LoopNest → List ℤ
long_last s = boundaries_of s ++ weights_of s

-- one of the numbers is another than the first
unfoldable pub differ : List ℤ → Bool
differ zs = any (λ z. not (eq_z z (at zs 0))) zs

-- the last line that is written: the long one, unless all boundary values are equal
unfoldable pub last_of : LoopNest → List ℤ
last_of s = elim (differ (boundaries_of s)) [ true ↦ long_last s | false ↦ short_last s ]

-- the numbers of the lines of a nest, with this last line
unfoldable pub lines_with : LoopNest → List ℤ → List (List ℤ)
lines_with s last =
    (s.depth ∷ s.count ∷ s.cube ∷ [])
    ∷ (map (λ l. l.lower ∷ l.upper ∷ []) (limits_of s) ++ (time_of s ∷ (dependences_of s ++ (last ∷ []))))

-- those that are written for it
abbrev pub lines_of : LoopNest → List (List ℤ)
lines_of s = lines_with s (last_of s)

-- its lines, one after the other
unfoldable pub text_with : LoopNest → List ℤ → Bytes
text_with s last = flat_map line (lines_with s last)

-- what is written for it
abbrev pub text_of : LoopNest → Bytes
text_of s = text_with s (last_of s)

-- how many bytes n lines of limits, the time vector, m dependences and a last line of k fields have
abbrev pub body_length : ℕ → ℕ → ℕ → ℕ
body_length n m k = line_length limit_width * n + line_length n * (m + 1) + line_length k

-- and how many with line 1
abbrev pub text_length : ℕ → ℕ → ℕ → ℕ
text_length n m k = line_length header_width + body_length n m k

-- ---- lines read

-- the field holds no number
abbrev pub is_malformed : Option ℤ → Bool
is_malformed (Some z) = false
is_malformed None = true

-- the number that it holds
abbrev pub number_of : Option ℤ → ℤ
number_of (Some z) = z
number_of None = pos 0

-- field i of a line: its six columns, read as a number
abbrev pub field_at : Bytes → ℕ → Option ℤ
field_at bs i = read_of (take columns (drop (columns * i) bs))

-- the bytes begin with a line of k fields: each is a number, and byte 10 follows
unfoldable pub is_line : ℕ → Bytes → Bool
is_line k bs = not (any is_malformed (tab (field_at bs) k)) && eqb (get_or bs (columns * k) 0) newline

-- the numbers of that line
unfoldable pub numbers_of : ℕ → Bytes → List ℤ
numbers_of k bs = tab (λ i. number_of (field_at bs i)) k

-- the bytes behind it
abbrev pub behind : ℕ → Bytes → Bytes
behind k bs = drop (line_length k) bs

-- lines with these numbers of fields follow one another, and nothing follows the last
unfoldable pub are_lines : List ℕ → Bytes → Bool
are_lines [] bs = eqb (length bs) 0
are_lines (k ∷ ks) bs = elim (is_line k bs) [ true ↦ are_lines ks (behind k bs) | false ↦ false ]

-- the numbers of those lines
unfoldable pub line_numbers : List ℕ → Bytes → List (List ℤ)
line_numbers [] bs = []
line_numbers (k ∷ ks) bs = numbers_of k bs ∷ line_numbers ks (behind k bs)

-- ---- the form of a text: the numbers of fields that its lines may have

-- those that line 1 may have
abbrev pub header_widths : List ℕ
header_widths = header_width ∷ []

-- a shape: the numbers of fields of the lines behind line 1, in their order
abbrev pub Shape : Type 0
Shape = List ℕ

-- n lines of limits, the time vector, m dependences, and a last line of k fields
unfoldable pub widths : ℕ → ℕ → ℕ → Shape
widths n m k = replicate n limit_width ++ (n ∷ (replicate m n ++ (k ∷ [])))

-- the fields of a last line with one boundary value for all m dependences, and then m weights
abbrev pub short_width : ℕ → ℕ
short_width m = 1 + m

-- with one for each
abbrev pub long_width : ℕ → ℕ
long_width m = m + m

-- the shapes that the text of n loops with m dependences may have
unfoldable pub shapes : ℕ → ℕ → List Shape
shapes n m = widths n m (short_width m) ∷ widths n m (long_width m) ∷ []

-- those that the numbers of line 1, as a nest, allow
abbrev pub shapes_of : LoopNest → List Shape
shapes_of s = shapes (depth_of s) (count_of s)

-- one of the listed shapes fits the bytes
unfoldable pub fits : List Shape → Bytes → Bool
fits ws bs = any (λ w. are_lines w bs) ws

-- the first of them that does; no lines where none does
unfoldable pub first_fitting : List Shape → Bytes → Shape
first_fitting ws bs = get_or (first (λ w. are_lines w bs) ws) 0 []

-- ---- line 1

-- it has one of the listed numbers of fields
unfoldable pub is_headed : Bytes → Bool
is_headed bs = any (λ k. is_line k bs) header_widths

-- the first of them that it has; no fields where it has none of them
unfoldable pub header_width_of : Bytes → ℕ
header_width_of bs = get_or (first (λ k. is_line k bs) header_widths) 0 0

-- its numbers
unfoldable pub header_numbers : Bytes → List ℤ
header_numbers bs = numbers_of (header_width_of bs) bs

-- numbers of line 1 in a nest, with 0 in every other place
unfoldable pub headed : List ℤ → LoopNest
headed zs = record {
  depth = at zs 0;
  count = at zs 1;
  cube = at zs 2;
  lower = replicate max_depth (pos 0);
  upper = replicate max_depth (pos 0);
  time = replicate max_depth (pos 0);
  dependences = replicate (max_depth * max_dependences) (pos 0);
  boundaries = replicate max_dependences (pos 0);
  weights = replicate max_dependences (pos 0);
}

-- what line 1 says, where it is in form
unfoldable pub header_of : Bytes → LoopNest
header_of bs = headed (header_numbers bs)

-- ---- the lines behind line 1

-- their bytes
unfoldable pub rest_of : Bytes → Bytes
rest_of bs = behind (header_width_of bs) bs

-- they have one of the shapes that line 1 allows
unfoldable pub is_shaped : Bytes → Bool
is_shaped bs = fits (shapes_of (header_of bs)) (rest_of bs)

-- their numbers, by the first of these shapes that fits
unfoldable pub body_numbers : Bytes → List (List ℤ)
body_numbers bs = line_numbers (first_fitting (shapes_of (header_of bs)) (rest_of bs)) (rest_of bs)

-- the boundary values of m dependences that a last line of k numbers says: one for all where it is
-- a short line, one for each otherwise
unfoldable pub boundaries_in : ℕ → ℕ → List ℤ → List ℤ
boundaries_in m k zs = elim (eqb k (short_width m)) [ true ↦ replicate m (at zs 0) | false ↦ take m zs ]

-- the weights, which are its last m numbers
abbrev pub weights_in : ℕ → ℕ → List ℤ → List ℤ
weights_in m k zs = drop (k - m) zs

-- the nest of n loops with m dependences and cube dimension c whose lines behind line 1 hold these
-- numbers
unfoldable pub nest_from : ℕ → ℕ → ℤ → List (List ℤ) → LoopNest
nest_from n m c ls =
    let limits : List Limit = map (λ l. record { lower = at l 0; upper = at l 1 }) (take n ls) in
    let last = get_or ls (n + 1 + m) [] in
    nest_of c limits (get_or ls n []) (take m (drop (n + 1) ls)) (boundaries_in m (length last) last)
    (weights_in m (length last) last)

-- what the whole text says, where it is in form
unfoldable pub body_of : Bytes → LoopNest
body_of bs = nest_from (depth_of (header_of bs)) (count_of (header_of bs)) (header_of bs).cube (body_numbers bs)

-- ---- what reading answers

-- 1, where the form is not kept
abbrev pub malformed_unless : Bool → ℕ
malformed_unless true = 0
malformed_unless false = 1

-- line 1's form; 2, 3, 4; the form of the other lines; 5 to 13
unfoldable pub read_refusal : Bytes → ℕ
read_refusal bs =
    or_else (malformed_unless (is_headed bs))
    (or_else (first_met (header_of bs) header_order)
    (or_else (malformed_unless (is_shaped bs)) (first_met (body_of bs) body_order)))

-- the nest that is read; 0 in every place where the text is refused
unfoldable pub read_nest : Bytes → LoopNest
read_nest bs = elim (eqb (read_refusal bs) 0) [ true ↦ body_of bs | false ↦ empty_nest ]

-- the bytes that are looked at: the longest text, and one more
-- (proofs/ReadPrefix.antt: those behind them change nothing)
abbrev pub read_most : ℕ
read_most = text_length max_depth max_dependences (long_width max_dependences) + 1

-- ---- writing into a lent buffer: a call that is refused with a number, or not if it is 0, and has
-- these bytes to write

-- that number, then 14 for a buffer with fewer bytes than there are to write
unfoldable pub write_refusal : ℕ → Bytes → ℕ → ℕ
write_refusal number bytes room = or_else number (short_buffer (length bytes) room)

-- the refusals of `write` in their order (proofs/Answers.antt: its number is what they answer)
abbrev pub write_order : LoopNest → ℕ → Order
write_order s room = nest_order s ++ ((14, room < length (text_of s)) ∷ [])

-- how many bytes are written: none where the call is refused
unfoldable pub written_length : ℕ → Bytes → ℕ → ℕ
written_length number bytes room = elim (eqb (write_refusal number bytes room) 0) [ true ↦ length bytes | false ↦ 0 ]

-- what the buffer then holds: the bytes and what stood behind them, or all that it held before
unfoldable pub written : ℕ → Bytes → Bytes → Bytes
written number bytes old = table_after (write_refusal number bytes (length old)) bytes old

-- ---- what calls promise

-- a call of `read` that answers r
abbrev pub Reads : Bytes → Reading → Type 0
Reads text r = r ≡ record { refusal = read_refusal text; nest = read_nest text }

-- a call that writes bytes, unless it is refused with a number other than 0, answers r and leaves
-- the buffer `new`, which it found as `old`
abbrev pub Puts : ℕ → Bytes → Bytes → Writing → Bytes → Type 0
Puts number bytes old r new =
    (r ≡ record {
      refusal = write_refusal number bytes (length old);
      length = written_length number bytes (length old);
    }) × (new ≡ written number bytes old)

-- a call of `write`
abbrev pub Writes : LoopNest → Bytes → Writing → Bytes → Type 0
Writes s old r new = Puts (refusal s) (text_of s) old r new
