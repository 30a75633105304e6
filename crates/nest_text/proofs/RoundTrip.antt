-- The texts of an accepted nest (document 02, U1): a text is read as the nest, with 0 in the places
-- that are no part of it, exactly if it is what is written for it, or its long form where that is
-- short. So what was written is read as it was, and what was read is written as it stood, but for a
-- long last line of equal boundary values, which comes back short.
-- Assumes nothing.
use mathlib.Core.Path.{◌≡◌, refl, sym, ap, ap₂, subst, ◌∙◌}
use mathlib.Core.Bool.{true, false}
use mathlib.Core.List.{List, [], ◌∷◌, ◌++◌, map, flat_map, Memᴰ}
use mathlib.Core.Logic.{◌⊎◌, inl, inr, ⊎_elim, ◌↔◌}
use Prim.Native.Nat.{ℕ, zero, suc, ◌+◌, ◌*◌, ◌≤◌, ◌<◌}
use native.Mathlib.Omega.{arith}
use lib.IntN.{ℤ, pos}
use lib.Signed.{le_z, le_z_yes, ◌≤ℤ◌}
use lib.ListN.{length, get_or, replicate, length-append, get_or-replicate}
use Rattle.integers.specs.Lists.{tab}
use Rattle.integers.proofs.Lists.{and_true, true_T, map-tab, split, below_or_not, get_or-tab}
use Rattle.nest.specs.declared.LoopNest.{LoopNest}
use Rattle.nest.specs.Nest.{to_ℕ, part, depth_of, count_of, limit_at, limits_of, time_of, dependence_at, dependences_of}
use Rattle.nest.specs.Nest.{boundaries_of, weights_of, cleared, max_depth}
use Rattle.nest.specs.Refusals.{first_met, header_order, refusal}
use Rattle.nest.proofs.FirstMet.{accepted-header}
use Rattle.nest_text.specs.Answered.{Reading}
use Rattle.nest_text.specs.Fields.{columns, newline, least_number, greatest_number, Bytes, field_of}
use Rattle.nest_text.specs.Text.{at, line_length, text_length}
use Rattle.nest_text.specs.Text.{line, short_last, long_last, differ, last_of, lines_with, lines_of, text_with, text_of}
use Rattle.nest_text.specs.Text.{are_lines, line_numbers, header_width, Shape, widths, short_width, long_width, shapes}
use Rattle.nest_text.specs.Text.{shapes_of, fits, first_fitting}
use Rattle.nest_text.specs.Text.{is_headed, header_width_of, header_numbers, headed, header_of, rest_of, is_shaped}
use Rattle.nest_text.specs.Text.{body_numbers, nest_from, body_of, read_refusal, read_nest}
use Rattle.nest_text.specs.Reader.{header_refusal, last_width}
use Rattle.nest_text.specs.Stored.{InColumns}
use Rattle.nest_text.specs.Form.{Consists, LastSays, Whole, LongEqual, TextFor, WrittenRead}
use Rattle.nest_text.proofs.WriteLaws.{field_length}
use Rattle.nest.proofs.Spans.{Spans, spans, HeaderSpans, header_spans}
use Rattle.nest.proofs.Places.{SameParts, accepted-same, cleared-refusal}
use Rattle.nest_text.proofs.TextLength.{shape_line, shape-columns, limits-columns, time-columns}
use Rattle.nest_text.proofs.TextLength.{dependence-columns, boundary-columns, weight-columns, text_with_lem}
use Rattle.nest_text.proofs.LineLaws.{numbers-length}
use Rattle.nest_text.proofs.LineBack.{headed-line, numbers-line, rest-line}
use Rattle.nest_text.proofs.LineBack.{AllInColumns, LinesInColumns, LineRead, all_append, all-tab, all-length}
use Rattle.nest_text.proofs.LineBack.{line_read, lines-read, line_again, lines_again, lines-widths, consists_written}
use Rattle.nest_text.proofs.LineBack.{written_consists}
use Rattle.nest_text.proofs.ShapeLaws.{fitting_fits, header-line, header-numbers}
use Rattle.nest_text.proofs.LastLine.{width-listed, shapes-first, shapes_fit}
use Rattle.nest_text.proofs.EqualValues.{differ_words, last-long, last_short, boundaries_equal, last_written, one_last}
use Rattle.nest_text.proofs.EqualValues.{short_last_lem}
use Rattle.nest.proofs.Lengths.{boundaries-length, weights-length}
use Rattle.nest_text.proofs.ReadLaws.{same_shape, header_checked, header-zero, whole-passed, header-form}
use Rattle.nest_text.proofs.ReadLaws.{header-fits, rest-form, rest_checked}
use Rattle.nest_text.proofs.NestLines.{Lines, pair, body_lines, says-width, nest_again, body-widths, triple_back}
use Rattle.nest_text.proofs.NestLines.{Parts, parts, made, made_is, made-says, made-lines, made-clear}

-- ---- every number of every line has room in six columns

-- lines behind lines
lines-append : (xs ys : Lines) → LinesInColumns xs → LinesInColumns ys → LinesInColumns (xs ++ ys)
lines-append [] ys h k = k
lines-append (x ∷ xs) ys h k = (h.0, lines-append xs ys h.1 k)

-- a table of lines
lines-tab : (g : ℕ → List ℤ) (k : ℕ) → ((i : ℕ) → i < k → AllInColumns (g i)) → LinesInColumns (tab g k)
unfolding tab
lines-tab g zero h = tt
lines-tab g (suc k) h = lines-append (tab g k) (g k ∷ []) (lines-tab g k (λ i l. h i (omega arith))) (h k (omega arith), tt)

-- line 1
shape_in : (s : LoopNest) → Spans s → AllInColumns (shape_line s)
shape_in s h = let c = shape-columns s h in (c 0 (omega arith), (c 1 (omega arith), (c 2 (omega arith), tt)))

-- the lines behind it
body_in : (s : LoopNest) (last : List ℤ) → Spans s → AllInColumns last → LinesInColumns (body_lines s last)
unfolding limits_of time_of dependences_of part
body_in s last h l =
    lines-append (map pair (limits_of s)) (time_of s ∷ (dependences_of s ++ (last ∷ [])))
    (subst LinesInColumns (sym (map-tab pair (limit_at s.lower s.upper) (depth_of s)))
    (lines-tab (λ k. pair (limit_at s.lower s.upper k)) (depth_of s) (λ k l. let c = limits-columns s h k l in (c.0, (c.1, tt))))) (
      all-tab (λ k. get_or s.time (0 + k) (pos 0)) (depth_of s) (time-columns s h),
      lines-append (dependences_of s) (last ∷ [])
          (lines-tab (dependence_at s.dependences (depth_of s)) (count_of s) (λ i l. all-tab (λ k. get_or s.dependences (i * max_depth + k) (pos 0)) (depth_of s) (dependence-columns s h i l)))
          (l, tt),
    )

-- the last line, in either form
last_in : (s : LoopNest) (last : List ℤ) → Spans s → LastSays s last → AllInColumns last
unfolding boundaries_of weights_of part
last_in s last h (inl e) =
    subst AllInColumns (sym e)
    (all_append (boundaries_of s) (weights_of s) (all-tab (λ i. get_or s.boundaries (0 + i) (pos 0)) (count_of s) (boundary-columns s h)) (all-tab (λ i. get_or s.weights (0 + i) (pos 0)) (count_of s) (weight-columns s h)))
last_in s last h (inr (z, b, e)) =
    let first : get_or s.boundaries (0 + 0) (pos 0) ≡ z =
    sym (get_or-tab (λ i. get_or s.boundaries (0 + i) (pos 0)) (count_of s) 0 (pos 0) h.count_some) ∙ ap (λ zs. get_or zs 0 (pos 0)) b ∙ get_or-replicate (count_of s) 0 z (pos 0) h.count_some in
    subst AllInColumns (sym e) (subst InColumns first (boundary-columns s h 0 h.count_some), all-tab (λ i. get_or s.weights (0 + i) (pos 0)) (count_of s) (weight-columns s h))

-- every line of an accepted nest
lines_in : (s : LoopNest) (last : List ℤ) → refusal s ≡ 0 → LastSays s last → LinesInColumns (lines_with s last)
unfolding lines_with
lines_in s last e says = (shape_in s (spans s e), body_in s last (spans s e) (last_in s last (spans s e) says))

-- each number of a line
all-each : (zs : List ℤ) → AllInColumns zs → (z : ℤ) → Memᴰ z zs → InColumns z
all-each [] h z m = elim m [ ]
all-each (x ∷ zs) h z (Memᴰ.head e) = subst InColumns (sym e) h.0
all-each (x ∷ zs) h z (Memᴰ.tail m) = all-each zs h.1 z m

-- each line
lines-each : (ls : Lines) → LinesInColumns ls → (zs : List ℤ) → Memᴰ zs ls → AllInColumns zs
lines-each [] h zs m = elim m [ ]
lines-each (l ∷ ls) h zs (Memᴰ.head e) = subst AllInColumns (sym e) h.0
lines-each (l ∷ ls) h zs (Memᴰ.tail m) = lines-each ls h.1 zs m

-- every number that is written for an accepted nest is from -99999 to 999999, and its field has six
-- bytes
pub fits-columns : (s : LoopNest) → refusal s ≡ 0 → (zs : List ℤ) → Memᴰ zs (lines_of s) → (z : ℤ) → Memᴰ z zs
    → (least_number ≤ℤ z) × (z ≤ℤ greatest_number) × (length (field_of z) ≡ columns)
fits-columns s e zs m z n =
    let c = all-each zs (lines-each (lines_of s) (lines_in s (last_of s) e (last_written s)) zs m) z n in
    let b = and_true (le_z least_number z) (le_z z greatest_number) c in
    (le_z_yes (true_T b.0), le_z_yes (true_T b.1), field_length z c)

-- an accepted text is read as what its lines say
pub read_is : (bs : Bytes) → read_refusal bs ≡ 0 → read_nest bs ≡ body_of bs
read_is bs e = sym (ap (λ (x : Reading). x.nest) (whole-passed bs e))

-- ---- what was written is read

-- line 1 and the other lines, read from the text
record TextRead (s : LoopNest) (bs : Bytes) : Type 0 where
  first : is_headed bs ≡ true
  header : header_of bs ≡ headed (shape_line s)
  others : is_shaped bs ≡ true
  body : body_of bs ≡ cleared s

module _ (s : LoopNest) (last : List ℤ) (says : LastSays s last) (bs rest : Bytes) (r : LineRead (shape_line s) rest bs) (b : (are_lines (map length (body_lines s last)) rest ≡ true) × (line_numbers (map length (body_lines s last)) rest ≡ body_lines s last)) where
  -- line 1 is in form
  first_read : is_headed bs ≡ true
  first_read = headed-line (shape_line s) rest bs r (Memᴰ.head refl)

  -- it says what it said
  header_read_lem : header_of bs ≡ headed (shape_line s)
  unfolding header_of
  header_read_lem = ap headed (numbers-line (shape_line s) rest bs r (Memᴰ.head refl))

  -- the other lines stand behind it
  rest_read : rest_of bs ≡ rest
  rest_read = rest-line (shape_line s) rest bs r (Memᴰ.head refl)

  -- so their shapes are those of the nest
  shapes-read : shapes_of (header_of bs) ≡ shapes_of s
  unfolding headed
  shapes-read = ap shapes_of header_read_lem

  -- that of the lines is one of them
  shape-listed : Memᴰ (map length (body_lines s last)) (shapes_of s)
  unfolding shapes
  shape-listed = ⊎_elim
      (λ w. Memᴰ.head (body-widths s last ∙ ap (widths (depth_of s) (count_of s)) w))
      (λ w. Memᴰ.tail (Memᴰ.head (body-widths s last ∙ ap (widths (depth_of s) (count_of s)) w)))
      (says-width s last says)

  -- and fits
  fits_read : (fits (shapes_of s) rest ≡ true) × (first_fitting (shapes_of s) rest ≡ map length (body_lines s last))
  fits_read = shapes_fit (depth_of s) (count_of s) rest (map length (body_lines s last)) shape-listed b.0

  -- they are in form
  others-read : is_shaped bs ≡ true
  unfolding is_shaped
  others-read = ap₂ fits shapes-read rest_read ∙ fits_read.0

  -- the shape by which they are read is that of the lines
  shape-read : first_fitting (shapes_of (header_of bs)) (rest_of bs) ≡ map length (body_lines s last)
  shape-read = ap₂ first_fitting shapes-read rest_read ∙ fits_read.1

  -- and the lines give the nest
  body-read : body_of bs ≡ cleared s
  unfolding body_of body_numbers headed
  body-read =
      ap₂ (λ (x : LoopNest) (ls : Lines). nest_from (depth_of x) (count_of x) x.cube ls) header_read_lem (ap₂ line_numbers shape-read rest_read ∙ b.1) ∙ nest_again s last says

-- a text of a nest with its numbers in columns
text-read : (s : LoopNest) (last : List ℤ) → LastSays s last → LinesInColumns (lines_with s last) → TextRead s (text_with s last)
unfolding text_with lines_with flat_map
text-read s last says h =
    let rest = flat_map line (body_lines s last) in
    let bs = line (shape_line s) ++ rest in
    let r = line_read (shape_line s) rest h.0 in
    let b = lines-read (body_lines s last) h.1 in
    record {
      first = first_read s last says bs rest r b;
      header = header_read_lem s last says bs rest r b;
      others = others-read s last says bs rest r b;
      body = body-read s last says bs rest r b;
    }

-- a line 1 with these numbers meets the conditions that the nest meets
shape_same : (s : LoopNest) → first_met (headed (shape_line s)) header_order ≡ first_met s header_order
unfolding headed
shape_same s = same_shape (headed (shape_line s)) s refl refl refl

-- it is answered as the nest with 0 in the places that are no part of it, where line 1 passes
text-answered : (s : LoopNest) (last : List ℤ) → LastSays s last → LinesInColumns (lines_with s last) → first_met s header_order ≡ 0 → read_refusal (text_with s last) ≡ refusal (cleared s)
text-answered s last says h e =
    let bs = text_with s last in
    let r = text-read s last says h in
    let none = header_checked bs r.first ∙ ap (λ x. first_met x header_order) r.header ∙ shape_same s ∙ e in
    rest_checked bs none r.others ∙ ap refusal r.body

-- a text of an accepted nest is read as that nest, with 0 in the places that are no part of it
said_read : (s : LoopNest) (last : List ℤ) → refusal s ≡ 0 → LastSays s last → (read_refusal (text_with s last) ≡ 0) × (read_nest (text_with s last) ≡ cleared s)
said_read s last e says =
    let h = lines_in s last e says in
    let zero_is = text-answered s last says h (accepted-header s e) ∙ (cleared-refusal s ∙ e) in
    (zero_is, read_is (text_with s last) zero_is ∙ (text-read s last says h).body)

-- ---- what was read is written

-- line 1 has the numbers that it is read as
pub header_is : (bs : Bytes) → is_headed bs ≡ true → (header_of bs).depth ∷ (header_of bs).count ∷ (header_of bs).cube ∷ [] ≡ header_numbers bs
unfolding header_of headed
header_is bs h = triple_back (header_numbers bs) (ap length (header-numbers bs h) ∙ numbers-length header_width bs)

-- a text that says a nest is a text of the nest
whole-text : (bs : Bytes) (s : LoopNest) (w : Whole bs s) → LinesInColumns (lines_with s w.last) × (bs ≡ text_with s w.last)
unfolding text_with
whole-text bs s w = consists_written bs (lines_with s w.last) w.lines_are

-- and is read as that nest
pub whole-body : (bs : Bytes) (s : LoopNest) → Whole bs s → body_of bs ≡ s
whole-body bs s w = let t = whole-text bs s w in ap body_of t.1 ∙ (text-read s w.last w.last_says t.0).body ∙ w.other_places

-- a text in form, with line 1 in span, says the nest that is read
pub body-whole : (bs : Bytes) → header_refusal bs ≡ 0 → is_shaped bs ≡ true → Whole bs (body_of bs)
unfolding body_of body_numbers is_shaped header_numbers rest_of
body-whole bs none others =
    subst (Whole bs) (sym (made_is n m k c ls p few wide)) (record {
      last = p.last;
      last_says = made-says n m k c ls p few wide;
      lines_are = subst (Consists bs) (sym lines) (written_consists bs (header_numbers bs ∷ ls) (first.0, rest.0) text);
      other_places = made-clear n m k c ls p few wide;
    })
  where
    y : LoopNest
    y = header_of bs

    n : ℕ
    n = depth_of y

    m : ℕ
    m = count_of y

    c : ℤ
    c = y.cube

    -- the shape by which the lines are read
    shape : Shape
    shape = first_fitting (shapes n m) (rest_of bs)

    -- the number of fields of the last line
    k : ℕ
    k = last_width n m (length (rest_of bs))

    wide : (k ≡ short_width m) ⊎ (k ≡ long_width m)
    wide = width-listed n m (length (rest_of bs))

    shape_is : shape ≡ widths n m k
    shape_is = shapes-first n m (rest_of bs) others

    ls : Lines
    ls = line_numbers shape (rest_of bs)

    sh : HeaderSpans y
    sh = header_spans y (header-fits bs none)

    few : n ≤ max_depth
    few = sh.depth_few

    p : Parts n m k ls
    p = parts n m k ls (lines-widths shape (rest_of bs) ∙ shape_is)

    first : AllInColumns (header_numbers bs) × (bs ≡ line (header_numbers bs) ++ rest_of bs)
    first = line_again (header_width_of bs) bs (header-line bs (header-form bs none))

    rest : LinesInColumns ls × (rest_of bs ≡ flat_map line ls)
    rest = lines_again shape (rest_of bs) (fitting_fits (shapes n m) (rest_of bs) others)

    text : bs ≡ flat_map line (header_numbers bs ∷ ls)
    text = unfold flat_map in first.1 ∙ ap (λ l. line (header_numbers bs) ++ l) rest.1

    lines : lines_with (made n m k c ls p few wide) p.last ≡ header_numbers bs ∷ ls
    lines = made-lines n m k c ls p few wide ∙ ap (λ (z : List ℤ). z ∷ ls) (ap₂ (λ (a b : ℤ). a ∷ b ∷ c ∷ []) (sym sh.depth_is) (sym sh.count_is) ∙ header_is bs (header-form bs none))

-- ---- the law of the text

-- a last line says the same of nests with the same parts
module _ {s t : LoopNest} (q : SameParts s t) where
  same-says : (last : List ℤ) → LastSays s last → LastSays t last
  same-says last (inl e) = inl (e ∙ ap₂ (λ (a b : List ℤ). a ++ b) q.boundaries_are q.weights_are)
  same-says last (inr (z, b, e)) = inr (
    z,
    sym q.boundaries_are ∙ b ∙ ap (λ c. replicate (to_ℕ c) z) q.counts,
    e ∙ ap (λ (w : List ℤ). z ∷ w) q.weights_are,
  )

  -- so they have the same texts
  same_text : (last : List ℤ) → text_with s last ≡ text_with t last
  unfolding text_with lines_with
  same_text last = λ i. flat_map line ((q.depths i ∷ q.counts i ∷ q.cubes i ∷ []) ∷ (map pair (q.limits i) ++ (q.times i ∷ (q.dependences_are i ++ (last ∷ [])))))

-- a text with a last line that says its boundary values and weights is one of those that are read as
-- it
says_for : (s : LoopNest) (last : List ℤ) → 1 ≤ count_of s → LastSays s last → TextFor s (text_with s last)
says_for s last some (inl e) = split (differ (boundaries_of s)) (λ t. inl (ap (text_with s) (e ∙ sym (last-long s t)))) equal
  where
    equal : differ (boundaries_of s) ≡ false → TextFor s (text_with s last)
    equal f = ⊎_elim
        (λ (l : count_of s < 2). inl (ap (text_with s) (e ∙ one_last s (omega arith) ∙ sym (last_short s f))))
        (λ (l : 2 ≤ count_of s). inr (l, (differ_words (boundaries_of s)).0 f, ap (text_with s) e))
        (below_or_not (count_of s) 2)
says_for s last some (inr (z, b, e)) = inl (ap (text_with s) (e ∙ sym (short_last_lem s z some b)))

-- and each of those has such a last line
for_says : (s : LoopNest) (bs : Bytes) → TextFor s bs → (last : List ℤ) × LastSays s last × (bs ≡ text_with s last)
for_says s bs (inl e) = (last_of s, last_written s, e)
for_says s bs (inr (few, equal, e)) = (long_last s, inl refl, e)

-- what a text of an accepted nest says
pub body_said : (bs : Bytes) → read_refusal bs ≡ 0 → Whole bs (read_nest bs)
body_said bs e = let none = header-zero bs e in subst (Whole bs) (sym (read_is bs e)) (body-whole bs none (rest-form bs none e))

-- a text is read as an accepted nest exactly if it is what is written for the nest, or the nest has
-- two dependences or more, all its boundary values are equal and it is its long form
pub reads_as : (s : LoopNest) → refusal s ≡ 0 → (bs : Bytes) → ((read_refusal bs ≡ 0) × (read_nest bs ≡ cleared s)) ↔ TextFor s bs
reads_as s ok bs = (there, back)
  where
    there : (read_refusal bs ≡ 0) × (read_nest bs ≡ cleared s) → TextFor s bs
    there (e, q) =
        let w : Whole bs (cleared s) = subst (Whole bs) q (body_said bs e) in
        let same = accepted-same s ok in
        subst (TextFor s) (sym ((whole-text bs (cleared s) w).1 ∙ same_text same w.last))
        (says_for s w.last (spans s ok).count_some (same-says same w.last w.last_says))

    back : TextFor s bs → (read_refusal bs ≡ 0) × (read_nest bs ≡ cleared s)
    back t =
        let l = for_says s bs t in
        subst (λ x. (read_refusal x ≡ 0) × (read_nest x ≡ cleared s)) (sym l.2) (said_read s l.0 ok l.1)

-- so reading what was written gives the same nest, with 0 in the places that are no part of it
pub read-written : (s : LoopNest) → refusal s ≡ 0 → (read_refusal (text_of s) ≡ 0) × (read_nest (text_of s) ≡ cleared s)
read-written s e = (reads_as s e (text_of s)).1 (inl refl)

-- and writing what was read gives the same bytes, or the short text of the same nest where the last
-- line was a long one of equal boundary values
pub written_read : (bs : Bytes) → read_refusal bs ≡ 0 → WrittenRead bs
written_read bs e = record { accepted = ok; clear_places = clear; bytes_are = ⊎_elim (λ t. inl (sym t)) again ((reads_as s ok bs).0 (e, sym clear)) }
  where
    s : LoopNest
    s = read_nest bs

    w : Whole bs s
    w = body_said bs e

    ok : refusal s ≡ 0
    ok = let none = header-zero bs e in ap refusal (read_is bs e) ∙ sym (rest_checked bs none (rest-form bs none e)) ∙ e

    clear : cleared s ≡ s
    clear = w.other_places

    again : LongEqual s bs → (text_of s ≡ bs) ⊎ (LongEqual s bs × (text_of s ≡ text_with s (short_last s)))
    again l = inr (l, ap (text_with s) (last_short s ((differ_words (boundaries_of s)).1 l.1)))

-- ---- how long texts of a nest are

-- a line of numbers in columns
line-long : (zs : List ℤ) → AllInColumns zs → length (line zs) ≡ line_length (length zs)
unfolding line
line-long zs h = length-append (flat_map field_of zs) (newline ∷ []) ∙ omega (arith, all-length zs h)

-- a text by the length of its last line
said_length : (s : LoopNest) (last : List ℤ) → refusal s ≡ 0 → LastSays s last → length (text_with s last) ≡ text_length (depth_of s) (count_of s) (length last)
said_length s last ok says = text_with_lem s (spans s ok) last (length last) (line-long last (last_in s last (spans s ok) says))

-- what is written is no longer than what was read
pub written_shorter : (bs : Bytes) → read_refusal bs ≡ 0 → length (text_of (read_nest bs)) ≤ length bs
written_shorter bs e = by (written_read bs e)
  where
    s : LoopNest
    s = read_nest bs

    by : WrittenRead bs → length (text_of s) ≤ length bs
    by w = ⊎_elim (λ t. omega (arith, ap length t)) short w.bytes_are
      where
        ok : refusal s ≡ 0
        ok = w.accepted

        short : LongEqual s bs × (text_of s ≡ text_with s (short_last s)) → length (text_of s) ≤ length bs
        short (l, t) =
            let f = (differ_words (boundaries_of s)).1 l.1 in
            let a = said_length s (short_last s) ok (inr (at (boundaries_of s) 0, boundaries_equal s f, refl)) in
            let b = said_length s (long_last s) ok (inl refl) in
            let c = length-append (boundaries_of s) (weights_of s) in
            omega (arith, ap length t, ap length l.2, a, b, c, l.0, boundaries-length s, weights-length s)
