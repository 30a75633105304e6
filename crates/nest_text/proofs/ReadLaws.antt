-- The whole text: each way out of the reader.
-- Assumes nothing.
use mathlib.Core.Path.{◌≡◌, refl, sym, ap, ap₂, subst, ◌∙◌}
use mathlib.Core.Bool.{Bool, true, false}
use mathlib.Core.List.{List, [], flat_map}
use Prim.Native.Nat.{ℕ, ◌+◌, ◌*◌, ◌-◌, ◌≤◌}
use native.Mathlib.Omega.{arith}
use borrow.Author.Tests.{ne_eqb}
use lib.IntN.{ℤ, pos}
use lib.ListN.{length, take, drop}
use lib.Seq.{take-nil, drop-nil}
use Rattle.integers.proofs.Lists.{split}
use Rattle.nest.specs.declared.LoopNest.{LoopNest}
use Rattle.nest.specs.Nest.{depth_of, count_of, padded, empty_nest, with_shape}
use Rattle.nest.specs.Refusals.{holds, first_met, header_order, body_order, or_else, refusal}
use Rattle.nest.proofs.Entries.{or_else-first, or_else-second, or_else_assoc, or_else-zero}
use Rattle.nest.proofs.FirstMet.{behind-header}
use Rattle.nest.proofs.Spans.{HeaderSpans, header_spans}
use Rattle.nest_text.specs.Answered.{Reading, reading_of}
use Rattle.std.proofs.Common.{Option, Some, None, Result}
use Rattle.std.specs.Result.{IsErrAnd}
use Rattle.nest.specs.declared.refusals.Refusal.{Refusal}
use Rattle.nest.specs.Outcomes.{code}
use Rattle.nest.proofs.Outcomes.{number_out, value_out}
use Rattle.nest_text.specs.Fields.{Bytes, columns}
use Rattle.nest_text.specs.Text.{at, numbers_of, behind, line_numbers, header_width, widths, is_headed, header_numbers}
use Rattle.nest_text.specs.Text.{headed, header_of}
use Rattle.nest_text.specs.Text.{rest_of, is_shaped, body_numbers, nest_from, body_of, malformed_unless, read_refusal}
use Rattle.nest_text.specs.Text.{read_nest}
use Rattle.nest_text.specs.Reader.{max_fields, line_of, header_refusal, header_read, last_width, filled, body_read}
use Rattle.nest_text.proofs.FieldLaws.{rest_part}
use Rattle.nest.proofs.Padding.{at-padded}
use Rattle.nest_text.proofs.ShapeLaws.{header-one, header-numbers, rest-behind}
use Rattle.nest_text.proofs.LastLine.{line-inside, width-least, width-most, shapes-first, boundaries-none}
use Rattle.nest_text.proofs.BodyLaws.{answered, unanswered, filled-nest}

-- the answer of the whole
abbrev pub whole_reading : Bytes → Reading
whole_reading bs = record { refusal = read_refusal bs; nest = read_nest bs }

-- a refusal with its number
abbrev pub refused_as : ℕ → Reading
refused_as r = record { refusal = r; nest = empty_nest }

-- the answer where a `?` hands a refusal on
pub reading_out : (r : Result LoopNest Refusal) (e : Refusal) → IsErrAnd r (λ y. y ≡ e) → reading_of r ≡ refused_as (code e)
reading_out r e h = ap₂ (λ (a : ℕ) (s : LoopNest). let x : Reading = record { refusal = a; nest = s } in x) (number_out r e h) (value_out r e h empty_nest)

-- ---- the first of two answers

-- not 1: the form is kept
pub form_kept : (b : Bool) → malformed_unless b ≡ 0 → b ≡ true
form_kept true e = refl
form_kept false e = absurd (omega arith)

-- ---- the shape that line 1 says

-- the numbers of line 1 by themselves are a nest that is else empty
headed_shaped : (zs : List ℤ) → headed zs ≡ with_shape empty_nest (at zs 0) (at zs 1) (at zs 2)
unfolding headed empty_nest
headed_shaped zs = refl

-- so is what line 1 says
header_shaped : (bs : Bytes) → header_of bs ≡ with_shape empty_nest (at (header_numbers bs) 0) (at (header_numbers bs) 1) (at (header_numbers bs) 2)
unfolding header_of
header_shaped bs = headed_shaped (header_numbers bs)

-- and it is told by its shape
header_self : (bs : Bytes) → header_of bs ≡ with_shape empty_nest (header_of bs).depth (header_of bs).count (header_of bs).cube
unfolding header_of headed empty_nest
header_self bs = refl

-- the shape of the nest as it is filled
filled-shape : (n m : ℕ) (c : ℤ) (ls : List (List ℤ)) → ((filled n m c ls).depth ≡ pos n) × ((filled n m c ls).count ≡ pos m) × ((filled n m c ls).cube ≡ c)
unfolding filled
filled-shape n m c ls = (refl, refl, refl)

-- before any line is read it has its shape alone
filled_none : (n m : ℕ) (c : ℤ) → filled n m c [] ≡ with_shape empty_nest (pos n) (pos m) c
unfolding filled padded empty_nest flat_map
filled_none n m c = rw (take-nil n, drop-nil (n + 1), take-nil m, boundaries-none m, drop-nil (0 - m)) refl

-- the refusals of line 1 look at the shape alone
pub same_shape : (s t : LoopNest) → s.depth ≡ t.depth → s.count ≡ t.count → s.cube ≡ t.cube → first_met s header_order ≡ first_met t header_order
unfolding first_met holds
same_shape s t p q r = λ i. first_met (with_shape s (p i) (q i) (r i)) header_order

-- a nest with line 1's numbers gives both answers for line 1
pub record Headed (bs : Bytes) (h : LoopNest) : Type 0 where
  pub refused_with : (r : ℕ) → r ≡ first_met h header_order → (r ≡ 0 → ⊥) → refused_as r ≡ header_read bs
  pub accepted : first_met h header_order ≡ 0 → ◌≡◌ {A = Reading} (record { refusal = 0; nest = h }) (header_read bs)

-- the answer for the lines behind line 1, where that says the shape of h
abbrev pub BodyOf : Bytes → LoopNest → Option LoopNest → Type 0
BodyOf bs h b = b ≡ body_read (depth_of h) (count_of h) h.cube (behind header_width bs)

-- the same as the code has it: the rest of the text
pub body-behind : (bs : Bytes) (h : LoopNest) (b : Option LoopNest)
    → b ≡ body_read (depth_of h) (count_of h) h.cube (take (length bs - (columns * header_width + 1)) (drop (columns * header_width + 1) bs)) → BodyOf bs h b
body-behind bs h b e = e ∙ ap (body_read (depth_of h) (count_of h) h.cube) (rest_part bs (columns * header_width + 1))

-- what is known once line 1 has passed: there is a rest, and each answer for it
pub record Passed (bs : Bytes) (h : LoopNest) : Type 0 where
  pub room : columns * header_width + 1 ≤ length bs
  pub fits : HeaderSpans h
  pub start : h ≡ filled (depth_of h) (count_of h) h.cube []
  pub malformed : BodyOf bs h None → refused_as 1 ≡ whole_reading bs
  pub refused_with : (s : LoopNest) → BodyOf bs h (Some s) → (r : ℕ) → r ≡ refusal s → (r ≡ 0 → ⊥) → refused_as r ≡ whole_reading bs
  pub accepted : (s : LoopNest) → BodyOf bs h (Some s) → refusal s ≡ 0 → ◌≡◌ {A = Reading} (record { refusal = 0; nest = s }) (whole_reading bs)

module _ (bs : Bytes) where
  -- the form of the other lines; 5 to 13
  abbrev body_refusal : ℕ
  body_refusal = or_else (malformed_unless (is_shaped bs)) (first_met (body_of bs) body_order)

  -- the refusals of line 1, then those of the rest
  in_two : read_refusal bs ≡ or_else (header_refusal bs) body_refusal
  unfolding read_refusal header_refusal
  in_two = or_else_assoc (malformed_unless (is_headed bs)) (first_met (header_of bs) header_order) body_refusal

  -- ---- line 1
  header-malformed : is_headed bs ≡ false → header_refusal bs ≡ 1
  unfolding header_refusal or_else
  header-malformed e = rw e refl

  -- line 1 in form
  pub header_checked : is_headed bs ≡ true → header_refusal bs ≡ first_met (header_of bs) header_order
  unfolding header_refusal or_else
  header_checked e = rw e refl

  -- line 1 refused
  header_refused : (r : ℕ) → header_refusal bs ≡ r → (r ≡ 0 → ⊥) → refused_as r ≡ header_read bs
  unfolding header_read
  header_refused r e h = rw (header_read, e, ne_eqb r 0 h) refl

  -- line 1 accepted
  header-passed : header_refusal bs ≡ 0 → ◌≡◌ {A = Reading} (record { refusal = 0; nest = header_of bs }) (header_read bs)
  unfolding header_read
  header-passed e = rw (header_read, e) refl

  -- where line 1 is refused, so is the text
  header-answers : (header_refusal bs ≡ 0 → ⊥) → read_refusal bs ≡ header_refusal bs
  header-answers h = in_two ∙ or_else-first (header_refusal bs) body_refusal h

  -- where the text is not refused, neither is line 1
  pub header-zero : read_refusal bs ≡ 0 → header_refusal bs ≡ 0
  header-zero e = (or_else-zero (header_refusal bs) body_refusal (sym in_two ∙ e)).0

  -- ---- the whole
  pub whole-refused : (r : ℕ) → read_refusal bs ≡ r → (r ≡ 0 → ⊥) → refused_as r ≡ whole_reading bs
  unfolding read_nest
  whole-refused r e h = rw (read_nest, e, ne_eqb r 0 h) refl

  -- the text accepted
  pub whole-passed : read_refusal bs ≡ 0 → ◌≡◌ {A = Reading} (record { refusal = 0; nest = body_of bs }) (whole_reading bs)
  unfolding read_nest
  whole-passed e = rw (read_nest, e) refl

  -- both answers by the nest
  headed_by : (h : LoopNest) → h ≡ header_of bs → first_met h header_order ≡ header_refusal bs → Headed bs h
  headed_by h is checked = record {
    refused_with = λ r e f. header_refused r (sym (e ∙ checked)) f;
    accepted = λ e. ap (λ (x : LoopNest). record { refusal = 0; nest = x }) is ∙ header-passed (sym checked ∙ e);
  }

  -- ---- line 1 as the code reads it
  -- a malformed line 1
  pub line_refused : None ≡ line_of header_width bs → refused_as 1 ≡ header_read bs
  line_refused read = header_refused 1 (header-malformed (header-one bs ∙ unanswered header_width bs read)) (λ e. absurd (omega arith))

  module _ (line : List ℤ) (read : Some line ≡ line_of header_width bs) where
    -- the nest that is made of line 1's numbers
    pub header_read_lem : (s h : LoopNest) → s ≡ empty_nest → h ≡ with_shape s (at line 0) (at line 1) (at line 2) → Headed bs h
    header_read_lem s h none made = headed_by h is (ap (λ (x : LoopNest). first_met x header_order) is ∙ sym (header_checked form))
      where
        form : is_headed bs ≡ true
        form = header-one bs ∙ (answered header_width bs line read).0

        zs : List ℤ
        zs = numbers_of header_width bs

        row : (k : ℕ) → at line k ≡ at (header_numbers bs) k
        row k = ap (λ (x : List ℤ). at x k) (answered header_width bs line read).1 ∙ (at-padded max_fields zs k ∙ ap (λ (x : List ℤ). at x k) (sym (header-numbers bs form)))

        is : h ≡ header_of bs
        is = made ∙ (ap (λ (x : LoopNest). with_shape x (at line 0) (at line 1) (at line 2)) none ∙ (rw (row 0, row 1, row 2) (sym (header_shaped bs))))

  -- ---- the lines behind line 1, where it passed
  module _ (none : header_refusal bs ≡ 0) where
    -- its form is kept
    pub header-form : is_headed bs ≡ true
    unfolding header_refusal
    header-form = form_kept (is_headed bs) (or_else-zero (malformed_unless (is_headed bs)) (first_met (header_of bs) header_order) none).0

    -- its numbers pass
    pub header-fits : first_met (header_of bs) header_order ≡ 0
    header-fits = sym (header_checked header-form) ∙ none

    -- its shape is in span
    fitting : HeaderSpans (header_of bs)
    fitting = header_spans (header_of bs) header-fits

    -- the number of loops
    abbrev n : ℕ
    n = depth_of (header_of bs)

    -- the number of dependences
    abbrev m : ℕ
    m = count_of (header_of bs)

    -- the cube dimension
    abbrev c : ℤ
    c = (header_of bs).cube

    -- the number of fields of the last line
    abbrev last : ℕ
    last = last_width n m (length (rest_of bs))

    -- ---- lines of a shape that fits
    module _ (form : is_shaped bs ≡ true) where
      -- they are read by it
      numbers_are : body_numbers bs ≡ line_numbers (widths n m last) (rest_of bs)
      unfolding body_numbers is_shaped
      numbers_are = ap (λ w. line_numbers w (rest_of bs)) (shapes-first n m (rest_of bs) form)

      -- the nest that is read, by its filling
      body-filled : body_of bs ≡ filled n m c (line_numbers (widths n m last) (rest_of bs))
      unfolding body_of
      body-filled = ap (nest_from n m c) numbers_are ∙ sym (filled-nest n m last c (rest_of bs) fitting.depth_few fitting.count_few (width-least n m (length (rest_of bs))) (width-most n m (length (rest_of bs)) fitting.count_few))

      -- it has line 1's shape, so the refusals of line 1 are not met
      shape_kept : first_met (body_of bs) header_order ≡ 0
      shape_kept =
          let f = filled-shape n m c (line_numbers (widths n m last) (rest_of bs)) in
          same_shape (body_of bs) (header_of bs) (ap (λ (s : LoopNest). s.depth) body-filled ∙ (f.0 ∙ sym fitting.depth_is))
          (ap (λ (s : LoopNest). s.count) body-filled ∙ (f.1 ∙ sym fitting.count_is))
          (ap (λ (s : LoopNest). s.cube) body-filled ∙ f.2)
          ∙ header-fits

      -- the check of the whole nest gives 5 to 13
      body_checked : refusal (body_of bs) ≡ first_met (body_of bs) body_order
      body_checked = behind-header (body_of bs) shape_kept

    -- only the rest can be refused
    rest-refusal : read_refusal bs ≡ body_refusal
    rest-refusal = in_two ∙ or_else-second (header_refusal bs) body_refusal none

    -- the rest of an accepted text is in form
    pub rest-form : read_refusal bs ≡ 0 → is_shaped bs ≡ true
    rest-form e =
        form_kept (is_shaped bs) (or_else-zero (malformed_unless (is_shaped bs)) (first_met (body_of bs) body_order) (sym rest-refusal ∙ e)).0

    -- a malformed rest
    rest-malformed : is_shaped bs ≡ false → read_refusal bs ≡ 1
    unfolding or_else
    rest-malformed e = rest-refusal ∙ (rw e refl)

    -- a rest in form
    pub rest_checked : is_shaped bs ≡ true → read_refusal bs ≡ refusal (body_of bs)
    unfolding or_else
    rest_checked e = rest-refusal ∙ (rw e (sym (body_checked e)))

    -- the answer for a rest in form
    body-nest : is_shaped bs ≡ true → body_read n m c (rest_of bs) ≡ Some (body_of bs)
    unfolding body_read is_shaped body_of body_numbers
    body-nest e = rw (e, body_read) refl

    -- and for another
    body_none : is_shaped bs ≡ false → body_read n m c (rest_of bs) ≡ None
    unfolding body_read is_shaped
    body_none e = rw (e, body_read) refl

    -- the body's reader was given the rest of the text
    read-rest : (b : Option LoopNest) → b ≡ body_read n m c (behind header_width bs) → b ≡ body_read n m c (rest_of bs)
    read-rest b read = read ∙ ap (body_read n m c) (sym (rest-behind bs header-form))

    -- 1, where it answered nothing
    rest_unformed : None ≡ body_read n m c (behind header_width bs) → refused_as 1 ≡ whole_reading bs
    rest_unformed read = whole-refused 1 (rest-malformed (split (is_shaped bs)
        (λ t. let q : None ≡ Some (body_of bs) = read-rest None read ∙ body-nest t in cc) (λ f. f))) (λ e. absurd (omega arith))

    -- by the nest that it answered
    module _ (s : LoopNest) (read : Some s ≡ body_read n m c (behind header_width bs)) where
      -- the rest is in form, and this is what it says
      nest-is : (is_shaped bs ≡ true) × (s ≡ body_of bs)
      nest-is = split (is_shaped bs)
          (λ t. let q : Some s ≡ Some (body_of bs) = read-rest (Some s) read ∙ body-nest t in (t, cc))
          (λ f. let q : Some s ≡ None = read-rest (Some s) read ∙ body_none f in cc)

      -- its first refusal is that of the text
      number_is : refusal s ≡ read_refusal bs
      number_is = ap refusal nest-is.1 ∙ sym (rest_checked nest-is.0)

      -- 5 to 13
      rest-refused : (r : ℕ) → r ≡ refusal s → (r ≡ 0 → ⊥) → refused_as r ≡ whole_reading bs
      rest-refused r e f = whole-refused r (sym (e ∙ number_is)) f

      -- accepted
      rest-accepted : refusal s ≡ 0 → ◌≡◌ {A = Reading} (record { refusal = 0; nest = s }) (whole_reading bs)
      rest-accepted e = ap (λ (x : LoopNest). record { refusal = 0; nest = x }) nest-is.1 ∙ whole-passed (sym number_is ∙ e)

    -- all of it together
    passed-header : Passed bs (header_of bs)
    passed-header = record {
      room = omega (arith, line-inside header_width bs (sym (header-one bs) ∙ header-form));
      fits = fitting;
      start = sym (filled_none n m c ∙ (rw (← fitting.depth_is, ← fitting.count_is) (sym (header_self bs))));
      malformed = rest_unformed;
      refused_with = rest-refused;
      accepted = rest-accepted;
    }

  -- ---- by what the reader of line 1 answered
  module _ (first : Reading) (read : first ≡ header_read bs) where
    -- its number
    first-number : header_refusal bs ≡ first.refusal
    unfolding header_read
    first-number = sym (ap (λ (x : Reading). x.refusal) read)

    -- line 1 is refused, and so is the text
    pub first-refused : (first.refusal ≡ 0 → ⊥) → first ≡ whole_reading bs
    first-refused h =
        read
        ∙ (sym (header_refused first.refusal first-number h)
        ∙ whole-refused first.refusal (header-answers (λ e. h (sym first-number ∙ e)) ∙ first-number) h)

    -- line 1 has passed
    pub first-passed : first.refusal ≡ 0 → Passed bs first.nest
    first-passed e =
        let z = first-number ∙ e in
        let is : header_of bs ≡ first.nest = ap (λ (x : Reading). x.nest) (header-passed z ∙ sym read) in
        subst (λ (s : LoopNest). Passed bs s) is (passed-header z)
