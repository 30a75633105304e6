-- The numbers that `read` and `write` answer are what their refusals, in their order, answer.
-- Assumes nothing.
use mathlib.Core.Path.{◌≡◌, refl, sym, ap, ap₂, subst, ◌∙◌}
use mathlib.Core.Bool.{true, false}
use mathlib.Core.Logic.{inl, inr, ◌↔◌}
use mathlib.Core.List.{List, [], ◌∷◌, ◌++◌, Memᴰ}
use Prim.Native.Nat.{ℕ, ◌<◌}
use native.Mathlib.Omega.{arith}
use lib.IntN.{ℤ}
use lib.ListN.{length}
use Rattle.integers.proofs.Lists.{split, clash}
use Rattle.nest.specs.declared.LoopNest.{LoopNest}
use Rattle.nest.specs.Refusals.{Refusal, number, first_met, header_order, body_order, refusal, Condition, Order, Answered}
use Rattle.nest.specs.Refusals.{order_numbers, FromOne, numbered}
use Rattle.nest.proofs.Answers.{answered-append, one-append, numbered-answered, numbered-one, call-one, buffer_answered}
use Rattle.nest_text.specs.Fields.{Bytes}
use Rattle.nest_text.specs.Text.{text_of, header_widths, shapes_of, fits, is_headed, header_width_of}
use Rattle.nest_text.specs.Text.{header_numbers, headed, header_of}
use Rattle.nest_text.specs.Text.{rest_of, is_shaped, body_of, malformed_unless, read_refusal, write_refusal, write_order}
use Rattle.nest_text.specs.Form.{FirstLine, LineMalformed, LineMeets, Shaped, RestMalformed, NestMeets, read_order}
use Rattle.nest_text.proofs.LineLaws.{numbers-length}
use Rattle.nest_text.proofs.LineBack.{LineRead, headed-line, numbers-line, rest-line}
use Rattle.nest_text.proofs.LineBack.{read_begins, begins_read, shapes_iff}
use Rattle.nest_text.proofs.ShapeLaws.{header-line, header-listed}
use Rattle.nest_text.proofs.ReadLaws.{form_kept, header_checked}
use Rattle.nest_text.proofs.RoundTrip.{whole-body, body-whole}

-- `write`: 2 to 13, then 14
pub write-answered : (s : LoopNest) (room : ℕ) → Answered (write_order s room) (write_refusal (refusal s) (text_of s) room)
unfolding write_refusal
write-answered s room = buffer_answered s (length (text_of s)) room

-- none of these numbers is 0
pub write-one : (s : LoopNest) (room : ℕ) → FromOne (write_order s room)
write-one s room = call-one s ((14, room < length (text_of s)) ∷ []) (omega arith, tt)

-- ---- `read`: line 1

module _ (bs : Bytes) where
  -- line 1 in form says what is read of it
  says-line : is_headed bs ≡ true → FirstLine bs (header_numbers bs) (rest_of bs)
  unfolding header_numbers rest_of
  says-line t = (
    subst (λ k. Memᴰ k header_widths) (sym (numbers-length (header_width_of bs) bs)) (header-listed bs t),
    read_begins (header_width_of bs) bs (header-line bs t),
  )

  -- what a text is read as whose line 1 says these numbers
  module _ (zs : List ℤ) (rest : Bytes) (f : FirstLine bs zs rest) where
    -- line 1 is read, with its numbers and the rest
    line-is : LineRead zs rest bs
    line-is = begins_read bs zs rest f.1

    -- it is in form
    is-headed : is_headed bs ≡ true
    is-headed = headed-line zs rest bs line-is f.0

    -- so it says them
    header_of_lem : header_of bs ≡ headed zs
    unfolding header_of
    header_of_lem = ap headed (numbers-line zs rest bs line-is f.0)

    -- and the rest stands behind it
    rest-of : rest_of bs ≡ rest
    rest-of = rest-line zs rest bs line-is f.0

    -- where the rest has none of the shapes that they allow, the test says so
    not_shaped : (Shaped rest (shapes_of (headed zs)) → ⊥) → is_shaped bs ≡ false
    unfolding is_shaped
    not_shaped none = split (is_shaped bs)
        (λ t. absurd (none ((shapes_iff (shapes_of (headed zs)) rest).0 (sym (ap₂ fits (ap shapes_of header_of_lem) rest-of) ∙ t))))
        (λ n. n)

  -- 1 of line 1
  line-answered : Answered ((1, LineMalformed bs) ∷ []) (malformed_unless (is_headed bs))
  line-answered =
      split (is_headed bs)
      (λ t. inr ((λ none. none (header_numbers bs) (rest_of bs) (says-line t)), ap malformed_unless t))
      (λ n. inl ((λ zs rest f. clash (is-headed zs rest f) n), ap malformed_unless n))

  -- what line 1 says meets a condition exactly if what is read of it does
  line_words : is_headed bs ≡ true → (r : Refusal) → Condition (header_of bs) r ↔ LineMeets bs r
  unfolding header_of
  line_words t r = (
    λ w. (header_numbers bs, rest_of bs, says-line t, w),
    λ w. subst (λ x. Condition x r) (sym (header_of_lem w.0 w.1 w.2)) w.3,
  )

  -- ---- the rest

  -- 1 of the rest
  rest-answered : is_headed bs ≡ true → Answered ((1, RestMalformed bs) ∷ []) (malformed_unless (is_shaped bs))
  unfolding is_shaped header_of
  rest-answered t =
      split (is_shaped bs)
      (λ y. inr ((λ w. clash y (not_shaped w.0 w.1 w.2 w.3)), ap malformed_unless y))
      (λ n. inl (
        (
          header_numbers bs,
          rest_of bs,
          says-line t,
          λ w. clash ((shapes_iff (shapes_of (header_of bs)) (rest_of bs)).1 w) n,
        ),
        ap malformed_unless n,
      ))

  -- a nest that the text says meets a condition exactly if what is read does
  nest_words : is_headed bs ≡ true → first_met (header_of bs) header_order ≡ 0 → is_shaped bs ≡ true
      → (r : Refusal) → Condition (body_of bs) r ↔ NestMeets bs r
  nest_words t e y r = (
    λ w. (body_of bs, body-whole bs (header_checked bs t ∙ e) y, w),
    λ w. subst (λ x. Condition x r) (sym (whole-body bs w.0 w.1)) w.2,
  )

  -- ---- the theorems

  -- line 1's form, then 2, 3, 4; the form of the rest; then 5 to 13
  pub read-answered : Answered (read_order bs) (read_refusal bs)
  unfolding read_refusal
  read-answered =
      answered-append ((1, LineMalformed bs) ∷ []) (lines ++ (rest ++ nests)) (malformed_unless (is_headed bs)) _ (omega arith, tt) line-answered
      (λ i.
      let t = form_kept (is_headed bs) i in
      answered-append lines (rest ++ nests) (first_met (header_of bs) header_order) _ (numbered-one (LineMeets bs) header_order) (numbered-answered (header_of bs) (LineMeets bs) (line_words t) header_order)
      (λ e. answered-append rest nests (malformed_unless (is_shaped bs)) _ (omega arith, tt) (rest-answered t)
      (λ a. numbered-answered (body_of bs) (NestMeets bs) (nest_words t e (form_kept (is_shaped bs) a)) body_order)))
    where
      lines : Order
      lines = numbered (LineMeets bs) header_order

      rest : Order
      rest = (1, RestMalformed bs) ∷ []

      nests : Order
      nests = numbered (NestMeets bs) body_order

  -- so 1 stands twice
  pub read-numbers : order_numbers (read_order bs) ≡ 1 ∷ 2 ∷ 3 ∷ 4 ∷ 1 ∷ 5 ∷ 6 ∷ 7 ∷ 8 ∷ 9 ∷ 10 ∷ 11 ∷ 13 ∷ []
  unfolding number
  read-numbers = refl

  -- none of them is 0
  pub read_one : FromOne (read_order bs)
  read_one =
      let others : Order = (1, RestMalformed bs) ∷ numbered (NestMeets bs) body_order in
      (omega arith, one-append (numbered (LineMeets bs) header_order) others (numbered-one (LineMeets bs) header_order) (omega arith, numbered-one (NestMeets bs) body_order))
