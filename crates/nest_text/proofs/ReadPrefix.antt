-- How far a text is read: the answer depends on no byte past the longest text and one more.
-- Assumes nothing.
use mathlib.Core.Path.{◌≡◌, refl, sym, ap, ap₂, subst, ◌∙◌}
use mathlib.Core.Bool.{Bool, true, false, not, ◌&&◌}
use mathlib.Core.List.{List, [], ◌∷◌, Memᴰ}
use mathlib.Core.Logic.{⊎_elim}
use Prim.Native.Nat.{ℕ, zero, suc, ◌+◌, ◌*◌, ◌-◌, ◌≤◌}
use native.Mathlib.Nat.{suc-ne-zero, not-suc-le-zero, mul-le-mul}
use native.Mathlib.Omega.{arith}
use borrow.Author.Tests.{ne_eqb}
use lib.Dec.{eqb}
use lib.IntN.{ℤ}
use lib.ListN.{length, get_or, take, drop}
use lib.Seq.{take-take, get_or-take, take-nil}
use Rattle.integers.specs.Lists.{any}
use Rattle.integers.proofs.Lists.{tab-same, split}
use Rattle.nest.specs.declared.LoopNest.{LoopNest}
use Rattle.nest.specs.Nest.{depth_of, count_of, empty_nest, max_depth, max_dependences}
use Rattle.nest.specs.Refusals.{first_met, header_order, body_order, refusal, or_else}
use Rattle.nest_text.specs.Fields.{columns, Bytes, newline, read_of}
use Rattle.nest_text.specs.Text.{line_length, header_width, text_length, text_of, is_malformed, number_of}
use Rattle.nest_text.specs.Text.{field_at, is_line, numbers_of, behind, are_lines, line_numbers}
use Rattle.nest_text.specs.Text.{header_widths, Shape, widths, short_width, long_width, shapes, shapes_of, fits}
use Rattle.nest_text.specs.Text.{first_fitting, is_headed}
use Rattle.nest_text.specs.Text.{header_width_of, header_numbers, headed, header_of}
use Rattle.nest_text.specs.Text.{rest_of, is_shaped, body_numbers, nest_from, body_of, malformed_unless, read_refusal}
use Rattle.nest_text.specs.Text.{read_nest, read_most}
use Rattle.nest.proofs.Spans.{spans, HeaderSpans, header_spans}
use Rattle.nest_text.proofs.ShapeLaws.{any_same, first-same, one-listed, two-listed, fitting_listed, none_fitting}
use Rattle.nest_text.proofs.ShapeLaws.{header_narrow}
use Rattle.nest_text.proofs.LastLine.{text_bytes, widths-long}
use Rattle.nest_text.proofs.TextLength.{text-most}
use Rattle.nest.proofs.Entries.{or_else-zero}

-- the longest text of an accepted nest
pub text_longest : (s : LoopNest) → refusal s ≡ 0 → length (text_of s) ≤ text_length max_depth max_dependences (long_width max_dependences)
text_longest s e = text-most s (spans s e)

-- ---- parts of the first N bytes

-- bytes dropped from the first N
drop-take : (b N : ℕ) (l : Bytes) → drop b (take N l) ≡ take (N - b) (drop b l)
drop-take zero N l = let e : N ≡ N - 0 = omega arith in ap (λ n. take n l) e
drop-take (suc b) zero l = let e : 0 ≡ 0 - suc b = omega arith in ap (λ n. take n (drop (suc b) l)) e
drop-take (suc b) (suc N) [] = sym (take-nil (suc N - suc b))
drop-take (suc b) (suc N) (x ∷ l) = let e : N - b ≡ suc N - suc b = omega arith in drop-take b N l ∙ ap (λ n. take n (drop b l)) e

-- a part that ends before N
part-take : (a b N : ℕ) (l : Bytes) → b + a ≤ N → take a (drop b (take N l)) ≡ take a (drop b l)
part-take a b N l h = ap (take a) (drop-take b N l) ∙ take-take a (N - b) (drop b l) (omega arith)

-- a field there
field_take : (N i : ℕ) (bs : Bytes) → columns * i + columns ≤ N → field_at (take N bs) i ≡ field_at bs i
field_take N i bs h = ap read_of (part-take columns (columns * i) N bs h)

-- the form of a line there
line-take : (N k : ℕ) (bs : Bytes) → line_length k ≤ N → is_line k (take N bs) ≡ is_line k bs
unfolding is_line
line-take N k bs h =
    ap₂ (λ (fs : List _) (b : ℕ). not (any is_malformed fs) && eqb b newline) (tab-same (field_at (take N bs)) (field_at bs) k (λ i l. field_take N i bs (omega arith))) (get_or-take N bs (columns * k) 0 (omega arith))

-- the numbers of a line there
numbers-take : (N k : ℕ) (bs : Bytes) → columns * k ≤ N → numbers_of k (take N bs) ≡ numbers_of k bs
unfolding numbers_of
numbers-take N k bs h = tab-same (λ i. number_of (field_at (take N bs) i)) (λ i. number_of (field_at bs i)) k (λ i l. ap number_of (field_take N i bs (omega arith)))

-- whether any byte is there
none-take : (N : ℕ) (bs : Bytes) → 1 ≤ N → eqb (length (take N bs)) 0 ≡ eqb (length bs) 0
none-take zero bs h = absurd (not-suc-le-zero h)
none-take (suc N) [] h = refl
none-take (suc N) (b ∷ bs) h = ne_eqb (suc (length (take N bs))) 0 (suc-ne-zero (length (take N bs))) ∙ sym (ne_eqb (suc (length bs)) 0 (suc-ne-zero (length bs)))

-- one byte more than the lines decides whether something follows
lines-take : (ks : List ℕ) (N : ℕ) (bs : Bytes) → text_bytes ks + 1 ≤ N → are_lines ks (take N bs) ≡ are_lines ks bs
unfolding are_lines
lines-take [] N bs h = none-take N bs (omega arith)
lines-take (k ∷ ks) N bs h =
    ap₂ (λ (b rest : Bool). elim b as (λ _. Bool) [ true ↦ rest | false ↦ false ]) (line-take N k bs (omega arith))
    (ap (are_lines ks) (drop-take (line_length k) N bs) ∙ lines-take ks (N - line_length k) (drop (line_length k) bs) (omega arith))

-- the numbers of the lines
lines-numbers-take : (ks : List ℕ) (N : ℕ) (bs : Bytes) → text_bytes ks ≤ N → line_numbers ks (take N bs) ≡ line_numbers ks bs
unfolding line_numbers
lines-numbers-take [] N bs h = refl
lines-numbers-take (k ∷ ks) N bs h =
    ap₂ (λ (a : List ℤ) (b : List (List ℤ)). a ∷ b) (numbers-take N k bs (omega arith))
    (ap (line_numbers ks) (drop-take (line_length k) N bs) ∙ lines-numbers-take ks (N - line_length k) (drop (line_length k) bs) (omega arith))

-- ---- how long the lines behind line 1 are

-- the most that an accepted line 1 asks for, with line 1 itself
widths-most : (n m k : ℕ) → n ≤ max_depth → m ≤ max_dependences → k ≤ long_width max_dependences
    → line_length header_width + text_bytes (widths n m k) ≤ text_length max_depth max_dependences (long_width max_dependences)
widths-most n m k h l w =
    let p : line_length n ≤ line_length max_depth = omega arith in
    let q : m + 1 ≤ max_dependences + 1 = omega arith in
    omega (arith, widths-long n m k, mul-le-mul p q)

-- ---- shapes

module _ (ws : List Shape) (N : ℕ) (bs : Bytes) (short : (w : Shape) → Memᴰ w ws → text_bytes w + 1 ≤ N) where
  -- the same shapes fit
  same_fit : (w : Shape) → Memᴰ w ws → are_lines w (take N bs) ≡ are_lines w bs
  same_fit w m = lines-take w N bs (short w m)

  -- so whether one does is the same
  fits-take : fits ws (take N bs) ≡ fits ws bs
  unfolding fits
  fits-take = any_same (λ w. are_lines w (take N bs)) (λ w. are_lines w bs) ws same_fit

  -- and which is the first
  fitting_take : first_fitting ws (take N bs) ≡ first_fitting ws bs
  unfolding first_fitting
  fitting_take = ap (λ l. get_or l 0 []) (first-same (λ w. are_lines w (take N bs)) (λ w. are_lines w bs) ws same_fit)

  -- which is short
  fitting_short : text_bytes (first_fitting ws bs) ≤ N
  fitting_short = split (fits ws bs) (λ t. omega (arith, short (first_fitting ws bs) (fitting_listed ws bs t))) (λ f. rw (none_fitting ws bs f) (omega arith))

-- ---- the whole text

-- the numbers of fields of line 1 that are tried
module _ (N : ℕ) (bs : Bytes) (h : line_length header_width ≤ N) where
  -- are there in the first N bytes
  same_line : (k : ℕ) → Memᴰ k header_widths → is_line k (take N bs) ≡ is_line k bs
  same_line k m = let e = one-listed m in line-take N k bs (omega (arith, e))

  -- so line 1's form is the same
  headed-take : is_headed (take N bs) ≡ is_headed bs
  unfolding is_headed
  headed-take = any_same (λ k. is_line k (take N bs)) (λ k. is_line k bs) header_widths same_line

  -- its number of fields
  width-take : header_width_of (take N bs) ≡ header_width_of bs
  unfolding header_width_of
  width-take = ap (λ l. get_or l 0 0) (first-same (λ k. is_line k (take N bs)) (λ k. is_line k bs) header_widths same_line)

  -- what it says
  header-take : header_of (take N bs) ≡ header_of bs
  unfolding header_of header_numbers
  header-take = ap headed (ap (λ k. numbers_of k (take N bs)) width-take ∙ numbers-take N (header_width_of bs) bs (omega (arith, header_narrow bs)))

  -- and what stands behind it
  rest-take : rest_of (take N bs) ≡ take (N - line_length (header_width_of bs)) (rest_of bs)
  unfolding rest_of
  rest-take = ap (λ k. behind k (take N bs)) width-take ∙ drop-take (line_length (header_width_of bs)) N bs

-- what is read behind a line 1 that is not refused
module _ (bs : Bytes) (h : HeaderSpans (header_of bs)) where
  -- the shapes that line 1 allows
  abbrev ws : List Shape
  ws = shapes_of (header_of bs)

  -- how many bytes of the rest are looked at
  abbrev far : ℕ
  far = read_most - line_length (header_width_of bs)

  -- lines whose last has few enough fields are shorter
  short : (w : Shape) (k : ℕ) → w ≡ widths (depth_of (header_of bs)) (count_of (header_of bs)) k → k ≤ long_width max_dependences → text_bytes w + 1 ≤ far
  short w k e l =
      let t = ap text_bytes e in
      omega (arith, t, widths-most (depth_of (header_of bs)) (count_of (header_of bs)) k h.depth_few h.count_few l, header_narrow bs)

  -- so are those of each of these shapes
  most : (w : Shape) → Memᴰ w ws → text_bytes w + 1 ≤ far
  unfolding shapes
  most w l = ⊎_elim
      (λ e. short w (short_width (count_of (header_of bs))) e (omega (arith, h.count_few)))
      (λ e. short w (long_width (count_of (header_of bs))) e (omega (arith, h.count_few)))
      (two-listed l)

  -- line 1 allows the same
  shapes-take : shapes_of (header_of (take read_most bs)) ≡ ws
  shapes-take = ap shapes_of (header-take read_most bs (omega arith))

  -- their form
  form-take : is_shaped (take read_most bs) ≡ is_shaped bs
  unfolding is_shaped
  form-take = ap₂ fits shapes-take (rest-take read_most bs (omega arith)) ∙ fits-take ws far (rest_of bs) most

  -- their numbers
  lines_same : body_numbers (take read_most bs) ≡ body_numbers bs
  unfolding body_numbers
  lines_same =
      ap₂ (λ (w : Shape) (x : Bytes). line_numbers w x)
      (ap₂ first_fitting shapes-take (rest-take read_most bs (omega arith)) ∙ fitting_take ws far (rest_of bs) most)
      (rest-take read_most bs (omega arith))
      ∙ lines-numbers-take (first_fitting ws (rest_of bs)) far (rest_of bs) (fitting_short ws far (rest_of bs) most)

  -- what they say
  body-take : body_of (take read_most bs) ≡ body_of bs
  unfolding body_of
  body-take =
      ap₂ (λ (x : LoopNest) (ls : List (List ℤ)). nest_from (depth_of x) (count_of x) x.cube ls) (header-take read_most bs (omega arith)) lines_same

-- the answer by the answers of its parts
abbrev answer : ℕ → ℕ → ℕ → ℕ → ℕ
answer first header others body = or_else first (or_else header (or_else others body))

-- the nest, where the answer is no refusal
abbrev nest_if : ℕ → LoopNest → LoopNest
nest_if r s = elim (eqb r 0) as (λ _. LoopNest) [ true ↦ s | false ↦ empty_nest ]

-- where line 1 is refused, nothing else matters
stopped : (a b c d c' d' : ℕ) → answer a (suc b) c d ≡ answer a (suc b) c' d'
unfolding or_else
stopped a b c d c' d' = refl

-- nor what the lines say
stopped_nest : (a b c d : ℕ) (s t : LoopNest) → nest_if (answer a (suc b) c d) s ≡ nest_if (answer a (suc b) c d) t
stopped_nest a b c d s t =
    let e = ne_eqb (answer a (suc b) c d) 0 (λ z. suc-ne-zero b (or_else-zero (suc b) (or_else c d) (or_else-zero a (or_else (suc b) (or_else c d)) z).1).0) in
    ap (λ x. elim x as (λ _. LoopNest) [ true ↦ s | false ↦ empty_nest ]) e ∙ sym (ap (λ x. elim x as (λ _. LoopNest) [ true ↦ t | false ↦ empty_nest ]) e)

-- the answer depends on no byte past the longest text and one more
pub read_prefix : (bs : Bytes) → (read_refusal (take read_most bs) ≡ read_refusal bs) × (read_nest (take read_most bs) ≡ read_nest bs)
unfolding read_refusal read_nest
read_prefix bs = subst (λ k. Same k (header bs)) (sym header-same) (by (header bs) refl)
  where
    front : Bytes
    front = take read_most bs

    first : Bytes → ℕ
    first b = malformed_unless (is_headed b)

    header : Bytes → ℕ
    header b = first_met (header_of b) header_order

    others : Bytes → ℕ
    others b = malformed_unless (is_shaped b)

    body : Bytes → ℕ
    body b = first_met (body_of b) body_order

    Same : ℕ → ℕ → Type 0
    Same h k = (answer (first front) h (others front) (body front) ≡ answer (first bs) k (others bs) (body bs))
        × (nest_if (answer (first front) h (others front) (body front)) (body_of front) ≡ nest_if (answer (first bs) k (others bs) (body bs)) (body_of bs))

    start-same : first front ≡ first bs
    start-same = ap malformed_unless (headed-take read_most bs (omega arith))

    header-same : header front ≡ header bs
    header-same = ap (λ x. first_met x header_order) (header-take read_most bs (omega arith))

    by : (a : ℕ) → header bs ≡ a → Same a a
    by zero q =
        let h = header_spans (header_of bs) q in
        let e : answer (first front) 0 (others front) (body front) ≡ answer (first bs) 0 (others bs) (body bs) = ap₂ (λ x y. or_else x (or_else 0 y)) start-same (ap₂ or_else (ap malformed_unless (form-take bs h)) (ap (λ x. first_met x body_order) (body-take bs h))) in
        (e, ap₂ nest_if e (body-take bs h))
    by (suc a) q =
        let e : answer (first front) (suc a) (others front) (body front) ≡ answer (first bs) (suc a) (others bs) (body bs) = ap (λ x. answer x (suc a) (others front) (body front)) start-same ∙ stopped (first bs) a (others front) (body front) (others bs) (body bs) in
        (e, ap (λ r. nest_if r (body_of front)) e ∙ stopped_nest (first bs) a (others bs) (body bs) (body_of front) (body_of bs))
