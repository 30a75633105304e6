-- How long lines are, and how that tells the last line of a text: the shapes that it may have differ
-- in their length. And what a last line says, as the reader has it.
-- Assumes nothing.
use mathlib.Core.Path.{◌≡◌, refl, sym, ap, ◌∙◌}
use mathlib.Core.Bool.{Bool, true, false, not}
use mathlib.Core.List.{List, [], ◌∷◌, ◌++◌, Memᴰ}
use mathlib.Core.Logic.{◌⊎◌, inl, inr, ⊎_elim}
use Prim.Native.Nat.{ℕ, zero, suc, ◌+◌, ◌*◌, ◌-◌, ◌≤◌, ◌<◌}
use native.Mathlib.Nat.{mul-suc}
use native.Mathlib.Numerals.{add-one}
use native.Mathlib.Omega.{arith}
use borrow.Author.Tests.{eq-eqb, ne_eqb, eqb-true, eqb-false, leb-true, leb-false}
use lib.Dec.{eqb, leb}
use lib.IntN.{ℤ, pos}
use lib.ListN.{length, get_or, take, replicate, length-drop, length-replicate, get_or-eq_default}
use lib.Seq.{take-nil, take-append-le, length-take-le}
use Rattle.integers.specs.Lists.{any, tab}
use Rattle.integers.proofs.Lists.{and_true, split, clash}
use Rattle.nest.specs.Nest.{padded, max_dependences}
use Rattle.nest.proofs.Padding.{at-padded}
use Rattle.nest_text.specs.Fields.{Bytes, columns, newline}
use Rattle.nest_text.specs.Text.{at, line_length, limit_width, body_length, is_malformed, field_at, is_line, behind}
use Rattle.nest_text.specs.Text.{are_lines, Shape, widths, short_width, long_width, shapes, fits, first_fitting}
use Rattle.nest_text.specs.Text.{boundaries_in}
use Rattle.nest_text.specs.Reader.{last_width}
use Rattle.nest_text.proofs.ShapeLaws.{two-listed, fitting_fits, fitting_listed, listed-shape}

-- ---- how long lines are

-- how many bytes lines with these numbers of fields have
abbrev pub text_bytes : List ℕ → ℕ
text_bytes [] = 0
text_bytes (k ∷ ks) = line_length k + text_bytes ks

-- a line in form is all there
pub line-inside : (k : ℕ) (bs : Bytes) → is_line k bs ≡ true → columns * k < length bs
unfolding is_line
line-inside k bs e =
    let q = eqb-true (get_or bs (columns * k) 0) newline (and_true (not (any is_malformed (tab (field_at bs) k))) (eqb (get_or bs (columns * k) 0) newline) e).1 in
    split (leb (length bs) (columns * k))
    (λ t. absurd (omega (arith, get_or-eq_default bs 0 {n = columns * k} (leb-true (length bs) (columns * k) t))))
    (λ t. leb-false (length bs) (columns * k) t)

-- so lines in form have as many bytes as their fields ask for
lines_long : (ks : List ℕ) (bs : Bytes) → are_lines ks bs ≡ true → length bs ≡ text_bytes ks
unfolding are_lines
lines_long [] bs e = eqb-true (length bs) 0 e
lines_long (k ∷ ks) bs e = go (is_line k bs) refl e (lines_long ks (behind k bs))
  where
    go : (b : Bool) → is_line k bs ≡ b → ◌≡◌ {A = Bool} (elim b as (λ _. Bool) [ true ↦ are_lines ks (behind k bs) | false ↦ false ]) true
        → (are_lines ks (behind k bs) ≡ true → length (behind k bs) ≡ text_bytes ks) → length bs ≡ line_length k + text_bytes ks
    go true q h ih = omega (arith, line-inside k bs q, ih h, length-drop (line_length k) bs)
    go false q h ih = clash h refl

-- lines behind lines
text_bytes-append : (xs ys : List ℕ) → text_bytes (xs ++ ys) ≡ text_bytes xs + text_bytes ys
text_bytes-append [] ys = omega arith
text_bytes-append (x ∷ xs) ys = let ih = text_bytes-append xs ys in omega arith

-- n lines of k fields each
text_bytes-same : (n k : ℕ) → text_bytes (replicate n k) ≡ line_length k * n
text_bytes-same zero k = omega arith
text_bytes-same (suc n) k = let ih = text_bytes-same n k in omega (arith, mul-suc (line_length k) n)

-- the lines behind line 1
pub widths-long : (n m k : ℕ) → text_bytes (widths n m k) ≡ body_length n m k
unfolding widths
widths-long n m k =
    let w : line_length n * (m + 1) ≡ line_length n * m + line_length n = ap (λ j. line_length n * j) (add-one m) ∙ mul-suc (line_length n) m in
    omega (
      arith,
      text_bytes-append (replicate n limit_width) (n ∷ (replicate m n ++ (k ∷ []))),
      text_bytes-append (replicate m n) (k ∷ []),
      text_bytes-same n limit_width,
      text_bytes-same m n,
      w,
    )

-- ---- the last line by the number of bytes behind line 1

module _ (n m : ℕ) where
  -- it is short, or it is long
  pub width-listed : (bytes : ℕ) → (last_width n m bytes ≡ short_width m) ⊎ (last_width n m bytes ≡ long_width m)
  unfolding last_width
  width-listed bytes = split (eqb bytes (body_length n m (short_width m))) (λ t. inl (rw (t, last_width) refl)) (λ f. inr (rw (f, last_width) refl))

  -- where it has as many bytes as with a short one
  pub width_short : (bytes : ℕ) → bytes ≡ body_length n m (short_width m) → last_width n m bytes ≡ short_width m
  unfolding last_width
  width_short bytes e = rw (eq-eqb bytes (body_length n m (short_width m)) e, last_width) refl

  -- and otherwise
  pub width-long : (bytes : ℕ) → (bytes ≡ body_length n m (short_width m) → ⊥) → last_width n m bytes ≡ long_width m
  unfolding last_width
  width-long bytes h = rw (ne_eqb bytes (body_length n m (short_width m)) h, last_width) refl

  -- it has room for the weights
  pub width-least : (bytes : ℕ) → m ≤ last_width n m bytes
  width-least bytes = ⊎_elim (λ e. omega (arith, e)) (λ e. omega (arith, e)) (width-listed bytes)

  -- and before them no more values than there may be dependences
  pub width-most : (bytes : ℕ) → m ≤ max_dependences → last_width n m bytes ≤ m + max_dependences
  width-most bytes few = ⊎_elim (λ e. omega (arith, e)) (λ e. omega (arith, e)) (width-listed bytes)

  module _ (bs : Bytes) where
    -- the width that the bytes have room for
    abbrev k : ℕ
    k = last_width n m (length bs)

    -- a shape with it is listed
    there : Memᴰ (widths n m k) (shapes n m)
    unfolding shapes
    there = ⊎_elim (λ e. Memᴰ.head (ap (widths n m) e)) (λ e. Memᴰ.tail (Memᴰ.head (ap (widths n m) e))) (width-listed (length bs))

    -- no other listed shape fits
    only : (w : Shape) → Memᴰ w (shapes n m) → are_lines w bs ≡ true → w ≡ widths n m k
    unfolding shapes
    only w l h = ⊎_elim
        (λ e. e ∙ ap (widths n m) (sym (width_short (length bs) (lines_long w bs h ∙ ap text_bytes e ∙ widths-long n m (short_width m)))))
        (λ e. e ∙ ap (widths n m) (long (lines_long w bs h ∙ ap text_bytes e ∙ widths-long n m (long_width m))))
        (two-listed l)
      where
        long : length bs ≡ body_length n m (long_width m) → long_width m ≡ k
        long l =
            split (eqb (length bs) (body_length n m (short_width m)))
            (λ t. let s = eqb-true (length bs) (body_length n m (short_width m)) t in
            let q : long_width m ≡ short_width m = omega (arith, l, s) in
            q ∙ sym (width_short (length bs) s))
            (λ f. sym (width-long (length bs) (eqb-false (length bs) (body_length n m (short_width m)) f)))

    -- lines in form are read by it
    pub shapes-first : fits (shapes n m) bs ≡ true → first_fitting (shapes n m) bs ≡ widths n m k
    shapes-first h = only (first_fitting (shapes n m) bs) (fitting_listed (shapes n m) bs h) (fitting_fits (shapes n m) bs h)

    -- a listed shape that fits is the one
    pub shapes_fit : (w : Shape) → Memᴰ w (shapes n m) → are_lines w bs ≡ true → (fits (shapes n m) bs ≡ true) × (first_fitting (shapes n m) bs ≡ w)
    shapes_fit w l h = let f = listed-shape (shapes n m) bs w l h in (f, shapes-first f ∙ sym (only w l h))

    -- and they are in form exactly if it fits
    pub shapes-one : fits (shapes n m) bs ≡ are_lines (widths n m k) bs
    shapes-one = split (fits (shapes n m) bs) fit none
      where
        fit : fits (shapes n m) bs ≡ true → fits (shapes n m) bs ≡ are_lines (widths n m k) bs
        fit h = h ∙ sym (ap (λ w. are_lines w bs) (sym (shapes-first h)) ∙ fitting_fits (shapes n m) bs h)

        none : fits (shapes n m) bs ≡ false → fits (shapes n m) bs ≡ are_lines (widths n m k) bs
        none h = split (are_lines (widths n m k) bs) (λ t. clash (listed-shape (shapes n m) bs (widths n m k) there t) h) (λ f. h ∙ sym f)

-- ---- what a last line says

module _ (m k : ℕ) where
  -- a short one
  pub boundaries_short : (zs : List ℤ) → k ≡ short_width m → boundaries_in m k zs ≡ replicate m (at zs 0)
  unfolding boundaries_in
  boundaries_short zs e = rw (eq-eqb k (short_width m) e, boundaries_in) refl

  -- another
  pub boundaries-long : (zs : List ℤ) → (k ≡ short_width m → ⊥) → boundaries_in m k zs ≡ take m zs
  unfolding boundaries_in
  boundaries-long zs h = rw (ne_eqb k (short_width m) h, boundaries_in) refl

  -- by either
  pub boundaries_by : (P : List ℤ → List ℤ → Type 0) (xs ys : List ℤ) → P (replicate m (at xs 0)) (replicate m (at ys 0)) → P (take m xs) (take m ys)
      → P (boundaries_in m k xs) (boundaries_in m k ys)
  unfolding boundaries_in
  boundaries_by P xs ys s l = split (eqb k (short_width m)) (λ t. rw (t, boundaries_in) s) (λ f. rw (f, boundaries_in) l)

  -- it has a boundary value for each dependence
  pub boundaries-count : (zs : List ℤ) → m ≤ length zs → length (boundaries_in m k zs) ≡ m
  boundaries-count zs h = boundaries_by (λ xs ys. length xs ≡ m) zs zs (length-replicate m (at zs 0)) (length-take-le m zs h)

  -- zeros behind its numbers change none of them
  pub boundaries-padded : (N : ℕ) (zs : List ℤ) → m ≤ length zs → boundaries_in m k (padded N zs) ≡ boundaries_in m k zs
  unfolding padded
  boundaries-padded N zs h =
      boundaries_by (λ xs ys. xs ≡ ys) (padded N zs) zs (ap (replicate m) (at-padded N zs 0)) (take-append-le m zs (replicate (N - length zs) (pos 0)) h)

-- no line says none
pub boundaries-none : (m : ℕ) → boundaries_in m 0 [] ≡ []
boundaries-none m = boundaries-long m 0 [] (λ e. absurd (omega arith)) ∙ take-nil m
