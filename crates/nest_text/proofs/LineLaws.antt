-- Laws of one line, a field at a time, and of the lines that follow one another.
-- Assumes nothing.
use mathlib.Core.Path.{◌≡◌, refl, sym, ap, ◌∙◌}
use mathlib.Core.Bool.{true, false, not}
use mathlib.Core.List.{List, ◌++◌}
use Prim.Native.Nat.{ℕ, ◌+◌, ◌*◌, ◌-◌, ◌≤◌, ◌<◌}
use native.Mathlib.Omega.{arith}
use borrow.Author.Tests.{eq-eqb, ne_eqb}
use lib.IntN.{ℤ, pos}
use lib.ListN.{length, get_or, set, take, drop, replicate, get_or-eq_default}
use lib.Seq.{take-add, take-take, drop_at, length-take-le}
use Rattle.integers.specs.Lists.{any, tab}
use Rattle.integers.proofs.Lists.{and_false, tab-more, length-tab, any-tab-more, any-tab_found}
use Rattle.nest.specs.Nest.{padded}
use Rattle.std.proofs.Common.{Some, None}
use Rattle.nest_text.specs.Fields.{Bytes, columns, newline, read_of}
use Rattle.nest_text.specs.Text.{is_malformed, number_of, field_at, is_line, numbers_of}
use Rattle.nest_text.specs.Reader.{max_fields, line_of}
use Rattle.nest.proofs.Padding.{padded-none, padded-set}

-- a line of k fields has k numbers
pub numbers-length : (k : ℕ) (bs : Bytes) → length (numbers_of k bs) ≡ k
unfolding numbers_of
numbers-length k bs = length-tab (λ i. number_of (field_at bs i)) k

-- the first i fields of the line are numbers, and these are they, with zeros behind them
abbrev pub LineRead : Bytes → ℕ → ℕ → List ℤ → Type 0
LineRead bs k i numbers = (i ≤ k) × ((any is_malformed (tab (field_at bs) i) ≡ false) × (numbers ≡ padded max_fields (numbers_of i bs)))

-- the zeros that a line begins with
abbrev pub zeros : List ℤ
zeros = replicate max_fields (pos 0)

module _ (bs : Bytes) (k : ℕ) where
  -- a line that is not in form is answered so
  malformed-line : is_line k bs ≡ false → None ≡ line_of k bs
  unfolding line_of
  malformed-line e = rw (e, line_of) refl

  -- no byte 10 behind the last field
  pub line-unended : (get_or bs (columns * k) 0 ≡ newline → ⊥) → None ≡ line_of k bs
  unfolding is_line
  line-unended e = malformed-line (rw (ne_eqb (get_or bs (columns * k) 0) newline e) (and_false (not (any is_malformed (tab (field_at bs) k)))))

  -- too few bytes
  pub line_short : length bs ≤ columns * k → None ≡ line_of k bs
  line_short h = line-unended (λ e. let d = get_or-eq_default bs 0 h in omega (arith, e, d))

  -- a field of the line by itself is that of the text
  pub field_of-line : (i : ℕ) → i < k → columns * k ≤ length bs → read_of (take columns (drop (columns * i) (take (columns * k) bs))) ≡ field_at bs i
  field_of-line i h l =
      let a : ℕ = columns * i in
      let e : columns * k ≡ a + (columns * k - a) = omega arith in
      let p : take (columns * k) bs ≡ take a bs ++ take (columns * k - a) (drop a bs) = ap (λ (j : ℕ). take j bs) e ∙ take-add a (columns * k - a) bs in
      let q : drop a (take (columns * k) bs) ≡ take (columns * k - a) (drop a bs) = ap (drop a) p ∙ drop_at (take a bs) (take (columns * k - a) (drop a bs)) a (length-take-le a bs (omega arith)) in
      ap read_of (ap (take columns) q ∙ take-take columns (columns * k - a) (drop a bs) (omega arith))

  -- a field that is no number
  pub field_malformed : (i : ℕ) → i < k → field_at bs i ≡ None → None ≡ line_of k bs
  unfolding is_line
  field_malformed i h e = malformed-line (rw (any-tab_found is_malformed (field_at bs) k i h (ap is_malformed e)) refl)

  -- before the first field
  pub line-start : LineRead bs k 0 zeros
  unfolding numbers_of tab any
  line-start = (omega arith, (refl, sym (padded-none max_fields)))

  -- one field more
  pub line-more : (i : ℕ) (numbers : List ℤ) (z : ℤ) → k ≤ max_fields → i < k → LineRead bs k i numbers → field_at bs i ≡ Some z → LineRead bs k (i + 1) (set numbers i z)
  unfolding numbers_of
  line-more i numbers z m h r e =
      let q : number_of (field_at bs i) ≡ z = ap number_of e in (
        omega arith,
        (
          any-tab-more is_malformed (field_at bs) i r.1.0 (ap is_malformed e),
          rw (r.1.1, tab-more (λ j. number_of (field_at bs j)) i, q)
              (padded-set max_fields (tab (λ j. number_of (field_at bs j)) i) i z (length-tab (λ j. number_of (field_at bs j)) i) (omega arith)),
        ),
      )

  -- all fields are numbers and byte 10 follows
  ended : any is_malformed (tab (field_at bs) k) ≡ false → get_or bs (columns * k) 0 ≡ newline → is_line k bs ≡ true
  unfolding is_line
  ended g e = rw (g, eq-eqb (get_or bs (columns * k) 0) newline e) refl

  -- all fields
  pub line_end : (i : ℕ) (numbers : List ℤ) → LineRead bs k i numbers → k ≤ i → get_or bs (columns * k) 0 ≡ newline → Some numbers ≡ line_of k bs
  unfolding line_of
  line_end i numbers r h e =
      let q : i ≡ k = omega arith in
      rw (ended (rw q at r.1.0) e, line_of) (ap (λ (l : List ℤ). Some l) (r.1.1 ∙ ap (λ j. padded max_fields (numbers_of j bs)) q))
