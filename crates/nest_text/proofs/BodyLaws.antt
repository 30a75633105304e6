-- The lines behind line 1, read one after the other.
-- Assumes nothing.
use mathlib.Core.Path.{◌≡◌, refl, sym, ap, ◌∙◌}
use mathlib.Core.Bool.{true, false}
use mathlib.Core.List.{List, [], ◌∷◌, ◌++◌, map, map-map}
use Prim.Native.Nat.{ℕ, zero, suc, ◌+◌, ◌*◌, ◌-◌, ◌≤◌, ◌<◌}
use native.Mathlib.Numerals.{add-one}
use native.Mathlib.Omega.{arith}
use borrow.Author.Tests.{eq-eqb, ne_eqb, eqb-true, eqb-false, leb-true, leb-false, ltb-true, ltb-false}
use lib.Dec.{eqb, leb, ltb}
use lib.IntN.{ℤ, pos}
use lib.ListN.{length, get_or, take, drop, length-append, length-take, length-drop, length-replicate, length-map}
use lib.ListN.{get_or-eq_default}
use lib.Seq.{drop-cons, drop-drop, drop-length, get_or-drop, get_or-take, take-suc, take_all, length-take-le}
use Rattle.integers.proofs.Lists.{split}
use Rattle.nest.specs.declared.LoopNest.{LoopNest}
use Rattle.nest.specs.Nest.{Limit, padded, nest_of, max_depth, max_dependences}
use Rattle.std.proofs.Common.{Some, None}
use Rattle.nest_text.specs.Fields.{Bytes, columns}
use Rattle.nest_text.specs.Text.{at, is_line, numbers_of, behind, are_lines}
use Rattle.nest_text.specs.Text.{line_numbers, widths, shapes, fits, first_fitting, nest_from}
use Rattle.nest_text.specs.Reader.{max_fields, line_of, last_width, with_line, filled, body_read}
use Rattle.nest_text.proofs.LineLaws.{numbers-length}
use Rattle.nest_text.proofs.LastLine.{line-inside, shapes-one, shapes-first}
use Rattle.nest_text.proofs.RowLaws.{width-vector, width-last, limits-line, time-line, dependence-line}
use Rattle.nest_text.proofs.RowLaws.{last_line}
use Rattle.nest_text.proofs.FillLaws.{same-nest, filled-limit, filled-time, filled-dependence, filled-last}

-- ---- what an answer of the line reader says
module _ (k : ℕ) (bs : Bytes) where
  -- that of a line in form
  in_form : is_line k bs ≡ true → line_of k bs ≡ Some (padded max_fields (numbers_of k bs))
  unfolding line_of
  in_form e = rw (e, line_of) refl

  -- that of another
  not_in_form : is_line k bs ≡ false → line_of k bs ≡ None
  unfolding line_of
  not_in_form e = rw (e, line_of) refl

  -- numbers were answered
  pub answered : (row : List ℤ) → Some row ≡ line_of k bs → (is_line k bs ≡ true) × (row ≡ padded max_fields (numbers_of k bs))
  answered row e = split (is_line k bs)
      (λ t. let q : Some row ≡ Some (padded max_fields (numbers_of k bs)) = e ∙ in_form t in (t, cc))
      (λ f. let q : Some row ≡ None = e ∙ not_in_form f in cc)

  -- none were
  pub unanswered : None ≡ line_of k bs → is_line k bs ≡ false
  unanswered e = split (is_line k bs)
      (λ t. let q : None ≡ Some (padded max_fields (numbers_of k bs)) = e ∙ in_form t in cc)
      (λ f. f)

  -- and a line in form ends in the text
  pub answered_inside : (row : List ℤ) → Some row ≡ line_of k bs → columns * k + 1 ≤ length bs
  answered_inside row e = omega (arith, line-inside k bs (answered row e).0)

-- ---- lines in general

-- as many lines as widths
pub length-lines : (ks : List ℕ) (bs : Bytes) → length (line_numbers ks bs) ≡ length ks
unfolding line_numbers
length-lines [] bs = refl
length-lines (k ∷ ks) bs = ap suc (length-lines ks (behind k bs))

-- each line has as many numbers as fields
pub row-length : (ks : List ℕ) (bs : Bytes) (j : ℕ) → length (get_or (line_numbers ks bs) j []) ≡ get_or ks j 0
unfolding line_numbers
row-length [] bs j = refl
row-length (k ∷ ks) bs zero = numbers-length k bs
row-length (k ∷ ks) bs (suc j) = row-length ks (behind k bs) j

-- the first line is in form
lines_on : (k : ℕ) (ks : List ℕ) (bs : Bytes) → is_line k bs ≡ true → are_lines (k ∷ ks) bs ≡ are_lines ks (behind k bs)
unfolding are_lines
lines_on k ks bs e = rw (e, are_lines) refl

-- the first line is not in form
lines_off : (k : ℕ) (ks : List ℕ) (bs : Bytes) → is_line k bs ≡ false → are_lines (k ∷ ks) bs ≡ false
unfolding are_lines
lines_off k ks bs e = rw (e, are_lines) refl

-- the numbers of the first line
numbers_on : (k : ℕ) (ks : List ℕ) (bs : Bytes) → line_numbers (k ∷ ks) bs ≡ numbers_of k bs ∷ line_numbers ks (behind k bs)
unfolding line_numbers
numbers_on k ks bs = refl

-- behind the last line nothing may follow
lines_none : (bs : Bytes) → are_lines [] bs ≡ eqb (length bs) 0
unfolding are_lines
lines_none bs = refl

-- how many lines follow line 1
pub length-widths : (n m k : ℕ) → length (widths n m k) ≡ n + 1 + m + 1
unfolding widths
length-widths n m k = simp (length-append, length-replicate) (omega arith)

-- ---- the lines behind line 1

-- i lines are read, of which the last of all has w fields; `rest` stands behind them, and s holds
-- their numbers
pub record Reached (n m w : ℕ) (c : ℤ) (bs : Bytes) (i : ℕ) (rest : Bytes) (s : LoopNest) : Type 0 where
  pub most : i ≤ n + 1 + m + 1
  pub form : are_lines (widths n m w) bs ≡ are_lines (drop i (widths n m w)) rest
  pub numbers : drop i (line_numbers (widths n m w) bs) ≡ line_numbers (drop i (widths n m w)) rest
  pub held : s ≡ filled n m c (take i (line_numbers (widths n m w) bs))

-- the limits that a line says
abbrev limit_of : List ℤ → Limit
limit_of l = record { lower = at l 0; upper = at l 1 }

-- the numbers of line i, of any kind, in their places
module _ (n m w : ℕ) (c : ℤ) (ls : List (List ℤ)) (zs : List ℤ) (i : ℕ) (e : length ls ≡ i) (low : n ≤ max_depth) (few : m ≤ max_dependences) (least : m ≤ w) (most : w ≤ m + max_dependences) (l : length zs ≡ get_or (widths n m w) i 0) where
  -- what is shown of each kind
  abbrev Placed : Type 0
  Placed = filled n m c (ls ++ (zs ∷ [])) ≡ with_line n m w (filled n m c ls) i (padded max_fields zs)

  -- a line of limits
  limits_placed : i < n → Placed
  limits_placed p = filled-limit n m c ls zs i e low few p ∙ limits-line n m w i (filled n m c ls) (padded max_fields zs) p

  -- a vector has n numbers
  vector-length : n ≤ i → i ≤ n + m → length zs ≡ n
  vector-length p u = l ∙ (ap (λ (k : ℕ). get_or (widths n m w) k 0) (omega arith) ∙ width-vector n m w (i - n) (omega arith))

  -- the time vector
  time_placed : i ≡ n → Placed
  time_placed p = filled-time n m c ls zs i e low few p (vector-length (omega arith) (omega arith)) ∙ time-line n m w i (filled n m c ls) (padded max_fields zs) p

  -- a dependence
  dependence_placed : n < i → i ≤ n + m → ((j : ℕ) → n < j → length (get_or ls j []) ≤ max_depth) → Placed
  dependence_placed p u narrow = filled-dependence n m c ls zs i e low few p u (vector-length (omega arith) u) narrow ∙ dependence-line n m w i (filled n m c ls) (padded max_fields zs) p u

  -- the boundary values and the weights
  last_placed : n + m < i → i < n + 1 + m + 1 → Placed
  last_placed u h =
      let z : i ≡ n + 1 + m = omega arith in
      let wide : length zs ≡ w = l ∙ (ap (λ (k : ℕ). get_or (widths n m w) k 0) (omega arith) ∙ width-last n m w) in
      filled-last n m c ls zs i e low few w z wide least most ∙ last_line n m w i (filled n m c ls) (padded max_fields zs) u

  -- any of them
  line_placed : i < n + 1 + m + 1 → ((j : ℕ) → n < j → i ≤ n + m → length (get_or ls j []) ≤ max_depth) → Placed
  line_placed h narrow = split (ltb i n) (λ t. limits_placed (ltb-true i n t)) (λ f. split (leb i (n + m)) (vector (ltb-false i n f)) last)
    where
      vector : n ≤ i → leb i (n + m) ≡ true → Placed
      vector p t =
          let u = leb-true i (n + m) t in
          split (eqb i n) (λ g. time_placed (eqb-true i n g)) (λ g. dependence_placed (omega (arith, eqb-false i n g)) u (λ j b. narrow j b u))

      last : leb i (n + m) ≡ false → Placed
      last t = last_placed (leb-false i (n + m) t) h

module _ (n m w : ℕ) (c : ℤ) (bs : Bytes) (low : n ≤ max_depth) (few : m ≤ max_dependences) (least : m ≤ w) (limit : w ≤ m + max_dependences) where
  -- the widths of the lines
  abbrev ks : List ℕ
  ks = widths n m w

  -- the numbers of all lines
  abbrev all : List (List ℤ)
  all = line_numbers (widths n m w) bs

  -- how many lines there are
  long : length all ≡ n + 1 + m + 1
  long = length-lines ks bs ∙ length-widths n m w

  -- the rows before line i, up to the last dependence
  narrow : (i : ℕ) → (j : ℕ) → n < j → i ≤ n + m → length (get_or (take i all) j []) ≤ max_depth
  narrow i j b u = split (ltb j i) (λ t. there (ltb-true j i t)) (λ f. past (ltb-false j i f))
    where
      there : j < i → length (get_or (take i all) j []) ≤ max_depth
      there p =
          let wide : length (get_or all j []) ≡ n = row-length ks bs j ∙ (ap (λ (k : ℕ). get_or (widths n m w) k 0) (omega arith) ∙ width-vector n m w (j - n) (omega arith)) in
          rw (get_or-take i all j [] p) (omega arith)

      past : i ≤ j → length (get_or (take i all) j []) ≤ max_depth
      past q =
          let none : length (take i all) ≤ j = simp length-take (omega arith) in
          rw (get_or-eq_default (take i all) [] {n = j} none) (omega arith)

  module _ (i : ℕ) (rest : Bytes) (s : LoopNest) (r : Reached n m w c bs i rest s) (h : i < n + 1 + m + 1) where
    -- the width of line i
    abbrev k : ℕ
    k = get_or (widths n m w) i 0

    -- and those behind it
    widths_on : drop i ks ≡ k ∷ drop (i + 1) ks
    widths_on = rw add-one (drop-cons ks i 0 (rw length-widths h))

    -- line i and those behind it
    rest_on : drop i all ≡ numbers_of k rest ∷ line_numbers (drop (i + 1) ks) (behind k rest)
    rest_on = r.numbers ∙ (ap (λ (l : List ℕ). line_numbers l rest) widths_on ∙ numbers_on k (drop (i + 1) ks) rest)

    -- the numbers of line i
    line-here : get_or all i [] ≡ numbers_of k rest
    line-here =
        let z : i ≡ i + 0 = omega arith in
        ap (λ (j : ℕ). get_or all j []) z ∙ (sym (get_or-drop i all 0 []) ∙ ap (λ (l : List (List ℤ)). get_or l 0 []) rest_on)

    -- a malformed line
    pub reached_malformed : is_line k rest ≡ false → are_lines (widths n m w) bs ≡ false
    reached_malformed e = r.form ∙ (ap (λ (l : List ℕ). are_lines l rest) widths_on ∙ lines_off k (drop (i + 1) ks) rest e)

    -- one line more
    pub reached_more : (t : LoopNest) → is_line k rest ≡ true → t ≡ with_line n m w s i (padded max_fields (numbers_of k rest))
        → Reached n m w c bs (i + 1) (behind k rest) t
    reached_more t e f =
        let more : take (i + 1) all ≡ take i all ++ (numbers_of k rest ∷ []) = rw (add-one i, ← line-here) (take-suc all i [] (rw long h)) in
        record {
          most = omega arith;
          form = r.form ∙ (ap (λ (l : List ℕ). are_lines l rest) widths_on ∙ lines_on k (drop (i + 1) ks) rest e);
          numbers = sym (drop-drop 1 i all) ∙ ap (drop 1) rest_on;
          held =
              f
              ∙ (ap (λ (x : LoopNest). with_line n m w x i (padded max_fields (numbers_of k rest))) r.held
              ∙ (sym (line_placed n m w c (take i all) (numbers_of k rest) i (length-take-le i all (rw long (omega arith))) low few least limit (numbers-length k rest) h (narrow i))
              ∙ ap (filled n m c) (sym more)));
        }

    -- the same by what the line reader answered for a line of v fields
    module _ (v : ℕ) (wide : v ≡ get_or (widths n m w) i 0) where
      -- the answer for a malformed line
      pub turn-malformed : None ≡ line_of v rest → are_lines (widths n m w) bs ≡ false
      turn-malformed read = reached_malformed (unanswered k rest (rw wide at read))

      -- the state after a line in form
      pub turn_more : (row : List ℤ) → Some row ≡ line_of v rest → (t : LoopNest) → t ≡ with_line n m w s i row
          → Reached n m w c bs (i + 1) (behind v rest) t
      turn_more row read t e =
          let a = answered k rest row (rw wide at read) in
          rw wide (reached_more t a.0 (e ∙ ap (with_line n m w s i) a.1))

  -- ---- the end

  -- with all lines the nest is the defined one
  pub filled-nest : filled n m c all ≡ nest_from n m c all
  unfolding filled nest_from nest_of
  filled-nest =
      let ds = take m (drop (n + 1) all) in
      let depth : n ≡ length (map limit_of (take n all)) = sym (length-map (take n all) limit_of ∙ length-take-le n all (rw long (omega arith))) in
      let count : m ≡ length ds = sym (length-take-le m (drop (n + 1) all) (rw (length-drop, long) (omega arith))) in
      same-nest c (ap pos depth) (ap pos count)
      (ap (padded max_depth) (sym (map-map (λ (l : Limit). l.lower) limit_of (take n all))))
      (ap (padded max_depth) (sym (map-map (λ (l : Limit). l.upper) limit_of (take n all))))
      refl
      refl
      refl
      refl

  module _ (i : ℕ) (rest : Bytes) (s : LoopNest) (r : Reached n m w c bs i rest s) (h : n + 1 + m + 1 ≤ i) where
    -- all lines are read
    end_is : i ≡ n + 1 + m + 1
    end_is = let a = r.most in omega arith

    -- the form is kept if nothing follows
    form_end : are_lines (widths n m w) bs ≡ eqb (length rest) 0
    form_end =
        let none : drop i ks ≡ [] = ap (λ (j : ℕ). drop j ks) (end_is ∙ sym (length-widths n m w)) ∙ drop-length ks in
        r.form ∙ (ap (λ (l : List ℕ). are_lines l rest) none ∙ lines_none rest)

    -- bytes behind the last line
    pub body_trailing : 0 < length rest → are_lines (widths n m w) bs ≡ false
    body_trailing e = form_end ∙ ne_eqb (length rest) 0 (λ z. absurd (omega arith))

    -- nothing follows the last line
    pub body-whole : w ≡ last_width n m (length bs) → length rest ≡ 0 → Some s ≡ body_read n m c bs
    unfolding body_read
    body-whole told e =
        let f : fits (shapes n m) bs ≡ true = shapes-one n m bs ∙ (ap (λ j. are_lines (widths n m j) bs) (sym told) ∙ (form_end ∙ eq-eqb (length rest) 0 e)) in
        let g : s ≡ nest_from n m c all = r.held ∙ (ap (filled n m c) (take_all i all (rw long h)) ∙ filled-nest) in
        let shape : first_fitting (shapes n m) bs ≡ widths n m w = shapes-first n m bs f ∙ ap (widths n m) (sym told) in
        rw (f, g, shape, body_read) refl

  -- a body that is not in form
  pub body-malformed : w ≡ last_width n m (length bs) → are_lines (widths n m w) bs ≡ false → None ≡ body_read n m c bs
  unfolding body_read
  body-malformed told e = rw (shapes-one n m bs ∙ (ap (λ j. are_lines (widths n m j) bs) (sym told) ∙ e), body_read) refl
