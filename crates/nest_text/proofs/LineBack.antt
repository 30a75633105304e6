-- Lines that were written are read back as their numbers, and lines that were read are written
-- again as they stood; the tests of lines are the document's words.
-- Assumes nothing.
use mathlib.Core.Path.{◌≡◌, refl, sym, ap, ap₂, subst, ◌∙◌}
use mathlib.Core.Bool.{Bool, true, false, not, ◌&&◌}
use mathlib.Core.Logic.{◌↔◌}
use mathlib.Core.List.{List, [], ◌∷◌, ◌++◌, map, flat_map, append_assoc, Memᴰ}
use Prim.Native.Nat.{ℕ, zero, suc, ◌+◌, ◌*◌, ◌≤◌, ◌<◌}
use native.Mathlib.Nat.{le_of_suc-le-suc, not-suc-le-zero}
use native.Mathlib.Numerals.{add-one}
use native.Mathlib.Omega.{arith}
use borrow.Author.Tests.{eq-eqb, eqb-true, not-true, lt-ltb, ltb-true, ltb-false}
use lib.Dec.{eqb, ltb}
use lib.IntN.{ℤ, pos}
use lib.ListN.{length, get_or, take, drop, length-append, length-drop, take-append-drop, get_or-eq_default}
use lib.Seq.{take_at, drop_at, get_or_at, drop-append-add, drop-cons, take-add, length-take-le}
use Rattle.integers.specs.Lists.{any, tab}
use Rattle.integers.proofs.Lists.{clash, split, and_true, any-tab-each, any-tab-none, tab-list, flat_map-append, flat_map-one}
use Rattle.std.proofs.Common.{Option, Some, None}
use Rattle.nest_text.specs.Fields.{columns, Bytes, newline, blanks_of, all_digits, digits_of, signed_of, read_of, field_of}
use Rattle.nest_text.specs.Text.{line_length, line, is_malformed, number_of, field_at, is_line, numbers_of, behind}
use Rattle.nest_text.specs.Text.{are_lines, line_numbers, Shape, fits, first_fitting}
use Rattle.nest_text.specs.Text.{header_widths, is_headed, header_width_of, header_numbers, rest_of}
use Rattle.nest_text.specs.Stored.{InColumns}
use Rattle.nest_text.specs.Form.{Begins, Consists, Shaped}
use Rattle.nest_text.proofs.FieldBack.{read-written}
use Rattle.nest_text.proofs.Numerals.{field_iff, field_words}
use Rattle.nest_text.proofs.LineLaws.{numbers-length}
use Rattle.nest_text.proofs.WriteLaws.{field_length, line-cons}
use Rattle.nest_text.proofs.ShapeLaws.{fitting_fits, fitting_listed, listed-shape, header-line, listed-header}

-- ---- numbers that six columns hold
abbrev pub AllInColumns : List ℤ → Type 0
AllInColumns [] = Unit {0}
AllInColumns (z ∷ zs) = InColumns z × AllInColumns zs

-- the same of each line
abbrev pub LinesInColumns : List (List ℤ) → Type 0
LinesInColumns [] = Unit {0}
LinesInColumns (l ∷ ls) = AllInColumns l × LinesInColumns ls

-- numbers behind numbers
pub all_append : (xs ys : List ℤ) → AllInColumns xs → AllInColumns ys → AllInColumns (xs ++ ys)
all_append [] ys h k = k
all_append (x ∷ xs) ys h k = (h.0, all_append xs ys h.1 k)

-- a table of numbers
pub all-tab : (g : ℕ → ℤ) (k : ℕ) → ((i : ℕ) → i < k → InColumns (g i)) → AllInColumns (tab g k)
unfolding tab
all-tab g zero h = tt
all-tab g (suc k) h = all_append (tab g k) (g k ∷ []) (all-tab g k (λ i l. h i (omega arith))) (h k (omega arith), tt)

-- ---- a line that was written, with bytes behind it
fields_cons : (z : ℤ) (zs : List ℤ) (rest : Bytes) → flat_map field_of (z ∷ zs) ++ rest ≡ field_of z ++ (flat_map field_of zs ++ rest)
unfolding flat_map
fields_cons z zs rest = append_assoc (field_of z) (flat_map field_of zs) rest

-- six bytes for each number
pub all-length : (zs : List ℤ) → AllInColumns zs → length (flat_map field_of zs) ≡ columns * length zs
all-length [] h = unfold flat_map in omega arith
all-length (z ∷ zs) h = step (all-length zs h.1)
  where
    step : length (flat_map field_of zs) ≡ columns * length zs → length (flat_map field_of (z ∷ zs)) ≡ columns * suc (length zs)
    step ih = unfold flat_map in length-append (field_of z) (flat_map field_of zs) ∙ omega (arith, field_length z h.0, ih)

-- field i is read as number i
field_written : (zs : List ℤ) (rest : Bytes) (i : ℕ) → AllInColumns zs → i < length zs → field_at (flat_map field_of zs ++ rest) i ≡ Some (get_or zs i (pos 0))
field_written [] rest i h l = absurd (not-suc-le-zero l)
field_written (z ∷ zs) rest zero h l =
    ap (λ b. read_of (take columns b)) (fields_cons z zs rest) ∙ ap read_of (take_at (field_of z) (flat_map field_of zs ++ rest) columns (field_length z h.0)) ∙ read-written z h.0
field_written (z ∷ zs) rest (suc i) h l =
    let six = field_length z h.0 in
    let e : columns * suc i ≡ length (field_of z) + columns * i = omega arith in
    ap₂ (λ k b. read_of (take columns (drop k b))) e (fields_cons z zs rest) ∙ ap (λ b. read_of (take columns b)) (drop-append-add (field_of z) (flat_map field_of zs ++ rest) (columns * i))
    ∙ field_written zs rest i h.1 (le_of_suc-le-suc l)

-- what a written line is read as
pub record LineRead (zs : List ℤ) (rest bs : Bytes) : Type 0 where
  pub in_form : is_line (length zs) bs ≡ true
  pub numbers : numbers_of (length zs) bs ≡ zs
  pub rest_is : behind (length zs) bs ≡ rest

-- each number, byte 10, and what stands behind
pub line_read : (zs : List ℤ) (rest : Bytes) → AllInColumns zs → LineRead zs rest (line zs ++ rest)
unfolding line is_line numbers_of
line_read zs rest h =
    let fields = flat_map field_of zs in
    let front : (fields ++ (newline ∷ [])) ++ rest ≡ fields ++ (newline ∷ rest) = append_assoc fields (newline ∷ []) rest in
    let long = all-length zs h in
    let read : (i : ℕ) → i < length zs → field_at ((fields ++ (newline ∷ [])) ++ rest) i ≡ Some (get_or zs i (pos 0)) = λ i l. ap (λ b. field_at b i) front ∙ field_written zs (newline ∷ rest) i h l in
    record {
      in_form =
          ap₂ (λ a b. not a && b)
          (any-tab-none is_malformed (field_at ((fields ++ (newline ∷ [])) ++ rest)) (length zs) (λ i l. ap is_malformed (read i l)))
          (eq-eqb (get_or ((fields ++ (newline ∷ [])) ++ rest) (columns * length zs) 0) newline (ap (λ b. get_or b (columns * length zs) 0) front ∙ get_or_at fields newline rest 0 (columns * length zs) long));
      numbers = tab-list (λ i. number_of (field_at ((fields ++ (newline ∷ [])) ++ rest) i)) zs (pos 0) (length zs) refl (λ i l. ap number_of (read i l));
      rest_is = drop_at (fields ++ (newline ∷ [])) rest (columns * length zs + 1) (length-append fields (newline ∷ []) ∙ ap (λ n. n + 1) long);
    }

-- lines that were written
pub lines-read : (ls : List (List ℤ)) → LinesInColumns ls → (are_lines (map length ls) (flat_map line ls) ≡ true) × (line_numbers (map length ls) (flat_map line ls) ≡ ls)
lines-read [] h = unfold are_lines line_numbers flat_map in (refl, refl)
lines-read (l ∷ ls) h = step (lines-read ls h.1) (line_read l (flat_map line ls) h.0)
  where
    step : (are_lines (map length ls) (flat_map line ls) ≡ true) × (line_numbers (map length ls) (flat_map line ls) ≡ ls) → LineRead l (flat_map line ls) (line l ++ flat_map line ls)
        → (are_lines (map length (l ∷ ls)) (flat_map line (l ∷ ls)) ≡ true) × (line_numbers (map length (l ∷ ls)) (flat_map line (l ∷ ls)) ≡ l ∷ ls)
    step ih r = unfold are_lines line_numbers flat_map in (
      ap₂ (λ b rest. elim b as (λ _. Bool) [ true ↦ are_lines (map length ls) rest | false ↦ false ]) r.in_form r.rest_is ∙ ih.0,
      ap₂ (λ (zs : List ℤ) (rest : Bytes). zs ∷ line_numbers (map length ls) rest) r.numbers r.rest_is ∙ ap (λ (x : List (List ℤ)). l ∷ x) ih.1,
    )

-- ---- a line that was read
known : (f : Option ℤ) → is_malformed f ≡ false → f ≡ Some (number_of f)
known (Some z) e = refl
known None e = clash refl e

-- a field that was read has its number in columns
field_again : (bs : Bytes) (i : ℕ) → columns * i + columns ≤ length bs → is_malformed (field_at bs i) ≡ false
    → InColumns (number_of (field_at bs i)) × (take columns (drop (columns * i) bs) ≡ field_of (number_of (field_at bs i)))
field_again bs i h e =
    let room : columns ≤ length (drop (columns * i) bs) = subst (λ n. columns ≤ n) (sym (length-drop (columns * i) bs)) (omega arith) in
    (field_iff (take columns (drop (columns * i) bs)) (number_of (field_at bs i)) (length-take-le columns (drop (columns * i) bs) room)).0 (known (field_at bs i) e)

-- k fields that were read
fields_again : (bs : Bytes) (k : ℕ) → columns * k ≤ length bs → ((i : ℕ) → i < k → is_malformed (field_at bs i) ≡ false) → flat_map field_of (tab (λ i. number_of (field_at bs i)) k) ≡ take (columns * k) bs
fields_again bs zero h e = unfold tab flat_map in refl
fields_again bs (suc k) h e = step (fields_again bs k (omega arith) (λ i l. e i (omega arith)))
  where
    front : List ℤ
    front = tab (λ i. number_of (field_at bs i)) k

    six : columns * k + columns ≡ columns * suc k
    six = omega arith

    step : flat_map field_of front ≡ take (columns * k) bs → flat_map field_of (tab (λ i. number_of (field_at bs i)) (suc k)) ≡ take (columns * suc k) bs
    step ih = unfold tab in
        flat_map-append field_of front (number_of (field_at bs k) ∷ [])
        ∙ ap₂ (λ (a b : Bytes). a ++ b) ih (flat_map-one field_of (number_of (field_at bs k)) ∙ sym (field_again bs k (omega arith) (e k (omega arith))).1)
        ∙ sym (take-add (columns * k) columns bs) ∙ ap (λ n. take n bs) six

-- where a byte that is not 0 is read, there is a place for it
reaches : (bs : Bytes) (n b : ℕ) → 0 < b → get_or bs n 0 ≡ b → n < length bs
reaches bs n b h e = split (ltb n (length bs)) (λ t. ltb-true n (length bs) t) (λ f. let d = get_or-eq_default bs 0 {n = n} (ltb-false n (length bs) f) in absurd (omega arith))

-- a line that was read begins the bytes
pub line_again : (k : ℕ) (bs : Bytes) → is_line k bs ≡ true → AllInColumns (numbers_of k bs) × (bs ≡ line (numbers_of k bs) ++ behind k bs)
unfolding line is_line numbers_of
line_again k bs h =
    let a = and_true (not (any is_malformed (tab (field_at bs) k))) (eqb (get_or bs (columns * k) 0) newline) h in
    let each : (i : ℕ) → i < k → is_malformed (field_at bs i) ≡ false = λ i l. any-tab-each is_malformed (field_at bs) k i (not-true (any is_malformed (tab (field_at bs) k)) a.0) l in
    let ten : get_or bs (columns * k) 0 ≡ newline = eqb-true (get_or bs (columns * k) 0) newline a.1 in
    let room : columns * k < length bs = reaches bs (columns * k) newline (omega arith) ten in
    let f = fields_again bs k (omega arith) each in
    let e : drop (line_length k) bs ≡ drop (suc (columns * k)) bs = ap (λ n. drop n bs) (add-one (columns * k)) in (
      all-tab (λ i. number_of (field_at bs i)) k (λ i l. (field_again bs i (omega arith) (each i l)).0),
      sym (ap₂ (λ (x y : Bytes). (x ++ (newline ∷ [])) ++ y) f e ∙ append_assoc (take (columns * k) bs) (newline ∷ []) (drop (suc (columns * k)) bs)
          ∙ ap (λ (b : ℕ). take (columns * k) bs ++ (b ∷ drop (suc (columns * k)) bs)) (sym ten) ∙ ap (λ l. take (columns * k) bs ++ l) (sym (drop-cons bs (columns * k) 0 room)) ∙ take-append-drop (columns * k) bs),
    )

-- ---- a line has one number of fields alone

-- byte 10 begins no number
newline-malformed : (l : Bytes) → read_of (newline ∷ l) ≡ None
unfolding read_of blanks_of signed_of digits_of all_digits
newline-malformed l = rw (lt-ltb 0 (suc (length l)) (omega arith)) refl

-- where a line of j fields ends, no field of a longer line stands
no_longer : (j k : ℕ) (bs : Bytes) → j < k → is_line j bs ≡ true → is_line k bs ≡ true → ⊥
unfolding is_line
no_longer j k bs l h g =
    let a = and_true (not (any is_malformed (tab (field_at bs) j))) (eqb (get_or bs (columns * j) 0) newline) h in
    let b = and_true (not (any is_malformed (tab (field_at bs) k))) (eqb (get_or bs (columns * k) 0) newline) g in
    let ten : get_or bs (columns * j) 0 ≡ newline = eqb-true (get_or bs (columns * j) 0) newline a.1 in
    let room : columns * j < length bs = reaches bs (columns * j) newline (omega arith) ten in
    let there : drop (columns * j) bs ≡ newline ∷ drop (suc (columns * j)) bs =
    drop-cons bs (columns * j) 0 room ∙ ap (λ (x : ℕ). x ∷ drop (suc (columns * j)) bs) ten in
    let none : is_malformed (field_at bs j) ≡ false = any-tab-each is_malformed (field_at bs) k j (not-true (any is_malformed (tab (field_at bs) k)) b.0) l in
    let bad : field_at bs j ≡ None = ap (λ (x : Bytes). read_of (take columns x)) there ∙ newline-malformed (take 5 (drop (suc (columns * j)) bs)) in
    clash (ap is_malformed bad) none

-- so two lines with which the bytes begin have as many
pub line_unique : (j k : ℕ) (bs : Bytes) → is_line j bs ≡ true → is_line k bs ≡ true → j ≡ k
line_unique j k bs h g =
    split (ltb j k)
    (λ t. absurd (no_longer j k bs (ltb-true j k t) h g))
    (λ f. split (ltb k j) (λ t. absurd (no_longer k j bs (ltb-true k j t) g h)) (λ e. omega (arith, ltb-false j k f, ltb-false k j e)))

-- bytes that begin with a line of one of the numbers of fields that line 1 may have
module _ (zs : List ℤ) (rest bs : Bytes) (r : LineRead zs rest bs) (listed : Memᴰ (length zs) header_widths) where
  -- have line 1 in form
  pub headed-line : is_headed bs ≡ true
  headed-line = listed-header bs (length zs) listed r.in_form

  -- it is read with as many
  width-line : header_width_of bs ≡ length zs
  width-line = line_unique (header_width_of bs) (length zs) bs (header-line bs headed-line) r.in_form

  -- so it says these numbers
  pub numbers-line : header_numbers bs ≡ zs
  unfolding header_numbers
  numbers-line = ap (λ k. numbers_of k bs) width-line ∙ r.numbers

  -- and the rest stands behind it
  pub rest-line : rest_of bs ≡ rest
  unfolding rest_of
  rest-line = ap (λ k. behind k bs) width-line ∙ r.rest_is

-- no byte is left
none_left : (bs : Bytes) → eqb (length bs) 0 ≡ true → bs ≡ []
none_left [] e = refl
none_left (b ∷ bs) e = absurd (omega (arith, eqb-true (suc (length bs)) 0 e))

-- lines that were read are the bytes
pub lines_again : (ks : List ℕ) (bs : Bytes) → are_lines ks bs ≡ true → LinesInColumns (line_numbers ks bs) × (bs ≡ flat_map line (line_numbers ks bs))
unfolding are_lines line_numbers flat_map
lines_again [] bs h = (tt, none_left bs h)
lines_again (k ∷ ks) bs h = go (is_line k bs) refl h (lines_again ks (behind k bs))
  where
    go : (b : Bool) → is_line k bs ≡ b → ◌≡◌ {A = Bool} (elim b as (λ _. Bool) [ true ↦ are_lines ks (behind k bs) | false ↦ false ]) true
        → (are_lines ks (behind k bs) ≡ true → LinesInColumns (line_numbers ks (behind k bs)) × (behind k bs ≡ flat_map line (line_numbers ks (behind k bs))))
        → (AllInColumns (numbers_of k bs) × LinesInColumns (line_numbers ks (behind k bs))) × (bs ≡ line (numbers_of k bs) ++ flat_map line (line_numbers ks (behind k bs)))
    go true q h ih =
        let first = line_again k bs q in
        let others = ih h in
        ((first.0, others.0), first.1 ∙ ap (λ l. line (numbers_of k bs) ++ l) others.1)
    go false q h ih = clash h refl

-- each line has as many numbers as it has fields
pub lines-widths : (ks : List ℕ) (bs : Bytes) → map length (line_numbers ks bs) ≡ ks
unfolding line_numbers
lines-widths [] bs = refl
lines-widths (k ∷ ks) bs = ap₂ (λ (a : ℕ) (l : List ℕ). a ∷ l) (numbers-length k bs) (lines-widths ks (behind k bs))

-- ---- lines in words

-- a line's first field before the others
line_first : (z : ℤ) (zs : List ℤ) (rest : Bytes) → line (z ∷ zs) ++ rest ≡ field_of z ++ (line zs ++ rest)
line_first z zs rest = ap (λ l. l ++ rest) (sym (line-cons z zs)) ∙ append_assoc (field_of z) (line zs) rest

-- columns that say numbers are the fields of numbers that six columns hold
begins_written : (bs : Bytes) (zs : List ℤ) (rest : Bytes) → Begins bs zs rest → AllInColumns zs × (bs ≡ line zs ++ rest)
begins_written bs [] rest b = (tt, unfold line flat_map in b)
begins_written bs (z ∷ zs) rest b =
    let f = (field_words b.0 z b.3.0).0 b.3.1 in
    let o = begins_written b.1 zs rest b.4 in
    ((f.0, o.0), b.2 ∙ ap₂ (λ (x y : Bytes). x ++ y) f.1 o.1 ∙ sym (line_first z zs rest))

-- and the other way round
written_begins : (bs : Bytes) (zs : List ℤ) (rest : Bytes) → AllInColumns zs → bs ≡ line zs ++ rest → Begins bs zs rest
written_begins bs [] rest h e = unfold line flat_map in e
written_begins bs (z ∷ zs) rest h e =
    let six = field_length z h.0 in
    (field_of z, line zs ++ rest, e ∙ line_first z zs rest, (six, (field_words (field_of z) z six).1 (h.0, refl)), written_begins (line zs ++ rest) zs rest h.1 refl)

-- the same of lines
pub consists_written : (bs : Bytes) (ls : List (List ℤ)) → Consists bs ls → LinesInColumns ls × (bs ≡ flat_map line ls)
unfolding flat_map
consists_written bs [] c = (tt, c)
consists_written bs (l ∷ ls) c =
    let f = begins_written bs l c.0 c.1 in
    let o = consists_written c.0 ls c.2 in
    ((f.0, o.0), f.1 ∙ ap (λ x. line l ++ x) o.1)

-- and the other way round
pub written_consists : (bs : Bytes) (ls : List (List ℤ)) → LinesInColumns ls → bs ≡ flat_map line ls → Consists bs ls
unfolding flat_map
written_consists bs [] h e = e
written_consists bs (l ∷ ls) h e = (flat_map line ls, written_begins bs l (flat_map line ls) h.0 e, written_consists (flat_map line ls) ls h.1 refl)

-- ---- the tests in words

-- a line that is read begins the bytes
pub read_begins : (k : ℕ) (bs : Bytes) → is_line k bs ≡ true → Begins bs (numbers_of k bs) (behind k bs)
read_begins k bs h = let r = line_again k bs h in written_begins bs (numbers_of k bs) (behind k bs) r.0 r.1

-- a line that begins the bytes is read, with its numbers and the rest
pub begins_read : (bs : Bytes) (zs : List ℤ) (rest : Bytes) → Begins bs zs rest → LineRead zs rest bs
begins_read bs zs rest b = let w = begins_written bs zs rest b in subst (LineRead zs rest) (sym w.1) (line_read zs rest w.0)

-- the bytes begin with a line of k numbers exactly if the test says so
pub line_iff : (k : ℕ) (bs : Bytes) → (is_line k bs ≡ true) ↔ ((zs : List ℤ) × (rest : Bytes) × (length zs ≡ k) × Begins bs zs rest)
line_iff k bs = (λ h. (numbers_of k bs, behind k bs, numbers-length k bs, read_begins k bs h), λ w. ap (λ n. is_line n bs) (sym w.2) ∙ (begins_read bs w.0 w.1 w.3).in_form)

-- lines that the bytes consist of are read, with their numbers
pub consists_read : (bs : Bytes) (ls : List (List ℤ)) → Consists bs ls → (are_lines (map length ls) bs ≡ true) × (line_numbers (map length ls) bs ≡ ls)
consists_read bs ls c =
    let w = consists_written bs ls c in
    let r = lines-read ls w.0 in
    (ap (are_lines (map length ls)) w.1 ∙ r.0, ap (line_numbers (map length ls)) w.1 ∙ r.1)

-- the bytes consist of lines with these numbers of fields exactly if the test says so
pub lines_iff : (ks : List ℕ) (bs : Bytes) → (are_lines ks bs ≡ true) ↔ ((ls : List (List ℤ)) × (map length ls ≡ ks) × Consists bs ls)
lines_iff ks bs = (
  λ h. let r = lines_again ks bs h in (line_numbers ks bs, lines-widths ks bs, written_consists bs (line_numbers ks bs) r.0 r.1),
  λ w. ap (λ x. are_lines x bs) (sym w.1) ∙ (consists_read bs w.0 w.2).0,
)

-- the bytes are lines of a listed shape exactly if the test says so
pub shapes_iff : (ws : List Shape) (bs : Bytes) → (fits ws bs ≡ true) ↔ Shaped bs ws
shapes_iff ws bs = (
  λ h. let w = (lines_iff (first_fitting ws bs) bs).0 (fitting_fits ws bs h) in (w.0, subst (λ k. Memᴰ k ws) (sym w.1) (fitting_listed ws bs h), w.2),
  λ w. listed-shape ws bs (map length w.0) w.1 ((lines_iff (map length w.0) bs).1 (w.0, refl, w.2)),
)
