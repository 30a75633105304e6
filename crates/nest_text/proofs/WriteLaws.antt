-- Laws of what the writer leaves in a buffer: bytes stored one run after the other, and the lengths
-- of fields and lines.
-- Assumes nothing.
use mathlib.Core.Path.{◌≡◌, refl, sym, ap, subst, ◌∙◌}
use mathlib.Core.List.{List, [], ◌∷◌, ◌++◌, flat_map, append_assoc}
use Prim.Native.Nat.{ℕ, zero, suc, ◌+◌, ◌*◌, ◌-◌, ◌≤◌, ◌<◌}
use native.Mathlib.Nat.{zero-add}
use native.Mathlib.Numerals.{add-one}
use native.Mathlib.Omega.{arith}
use lib.IntN.{ℤ, pos, negsuc}
use lib.ListN.{length, get_or, take, drop, set, replicate, length-append, length-drop, length-replicate}
use lib.Seq.{sets, length-sets, sets-eq, ext_get_or, get_or-take, get_or-drop, take-suc, length-take-le}
use Rattle.integers.specs.Lists.{tab}
use Rattle.integers.proofs.Lists.{flat_map-append, flat_map-one, flat_map-tab-more, flat_map-length}
use Rattle.nest.specs.Nest.{part}
use Rattle.nest.proofs.Padding.{part-whole}
use Rattle.nest.proofs.Words.{part_at, part_length}
use Rattle.nest_text.specs.Fields.{columns, space, Bytes, numeral_of, field_of, newline}
use Rattle.nest_text.specs.Text.{line_length, limit_width, line}
use Rattle.nest_text.specs.Stored.{Stored, InColumns, EachInColumns}
use Rattle.nest_text.proofs.FieldLaws.{digits_short, within-neg, within-pos}

-- ---- bytes stored
sets-append : (l : Bytes) (i : ℕ) (xs ys : Bytes) → sets l i (xs ++ ys) ≡ sets (sets l i xs) (i + length xs) ys
sets-append l i [] ys = ap (λ (k : ℕ). sets l k ys) (omega arith)
sets-append l i (x ∷ xs) ys = sets-append (set l i x) (suc i) xs ys ∙ ap (λ (k : ℕ). sets (sets (set l i x) (suc i) xs) k ys) (omega arith)

-- no byte stored
pub stored-none : (old : Bytes) (at : ℕ) → Stored old at [] old at
stored-none old at = record { bytes = refl; ends = omega arith }

-- one run of bytes behind another
pub stored_more : {old mid new bs cs : Bytes} {at b c : ℕ} → Stored old at bs mid b → Stored mid b cs new c → Stored old at (bs ++ cs) new c
stored_more {old} {mid} {new} {bs} {cs} {at} {b} {c} p q = record {
  bytes = q.bytes ∙ ap (λ (l : Bytes). sets l b cs) p.bytes ∙ ap (λ (k : ℕ). sets (sets old at bs) k cs) p.ends ∙ sym (sets-append old at bs cs);
  ends = q.ends ∙ ap (λ k. k + length cs) p.ends ∙ (let e = length-append bs cs in omega (arith, e));
}

-- the buffer's length stays
pub stored-length : {old new bs : Bytes} {at end : ℕ} → Stored old at bs new end → length new ≡ length old
stored-length {old} {new} {bs} {at} p = ap length p.bytes ∙ length-sets old at bs

-- the same bytes, written in another way
pub stored_as : {old new bs cs : Bytes} {at end : ℕ} → bs ≡ cs → Stored old at bs new end → Stored old at cs new end
stored_as {old} {new} {bs} {cs} {at} {end} e p = subst (λ (x : Bytes). Stored old at x new end) e p

-- ---- fields
numeral_short : (z : ℤ) → InColumns z → length (numeral_of z) ≤ columns
unfolding numeral_of
numeral_short (pos n) h = omega (arith, digits_short columns columns n [] (within-pos n h) (omega arith))
numeral_short (negsuc n) h = omega (arith, digits_short 5 columns (n + 1) [] (omega (arith, within-neg n h)) (omega arith))

-- a field has six bytes
pub field_length : (z : ℤ) → InColumns z → length (field_of z) ≡ columns
unfolding field_of
field_length z h =
    length-append (replicate (columns - length (numeral_of z)) space) (numeral_of z) ∙ ap (λ (n : ℕ). n + length (numeral_of z)) (length-replicate (columns - length (numeral_of z)) space)
    ∙ omega (arith, numeral_short z h)

-- what the field writer leaves
pub stored_field : (l new : Bytes) (at : ℕ) (z : ℤ) → InColumns z → at + columns ≤ length l → new ≡ take at l ++ (field_of z ++ drop (at + columns) l) → Stored l at (field_of z) new (at + columns)
stored_field l new at z h r e =
    let six = field_length z h in
    record {
      bytes = e ∙ ap (λ (n : ℕ). take at l ++ (field_of z ++ drop (at + n) l)) (sym six) ∙ sym (append_assoc (take at l) (field_of z) (drop (at + length (field_of z)) l)) ∙ sym (sets-eq (field_of z) l at (omega arith));
      ends = omega arith;
    }

-- one byte stored
pub stored_byte : (l : Bytes) (at b : ℕ) → Stored l at (b ∷ []) (set l at b) (at + 1)
stored_byte l at b = record { bytes = refl; ends = refl }

-- ---- lines
pub fields_length : (g : ℕ → ℤ) (k : ℕ) → ((i : ℕ) → i < k → InColumns (g i)) → length (flat_map field_of (tab g k)) ≡ columns * k
fields_length g k h = flat_map-length field_of g columns k (λ i l. field_length (g i) (h i l))

-- a line of k fields has as many bytes as is said
pub line-length : (g : ℕ → ℤ) (k : ℕ) → ((i : ℕ) → i < k → InColumns (g i)) → length (line (tab g k)) ≡ line_length k
unfolding line
line-length g k h = length-append (flat_map field_of (tab g k)) (newline ∷ []) ∙ ap (λ n. n + 1) (fields_length g k h)

-- part of an array is a part of its list
pub part-taken : (xs : List ℤ) (from n : ℕ) → from + n ≤ length xs → part xs from n ≡ take n (drop from xs)
part-taken xs from n h = ext_get_or (pos 0) (part xs from n) (take n (drop from xs))
    (part_length xs from n ∙ sym (length-take-le n (drop from xs) (omega (arith, length-drop from xs))))
    (λ i l. let b : i < n = omega (arith, l, part_length xs from n) in
    part_at xs from n i b ∙ sym (get_or-take n (drop from xs) i (pos 0) b ∙ get_or-drop from xs i (pos 0)))

-- numbers that have room in their columns, as a list
pub listed_length : (zs : List ℤ) → EachInColumns zs 0 (length zs) → length (flat_map field_of zs) ≡ columns * length zs
unfolding part
listed_length zs h =
    ap (λ (l : List ℤ). length (flat_map field_of l)) (sym (part-whole (length zs) zs refl))
    ∙ fields_length (λ i. get_or zs (0 + i) (pos 0)) (length zs) h

-- the first n numbers of an array that have room in their columns
pub taken-columns : (xs : List ℤ) (n : ℕ) → n ≤ length xs → EachInColumns xs 0 n → EachInColumns (take n xs) 0 (length (take n xs))
taken-columns xs n h each i l =
    let b : i < n = omega (arith, l, length-take-le n xs h) in
    rw (zero-add i, get_or-take n xs i (pos 0) b) (rw zero-add at (each i b))

-- one more field behind i of them
pub fields_more : {old out new : Bytes} {at end : ℕ} (xs : List ℤ) (i : ℕ) → i < length xs → Stored old at (flat_map field_of (take i xs)) out end
    → InColumns (get_or xs i (pos 0)) → end + columns ≤ length out → new ≡ take end out ++ (field_of (get_or xs i (pos 0)) ++ drop (end + columns) out)
    → Stored old at (flat_map field_of (take (i + 1) xs)) new (end + columns)
fields_more {old} {out} {new} {at} {end} xs i l p h r e =
    let z = get_or xs i (pos 0) in
    let one_more : take (i + 1) xs ≡ take i xs ++ (z ∷ []) = rw (add-one i) (take-suc xs i (pos 0) l) in
    stored_as (sym (ap (flat_map field_of) one_more ∙ (flat_map-append field_of (take i xs) (z ∷ []) ∙ ap (λ bs. flat_map field_of (take i xs) ++ bs) (flat_map-one field_of z))))
    (stored_more p (stored_field out new end z h r e))

-- byte 10 behind the fields of a line
pub line-ends : {old out : Bytes} {at end : ℕ} (zs : List ℤ) → Stored old at (flat_map field_of zs) out end → Stored old at (line zs) (set out end 10) (end + 1)
unfolding line
line-ends {old} {out} {at} {end} zs p = stored_more p (stored_byte out end 10)

-- one more line behind k of them
pub lines_more : {old out new : Bytes} {at end end' : ℕ} (g : ℕ → List ℤ) (k : ℕ) → Stored old at (flat_map line (tab g k)) out end
    → Stored out end (line (g k)) new end' → Stored old at (flat_map line (tab g (k + 1))) new end'
lines_more g k p q = stored_as (sym (flat_map-tab-more line g k)) (stored_more p q)

-- fields before those of a line
pub line-append : (xs ys : List ℤ) → flat_map field_of xs ++ line ys ≡ line (xs ++ ys)
unfolding line
line-append xs ys = sym (append_assoc (flat_map field_of xs) (flat_map field_of ys) (newline ∷ [])) ∙ ap (λ bs. bs ++ (newline ∷ [])) (sym (flat_map-append field_of xs ys))

-- one field
pub line-cons : (z : ℤ) (zs : List ℤ) → field_of z ++ line zs ≡ line (z ∷ zs)
unfolding line flat_map
line-cons z zs = sym (append_assoc (field_of z) (flat_map field_of zs) (newline ∷ []))

-- the numbers of the line of loop k
abbrev pub limits : List ℤ → List ℤ → ℕ → List ℤ
limits lower upper k = get_or lower k (pos 0) ∷ get_or upper k (pos 0) ∷ []

-- ---- a line of two numbers a and b, where the machine holds a' and b'
pub pair_fits : {a b a' b' : ℤ} → a' ≡ a → b' ≡ b → InColumns a → InColumns b → (i : ℕ) → i < 2 → InColumns (get_or (a' ∷ b' ∷ []) (0 + i) (pos 0))
pair_fits p q h k zero l = subst InColumns (sym p) h
pair_fits p q h k (suc zero) l = subst InColumns (sym q) k
pair_fits p q h k (suc (suc i)) l = absurd (omega arith)

-- the line is that of a and b
pub pair_line : {a b a' b' : ℤ} → a' ≡ a → b' ≡ b → line (a' ∷ b' ∷ []) ≡ line (a ∷ b ∷ [])
pair_line {a} {b} {a'} {b'} p q = ap (λ (x : ℤ). line (x ∷ b' ∷ [])) p ∙ ap (λ (x : ℤ). line (a ∷ x ∷ [])) q

-- and as long as is said
pub pair-length : (a b : ℤ) → InColumns a → InColumns b → length (line (a ∷ b ∷ [])) ≡ line_length limit_width
unfolding tab
pair-length a b h k = line-length (λ i. get_or (a ∷ b ∷ []) (0 + i) (pos 0)) 2 (pair_fits {a = a} {b = b} refl refl h k)
