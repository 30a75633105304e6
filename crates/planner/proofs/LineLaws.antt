-- Laws of a line of numbers below 1000000: each has room in six columns, and the line's bytes are those of the numbers.
-- Assumes nothing.
use mathlib.Core.Path.{◌≡◌, refl, sym, ap, subst, ◌∙◌}
use mathlib.Core.List.{List, [], ◌∷◌, ◌++◌, map, flat_map}
use Prim.Native.Nat.{ℕ, zero, suc, ◌+◌, ◌*◌, ◌<◌}
use native.Mathlib.Nat.{le_of_suc-le-suc, not-suc-le-zero, zero-add}
use native.Mathlib.Omega.{arith}
use lib.IntN.{ℤ, pos}
use lib.ListN.{length, get_or, length-append, length-map, get_or-map}
use lib.Seq.{get_or_at}
use Rattle.std.specs.Iterator.{Yields}
use Rattle.std.specs.Array.{list_steps}
use Rattle.integers.proofs.Linear.{ints}
use Rattle.integers.specs.Lists.{tab}
use Rattle.integers.proofs.Lists.{tab-list}
use Rattle.nest_text.specs.Fields.{Bytes}
use Rattle.nest_text.specs.Text.{line}
use Rattle.nest_text.specs.Stored.{Stored, InColumns, EachInColumns}
use Rattle.nest_text.proofs.Columns.{count-columns}
use Rattle.nest_text.proofs.WriteLaws.{stored_as, stored_more, line-length}

-- the first line, and those behind it
pub lines_cons : (l : List ℤ) (ls : List (List ℤ)) → flat_map line (l ∷ ls) ≡ line l ++ flat_map line ls
unfolding flat_map
lines_cons l ls = refl

-- stored one behind the other
pub lines-behind : {old mid new : Bytes} {at b c : ℕ} (l : List ℤ) (ls : List (List ℤ)) → Stored old at (line l) mid b → Stored mid b (flat_map line ls) new c
    → Stored old at (flat_map line (l ∷ ls)) new c
lines-behind l ls p q = stored_as (sym (lines_cons l ls)) (stored_more p q)

-- ---- numbers below 1000000
abbrev pub AllSmall : List ℕ → Type 0
AllSmall [] = Unit {0}
AllSmall (x ∷ xs) = (x < 1000000) × AllSmall xs

-- the same, by places
pub nth_small : (xs : List ℕ) → AllSmall xs → (i : ℕ) → i < length xs → get_or xs i 0 < 1000000
nth_small [] h i l = absurd (not-suc-le-zero l)
nth_small (x ∷ xs) h zero l = h.0
nth_small (x ∷ xs) h (suc i) l = nth_small xs h.1 i (le_of_suc-le-suc l)

-- such a number has room in six columns
small-columns : (n : ℕ) → n < 1000000 → InColumns (pos n)
small-columns n h = count-columns 0 n (pos n) (omega arith) (omega ints, omega ints)

-- ---- numbers that are taken one by one
yielded : (all xs left : List ℕ) → Yields list_steps all xs left → all ≡ xs ++ left
yielded all [] left y = y
yielded all (x ∷ xs) left y = y.1 ∙ ap (λ ys. x ∷ ys) (yielded y.0 xs left y.2)

-- the next one is that at its place
pub next_taken : (all xs left : List ℕ) (x : ℕ) (rest : List ℕ) → Yields list_steps all xs left → left ≡ x ∷ rest → (length xs < length all) × (get_or all (length xs) 0 ≡ x)
next_taken all xs left x rest y e =
    let whole = yielded all xs left y ∙ ap (λ ys. xs ++ ys) e in
    (omega (arith, ap length whole, length-append xs (x ∷ rest)), ap (λ l. get_or l (length xs) 0) whole ∙ get_or_at xs x rest 0 (length xs) refl)

-- ---- a line of n such numbers
module _ (xs : List ℕ) (n : ℕ) (e : length xs ≡ n) (h : (i : ℕ) → i < n → get_or xs i 0 < 1000000) where
  -- made one by one
  pub made : {ys : List ℤ} → length ys ≡ n → ((i : ℕ) → i < n → get_or ys i (pos 0) ≡ pos (get_or xs i 0)) → ys ≡ map pos xs
  made {ys} l each =
      sym (tab-list (λ i. pos (get_or xs i 0)) ys (pos 0) n l (λ i b. sym (each i b)))
      ∙ tab-list (λ i. pos (get_or xs i 0)) (map pos xs) (pos 0) n (length-map xs pos ∙ e) (λ i b. sym (get_or-map pos xs i 0))

  -- each has room
  pub counts_fit : {ys : List ℤ} → ys ≡ map pos xs → EachInColumns ys 0 n
  counts_fit {ys} p i l =
      let q : pos (get_or xs i 0) ≡ get_or ys (0 + i) (pos 0) = sym (ap (λ k. get_or ys k (pos 0)) (zero-add i) ∙ ap (λ (zs : List ℤ). get_or zs i (pos 0)) p ∙ get_or-map pos xs i 0) in
      subst InColumns q (small-columns (get_or xs i 0) (h i l))

  -- what is stored is their line
  pub counts-stored : {ys : List ℤ} {old new : Bytes} {at end : ℕ} → ys ≡ map pos xs → Stored old at (line ys) new end → Stored old at (line (map pos xs)) new end
  counts-stored {ys} p = stored_as (ap line p)

  -- six bytes for each number, and one
  pub counts-length : length (line (map pos xs)) ≡ 6 * n + 1
  counts-length =
      let g : ℕ → ℤ = λ i. pos (get_or xs i 0) in
      let q : tab g n ≡ map pos xs = tab-list g (map pos xs) (pos 0) n (length-map xs pos ∙ e) (λ i l. sym (get_or-map pos xs i 0)) in
      ap (λ (zs : List ℤ). length (line zs)) (sym q) ∙ line-length g n (λ i l. small-columns (get_or xs i 0) (h i l))
