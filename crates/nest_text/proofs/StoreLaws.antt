-- The numbers of a row stored one after the other in an array of a nest. The reader stores them at once (`copy_from_slice`); these laws say it of a loop.
-- Assumes nothing.
use mathlib.Core.Path.{◌≡◌, sym, ap, ap₂, ◌∙◌}
use mathlib.Core.List.{List, [], ◌∷◌, ◌++◌, append_assoc}
use Prim.Native.Nat.{ℕ, suc, ◌+◌, ◌<◌}
use native.Mathlib.Numerals.{add-one}
use native.Mathlib.Omega.{arith}
use lib.IntN.{ℤ, pos}
use lib.ListN.{length, get_or, take, drop, set, length-append}
use lib.Seq.{drop-cons, set_at, take-suc, length-take-le}
use Rattle.nest.specs.declared.LoopNest.{LoopNest}

-- ---- an array with the first k numbers of a row from place `from` on
abbrev pub over : List ℤ → ℕ → List ℤ → ℕ → List ℤ
over old from row k = take from old ++ (take k row ++ drop (from + k) old)

module _ (old : List ℤ) (from : ℕ) (row : List ℤ) where
  -- one more
  pub over-more : (k : ℕ) → from + k < length old → k < length row
      → set (over old from row k) (from + k) (get_or row k (pos 0)) ≡ over old from row (k + 1)
  over-more k h l =
      ap (λ x. set x (from + k) v) (sym (append_assoc (take from old) (take k row) (drop (from + k) old)) ∙ ap (λ x. front ++ x) (drop-cons old (from + k) (pos 0) h))
      ∙ (set_at front (get_or old (from + k) (pos 0)) (drop (suc (from + k)) old) v (from + k) front_length
      ∙ (append_assoc (take from old) (take k row) (v ∷ drop (suc (from + k)) old)
      ∙ ap (λ x. take from old ++ x) (sym (append_assoc (take k row) (v ∷ []) (drop (suc (from + k)) old)) ∙ ap₂ (λ (a : List ℤ) (n : ℕ). a ++ drop n old) one_more next)))
    where
      v : ℤ
      v = get_or row k (pos 0)

      front : List ℤ
      front = take from old ++ take k row

      front_length : length front ≡ from + k
      front_length =
          length-append (take from old) (take k row)
          ∙ ap₂ (λ (a b : ℕ). a + b) (length-take-le from old (omega arith)) (length-take-le k row (omega arith))

      one_more : take k row ++ (v ∷ []) ≡ take (k + 1) row
      one_more = sym (ap (λ n. take n row) (add-one k) ∙ take-suc row k (pos 0) l)

      next : suc (from + k) ≡ from + (k + 1)
      next = omega arith

-- ---- one more number of the row in its place, which the machine holds as z

-- in an array of a nest, which is read by `get` and set by `put`
module _ (get : LoopNest → List ℤ) (put : LoopNest → List ℤ → LoopNest) (got : (s : LoopNest) (l : List ℤ) → get (put s l) ≡ l) (anew : (s : LoopNest) (l m : List ℤ) → put (put s l) m ≡ put s m) (s t r : LoopNest) (row : List ℤ) (k : ℕ) (z : ℤ) (l : k < length row) (q : z ≡ get_or row k (pos 0)) where
  -- behind the first k of the row
  pub array_more : t ≡ put s (over (get s) 0 row k) → k < length (get s) → r ≡ put t (set (get t) k z) → r ≡ put s (over (get s) 0 row (k + 1))
  array_more inv h e =
      let o : k ≡ 0 + k = omega arith in
      let old = over (get s) 0 row k in
      e ∙ ap (λ (x : LoopNest). put x (set (get x) k z)) inv ∙ anew s old (set (get (put s old)) k z) ∙ ap (λ (xs : List ℤ). put s (set xs k z)) (got s old)
      ∙ ap₂ (λ (j : ℕ) (v : ℤ). put s (set old j v)) o q ∙ ap (put s) (over-more (get s) 0 row k (omega arith) l)
