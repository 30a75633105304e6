-- The tables of lines while a loop fills them from the front. Assumes nothing.
use mathlib.Core.Path.{◌≡◌, refl, sym, ap, ap₂, subst, ◌∙◌}
use mathlib.Core.List.{List, [], ◌∷◌, ◌++◌}
use Prim.Native.Nat.{ℕ, suc, ◌+◌, ◌<◌, ◌≤◌}
use native.Mathlib.Numerals.{add-one}
use native.Mathlib.Omega.{arith}
use lib.ListN.{length, get_or, set, take, drop}
use Rattle.integers.proofs.ListFacts.{get_or-before, length_snoc}
use Rattle.numbering.proofs.Numbering.{stored, take-set}
use Rattle.partition.specs.Heads.{heads_to, lines_to}
use Rattle.partition.proofs.HeadLaws.{heads_on, heads-new, heads-few, lines-length, lines_more, line_on, line_first}

-- the lines of the first k iterations
pub record Lined (before : ℕ → ℕ) (lines₀ heads lines : List ℕ) (count k : ℕ) : Type 0 where
  -- how many there are
  pub counted : count ≡ length (heads_to before k)
  -- their first iterations
  pub heads_are : take count heads ≡ heads_to before k
  -- and each one's number
  pub lines_are : lines ≡ lines_to before k ++ drop k lines₀

-- none yet
pub lined_start : (before : ℕ → ℕ) (lines₀ heads : List ℕ) → Lined before lines₀ heads lines₀ 0 0
unfolding heads_to lines_to
lined_start before lines₀ heads = record { counted = refl; heads_are = refl; lines_are = refl }

module _ (before : ℕ → ℕ) (lines₀ heads lines : List ℕ) (count k : ℕ) (L : Lined before lines₀ heads lines count k) where
  -- no more lines than iterations
  pub lined_few : count ≤ k
  lined_few = omega (arith, L.counted, heads-few before k)

  -- the number of an earlier iteration
  pub lined_at : (j : ℕ) → j < k → get_or lines j 0 ≡ get_or (lines_to before k) j 0
  lined_at j h = ap (λ (l : List ℕ). get_or l j 0) L.lines_are ∙ get_or-before 0 (lines_to before k) (drop k lines₀) j (omega (arith, lines-length before k, h))

  -- one iteration more, with its number
  written : (v : ℕ) → v ≡ get_or (lines_to before (suc k)) k 0 → k < length lines₀ → set lines k v ≡ lines_to before (suc k) ++ drop (suc k) lines₀
  written v e room =
      let w = get_or (lines_to before (suc k)) k 0 in
      ap₂ (λ (l : List ℕ) (x : ℕ). set l k x) L.lines_are e
      ∙ subst (λ (m : ℕ). set (lines_to before k ++ drop m lines₀) m w ≡ (lines_to before k ++ (w ∷ [])) ++ drop (suc m) lines₀) (lines-length before k) (stored (lines_to before k) lines₀ w (omega (arith, lines-length before k, room)))
      ∙ ap (λ (l : List ℕ). l ++ drop (suc k) lines₀) (sym (lines_more before k))

  -- it is on the line of an earlier one
  pub lined_seen : (j : ℕ) → j ≡ before k → j < k → k < length lines₀ → Lined before lines₀ heads (set lines k (get_or lines j 0)) count (k + 1)
  lined_seen j at l room =
      let b : before k < k = subst (λ (i : ℕ). i < k) at l in
      rw (add-one k) (record {
        counted = L.counted ∙ ap (λ (hs : List ℕ). length hs) (sym (heads_on before k b));
        heads_are = L.heads_are ∙ sym (heads_on before k b);
        lines_are = written (get_or lines j 0) (lined_at j l ∙ ap (λ (i : ℕ). get_or (lines_to before k) i 0) at ∙ sym (line_on before k b)) room;
      })

  -- it is the first of its line
  pub lined_first : (c : ℕ) → c ≡ count → k ≤ before k → k < length lines₀ → k < length heads → Lined before lines₀ (set heads count k) (set lines k c) (count + 1) (k + 1)
  lined_first c e l room wide =
      rw (add-one k, add-one count) (record {
        counted = ap suc L.counted ∙ sym (length_snoc (heads_to before k) k) ∙ ap (λ (hs : List ℕ). length hs) (sym (heads-new before k l));
        heads_are = take-set heads count k (omega (arith, lined_few, wide)) ∙ ap (λ (hs : List ℕ). hs ++ (k ∷ [])) L.heads_are ∙ sym (heads-new before k l);
        lines_are = written c (e ∙ L.counted ∙ sym (line_first before k l)) room;
      })
