-- Rows that are put at the place of their number: the invariant of the loop, a turn, and its end. Assumes nothing.
use mathlib.Core.Path.{◌≡◌, refl, sym, ap, ap₂, ◌∙◌, subst}
use mathlib.Core.Logic.{◌⊎◌, inl, inr, ⊎_elim}
use mathlib.Core.List.{List, [], ◌∷◌, ◌++◌, map}
use Prim.Native.Nat.{ℕ, suc, ◌+◌, ◌<◌, ◌≤◌}
use native.Mathlib.Nat as NatL
use native.Mathlib.Numerals.{add-one}
use native.Mathlib.Omega.{arith}
use lib.ListN.{length, get_or, set, length-set}
use lib.Seq.{get_or-set_same, get_or-set_other}
use Rattle.integers.specs.Lists.{place, firsts, firsts_after}
use Rattle.integers.specs.Vector.{Vector, AllWithin, eq_v}
use Rattle.integers.proofs.Vector.{eq_v_true, eq_v_refl}
use Rattle.integers.proofs.ListFacts.{get_d_map, length_snoc, place-most, place_true}
use Rattle.numbering.specs.Tables.{row, rows}
use Rattle.numbering.proofs.ByFirst.{firsts-few}
use Rattle.numbering.proofs.ChainLaws.{equal_or_not}
use Rattle.numbering.proofs.Numbering.{firsts-seen, firsts-new}
use Rattle.numbering.proofs.TableRows.{length-rows, get_d_rows, rows_same, rows_more}
use Rattle.numbering.proofs.Table.{Reflexive, prefix_place}

-- rows are equal to themselves
pub rows_reflexive : (t : List Vector) → Reflexive eq_v t
rows_reflexive t j l = eq_v_refl (row t j)

-- there are no more different rows than rows
pub rows_few : (t : List Vector) (n : ℕ) → n ≤ length t → length (firsts eq_v (rows t n)) ≤ n
unfolding firsts
rows_few t n h = omega (arith, firsts-few eq_v [] (rows t n), length-rows t n h)

-- the number of a row is at most its place
pub number-low : (t : List Vector) (n i : ℕ) → n ≤ length t → i < n → place (eq_v (row t i)) (firsts eq_v (rows t n)) ≤ i
number-low t n i h l =
    omega (arith, prefix_place eq_v t (rows_reflexive t) n i h l, place-most (eq_v (row t i)) (firsts eq_v (rows t i)), rows_few t i (NatL.le_of_lt (NatL.lt_of_lt_of_le l h)))

-- the number of a row in a table of them
pub number_is : (t : List Vector) (numbers : List ℕ) → length numbers ≤ length t → numbers ≡ map (λ x. place (eq_v x) (firsts eq_v (rows t (length numbers)))) (rows t (length numbers))
    → (i : ℕ) → i < length numbers → get_or numbers i 0 ≡ place (eq_v (row t i)) (firsts eq_v (rows t (length numbers)))
number_is t numbers room e i l =
    let n = length numbers in
    ap (λ (u : List ℕ). get_or u i 0) e ∙ get_d_map (λ x. place (eq_v x) (firsts eq_v (rows t n))) (rows t n) i [] 0 (subst (λ (k : ℕ). i < k) (sym (length-rows t n room)) l)
    ∙ ap (λ (v : Vector). place (eq_v v) (firsts eq_v (rows t n))) (get_d_rows t n i l)

-- after i turns the rows from i on are those of the table at first, and in front stand the different ones of its first i
pub record Gathered (A : ℕ) (t₀ t : List Vector) (n i : ℕ) : Type 0 where
  pub size : length t ≡ length t₀
  pub rest : (j : ℕ) → i ≤ j → row t j ≡ row t₀ j
  pub front : rows t (length (firsts eq_v (rows t₀ i))) ≡ firsts eq_v (rows t₀ i)
  pub within : (j : ℕ) → j < n → AllWithin A (row t j)

-- before the first turn
pub gathered_start : (A : ℕ) (t : List Vector) (n : ℕ) → ((j : ℕ) → j < n → AllWithin A (row t j)) → Gathered A t t n 0
unfolding firsts firsts_after
gathered_start A t n w = record { size = refl; rest = λ j l. refl; front = refl; within = w }

module _ (A : ℕ) (t₀ t : List Vector) (n i c : ℕ) (G : Gathered A t₀ t n i) (low : i < n) (long : n ≤ length t₀) (at : c ≡ place (eq_v (row t₀ i)) (firsts eq_v (rows t₀ n))) where
  -- the different rows before row i
  abbrev H : List Vector
  H = firsts eq_v (rows t₀ i)

  -- row i
  abbrev x : Vector
  x = row t₀ i

  -- the table after the turn
  abbrev u : List Vector
  u = set t c (row t i)

  -- its number is its place among those before
  c-is : c ≡ place (eq_v x) H
  c-is = at ∙ prefix_place eq_v t₀ (rows_reflexive t₀) n i long low

  c-low : c ≤ i
  c-low = omega (arith, at, number-low t₀ n i long low)

  -- there are no more of them than rows
  few : length H ≤ i
  few = rows_few t₀ i (omega (arith, low, long))

  -- what was put
  here : row u c ≡ x
  here = get_or-set_same t c (row t i) [] (omega (arith, c-low, low, long, G.size)) ∙ G.rest i (NatL.le_refl i)

  -- any other row is as it was
  there : (j : ℕ) → (j ≡ c → ⊥) → row u j ≡ row t j
  there j d = get_or-set_other t c j (row t i) [] d

  -- where an equal row came before, it stands there already
  stood : c < length H → row t c ≡ x
  stood l =
      sym (get_d_rows t (length H) c l) ∙ ap (λ (xs : List Vector). get_or xs c []) G.front
      ∙ sym (eq_v_true x (get_or H c []) (ap (λ (k : ℕ). eq_v x (get_or H k [])) c-is ∙ place_true [] (eq_v x) H (subst (λ (k : ℕ). k < length H) c-is l)))

  -- a row of the table after the turn
  row-after : (j : ℕ) → (j ≡ c) ⊎ (j ≡ c → ⊥) → (j ≡ c → row t c ≡ x) → row u j ≡ row t j
  row-after j (inl e) s = ap (row u) e ∙ here ∙ sym (s e) ∙ ap (row t) (sym e)
  row-after j (inr d) s = there j d

  -- the table keeps its length
  size-u : length u ≡ length t₀
  size-u = length-set t c (row t i) ∙ G.size

  -- the front, where an equal row came before
  seen : c < length H → rows u (length (firsts eq_v (rows t₀ (suc i)))) ≡ firsts eq_v (rows t₀ (suc i))
  seen l =
      subst (λ (xs : List Vector). rows u (length xs) ≡ xs) (sym (ap (firsts eq_v) (rows_more t₀ i (omega (arith, low, long))) ∙ firsts-seen eq_v (rows t₀ i) x (subst (λ (k : ℕ). k < length H) c-is l)))
      (rows_same u t (length H) (omega (arith, size-u, few, low, long)) (omega (arith, G.size, few, low, long)) (λ j h. row-after j (equal_or_not j c) (λ e. stood l)) ∙ G.front)

  -- and where none did
  new : c ≡ length H → rows u (length (firsts eq_v (rows t₀ (suc i)))) ≡ firsts eq_v (rows t₀ (suc i))
  new e =
      subst (λ (xs : List Vector). rows u (length xs) ≡ xs) (sym (ap (firsts eq_v) (rows_more t₀ i (omega (arith, low, long))) ∙ firsts-new eq_v (rows t₀ i) x (omega (arith, e, c-is))))
      (ap (rows u) (length_snoc H x) ∙ rows_more u (length H) (omega (arith, size-u, few, low, long))
      ∙ ap₂ (λ (xs : List Vector) (y : Vector). xs ++ (y ∷ [])) (rows_same u t (length H) (omega (arith, size-u, few, low, long)) (omega (arith, G.size, few, low, long)) (λ j h. there j (λ q. absurd (omega (arith, q, h, e)))) ∙ G.front)
      (ap (row u) (sym e) ∙ here))

  -- one more row
  pub gathered_more : Gathered A t₀ u n (i + 1)
  gathered_more =
      rw add-one
      (record {
        size = size-u;
        rest = λ j l. there j (λ q. absurd (omega (arith, q, l, c-low))) ∙ G.rest j (omega (arith, l));
        front = ⊎_elim new seen (NatL.eq-or-lt_of_le (omega (arith, c-is, place-most (eq_v x) H)));
        within = λ j l. small j l (equal_or_not j c);
      })
    where
      small : (j : ℕ) → j < n → (j ≡ c) ⊎ (j ≡ c → ⊥) → AllWithin A (row u j)
      small j l (inl e) = subst (AllWithin A) (sym (ap (row u) e ∙ here ∙ sym (G.rest i (NatL.le_refl i)))) (G.within i low)
      small j l (inr d) = subst (AllWithin A) (sym (there j d)) (G.within j l)
