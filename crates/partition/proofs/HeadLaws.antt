-- The first iterations of the projection lines stand for all iterations: whatever is the same along a line, the first of each class are found among them.
-- Assumes nothing.
use mathlib.Core.Path.{◌≡◌, refl, sym, ap, ap₂, subst, ◌∙◌}
use mathlib.Core.Bool.{Bool, true}
use mathlib.Core.Logic.{⊎_elim}
use mathlib.Core.List.{List, [], ◌∷◌, ◌++◌, map, Memᴰ}
use Prim.Native.Nat.{ℕ, zero, suc, ◌<◌, ◌≤◌}
use native.Mathlib.Nat.{eq-or-lt_of_le, le_of_suc-le-suc, not-suc-le-zero}
use native.Mathlib.Omega.{arith}
use borrow.Author.Tests.{lt-ltb, le-ltb}
use lib.ListN.{length, get_or, get_or-eq_default}
use Rattle.integers.specs.Lists.{tab, place, firsts}
use Rattle.integers.proofs.Lists.{place-below, get_or-tab, length-tab, true_T, T_true, below_or_not}
use Rattle.integers.proofs.ListFacts.{length_snoc, get_or_snoc, get_or-before, get_d_default, map_snoc, firsts_cover, get_or-mem}
use Rattle.numbering.proofs.Numbering.{firsts-seen, firsts-new}
use Rattle.partition.specs.Heads.{heads_to, lines_to}

module _ (before : ℕ → ℕ) where
  -- one more iteration that is on a line
  pub heads_on : (k : ℕ) → before k < k → heads_to before (suc k) ≡ heads_to before k
  unfolding heads_to
  heads_on k l = rw (lt-ltb (before k) k l, heads_to) refl

  -- one more that is the first of its line
  pub heads-new : (k : ℕ) → k ≤ before k → heads_to before (suc k) ≡ heads_to before k ++ (k ∷ [])
  unfolding heads_to
  heads-new k l = rw (le-ltb (before k) k l, heads_to) refl

  -- there is a number for each iteration
  pub lines-length : (n : ℕ) → length (lines_to before n) ≡ n
  unfolding lines_to
  lines-length zero = refl
  lines-length (suc n) = length_snoc (lines_to before n) (get_or (lines_to before n) (before n) (length (heads_to before n))) ∙ ap suc (lines-length n)

  -- the number of a new line, and of an iteration on a line
  line-new : (k : ℕ) → k ≤ before k → get_or (lines_to before k) (before k) (length (heads_to before k)) ≡ length (heads_to before k)
  line-new k l = get_or-eq_default (lines_to before k) (length (heads_to before k)) {n = before k} (omega (arith, lines-length k))

  -- an earlier number stays
  pub line_stays : (n j : ℕ) → j < n → get_or (lines_to before (suc n)) j 0 ≡ get_or (lines_to before n) j 0
  unfolding lines_to
  line_stays n j l = get_or-before 0 (lines_to before n) (get_or (lines_to before n) (before n) (length (heads_to before n)) ∷ []) j (omega (arith, lines-length n))

  -- the last number
  line-last : (n : ℕ) → get_or (lines_to before (suc n)) n 0 ≡ get_or (lines_to before n) (before n) (length (heads_to before n))
  unfolding lines_to
  line-last n =
      ap (λ (i : ℕ). get_or (lines_to before n ++ (get_or (lines_to before n) (before n) (length (heads_to before n)) ∷ [])) i 0) (sym (lines-length n))
      ∙ get_or_snoc 0 (lines_to before n) (get_or (lines_to before n) (before n) (length (heads_to before n)))

  -- the numbers with one more
  pub lines_more : (n : ℕ) → lines_to before (suc n) ≡ lines_to before n ++ (get_or (lines_to before (suc n)) n 0 ∷ [])
  unfolding lines_to
  lines_more n = ap (λ (i : ℕ). lines_to before n ++ (i ∷ [])) (sym (line-last n))

  -- on a line, it is that of the iteration before
  pub line_on : (n : ℕ) → before n < n → get_or (lines_to before (suc n)) n 0 ≡ get_or (lines_to before n) (before n) 0
  line_on n l = line-last n ∙ get_d_default (length (heads_to before n)) 0 (lines_to before n) (before n) (omega (arith, lines-length n))

  -- and of the first of a line a new one
  pub line_first : (n : ℕ) → n ≤ before n → get_or (lines_to before (suc n)) n 0 ≡ length (heads_to before n)
  line_first n l = line-last n ∙ line-new n l

  -- the iterations so far have one line at most each
  pub heads-few : (n : ℕ) → length (heads_to before n) ≤ n
  heads-few zero = unfold heads_to in omega arith
  heads-few (suc n) =
      ⊎_elim (λ (l : before n < n). omega (arith, ap (λ (hs : List ℕ). length hs) (heads_on n l), heads-few n))
      (λ (l : n ≤ before n). omega (arith, ap (λ (hs : List ℕ). length hs) (heads-new n l), length_snoc (heads_to before n) n, heads-few n))
      (below_or_not (before n) n)

  -- there are no fewer lines with one iteration more
  heads_grow : (n : ℕ) → length (heads_to before n) ≤ length (heads_to before (suc n))
  heads_grow n =
      ⊎_elim (λ (l : before n < n). omega (arith, ap (λ (hs : List ℕ). length hs) (heads_on n l)))
      (λ (l : n ≤ before n). omega (arith, ap (λ (hs : List ℕ). length hs) (heads-new n l), length_snoc (heads_to before n) n))
      (below_or_not (before n) n)

  -- a first iteration stays
  heads_stay : (n i : ℕ) → i < length (heads_to before n) → get_or (heads_to before (suc n)) i 0 ≡ get_or (heads_to before n) i 0
  heads_stay n i h =
      ⊎_elim (λ (l : before n < n). ap (λ (hs : List ℕ). get_or hs i 0) (heads_on n l))
      (λ (l : n ≤ before n). ap (λ (hs : List ℕ). get_or hs i 0) (heads-new n l) ∙ get_or-before 0 (heads_to before n) (n ∷ []) i h)
      (below_or_not (before n) n)

  -- a number is below the number of lines
  pub line-below : (n j : ℕ) → j < n → get_or (lines_to before n) j 0 < length (heads_to before n)
  line-below zero j h = absurd (not-suc-le-zero h)
  line-below (suc n) j h =
      ⊎_elim
      (λ (e : j ≡ n). subst (λ (i : ℕ). get_or (lines_to before (suc n)) i 0 < length (heads_to before (suc n))) (sym e) (last (line-below n (before n))))
      (λ (l : j < n). omega (arith, line_stays n j l, line-below n j l, heads_grow n))
      (eq-or-lt_of_le (le_of_suc-le-suc h))
    where
      last : (before n < n → get_or (lines_to before n) (before n) 0 < length (heads_to before n)) → get_or (lines_to before (suc n)) n 0 < length (heads_to before (suc n))
      last ih =
          ⊎_elim (λ (l : before n < n). omega (arith, line_on n l, ih l, heads_grow n))
          (λ (l : n ≤ before n). omega (arith, line_first n l, ap (λ (hs : List ℕ). length hs) (heads-new n l), length_snoc (heads_to before n) n))
          (below_or_not (before n) n)

  -- the first iteration of a line is an iteration
  pub head-below : (n i : ℕ) → i < length (heads_to before n) → get_or (heads_to before n) i 0 < n
  head-below zero i h = unfold heads_to in absurd (not-suc-le-zero h)
  head-below (suc n) i h = ⊎_elim (λ (l : i < length (heads_to before n)). omega (arith, heads_stay n i l, head-below n i l)) (λ (l : length (heads_to before n) ≤ i). last l) (below_or_not i (length (heads_to before n)))
    where
      last : length (heads_to before n) ≤ i → get_or (heads_to before (suc n)) i 0 < suc n
      last l =
          ⊎_elim (λ (b : before n < n). absurd (omega (arith, ap (λ (hs : List ℕ). length hs) (heads_on n b), l, h)))
          (λ (b : n ≤ before n).
          let e : i ≡ length (heads_to before n) = omega (arith, ap (λ (hs : List ℕ). length hs) (heads-new n b), length_snoc (heads_to before n) n, l, h) in
          let q = ap (λ (hs : List ℕ). get_or hs i 0) (heads-new n b) ∙ ap (λ (k : ℕ). get_or (heads_to before n ++ (n ∷ [])) k 0) e ∙ get_or_snoc 0 (heads_to before n) n in
          omega (arith, q))
          (below_or_not (before n) n)

  -- what is the same as for the iteration before is the same as for the first of the line
  pub head-same : {B : Type 0} (c : ℕ → B) (n : ℕ) → ((k : ℕ) → k < n → before k < k → c k ≡ c (before k)) → (j : ℕ) → j < n → c j ≡ c (get_or (heads_to before n) (get_or (lines_to before n) j 0) 0)
  head-same c zero same j h = absurd (not-suc-le-zero h)
  head-same c (suc n) same j h =
      ⊎_elim
      (λ (e : j ≡ n). subst (λ (i : ℕ). c i ≡ c (get_or (heads_to before (suc n)) (get_or (lines_to before (suc n)) i 0) 0)) (sym e) (last (head-same c n (λ k l. same k (omega (arith, l))) (before n))))
      (λ (l : j < n). head-same c n (λ k b. same k (omega (arith, b))) j l ∙ ap c (stay j l))
      (eq-or-lt_of_le (le_of_suc-le-suc h))
    where
      -- the head of an earlier iteration
      stay : (i : ℕ) → i < n → get_or (heads_to before n) (get_or (lines_to before n) i 0) 0 ≡ get_or (heads_to before (suc n)) (get_or (lines_to before (suc n)) i 0) 0
      stay i l = sym (ap (λ (k : ℕ). get_or (heads_to before (suc n)) k 0) (line_stays n i l) ∙ heads_stay n (get_or (lines_to before n) i 0) (line-below n i l))

      last : (before n < n → c (before n) ≡ c (get_or (heads_to before n) (get_or (lines_to before n) (before n) 0) 0)) → c n ≡ c (get_or (heads_to before (suc n)) (get_or (lines_to before (suc n)) n 0) 0)
      last ih =
          ⊎_elim
          (λ (l : before n < n). same n (omega arith) l ∙ ih l ∙ ap c (sym (ap (λ (k : ℕ). get_or (heads_to before (suc n)) k 0) (line_on n l) ∙ heads_stay n (get_or (lines_to before n) (before n) 0) (line-below n (before n) l))))
          (λ (l : n ≤ before n). ap c (sym (ap₂ (λ (hs : List ℕ) (k : ℕ). get_or hs k 0) (heads-new n l) (line_first n l) ∙ get_or_snoc 0 (heads_to before n) n)))
          (below_or_not (before n) n)

  module _ {A : Type 0} (x : ℕ → A) (same : A → A → Bool) where
    -- one more element, where the first of each class are the same in two lists
    both_more : (xs ys : List A) (z : A) → firsts same xs ≡ firsts same ys → firsts same (xs ++ (z ∷ [])) ≡ firsts same (ys ++ (z ∷ []))
    both_more xs ys z e =
        ⊎_elim
        (λ (l : place (same z) (firsts same xs) < length (firsts same xs)). firsts-seen same xs z l ∙ e ∙ sym (firsts-seen same ys z (subst (λ (fs : List A). place (same z) fs < length fs) e l)))
        (λ (l : length (firsts same xs) ≤ place (same z) (firsts same xs)).
        firsts-new same xs z l ∙ ap (λ (fs : List A). fs ++ (z ∷ [])) e ∙ sym (firsts-new same ys z (subst (λ (fs : List A). length fs ≤ place (same z) fs) e l)))
        (below_or_not (place (same z) (firsts same xs)) (length (firsts same xs)))

    -- the first of each class are found among the first iterations of the lines
    pub heads-firsts : (n : ℕ) → ((k : ℕ) → k < n → same (x k) (x k) ≡ true) → ((k : ℕ) → k < n → before k < k → (l : List A) → place (same (x k)) l ≡ place (same (x (before k))) l)
        → firsts same (tab x n) ≡ firsts same (map x (heads_to before n))
    unfolding tab
    heads-firsts zero self line = unfold heads_to in refl
    heads-firsts (suc n) self line = go (heads-firsts n (λ k l. self k (omega (arith, l))) (λ k l. line k (omega (arith, l))))
      where
        go : firsts same (tab x n) ≡ firsts same (map x (heads_to before n)) → firsts same (tab x (suc n)) ≡ firsts same (map x (heads_to before (suc n)))
        go ih =
            ⊎_elim
            (λ (l : before n < n).
            let q = place-below (same (x (before n))) (firsts same (tab x n)) (T_true (firsts_cover same (tab x n) (x (before n)) (true_T (self (before n) (omega (arith, l)))) (mem l))) in
            firsts-seen same (tab x n) (x n) (omega (arith, line n (omega arith) l (firsts same (tab x n)), q)) ∙ ih ∙ ap (λ (hs : List ℕ). firsts same (map x hs)) (sym (heads_on n l)))
            (λ (l : n ≤ before n). both_more (tab x n) (map x (heads_to before n)) (x n) ih ∙ ap (firsts same) (sym (map_snoc x (heads_to before n) n)) ∙ ap (λ (hs : List ℕ). firsts same (map x hs)) (sym (heads-new n l)))
            (below_or_not (before n) n)
          where
            mem : before n < n → Memᴰ (x (before n)) (tab x n)
            mem l = subst (λ (y : A). Memᴰ y (tab x n)) (get_or-tab x n (before n) (x 0) l) (get_or-mem (tab x n) (before n) (x 0) (omega (arith, l, length-tab x n)))
