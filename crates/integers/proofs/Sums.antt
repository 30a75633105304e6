-- Counts and sums: how many elements of a list pass a test, and the sum of a table's numbers.
-- Assumes nothing.
use mathlib.Core.Path.{◌≡◌, refl, sym, ap, ◌∙◌, subst}
use mathlib.Core.Bool.{Bool, true, false, true≢false}
use mathlib.Core.Logic.{◌⊎◌, inl, inr, ⊎_elim}
use mathlib.Core.List.{List, [], ◌∷◌, ◌++◌, Memᴰ}
use Prim.Native.Nat.{ℕ, zero, suc, ◌+◌, ◌*◌, ◌-◌, ◌<◌, ◌≤◌, min}
use native.Mathlib.Nat.{suc-mul}
use native.Mathlib.Numerals.{add-one}
use native.Mathlib.Omega.{arith}
use borrow.Author.Tests.{lt-ltb, le-ltb, eq-eqb, eqb-true, eqb-false}
use lib.Dec.{ltb, eqb}
use lib.ListN.{length}
use Rattle.integers.specs.Lists.{any, tab, count, repeats, one_if, total}
use Rattle.integers.proofs.Lists.{tab-more, length-tab, get_or-tab, any_append, any-first, any-one, or_true, repeats-cons, count-append, count_yes, count_no, split, below_or_not, true_T, T_true}
use Rattle.integers.proofs.ListFacts.{any-cons, any_later, get_or-mem}

-- ---- 1 where a test passes
pub one_yes : (b : Bool) → b ≡ true → one_if b ≡ 1
unfolding one_if
one_yes b e = rw (e, one_if) refl

pub one_no : (b : Bool) → b ≡ false → one_if b ≡ 0
unfolding one_if
one_no b e = rw (e, one_if) refl

pub one-most : (b : Bool) → one_if b ≤ 1
unfolding one_if
one-most true = omega arith
one-most false = omega arith

-- ---- how many elements of a list pass
module _ {A : Type 0} where
  -- with one more in front
  pub count-cons : (p : A → Bool) (x : A) (xs : List A) → count p (x ∷ xs) ≡ one_if (p x) + count p xs
  count-cons p x xs =
      split (p x) (λ t. omega (arith, count_yes p x xs t, one_yes (p x) t)) (λ f. omega (arith, count_no p x xs f, one_no (p x) f))

  -- of none
  pub count-empty : (p : A → Bool) → count p [] ≡ 0
  unfolding count
  count-empty p = refl

  -- no more than there are
  pub count_most : (p : A → Bool) (xs : List A) → count p xs ≤ length xs
  count_most p [] = omega (arith, count-empty p)
  count_most p (x ∷ xs) = omega (arith, count-cons p x xs, one-most (p x), count_most p xs)

  -- all of them
  pub count-each : (p : A → Bool) (xs : List A) → ((x : A) → Memᴰ x xs → p x ≡ true) → count p xs ≡ length xs
  count-each p [] h = count-empty p
  count-each p (x ∷ xs) h = count_yes p x xs (h x (mathlib.Core.List.Memᴰ.head refl)) ∙ ap suc (count-each p xs (λ y m. h y (mathlib.Core.List.Memᴰ.tail m)))

  -- none of them
  pub count_nowhere : (p : A → Bool) (xs : List A) → ((x : A) → Memᴰ x xs → p x ≡ false) → count p xs ≡ 0
  count_nowhere p [] h = count-empty p
  count_nowhere p (x ∷ xs) h = count_no p x xs (h x (mathlib.Core.List.Memᴰ.head refl)) ∙ count_nowhere p xs (λ y m. h y (mathlib.Core.List.Memᴰ.tail m))

  -- whatever passes p passes q or r
  pub count_either : (p q r : A → Bool) → ((x : A) → p x ≡ true → (q x ≡ true) ⊎ (r x ≡ true)) → (xs : List A) → count p xs ≤ count q xs + count r xs
  count_either p q r h [] = omega (arith, count-empty p)
  count_either p q r h (x ∷ xs) =
      let one : one_if (p x) ≤ one_if (q x) + one_if (r x) =
      split (p x) (λ t. ⊎_elim (λ e. omega (arith, one-most (p x), one_yes (q x) e)) (λ e. omega (arith, one-most (p x), one_yes (r x) e)) (h x t)) (λ f. omega (arith, one_no (p x) f)) in
      omega (arith, count-cons p x xs, count-cons q x xs, count-cons r x xs, one, count_either p q r h xs)

  -- no element passes both p and q, and what passes one of them passes r
  pub count-apart : (p q r : A → Bool) → ((x : A) → p x ≡ true → (q x ≡ false) × (r x ≡ true)) → ((x : A) → q x ≡ true → r x ≡ true)
      → (xs : List A) → count p xs + count q xs ≤ count r xs
  count-apart p q r hp hq [] = omega (arith, count-empty p, count-empty q)
  count-apart p q r hp hq (x ∷ xs) =
      let one : one_if (p x) + one_if (q x) ≤ one_if (r x) =
      split (p x) (λ t. omega (arith, one-most (p x), one_no (q x) (hp x t).0, one_yes (r x) (hp x t).1))
      (λ f. split (q x) (λ t. omega (arith, one_no (p x) f, one-most (q x), one_yes (r x) (hq x t))) (λ g. omega (arith, one_no (p x) f, one_no (q x) g))) in
      omega (arith, count-cons p x xs, count-cons q x xs, count-cons r x xs, one, count-apart p q r hp hq xs)

  module _ (p q : A → Bool) (h : (x : A) → p x ≡ true → q x ≡ true) where
    one_less : (x : A) → one_if (p x) ≤ one_if (q x)
    one_less x = split (p x) (λ t. omega (arith, one-most (p x), one_yes (q x) (h x t))) (λ f. omega (arith, one_no (p x) f))

    -- whatever passes p passes q
    pub count_less : (xs : List A) → count p xs ≤ count q xs
    count_less [] = omega (arith, count-empty p)
    count_less (x ∷ xs) = omega (arith, count-cons p x xs, count-cons q x xs, one_less x, count_less xs)

    -- and one element passes q alone
    pub count_fewer : (xs : List A) (x : A) → Memᴰ x xs → p x ≡ false → q x ≡ true → count p xs < count q xs
    count_fewer [] x m f t = elim m [ ]
    count_fewer (y ∷ xs) x (mathlib.Core.List.Memᴰ.head e) f t =
        let z : p y ≡ false = ap p (sym e) ∙ f in
        let w : q y ≡ true = ap q (sym e) ∙ t in
        omega (arith, count_no p y xs z, count_yes q y xs w, count_less xs)
    count_fewer (y ∷ xs) x (mathlib.Core.List.Memᴰ.tail m) f t = omega (arith, count-cons p y xs, count-cons q y xs, one_less y, count_fewer xs x m f t)

-- ---- how many of f 0, f 1, .. pass
module _ {A : Type 0} (p : A → Bool) (f : ℕ → A) where
  -- one entry more
  pub count-tab-more : (k : ℕ) → count p (tab f (k + 1)) ≡ count p (tab f k) + one_if (p (f k))
  count-tab-more k =
      ap (count p) (tab-more f k) ∙ count-append p (tab f k) (f k ∷ []) ∙ ap (λ z. count p (tab f k) + z) (count-cons p (f k) [] ∙ omega (arith, count-empty p))

  pub count_none : count p (tab f 0) ≡ 0
  unfolding count tab
  count_none = refl

  -- where exactly those before place q pass
  pub count-before : (q : ℕ) → ((k : ℕ) → p (f k) ≡ ltb k q) → (e : ℕ) → count p (tab f e) ≡ min e q
  count-before q is zero = omega (arith, count_none)
  count-before q is (suc e) =
      let h = rw add-one at (count-tab-more e) in
      ⊎_elim (λ (l : e < q). omega (arith, h, count-before q is e, one_yes (p (f e)) (is e ∙ lt-ltb e q l))) (λ (l : q ≤ e). omega (arith, h, count-before q is e, one_no (p (f e)) (is e ∙ le-ltb e q l)))
      (below_or_not e q)

  -- where place q alone passes
  pub count_at : (q : ℕ) → ((k : ℕ) → p (f k) ≡ eqb k q) → (e : ℕ) → count p (tab f e) ≡ min 1 (e - q)
  count_at q is zero = omega (arith, count_none)
  count_at q is (suc e) =
      let h = rw add-one at (count-tab-more e) in
      split (eqb e q) (λ t. omega (arith, h, count_at q is e, one_yes (p (f e)) (is e ∙ t), eqb-true e q t)) (λ n. omega (arith, h, count_at q is e, one_no (p (f e)) (is e ∙ n), eqb-false e q n))

-- how many numbers below n pass
module _ (p : ℕ → Bool) (n : ℕ) where
  -- only x may
  pub count-one : (x : ℕ) → ((k : ℕ) → p k ≡ true → k ≡ x) → count p (tab (λ k. k) n) ≤ 1
  count-one x h =
      omega (arith, count_less p (λ k. eqb k x) (λ k t. eq-eqb k x (h k t)) (tab (λ k. k) n), count_at (λ k. eqb k x) (λ k. k) x (λ k. refl) n)

  -- only x and y may
  pub count-two : (x y : ℕ) → ((k : ℕ) → p k ≡ true → (k ≡ x) ⊎ (k ≡ y)) → count p (tab (λ k. k) n) ≤ 2
  count-two x y h =
      let a = count_either p (λ k. eqb k x) (λ k. eqb k y) (λ k t. ⊎_elim (λ e. inl (eq-eqb k x e)) (λ e. inr (eq-eqb k y e)) (h k t)) (tab (λ k. k) n) in
      omega (arith, a, count_at (λ k. eqb k x) (λ k. k) x (λ k. refl) n, count_at (λ k. eqb k y) (λ k. k) y (λ k. refl) n)

-- the numbers below n that stand in a list are no more than the list has
pub count-standing : (xs : List ℕ) (n : ℕ) → count (λ u. any (eqb u) xs) (tab (λ u. u) n) ≤ length xs
count-standing [] n = omega (arith, count_nowhere (λ u. any (eqb u) []) (tab (λ u. u) n) (λ u m. unfold any in refl))
count-standing (x ∷ xs) n =
    let a = count_either (λ u. any (eqb u) (x ∷ xs)) (λ u. eqb u x) (λ u. any (eqb u) xs) (λ u t. ⊎_elim (λ a. inl (T_true a)) (λ a. inr (T_true a)) (any-cons (eqb u) x xs (true_T t))) (tab (λ u. u) n) in
    omega (arith, a, count_at (λ u. eqb u x) (λ u. u) x (λ k. refl) n, count-standing xs n)

-- ---- sums
total-append : (xs ys : List ℕ) → total (xs ++ ys) ≡ total xs + total ys
unfolding total
total-append [] ys = omega arith
total-append (x ∷ xs) ys = omega (arith, total-append xs ys)

-- one entry more
pub total-tab-more : (f : ℕ → ℕ) (k : ℕ) → total (tab f (k + 1)) ≡ total (tab f k) + f k
total-tab-more f k = ap total (tab-more f k) ∙ total-append (tab f k) (f k ∷ []) ∙ ap (λ z. total (tab f k) + z) one
  where
    one : total (f k ∷ []) ≡ f k
    one = unfold total in omega arith

pub total-none : (f : ℕ → ℕ) → total (tab f 0) ≡ 0
unfolding total tab
total-none f = refl

-- entries of at most c sum to at most c each
pub total-most : (f : ℕ → ℕ) (c n : ℕ) → ((k : ℕ) → f k ≤ c) → total (tab f n) ≤ n * c
total-most f c zero h = omega (arith, total-none f)
total-most f c (suc n) h = let e = ap (λ m. total (tab f m)) (sym (add-one n)) in omega (arith, e, total-tab-more f n, total-most f c n h, h n, suc-mul n c)

-- a count is a sum
pub count-total : (t : ℕ → Bool) (n : ℕ) → count t (tab (λ k. k) n) ≡ total (tab (λ k. one_if (t k)) n)
count-total t zero = count_none t (λ k. k) ∙ sym (total-none (λ k. one_if (t k)))
count-total t (suc n) = let a = rw add-one at (count-tab-more t (λ k. k) n) in let b = rw add-one at (total-tab-more (λ k. one_if (t k)) n) in omega (arith, a, b, count-total t n)

-- what passes one of m tests: no more than pass each of them, added up
pub count_some : {A : Type 0} (p : ℕ → A → Bool) (m : ℕ) (xs : List A) → count (λ x. any (λ i. p i x) (tab (λ i. i) m)) xs ≤ total (tab (λ i. count (p i) xs) m)
count_some p zero xs = omega (arith, count_nowhere (λ x. any (λ i. p i x) (tab (λ i. i) 0)) xs (λ x m. unfold any tab in refl))
count_some {A} p (suc m) xs =
    let a = count_either (λ x. any (λ i. p i x) (tab (λ i. i) (suc m))) (λ x. any (λ i. p i x) (tab (λ i. i) m)) (p m) last xs in
    let b = rw add-one at (total-tab-more (λ i. count (p i) xs) m) in
    omega (arith, a, b, count_some p m xs)
  where
    last : (x : A) → any (λ i. p i x) (tab (λ i. i) (suc m)) ≡ true → (any (λ i. p i x) (tab (λ i. i) m) ≡ true) ⊎ (p m x ≡ true)
    last x t = unfold tab in
        let ms = tab (λ i. i) m in
        ⊎_elim inl (λ e. inr (sym (any-one (λ i. p i x) m) ∙ e)) (or_true (any (λ i. p i x) ms) (any (λ i. p i x) (m ∷ [])) (sym (any_append (λ i. p i x) ms (m ∷ [])) ∙ t))

-- entries of at most c, each with 1 more where a test passes
pub total_with : (f : ℕ → ℕ) (q : ℕ → Bool) (c m : ℕ) → ((i : ℕ) → i < m → f i + one_if (q i) ≤ c) → total (tab f m) + count q (tab (λ i. i) m) ≤ m * c
total_with f q c zero h = omega (arith, total-none f, count_none q (λ i. i))
total_with f q c (suc m) h =
    let a = rw add-one at (total-tab-more f m) in
    let b = rw add-one at (count-tab-more q (λ i. i) m) in
    omega (arith, a, b, total_with f q c m (λ i l. h i (omega arith)), h m (omega arith), suc-mul m c)

-- if each of some different elements is f i for an i below n, at least so many i below n have f i among them
pub count-listed : {A : Type 0} (same : A → A → Bool) → ((x : A) → same x x ≡ true) → ((x y : A) → same x y ≡ true → x ≡ y) → (f : ℕ → A) (n : ℕ) (xs : List A) → repeats same xs ≡ false
    → ((x : A) → Memᴰ x xs → (i : ℕ) × (i < n) × (f i ≡ x)) → length xs ≤ count (λ i. any (same (f i)) xs) (tab (λ i. i) n)
count-listed same own equal f n [] d h = omega arith
count-listed {A} same own equal f n (x ∷ xs) d h =
    let w = h x (mathlib.Core.List.Memᴰ.head refl) in
    let m : Memᴰ w.0 (tab (λ i. i) n) = subst (λ (k : ℕ). Memᴰ k (tab (λ i. i) n)) (get_or-tab (λ i. i) n w.0 0 w.1) (get_or-mem (tab (λ i. i) n) w.0 0 (omega (arith, w.1, length-tab (λ (i : ℕ). i) n))) in
    let is : same (f w.0) x ≡ true = ap (λ y. same y x) w.2 ∙ own x in
    let one = count_fewer (λ i. false) (λ i. same (f i) x) (λ i e. absurd (true≢false (sym e))) (tab (λ i. i) n) w.0 m refl is in
    let rest = count-listed same own equal f n xs alone.1 (λ y l. h y (mathlib.Core.List.Memᴰ.tail l)) in
    let sum = count-apart (λ i. same (f i) x) (λ i. any (same (f i)) xs) (λ i. any (same (f i)) (x ∷ xs))
    (λ i e. (ap (λ y. any (same y) xs) (equal (f i) x e) ∙ alone.0, any-first (same (f i)) x xs e))
    (λ i e. T_true (any_later (same (f i)) x xs (true_T e))) (tab (λ i. i) n) in
    omega (arith, one, rest, sum)
  where
    -- the first is none of the others, and they differ
    alone : (any (same x) xs ≡ false) × (repeats same xs ≡ false)
    alone = repeats-cons same x xs d
