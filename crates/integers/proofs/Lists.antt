-- The laws of the list functions that the definitions share. A test's outcome is an equation, `test
-- ≡ true`. Assumes nothing.
use mathlib.Core.Path.{◌≡◌, refl, sym, ap, ap₂, subst, ◌∙◌}
use mathlib.Core.Bool.{Bool, true, false, ◌&&◌, ◌||◌}
use mathlib.Core.List.{List, [], ◌∷◌, ◌++◌, map, flat_map, append_assoc, append-nil}
use mathlib.Core.Logic.{◌⊎◌, inl, inr, ⊎_elim}
use Prim.Native.Nat.{ℕ, zero, suc, ◌+◌, ◌*◌, ◌<◌, ◌≤◌}
use native.Mathlib.Nat.{eq-or-lt_of_le, le_of_suc-le-suc, not-suc-le-zero, mul-suc}
use native.Mathlib.Numerals.{add-one}
use native.Mathlib.Omega.{arith}
use borrow.Author.Tests.{ltb-true, ltb-false}
use lib.Dec.{T, ltb}
use lib.ListN.{length, get_or, drop, length-append, get_or-append}
use lib.Seq.{get_or_at, ext_get_or, drop-cons, drop-length}
use Rattle.integers.specs.Lists.{any, place, count, repeats, tab}

-- ---- outcomes of tests
pub true_T : {b : Bool} → b ≡ true → T b
true_T e = subst T (sym e) tt

pub T_true : {b : Bool} → T b → b ≡ true
T_true {b = true} t = refl
T_true {b = false} t = absurd t

pub clash : {C : Type 0} {b : Bool} → b ≡ true → b ≡ false → C
clash p q = absurd (subst T q (true_T p))

pub split : {C : Type 0} (b : Bool) → (b ≡ true → C) → (b ≡ false → C) → C
split true f g = f refl
split false f g = g refl

pub below_or_not : (a b : ℕ) → (a < b) ⊎ (b ≤ a)
below_or_not a b = split (ltb a b) (λ t. inl (ltb-true a b t)) (λ e. inr (ltb-false a b e))

pub or_left : (a b : Bool) → a ≡ true → (a || b) ≡ true
or_left true b e = refl
or_left false b e = clash refl (sym e)

pub or_right : (a b : Bool) → b ≡ true → (a || b) ≡ true
or_right true b e = refl
or_right false b e = e

pub or_true : (a b : Bool) → (a || b) ≡ true → (a ≡ true) ⊎ (b ≡ true)
or_true true b e = inl refl
or_true false b e = inr e

pub or_false : (a b : Bool) → (a || b) ≡ false → (a ≡ false) × (b ≡ false)
or_false true b e = clash refl e
or_false false b e = (refl, e)

pub and_true : (a b : Bool) → (a && b) ≡ true → (a ≡ true) × (b ≡ true)
and_true true b e = (refl, e)
and_true false b e = clash e refl

pub and_left : (a b : Bool) → (a && b) ≡ true → a ≡ true
and_left a b e = (and_true a b e).0

pub and_right : (a b : Bool) → (a && b) ≡ true → b ≡ true
and_right a b e = (and_true a b e).1

pub and_false : (a : Bool) → (a && false) ≡ false
and_false true = refl
and_false false = refl

module _ {A : Type 0} where
  -- ---- some element
  pub any_append : (p : A → Bool) (xs ys : List A) → any p (xs ++ ys) ≡ (any p xs || any p ys)
  unfolding any
  any_append p [] ys = refl
  any_append p (x ∷ xs) ys = go (p x) (any_append p xs ys)
    where
      go : (b : Bool) → any p (xs ++ ys) ≡ (any p xs || any p ys)
          → elim b as (λ _. Bool) [ true ↦ true | false ↦ any p (xs ++ ys) ] ≡ (elim b as (λ _. Bool) [ true ↦ true | false ↦ any p xs ] || any p ys)
      go true h = refl
      go false h = h

  -- the first passes, or does not matter
  pub any-first : (p : A → Bool) (x : A) (xs : List A) → p x ≡ true → any p (x ∷ xs) ≡ true
  unfolding any
  any-first p x xs t = rw (t, any) refl

  pub any_past : (p : A → Bool) (x : A) (xs : List A) → p x ≡ false → any p (x ∷ xs) ≡ any p xs
  unfolding any
  any_past p x xs f = rw (f, any) refl

  pub any-one : (p : A → Bool) (x : A) → any p (x ∷ []) ≡ p x
  unfolding any
  any-one p x = go (p x)
    where
      go : (b : Bool) → elim b as (λ _. Bool) [ true ↦ true | false ↦ false ] ≡ b
      go true = refl
      go false = refl

  -- ---- f 0, f 1, ..
  pub tab-more : (f : ℕ → A) (n : ℕ) → tab f (n + 1) ≡ tab f n ++ (f n ∷ [])
  unfolding tab
  tab-more f n = rw (add-one n) refl

  pub length-tab : (f : ℕ → A) (n : ℕ) → length (tab f n) ≡ n
  unfolding tab
  length-tab f zero = refl
  length-tab f (suc n) = length-append (tab f n) (f n ∷ []) ∙ ap (λ k. k + 1) (length-tab f n) ∙ add-one n

  pub get_or-tab : (f : ℕ → A) (n k : ℕ) (d : A) → k < n → get_or (tab f n) k d ≡ f k
  unfolding tab
  get_or-tab f zero k d h = absurd (not-suc-le-zero h)
  get_or-tab f (suc n) k d h =
      ⊎_elim
      (λ (e : k ≡ n). ap (λ i. get_or (tab f n ++ (f n ∷ [])) i d) e ∙ get_or_at (tab f n) (f n) [] d n (length-tab f n) ∙ ap f (sym e))
      (λ l. get_or-append (tab f n) (f n ∷ []) d k (subst (λ z. k < z) (sym (length-tab f n)) l) ∙ get_or-tab f n k d l)
      (eq-or-lt_of_le (le_of_suc-le-suc h))

  -- one more tried, where none before passed
  pub any-tab-more : (p : A → Bool) (f : ℕ → A) (n : ℕ) → any p (tab f n) ≡ false → p (f n) ≡ false → any p (tab f (n + 1)) ≡ false
  any-tab-more p f n h e =
      ap (any p) (tab-more f n) ∙ any_append p (tab f n) (f n ∷ []) ∙ ap (λ b. b || any p (f n ∷ [])) h ∙ any-one p (f n) ∙ e

  pub any-tab_found : (p : A → Bool) (f : ℕ → A) (n k : ℕ) → k < n → p (f k) ≡ true → any p (tab f n) ≡ true
  unfolding tab
  any-tab_found p f zero k h e = absurd (not-suc-le-zero h)
  any-tab_found p f (suc n) k h e =
      any_append p (tab f n) (f n ∷ [])
      ∙ ⊎_elim
      (λ (q : k ≡ n). or_right (any p (tab f n)) (any p (f n ∷ [])) (any-one p (f n) ∙ ap (λ i. p (f i)) (sym q) ∙ e))
      (λ l. or_left (any p (tab f n)) (any p (f n ∷ [])) (any-tab_found p f n k l e))
      (eq-or-lt_of_le (le_of_suc-le-suc h))

  pub any-tab-each : (p : A → Bool) (f : ℕ → A) (n k : ℕ) → any p (tab f n) ≡ false → k < n → p (f k) ≡ false
  any-tab-each p f n k h l = split (p (f k)) (λ t. clash (any-tab_found p f n k l t) h) (λ e. e)

  pub any-tab-some : (p : A → Bool) (f : ℕ → A) (n : ℕ) → any p (tab f n) ≡ true → (k : ℕ) × (k < n) × (p (f k) ≡ true)
  any-tab-some p f zero h = unfold any tab in clash h refl
  any-tab-some p f (suc n) h =
      split (p (f n)) (λ t. (n, omega arith, t))
      (λ e. split (any p (tab f n)) (λ t. let r = any-tab-some p f n t in (r.0, omega (arith, r.1), r.2)) (λ g. clash h (rw add-one at (any-tab-more p f n g e))))

  -- ---- two elements
  pub repeats_snoc : (same : A → A → Bool) (xs : List A) (y : A) → repeats same (xs ++ (y ∷ [])) ≡ (repeats same xs || any (λ x. same x y) xs)
  unfolding repeats any
  repeats_snoc same [] y = refl
  repeats_snoc same (x ∷ xs) y =
      ap (λ b. elim b as (λ _. Bool) [ true ↦ true | false ↦ repeats same (xs ++ (y ∷ [])) ]) (any_append (same x) xs (y ∷ []) ∙ ap (λ b. any (same x) xs || b) (any-one (same x) y))
      ∙ ap (λ c. elim (any (same x) xs || same x y) as (λ _. Bool) [ true ↦ true | false ↦ c ]) (repeats_snoc same xs y)
      ∙ go (any (same x) xs) (same x y) (repeats same xs) (any (λ z. same z y) xs)
    where
      go : (a b c d : Bool) → elim (a || b) as (λ _. Bool) [ true ↦ true | false ↦ c || d ]
          ≡ (elim a as (λ _. Bool) [ true ↦ true | false ↦ c ] || elim b as (λ _. Bool) [ true ↦ true | false ↦ d ])
      go true b c d = refl
      go false false c d = refl
      go false true true d = refl
      go false true false d = refl

  -- a list in which no two elements are the same
  pub repeats-cons : (same : A → A → Bool) (x : A) (xs : List A) → repeats same (x ∷ xs) ≡ false → (any (same x) xs ≡ false) × (repeats same xs ≡ false)
  unfolding repeats
  repeats-cons same x xs d = go (any (same x) xs) d
    where
      go : (b : Bool) → elim b as (λ _. Bool) [ true ↦ true | false ↦ repeats same xs ] ≡ false → (b ≡ false) × (repeats same xs ≡ false)
      go true e = clash refl e
      go false e = (refl, e)

  -- and one more in front
  pub repeats-new : (same : A → A → Bool) (x : A) (xs : List A) → any (same x) xs ≡ false → repeats same xs ≡ false → repeats same (x ∷ xs) ≡ false
  unfolding repeats
  repeats-new same x xs e d = ap (λ b. elim b as (λ _. Bool) [ true ↦ true | false ↦ repeats same xs ]) e ∙ d

  pub repeats-tab-more : (same : A → A → Bool) (f : ℕ → A) (n : ℕ) → repeats same (tab f n) ≡ false → any (λ x. same x (f n)) (tab f n) ≡ false → repeats same (tab f (n + 1)) ≡ false
  repeats-tab-more same f n h e =
      ap (repeats same) (tab-more f n) ∙ repeats_snoc same (tab f n) (f n) ∙ ap (λ b. b || any (λ x. same x (f n)) (tab f n)) h ∙ e

  pub repeats-tab_found : (same : A → A → Bool) (f : ℕ → A) (n k : ℕ) → k < n → any (λ x. same x (f k)) (tab f k) ≡ true → repeats same (tab f n) ≡ true
  unfolding tab
  repeats-tab_found same f zero k h e = absurd (not-suc-le-zero h)
  repeats-tab_found same f (suc n) k h e =
      repeats_snoc same (tab f n) (f n)
      ∙ ⊎_elim
      (λ (q : k ≡ n). or_right (repeats same (tab f n)) (any (λ x. same x (f n)) (tab f n)) (subst (λ i. any (λ x. same x (f i)) (tab f i) ≡ true) q e))
      (λ l. or_left (repeats same (tab f n)) (any (λ x. same x (f n)) (tab f n)) (repeats-tab_found same f n k l e))
      (eq-or-lt_of_le (le_of_suc-le-suc h))

  pub repeats-tab-some : (same : A → A → Bool) (f : ℕ → A) (n : ℕ) → repeats same (tab f n) ≡ true → (j : ℕ) × (i : ℕ) × (j < n) × (i < j) × (same (f i) (f j) ≡ true)
  repeats-tab-some same f zero h = unfold repeats tab in clash h refl
  repeats-tab-some same f (suc n) h =
      split (any (λ x. same x (f n)) (tab f n)) (λ t. let r = any-tab-some (λ x. same x (f n)) f n t in (n, r.0, omega arith, r.1, r.2))
      (λ e. split (repeats same (tab f n)) (λ t. let r = repeats-tab-some same f n t in (r.0, r.1, omega (arith, r.2), r.3, r.4)) (λ g. clash h (rw add-one at (repeats-tab-more same f n g e))))

  -- where no two are the same, any two differ
  pub repeats-tab-each : (same : A → A → Bool) (f : ℕ → A) (n i j : ℕ) → repeats same (tab f n) ≡ false → i < j → j < n → same (f i) (f j) ≡ false
  repeats-tab-each same f n i j h l k =
      split (same (f i) (f j)) (λ t. clash (repeats-tab_found same f n j k (any-tab_found (λ x. same x (f j)) f j i l t)) h) (λ e. e)

  -- ---- the first place
  -- some entry passes
  pub any_at : (p : A → Bool) (xs : List A) (k : ℕ) (d : A) → k < length xs → p (get_or xs k d) ≡ true → any p xs ≡ true
  unfolding any
  any_at p [] k d h e = absurd (not-suc-le-zero h)
  any_at p (x ∷ xs) zero d h e = rw (e, any) refl
  any_at p (x ∷ xs) (suc k) d h e = go (p x) (any_at p xs k d (le_of_suc-le-suc h) e)
    where
      go : (b : Bool) → any p xs ≡ true → elim b as (λ _. Bool) [ true ↦ true | false ↦ any p xs ] ≡ true
      go true t = refl
      go false t = t

  -- the entries before the first that passes, and that one, fix its place
  pub place_is : (p : A → Bool) (xs : List A) (k : ℕ) (d : A) → k < length xs → p (get_or xs k d) ≡ true → ((i : ℕ) → i < k → p (get_or xs i d) ≡ false) → place p xs ≡ k
  unfolding place
  place_is p [] k d h e none = absurd (not-suc-le-zero h)
  place_is p (x ∷ xs) zero d h e none = rw (e, place) refl
  place_is p (x ∷ xs) (suc k) d h e none = rw (none 0 (omega arith), place) (ap suc (place_is p xs k d (le_of_suc-le-suc h) e (λ i l. none (suc i) (omega arith))))

  -- no entry passes
  pub place_none : (p : A → Bool) (xs : List A) → any p xs ≡ false → place p xs ≡ length xs
  unfolding any place
  place_none p [] h = refl
  place_none p (x ∷ xs) h = go (p x) h (place_none p xs)
    where
      go : (b : Bool) → elim b as (λ _. Bool) [ true ↦ true | false ↦ any p xs ] ≡ false → (any p xs ≡ false → place p xs ≡ length xs)
          → elim b as (λ _. ℕ) [ true ↦ zero | false ↦ suc (place p xs) ] ≡ suc (length xs)
      go true t ih = clash refl t
      go false t ih = ap suc (ih t)

  -- where some entry passes, the first place has one that does
  pub place-below : (p : A → Bool) (xs : List A) → any p xs ≡ true → place p xs < length xs
  unfolding any place
  place-below p [] h = clash h refl
  place-below p (x ∷ xs) h = go (p x) h (place-below p xs)
    where
      go : (b : Bool) → elim b as (λ _. Bool) [ true ↦ true | false ↦ any p xs ] ≡ true → (any p xs ≡ true → place p xs < length xs)
          → elim b as (λ _. ℕ) [ true ↦ zero | false ↦ suc (place p xs) ] < suc (length xs)
      go true t ih = omega arith
      go false t ih = Prim.Native.Nat.suc-le-suc (ih t)

  pub place-passes : (p : A → Bool) (xs : List A) (d : A) → any p xs ≡ true → p (get_or xs (place p xs) d) ≡ true
  unfolding any place
  place-passes p [] d h = clash h refl
  place-passes p (x ∷ xs) d h = go (p x) refl h (place-passes p xs d)
    where
      go : (b : Bool) → p x ≡ b → elim b as (λ _. Bool) [ true ↦ true | false ↦ any p xs ] ≡ true → (any p xs ≡ true → p (get_or xs (place p xs) d) ≡ true)
          → p (get_or (x ∷ xs) (elim b as (λ _. ℕ) [ true ↦ zero | false ↦ suc (place p xs) ]) d) ≡ true
      go true e t ih = e
      go false e t ih = ih t

  -- ---- counting
  pub count_yes : (p : A → Bool) (x : A) (xs : List A) → p x ≡ true → count p (x ∷ xs) ≡ suc (count p xs)
  unfolding count
  count_yes p x xs e = rw (e, count) refl

  pub count_no : (p : A → Bool) (x : A) (xs : List A) → p x ≡ false → count p (x ∷ xs) ≡ count p xs
  unfolding count
  count_no p x xs e = rw (e, count) refl

  pub count-append : (p : A → Bool) (xs ys : List A) → count p (xs ++ ys) ≡ count p xs + count p ys
  count-append p [] ys = unfold count in omega arith
  count-append p (x ∷ xs) ys =
      let h = count-append p xs ys in
      split (p x) (λ t. let a = count_yes p x (xs ++ ys) t in let b = count_yes p x xs t in omega arith) (λ f. let a = count_no p x (xs ++ ys) f in let b = count_no p x xs f in omega arith)

  -- ---- tables, entry by entry
  -- no entry passes
  pub any-tab-none : (p : A → Bool) (f : ℕ → A) (n : ℕ) → ((i : ℕ) → i < n → p (f i) ≡ false) → any p (tab f n) ≡ false
  any-tab-none p f n h = split (any p (tab f n)) (λ t. let r = any-tab-some p f n t in clash r.2 (h r.0 r.1)) (λ e. e)

  -- two tables with the same entries
  pub tab-same : (f g : ℕ → A) (n : ℕ) → ((i : ℕ) → i < n → f i ≡ g i) → tab f n ≡ tab g n
  unfolding tab
  tab-same f g zero h = refl
  tab-same f g (suc n) h = ap₂ (λ (l : List A) (x : A). l ++ (x ∷ [])) (tab-same f g n (λ i l. h i (omega arith))) (h n (omega arith))

  -- a table of a list's elements is the list
  pub tab-list : (f : ℕ → A) (xs : List A) (d : A) (n : ℕ) → length xs ≡ n → ((i : ℕ) → i < n → f i ≡ get_or xs i d) → tab f n ≡ xs
  tab-list f xs d n e h =
      ext_get_or d (tab f n) xs (length-tab f n ∙ sym e)
      (λ i l. let k : i < n = subst (λ z. i < z) (length-tab f n) l in get_or-tab f n i d k ∙ h i k)

  -- the first entry and the others
  pub tab-cons : (f : ℕ → A) (n : ℕ) → tab f (suc n) ≡ f 0 ∷ tab (λ k. f (suc k)) n
  unfolding tab
  tab-cons f zero = refl
  tab-cons f (suc n) = ap (λ xs. xs ++ (f (suc n) ∷ [])) (tab-cons f n)

  -- entry k and those behind it
  pub tab-drop : (f : ℕ → A) (n k : ℕ) → k < n → drop k (tab f n) ≡ f k ∷ drop (k + 1) (tab f n)
  tab-drop f n k h =
      drop-cons (tab f n) k (f 0) (subst (λ m. k < m) (sym (length-tab f n)) h) ∙ ap₂ (λ (x : A) (m : ℕ). x ∷ drop m (tab f n)) (get_or-tab f n k (f 0) h) (sym (add-one k))

  -- nothing is behind the last
  pub tab_end : (f : ℕ → A) (n : ℕ) → drop n (tab f n) ≡ []
  tab_end f n = ap (λ m. drop m (tab f n)) (sym (length-tab f n)) ∙ drop-length (tab f n)

-- ---- lists made of lists
module _ {A B : Type 0} where
  -- of two lists, one behind the other
  pub flat_map-append : (f : A → List B) (xs ys : List A) → flat_map f (xs ++ ys) ≡ flat_map f xs ++ flat_map f ys
  unfolding flat_map
  flat_map-append f [] ys = refl
  flat_map-append f (x ∷ xs) ys = ap (λ l. f x ++ l) (flat_map-append f xs ys) ∙ sym (append_assoc (f x) (flat_map f xs) (flat_map f ys))

  -- of one element
  pub flat_map-one : (f : A → List B) (x : A) → flat_map f (x ∷ []) ≡ f x
  unfolding flat_map
  flat_map-one f x = append-nil (f x)

  -- of a table with one more entry
  pub flat_map-tab-more : (f : A → List B) (g : ℕ → A) (k : ℕ) → flat_map f (tab g (k + 1)) ≡ flat_map f (tab g k) ++ f (g k)
  flat_map-tab-more f g k = ap (flat_map f) (tab-more g k) ∙ flat_map-append f (tab g k) (g k ∷ []) ∙ ap (λ l. flat_map f (tab g k) ++ l) (flat_map-one f (g k))

  -- where each of n lists has c elements, all have c * n
  pub flat_map-length : (f : A → List B) (g : ℕ → A) (c n : ℕ) → ((i : ℕ) → i < n → length (f (g i)) ≡ c) → length (flat_map f (tab g n)) ≡ c * n
  unfolding flat_map tab
  flat_map-length f g c zero h = omega arith
  flat_map-length f g c (suc n) h =
      let e = ap length (flat_map-append f (tab g n) (g n ∷ []) ∙ ap (λ l. flat_map f (tab g n) ++ l) (flat_map-one f (g n))) in
      e ∙ length-append (flat_map f (tab g n)) (f (g n))
      ∙ omega (arith, h n (omega arith), flat_map-length f g c n (λ i l. h i (omega arith)), mul-suc c n)

  -- a table with a function at each entry
  pub map-tab : (f : A → B) (g : ℕ → A) (n : ℕ) → map f (tab g n) ≡ tab (λ k. f (g k)) n
  unfolding tab
  map-tab f g zero = refl
  map-tab f g (suc n) = map-append (tab g n) (g n ∷ []) ∙ ap (λ l. l ++ (f (g n) ∷ [])) (map-tab f g n)
    where
      map-append : (xs ys : List A) → map f (xs ++ ys) ≡ map f xs ++ map f ys
      map-append [] ys = refl
      map-append (x ∷ xs) ys = ap (λ (l : List B). f x ∷ l) (map-append xs ys)
