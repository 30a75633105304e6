-- The distinct values of a list of integers, and how many of them are below a number: it grows with the number, by 1 at each value and nowhere else, so every
-- number below the count of distinct values is the ordinal of one of them. Assumes nothing.
use mathlib.Core.Path.{◌≡◌, refl, sym, ap, subst, ◌∙◌}
use mathlib.Core.Bool.{true, false}
use mathlib.Core.Logic.{◌⊎◌, inl, inr, ⊎_elim}
use mathlib.Core.List.{List, [], ◌∷◌, map, Memᴰ}
use Prim.Native.Nat.{ℕ, zero, suc, ◌+◌, ◌<◌, ◌≤◌}
use native.Mathlib.Numerals.{add-one}
use native.Mathlib.Omega.{arith}
use borrow.Author.Tests.{eqb-true, eqb-false, not-true}
use lib.Dec.{eqb}
use lib.IntN.{ℤ, pos, ◌+ℤ◌, ◌-ℤ◌}
use lib.ListN.{length, get_or}
use lib.Signed.{◌≤ℤ◌, ◌<ℤ◌, lt_z}
use Rattle.integers.specs.Extremes.{least_z, greatest_z}
use Rattle.integers.proofs.Extremes.{least-below, greatest-above}
use Rattle.integers.proofs.Linear.{up, ints, sum, dif, part}
use Rattle.integers.proofs.Order.{decide}
use Rattle.integers.specs.Lists.{any, place, firsts, count, one_if, tab}
use Rattle.integers.proofs.Lists.{split, clash, any-first, any_past, true_T, T_true, place-below, place-passes, below_or_not}
use Rattle.integers.proofs.ListFacts.{get_or-mem, mem-map, any-mem, Fresh, firsts_fresh, firsts_cover, firsts-mem, place_own}
use Rattle.integers.proofs.Sums.{one_yes, one_no, count-cons, count-empty, count-each, count_nowhere, count_less, count_fewer, count-tab-more, count_none, count_most}
use Rattle.integers.proofs.Tests.{signed}
use Rattle.integers.specs.Vector.{eq_z}
use Rattle.integers.proofs.Vector.{eq_z_true, eq_z_refl, eq_z-same, eq_z_other}
use Rattle.numbering.proofs.ByFirst.{firsts-few}
use Rattle.partition.specs.KeySteps.{standing}

-- ---- the flag of an order of two numbers
lt_true : (a b : ℤ) → a <ℤ b → lt_z a b ≡ true
lt_true a b h = T_true h.lt

lt_false : (a b : ℤ) → b ≤ℤ a → lt_z a b ≡ false
lt_false a b h = split (lt_z a b) (λ t. absurd (omega signed)) (λ f. f)

-- from a + w to the next
next : (a : ℤ) (w : ℕ) → a +ℤ pos (suc w) ≡ (a +ℤ pos w) +ℤ pos 1
next a w = omega (ints, sum a (pos (suc w)), sum a (pos w), sum (a +ℤ pos w) (pos 1))

-- ---- a number that stands in a list

-- it is a member
any-there : (a : ℤ) (xs : List ℤ) → any (eq_z a) xs ≡ true → Memᴰ a xs
any-there a xs t =
    let p = place (eq_z a) xs in
    subst (λ (z : ℤ). Memᴰ z xs) (sym (eq_z_true a (get_or xs p (pos 0)) (place-passes (eq_z a) xs (pos 0) t))) (get_or-mem xs p (pos 0) (place-below (eq_z a) xs t))

-- ---- one number more

-- a number that was kept before does not stand among the distinct ones behind
kept_nowhere : (kept ds : List ℤ) → Fresh eq_z kept ds → (a : ℤ) → Memᴰ a kept → any (eq_z a) ds ≡ false
kept_nowhere kept [] f a m = unfold any in refl
kept_nowhere kept (d ∷ ds) f a m =
    split (eq_z a d) (λ t. clash (any-mem (eq_z d) kept a m (eq_z-same d a (sym (eq_z_true a d t)))) (not-true (any (eq_z d) kept) (T_true f.0)))
    (λ e. any_past (eq_z a) d ds e ∙ kept_nowhere (d ∷ kept) ds f.1 a (Memᴰ.tail m))

-- of distinct numbers, those below a + 1 are those below a and a itself
count_next : (kept ds : List ℤ) → Fresh eq_z kept ds → (a b : ℤ) → b ≡ a +ℤ pos 1 → count (λ z. lt_z z b) ds ≡ count (λ z. lt_z z a) ds + one_if (any (eq_z a) ds)
count_next kept [] f a b e = omega (arith, count-empty (λ z. lt_z z b), count-empty (λ z. lt_z z a), one_no (any (eq_z a) []) (unfold any in refl))
count_next kept (d ∷ ds) f a b e =
    let ih = count_next (d ∷ kept) ds f.1 a b e in
    let cb = count-cons (λ z. lt_z z b) d ds in
    let ca = count-cons (λ z. lt_z z a) d ds in
    split (eq_z a d)
    (λ t.
    let q = eq_z_true a d t in
    let n = one_no (any (eq_z a) ds) (kept_nowhere (d ∷ kept) ds f.1 a (Memᴰ.head q)) in
    let y = one_yes (any (eq_z a) (d ∷ ds)) (any-first (eq_z a) d ds t) in
    let u = one_yes (lt_z d b) (lt_true d b (omega (ints, sum a (pos 1)))) in
    let v = one_no (lt_z d a) (lt_false d a (omega ints)) in
    omega arith)
    (λ n.
    let w = ap one_if (any_past (eq_z a) d ds n) in
    let x = ap one_if (same a d b e n) in
    omega arith)
  where
    same : (a d b : ℤ) → b ≡ a +ℤ pos 1 → eq_z a d ≡ false → lt_z d b ≡ lt_z d a
    same a d b e n = split (lt_z d a) (λ t. lt_true d b (omega (signed, sum a (pos 1))) ∙ sym t) (λ l. lt_false d b (other l (decide b d)) ∙ sym l)
      where
        other : lt_z d a ≡ false → (b ≤ℤ d) ⊎ (d <ℤ b) → b ≤ℤ d
        other l (inl h) = h
        other l (inr h) = clash (eq_z-same a d (omega (signed, sum a (pos 1)))) n

-- ---- the distinct values of a list
module _ (xs : List ℤ) where
  abbrev pub distinct : List ℤ
  distinct = firsts eq_z xs

  -- how many are below a number
  abbrev pub below : ℤ → ℕ
  below a = count (λ z. lt_z z a) distinct

  -- a value is one of them
  pub value_there : (a : ℤ) → Memᴰ a xs → Memᴰ a distinct
  value_there a m = any-there a distinct (T_true (firsts_cover eq_z xs a (true_T (eq_z_refl a)) m))

  -- so the same numbers stand in both
  there-same : (a : ℤ) → any (eq_z a) distinct ≡ any (eq_z a) xs
  there-same a =
      split (any (eq_z a) distinct) (λ t. t ∙ sym (any-mem (eq_z a) xs a (firsts-mem eq_z xs a (any-there a distinct t)) (eq_z_refl a)))
      (λ f. f ∙ sym (split (any (eq_z a) xs) (λ t. clash (any-mem (eq_z a) distinct a (value_there a (any-there a xs t)) (eq_z_refl a)) f) (λ n. n)))

  -- each stands there once
  pub distinct-place : (i k : ℕ) → i < length distinct → k < length distinct → get_or distinct i (pos 0) ≡ get_or distinct k (pos 0) → i ≡ k
  distinct-place i k hi hk e =
      let f : Fresh eq_z [] distinct = unfold firsts in firsts_fresh eq_z [] xs in
      let x = get_or distinct k (pos 0) in
      sym (place_own eq_z (pos 0) [] distinct f x (true_T (eq_z_refl x)) i hi e) ∙ place_own eq_z (pos 0) [] distinct f x (true_T (eq_z_refl x)) k hk refl

  -- there are no more than values
  pub distinct-few : length distinct ≤ length xs
  distinct-few = unfold firsts in firsts-few eq_z [] xs

  -- a larger number has no fewer below it
  pub below-order : (a b : ℤ) → a ≤ℤ b → below a ≤ below b
  below-order a b h = count_less (λ z. lt_z z a) (λ z. lt_z z b) (λ z t. lt_true z b (omega signed)) distinct

  -- and more if the smaller one is a value
  pub below_rises : (a b : ℤ) → Memᴰ a xs → a <ℤ b → below a < below b
  below_rises a b m h =
      count_fewer (λ z. lt_z z a) (λ z. lt_z z b) (λ z t. lt_true z b (omega signed)) distinct a (value_there a m) (lt_false a a (omega ints)) (lt_true a b h)

  -- all are below a number above the values
  pub below_all : (a : ℤ) → ((z : ℤ) → Memᴰ z xs → z <ℤ a) → below a ≡ length distinct
  below_all a h = count-each (λ z. lt_z z a) distinct (λ z m. lt_true z a (h z (firsts-mem eq_z xs z m)))

  -- and none below one that is not above any
  pub below_none : (a : ℤ) → ((z : ℤ) → Memᴰ z xs → a ≤ℤ z) → below a ≡ 0
  below_none a h = count_nowhere (λ z. lt_z z a) distinct (λ z m. lt_false z a (h z (firsts-mem eq_z xs z m)))

  -- a value is not below itself
  pub below-few : (a : ℤ) → Memᴰ a xs → below a < length distinct
  below-few a m =
      let b = a +ℤ pos 1 in
      omega (arith, below_rises a b m (omega (ints, sum a (pos 1))), count_most (λ z. lt_z z b) distinct)

  -- from a number to the next there is one more if it is a value
  below_next : (a b : ℤ) → b ≡ a +ℤ pos 1 → below b ≡ below a + one_if (any (eq_z a) xs)
  below_next a b e =
      let f : Fresh eq_z [] distinct = unfold firsts in firsts_fresh eq_z [] xs in
      count_next [] distinct f a b e ∙ ap (λ t. below a + one_if t) (there-same a)

  -- ---- counted from a number that none is below
  module _ (a : ℤ) (low : (z : ℤ) → Memᴰ z xs → a ≤ℤ z) where
    -- those below a + w are the numbers a + v before it that are values
    pub below-counted : (w : ℕ) → below (a +ℤ pos w) ≡ count (λ v. any (eq_z (a +ℤ pos v)) xs) (tab (λ v. v) w)
    below-counted zero = below_none (a +ℤ pos 0) (λ z m. let h = low z m in omega (ints, sum a (pos 0))) ∙ sym (count_none (λ v. any (eq_z (a +ℤ pos v)) xs) (λ v. v))
    below-counted (suc w) =
        let c = rw add-one at (count-tab-more (λ v. any (eq_z (a +ℤ pos v)) xs) (λ v. v) w) in
        omega (arith, below_next (a +ℤ pos w) (a +ℤ pos (suc w)) (next a w), below-counted w, c)

    -- each number of them is reached at a value
    reached : (w b : ℕ) → b < below (a +ℤ pos w) → (z : ℤ) × Memᴰ z xs × (below z ≡ b)
    reached zero b h = absurd (omega (arith, h, below-counted zero, count_none (λ v. any (eq_z (a +ℤ pos v)) xs) (λ v. v)))
    reached (suc w) b h =
        let z = a +ℤ pos w in
        let n = below_next z (a +ℤ pos (suc w)) (next a w) in
        ⊎_elim (λ (l : b < below z). reached w b l)
        (λ (l : below z ≤ b).
        split (any (eq_z z) xs) (λ t. (z, any-there z xs t, omega (arith, h, l, n, one_yes (any (eq_z z) xs) t))) (λ f. absurd (omega (arith, h, l, n, one_no (any (eq_z z) xs) f))))
        (below_or_not b (below z))

  -- every number below the count is the ordinal of some value
  pub below_used : (b : ℕ) → b < length distinct → (z : ℤ) × Memᴰ z xs × (below z ≡ b)
  below_used b h =
      let a = least_z xs in
      let g = greatest_z xs in
      let w = suc (up (g -ℤ a)) in
      let top = below_all (a +ℤ pos w) (λ z m. let l = greatest-above xs z m in omega (ints, sum a (pos w), dif g a, part (g -ℤ a))) in
      reached a (λ z m. least-below xs z m) w b (omega (arith, h, top))

-- ---- of numbers that are all counted from one
module _ (a : ℤ) (xs : List ℕ) where
  -- the numbers themselves
  abbrev pub counted_from : List ℤ
  counted_from = map (λ x. a +ℤ pos x) xs

  low : (z : ℤ) → Memᴰ z counted_from → a ≤ℤ z
  low z m = let r = mem-map (λ x. a +ℤ pos x) xs z m in omega (ints, sum a (pos r.0), r.2)

  -- a number stands among them exactly if its distance from a stands in the list
  stands : (u : ℕ) (ys : List ℕ) → any (eq_z (a +ℤ pos u)) (map (λ x. a +ℤ pos x) ys) ≡ any (eqb u) ys
  stands u [] = unfold any in refl
  stands u (y ∷ ys) =
      split (eqb u y)
      (λ t. any-first (eq_z (a +ℤ pos u)) (a +ℤ pos y) (map (λ x. a +ℤ pos x) ys) (same ∙ t) ∙ sym (any-first (eqb u) y ys t))
      (λ f. any_past (eq_z (a +ℤ pos u)) (a +ℤ pos y) (map (λ x. a +ℤ pos x) ys) (same ∙ f) ∙ stands u ys ∙ sym (any_past (eqb u) y ys f))
    where
      same : eq_z (a +ℤ pos u) (a +ℤ pos y) ≡ eqb u y
      same =
          split (eqb u y) (λ t. eq_z-same (a +ℤ pos u) (a +ℤ pos y) (ap (λ n. a +ℤ pos n) (eqb-true u y t)) ∙ sym t)
          (λ f. eq_z_other (a +ℤ pos u) (a +ℤ pos y) (λ e. eqb-false u y f (omega (ints, sum a (pos u), sum a (pos y)))) ∙ sym f)

  -- so many of the distinct ones are below a + v
  pub below-standing : (v : ℕ) → below counted_from (a +ℤ pos v) ≡ standing xs v
  below-standing v = below-counted counted_from a low v ∙ (λ i. count (λ u. stands u xs i) (tab (λ u. u) v))

  -- and there are so many, where v is above each
  pub distinct-standing : (v : ℕ) → ((x : ℕ) → Memᴰ x xs → x < v) → length (distinct counted_from) ≡ standing xs v
  distinct-standing v h =
      sym (below_all counted_from (a +ℤ pos v) (λ z m. let r = mem-map (λ x. a +ℤ pos x) xs z m in let l = h r.0 r.1 in omega (ints, sum a (pos r.0), sum a (pos v), r.2))) ∙ below-standing v
