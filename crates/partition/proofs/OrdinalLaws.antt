-- Flags for the numbers of a list, one number more at a time, and the running count of the flags. Assumes nothing.
use mathlib.Core.Path.{◌≡◌, refl, sym, ap, ◌∙◌}
use mathlib.Core.Bool.{false, ◌||◌, or-false}
use mathlib.Core.List.{List, [], ◌∷◌, ◌++◌, map}
use Prim.Native.Nat.{ℕ, ◌+◌, ◌<◌, ◌≤◌}
use native.Mathlib.Numerals.{add-one}
use native.Mathlib.Omega.{arith}
use borrow.Author.Tests.{eqb-true, eqb-false}
use lib.Dec.{eqb}
use lib.ListN.{length, get_or, take, set, length-set}
use lib.Seq.{take-suc, get_or-set_same, get_or-set_other}
use Rattle.integers.specs.Lists.{any, tab, one_if, total}
use Rattle.integers.proofs.Lists.{any_append, any-one, or_right, split, length-tab, get_or-tab, tab-list, tab-same}
use Rattle.integers.proofs.Sums.{one_yes, one_no, count-total, count-standing}
use Rattle.nest.specs.Nest.{max_iterations}
use Rattle.partition.proofs.Passed.{map_same}
use Rattle.partition.specs.KeySteps.{Counted, Cleared, flags, standing, ordinals}

-- ---- flags

-- none is set yet
pub marked_none : (numbers table : List ℕ) → Cleared table → table ≡ flags (take 0 numbers) (length table)
unfolding any
marked_none numbers table h = sym (tab-list (λ u. one_if (any (eqb u) [])) table 0 (length table) refl (λ u l. one_no false refl ∙ sym (h u)))

-- one number more
pub marked_more : (numbers table : List ℕ) (n k x : ℕ) → k < length numbers → x ≡ get_or numbers k 0 → x < n → table ≡ flags (take k numbers) n → set table x 1 ≡ flags (take (k + 1) numbers) n
marked_more numbers table n k x h e l w =
    ap (λ (t : List ℕ). set t x 1) w ∙ sym (tab-list (λ u. one_if (any (eqb u) (take (k + 1) numbers))) (set (flags xs n) x 1) 0 n long each)
  where
    xs : List ℕ
    xs = take k numbers

    f : ℕ → ℕ
    f u = one_if (any (eqb u) xs)

    long : length (set (flags xs n) x 1) ≡ n
    long = length-set (flags xs n) x 1 ∙ length-tab f n

    front : take (k + 1) numbers ≡ xs ++ (x ∷ [])
    front = ap (λ i. take i numbers) (add-one k) ∙ take-suc numbers k 0 h ∙ ap (λ y. xs ++ (y ∷ [])) (sym e)

    stands : (u : ℕ) → any (eqb u) (take (k + 1) numbers) ≡ (any (eqb u) xs || eqb u x)
    stands u = ap (any (eqb u)) front ∙ any_append (eqb u) xs (x ∷ []) ∙ ap (λ b. any (eqb u) xs || b) (any-one (eqb u) x)

    each : (u : ℕ) → u < n → one_if (any (eqb u) (take (k + 1) numbers)) ≡ get_or (set (flags xs n) x 1) u 0
    each u b =
        split (eqb u x)
        (λ t.
        one_yes (any (eqb u) (take (k + 1) numbers)) (stands u ∙ or_right (any (eqb u) xs) (eqb u x) t)
        ∙ sym (ap (λ i. get_or (set (flags xs n) x 1) i 0) (eqb-true u x t) ∙ get_or-set_same (flags xs n) x 1 0 (omega (arith, l, length-tab f n))))
        (λ q.
        ap one_if (stands u ∙ ap (λ c. any (eqb u) xs || c) q ∙ or-false (any (eqb u) xs))
        ∙ sym (get_or-set_other (flags xs n) x u 1 0 (eqb-false u x q) ∙ get_or-tab f n u 0 b))

-- ---- their running count

-- the sum of the entries before place v
abbrev pub sum_before : List ℕ → ℕ → ℕ
sum_before table v = total (tab (λ u. get_or table u 0) v)

-- the flags before place v are the numbers below v that stand in the list
flags-standing : (xs : List ℕ) (n v : ℕ) → v ≤ n → sum_before (flags xs n) v ≡ standing xs v
flags-standing xs n v h =
    let f : ℕ → ℕ = λ u. one_if (any (eqb u) xs) in
    ap total (tab-same (λ u. get_or (flags xs n) u 0) f v (λ u l. get_or-tab f n u 0 (omega (arith, l, h)))) ∙ sym (count-total (λ u. any (eqb u) xs) v)

-- ---- the three loops one after the other
module _ (numbers : List ℕ) (range : ℕ) (C : Counted numbers range) (marked : List ℕ) (m : marked ≡ flags numbers range) where
  long : length marked ≡ range
  long = ap (λ (t : List ℕ). length t) m ∙ length-tab (λ u. one_if (any (eqb u) numbers)) range

  below_standing : (v : ℕ) → v ≤ range → sum_before marked v ≡ standing numbers v
  below_standing v h = ap (λ (t : List ℕ). sum_before t v) m ∙ flags-standing numbers range v h

  -- what `running` asks
  pub sums-few : (v : ℕ) → v ≤ length marked → sum_before marked v ≤ max_iterations
  sums-few v h = omega (arith, below_standing v (omega (arith, h, long)), count-standing numbers v, C.few)

  -- the sum of all flags
  pub all-standing : sum_before marked (length marked) ≡ standing numbers range
  all-standing = ap (sum_before marked) long ∙ below_standing range (omega arith)

  -- the entry at the place of a number is its ordinal
  pub ordinals-made : map (λ x. get_or (tab (sum_before marked) (length marked)) x 0) numbers ≡ ordinals numbers
  ordinals-made =
      map_same 0 (λ x. get_or (tab (sum_before marked) (length marked)) x 0) (standing numbers) numbers
      (λ k h. let x = get_or numbers k 0 in let l = C.small k h in get_or-tab (sum_before marked) (length marked) x 0 (omega (arith, l, long)) ∙ below_standing x (omega (arith, l)))
