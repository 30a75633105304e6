-- What a move finds in lent tables: a law for each way out of the functions of src/finding.rt, over plain lists and numbers.
-- Assumes nothing.
use mathlib.Core.Path.{◌≡◌, refl, sym, ap, ap₂, ◌∙◌}
use mathlib.Core.Bool.{Bool, true, false, not, ◌&&◌}
use mathlib.Core.List.{List, []}
use mathlib.Core.Logic.{◌≢◌}
use mathlib.Core.Option.{Option, none, some}
use Prim.Native.Nat.{ℕ, ◌+◌, ◌≤◌, ◌<◌}
use native.Mathlib.Omega.{arith}
use borrow.Author.Tests.{eq-eqb, ne_eqb}
use lib.Dec.{eqb}
use lib.ListN.{length, get_or, take}
use lib.Seq.{get_or-take, length-take-le}
use Rattle.integers.proofs.Lists.{and_false}
use Rattle.execution.specs.Rules.{every, better, least, View, step_in, waits, there}
use Rattle.execution.specs.Run.{bit}
use Rattle.execution.specs.Inner.{view_in, option_in, ready_from}
use Rattle.std.specs.Prelude.{Option as Found, Some, None, IfSome}
use Rattle.execution.proofs.Base.{every_refute, least-some, least-same}
use Rattle.execution.proofs.BitLaws.{every_more, least_start, least_more}

-- ---- the iteration that a processor takes
module _ (steps processors done : List ℕ) (p : ℕ) where
  -- what the search sees
  abbrev seen : View
  seen = view_in steps processors done []

  -- the iteration taken, of the first k
  abbrev pub taken_of : ℕ → Option ℕ
  taken_of k = least (waits seen p) (step_in seen) k

  -- it is one of them
  pub taken-below : (k j : ℕ) → taken_of k ≡ some j → j < k
  taken-below k j e = (least-some (waits seen p) (step_in seen) k j e).below

  pub taken_within : (k n : ℕ) (best : Found ℕ) → option_in best ≡ taken_of k → k ≤ n → IfSome best (λ j. j < n)
  taken_within k n None e h = tt
  taken_within k n (Some j) e h = omega (arith, taken-below k j (sym e))

  -- none of none
  pub taken-none : none ≡ taken_of 0
  taken-none = sym (least_start (waits seen p) (step_in seen))

  module _ (k : ℕ) where
    -- k does not wait
    skipped : waits seen p k ≡ false → taken_of k ≡ taken_of (k + 1)
    unfolding better
    skipped w = sym (least_more (waits seen p) (step_in seen) k ∙ ap (λ b. better (step_in seen) k b (taken_of k)) w)

    -- it is on another processor
    pub taken-elsewhere : get_or processors k 0 ≢ p → taken_of k ≡ taken_of (k + 1)
    taken-elsewhere g = skipped (rw (ne_eqb (get_or processors k 0) p g) (and_false (not (seen.done k))))

    -- it is done
    pub taken-done : get_or done k 0 ≢ 0 → taken_of k ≡ taken_of (k + 1)
    taken-done h = skipped (rw (ne_eqb (get_or done k 0) 0 h) refl)

    -- it waits, and may be better
    pub taken-waiting : get_or processors k 0 ≡ p → get_or done k 0 ≡ 0 → better (step_in seen) k true (taken_of k) ≡ taken_of (k + 1)
    taken-waiting g h =
        let w : waits seen p k ≡ true = rw (eq-eqb (get_or done k 0) 0 h, eq-eqb (get_or processors k 0) p g) refl in
        sym (least_more (waits seen p) (step_in seen) k ∙ ap (λ b. better (step_in seen) k b (taken_of k)) w)

-- ---- tables cut behind the last of n iterations
module _ (steps processors done delivered : List ℕ) (n : ℕ) where
  -- what is taken is the same
  pub taken-cut : (p : ℕ) → n ≤ length processors → taken_of steps (take n processors) (take n done) p (length (take n processors)) ≡ taken_of steps processors done p n
  taken-cut p long =
      ap (taken_of steps (take n processors) (take n done) p) (length-take-le n processors long)
      ∙ least-same n (waits (seen steps (take n processors) (take n done) p) p) (waits (seen steps processors done p) p) (step_in (seen steps processors done p)) (step_in (seen steps processors done p))
      (λ k l. ap₂ (λ (x y : ℕ). not (not (eqb x 0)) && eqb y p) (get_or-take n done k 0 l) (get_or-take n processors k 0 l)) (λ j k hj hk. (λ h. h, λ h. h))

  -- and so is the test of a source
  pub there-cut : (p k i : ℕ) (o : Option ℕ) → k < n → ((j : ℕ) → o ≡ some j → j < n) → there (view_in [] (take n processors) (take n done) (take n delivered)) p k i o ≡ there (view_in steps processors done delivered) p k i o
  there-cut p k i none hk h = refl
  there-cut p k i (some j) hk h =
      let l = h j refl in
      λ t. elim (eqb (get_or-take n processors j 0 l t) p) [ true ↦ not (eqb (get_or-take n done j 0 l t) 0) | false ↦ bit i (get_or-take n delivered k 0 hk t) ]

-- and of a message
module _ (processors done delivered : List ℕ) (n : ℕ) where
  pub ready-cut : (o : Option ℕ) (k i : ℕ) → n ≤ length processors → k < n → ((j : ℕ) → o ≡ some j → j < n)
      → ready_from o (length (take n processors)) (take n processors) (take n done) (take n delivered) k i ≡ ready_from o n processors done delivered k i
  ready-cut none k i long hk h = refl
  ready-cut (some j) k i long hk h =
      let l = h j refl in
      rw (length-take-le n processors long, get_or-take n processors j 0 l, get_or-take n processors k 0 hk, get_or-take n done j 0 l, get_or-take n delivered k 0 hk) refl

-- ---- the test of all sources

-- one more passes
pub every_next : (t : ℕ → Bool) (i : ℕ) (b : Bool) → every t i ≡ true → b ≡ t i → b ≡ true → every t (i + 1) ≡ true
every_next t i b e q h = every_more t i ∙ ap₂ ◌&&◌ e (sym q ∙ h)

-- one does not
pub every_stops : (t : ℕ → Bool) (m i : ℕ) (b : Bool) → i < m → b ≡ t i → b ≡ false → false ≡ every t m
every_stops t m i b l q h = sym (every_refute t m i l (sym q ∙ h))
