-- The messages to an iteration whose sources are found in a table of keys are the nest's own. Assumes nothing.
use mathlib.Core.Path.{◌≡◌, refl, sym, ap, ap₂, ◌∙◌}
use mathlib.Core.Bool.{Bool, true, false, not, ◌&&◌}
use mathlib.Core.List.{List}
use Prim.Native.Nat.{ℕ, zero, suc, ◌+◌, ◌<◌, ◌≤◌}
use native.Mathlib.Numerals.{add-one}
use native.Mathlib.Omega.{arith}
use borrow.Author.Tests.{lt-ltb, le-ltb, eq-eqb, ne_eqb}
use lib.Dec.{eqb, ltb}
use lib.IntN.{ℤ, pos}
use lib.ListN.{length, get_or, take}
use Rattle.integers.specs.Lists.{tab, count, one_if}
use Rattle.nest.specs.declared.LoopNest.{LoopNest}
use Rattle.nest.specs.Nest.{count_of}
use Rattle.nest.specs.Points.{points_of}
use Rattle.sources.specs.Keys.{source_in}
use Rattle.sources.proofs.Cursors.{OfNest, keyed-length, keyed-source}
use Rattle.mapping.specs.ByKeys.{elsewhere_in, messages_in}
use Rattle.mapping.specs.Mapping.{is_message}
use Rattle.integers.proofs.Sums.{count_none, count-tab-more}
use Rattle.mapping.proofs.Messages.{message-is}

-- ---- one dependence after the other
module _ (keys distances : List ℤ) (ps : List ℕ) (k : ℕ) where
  -- along the first i
  abbrev pub messages_to : ℕ → ℕ
  messages_to i = count (elsewhere_in keys distances ps k) (tab (λ (i : ℕ). i) i)

  -- along none
  pub messages-none : messages_to 0 ≡ 0
  messages-none = count_none (elsewhere_in keys distances ps k) (λ (i : ℕ). i)

  -- one more
  messages_more : (i acc : ℕ) → acc ≡ messages_to i → acc + one_if (elsewhere_in keys distances ps k i) ≡ messages_to (i + 1)
  messages_more i acc e = omega (arith, e, count-tab-more (elsewhere_in keys distances ps k) (λ (i : ℕ). i) i)

  -- its source is no iteration
  pub messages_missing : (i acc : ℕ) → acc ≡ messages_to i → source_in keys k (get_or distances i (pos 0)) ≡ length keys → acc ≡ messages_to (i + 1)
  unfolding elsewhere_in one_if
  messages_missing i acc e p =
      let t : ltb (source_in keys k (get_or distances i (pos 0))) (length keys) ≡ false = le-ltb _ _ (omega (arith, p)) in
      let x : one_if (elsewhere_in keys distances ps k i) ≡ 0 = rw t refl in
      omega (arith, messages_more i acc e, x)

  module _ (i j acc : ℕ) (e : acc ≡ messages_to i) (h : j < length keys) (p : j ≡ source_in keys k (get_or distances i (pos 0))) where
    inside : ltb (source_in keys k (get_or distances i (pos 0))) (length keys) ≡ true
    inside = lt-ltb _ _ (omega (arith, h, p))

    -- it is on the same processor
    pub messages-same : get_or ps j 0 ≡ get_or ps k 0 → acc ≡ messages_to (i + 1)
    unfolding elsewhere_in one_if
    messages-same q =
        let t : eqb (get_or ps (source_in keys k (get_or distances i (pos 0))) 0) (get_or ps k 0) ≡ true = eq-eqb _ _ (ap (λ a. get_or ps a 0) (sym p) ∙ q) in
        let x : one_if (elsewhere_in keys distances ps k i) ≡ 0 = rw (inside, t) refl in
        omega (arith, messages_more i acc e, x)

    -- it is on another
    pub messages-other : (get_or ps j 0 ≡ get_or ps k 0 → ⊥) → acc + 1 ≡ messages_to (i + 1)
    unfolding elsewhere_in one_if
    messages-other q =
        let t : eqb (get_or ps (source_in keys k (get_or distances i (pos 0))) 0) (get_or ps k 0) ≡ false = ne_eqb _ _ (λ a. q (ap (λ b. get_or ps b 0) p ∙ a)) in
        let x : one_if (elsewhere_in keys distances ps k i) ≡ 1 = rw (inside, t) refl in
        omega (arith, messages_more i acc e, x)

  -- all
  pub messages-all : (i m acc : ℕ) → acc ≡ messages_to i → i ≡ m → acc ≡ messages_in keys distances ps k m
  unfolding messages_in
  messages-all i m acc e q = e ∙ ap messages_to q

-- ---- of an accepted nest
module _ (s : LoopNest) (keys : List ℤ) (m : ℕ) (distances : List ℤ) (K : OfNest s keys m distances) (ps : List ℕ) (k : ℕ) (h : k < length (points_of s)) where
  -- the number of iterations
  abbrev n : ℕ
  n = length (points_of s)

  -- the test along dependence i is the nest's
  nest-message : (i : ℕ) → i < m → elsewhere_in keys distances ps k i ≡ is_message s (take n ps) k i
  unfolding elsewhere_in
  nest-message i l =
      let j = source_in keys k (get_or distances i (pos 0)) in
      ap (λ z. ltb j z && not (eqb (get_or ps j 0) (get_or ps k 0))) (keyed-length s keys m distances K) ∙ message-is s k i j h (keyed-source s keys m distances K k i h l) n ps refl

  -- so are the messages along the first i
  nest-messages : (i : ℕ) → i ≤ m → messages_to keys distances ps k i ≡ count (is_message s (take n ps) k) (tab (λ (i : ℕ). i) i)
  nest-messages zero l = messages-none keys distances ps k ∙ sym (count_none (is_message s (take n ps) k) (λ (i : ℕ). i))
  nest-messages (suc i) l =
      rw add-one at (count-tab-more (elsewhere_in keys distances ps k) (λ (i : ℕ). i) i)
      ∙ ap₂ (λ (a : ℕ) (b : Bool). a + one_if b) (nest-messages i (omega arith)) (nest-message i (omega arith))
      ∙ sym (rw add-one at (count-tab-more (is_message s (take n ps) k) (λ (i : ℕ). i) i))

  -- the messages to iteration k are the nest's
  pub keyed-messages : (x : ℕ) → x ≡ messages_in keys distances ps k m → x ≡ count (is_message s (take (length (points_of s)) ps) k) (tab (λ (i : ℕ). i) (count_of s))
  unfolding messages_in
  keyed-messages x e = e ∙ nest-messages m (omega arith) ∙ ap (λ i. count (is_message s (take n ps) k) (tab (λ (i : ℕ). i) i)) K.count
