-- Places in an increasing list: the first number that is not below a target, and the first that is equal to it. A search for a larger target may go on
-- where the search for a smaller one ended. Assumes nothing.
use mathlib.Core.Path.{◌≡◌, sym, ap, subst, ◌∙◌}
use mathlib.Core.Logic.{⊎_elim}
use mathlib.Core.Bool.{true, false}
use mathlib.Core.List.{List}
use Prim.Native.Nat.{ℕ, ◌+◌, ◌<◌, ◌≤◌}
use native.Mathlib.Omega.{arith}
use lib.IntN.{ℤ, pos, ◌-ℤ◌}
use lib.ListN.{length, get_or}
use lib.Signed.{◌≤ℤ◌, ◌<ℤ◌, le_z}
use Rattle.integers.proofs.Linear.{ints, dif}
use Rattle.integers.specs.Lists.{place}
use Rattle.integers.proofs.Lists.{split, below_or_not, place_is}
use Rattle.integers.proofs.Tests.{signed}
use Rattle.integers.specs.Vector.{eq_z}
use Rattle.integers.proofs.Vector.{eq_z-same, eq_z_other}
use Rattle.integers.proofs.ListFacts.{before-place, place_true, place-least, place-most, place_none}
use Rattle.sources.specs.Keys.{Increasing, not_below, target_in, Searchable}

-- ---- the first number that is not below t

-- those before it are below t
pub below-target : (t : ℤ) (ks : List ℤ) (i : ℕ) → i < not_below t ks → get_or ks i (pos 0) <ℤ t
below-target t ks i h = let e : le_z t (get_or ks i (pos 0)) ≡ false = before-place (le_z t) ks (pos 0) i h in omega signed

-- and it is not
pub at_target : (t : ℤ) (ks : List ℤ) → not_below t ks < length ks → t ≤ℤ get_or ks (not_below t ks) (pos 0)
at_target t ks h = let e : le_z t (get_or ks (not_below t ks) (pos 0)) ≡ true = place_true (pos 0) (le_z t) ks h in omega signed

-- the test of an order that holds
le_z_true : (a b : ℤ) → a ≤ℤ b → le_z a b ≡ true
le_z_true a b h = split (le_z a b) (λ t. t) (λ (f : le_z a b ≡ false). absurd (omega signed))

-- it is no later than a number that is not below t
pub target-most : (t : ℤ) (ks : List ℤ) (k : ℕ) → t ≤ℤ get_or ks k (pos 0) → not_below t ks ≤ k
target-most t ks k h = place-least (pos 0) (le_z t) ks k (le_z_true t (get_or ks k (pos 0)) h)

-- for a larger target it is no earlier
pub target_later : (t u : ℤ) (ks : List ℤ) → t ≤ℤ u → not_below t ks ≤ not_below u ks
target_later t u ks h = ⊎_elim (λ (l : not_below u ks < not_below t ks). absurd (clear l)) (λ l. l) (below_or_not (not_below u ks) (not_below t ks))
  where
    -- an earlier place would pass the smaller target too
    clear : not_below u ks < not_below t ks → ⊥
    clear l =
        let a = below-target t ks (not_below u ks) l in
        let b = at_target u ks (let n = place-most (le_z t) ks in omega arith) in
        omega (ints, a, b)

-- a search upward from c, where all before c are below t: one more is below it, or the place is found
pub search_more : (t : ℤ) (ks : List ℤ) (c : ℕ) → not_below t ks < length ks → c ≤ not_below t ks → get_or ks c (pos 0) <ℤ t → c + 1 ≤ not_below t ks
search_more t ks c n h l =
    ⊎_elim (λ (m : c < not_below t ks). omega arith)
    (λ (m : not_below t ks ≤ c). absurd (let e : not_below t ks ≡ c = omega arith in let b : t ≤ℤ get_or ks c (pos 0) = subst (λ i. t ≤ℤ get_or ks i (pos 0)) e (at_target t ks n) in omega ints))
    (below_or_not c (not_below t ks))

-- the first that is not below the target ends the search
pub search_end : (t : ℤ) (ks : List ℤ) (c : ℕ) → c ≤ not_below t ks → t ≤ℤ get_or ks c (pos 0) → c ≡ not_below t ks
search_end t ks c h l = let m = target-most t ks c l in omega arith

-- the place of a source's key is in the table
pub target-inside : (ks : List ℤ) (k : ℕ) (distance : ℤ) → k < length ks → Searchable ks distance → not_below (target_in ks k distance) ks < length ks
target-inside ks k distance h S =
    let x = get_or ks k (pos 0) in
    let f = S.forward in
    let m = target-most (x -ℤ distance) ks k (omega (ints, dif x distance)) in
    omega arith

-- ---- the first number that is equal to t
module _ (t : ℤ) (ks : List ℤ) (n : not_below t ks < length ks) where
  -- the first that is not below t
  abbrev c : ℕ
  c = not_below t ks

  -- none before it is equal to t
  before : (i : ℕ) → i < c → eq_z t (get_or ks i (pos 0)) ≡ false
  before i l = eq_z_other t (get_or ks i (pos 0)) (λ e. absurd (let b = below-target t ks i l in omega ints))

  -- it is the first that is not below t, if that is equal to t
  pub equal_found : get_or ks (not_below t ks) (pos 0) ≡ t → place (eq_z t) ks ≡ not_below t ks
  equal_found e = place_is (eq_z t) ks c (pos 0) n (eq_z-same t (get_or ks c (pos 0)) (sym e)) before

  -- and otherwise there is none, in an increasing list
  pub equal_missing : Increasing ks → (get_or ks (not_below t ks) (pos 0) ≡ t → ⊥) → place (eq_z t) ks ≡ length ks
  equal_missing up other = place_none (pos 0) (eq_z t) ks (λ i l. ⊎_elim (λ (m : i < c). before i m) (λ (m : c ≤ i). eq_z_other t (get_or ks i (pos 0)) (λ e. behind i l m e)) (below_or_not i c))
    where
      behind : (i : ℕ) → i < length ks → c ≤ i → t ≡ get_or ks i (pos 0) → ⊥
      behind i l m e =
          ⊎_elim (λ (g : c < i). let a = at_target t ks n in let b = up c i g l in omega (ints, a, b))
          (λ (g : i ≤ c). other (let q : c ≡ i = omega arith in ap (λ j. get_or ks j (pos 0)) q ∙ sym e))
          (below_or_not c i)
