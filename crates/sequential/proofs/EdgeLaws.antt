-- What is read along the dependences, as lists. Assumes nothing.
use mathlib.Core.Path.{◌≡◌, sym, ap, ◌∙◌}
use mathlib.Core.List.{List, ◌++◌, map, map-append}
use Prim.Native.Nat.{ℕ, ◌+◌, ◌*◌, ◌<◌, ◌≤◌}
use native.Mathlib.Omega.{arith}
use lib.ListN.{length, get_or, set, take, length-map}
use Rattle.std.specs.Prelude.{Option, None, Some, MatchOption}
use Rattle.std.proofs.lemmas.List.{map-set, take-map, get_or-take, get_or_append_left, get_or-set_same, get_or-set_other}
use borrow.Author.Count.{below_more}
use Rattle.sequential.proofs.SourceLaws.{entry-there, entry-missing}

module _ {A : Type 0} (f : A → ℕ) where
  -- of the first in a longer list
  pub mapped-front : (xs ys : List A) (i : ℕ) → i < length xs → get_or (map f (xs ++ ys)) i 0 ≡ get_or (map f xs) i 0
  mapped-front xs ys i h = ap (λ l. get_or l i 0) (map-append f xs ys) ∙ get_or_append_left (map f xs) (map f ys) 0 i (omega (arith, length-map xs f))

  -- of the first m
  pub mapped-take : (xs : List A) (m i : ℕ) → i < m → get_or (map f (take m xs)) i 0 ≡ get_or (map f xs) i 0
  mapped-take xs m i h = ap (λ l. get_or l i 0) (sym (take-map f m xs)) ∙ get_or-take m (map f xs) i 0 h

  -- one more
  pub mapped_more : (g : ℕ → ℕ) (xs : List A) (i : ℕ) (x : A) → i < length xs → f x ≡ g i → ((j : ℕ) → j < i → get_or (map f xs) j 0 ≡ g j) → (j : ℕ) → j < i + 1 → get_or (map f (set xs i x)) j 0 ≡ g j
  mapped_more g xs i x h e b =
      below_more (λ j. get_or (map f (set xs i x)) j 0 ≡ g j) i
      (λ j l. ap (λ ys. get_or ys j 0) (map-set f xs i x) ∙ get_or-set_other (map f xs) i j (f x) 0 (λ q. absurd (omega arith)) ∙ b j l)
      (ap (λ ys. get_or ys i 0) (map-set f xs i x) ∙ get_or-set_same (map f xs) i (f x) 0 (omega (arith, length-map xs f)) ∙ e)

-- what is read where the source is found or missing, from a table with an entry for each of n iterations
pub read-term : (o : Option ℕ) (n source : ℕ) (values : List ℕ) (w b x : ℕ) → n ≤ length values → MatchOption o (source ≡ n) (λ j. (j < n) × (j ≡ source))
    → MatchOption o (x ≡ w * b) (λ j. x ≡ w * get_or values j 0) → x ≡ w * get_or (take n values) source b
read-term None n source values w b x h p q = q ∙ ap (λ y. w * y) (entry-missing values n source b (omega arith))
read-term (Some j) n source values w b x h p q = q ∙ ap (λ y. w * y) (entry-there values n j b p.0 h ∙ ap (λ i. get_or (take n values) i b) p.1)
