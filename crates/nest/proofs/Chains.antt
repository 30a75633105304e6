-- What chains of iterators answer, by the definitions that the contracts cite. Assumes nothing.
use mathlib.Core.Path.{◌≡◌, refl, sym, ◌∙◌, ap}
use mathlib.Core.Bool.{Bool, true, false, ◌||◌}
use mathlib.Core.List.{List, [], ◌∷◌, map}
use Rattle.std.specs.List.{list_any}
use Rattle.integers.specs.Lists.{any, repeats}

-- `any` of the library and `any` of the specifications
pub listed-any : {A : Type 0} (p : A → Bool) (xs : List A) → list_any p xs ≡ any p xs
unfolding any
listed-any p [] = refl
listed-any p (x ∷ xs) = go (p x) (listed-any p xs)
  where
    go : (b : Bool) → list_any p xs ≡ any p xs → (b || list_any p xs) ≡ elim b as (λ _. Bool) [ true ↦ true | false ↦ any p xs ]
    go true e = refl
    go false e = e

-- the same where the test looks at a part of each element
pub mapped-any : {A B : Type 0} (f : A → B) (p : B → Bool) (xs : List A) → list_any (λ x. p (f x)) xs ≡ any p (map f xs)
unfolding any
mapped-any f p [] = refl
mapped-any f p (x ∷ xs) = go (p (f x)) (mapped-any f p xs)
  where
    go : (b : Bool) → list_any (λ x. p (f x)) xs ≡ any p (map f xs) → (b || list_any (λ x. p (f x)) xs) ≡ elim b as (λ _. Bool) [ true ↦ true | false ↦ any p (map f xs) ]
    go true e = refl
    go false e = e

-- whether two of some elements are the same, by the answer r of the test of the first with the others
pub repeats-first : {A B : Type 0} (f : A → B) (same : B → B → Bool) (x : A) (xs : List A) (r : Bool) → r ≡ list_any (λ y. same (f x) (f y)) xs
    → repeats same (map f (x ∷ xs)) ≡ elim r as (λ _. Bool) [ true ↦ true | false ↦ repeats same (map f xs) ]
unfolding repeats
repeats-first f same x xs r e =
    ap (λ b. elim b as (λ _. Bool) [ true ↦ true | false ↦ repeats same (map f xs) ]) (sym (e ∙ mapped-any f (same (f x)) xs))
