-- Lists of images: where a test of the images gives what another gives of the elements, each list function gives for the images what it gives for
-- the elements. Of use for lists of vectors with one more component in front. Assumes nothing.
use mathlib.Core.Path.{◌≡◌, refl, ap, ap₂, ◌∙◌}
use mathlib.Core.Bool.{Bool, true, false}
use mathlib.Core.List.{List, [], ◌∷◌, map}
use Prim.Native.Nat.{ℕ, zero, suc}
use Rattle.integers.specs.Lists.{any, first, place, firsts_after, firsts, repeats}

-- a list with one more element in front, as a function of it
abbrev pub behind : {A : Type 0} → A → List A → List A
behind x xs = x ∷ xs

-- one test of an element
module _ {A B : Type 0} (f : A → B) (p : B → Bool) (q : A → Bool) (same : (x : A) → p (f x) ≡ q x) where
  -- some image passes
  pub any_images : (xs : List A) → any p (map f xs) ≡ any q xs
  unfolding any
  any_images [] = refl
  any_images (x ∷ xs) = ap₂ (λ (b c : Bool). elim b as (λ _. Bool) [ true ↦ true | false ↦ c ]) (same x) (any_images xs)

  -- the place of the first that passes
  pub place_images : (xs : List A) → place p (map f xs) ≡ place q xs
  unfolding place
  place_images [] = refl
  place_images (x ∷ xs) = ap₂ (λ (b : Bool) (k : ℕ). elim b as (λ _. ℕ) [ true ↦ zero | false ↦ suc k ]) (same x) (place_images xs)

  -- the first that passes
  pub first_images : (xs : List A) → first p (map f xs) ≡ map f (first q xs)
  unfolding first
  first_images [] = refl
  first_images (x ∷ xs) =
      ap₂ (λ (b : Bool) (l : List B). elim b as (λ _. List B) [ true ↦ f x ∷ [] | false ↦ l ]) (same x) (first_images xs) ∙ go (q x)
    where
      go : (b : Bool) → ◌≡◌ {A = List B} (elim b as (λ _. List B) [ true ↦ f x ∷ [] | false ↦ map f (first q xs) ]) (map f (elim b as (λ _. List A) [ true ↦ x ∷ [] | false ↦ first q xs ]))
      go true = refl
      go false = refl

-- a test of two elements
module _ {A B : Type 0} (f : A → B) (p : B → B → Bool) (q : A → A → Bool) (same : (x y : A) → p (f x) (f y) ≡ q x y) where
  -- two images are the same
  pub repeats_images : (xs : List A) → repeats p (map f xs) ≡ repeats q xs
  unfolding repeats
  repeats_images [] = refl
  repeats_images (x ∷ xs) =
      ap₂ (λ (b c : Bool). elim b as (λ _. Bool) [ true ↦ true | false ↦ c ]) (any_images f (p (f x)) (q x) (same x) xs) (repeats_images xs)

  -- the first of each class, behind some
  after_images : (kept xs : List A) → firsts_after p (map f kept) (map f xs) ≡ map f (firsts_after q kept xs)
  unfolding firsts_after
  after_images kept [] = refl
  after_images kept (x ∷ xs) =
      ap (λ (b : Bool). elim b as (λ _. List B) [ true ↦ firsts_after p (map f kept) (map f xs) | false ↦ f x ∷ firsts_after p (map f (x ∷ kept)) (map f xs) ]) (any_images f (p (f x)) (q x) (same x) kept)
      ∙ go (any (q x) kept) (after_images kept xs) (after_images (x ∷ kept) xs)
    where
      go : (b : Bool) → firsts_after p (map f kept) (map f xs) ≡ map f (firsts_after q kept xs) → firsts_after p (map f (x ∷ kept)) (map f xs) ≡ map f (firsts_after q (x ∷ kept) xs)
          → ◌≡◌ {A = List B} (elim b as (λ _. List B) [ true ↦ firsts_after p (map f kept) (map f xs) | false ↦ f x ∷ firsts_after p (map f (x ∷ kept)) (map f xs) ])
          (map f (elim b as (λ _. List A) [ true ↦ firsts_after q kept xs | false ↦ x ∷ firsts_after q (x ∷ kept) xs ]))
      go true u v = u
      go false u v = ap (λ (l : List B). f x ∷ l) v

  -- the first of each class
  pub firsts_images : (xs : List A) → firsts p (map f xs) ≡ map f (firsts q xs)
  unfolding firsts
  firsts_images xs = after_images [] xs

-- functions of the images
pub map_images : {A B C : Type 0} (f : A → B) (g : B → C) (h : A → C) → ((x : A) → g (f x) ≡ h x) → (xs : List A) → map g (map f xs) ≡ map h xs
map_images f g h same [] = refl
map_images {C = C} f g h same (x ∷ xs) = ap₂ (λ (y : C) (l : List C). y ∷ l) (same x) (map_images f g h same xs)
