-- The listed numbers of fields of line 1 and the listed shapes of the lines behind it: what the
-- first that fits is.
-- Assumes nothing.
use mathlib.Core.Path.{◌≡◌, refl, sym, ap, ap₂, subst}
use mathlib.Core.Bool.{Bool, true, false}
use mathlib.Core.List.{List, [], ◌∷◌, Memᴰ}
use mathlib.Core.Logic.{◌⊎◌, inl, inr}
use Prim.Native.Nat.{ℕ, ◌≤◌}
use native.Mathlib.Omega.{arith}
use lib.ListN.{get_or}
use Rattle.integers.specs.Lists.{any, first}
use Rattle.integers.proofs.Lists.{T_true, any-one, split}
use Rattle.integers.proofs.ListFacts.{any-mem, first_passes, first-mem, first-at, first-empty}
use Rattle.nest_text.specs.Fields.{Bytes}
use Rattle.nest_text.specs.Text.{is_line, numbers_of, behind, are_lines, header_width, header_widths, Shape}
use Rattle.nest_text.specs.Text.{fits, first_fitting, is_headed, header_width_of, header_numbers, rest_of}

-- ---- the first of a list that passes a test

module _ {A : Type 0} (p : A → Bool) (d : A) (xs : List A) where
  -- it stands in the list of it alone
  first-there : any p xs ≡ true → Memᴰ (get_or (first p xs) 0 d) (first p xs)
  first-there h =
      let e = first-at p xs d h in
      subst (λ l. Memᴰ (get_or l 0 d) l) (sym e) (Memᴰ.head refl)

  -- where one passes, it passes
  pub first_fits : any p xs ≡ true → p (get_or (first p xs) 0 d) ≡ true
  first_fits h = T_true (first_passes p xs (get_or (first p xs) 0 d) (first-there h))

  -- and is listed
  pub first-listed : any p xs ≡ true → Memᴰ (get_or (first p xs) 0 d) xs
  first-listed h = first-mem p xs (get_or (first p xs) 0 d) (first-there h)

  -- where none passes, it is what stands for none
  pub first_default : any p xs ≡ false → get_or (first p xs) 0 d ≡ d
  first_default h = ap (λ l. get_or l 0 d) (first-empty p xs h)

module _ {A : Type 0} (p q : A → Bool) where
  -- tests that agree on the list
  pub any_same : (xs : List A) → ((x : A) → Memᴰ x xs → p x ≡ q x) → any p xs ≡ any q xs
  unfolding any
  any_same [] h = refl
  any_same (x ∷ xs) h =
      ap₂ (λ (b r : Bool). elim b as (λ _. Bool) [ true ↦ true | false ↦ r ]) (h x (Memᴰ.head refl)) (any_same xs (λ y m. h y (Memᴰ.tail m)))

  -- have the same first
  pub first-same : (xs : List A) → ((x : A) → Memᴰ x xs → p x ≡ q x) → first p xs ≡ first q xs
  unfolding first
  first-same [] h = refl
  first-same (x ∷ xs) h =
      ap₂ (λ (b : Bool) (r : List A). elim b as (λ _. List A) [ true ↦ x ∷ [] | false ↦ r ]) (h x (Memᴰ.head refl)) (first-same xs (λ y m. h y (Memᴰ.tail m)))

-- what a list of one holds
pub one-listed : {A : Type 0} {x y : A} → Memᴰ x (y ∷ []) → x ≡ y
one-listed (Memᴰ.head e) = e
one-listed (Memᴰ.tail m) = elim m [ ]

-- what a list of two holds
pub two-listed : {A : Type 0} {x y z : A} → Memᴰ x (y ∷ z ∷ []) → (x ≡ y) ⊎ (x ≡ z)
two-listed (Memᴰ.head e) = inl e
two-listed (Memᴰ.tail m) = inr (one-listed m)

-- ---- shapes

module _ (ws : List Shape) (bs : Bytes) where
  -- the shape by which bytes are read fits them
  pub fitting_fits : fits ws bs ≡ true → are_lines (first_fitting ws bs) bs ≡ true
  unfolding fits first_fitting
  fitting_fits h = first_fits (λ w. are_lines w bs) [] ws h

  -- it is listed
  pub fitting_listed : fits ws bs ≡ true → Memᴰ (first_fitting ws bs) ws
  unfolding fits first_fitting
  fitting_listed h = first-listed (λ w. are_lines w bs) [] ws h

  -- where none fits, they are read as no lines
  pub none_fitting : fits ws bs ≡ false → first_fitting ws bs ≡ []
  unfolding fits first_fitting
  none_fitting h = first_default (λ w. are_lines w bs) [] ws h

  -- bytes that a listed shape fits are in form
  pub listed-shape : (w : Shape) → Memᴰ w ws → are_lines w bs ≡ true → fits ws bs ≡ true
  unfolding fits
  listed-shape w m e = any-mem (λ v. are_lines v bs) ws w m e

-- ---- line 1

module _ (bs : Bytes) where
  -- the width by which line 1 is read is in form
  pub header-line : is_headed bs ≡ true → is_line (header_width_of bs) bs ≡ true
  unfolding is_headed header_width_of
  header-line h = first_fits (λ k. is_line k bs) 0 header_widths h

  -- it is listed
  pub header-listed : is_headed bs ≡ true → Memᴰ (header_width_of bs) header_widths
  unfolding is_headed header_width_of
  header-listed h = first-listed (λ k. is_line k bs) 0 header_widths h

  -- a line 1 with a listed width is in form
  pub listed-header : (k : ℕ) → Memᴰ k header_widths → is_line k bs ≡ true → is_headed bs ≡ true
  unfolding is_headed
  listed-header k m e = any-mem (λ j. is_line j bs) header_widths k m e

  -- today one is listed
  pub header-one : is_headed bs ≡ is_line header_width bs
  unfolding is_headed
  header-one = any-one (λ k. is_line k bs) header_width

  -- which line 1 in form has
  pub header-width : is_headed bs ≡ true → header_width_of bs ≡ header_width
  header-width h = one-listed (header-listed h)

  -- so these are its numbers
  pub header-numbers : is_headed bs ≡ true → header_numbers bs ≡ numbers_of header_width bs
  unfolding header_numbers
  header-numbers h = ap (λ k. numbers_of k bs) (header-width h)

  -- and these the bytes behind it
  pub rest-behind : is_headed bs ≡ true → rest_of bs ≡ behind header_width bs
  unfolding rest_of
  rest-behind h = ap (λ k. behind k bs) (header-width h)

  -- it has no more fields than these, in form or not
  pub header_narrow : header_width_of bs ≤ header_width
  header_narrow = split (is_headed bs) (λ t. omega (arith, header-width t)) (λ f. omega (arith, none f))
    where
      none : is_headed bs ≡ false → header_width_of bs ≡ 0
      none f = unfold is_headed header_width_of in first_default (λ k. is_line k bs) 0 header_widths f
