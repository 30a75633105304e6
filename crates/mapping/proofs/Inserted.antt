-- An element put into a list: what stands before it stays where it is, what stands behind it one place further. Assumes nothing.
use mathlib.Core.Path.{◌≡◌, refl, ap}
use mathlib.Core.List.{List, [], ◌∷◌, ◌++◌}
use Prim.Native.Nat.{ℕ, zero, suc, ◌<◌, ◌≤◌}
use native.Mathlib.Omega.{arith}
use lib.ListN.{length, get_or, set}

module _ {A : Type 0} where
  -- the list with x at place p
  abbrev pub inserted : ℕ → A → List A → List A
  inserted zero x ys = x ∷ ys
  inserted (suc p) x [] = x ∷ []
  inserted (suc p) x (y ∷ ys) = y ∷ inserted p x ys

  pub inserted-length : (p : ℕ) (x : A) (ys : List A) → length (inserted p x ys) ≡ suc (length ys)
  inserted-length zero x ys = refl
  inserted-length (suc p) x [] = refl
  inserted-length (suc p) x (y ∷ ys) = ap suc (inserted-length p x ys)

  -- behind the first part of a list
  pub inserted_between : (x : A) (xs ys : List A) → inserted (length xs) x (xs ++ ys) ≡ xs ++ (x ∷ ys)
  inserted_between x [] ys = refl
  inserted_between x (y ∷ xs) ys = ap (λ l. y ∷ l) (inserted_between x xs ys)

  module _ (x d : A) where
    -- what stands where
    pub inserted-before : (p : ℕ) (ys : List A) (i : ℕ) → i < p → p ≤ length ys → get_or (inserted p x ys) i d ≡ get_or ys i d
    inserted-before zero ys i h l = absurd (omega arith)
    inserted-before (suc p) [] i h l = absurd (omega arith)
    inserted-before (suc p) (y ∷ ys) zero h l = refl
    inserted-before (suc p) (y ∷ ys) (suc i) h l = inserted-before p ys i (omega arith) (omega arith)

    pub inserted-at : (p : ℕ) (ys : List A) → p ≤ length ys → get_or (inserted p x ys) p d ≡ x
    inserted-at zero ys l = refl
    inserted-at (suc p) [] l = absurd (omega arith)
    inserted-at (suc p) (y ∷ ys) l = inserted-at p ys (omega arith)

    pub inserted-behind : (p : ℕ) (ys : List A) (i : ℕ) → p ≤ i → p ≤ length ys → get_or (inserted p x ys) (suc i) d ≡ get_or ys i d
    inserted-behind zero ys i h l = refl
    inserted-behind (suc p) [] i h l = absurd (omega arith)
    inserted-behind (suc p) (y ∷ ys) zero h l = absurd (omega arith)
    inserted-behind (suc p) (y ∷ ys) (suc i) h l = inserted-behind p ys i (omega arith) (omega arith)

  module _ (x v : A) where
    -- the same where an entry changes
    pub set_before : (p : ℕ) (ys : List A) (i : ℕ) → i < p → p ≤ length ys → set (inserted p x ys) i v ≡ inserted p x (set ys i v)
    set_before zero ys i h l = absurd (omega arith)
    set_before (suc p) [] i h l = absurd (omega arith)
    set_before (suc p) (y ∷ ys) zero h l = refl
    set_before (suc p) (y ∷ ys) (suc i) h l = ap (λ zs. y ∷ zs) (set_before p ys i (omega arith) (omega arith))

    pub set-behind : (p : ℕ) (ys : List A) (i : ℕ) → p ≤ i → p ≤ length ys → set (inserted p x ys) (suc i) v ≡ inserted p x (set ys i v)
    set-behind zero ys i h l = refl
    set-behind (suc p) [] i h l = absurd (omega arith)
    set-behind (suc p) (y ∷ ys) zero h l = absurd (omega arith)
    set-behind (suc p) (y ∷ ys) (suc i) h l = ap (λ zs. y ∷ zs) (set-behind p ys i (omega arith) (omega arith))
