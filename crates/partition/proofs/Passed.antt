-- A table that a loop has passed through. Assumes nothing.
use mathlib.Core.Path.{◌≡◌, refl, sym, ap, ap₂, ◌∙◌}
use mathlib.Core.List.{List, [], ◌∷◌, ◌++◌, map, append-nil}
use Prim.Native.Nat.{ℕ, suc, ◌<◌}
use native.Mathlib.Omega.{arith}
use lib.ListN.{length, get_or, take, drop}
use lib.Seq.{drop-length, take_at}
use Rattle.integers.specs.Lists.{tab}
use Rattle.integers.proofs.Lists.{length-tab}
use Rattle.numbering.proofs.Filled.{filled_to}

-- two functions that agree on a list's entries
pub map_same : {A B : Type 0} (d : A) (f g : A → B) (zs : List A) → ((i : ℕ) → i < length zs → f (get_or zs i d) ≡ g (get_or zs i d)) → map f zs ≡ map g zs
map_same d f g [] h = refl
map_same d f g (z ∷ zs) h = ap₂ ◌∷◌ (h 0 (omega arith)) (map_same d f g zs (λ i l. h (suc i) (omega arith)))

-- ---- a table that was filled from the front

pub filled-all : {A : Type 0} (f : ℕ → A) (old now : List A) (i m : ℕ) → now ≡ filled_to f old i → length old ≡ m → i ≡ m → now ≡ tab f m
filled-all {A} f old now i m e l q =
    e ∙ ap (filled_to f old) q ∙ ap (λ (u : List A). tab f m ++ u) (ap (λ k. drop k old) (sym l) ∙ drop-length old) ∙ append-nil (tab f m)

-- as the front of a longer one
pub filled-front : {A : Type 0} (f : ℕ → A) (old now rest : List A) (i m : ℕ) → now ≡ filled_to f old i → length old ≡ m → i ≡ m → take m (now ++ rest) ≡ tab f m
filled-front {A} f old now rest i m e l q = ap (λ (u : List A). take m (u ++ rest)) (filled-all f old now i m e l q) ∙ take_at (tab f m) rest m (length-tab f m)
