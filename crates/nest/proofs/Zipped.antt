-- Loops that go over lists side by side: what a turn takes, and what is left behind it. Assumes nothing.
use mathlib.Core.Path.{◌≡◌, ◌∙◌, ap}
use mathlib.Core.List.{List, ◌∷◌}
use mathlib.Core.Logic.{⊎_elim}
use Prim.Native.Nat.{ℕ, ◌+◌, ◌<◌, ◌≤◌}
use native.Mathlib.Numerals.{add-one}
use native.Mathlib.Omega.{arith}
use lib.ListN.{length, get_or, drop, length-drop}
use lib.Seq.{drop-cons}
use Rattle.std.proofs.lemmas.List.{drop_all}
use Rattle.integers.proofs.Lists.{below_or_not}

module _ {A : Type 0} where
  -- element k of a list is x, and those behind it are the rest
  pub record Next (xs : List A) (k : ℕ) (x : A) (rest : List A) : Type 0 where
    pub below : k < length xs
    pub here : (d : A) → get_or xs k d ≡ x
    pub behind : rest ≡ drop (k + 1) xs

  -- what a turn takes
  pub next : (xs : List A) (k : ℕ) (x : A) (rest left : List A) → left ≡ drop k xs → left ≡ x ∷ rest → Next xs k x rest
  next xs k x rest left d e =
      ⊎_elim
      (λ (h : k < length xs). record {
        below = h;
        here = λ z. let c = drop-cons xs k z h in cc;
        behind = let c = drop-cons xs k x h in let o = ap (λ n. drop n xs) (add-one k) in cc;
      })
      (λ (h : length xs ≤ k). let c = drop_all k xs h in cc)
      (below_or_not k (length xs))

-- a list is at its end
pub ended : {A : Type 0} (xs : List A) (k : ℕ) (left : List A) → left ≡ drop k xs → length left ≡ 0 → length xs ≤ k
ended xs k left d z = omega (arith, ap length d ∙ length-drop k xs)
