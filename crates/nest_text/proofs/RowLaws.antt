-- The widths of the lines behind line 1, and the part of the nest that each line fills.
-- Assumes nothing.
use mathlib.Core.Path.{◌≡◌, refl, sym, ap, ◌∙◌}
use mathlib.Core.List.{List, [], ◌∷◌, ◌++◌}
use Prim.Native.Nat.{ℕ, zero, suc, ◌+◌, ◌-◌, ◌≤◌, ◌<◌}
use native.Mathlib.Omega.{arith}
use borrow.Author.Tests.{lt-ltb, le-ltb, eq-eqb, ne_eqb, le-leb, lt-leb}
use lib.IntN.{ℤ}
use lib.ListN.{length, get_or, replicate, length-replicate, get_or-replicate, get_or-append}
use lib.Seq.{get_or-append-add}
use Rattle.nest.specs.declared.LoopNest.{LoopNest}
use Rattle.nest_text.specs.Text.{limit_width, widths}
use Rattle.nest_text.specs.Reader.{with_limit_line, with_time_line, with_dependence_line, with_last_line, with_line}

-- ---- widths

module _ {A : Type 0} where
  -- a place behind the first list
  get_or-behind : (xs ys : List A) (k j : ℕ) (d : A) → length xs ≡ k → get_or (xs ++ ys) (k + j) d ≡ get_or ys j d
  get_or-behind xs ys k j d e = ap (λ (n : ℕ). get_or (xs ++ ys) (n + j) d) (sym e) ∙ get_or-append-add xs ys j d

module _ (n m k : ℕ) where
  -- a line of limits
  pub width-limit : (i : ℕ) → i < n → get_or (widths n m k) i 0 ≡ limit_width
  unfolding widths
  width-limit i h = get_or-append (replicate n limit_width) (n ∷ (replicate m n ++ (k ∷ []))) 0 i (rw length-replicate h) ∙ get_or-replicate n i limit_width 0 h

  -- the time vector and the dependences
  pub width-vector : (j : ℕ) → j ≤ m → get_or (widths n m k) (n + j) 0 ≡ n
  unfolding widths
  width-vector zero h = get_or-behind (replicate n limit_width) (n ∷ (replicate m n ++ (k ∷ []))) n 0 0 (length-replicate n limit_width)
  width-vector (suc j) h =
      get_or-behind (replicate n limit_width) (n ∷ (replicate m n ++ (k ∷ []))) n (suc j) 0 (length-replicate n limit_width)
      ∙ (get_or-append (replicate m n) (k ∷ []) 0 j (rw length-replicate (omega arith)) ∙ get_or-replicate m j n 0 (omega arith))

  -- the boundary values and the weights
  pub width-last : get_or (widths n m k) (n + suc m) 0 ≡ k
  unfolding widths
  width-last =
      get_or-behind (replicate n limit_width) (n ∷ (replicate m n ++ (k ∷ []))) n (suc m) 0 (length-replicate n limit_width)
      ∙ (ap (λ (j : ℕ). get_or (replicate m n ++ (k ∷ [])) j 0) (add-zero m) ∙ get_or-behind (replicate m n) (k ∷ []) m 0 0 (length-replicate m n))
    where
      add-zero : (j : ℕ) → j ≡ j + 0
      add-zero j = omega arith

-- ---- what line i is

module _ (n m k i : ℕ) (s : LoopNest) (row : List ℤ) where
  -- the limits of a loop
  pub limits-line : i < n → with_limit_line s i row ≡ with_line n m k s i row
  unfolding with_line
  limits-line h = rw (lt-ltb i n h, with_line) refl

  -- the time vector
  pub time-line : i ≡ n → with_time_line s row ≡ with_line n m k s i row
  unfolding with_line
  time-line h = rw (le-ltb i n (omega arith), eq-eqb i n h, with_line) refl

  -- a dependence
  pub dependence-line : n < i → i ≤ n + m → with_dependence_line s (i - (n + 1)) row ≡ with_line n m k s i row
  unfolding with_line
  dependence-line h l = rw (le-ltb i n (omega arith), ne_eqb i n (λ e. absurd (omega arith)), le-leb i (n + m) l, with_line) refl

  -- the boundary values and the weights
  pub last_line : n + m < i → with_last_line m k s row ≡ with_line n m k s i row
  unfolding with_line
  last_line h = rw (le-ltb i n (omega arith), ne_eqb i n (λ e. absurd (omega arith)), lt-leb i (n + m) h, with_line) refl
