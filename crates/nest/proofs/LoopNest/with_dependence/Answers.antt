-- `LoopNest::with_dependence` meets its contract. Assumes nothing.
use mathlib.Core.Path.{◌≡◌, refl}
use mathlib.Core.Logic.{◌⊎◌, inl, inr, ⊎_elim}
use mathlib.Core.List.{List}
use Prim.Native.Nat.{ℕ, ◌+◌, ◌*◌, ◌<◌, ◌≤◌}
use lib.IntN.{ℤ}
use lib.Dec.{ltb}
use Rattle.integers.proofs.Lists.{split}
use native.Mathlib.Omega.{arith}
use lib.ListN.{set}
use borrow.Author.Tests.{lt-ltb, le-ltb}
use mir.Facts.{to_z-of_z}
use Rattle.nest.specs.Nest.{with_component, max_depth, max_dependences}
use Rattle.nest.proofs.LoopNest.with_dependence.Goals as goal
use Rattle.nest.proofs.LoopNest.with_dependence.Goals.{Then-k-lt-MAX_DEPTH}

-- a component at a place that is there
component-set : (xs : List ℤ) (i k : ℕ) (z : ℤ) → i < max_dependences → k < max_depth → with_component xs i k z ≡ set xs (i * max_depth + k) z
unfolding with_component
component-set xs i k z p q = rw (with_component, lt-ltb i max_dependences p, lt-ltb k max_depth q) refl

-- and at one that is not
component-none : (xs : List ℤ) (i k : ℕ) (z : ℤ) → (max_dependences ≤ i) ⊎ (max_depth ≤ k) → with_component xs i k z ≡ xs
unfolding with_component
component-none xs i k z (inl p) = rw (with_component, le-ltb i max_dependences p) refl
component-none xs i k z (inr q) = split (ltb i max_dependences) (λ t. rw (with_component, t, le-ltb k max_depth q) refl) (λ e. rw (with_component, e) refl)

-- the test on k
k-low : (c : Then-k-lt-MAX_DEPTH) → c.args.k < max_depth
k-low c = let t = c.if-k-lt-MAX_DEPTH.true in omega arith

pub returns-then-k-lt-MAX_DEPTH : goal.returns-then-k-lt-MAX_DEPTH
returns-then-k-lt-MAX_DEPTH c =
    let a = c.args in
    let e : with_component a.self.dependences a.i a.k a.component ≡ set a.self.dependences (a.i * max_depth + a.k) a.component
    = component-set a.self.dependences a.i a.k a.component (omega arith) (k-low c) in
    rw (e, to_z-of_z c.ranges.component) refl

pub returns-else-i-lt-MAX_DEPENDENCES : goal.returns-else-i-lt-MAX_DEPENDENCES
returns-else-i-lt-MAX_DEPENDENCES c =
    let a = c.args in
    let e : with_component a.self.dependences a.i a.k a.component ≡ a.self.dependences
    = component-none a.self.dependences a.i a.k a.component (⊎_elim (λ w. inr w.1) (λ w. inl w) c.else-i-lt-MAX_DEPENDENCES.either) in
    rw e refl
