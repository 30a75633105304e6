-- Serves the code's inner contracts alone: that P and three vectors are a basis, with the vectors
-- that give coordinates in it (Basis.antt), of the parts alone. The code's struct `Basis` says this
-- of its fields.
-- Assumes nothing.
use Rattle.std.specs.Prelude.{◌≡◌, List, [], ◌∷◌, map, ℕ, zero, suc, ◌≤◌, ℤ, pos, ◌+ℤ◌, ◌-ℤ◌, ◌*ℤ◌, ◌≤ℤ◌}
use Rattle.std.specs.Prelude.{length, get_or}
use Rattle.std.specs.Coded.{×_prop, Unit-prop, le_prop, Coded-set, coded_ℕ, coded_ℤ, coded_list}
use lib.Dec.{T_prop}
use Rattle.integers.specs.Vector.{Vector, dots, AllWithin}
use Rattle.grouping.specs.Limits.{max_component}
use Rattle.grouping.specs.Projection.{projection}
use Rattle.grouping.specs.Grouping.{Chain, independent_of}
use Rattle.numbering.specs.Limits.{components}

-- the determinant of three rows at three columns
abbrev pub minor : Vector → Vector → Vector → ℕ → ℕ → ℕ → ℤ
minor a b c i j k =
    get_or a i (pos 0) *ℤ (get_or b j (pos 0) *ℤ get_or c k (pos 0) -ℤ get_or b k (pos 0) *ℤ get_or c j (pos 0))
    -ℤ get_or a j (pos 0) *ℤ (get_or b i (pos 0) *ℤ get_or c k (pos 0) -ℤ get_or b k (pos 0) *ℤ get_or c i (pos 0))
    +ℤ get_or a k (pos 0) *ℤ (get_or b i (pos 0) *ℤ get_or c j (pos 0) -ℤ get_or b j (pos 0) *ℤ get_or c i (pos 0))

-- normal a b c · w is the determinant of the rows w, a, b, c
abbrev pub normal : Vector → Vector → Vector → Vector
normal a b c = minor a b c 1 2 3 ∷ minor a b c 2 0 3 ∷ minor a b c 0 1 3 ∷ minor a b c 1 0 2 ∷ []

module _ {A : Type 0} where
  -- the first `count` of three, latest first
  abbrev pub pick : ℕ → A → A → A → List A
  pick zero x y z = []
  pick (suc zero) x y z = x ∷ []
  pick (suc (suc zero)) x y z = y ∷ x ∷ []
  pick (suc (suc (suc n))) x y z = z ∷ y ∷ x ∷ []

-- a vector with components in span
abbrev pub Small : Vector → Type 0
Small v = AllWithin max_component v

-- the parts are those of a basis
pub record FramedBy (P : Vector) (count : ℕ) (v1 v2 v3 f1 f2 f3 : Vector) (d : ℤ) : Type 0 where
  pub time : pos 1 ≤ℤ dots P P
  pub few : count ≤ 3
  pub small : Small P × Small v1 × Small v2 × Small v3
  pub lengths : (length P ≡ components) × (length v1 ≡ components) × (length v2 ≡ components) × (length v3 ≡ components)
  pub first : f1 ≡ normal P v3 v2
  pub second : f2 ≡ normal P v1 v3
  pub third : f3 ≡ normal P v2 v1
  pub determinant : d ≡ dots f1 v1
  pub regular : d ≡ pos 0 → ⊥
  -- the projections of the chosen vectors are linearly independent
  pub independent : Chain (map (projection P) (pick count v1 v2 v3))

-- the same of the parts as the code holds them: three vectors, and the three that give coordinates
abbrev pub FramedIn : Vector → ℕ → List Vector → List Vector → ℤ → Type 0
FramedIn P count vs fs d =
    FramedBy P count (get_or vs 0 []) (get_or vs 1 []) (get_or vs 2 []) (get_or fs 0 []) (get_or fs 1 [])
    (get_or fs 2 []) d

-- ---- each of these facts has one proof at most, so the code's struct can keep it

pub AllWithin-prop : (A : ℕ) (v : Vector) → IsProp (AllWithin A v)
AllWithin-prop A [] = Unit-prop
AllWithin-prop A (z ∷ v) = ×_prop le_prop (AllWithin-prop A v)

Chain-prop : (vs : List Vector) → IsProp (Chain vs)
Chain-prop [] = Unit-prop
Chain-prop (v ∷ vs) = ×_prop (T_prop (independent_of vs v)) (Chain-prop vs)

pub FramedIn-prop :
    (P : Vector) (count : ℕ) (vs fs : List Vector) (d : ℤ) → IsProp (FramedIn P count vs fs d)
FramedIn-prop P count vs fs d =
    hlevel (AllWithin-prop, Chain-prop, T_prop, le_prop, Coded-set, coded_ℕ, coded_ℤ, coded_list)
