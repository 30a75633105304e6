-- `above_digit` meets its contract: the shift divides by the base and rounds down. Assumes nothing.
use mathlib.Core.Path.{ap, ◌∙◌}
use mathlib.Core.List.{List, [], ◌∷◌}
use Prim.Native.Nat.{ℕ, ◌^◌}
use lib.IntN.{ℤ, pos}
use lib.Signed.{shr_z}
use Rattle.integers.proofs.Machine.{reads, Within, read}
use Rattle.integers.proofs.Solver.{var, con, ◌⊕◌}
use Rattle.sources.specs.Keys.{half, max_key, above}
use Rattle.sources.proofs.Digits.{shifted, above-small}
use Rattle.sources.proofs.above_digit.Goals as goal
use Rattle.sources.proofs.above_digit.Goals.{Start}

abbrev ρ : Start → List ℤ
ρ c = c.args.key ∷ []

abbrev β : List ℕ
β = max_key ∷ []

within : (c : Start) → Within (ρ c) β
within c = (c.requires, tt)

pub returns : goal.returns
returns c =
    let x = c.args.key in
    ap (λ (z : ℤ). reads (shr_z z (2 ^ 12))) (read (ρ c) β (var 0 ⊕ con (pos half)) (within c) tt)
    ∙ ap reads (shifted x)
    ∙ read (above x ∷ []) β (var 0) (above-small x c.requires, tt) tt
