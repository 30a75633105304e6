-- Serves the contracts of inner functions alone: what a function that writes bytes into a lent
-- buffer leaves there, and which numbers it may be given.
-- Assumes nothing.
use Rattle.std.specs.Prelude.{◌≡◌, true, List, ℕ, ◌+◌, ◌<◌, ℤ, pos, length, get_or}
use Rattle.std.proofs.lemmas.List.Edits.{sets}
use Rattle.nest_text.specs.Fields.{Bytes, least_number, greatest_number, within}

-- the bytes bs stand from place `at` on, every other byte is as it was, and `end` is the place
-- behind them
pub record Stored (old : Bytes) (at : ℕ) (bs : Bytes) (new : Bytes) (end : ℕ) : Type 0 where
  pub bytes : new ≡ sets old at bs
  pub ends : end ≡ at + length bs

-- a number that six columns hold
abbrev pub InColumns : ℤ → Type 0
InColumns z = within least_number greatest_number z ≡ true

-- k numbers from place `from` on, each of which six columns hold
abbrev pub EachInColumns : List ℤ → ℕ → ℕ → Type 0
EachInColumns xs from k = (i : ℕ) → i < k → InColumns (get_or xs (from + i) (pos 0))
