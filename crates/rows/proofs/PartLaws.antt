-- The part of a table that `row` answers: it has an entry for each iteration of the row where the call is allowed, and none where it is refused.
-- Assumes nothing.
use mathlib.Core.Path.{◌≡◌, refl, sym, ap, ◌∙◌}
use mathlib.Core.Bool.{false}
use mathlib.Core.Logic.{◌≢◌, ◌↔◌}
use mathlib.Core.List.{List, []}
use Prim.Native.Nat.{ℕ, ◌<◌}
use native.Mathlib.Omega.{arith}
use lib.IntN.{ℤ}
use lib.ListN.{length, take, drop, length-drop}
use lib.Seq.{length-take-le}
use Rattle.integers.proofs.Lists.{split}
use Rattle.nest.specs.declared.LoopNest.{LoopNest}
use Rattle.nest.specs.Points.{points_of}
use Rattle.nest.specs.Refusals.{refusal, outside, short_buffer, limit}
use Rattle.nest.proofs.Entries.{or_else-zero}
use Rattle.rows.specs.Rows.{Span}
use Rattle.rows.specs.Rows.{row_length, no_such_row, row_refusal, span_of, row_of}
use Rattle.rows.proofs.RowLaws.{row-some}
use Rattle.rows.proofs.SpanLaws.{refused_span, allowed_span, span_fits}

-- an index that is not refused is within the outermost limits
index-there : (s : LoopNest) (i : ℤ) → no_such_row s i ≡ 0 → outside (limit s 0).lower (limit s 0).upper i ≡ false
unfolding no_such_row
index-there s i e = split (outside (limit s 0).lower (limit s 0).upper i) (λ t. absurd (let n : no_such_row s i ≡ 19 = rw (t, no_such_row) refl in omega (arith, n, e))) (λ f. f)

module _ (s : LoopNest) (table : List ℕ) (i : ℤ) where
  -- the part is as long as its span
  part_length : length (row_of s table i) ≡ (span_of s (length table) i).length
  unfolding row_of
  part_length =
      let at = span_of s (length table) i in
      let d = length-drop at.start table in
      length-take-le at.length (drop at.start table) (omega (arith, d, span_fits s (length table) i))

  -- an allowed call's part has an entry for each iteration with that index
  pub allowed-length : row_refusal s (length table) i ≡ 0 → length (row_of s table i) ≡ row_length s i
  allowed-length e = part_length ∙ ap (λ (r : Span). r.length) (allowed_span s (length table) i e)

  -- and there is one
  allowed-some : row_refusal s (length table) i ≡ 0 → 0 < row_length s i
  unfolding row_refusal
  allowed-some e =
      let nest = or_else-zero (refusal s) _ e in
      let call = or_else-zero (short_buffer (length (points_of s)) (length table)) (no_such_row s i) nest.1 in
      row-some s nest.0 i (index-there s i call.1)

  -- a refused call's part has none
  refused-part : row_refusal s (length table) i ≢ 0 → row_of s table i ≡ []
  unfolding row_of
  refused-part h = ap (λ (r : Span). take r.length (drop r.start table)) (refused_span s (length table) i (row_refusal s (length table) i) refl h)

  -- of what `row` promises: the part is empty exactly if the number stored is not 0
  pub empty_iff : (part : List ℕ) (number : ℕ) → part ≡ row_of s table i → number ≡ row_refusal s (length table) i → (part ≡ []) ↔ (number ≢ 0)
  empty_iff part number p q = (
    λ e z.
        let e₀ : length (row_of s table i) ≡ 0 = ap length (sym p ∙ e) in
        let a = allowed-length (sym q ∙ z) in
        let b = allowed-some (sym q ∙ z) in
        omega arith,
    λ h. p ∙ refused-part (λ z. h (q ∙ z)),
  )
