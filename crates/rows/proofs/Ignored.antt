-- Places of the struct that are no part of a nest change nothing that `locate` and `row` answer.
-- Assumes nothing.
use mathlib.Core.Path.{◌≡◌, sym, ap, ◌∙◌}
use mathlib.Core.Bool.{true, false}
use Prim.Native.Nat.{ℕ}
use borrow.Author.Tests.{eqb-true, eqb-false}
use lib.Dec.{eqb}
use lib.IntN.{ℤ}
use lib.ListN.{length, get_or}
use lib.Signed.{lt_z}
use Rattle.integers.specs.Lists.{count}
use Rattle.integers.proofs.Lists.{split}
use Rattle.integers.specs.Vector.{eq_z}
use Rattle.nest.specs.declared.LoopNest.{LoopNest}
use Rattle.nest.specs.Nest.{cleared}
use Rattle.nest.specs.Refusals.{refusal, outside, or_else, short_buffer, limit}
use Rattle.nest.proofs.Places.{cleared-refusal, accepted-same, same_points}
use Rattle.rows.specs.Rows.{Span}
use Rattle.rows.specs.Rows.{outermost, row_start, row_length, no_such_row, row_refusal, span_of}
use Rattle.rows.proofs.RowLaws.{outer}
use Rattle.rows.proofs.SpanLaws.{bad_nest}

module _ (s : LoopNest) (entries : ℕ) (i : ℤ) where
  -- of an accepted nest: the same index points and outermost limits
  accepted_span : refusal s ≡ 0 → span_of (cleared s) entries i ≡ span_of s entries i
  unfolding span_of row_refusal no_such_row row_start row_length
  accepted_span ok =
      let p = accepted-same s ok in
      let limits : limit (cleared s) 0 ≡ limit s 0 = ap (λ ls. get_or ls 0 (limit s 0)) (sym (outer (cleared s) (cleared-refusal s ∙ ok)).all ∙ p.limits ∙ (outer s ok).all) in
      λ x.
      let ps = same_points p x in
      let number = or_else (cleared-refusal s x) (or_else (short_buffer (length ps) entries) (elim (outside (limits x).lower (limits x).upper i) [ true ↦ 19 | false ↦ 0 ])) in
      elim (eqb number 0) [
        | true ↦ record { refusal = 0; start = count (λ j. lt_z (outermost j) i) ps; length = count (λ j. eq_z (outermost j) i) ps }
        | false ↦ record { refusal = number; start = 0; length = 0 }
      ]

  -- and of a refused one: the same number
  pub span_ignored : span_of (cleared s) entries i ≡ span_of s entries i
  span_ignored =
      split (eqb (refusal s) 0) (λ t. accepted_span (eqb-true (refusal s) 0 t))
      (λ f.
      let h = eqb-false (refusal s) 0 f in
      bad_nest (cleared s) entries i (λ z. h (sym (cleared-refusal s) ∙ z))
      ∙ ap (λ k. let r : Span = record { refusal = k; start = 0; length = 0 } in r) (cleared-refusal s)
      ∙ sym (bad_nest s entries i h))
