-- The answer of `locate` for each way in which it ends, and that a row ends within the table.
-- Assumes nothing.
use mathlib.Core.Path.{◌≡◌, refl, sym, ap, ◌∙◌}
use mathlib.Core.Bool.{true, false}
use mathlib.Core.Logic.{⊎_elim}
use Prim.Native.Nat.{ℕ, ◌+◌, ◌≤◌, ◌<◌}
use native.Mathlib.Omega.{arith}
use borrow.Author.Tests.{eq-eqb, ne_eqb, eqb-true, eqb-false}
use lib.Dec.{eqb}
use lib.IntN.{ℤ}
use lib.ListN.{length}
use Rattle.integers.proofs.Lists.{split, below_or_not}
use Rattle.nest.specs.declared.LoopNest.{LoopNest}
use Rattle.nest.specs.Points.{points_of}
use Rattle.nest.specs.Refusals.{refusal, outside, or_else, short_buffer, limit}
use Rattle.nest.proofs.Entries.{or_else-first, or_else-second, long_enough, too_short}
use Rattle.std.specs.Prelude.{List, [], Result}
use Rattle.std.specs.Borrow.{Bor}
use Rattle.std.specs.Result.{IsErrAnd}
use Rattle.std.proofs.lemmas.Result.{err_from_is_err_and}
use Rattle.nest.specs.declared.refusals.Refusal.{Refusal}
use Rattle.nest.specs.Outcomes.{code}
use Rattle.rows.specs.declared.RowSpan.{RowSpan}
use Rattle.rows.specs.Answered.{span_in, part_in}
use Rattle.rows.specs.Rows.{Span}
use Rattle.rows.specs.Rows.{row_start, row_length, no_such_row, row_refusal, span_of}
use Rattle.rows.proofs.RowLaws.{row_fits}

-- the refusal that a `?` hands on
pub span_out : (r : Result RowSpan Refusal) (e : Refusal) → IsErrAnd r (λ y. y ≡ e) → span_in r ≡ record { refusal = code e; start = 0; length = 0 }
span_out r e h = let p = err_from_is_err_and r h in rw (p.1, p.2) refl

pub part_out : (r : Result (Bor (List ℕ)) Refusal) (e : Refusal) → IsErrAnd r (λ y. y ≡ e) → part_in r ≡ []
part_out r e h = let p = err_from_is_err_and r h in rw p.1 refl

module _ (s : LoopNest) (entries : ℕ) (i : ℤ) where
  -- a refused call
  pub refused_span : (k : ℕ) → row_refusal s entries i ≡ k → (k ≡ 0 → ⊥) → span_of s entries i ≡ record { refusal = k; start = 0; length = 0 }
  unfolding span_of
  refused_span k e h =
      rw (ne_eqb (row_refusal s entries i) 0 (λ z. h (sym e ∙ z)), span_of) (ap (λ n. let r : Span = record { refusal = n; start = 0; length = 0 } in r) e)

  -- an allowed one
  pub allowed_span : row_refusal s entries i ≡ 0 → span_of s entries i ≡ record { refusal = 0; start = row_start s i; length = row_length s i }
  unfolding span_of
  allowed_span e = rw (eq-eqb (row_refusal s entries i) 0 e, span_of) refl

  -- its number
  pub span_refusal : (span_of s entries i).refusal ≡ row_refusal s entries i
  span_refusal =
      split (eqb (row_refusal s entries i) 0) (λ t. let e = eqb-true (row_refusal s entries i) 0 t in ap (λ (r : Span). r.refusal) (allowed_span e) ∙ sym e)
      (λ f. ap (λ (r : Span). r.refusal) (refused_span (row_refusal s entries i) refl (eqb-false (row_refusal s entries i) 0 f)))

  -- ---- the ways out of `locate`
  pub bad_nest : (refusal s ≡ 0 → ⊥) → span_of s entries i ≡ record { refusal = refusal s; start = 0; length = 0 }
  bad_nest h = refused_span (refusal s) (unfold row_refusal in or_else-first (refusal s) _ h) h

  module _ (ok : refusal s ≡ 0) where
    behind : row_refusal s entries i ≡ or_else (short_buffer (length (points_of s)) entries) (no_such_row s i)
    behind = unfold row_refusal in or_else-second (refusal s) (or_else (short_buffer (length (points_of s)) entries) (no_such_row s i)) ok

    pub short_table : entries < length (points_of s) → span_of s entries i ≡ record { refusal = 14; start = 0; length = 0 }
    short_table h =
        let e = too_short (length (points_of s)) entries h in
        refused_span 14 (behind ∙ or_else-first (short_buffer (length (points_of s)) entries) (no_such_row s i) (λ z. absurd (omega arith)) ∙ e) (λ z. absurd (omega arith))

    module _ (room : length (points_of s) ≤ entries) where
      last : row_refusal s entries i ≡ no_such_row s i
      last = behind ∙ or_else-second (short_buffer (length (points_of s)) entries) (no_such_row s i) (long_enough (length (points_of s)) entries room)

      pub no_row : outside (limit s 0).lower (limit s 0).upper i ≡ true → span_of s entries i ≡ record { refusal = 19; start = 0; length = 0 }
      no_row t = refused_span 19 (last ∙ (unfold no_such_row in (rw (t, no_such_row) refl))) (λ z. absurd (omega arith))

      pub found_row : outside (limit s 0).lower (limit s 0).upper i ≡ false → span_of s entries i ≡ record { refusal = 0; start = row_start s i; length = row_length s i }
      found_row f = allowed_span (last ∙ (unfold no_such_row in (rw (f, no_such_row) refl)))

  -- the row ends within the table
  pub span_fits : (span_of s entries i).start + (span_of s entries i).length ≤ entries
  span_fits = split (eqb (refusal s) 0) (λ t. accepted (eqb-true (refusal s) 0 t)) (λ f. none (refusal s) (bad_nest (eqb-false (refusal s) 0 f)))
    where
      none : (k : ℕ) → span_of s entries i ≡ record { refusal = k; start = 0; length = 0 } → (span_of s entries i).start + (span_of s entries i).length ≤ entries
      none k e = let a = ap (λ (r : Span). r.start) e in let b = ap (λ (r : Span). r.length) e in omega arith

      accepted : refusal s ≡ 0 → (span_of s entries i).start + (span_of s entries i).length ≤ entries
      accepted ok = ⊎_elim (λ h. none 14 (short_table ok h)) (λ h. roomy h) (below_or_not entries (length (points_of s)))
        where
          roomy : length (points_of s) ≤ entries → (span_of s entries i).start + (span_of s entries i).length ≤ entries
          roomy h =
              split (outside (limit s 0).lower (limit s 0).upper i) (λ t. none 19 (no_row ok h t))
              (λ f. let e = found_row ok h f in let a = ap (λ (r : Span). r.start) e in let b = ap (λ (r : Span). r.length) e in omega (arith, row_fits s ok i f))
