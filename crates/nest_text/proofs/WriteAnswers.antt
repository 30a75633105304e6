-- The ways out of a call that writes bytes into a lent buffer (refused before it looks at the
-- buffer, a short buffer, the bytes written), and what it leaves.
-- Assumes nothing.
use mathlib.Core.Path.{◌≡◌, refl, sym, ap, ap₂, subst, ◌∙◌}
use mathlib.Core.Bool.{true, false}
use mathlib.Core.List.{◌++◌}
use Prim.Native.Nat.{ℕ, zero, suc, ◌+◌, ◌≤◌, ◌<◌}
use native.Mathlib.Omega.{arith}
use borrow.Author.Tests.{eq-eqb, ne_eqb}
use lib.ListN.{length, drop}
use lib.Seq.{sets, sets-eq}
use Rattle.nest.specs.Refusals.{or_else, short_buffer}
use Rattle.nest.proofs.Entries.{or_else-first, or_else-second, or_else-zero, long_enough, too_short, same-table}
use Rattle.nest.proofs.Entries.{made_table}
use Rattle.std.proofs.Common.{Result}
use Rattle.std.specs.Result.{IsErrAnd}
use Rattle.nest.specs.declared.refusals.Refusal.{Refusal}
use Rattle.nest.specs.Outcomes.{code}
use Rattle.nest.proofs.Outcomes.{code-above, number_out, value_out}
use Rattle.nest_text.specs.Answered.{Writing, writing_of}
use Rattle.nest_text.specs.Fields.{Bytes}
use Rattle.nest_text.specs.Text.{write_refusal, written_length, written, Puts}

module _ (number : ℕ) (bytes old : Bytes) where
  -- a refusal leaves the buffer as it was
  refused : (k : ℕ) → k ≡ write_refusal number bytes (length old) → (k ≡ 0 → ⊥) → Puts number bytes old (record { refusal = k; length = 0 }) old
  unfolding written_length written
  refused k e h =
      let f = ne_eqb (write_refusal number bytes (length old)) 0 (λ z. h (e ∙ z)) in (
        ap₂ (λ (a b : ℕ). let r : Writing = record { refusal = a; length = b } in r) e (sym (ap (λ b. elim b as (λ _. ℕ) [ true ↦ length bytes | false ↦ 0 ]) f)),
        sym (same-table (write_refusal number bytes (length old)) bytes old (λ z. h (e ∙ z))),
      )

  -- refused with the call's own number
  pub refused-first : (k : ℕ) → k ≡ number → (k ≡ 0 → ⊥) → Puts number bytes old (record { refusal = k; length = 0 }) old
  unfolding write_refusal
  refused-first k e h = refused k (e ∙ sym (or_else-first number (short_buffer (length bytes) (length old)) (λ z. h (e ∙ z)))) h

  -- the same where a `?` hands the refusal on
  pub refused_out : (r : Result ℕ Refusal) (e : Refusal) → IsErrAnd r (λ y. y ≡ e) → code e ≡ number → Puts number bytes old (writing_of r) old
  refused_out r e h k =
      let w : writing_of r ≡ record { refusal = code e; length = 0 } =
      ap₂ (λ (a b : ℕ). let x : Writing = record { refusal = a; length = b } in x) (number_out r e h) (value_out r e h 0) in
      subst (λ (x : Writing). Puts number bytes old x old) (sym w) (refused-first (code e) k (λ z. absurd (omega (arith, code-above e, z))))

  module _ (e : number ≡ 0) where
    -- the second, where there is none
    second-answer : write_refusal number bytes (length old) ≡ short_buffer (length bytes) (length old)
    unfolding write_refusal
    second-answer = or_else-second number (short_buffer (length bytes) (length old)) e

    -- 14
    pub refused_short : length old < length bytes → Puts number bytes old (record { refusal = 14; length = 0 }) old
    refused_short h = refused 14 (sym (second-answer ∙ too_short (length bytes) (length old) h)) (λ z. absurd (omega arith))

    -- the bytes, and behind them what stood there
    pub bytes-written : (n : ℕ) (new : Bytes) → n ≡ length bytes → length bytes ≤ length old → new ≡ sets old 0 bytes → Puts number bytes old (record { refusal = 0; length = n }) new
    unfolding written_length written
    bytes-written n new p h q =
        let room : 0 + length bytes ≤ length old = omega arith in
        let none : write_refusal number bytes (length old) ≡ 0 = second-answer ∙ long_enough (length bytes) (length old) h in
        let t = eq-eqb (write_refusal number bytes (length old)) 0 none in
        let start : 0 + length bytes ≡ length bytes = omega arith in (
          ap₂ (λ (a b : ℕ). let r : Writing = record { refusal = a; length = b } in r) (sym none) (p ∙ sym (ap (λ b. elim b as (λ _. ℕ) [ true ↦ length bytes | false ↦ 0 ]) t)),
          q ∙ sets-eq bytes old 0 room ∙ ap (λ k. bytes ++ drop k old) start ∙ sym (made_table (write_refusal number bytes (length old)) (length bytes) bytes old none refl),
        )

  -- ---- what such a call leaves, by its number
  module _ (r : Writing) (new : Bytes) (W : Puts number bytes old r new) where
    -- the number in its answer
    pub put_number : r.refusal ≡ write_refusal number bytes (length old)
    put_number = ap (λ (x : Writing). x.refusal) W.0

    -- refused, it wrote nothing
    pub put_nothing : (write_refusal number bytes (length old) ≡ 0 → ⊥) → (r.length ≡ 0) × (new ≡ old)
    unfolding written_length written
    put_nothing h = (
      ap (λ (x : Writing). x.length) W.0 ∙ ap (λ b. elim b as (λ _. ℕ) [ true ↦ length bytes | false ↦ 0 ]) (ne_eqb (write_refusal number bytes (length old)) 0 h),
      W.1 ∙ same-table (write_refusal number bytes (length old)) bytes old h,
    )

    module _ (z : write_refusal number bytes (length old) ≡ 0) where
      -- done, it answers how many bytes it wrote
      pub put_length : r.length ≡ length bytes
      unfolding written_length
      put_length = ap (λ (x : Writing). x.length) W.0 ∙ ap (λ b. elim b as (λ _. ℕ) [ true ↦ length bytes | false ↦ 0 ]) (eq-eqb (write_refusal number bytes (length old)) 0 z)

      -- and they stand in front of what stood behind them
      pub put_bytes : new ≡ bytes ++ drop (length bytes) old
      unfolding written
      put_bytes = W.1 ∙ made_table (write_refusal number bytes (length old)) (length bytes) bytes old z refl

  -- it has no number of its own only where the call has none
  pub put_first : write_refusal number bytes (length old) ≡ 0 → number ≡ 0
  unfolding write_refusal
  put_first z = (or_else-zero number (short_buffer (length bytes) (length old)) z).0

  -- in a buffer that has room it is the call's own
  pub put_room : length bytes ≤ length old → write_refusal number bytes (length old) ≡ number
  unfolding write_refusal
  put_room h = by number refl
    where
      by : (k : ℕ) → number ≡ k → or_else number (short_buffer (length bytes) (length old)) ≡ number
      by zero e = or_else-second number (short_buffer (length bytes) (length old)) e ∙ long_enough (length bytes) (length old) h ∙ sym e
      by (suc k) e = or_else-first number (short_buffer (length bytes) (length old)) (λ z. absurd (omega (arith, e)))
