-- What `list` leaves in a buffer with room for the longest listing, and what is printed of it. Assumes nothing.
use mathlib.Core.Path.{◌≡◌, refl, sym, ap, subst, ◌∙◌}
use mathlib.Core.List.{[], ◌∷◌, ◌++◌}
use Prim.Native.Nat.{ℕ, ◌≤◌}
use native.Mathlib.Nat.{zero-add}
use native.Mathlib.Omega.{arith}
use borrow.Author.Tests.{eq-eqb, ne_eqb, eqb-true, eqb-false}
use lib.Dec.{eqb}
use lib.IntN.{pos}
use lib.ListN.{length, drop}
use lib.Seq.{sets-eq, length-take-le}
use Rattle.std.specs.Counts.{IsPrefixLen}
use Rattle.integers.proofs.Lists.{split}
use Rattle.nest.specs.Refusals.{short_buffer}
use Rattle.nest.proofs.PointLaws.{few-points}
use Rattle.nest.proofs.Entries.{or_else-first}
use Rattle.nest_text.specs.Answered.{Writing}
use Rattle.nest_text.specs.Fields.{Bytes}
use Rattle.nest_text.specs.Stored.{Stored}
use Rattle.nest_text.specs.Text.{line, read_refusal, read_nest, write_refusal}
use Rattle.nest_text.proofs.RoundTrip.{written_read}
use Rattle.nest_text.proofs.WriteAnswers.{put_number, put_nothing, put_length, put_bytes, put_room}
use Rattle.nest_text.proofs.WriteLaws.{stored_as, stored-length}
use Rattle.planner.specs.Listing.{plan_text, listing, Lists}
use Rattle.planner.proofs.Sizes.{plan-length}

-- ---- what is printed for an accepted text, and for a refused one
listing-plan : (text : Bytes) → read_refusal text ≡ 0 → listing text ≡ plan_text (read_nest text)
unfolding listing
listing-plan text e = rw (listing, eq-eqb (read_refusal text) 0 e) refl

listing-number : (text : Bytes) → (read_refusal text ≡ 0 → ⊥) → listing text ≡ line (pos (read_refusal text) ∷ [])
unfolding listing
listing-number text h = rw (listing, ne_eqb (read_refusal text) 0 h) refl

-- the longest listing
plan-most : (text : Bytes) → read_refusal text ≡ 0 → length (plan_text (read_nest text)) ≤ 127007
plan-most text e =
    let ok = (written_read text e).accepted in
    omega (arith, plan-length (read_nest text) ok, few-points (read_nest text) ok)

-- no more bytes than there are
within : (bs : Bytes) (n : ℕ) → n ≤ length bs → IsPrefixLen n bs
within bs n h = (h, sym (length-take-le n bs h))

-- ---- the call of `list`
module _ (text old : Bytes) (room : 127007 ≤ length old) (r : Writing) (new : Bytes) (w : Lists text old r new) where
  abbrev bytes : Bytes
  bytes = plan_text (read_nest text)

  -- the number of a text that is refused; the buffer has room for the plan of any other
  own_number : r.refusal ≡ read_refusal text
  own_number =
      put_number (read_refusal text) bytes old r new w
      ∙ split (eqb (read_refusal text) 0) (λ q. put_room (read_refusal text) bytes old (omega (arith, plan-most text (eqb-true (read_refusal text) 0 q))))
      (λ q. unfold write_refusal in or_else-first (read_refusal text) (short_buffer (length bytes) (length old)) (eqb-false (read_refusal text) 0 q))

  -- nothing is written where it is refused
  untouched : (r.refusal ≡ 0 → ⊥) → new ≡ old
  untouched h = (put_nothing (read_refusal text) bytes old r new w (λ z. h (put_number (read_refusal text) bytes old r new w ∙ z))).1

  -- a refused text: the line of its number, at the buffer's start
  pub number-printed : {last : Bytes} {end : ℕ} → (r.refusal ≡ 0 → ⊥) → Stored new 0 (line (pos r.refusal ∷ [])) last end → Stored old 0 (listing text) last end
  number-printed {last} {end} h S =
      stored_as (ap (λ k. line (pos k ∷ [])) own_number ∙ sym (listing-number text (λ z. h (own_number ∙ z)))) (subst (λ (b : Bytes). Stored b 0 (line (pos r.refusal ∷ [])) last end) (untouched h) S)

  -- an accepted one: its plan
  pub plan-printed : r.refusal ≡ 0 → Stored old 0 (listing text) new r.length
  plan-printed z =
      let e : read_refusal text ≡ 0 = sym own_number ∙ z in
      let none = sym (put_number (read_refusal text) bytes old r new w) ∙ z in
      let m = plan-most text e in
      stored_as (sym (listing-plan text e)) (record {
        bytes = put_bytes (read_refusal text) bytes old r new w none ∙ ap (λ k. bytes ++ drop k old) (sym (zero-add (length bytes))) ∙ sym (sets-eq bytes old 0 (omega arith));
        ends = put_length (read_refusal text) bytes old r new w none ∙ sym (zero-add (length bytes));
      })

  -- the bytes that are printed lie within the buffer
  pub plan-within : r.refusal ≡ 0 → IsPrefixLen r.length new
  plan-within z =
      let e : read_refusal text ≡ 0 = sym own_number ∙ z in
      let S = plan-printed z in
      within new r.length (omega (arith, S.ends, stored-length S, ap length (listing-plan text e), plan-most text e))
