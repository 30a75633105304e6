-- `signed` reads an optional minus and digits.
use mathlib.Core.Path.{◌≡◌, refl, ap, ◌∙◌}
use Prim.Native.Nat.{ℕ, ◌-◌, ◌<◌, ◌^◌}
use native.Mathlib.Nat.{lt_of_le_of_lt}
use native.Mathlib.Omega.{arith}
use borrow.Author.Rules.{rules}
use borrow.Author.Tests.{eq-eqb, ne_eqb}
use lib.IntN.{pos, neg_ℤ, ◌-ℤ◌}
use lib.Signed.{mag}
use lib.ListN.{length, take, drop, get_or}
use mir.Syntax.{w64}
use mir.Val.{to_z, of_z}
use Rattle.std.proofs.Common.{Option, Some, None}
use Rattle.integers.proofs.Bounds.{told}
use Rattle.nest_text.specs.Fields.{Bytes, minus, negative, plain, signed_of, digits_of}
use Rattle.nest_text.proofs.FieldLaws.{tail-part, minus_is, mag_negpos, back}
use Rattle.nest_text.proofs.fields.signed.Goals as goal

-- behind a minus: what the digits say
module _ (bs : Bytes) (first : get_or bs 0 0 ≡ minus) (r : Option ℕ) (read : r ≡ digits_of (take (length bs - 1) (drop 1 bs))) where
  behind_minus : negative r ≡ signed_of bs
  unfolding signed_of
  behind_minus = rw (eq-eqb (get_or bs 0 0) minus first, ← tail-part bs, ← read) refl

-- minus zero is no number, and any other is
minus_zero : (n : ℕ) → n ≡ 0 → None ≡ negative (Some n)
minus_zero n h = rw (eq-eqb n 0 h) refl

minus_more : (n : ℕ) → (n ≡ 0 → ⊥) → Some (neg_ℤ (pos n)) ≡ negative (Some n)
minus_more n h = rw (ne_eqb n 0 h) refl

-- with no minus before them
without_minus : (bs : Bytes) → (get_or bs 0 0 ≡ minus → ⊥) → plain (digits_of bs) ≡ signed_of bs
unfolding signed_of
without_minus bs h = rw (ne_eqb (get_or bs 0 0) minus h) refl

pub returns-then-ne : goal.returns-then-ne
returns-then-ne c =
    let bs = c.args.d.now in
    let h : get_or bs 0 0 ≡ minus → ⊥ = search rules in
    let e : c.map.result ≡ plain c.digits.result = search rules in
    e ∙ (ap plain c.digits.ensures ∙ without_minus bs h)

pub returns-in_err-n : goal.returns-in_err-n
returns-in_err-n c =
    let m : get_or c.args.d.now 0 0 ≡ minus = search rules in
    c.from_residual.ensures ∙ behind_minus c.args.d.now m None c.in_err-n.ensures

pub returns-then-n-eq0 : goal.returns-then-n-eq0
returns-then-n-eq0 c =
    let m : get_or c.args.d.now 0 0 ≡ minus = search rules in
    minus_zero c.in_ok-n.n c.if-n-eq0.true ∙ behind_minus c.args.d.now m (Some c.in_ok-n.n) c.in_ok-n.ensures

pub returns : goal.returns
returns c =
    let n = c.in_ok-n.n in
    let m : get_or c.args.d.now 0 0 ≡ minus = search rules in
    let small : mag (neg_ℤ (pos n)) < 2 ^ 63 = lt_of_le_of_lt (mag_negpos n) (omega arith) in
    let held : to_z w64 (of_z w64 (pos 0 -ℤ to_z w64 (of_z w64 c.from.result))) ≡ neg_ℤ (pos n)
    = ap (λ z. to_z w64 (of_z w64 (pos 0 -ℤ z))) (told c.from.result c.from.type_inv ∙ c.from.ensures)
    ∙ (ap (λ z. to_z w64 (of_z w64 z)) (minus_is n) ∙ back {z = neg_ℤ (pos n)} small) in
    ap (λ z. Some z) held ∙ (minus_more n c.if-n-eq0.false ∙ behind_minus c.args.d.now m (Some n) c.in_ok-n.ensures)
