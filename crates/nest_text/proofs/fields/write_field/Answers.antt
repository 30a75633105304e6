-- `write_field` writes a number in six columns: spaces, its digits at the end, a minus before them.
use Rattle.std.proofs.Common.{rules, ◌≡◌, ◌∙◌, sym, ap, true, ℕ, ◌+◌, ◌-◌, ◌≤◌, ℤ, pos, nat_abs, length, take, replicate}
use mathlib.Core.List.{[], ◌++◌}
use lib.ListN.{set}
use lib.Signed.{lt_z}
use Rattle.nest_text.specs.Fields.{Bytes, columns, space, minus, digits_to, field_of}
use Rattle.nest_text.proofs.FieldLaws.{written-minus, written-plain}
use Rattle.nest_text.proofs.fields.write_field.Goals as goal
use Rattle.nest_text.proofs.fields.write_field.Goals.{After-is_negative}

-- what stands in the columns before the sign is looked at: the digits, which end at the last column
record Digits (put : Bytes) (from : ℕ) (z : ℤ) : Type 0 where
  columns_are : put ≡ take from (replicate columns space) ++ digits_to columns (nat_abs z) []
  ends : from + length (digits_to columns (nat_abs z) []) ≡ columns

digits_put : (c : After-is_negative) → Digits c.put_digits-at.new.out c.put_digits-at.result c.args.z
digits_put c =
    let size_is : c.unsigned_abs.result ≡ nat_abs c.args.z = search rules in
    let spaces_are : c.fill.new.self ≡ replicate columns space
    = c.fill.ensures.after (λ y e. e) ∙ ap (λ (n : ℕ). replicate n space) c.requires.0 in
    let from = c.put_digits-at.result in
    record {
      columns_are =
          c.put_digits-at.ensures.0
          ∙ (ap (λ (l : Bytes). take from l ++ digits_to columns c.unsigned_abs.result []) spaces_are
          ∙ ap (λ (n : ℕ). take from (replicate columns space) ++ digits_to columns n []) size_is);
      ends = ap (λ (n : ℕ). from + length (digits_to columns n [])) (sym size_is) ∙ c.put_digits-at.ensures.1.1;
    }

-- a minus has room before the digits, and with it the columns are the field
minus_put : (c : After-is_negative) → c.is_negative.result ≡ true → let from = c.put_digits-at.result in let z = c.args.z in
    (1 ≤ from)
    × (set (take from (replicate columns space) ++ digits_to columns (nat_abs z) []) (from - 1) minus ≡ field_of z)
minus_put c t =
    let z = c.args.z in
    let sign : c.is_negative.result ≡ lt_z z (pos 0) = search rules in
    written-minus z c.put_digits-at.result (sym sign ∙ t) c.requires.1 (digits_put c).ends

pub overflow_sub-out : goal.overflow_sub-out
overflow_sub-out c = (minus_put (goal.at.overflow_sub-out c).After-is_negative c.if-is_negative.true).0

pub returns-then-is_negative : goal.returns-then-is_negative
returns-then-is_negative c =
    let h = (goal.at.returns-then-is_negative c).After-is_negative in
    rw ((digits_put h).columns_are) (minus_put h c.if-is_negative.true).1

pub returns-else-is_negative : goal.returns-else-is_negative
returns-else-is_negative c =
    let d = digits_put (goal.at.returns-else-is_negative c).After-is_negative in
    let sign : c.is_negative.result ≡ lt_z c.args.z (pos 0) = search rules in
    d.columns_are ∙ written-plain c.args.z c.put_digits-at.result (sym sign ∙ c.if-is_negative.false) d.ends
