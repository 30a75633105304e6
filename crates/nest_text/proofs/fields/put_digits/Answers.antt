-- `put_digits` meets its contract. Assumes nothing.
use mathlib.Core.Path.{◌≡◌, refl, sym, ap, subst, ◌∙◌}
use mathlib.Core.List.{[], ◌∷◌, ◌++◌}
use Prim.Native.Nat.{ℕ, ◌-◌, ◌+◌, ◌/◌, ◌%◌, ◌≤◌, ◌<◌, ◌^◌}
use native.Mathlib.Omega.{arith}
use lib.ListN.{length, set, drop, take, length-set, length-drop, take-append-drop}
use Rattle.nest_text.specs.Fields.{Bytes, columns, zero_digit, digits_to}
use Rattle.nest_text.proofs.FieldLaws.{drop-set-here, take_set_before, two_digits, tenth, digits_ten}
use Rattle.nest_text.proofs.FieldLaws.{digits_last}
use Rattle.nest_text.proofs.fields.put_digits.Goals as goal

-- one column to the left: what a store there leaves
module _ (out out₀ : Bytes) (at rest v : ℕ) (one : 1 ≤ at) (long : length out ≡ columns) (six : at ≤ columns) where
  -- that column and this
  here : at ≡ at - 1 + 1
  here = omega arith

  -- the columns before it are as they were
  kept : take at out ≡ take at out₀ → take (at - 1) (set out (at - 1) v) ≡ take (at - 1) out₀
  kept e = take_set_before out (at - 1) v out₀ (subst (λ (k : ℕ). take k out ≡ take k out₀) here e)

  -- the byte stands before those that stood there
  rest-of : drop (at - 1) (set out (at - 1) v) ≡ v ∷ drop at out
  rest-of = drop-set-here out (at - 1) v (omega arith) ∙ ap (λ (k : ℕ). v ∷ drop k out) (sym here)

  -- what is left has room
  less : rest < 10 ^ at → rest / 10 < 10 ^ (at - 1)
  less h = tenth rest (at - 1) (subst (λ (k : ℕ). rest < 10 ^ k) here h)

  -- the last of several digits
  more : 10 ≤ rest → v ≡ zero_digit + rest % 10
      → digits_to at rest (drop at out) ≡ digits_to (at - 1) (rest / 10) (drop (at - 1) (set out (at - 1) v))
  more h p =
      subst (λ (k : ℕ). digits_to k rest (drop at out) ≡ digits_to (at - 1) (rest / 10) ((zero_digit + rest % 10) ∷ drop at out))
      (sym here) (digits_ten rest (at - 1) (drop at out) h)
      ∙ rw (rest-of, p) refl

  -- the only one
  last : rest < 10 → v ≡ zero_digit + rest % 10 → digits_to at rest (drop at out) ≡ drop (at - 1) (set out (at - 1) v)
  last h p =
      subst (λ (k : ℕ). digits_to k rest (drop at out) ≡ (zero_digit + rest % 10) ∷ drop at out)
      (sym here) (digits_last rest (at - 1) (drop at out) h)
      ∙ rw (rest-of, p) refl

-- what the last digit leaves
module _ (out out₀ : Bytes) (at rest v n : ℕ) (one : 1 ≤ at) (six : at ≤ columns) (long : length out ≡ columns) where
  ends : take at out ≡ take at out₀ → digits_to columns n [] ≡ digits_to at rest (drop at out) → rest < 10 → v ≡ zero_digit + rest % 10
      → (set out (at - 1) v ≡ take (at - 1) out₀ ++ digits_to columns n [])
      × ((at - 1 < columns) × (at - 1 + length (digits_to columns n []) ≡ columns))
  ends before digits few e =
      let all : digits_to columns n [] ≡ drop (at - 1) (set out (at - 1) v) = digits ∙ last out out₀ at rest v one long six few e in
      let front = kept out out₀ at rest v one long six before in
      (rw (all, ← front) (sym (take-append-drop (at - 1) (set out (at - 1) v))), (omega arith, rw all (simp (length-drop, length-set) (omega arith))))

pub loop-at-preserved : goal.loop-at-preserved
loop-at-preserved c =
    let l = c.loop-at in
    let i = l.invariant in
    let o = c.args.out.now in
    let v = c.digit_byte.result in
    let ten = c.if-rest-lt10.false in
    let two = two_digits l.rest l.at ten i.small in record {
      some = omega arith;
      few = omega arith;
      long = simp length-set i.long;
      before = kept l.out o l.at l.rest v i.some i.long i.few i.before;
      small = less l.out o l.at l.rest v i.some i.long i.few i.small;
      digits = i.digits ∙ more l.out o l.at l.rest v i.some i.long i.few ten c.digit_byte.ensures;
    }

pub returns-then-rest-lt10 : goal.returns-then-rest-lt10
returns-then-rest-lt10 c =
    let l = c.loop-at in
    let i = l.invariant in
    ends l.out c.args.out.now l.at l.rest c.digit_byte.result c.args.n i.some i.few i.long i.before i.digits c.if-rest-lt10.true c.digit_byte.ensures

pub returns : goal.returns
returns c =
    let l = c.loop-at in
    let i = l.invariant in
    let one : l.at ≡ 1 = omega arith in
    rw one at (ends l.out c.args.out.now l.at l.rest c.digit_byte-2.result c.args.n i.some i.few i.long i.before i.digits
    (rw one at i.small) c.digit_byte-2.ensures)
