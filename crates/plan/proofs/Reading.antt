-- What a reader's bytes are in the buffer that they are read into, and what is printed for them. Assumes nothing.
use Rattle.std.proofs.Common.{◌≡◌, ℕ, ◌+◌, ◌-◌, ◌≤◌, List, ◌++◌, None, Some, IfSome, length, take, drop, slice_range, sym, ap, ◌∙◌, subst, arith, le_refl, drop_at, length-take-le}
use Rattle.std.proofs.lemmas.Slice.{take-put_mid_below}
use Rattle.std.proofs.KnownBytes.{Consumes-trans}
use Rattle.std.specs.Io.KnownBytes.{Consumes, Appends}
use Rattle.std.specs.declared.option.Option.{Option}
use borrow.Rule.Slice.PartMut.{put_mid, post_of}
use lib.Seq.{take-add, take-append-le, take-append_seam, sets-eq}
use Rattle.nest_text.specs.Fields.{Bytes}
use Rattle.nest_text.specs.Stored.{Stored}
use Rattle.nest_text.proofs.WriteLaws.{stored-length}
use Rattle.planner.specs.Listing.{listing}

-- the bytes that are read behind the first `from`
part-after : (from room n : ℕ) (xs ys : List ℕ) → from ≤ length xs → n ≤ length ys → slice_range (put_mid from room xs ys) from (from + n) ≡ take n ys
part-after from room n xs ys within fits =
    let same : (from + n) - from ≡ n = omega arith in
    let after = post_of from room xs in
    ap (take ((from + n) - from)) (drop_at (take from xs) (ys ++ after) from (length-take-le from xs within))
    ∙ ap (λ m. take m (ys ++ after)) same
    ∙ take-append-le n ys after fits

-- one read more
pub reads-on : (a b c : Option (List ℕ)) (xs ys : List ℕ) (from room n : ℕ) → from ≤ length xs → n ≤ length ys
    → Consumes a b (take from xs) → Consumes b c (take n ys) → Consumes a c (take (from + n) (put_mid from room xs ys))
reads-on a b c xs ys from room n within fits before read =
    let new = put_mid from room xs ys in
    let front : take from new ≡ take from xs = take-put_mid_below _ _ _ _ _ (le_refl _) within in
    let same : from + ((from + n) - from) ≡ from + n = omega arith in
    let joined : take from xs ++ slice_range new from (from + n) ≡ take (from + n) new =
    ap (λ l. l ++ slice_range new from (from + n)) (sym front) ∙ sym (take-add from ((from + n) - from) new) ∙ ap (λ k. take k new) same in
    subst (Consumes a c) (ap (λ l. take from xs ++ l) (sym (part-after from room n xs ys within fits)) ∙ joined) (Consumes-trans a b c _ _ before read)

-- what is printed for the bytes in the buffer is printed for the whole text
pub shown : (a old new : Option (List ℕ)) (room most : ℕ) (bytes printed : List ℕ) → room ≡ most → IfSome a (λ text. bytes ≡ take room text)
    → ((text : List ℕ) → listing (take most text) ≡ listing text) → printed ≡ listing bytes → Appends old new printed
    → IfSome a (λ text. Appends old new (listing text))
shown None old new room most bytes printed same read decided e p = tt
shown (Some text) old new room most bytes printed same read decided e p =
    subst (Appends old new) (e ∙ ap listing (read ∙ ap (λ k. take k text) same) ∙ decided text) p

-- the bytes that are printed are those that were stored at the buffer's start
pub stored-start : {old new bs : Bytes} {end : ℕ} → Stored old 0 bs new end → end ≤ length new → take end new ≡ bs
stored-start {old} {new} {bs} {end} S h =
    let same : end ≡ length bs = omega (arith, S.ends) in
    let room : 0 + length bs ≤ length old = omega (arith, stored-length S) in
    ap (take end) (S.bytes ∙ sets-eq bs old 0 room) ∙ ap (λ n. take n (bs ++ drop (0 + length bs) old)) same ∙ take-append_seam bs (drop (0 + length bs) old)
