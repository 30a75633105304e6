-- How the rank of a source is worked out from that of its iteration, loop by loop from the innermost outward. Assumes nothing.
use mathlib.Core.Path.{◌≡◌, refl, sym, ap, ap₂, subst, ◌∙◌}
use mathlib.Core.List.{[], ◌∷◌, ◌++◌}
use Prim.Native.Nat.{ℕ, zero, suc, ◌+◌, ◌*◌, ◌/◌, ◌%◌, ◌<◌, ◌≤◌}
use native.Mathlib.Nat as NatL
use native.Mathlib.Numerals.{add-one}
use native.Mathlib.Omega.{arith}
use lib.IntN.{ℤ, pos, ◌+ℤ◌, ◌-ℤ◌}
use lib.ListN.{length, get_or, take, drop}
use lib.Seq.{take_all, take-append_seam, get_or-take, get_or_at}
use Rattle.integers.specs.Lists.{tab}
use Rattle.integers.proofs.Lists.{length-tab, tab-drop, tab_end, tab-same}
use Rattle.integers.specs.Vector.{Vector}
use Rattle.std.specs.Prelude.{Some}
use Rattle.nest.specs.Nest.{Limit, to_ℕ}
use Rattle.nest.specs.Points.{extent, points, point_count, rank, place_of, source, Inside}
use Rattle.nest.proofs.Order.{point-inside, rank-inside, place-inside}
use Rattle.nest.proofs.Padding.{part-whole}
use Rattle.nest.proofs.Ranks.{Within, rank-cons, outer-count, rank_split}
use Rattle.nest.proofs.Sources.{inside-length, source-tab}

-- a point has an index for each loop
pub point-long : (f : ℕ → Limit) (k q : ℕ) → q < point_count (tab f k) → length (get_or (points (tab f k)) q []) ≡ k
point-long f k q h = inside-length (tab f k) (get_or (points (tab f k)) q []) (point-inside (tab f k) q h) ∙ length-tab f k

-- the first of more
take_fewer : (k : ℕ) (v : Vector) → take k (take (suc k) v) ≡ take k v
take_fewer zero v = refl
take_fewer (suc k) [] = refl
take_fewer (suc k) (x ∷ v) = ap (λ (w : Vector). x ∷ w) (take_fewer k v)

-- ---- what is left of the iteration's rank is the rank of its first k indices

pub record Led (f : ℕ → Limit) (J : Vector) (k rest : ℕ) : Type 0 where
  pub first : get_or (points (tab f k)) rest [] ≡ take k J
  pub below : rest < point_count (tab f k)

pub led_start : (f : ℕ → Limit) (n r : ℕ) → r < point_count (tab f n) → Led f (get_or (points (tab f n)) r []) n r
led_start f n r h = let l = point-long f n r h in record { first = sym (take_all n (get_or (points (tab f n)) r []) (omega arith)); below = h }

module _ (f : ℕ → Limit) (J : Vector) (j rest : ℕ) (u : Led f J (suc j) rest) (m : ℕ) (e : m ≡ extent (f j)) (some : 0 < m) where
  -- the index of loop j, and what is left outside it
  halves : (rest / m < point_count (tab f j)) × (get_or (points (tab f (suc j))) rest [] ≡ get_or (points (tab f j)) (rest / m) [] ++ (((f j).lower +ℤ pos (rest % m)) ∷ []))
  halves =
      let whole : rest ≡ rest / m * extent (f j) + rest % m = sym (NatL.div-add-mod' rest m) ∙ ap (λ k. rest / m * k + rest % m) e in
      rank_split f j rest (rest / m) (rest % m) u.below whole (subst (λ k. rest % m < k) e (NatL.mod-lt rest {m = m} some))

  both : take (suc j) J ≡ get_or (points (tab f j)) (rest / m) [] ++ (((f j).lower +ℤ pos (rest % m)) ∷ [])
  both = sym u.first ∙ halves.1

  long : length (get_or (points (tab f j)) (rest / m) []) ≡ j
  long = point-long f j (rest / m) halves.0

  pub index-there : get_or J j (pos 0) ≡ (f j).lower +ℤ pos (rest % m)
  index-there =
      sym (get_or-take (suc j) J j (pos 0) (omega arith))
      ∙ ap (λ (v : Vector). get_or v j (pos 0)) both
      ∙ get_or_at (get_or (points (tab f j)) (rest / m) []) ((f j).lower +ℤ pos (rest % m)) [] (pos 0) j long

  pub led_more : Led f J j (rest / m)
  led_more = record {
    first =
        sym
        (sym (take_fewer j J) ∙ ap (take j) both
        ∙ ap (λ k. take k (get_or (points (tab f j)) (rest / m) [] ++ (((f j).lower +ℤ pos (rest % m)) ∷ []))) (sym long)
        ∙ take-append_seam (get_or (points (tab f j)) (rest / m) []) (((f j).lower +ℤ pos (rest % m)) ∷ []));
    below = halves.0;
  }

-- ---- the rank of the source's indices from loop k on, among the points of these loops

pub record Behind (f : ℕ → Limit) (g : ℕ → ℤ) (n k stride at : ℕ) : Type 0 where
  pub inside : Inside (drop k (tab f n)) (drop k (tab g n))
  pub at_is : at ≡ rank (points (drop k (tab f n))) (drop k (tab g n))
  pub stride_is : stride ≡ point_count (drop k (tab f n))
  pub whole : point_count (tab f k) * stride ≡ point_count (tab f n)

-- none of them
pub behind-start : (f : ℕ → Limit) (g : ℕ → ℤ) (n : ℕ) → Behind f g n n 1 0
behind-start f g n =
    let nothing : Inside (drop n (tab f n)) (drop n (tab g n)) = subst (λ ls. Inside ls (drop n (tab g n))) (sym (tab_end f n)) (subst (λ v. Inside [] v) (sym (tab_end g n)) tt) in
    let one : point_count (drop n (tab f n)) ≡ 1 = ap point_count (tab_end f n) ∙ none in
    let r = (rank-inside (drop n (tab f n)) (drop n (tab g n)) nothing).0 in
    record { inside = nothing; at_is = omega arith; stride_is = sym one; whole = NatL.mul-one (point_count (tab f n)) }
  where
    none : point_count [] ≡ 1
    none = unfold point_count in refl

module _ (f : ℕ → Limit) (g : ℕ → ℤ) (n j stride at : ℕ) (h : j < n) (u : Behind f g n (suc j) stride at) (w : Within (f j) (g j)) where
  -- the loops from j on
  loops : drop j (tab f n) ≡ f j ∷ drop (suc j) (tab f n)
  loops = tab-drop f n j h ∙ ap (λ k. f j ∷ drop k (tab f n)) (add-one j)

  indices : drop j (tab g n) ≡ g j ∷ drop (suc j) (tab g n)
  indices = tab-drop g n j h ∙ ap (λ k. g j ∷ drop k (tab g n)) (add-one j)

  pub behind_more : Behind f g n j (stride * extent (f j)) (at + to_ℕ (g j -ℤ (f j).lower) * stride)
  unfolding point_count
  behind_more =
      let i = subst (λ ls. Inside ls (drop j (tab g n))) (sym loops) (subst (λ v. Inside (f j ∷ drop (suc j) (tab f n)) v) (sym indices) (w, u.inside)) in
      let r = rank-cons (f j) (drop (suc j) (tab f n)) (g j) (drop (suc j) (tab g n)) (w, u.inside) in
      let d = to_ℕ (g j -ℤ (f j).lower) in
      let s = ap (λ k. d * k) u.stride_is in
      let a = u.at_is in
      record {
        inside = i;
        at_is =
            (let q : at + d * stride ≡ d * point_count (drop (suc j) (tab f n)) + rank (points (drop (suc j) (tab f n))) (drop (suc j) (tab g n)) = omega arith in q)
            ∙ sym r ∙ ap (λ v. rank (points (f j ∷ drop (suc j) (tab f n))) v) (sym indices) ∙ ap (λ ls. rank (points ls) (drop j (tab g n))) (sym loops);
        stride_is = NatL.mul_comm stride (extent (f j)) ∙ ap (λ k. extent (f j) * k) u.stride_is ∙ ap point_count (sym loops);
        whole =
            ap (λ k. point_count (tab f j) * k) (NatL.mul_comm stride (extent (f j))) ∙ sym (NatL.mul_assoc (point_count (tab f j)) (extent (f j)) stride)
            ∙ ap (λ k. k * stride) (sym (outer-count f j)) ∙ u.whole;
      }

-- the rank is below the points, and these are at most as many as all
pub behind-below : (f : ℕ → Limit) (g : ℕ → ℤ) (n k stride at : ℕ) → Behind f g n k stride at → 0 < point_count (tab f k) → (at < stride) × (stride ≤ point_count (tab f n))
behind-below f g n k stride at u h =
    let r = (rank-inside (drop k (tab f n)) (drop k (tab g n)) u.inside).0 in
    let a = u.at_is in
    let s = u.stride_is in
    let w = u.whole in
    let m = NatL.mul-le-mul_right {m = 1} {n = point_count (tab f k)} stride h in
    let o = NatL.one-mul stride in
    (omega arith, omega arith)

-- the source of a point, index by index
pub source-listed : (d : Vector) (n : ℕ) (J : Vector) → length J ≡ n → length d ≡ n → tab (λ i. get_or J i (pos 0) -ℤ get_or d i (pos 0)) n ≡ source J d
source-listed d n J l m =
    tab-same (λ i. get_or J i (pos 0) -ℤ get_or d i (pos 0)) (λ i. get_or J i (pos 0) -ℤ get_or d (0 + i) (pos 0)) n (λ i h. ap (λ k. get_or J i (pos 0) -ℤ get_or d k (pos 0)) (sym (NatL.zero-add i)))
    ∙ sym (source-tab J d 0 n) ∙ ap₂ source (part-whole n J l) (part-whole n d m)

-- all loops: the place of the source
pub behind_place : (f : ℕ → Limit) (d : Vector) (n : ℕ) (J : Vector) (stride at : ℕ) → length J ≡ n → length d ≡ n
    → Behind f (λ i. get_or J i (pos 0) -ℤ get_or d i (pos 0)) n 0 stride at → Some at ≡ place_of (points (tab f n)) (source J d)
behind_place f d n J stride at l m u =
    ap Some u.at_is ∙ sym (place-inside (tab f n) (tab (λ i. get_or J i (pos 0) -ℤ get_or d i (pos 0)) n) u.inside)
    ∙ ap (place_of (points (tab f n))) (source-listed d n J l m)
