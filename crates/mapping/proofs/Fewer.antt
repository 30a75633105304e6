-- One direction more (document 02, U11). A direction of width 1 takes no bit, and dealing and joining pass it over; so a nest has the same processors with as many directions as it has loops, and with more.
-- Assumes nothing.
use mathlib.Core.Path.{◌≡◌, refl, sym, ap, ap₂, subst, subst₂, ◌∙◌}
use mathlib.Core.Bool.{Bool, true, false}
use mathlib.Core.Logic.{◌⊎◌, inl, inr, ⊎_elim}
use mathlib.Core.List.{List, [], ◌∷◌, ◌++◌, map, reverse, append_assoc, Memᴰ}
use Prim.Native.Nat.{ℕ, zero, suc, ◌+◌, ◌-◌, ◌*◌, ◌/◌, ◌^◌, ◌<◌, ◌≤◌}
use native.Mathlib.Omega.{arith}
use native.Mathlib.Nat as NatL
use borrow.Author.Tests.{lt-leb}
use lib.IntN.{ℤ, pos, ◌+ℤ◌, ◌-ℤ◌}
use lib.ListN.{length, get_or, set, replicate, length-set, length-append, replicate-append-replicate, length-reverse}
use lib.Pow.{pow_pos, pow-add}
use Rattle.integers.specs.Vector.{Vector}
use Rattle.integers.proofs.Lists.{below_or_not, tab-list, length-tab, get_or-tab}
use Rattle.integers.proofs.Ring.{sub_self}
use Rattle.integers.proofs.ListFacts.{mem-map, mem-get_or}
use Rattle.integers.specs.Lists.{tab}
use Rattle.integers.specs.Extremes.{least_z, greatest_z}
use Rattle.integers.proofs.Extremes.{least-mem, greatest-mem}
use Rattle.nest.specs.declared.LoopNest.{LoopNest}
use Rattle.nest.specs.Nest.{to_ℕ, depth_of, padded, max_depth}
use Rattle.nest.specs.Points.{points_of}
use Rattle.nest.specs.Refusals.{refusal}
use Rattle.nest.proofs.Accepted.{depth_is}
use Rattle.nest.proofs.Padding.{length-padded}
use Rattle.grouping.specs.Grouping.{Group, blocks}
use Rattle.partition.specs.Partition.{no_group, groups_of}
use Rattle.partition.proofs.Theorems.{chosen-bound, along-length}
use Rattle.partition.proofs.Nests.{groups-length}
use Rattle.mapping.specs.Mapping.{order_in, direction_in, undealt_in, processor, directions_of, processors_of, processors_with, gray, part_of, joined, Direction, takes_bit, with_bit, no_direction, Deal, next_turn, deal_bit, deal_bits, dealt, direction_at}
use Rattle.mapping.specs.GroupNumbers.{span_of}
use Rattle.mapping.proofs.Deals.{turn_next, turn-first, more}
use Rattle.mapping.proofs.Arrays.{skipped, taken}
use Rattle.mapping.proofs.Groups.{block_group, dealt-length, order_is}
use Rattle.mapping.proofs.Inserted.{inserted, inserted-length, inserted_between, inserted-before, inserted-at, inserted-behind, set_before, set-behind}

-- ---- dealing

-- one of n directions may be asked; d, which takes no bit, stands before place p of them
module _ (p n : ℕ) (inside : p < n) (d : Direction) (narrow : takes_bit d ≡ false) where
  -- of n + 1 directions t has its turn, of the n without d it is t'; d is k turns ahead
  abbrev Turn : ℕ → ℕ → ℕ → Type 0
  Turn t t' k = ((t + k ≡ p) × (t' ≡ t)) ⊎ ((p < t) × (t ≡ suc t') × (t + k ≡ suc n + p) × (t ≤ n))

  -- the next turn, where this one is not d's
  next : (t t' k : ℕ) → Turn t t' (suc k) → Turn (next_turn (suc n) t) (next_turn n t') k
  next t t' k (inl h) =
      let a = turn_next (suc n) t (omega (arith, h.0)) in
      let b = turn_next n t' (omega (arith, h.0, h.1)) in
      inl (omega (arith, h.0, a), omega (arith, h.1, a, b))
  next t t' k (inr h) = ⊎_elim inside_still over (below_or_not t n)
    where
      inside_still : t < n → Turn (next_turn (suc n) t) (next_turn n t') k
      inside_still l =
          let a = turn_next (suc n) t (omega arith) in
          let b = turn_next n t' (omega (arith, h.1)) in
          inr (omega (arith, h.0, a), omega (arith, h.1, a, b), omega (arith, h.2, a), omega (arith, a))

      over : n ≤ t → Turn (next_turn (suc n) t) (next_turn n t') k
      over l =
          let a = turn-first (suc n) t (omega arith) in
          let b = turn-first n t' (omega (arith, h.1)) in
          inl (omega (arith, h.2, h.3, a), omega (arith, a, b))

  -- where it is d's, of the others it is the same one's
  past : (t t' : ℕ) → Turn t t' 0 → Turn (next_turn (suc n) t) t' n
  past t t' (inl h) =
      let a = turn_next (suc n) t (omega (arith, h.0)) in
      inr (omega (arith, h.0, a), omega (arith, h.0, h.1, a), omega (arith, h.0, a), omega (arith, h.0, a))
  past t t' (inr h) = absurd (omega (arith, h.2, h.3))

  module _ (ds : List Direction) (size : length ds ≡ n) (t t' : ℕ) where
    -- whose turn it is, where it is not d's
    whose : (k : ℕ) → Turn t t' (suc k) → direction_at (inserted p d ds) t ≡ direction_at ds t'
    whose k (inl h) = inserted-before d no_direction p ds t (omega (arith, h.0)) (omega arith) ∙ ap (direction_at ds) (sym h.1)
    whose k (inr h) = ap (direction_at (inserted p d ds)) h.1 ∙ inserted-behind d no_direction p ds t' (omega (arith, h.0, h.1)) (omega arith)

    -- a bit more for that direction
    given : (k : ℕ) → Turn t t' (suc k) → more (inserted p d ds) t ≡ inserted p d (more ds t')
    given k T = ap (λ (x : Direction). set (inserted p d ds) t (with_bit x)) (whose k T) ∙ put T
      where
        v : Direction
        v = with_bit (direction_at ds t')

        put : Turn t t' (suc k) → set (inserted p d ds) t v ≡ inserted p d (set ds t' v)
        put (inl h) = set_before d v p ds t (omega (arith, h.0)) (omega arith) ∙ ap (λ (i : ℕ). inserted p d (set ds i v)) (sym h.1)
        put (inr h) = ap (λ (i : ℕ). set (inserted p d ds) i v) h.1 ∙ set-behind d v p ds t' (omega (arith, h.0, h.1)) (omega arith)

    -- d itself
    narrow_here : Turn t t' 0 → takes_bit (direction_at (inserted p d ds) t) ≡ false
    narrow_here (inl h) =
        let e : t ≡ p = omega (arith, h.0) in
        ap (λ (i : ℕ). takes_bit (direction_at (inserted p d ds) i)) e ∙ ap takes_bit (inserted-at d no_direction p ds (omega arith)) ∙ narrow
    narrow_here (inr h) = absurd (omega (arith, h.2, h.3))

  -- both deals have come as far
  record Level (long short : Deal) : Type 0 where
    same : long.directions ≡ inserted p d short.directions
    size : length short.directions ≡ n
    ahead : ℕ
    turns : Turn long.turn short.turn ahead

  -- one that is not d is asked: it takes the bit, or the next ones are asked
  turn_level : (a b k : ℕ) (ds : List Direction) (t t' : ℕ) → length ds ≡ n → Turn t t' (suc k)
      → Level (deal_bit a (record { directions = inserted p d ds; turn = next_turn (suc n) t })) (deal_bit b (record { directions = ds; turn = next_turn n t' }))
      → Level (deal_bit (suc a) (record { directions = inserted p d ds; turn = t })) (deal_bit (suc b) (record { directions = ds; turn = t' }))
  turn_level a b k ds t t' s T later = go (takes_bit (direction_at ds t')) refl
    where
      long : Deal
      long = record { directions = inserted p d ds; turn = t }

      short : Deal
      short = record { directions = ds; turn = t' }

      size-long : length (inserted p d ds) ≡ suc n
      size-long = inserted-length p d ds ∙ ap suc s

      go : (x : Bool) → takes_bit (direction_at ds t') ≡ x → Level (deal_bit (suc a) long) (deal_bit (suc b) short)
      go true e =
          subst₂ Level (sym (taken a long (ap takes_bit (whose ds s t t' k T) ∙ e))) (sym (taken b short e))
          (record { same = given ds s t t' k T; size = length-set ds t' (with_bit (direction_at ds t')) ∙ s; ahead = k; turns = subst₂ (λ x y. Turn (next_turn x t) (next_turn y t') k) (sym size-long) (sym s) (next t t' k T) })
      go false e =
          subst₂ Level
          (sym (skipped a long (ap takes_bit (whose ds s t t' k T) ∙ e) ∙ ap (λ m. deal_bit a (record { directions = inserted p d ds; turn = next_turn m t })) size-long))
          (sym (skipped b short e ∙ ap (λ m. deal_bit b (record { directions = ds; turn = next_turn m t' })) s)) later

  -- a bit is dealt, with a and b directions left to be asked: d among them, or behind
  bit_level : (a b k : ℕ) (ds : List Direction) (t t' : ℕ) → length ds ≡ n → Turn t t' k → ((k < a) × (a ≡ suc b)) ⊎ ((a ≤ k) × (a ≡ b)) → a ≤ suc n
      → Level (deal_bit a (record { directions = inserted p d ds; turn = t })) (deal_bit b (record { directions = ds; turn = t' }))
  bit_level zero zero k ds t t' s T c l = unfold deal_bit in record { same = refl; size = s; ahead = k; turns = T }
  bit_level zero (suc b) k ds t t' s T c l = absurd (⊎_elim (λ h. omega (arith, h.0)) (λ h. omega (arith, h.1)) c)
  bit_level (suc a) b zero ds t t' s T c l =
      let e : a ≡ b = ⊎_elim (λ h. omega (arith, h.1)) (λ h. omega (arith, h.0)) c in
      let z : length (inserted p d ds) ≡ suc n = inserted-length p d ds ∙ ap suc s in
      subst (λ x. Level x (deal_bit b (record { directions = ds; turn = t' })))
      (sym (skipped a (record { directions = inserted p d ds; turn = t }) (narrow_here ds s t t' T) ∙ ap (λ m. deal_bit a (record { directions = inserted p d ds; turn = next_turn m t })) z))
      (bit_level a b n ds (next_turn (suc n) t) t' s (past t t' T) (inr (omega arith, e)) (omega arith))
  bit_level (suc a) zero (suc k) ds t t' s T c l = absurd (⊎_elim (λ h. omega (arith, h.0, h.1)) (λ h. omega (arith, h.1)) c)
  bit_level (suc a) (suc b) (suc k) ds t t' s T c l =
      turn_level a b k ds t t' s T
      (bit_level a b k ds (next_turn (suc n) t) (next_turn n t') s (next t t' k T) (⊎_elim (λ h. inl (omega (arith, h.0), omega (arith, h.1))) (λ h. inr (omega (arith, h.0), omega (arith, h.1))) c) (omega arith))

  -- c bits
  bits_level : (c : ℕ) (long short : Deal) → Level long short → Level (deal_bits c long) (deal_bits c short)
  unfolding deal_bits
  bits_level zero long short L = L
  bits_level (suc c) long short L = bits_level c (deal_bit (length long.directions) long) (deal_bit (length short.directions) short) one
    where
      z : length long.directions ≡ suc n
      z = ap length L.same ∙ inserted-length p d short.directions ∙ ap suc L.size

      near : L.ahead < suc n
      near = ⊎_elim (λ h. omega (arith, h.0)) (λ h. omega (arith, h.0, h.2)) L.turns

      one : Level (deal_bit (length long.directions) long) (deal_bit (length short.directions) short)
      one =
          subst₂ (λ a b. Level (deal_bit a long) (deal_bit b short)) (sym z) (sym L.size)
          (subst (λ (ds : List Direction). Level (deal_bit (suc n) (record { directions = ds; turn = long.turn })) (deal_bit n short)) (sym L.same)
          (bit_level (suc n) n L.ahead short.directions long.turn short.turn L.size L.turns (inl (near, refl)) (omega arith)))

  -- so it is dealt as if d were not there
  pub dealt_past : (c : ℕ) (ds : List Direction) → length ds ≡ n → dealt c (inserted p d ds) ≡ inserted p d (dealt c ds)
  unfolding dealt
  dealt_past c ds s = (bits_level c (record { directions = inserted p d ds; turn = 0 }) (record { directions = ds; turn = 0 }) (record { same = refl; size = s; ahead = p; turns = inl (omega arith, refl) })).same

-- ---- a direction of width 1

-- it takes no bit, however few it has
pub narrow_none : (d : Direction) → d.width ≤ 1 → takes_bit d ≡ false
unfolding takes_bit
narrow_none d h = lt-leb (2 ^ (d.bits + 1)) d.width (omega (arith, pow_pos d.bits, pow-add 2 d.bits 1))

-- without a bit, its least value is part 0
least-part : (d : Direction) → part_of d d.least ≡ 0
unfolding part_of to_ℕ
least-part d = ap (λ z. to_ℕ z * 2 ^ d.bits / d.width) (sub_self d.least) ∙ ap (λ k. k / d.width) (NatL.zero-mul (2 ^ d.bits)) ∙ NatL.zero-div d.width

-- joining passes over one without a bit whose value is its least
pub joined_past : (p above : ℕ) (d : Direction) (ds : List Direction) (v : Vector) → d.bits ≡ 0 → length ds ≡ length v → p ≤ length ds → joined above (inserted p d ds) (inserted p d.least v) ≡ joined above ds v
unfolding joined
joined_past zero above d ds v e s h = ap (λ a. joined a ds v) stays
  where
    stays : above * 2 ^ d.bits + gray (part_of d d.least) ≡ above
    stays = ap₂ (λ b k. above * 2 ^ b + gray k) e (least-part d) ∙ (unfold gray in omega arith)
joined_past (suc p) above d [] v e s h = absurd (omega arith)
joined_past (suc p) above d (x ∷ ds) [] e s h = absurd (omega arith)
joined_past (suc p) above d (x ∷ ds) (y ∷ v) e s h = joined_past p (above * 2 ^ x.bits + gray (part_of x y)) d ds v e (omega arith) (omega arith)

-- ---- the directions of groups

-- one place more is filled with one zero more
padded-more : (m : ℕ) (xs : Vector) → length xs ≤ m → padded (suc m) xs ≡ padded m xs ++ (pos 0 ∷ [])
unfolding padded
padded-more m xs h =
    let e : suc m - length xs ≡ (m - length xs) + 1 = omega arith in
    ap (λ k. xs ++ replicate k (pos 0)) e ∙ ap (λ l. xs ++ l) (sym (replicate-append-replicate (m - length xs) 1 (pos 0)))
    ∙ sym (append_assoc xs (replicate (m - length xs) (pos 0)) (pos 0 ∷ []))

-- the values of n directions are n
order-size : (m : ℕ) (g : Group) → length g.along ≤ m → length (order_in (suc m) g) ≡ suc m
order-size m g h =
    let e = length-padded m (reverse g.along) (omega (arith, length-reverse g.along)) in
    ap length (order_is m g) ∙ length-append (padded m (reverse g.along)) (pos g.class ∷ []) ∙ omega arith

-- zeros have no other extremes
least-zeros : (bs : List Group) → least_z (map (λ g. pos 0) bs) ≡ pos 0
least-zeros [] = unfold least_z in refl
least-zeros (b ∷ bs) = (mem-map (λ g. pos 0) (b ∷ bs) (least_z (map (λ g. pos 0) (b ∷ bs))) (least-mem (pos 0) (map (λ g. pos 0) bs))).2

greatest-zeros : (bs : List Group) → greatest_z (map (λ g. pos 0) bs) ≡ pos 0
greatest-zeros [] = unfold greatest_z in refl
greatest-zeros (b ∷ bs) = (mem-map (λ g. pos 0) (b ∷ bs) (greatest_z (map (λ g. pos 0) (b ∷ bs))) (greatest-mem (pos 0) (map (λ g. pos 0) bs))).2

-- functions that agree on the members of a list have the same images
map_members : {A B : Type 0} (f g : A → B) (xs : List A) → ((x : A) → Memᴰ x xs → f x ≡ g x) → map f xs ≡ map g xs
map_members f g [] e = refl
map_members f g (x ∷ xs) e = ap₂ (λ y l. y ∷ l) (e x (Memᴰ.head refl)) (map_members f g xs (λ y m. e y (Memᴰ.tail m)))

-- the direction of values that are all 0
abbrev single : Direction
single = record { least = pos 0; width = 1; bits = 0 }

-- with one direction more than their chosen vectors and the class need, groups have a 0 before the class
module _ (m : ℕ) where
  order-more : (g : Group) → length g.along ≤ m → order_in (suc (suc m)) g ≡ inserted m (pos 0) (order_in (suc m) g)
  order-more g h =
      let xs = reverse g.along in
      let few : length xs ≤ m = omega (arith, length-reverse g.along) in
      let tail = pos g.class ∷ [] in
      order_is (suc m) g ∙ ap (λ l. l ++ tail) (padded-more m xs few) ∙ append_assoc (padded m xs) (pos 0 ∷ []) tail
      ∙ sym (inserted_between (pos 0) (padded m xs) tail) ∙ ap₂ (λ k l. inserted k (pos 0) l) (length-padded m xs few) (sym (order_is m g))

  module _ (bs : List Group) (few : (g : Group) → Memᴰ g bs → length g.along ≤ m) where
    -- a place of the longer list whose values stand at a place of the shorter one
    direction-same : (k j : ℕ) → ((g : Group) → length g.along ≤ m → get_or (order_in (suc (suc m)) g) k (pos 0) ≡ get_or (order_in (suc m) g) j (pos 0)) → direction_in (suc (suc m)) bs k ≡ direction_in (suc m) bs j
    unfolding direction_in span_of
    direction-same k j e = ap span_of (map_members (λ g. get_or (order_in (suc (suc m)) g) k (pos 0)) (λ g. get_or (order_in (suc m) g) j (pos 0)) bs (λ g l. e g (few g l)))

    direction-single : direction_in (suc (suc m)) bs m ≡ single
    unfolding direction_in span_of to_ℕ
    direction-single =
        ap span_of (map_members (λ g. get_or (order_in (suc (suc m)) g) m (pos 0)) (λ g. pos 0) bs (λ g l. ap (λ (v : Vector). get_or v m (pos 0)) (order-more g (few g l)) ∙ inserted-at (pos 0) (pos 0) m (order_in (suc m) g) (omega (arith, order-size m g (few g l)))))
        ∙ ap₂ (λ (l u : ℤ). let d : Direction = record { least = l; width = to_ℕ (u -ℤ l +ℤ pos 1); bits = 0 } in d) (least-zeros bs) (greatest-zeros bs)

    undealt-more : undealt_in (suc (suc m)) bs ≡ inserted m single (undealt_in (suc m) bs)
    unfolding undealt_in
    undealt-more = tab-list (direction_in (suc (suc m)) bs) (inserted m single (tab (direction_in (suc m) bs) (suc m))) no_direction (suc (suc m)) (inserted-length m single (tab (direction_in (suc m) bs) (suc m)) ∙ ap suc long) each
      where
        long : length (tab (direction_in (suc m) bs) (suc m)) ≡ suc m
        long = length-tab (direction_in (suc m) bs) (suc m)

        each : (i : ℕ) → i < suc (suc m) → direction_in (suc (suc m)) bs i ≡ get_or (inserted m single (tab (direction_in (suc m) bs) (suc m))) i no_direction
        each i h = ⊎_elim before (λ l. ⊎_elim (at l) behind (below_or_not i (suc m))) (below_or_not i m)
          where
            former : ℕ → Direction
            former = direction_in (suc m) bs

            Stands : Type 0
            Stands = direction_in (suc (suc m)) bs i ≡ get_or (inserted m single (tab former (suc m))) i no_direction

            before : i < m → Stands
            before l =
                direction-same i i (λ g f. ap (λ (v : Vector). get_or v i (pos 0)) (order-more g f) ∙ inserted-before (pos 0) (pos 0) m (order_in (suc m) g) i l (omega (arith, order-size m g f)))
                ∙ sym (inserted-before single no_direction m (tab former (suc m)) i l (omega (arith, long)) ∙ get_or-tab former (suc m) i no_direction (omega arith))

            at : m ≤ i → i < suc m → Stands
            at l r =
                let e : i ≡ m = omega arith in
                ap (direction_in (suc (suc m)) bs) e ∙ direction-single ∙ sym (inserted-at single no_direction m (tab former (suc m)) (omega (arith, long)))
                ∙ ap (λ k. get_or (inserted m single (tab former (suc m))) k no_direction) (sym e)

            behind : suc m ≤ i → Stands
            behind l =
                let e : i ≡ suc m = omega arith in
                ap (direction_in (suc (suc m)) bs) e
                ∙ direction-same (suc m) m (λ g f. ap (λ (v : Vector). get_or v (suc m) (pos 0)) (order-more g f) ∙ inserted-behind (pos 0) (pos 0) m (order_in (suc m) g) m (omega arith) (omega (arith, order-size m g f)))
                ∙ sym (inserted-behind single no_direction m (tab former (suc m)) m (omega arith) (omega (arith, long)) ∙ get_or-tab former (suc m) m no_direction (omega arith))
                ∙ ap (λ k. get_or (inserted m single (tab former (suc m))) k no_direction) (sym e)

-- ---- the processors of a nest

module _ (s : LoopNest) (ok : refusal s ≡ 0) where
  -- a group has fewer coordinates than the nest has loops
  few-along : (g : Group) → Memᴰ g (groups_of s) → length g.along < depth_of s
  few-along g m =
      let w = mem-get_or (groups_of s) g no_group m in
      let h : w.0 < length (points_of s) = omega (arith, w.1, groups-length s) in
      omega (arith, chosen-bound s ok, sym (along-length s ok w.0 h) ∙ ap (λ (x : Group). length x.along) w.2)

  -- one direction more than a nest has loops changes nothing
  one_more : (n : ℕ) → depth_of s ≤ n → processors_with (suc n) s ≡ processors_with n s
  one_more zero h = absurd (omega (arith, chosen-bound s ok))
  one_more (suc m) h = unfold processors_with in
      ap (λ (ds : List Direction). map (λ g. joined 0 ds (order_in (suc (suc m)) g)) (groups_of s)) deals ∙ map_members (λ g. joined 0 (inserted m single dealt_so) (order_in (suc (suc m)) g)) (λ g. joined 0 dealt_so (order_in (suc m) g)) (groups_of s) each
    where
      bs : List Group
      bs = blocks (groups_of s)

      few : (g : Group) → Memᴰ g (groups_of s) → length g.along ≤ m
      few g l = omega (arith, few-along g l)

      dealt_so : List Direction
      dealt_so = dealt (to_ℕ s.cube) (undealt_in (suc m) bs)

      size : length (undealt_in (suc m) bs) ≡ suc m
      size = unfold undealt_in in length-tab (direction_in (suc m) bs) (suc m)

      deals : dealt (to_ℕ s.cube) (undealt_in (suc (suc m)) bs) ≡ inserted m single dealt_so
      deals =
          ap (dealt (to_ℕ s.cube)) (undealt-more m bs (λ g l. few g (block_group (groups_of s) g l)))
          ∙ dealt_past m (suc m) (omega arith) single (narrow_none single (omega arith)) (to_ℕ s.cube) (undealt_in (suc m) bs) size

      each : (g : Group) → Memᴰ g (groups_of s) → joined 0 (inserted m single dealt_so) (order_in (suc (suc m)) g) ≡ joined 0 dealt_so (order_in (suc m) g)
      each g l =
          let long = dealt-length (to_ℕ s.cube) (undealt_in (suc m) bs) (suc m) (omega arith) size in
          ap (joined 0 (inserted m single dealt_so)) (order-more m g (few g l)) ∙ joined_past m 0 single dealt_so (order_in (suc m) g) refl (long ∙ sym (order-size m g (few g l))) (omega (arith, long))

  more_places : (k : ℕ) → processors_with (k + depth_of s) s ≡ processors_with (depth_of s) s
  more_places zero = ap (λ n. processors_with n s) (NatL.zero-add (depth_of s))
  more_places (suc k) = ap (λ n. processors_with n s) (NatL.suc-add k (depth_of s)) ∙ one_more (k + depth_of s) (omega arith) ∙ more_places k

  -- with as many directions as it has loops, or any number more, a nest has its processors
  pub processors-any : (n : ℕ) → depth_of s ≤ n → processors_with n s ≡ processors_of s
  processors-any n h = down n h ∙ sym (down max_depth (depth_is s ok).1) ∙ (unfold processors_with processors_of directions_of processor in refl)
    where
      down : (n : ℕ) → depth_of s ≤ n → processors_with n s ≡ processors_with (depth_of s) s
      down n h =
          let e : n ≡ n - depth_of s + depth_of s = omega arith in
          ap (λ k. processors_with k s) e ∙ more_places (n - depth_of s)
