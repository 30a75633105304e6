-- The walk that writes the keys of all index points, over loops with rectangular limits: the digits of one index more, the points of the loops inside, and
-- a table that is written from a place on. Nothing else in this crate speaks of limits. Assumes nothing.
use mathlib.Core.Path.{◌≡◌, refl, sym, ap, ap₂, subst, ◌∙◌}
use mathlib.Core.Bool.{false}
use mathlib.Core.List.{List, [], ◌∷◌, ◌++◌, map, flat_map, map-append, append_assoc, append-nil}
use Prim.Native.Nat.{ℕ, zero, suc, ◌+◌, ◌*◌, ◌-◌, ◌^◌, ◌<◌, ◌≤◌}
use native.Mathlib.Nat as NatL
use native.Mathlib.Numerals.{add-one}
use native.Mathlib.Omega.{arith}
use lib.IntN.{ℤ, pos, nat_abs, ◌+ℤ◌, ◌*ℤ◌, +ℤ_assoc}
use lib.ListN.{length, get_or, set, take, drop, length-map}
use Rattle.std.proofs.lemmas.List.{length-append, length-take, length-take-le, length-drop, get_or-take, take_at, drop_at, drop-drop, drop_more, drop_all, take_rest, set_at, take-map}
use borrow.Rule.Slice.PartMut.{put_mid}
use Rattle.std.proofs.lemmas.Slice.{first_rest}
use Rattle.integers.proofs.Bounds.{abs-+, abs-*}
use Rattle.integers.specs.Lists.{any, tab}
use Rattle.integers.proofs.Lists.{tab-more, get_or-tab, tab-list, map-tab, length-tab, any_append, any-one, or_false, flat_map-tab-more, flat_map-length}
use Rattle.integers.specs.Vector.{Vector}
use Rattle.nest.specs.declared.LoopNest.{LoopNest}
use Rattle.nest.specs.Nest.{Limit, depth_of, limit_at, limits_of, max_depth, max_limit}
use Rattle.nest.specs.Points.{extent, indices, points, points_of, point_count}
use Rattle.nest.specs.Refusals.{crossed, refusal}
use Rattle.nest.proofs.Accepted.{none-crossed}
use Rattle.nest.proofs.Conditions.{index_in_span}
use Rattle.nest.proofs.Order.{point-count, index-within}
use Rattle.sources.specs.Keys.{base, key_from, key, max_key, keys_of}
use Rattle.sources.specs.declared.Limits.{Limits}
use Rattle.sources.specs.Loops.{limit_of, loop_limits}
use Rattle.sources.proofs.Arrays.{power-most}

-- ---- the digits of the outer indices

-- with one index more
pub prefix_size : (a x : ℤ) (k : ℕ) → nat_abs a + nat_abs a < base ^ k → nat_abs x ≤ max_limit → nat_abs (a *ℤ pos base +ℤ x) + nat_abs (a *ℤ pos base +ℤ x) < base ^ (k + 1)
prefix_size a x k h l =
    let n = abs-+ (a *ℤ pos base) x (abs-* a (pos base) (NatL.le_refl (nat_abs a)) (NatL.le_refl base)) l in
    let p : base ^ (k + 1) ≡ base ^ k * base = rw (add-one k) (NatL.pow-suc base k) in
    omega arith

-- they are small
pub prefix_most : (a : ℤ) (k : ℕ) → k ≤ max_depth → nat_abs a + nat_abs a < base ^ k → nat_abs a ≤ max_key
prefix_most a k h l = let p = power-most k h in omega arith

-- ---- the points of one loop more

-- a first index in front of each
heads : (a x : ℤ) (ps : List Vector) → map (key_from a) (map (λ j. x ∷ j) ps) ≡ map (key_from (a *ℤ pos base +ℤ x)) ps
unfolding key_from
heads a x [] = refl
heads a x (p ∷ ps) = ap (λ l. key_from (a *ℤ pos base +ℤ x) p ∷ l) (heads a x ps)

-- the keys of points behind each of n prefixes
abbrev pub behind_each : List Vector → (ℕ → ℤ) → ℕ → List ℤ
behind_each ps f n = flat_map (λ b. map (key_from b) ps) (tab f n)

-- each of n first indices in front of each
heads-each : (a : ℤ) (ps : List Vector) (g f : ℕ → ℤ) (n : ℕ) → ((q : ℕ) → f q ≡ a *ℤ pos base +ℤ g q) → map (key_from a) (flat_map (λ x. map (λ j. x ∷ j) ps) (tab g n)) ≡ behind_each ps f n
unfolding tab flat_map
heads-each a ps g f zero e = refl
heads-each a ps g f (suc n) e =
    ap (map (key_from a)) (rw add-one at (flat_map-tab-more (λ x. map (λ j. x ∷ j) ps) g n))
    ∙ map-append (key_from a) (flat_map (λ x. map (λ j. x ∷ j) ps) (tab g n)) (map (λ j. g n ∷ j) ps)
    ∙ ap₂ (λ (l m : List ℤ). l ++ m) (heads-each a ps g f n e) (heads a (g n) ps ∙ ap (λ (b : ℤ). map (key_from b) ps) (sym (e n)))
    ∙ sym (rw add-one at (flat_map-tab-more (λ b. map (key_from b) ps) f n))

-- the prefixes with an index of loop l behind them
abbrev pub prefixes : ℤ → ℤ → ℕ → ℤ
prefixes a low q = (a *ℤ pos base +ℤ low) +ℤ pos q

-- the keys of the points of one loop more, behind a prefix
pub keys-cons : (a : ℤ) (l : Limit) (ls : List Limit) → map (key_from a) (points (l ∷ ls)) ≡ behind_each (points ls) (prefixes a l.lower) (extent l)
unfolding points indices
keys-cons a l ls = heads-each a (points ls) (λ k. l.lower +ℤ pos k) (prefixes a l.lower) (extent l) (λ q. +ℤ_assoc (a *ℤ pos base) l.lower (pos q))

-- the innermost loop
pub row-keys : (f : ℕ → ℤ) (n : ℕ) → behind_each (points []) f n ≡ tab f n
unfolding points key_from tab flat_map
row-keys f zero = refl
row-keys f (suc n) = rw add-one at (flat_map-tab-more (λ b. map (key_from b) ([] ∷ [])) f n) ∙ ap (λ l. l ++ (f n ∷ [])) (row-keys f n)

-- how many keys these are
pub each-length : (ls : List Limit) (f : ℕ → ℤ) (n : ℕ) → length (behind_each (points ls) f n) ≡ n * point_count ls
each-length ls f n = flat_map-length (λ b. map (key_from b) (points ls)) f (point_count ls) n (λ i h. length-map (points ls) (key_from (f i)) ∙ point-count ls) ∙ NatL.mul_comm (point_count ls) n

-- ---- limits

-- a loop that is not there
abbrev pub no_loop : Limits
no_loop = record { lower = pos 0; upper = pos 0 }

-- the outermost of some loops
abbrev pub outer_of : List Limits → Limits
outer_of ls = get_or ls 0 no_loop

-- the loops inside it
abbrev pub inner_of : List Limits → List Limits
inner_of ls = take (length ls - 1) (drop 1 ls)

-- some loops as the outermost and those inside it
pub record Split (ls : List Limits) : Type 0 where
  -- one loop less
  pub fewer : length (inner_of ls) + 1 ≡ length ls
  -- the limits of the outermost are not crossed
  pub fine : crossed (limit_of (outer_of ls)) ≡ false
  -- nor those of a loop inside it
  pub inner_fine : any crossed (loop_limits (inner_of ls)) ≡ false
  -- the number of points
  pub count : point_count (loop_limits ls) ≡ extent (limit_of (outer_of ls)) * point_count (loop_limits (inner_of ls))
  -- their keys, behind a prefix
  pub keys : (a : ℤ) → map (key_from a) (points (loop_limits ls)) ≡ behind_each (points (loop_limits (inner_of ls))) (prefixes a (outer_of ls).lower) (extent (limit_of (outer_of ls)))

-- they can be split so
pub split_loops : (ls : List Limits) → 1 ≤ length ls → any crossed (loop_limits ls) ≡ false → Split ls
split_loops ls h f = record {
  fewer = simp (length-take, length-drop) (omega arith);
  fine = sym (any-one crossed l) ∙ b.0;
  inner_fine = b.1;
  count = unfold point_count in ap point_count e;
  keys = λ a. ap (λ ms. map (key_from a) (points ms)) e ∙ keys-cons a l rest;
}
  where
    l : Limit
    l = limit_of (outer_of ls)

    rest : List Limit
    rest = loop_limits (inner_of ls)

    e : loop_limits ls ≡ l ∷ rest
    e = ap (map limit_of) (first_rest ls no_loop (omega arith))

    b : (any crossed (l ∷ []) ≡ false) × (any crossed rest ≡ false)
    b = or_false (any crossed (l ∷ [])) (any crossed rest) (sym (any_append crossed (l ∷ []) rest) ∙ ap (any crossed) (sym e) ∙ f)

-- where no loop is inside it
pub only-loop : (ls : List Limits) → length ls ≡ 1 → loop_limits ls ≡ limit_of (outer_of ls) ∷ []
only-loop [] h = absurd (omega arith)
only-loop (l ∷ []) h = refl
only-loop (l ∷ m ∷ ls) h = absurd (omega arith)

-- there are as many points as indices
pub row_count : (l : Limit) → point_count (l ∷ []) ≡ extent l
unfolding point_count
row_count l = omega arith

-- and their keys are in a row
pub row_is : (l : Limit) (a : ℤ) → map (key_from a) (points (l ∷ [])) ≡ tab (prefixes a l.lower) (extent l)
row_is l a = keys-cons a l [] ∙ row-keys (prefixes a l.lower) (extent l)

-- ---- tables that are written from the front on

module _ {A : Type 0} (d : A) (old cur : List A) (f : ℕ → A) (q : ℕ) where
  -- one entry more
  pub filled_more : q < length old → cur ≡ tab f q ++ drop q old → set cur q (f q) ≡ tab f (q + 1) ++ drop (q + 1) old
  filled_more h e =
      ap (λ t. set t q (f q)) (e ∙ ap (λ t. tab f q ++ t) (drop_more old q d h)) ∙ set_at (tab f q) (get_or old q d) (drop (q + 1) old) (f q) q (length-tab f q)
      ∙ sym (append_assoc (tab f q) (f q ∷ []) (drop (q + 1) old)) ∙ ap (λ t. t ++ drop (q + 1) old) (sym (tab-more f q))

  -- all entries
  pub filled-all : length old ≤ q → cur ≡ tab f q ++ drop q old → cur ≡ tab f q
  filled-all h e = e ∙ ap (λ t. tab f q ++ t) (drop_all q old h) ∙ append-nil (tab f q)

-- the keys of a row, with what stands behind them
pub row_done : (l : Limit) (a f : ℤ) (count : ℕ) (old row : List ℤ) → f ≡ a *ℤ pos base +ℤ l.lower → count ≡ extent l → extent l ≤ length old → row ≡ tab (λ q. f +ℤ pos q) (length (take count old))
    → row ++ drop count old ≡ map (key_from a) (points (l ∷ [])) ++ drop (extent l) old
row_done l a f count old row p e h r =
    let n : length (take count old) ≡ extent l = length-take-le count old (omega arith) ∙ e in
    ap₂ (λ (s : List ℤ) (i : ℕ). s ++ drop i old) (r ∙ ap₂ (λ (z : ℤ) (i : ℕ). tab (λ q. z +ℤ pos q) i) p n ∙ sym (row_is l a)) e

-- a list written behind another, into the rest of a table
pub written_behind : (front xs old cur sub : List ℤ) (w p : ℕ) → length front ≡ w → length xs ≡ p → cur ≡ front ++ drop w old → sub ≡ xs ++ drop p (take (length cur - w) (drop w cur))
    → put_mid w (length cur - w) cur sub ≡ (front ++ xs) ++ drop (w + p) old
written_behind front xs old cur sub w p l m e n =
    ap (λ t. take w cur ++ (sub ++ t)) (drop_all (length cur - w) (drop w cur) (simp length-drop (omega arith))) ∙ ap (λ t. take w cur ++ t) (append-nil sub ∙ n ∙ ap (λ t. xs ++ drop p t) (take_rest cur w))
    ∙ ap₂ (λ (s t : List ℤ). s ++ (xs ++ drop p t)) (ap (take w) e ∙ take_at front (drop w old) w l) (ap (drop w) e ∙ drop_at front (drop w old) w l)
    ∙ sym (append_assoc front xs (drop p (drop w old))) ∙ ap (λ t. (front ++ xs) ++ t) (drop-drop p w old)

-- no prefix yet
pub walk_none : (old : List ℤ) (ls : List Limit) (f : ℕ → ℤ) → old ≡ behind_each (points ls) f 0 ++ drop 0 old
unfolding tab flat_map
walk_none old ls f = refl

-- ---- the ways through `keys_from`
module _ (ls : List Limits) (a : ℤ) (S : Split ls) (old : List ℤ) where
  -- the limits of the outermost loop
  abbrev outer : Limit
  outer = limit_of (outer_of ls)

  -- those of the loops inside it
  abbrev inner : List Limit
  inner = loop_limits (inner_of ls)

  -- the digits with its lowest index
  abbrev first : ℤ
  first = a *ℤ pos base +ℤ outer.lower

  -- what the walk over these loops answers and leaves
  abbrev pub Done : ℕ → List ℤ → Type 0
  Done r new = (r ≡ point_count (loop_limits ls)) × (new ≡ map (key_from a) (points (loop_limits ls)) ++ drop (point_count (loop_limits ls)) old)

  -- the loops inside, behind the first q indices
  abbrev pub WalkedTo : ℤ → ℕ → ℕ → List ℤ → Type 0
  WalkedTo f q written cur = (written ≡ q * point_count inner) × (cur ≡ behind_each (points inner) (λ i. f +ℤ pos i) q ++ drop written old)

  -- one index more
  pub walk_turn : (f h : ℤ) (q written r : ℕ) (cur sub : List ℤ) → WalkedTo f q written cur → h ≡ f +ℤ pos q → r ≡ point_count inner
      → sub ≡ map (key_from h) (points inner) ++ drop (point_count inner) (take (length cur - written) (drop written cur)) → WalkedTo f (q + 1) (written + r) (put_mid written (length cur - written) cur sub)
  walk_turn f h q written r cur sub w e p n =
      let g : ℕ → ℤ = λ i. f +ℤ pos i in
      let xs : List ℤ = map (key_from (g q)) (points inner) in
      let front : List ℤ = behind_each (points inner) g q in (
        omega (arith, w.0, p, NatL.suc-mul q (point_count inner), ap (λ m. m * point_count inner) (add-one q)),
        written_behind front xs old cur sub written (point_count inner) (each-length inner g q ∙ sym w.0) (length-map (points inner) (key_from (g q)) ∙ point-count inner) w.1
            (n ∙ ap (λ (z : ℤ). map (key_from z) (points inner) ++ drop (point_count inner) (take (length cur - written) (drop written cur))) e)
            ∙ ap₂ (λ (s : List ℤ) (i : ℕ). s ++ drop i old) (sym (flat_map-tab-more (λ b. map (key_from b) (points inner)) g q)) (ap (λ i. written + i) (sym p)),
      )

  -- all indices
  pub walk_out : (f : ℤ) (n q written : ℕ) (cur : List ℤ) → WalkedTo f q written cur → f ≡ first → n ≡ extent outer → q ≤ n → n ≤ q → Done written cur
  walk_out f n q written cur w p e l m =
      let z : q ≡ extent outer = omega arith in
      let c : written ≡ point_count (loop_limits ls) = omega (arith, w.0, S.count, ap (λ i. i * point_count inner) z) in (
        c,
        w.1 ∙ ap₂ (λ (x : ℤ) (i : ℕ). behind_each (points inner) (λ j. x +ℤ pos j) i ++ drop written old) p z ∙ ap₂ (λ (s : List ℤ) (i : ℕ). s ++ drop i old) (sym (S.keys a)) c,
      )

  -- the place behind the first q is in the table, with those of one more
  pub walk_room : (f : ℤ) (q written : ℕ) (cur : List ℤ) → WalkedTo f q written cur → q < extent outer → point_count (loop_limits ls) ≤ length old → written + point_count inner ≤ length cur
  walk_room f q written cur w l h =
      let m = NatL.mul-le-mul_right {m = suc q} {n = extent outer} (point_count inner) l in
      omega (arith, w.0, S.count, NatL.suc-mul q (point_count inner), ap length w.1 ∙ length-append (behind_each (points inner) (λ i. f +ℤ pos i) q) (drop written old), each-length inner (λ i. f +ℤ pos i) q, length-drop written old)

  -- the digits with one index more are in span
  pub next_prefix : (k q : ℕ) → q < extent outer → nat_abs a + nat_abs a < base ^ k → nat_abs (first +ℤ pos q) + nat_abs (first +ℤ pos q) < base ^ (k + 1)
  next_prefix k q l h =
      let w = index-within outer q l in
      let x = outer.lower +ℤ pos q in
      subst (λ (z : ℤ). nat_abs z + nat_abs z < base ^ (k + 1)) (sym (+ℤ_assoc (a *ℤ pos base) outer.lower (pos q)))
      (prefix_size a x k h (index_in_span outer.lower outer.upper x S.fine w.0 w.1))

-- ---- all loops of a nest

-- the first of the entries
take-tab : {A : Type 0} (f : ℕ → A) (n k : ℕ) → k ≤ n → take k (tab f n) ≡ tab f k
take-tab f n k h =
    sym (tab-list f (take k (tab f n)) (f 0) k (length-take-le k (tab f n) (omega (arith, length-tab f n))) (λ i l. sym (get_or-take k (tab f n) i (f 0) l ∙ get_or-tab f n i (f 0) (omega arith))))

module _ (s : LoopNest) where
  -- the limits of all places
  abbrev pub places_of : ℕ → Limits
  places_of k = record { lower = get_or s.lower k (pos 0); upper = get_or s.upper k (pos 0) }

  pub all-places : (ls : List Limits) → ls ≡ tab places_of max_depth → map limit_of ls ≡ tab (limit_at s.lower s.upper) max_depth
  all-places ls e = ap (map limit_of) e ∙ map-tab limit_of places_of max_depth

  -- the first of the loops that stand in an array
  pub all-limits : (ls : List Limits) → map limit_of ls ≡ tab (limit_at s.lower s.upper) max_depth → (n : ℕ) → n ≡ depth_of s → depth_of s ≤ max_depth → loop_limits (take n ls) ≡ limits_of s
  unfolding limits_of
  all-limits ls e n d m = sym (take-map limit_of n ls) ∙ ap₂ (λ (i : ℕ) (t : List Limit). take i t) d e ∙ take-tab (limit_at s.lower s.upper) max_depth (depth_of s) m

  -- none has crossed limits, of an accepted nest
  pub all-fine : refusal s ≡ 0 → any crossed (limits_of s) ≡ false
  all-fine ok = unfold limits_of in none-crossed s ok

  -- their points are the index points
  pub all-count : point_count (limits_of s) ≡ length (points_of s)
  unfolding points_of
  all-count = sym (point-count (limits_of s))

  -- so what the walk leaves is their keys, with what stood behind them
  pub all-keys : (old new : List ℤ) → new ≡ map (key_from (pos 0)) (points (limits_of s)) ++ drop (point_count (limits_of s)) old → new ≡ keys_of s ++ drop (length (points_of s)) old
  unfolding keys_of key points_of
  all-keys old new e = e ∙ ap (λ m. map key (points (limits_of s)) ++ drop m old) all-count
