-- A block sends to at most 2m - β other blocks (document 02, U3; 000, theorem 2), for every accepted nest and every depth, whether dependences stay in
-- their class or not.
-- Along any dependence the iterations of a block lead to at most two blocks: their coordinates differ in the last only, and by less than the group size, and so do those of the
-- iterations that they lead to. Along a chosen vector they lead to one other block at most: one coordinate is 1 more, so a block's quotients stay, or one of them is 1 more. The vectors chosen are β of the m.
-- Assumes nothing.
use mathlib.Core.Path.{◌≡◌, refl, sym, ap, ap₂, ◌∙◌}
use mathlib.Core.Bool.{Bool, true, false}
use mathlib.Core.Logic.{◌⊎◌, inl, inr, ⊎_elim, ◌≢◌, ◌↔◌}
use mathlib.Core.List.{List, [], ◌∷◌, map}
use mathlib.Core.Option.{some}
use Prim.Native.Nat.{ℕ, ◌+◌, ◌*◌, ◌<◌, ◌≤◌}
use native.Mathlib.Nat.{mul_comm}
use native.Mathlib.Omega.{arith}
use borrow.Author.Tests.{eq-eqb, ne_eqb}
use lib.Dec.{eqb}
use lib.IntN.{ℤ, pos, neg_ℤ, ◌+ℤ◌, ◌*ℤ◌}
use lib.ListN.{length, get_or, length-map}
use Rattle.integers.specs.Division.{left_over}
use Rattle.integers.specs.Lists.{any, place, tab, count, one_if, repeats}
use Rattle.integers.specs.Vector.{Vector, eq_v}
use Rattle.integers.proofs.Linear.{ints}
use Rattle.integers.proofs.Ring.{*ℤ_idl}
use Rattle.integers.proofs.ListFacts.{get_d_map, any-mem}
use Rattle.integers.proofs.Lists.{split, clash, length-tab, any-tab-some, any-tab_found, place-below, place-passes}
use Rattle.integers.proofs.Solver.{var, ◌⊕◌, ◌⊖◌, ring}
use Rattle.integers.proofs.Sums.{one_no, one-most, count_less, count_nowhere, count-one, count-two, count_some, count_most, total_with, count-listed}
use Rattle.integers.proofs.Vector.{eq_v_true, eq_v_refl}
use Rattle.nest.specs.declared.LoopNest.{LoopNest}
use Rattle.nest.specs.Nest.{depth_of, count_of, time_of, dependences_of}
use Rattle.nest.specs.Points.{points_of, point, source}
use Rattle.nest.specs.Refusals.{refusal, dependence}
use Rattle.nest.specs.Sources.{source_rank}
use Rattle.nest.proofs.Lengths.{time_length}
use Rattle.nest.proofs.PointLaws.{point-length, source_iff}
use Rattle.grouping.specs.Projection.{projection}
use Rattle.grouping.specs.Grouping.{AllLength, shifted, chosen_vectors, chosen_count, directions, frame, Group, quotients, block_number}
use Rattle.grouping.proofs.Vectors.{comp, comp-projection-minus, same-components, length-projection}
use Rattle.grouping.proofs.Elimination.{sum_at}
use Rattle.grouping.proofs.Classes.{directions-length, length-shifted, comp-shifted}
use Rattle.grouping.proofs.Chosen.{chain_differ}
use Rattle.grouping.proofs.Raised.{raise, raise-length, raise-none, raise-sum, raise-quotients, last_place, last_of, last-most, LastApart, last_apart}
use Rattle.partition.specs.Partition.{frame_of, blocks_of, block_groups, size_of, chosen_of, seed_of, class_of, group_at, block_at}
use Rattle.partition.specs.Sending.{comes_from, receives, receiver_count, most_receivers, bound_of}
use Rattle.partition.proofs.Sends.{other_iff, some_iff, comes_iff, receives_iff}
use Rattle.partition.proofs.Theorems.{sound, chosen_are_listed, size-some, seed_length, class-below, any-coefficients, some-coefficients, block_at_lem, block_iff}

-- a group by its class and its quotients
abbrev made : ℕ → List ℤ → Group
made c l = record { class = c; along = l }

module _ (s : LoopNest) (ok : refusal s ≡ 0) where
  -- the chosen projections
  abbrev D : List Vector
  D = map (projection (time_of s)) (chosen_vectors (time_of s) (dependences_of s))

  -- component c of the projection of iteration k, and of that of dependence i
  abbrev at : ℕ → ℕ → ℤ
  at k c = comp (projection (time_of s) (point s k)) c

  abbrev along : ℕ → ℕ → ℤ
  along i c = comp (projection (time_of s) (dependence s i)) c

  -- the coordinates of an iteration: those of the combination that its projection is
  abbrev Placed : ℕ → List ℤ → Type 0
  Placed k cs = (length cs ≡ chosen_of s) × (projection (time_of s) (point s k) ≡ shifted (projection (time_of s) (seed_of s (class_of s k))) cs D)

  placed : (k : ℕ) → k < length (points_of s) → (cs : List ℤ) × Placed k cs
  placed k h = let c = some-coefficients s ok k h in (c.0, (c.1, c.2))

  -- the projection of an iteration is that of its source and that of the dependence
  from-source : (k i j : ℕ) → source_rank s k i ≡ some j → (c : ℕ) → at k c ≡ at j c +ℤ along i c
  unfolding source
  from-source k i j e c =
      let m = ap (λ v. comp (projection (time_of s) v) c) ((source_iff s k i j).0 e).1 ∙ comp-projection-minus (time_of s) (point s k) (dependence s i) c in
      ring (at k c ∷ along i c ∷ []) (var 0) ((var 0 ⊖ var 1) ⊕ var 1) tt ∙ ap (λ z. z +ℤ along i c) (sym m)

  -- there is a coordinate for each chosen projection
  each : (cs : List ℤ) → length cs ≡ chosen_of s → length cs ≡ length D
  unfolding chosen_count
  each cs l = l ∙ sym (length-map (chosen_vectors (time_of s) (dependences_of s)) (projection (time_of s)))

  -- an iteration whose projection is t times a chosen one away from another's is in its class, with t more in one coordinate
  moved : (k j : ℕ) → k < length (points_of s) → j < length (points_of s) → (cs : List ℤ) → Placed j cs → (p : ℕ) (t : ℤ) → ((c : ℕ) → at k c ≡ at j c +ℤ t *ℤ comp (get_or D p []) c)
      → group_at s k ≡ made (class_of s j) (quotients (size_of s) (raise p t cs))
  moved k j hk hj cs w p t h =
      any-coefficients s ok k hk (class_of s j) (class-below s ok j hj) (raise p t cs) (raise-length p t cs ∙ w.0)
      (same-components (projection (time_of s) (point s k)) (shifted seed (raise p t cs) D) (long (point s k) (point-length s k hk) ∙ sym (length-shifted n seed (raise p t cs) D (long (seed_of s (class_of s j)) (seed_length s ok (class_of s j) (class-below s ok j hj))) all)) is)
    where
      n : ℕ
      n = depth_of s

      seed : Vector
      seed = projection (time_of s) (seed_of s (class_of s j))

      long : (v : Vector) → length v ≡ depth_of s → length (projection (time_of s) v) ≡ depth_of s
      long v l = length-projection (time_of s) v (l ∙ sym (time_length s)) ∙ time_length s

      all : AllLength (depth_of s) D
      all = unfold directions frame_of frame in directions-length (depth_of s) (frame_of s) (sound s ok)

      is : (c : ℕ) → at k c ≡ comp (shifted seed (raise p t cs) D) c
      is c =
          h c ∙ ap (λ v. comp v c +ℤ t *ℤ comp (get_or D p []) c) w.1 ∙ ap (λ z. z +ℤ t *ℤ comp (get_or D p []) c) (comp-shifted seed cs D c)
          ∙ ring (sum_at cs D c ∷ comp seed c ∷ (t *ℤ comp (get_or D p []) c) ∷ []) ((var 0 ⊕ var 1) ⊕ var 2) ((var 0 ⊕ var 2) ⊕ var 1) tt
          ∙ sym (comp-shifted seed (raise p t cs) D c ∙ ap (λ z. z +ℤ comp seed c) (raise-sum p t cs D (each cs w.0) c))

  -- the group of an iteration by its coordinates
  grouped : (j : ℕ) → j < length (points_of s) → (cs : List ℤ) → Placed j cs → group_at s j ≡ made (class_of s j) (quotients (size_of s) cs)
  grouped j hj cs w = any-coefficients s ok j hj (class_of s j) (class-below s ok j hj) cs w.0 w.1

  -- ---- what a block leads to along one dependence

  -- iteration `to` of block b has its source along dependence i in block a
  record Leads (a i b : ℕ) : Type 0 where
    to : ℕ
    from : ℕ
    iteration : to < length (points_of s)
    leads : source_rank s to i ≡ some from
    sender : block_at s from ≡ a
    receiver : block_at s to ≡ b

  -- the source is an iteration
  from_in : {a i b : ℕ} (w : Leads a i b) → w.from < length (points_of s)
  from_in {i} w = ((source_iff s w.to i w.from).0 w.leads).0

  -- sources in one block have one group
  one_group : {a i b c : ℕ} (v : Leads a i b) (w : Leads a i c) → group_at s w.from ≡ group_at s v.from
  one_group v w = (block_iff s ok w.from v.from (from_in w) (from_in v)).0 (w.sender ∙ sym v.sender)

  -- a block by a group that one of its iterations has
  numbered : {a i b : ℕ} (w : Leads a i b) (g : Group) → group_at s w.to ≡ g → b ≡ block_number (block_groups s) g
  numbered w g e = sym w.receiver ∙ block_at_lem s ok w.to w.iteration ∙ ap (block_number (block_groups s)) e

  -- Along any dependence: two blocks at most, those of two groups that depend on any one pair of iterations.
  module _ {a i b : ℕ} (v : Leads a i b) where
    -- the coordinates of that pair
    cs : List ℤ
    cs = (placed v.from (from_in v)).0

    ds : List ℤ
    ds = (placed v.to v.iteration).0

    -- how far the last coordinate of the source is above a multiple of the group size
    rest : ℤ
    rest = left_over (last_of cs) (pos (size_of s))

    lower : List ℤ
    lower = quotients (size_of s) (raise (last_place cs) (neg_ℤ rest) ds)

    first : Group
    first = made (class_of s v.to) lower

    second : Group
    second = made (class_of s v.to) (raise (last_place cs) (pos 1) lower)

    one_of_two : {c : ℕ} (w : Leads a i c) → (group_at s w.to ≡ first) ⊎ (group_at s w.to ≡ second)
    unfolding cs ds rest lower first second
    one_of_two w = ⊎_elim (λ e. inl (is ∙ ap (made (class_of s v.to)) e)) (λ e. inr (is ∙ ap (made (class_of s v.to)) e)) (raise-quotients (size_of s) (size-some s ok) n.more rest n.low n.high (last_place cs) ds (inr (omega (arith, last-most c0.0, b0.1.0, c0.1.0))))
      where
        b0 : (xs : List ℤ) × Placed v.to xs
        b0 = placed v.to v.iteration

        c0 : (xs : List ℤ) × Placed v.from xs
        c0 = placed v.from (from_in v)

        c1 : (xs : List ℤ) × Placed w.from xs
        c1 = placed w.from (from_in w)

        -- the two sources have one class and one list of quotients
        groups : made (class_of s w.from) (quotients (size_of s) c1.0) ≡ made (class_of s v.from) (quotients (size_of s) c0.0)
        groups = sym (grouped w.from (from_in w) c1.0 c1.1) ∙ one_group v w ∙ grouped v.from (from_in v) c0.0 c0.1

        n : LastApart (size_of s) c1.0 c0.0
        n = last_apart (size_of s) (size-some s ok) c1.0 c0.0 (c1.1.0 ∙ sym c0.1.0) (ap (λ (g : Group). g.along) groups)

        seed : ℕ → Vector
        seed k = projection (time_of s) (seed_of s k)

        step : ℕ → ℤ
        step c = n.more *ℤ comp (get_or D (last_place c0.0) []) c

        -- so their projections are a multiple of the last chosen one apart
        sources : (c : ℕ) → at w.from c ≡ at v.from c +ℤ step c
        sources c =
            ap (λ u. comp u c) c1.1.1 ∙ comp-shifted (seed (class_of s w.from)) c1.0 D c
            ∙ ap₂ ◌+ℤ◌ (ap (λ xs. sum_at xs D c) n.is ∙ raise-sum (last_place c0.0) n.more c0.0 D (each c0.0 c0.1.0) c) (ap (λ k. comp (seed k) c) (ap (λ (g : Group). g.class) groups))
            ∙ ring (sum_at c0.0 D c ∷ step c ∷ comp (seed (class_of s v.from)) c ∷ []) ((var 0 ⊕ var 1) ⊕ var 2) ((var 0 ⊕ var 2) ⊕ var 1) tt
            ∙ ap (λ z. z +ℤ step c) (sym (ap (λ u. comp u c) c0.1.1 ∙ comp-shifted (seed (class_of s v.from)) c0.0 D c))

        -- and those of the iterations that they lead to
        targets : (c : ℕ) → at w.to c ≡ at v.to c +ℤ step c
        targets c =
            from-source w.to i w.from w.leads c ∙ ap (λ z. z +ℤ along i c) (sources c)
            ∙ ring (at v.from c ∷ step c ∷ along i c ∷ []) ((var 0 ⊕ var 1) ⊕ var 2) ((var 0 ⊕ var 2) ⊕ var 1) tt
            ∙ ap (λ z. z +ℤ step c) (sym (from-source v.to i v.from v.leads c))

        is : group_at s w.to ≡ made (class_of s v.to) (quotients (size_of s) (raise (last_place c0.0) n.more b0.0))
        is = moved w.to v.to w.iteration v.iteration b0.0 b0.1 (last_place c0.0) n.more targets

  -- Along a chosen vector: one other block at most.
  module _ {a i b c : ℕ} (v : Leads a i b) (w : Leads a i c) (p : ℕ) (h : (x : ℕ) → along i x ≡ comp (get_or D p []) x) (o : c ≢ a) where
    one-of-one : group_at s w.to ≡ made (group_at s v.from).class (raise p (pos 1) (group_at s v.from).along)
    one-of-one =
        ⊎_elim (λ e. absurd (o (same (e ∙ ap (quotients (size_of s)) (raise-none p c1.0))))) (λ e. is ∙ ap (made (class_of s w.from)) (e ∙ ap (λ xs. raise p (pos 1) (quotients (size_of s) xs)) (raise-none p c1.0)) ∙ ap raised (sym from ∙ one_group v w))
        (raise-quotients (size_of s) (size-some s ok) (pos 1) (pos 0) (omega ints) (omega (ints, size-some s ok)) p c1.0 (inl refl))
      where
        c1 : (xs : List ℤ) × Placed w.from xs
        c1 = placed w.from (from_in w)

        raised : Group → Group
        raised g = made g.class (raise p (pos 1) g.along)

        from : group_at s w.from ≡ made (class_of s w.from) (quotients (size_of s) c1.0)
        from = grouped w.from (from_in w) c1.0 c1.1

        is : group_at s w.to ≡ made (class_of s w.from) (quotients (size_of s) (raise p (pos 1) c1.0))
        is = moved w.to w.from w.iteration (from_in w) c1.0 c1.1 p (pos 1)
            (λ x. from-source w.to i w.from w.leads x ∙ ap (λ z. at w.from x +ℤ z) (h x ∙ sym (*ℤ_idl (comp (get_or D p []) x))))

        -- with the quotients of its source it is in its source's block
        same : quotients (size_of s) (raise p (pos 1) c1.0) ≡ quotients (size_of s) c1.0 → c ≡ a
        same e = sym w.receiver ∙ (block_iff s ok w.to w.from w.iteration (from_in w)).1 (is ∙ ap (made (class_of s w.from)) e ∙ sym from) ∙ w.sender

  -- ---- how many

  -- some iteration of block b has its source along dependence i in block a
  abbrev leads_along : ℕ → ℕ → ℕ → Bool
  leads_along a i b = any (λ k. elim (eqb (block_at s k) b) as (λ _. Bool) [ true ↦ comes_from s (blocks_of s) a k i | false ↦ false ]) (tab (λ k. k) (length (points_of s)))

  -- and b is another block than a
  leads_to : ℕ → ℕ → ℕ → Bool
  leads_to a i b = elim (eqb b a) as (λ _. Bool) [ true ↦ false | false ↦ leads_along a i b ]

  leads_iff : (a i b : ℕ) → (leads_to a i b ≡ true) ↔ ((b ≢ a) × Leads a i b)
  unfolding leads_to
  leads_iff a i b = (
    λ t.
        let w = (other_iff b a (leads_along a i b)).0 t in
        let k = (some_iff s (blocks_of s) (λ k. comes_from s (blocks_of s) a k i) b).0 w.1 in
        let j = (comes_iff s (blocks_of s) a k.0 i).0 k.3 in
        (w.0, record { to = k.0; from = j.0; iteration = k.1; leads = j.1; sender = j.2; receiver = k.2 }),
    λ w.
        let l = w.1 in
        let j = (comes_iff s (blocks_of s) a l.to i).1 (l.from, l.leads, l.sender) in
        (other_iff b a (leads_along a i b)).1 (w.0, (some_iff s (blocks_of s) (λ k. comes_from s (blocks_of s) a k i) b).1 (l.to, l.iteration, l.receiver, j)),
  )

  -- a receiver is led to along some dependence
  led : (a b : ℕ) → receives s (blocks_of s) a b ≡ true → any (λ i. leads_to a i b) (tab (λ i. i) (count_of s)) ≡ true
  led a b t =
      let w = (receives_iff s (blocks_of s) a b).0 t in
      let d = w.1 in
      any-tab_found (λ i. leads_to a i b) (λ i. i) (count_of s) d.along d.listed
      ((leads_iff a d.along b).1 (w.0, record { to = d.to; from = d.from; iteration = d.iteration; leads = d.leads; sender = d.sender; receiver = d.receiver }))

  -- dependence i is a chosen vector
  is_chosen : ℕ → Bool
  is_chosen i = any (eq_v (dependence s i)) (chosen_vectors (time_of s) (dependences_of s))

  -- its projection is then one of the chosen ones
  chosen-place : (i : ℕ) → is_chosen i ≡ true → (p : ℕ) × ((c : ℕ) → along i c ≡ comp (get_or D p []) c)
  unfolding is_chosen
  chosen-place i t =
      let vs = chosen_vectors (time_of s) (dependences_of s) in
      let p = place (eq_v (dependence s i)) vs in
      let e = eq_v_true (dependence s i) (get_or vs p []) (place-passes (eq_v (dependence s i)) vs [] t) in
      (p, λ c. ap (λ v. comp (projection (time_of s) v) c) e ∙ sym (ap (λ v. comp v c) (get_d_map (projection (time_of s)) vs p [] [] (place-below (eq_v (dependence s i)) vs t))))

  -- along one dependence a block leads to two others at most, along a chosen one to one
  along-few : (n a i : ℕ) → count (leads_to a i) (tab (λ b. b) n) + one_if (is_chosen i) ≤ 2
  along-few n a i = split (any (leads_to a i) (tab (λ b. b) n)) some_led none_led
    where
      none_led : any (leads_to a i) (tab (λ b. b) n) ≡ false → count (leads_to a i) (tab (λ b. b) n) + one_if (is_chosen i) ≤ 2
      none_led f =
          let z = count_nowhere (leads_to a i) (tab (λ b. b) n) (λ b m. split (leads_to a i b) (λ t. clash (any-mem (leads_to a i) (tab (λ b. b) n) b m t) f) (λ e. e)) in
          omega (arith, z, one-most (is_chosen i))

      some_led : any (leads_to a i) (tab (λ b. b) n) ≡ true → count (leads_to a i) (tab (λ b. b) n) + one_if (is_chosen i) ≤ 2
      some_led t = split (is_chosen i) one two
        where
          v : (b : ℕ) × Leads a i b
          v = let w = any-tab-some (leads_to a i) (λ b. b) n t in (w.0, ((leads_iff a i w.0).0 w.2).1)

          one : is_chosen i ≡ true → count (leads_to a i) (tab (λ b. b) n) + one_if (is_chosen i) ≤ 2
          one h =
              let p = chosen-place i h in
              let j = v.1.from in
              let g = made (group_at s j).class (raise p.0 (pos 1) (group_at s j).along) in
              let c = count-one (leads_to a i) n (block_number (block_groups s) g) (λ b e. let w = (leads_iff a i b).0 e in numbered w.1 g (one-of-one v.1 w.1 p.0 p.1 w.0)) in
              omega (arith, c, one-most (is_chosen i))

          two : is_chosen i ≡ false → count (leads_to a i) (tab (λ b. b) n) + one_if (is_chosen i) ≤ 2
          two h =
              let x = block_number (block_groups s) (first v.1) in
              let y = block_number (block_groups s) (second v.1) in
              let c = count-two (leads_to a i) n x y
              (λ b e. let w = ((leads_iff a i b).0 e).1 in ⊎_elim (λ q. inl (numbered w (first v.1) q)) (λ q. inr (numbered w (second v.1) q)) (one_of_two v.1 w)) in
              omega (arith, c, one_no (is_chosen i) h)

  -- the vectors chosen are β of the dependences
  chosen_among : chosen_of s ≤ count is_chosen (tab (λ i. i) (count_of s))
  unfolding is_chosen chosen_count
  chosen_among =
      let vs = chosen_vectors (time_of s) (dependences_of s) in
      count-listed eq_v eq_v_refl eq_v_true (dependence s) (count_of s) vs differ (λ d m. chosen_are_listed s ok d m)
    where
      differ : repeats eq_v (chosen_vectors (time_of s) (dependences_of s)) ≡ false
      differ = unfold directions frame_of frame in
          chain_differ (depth_of s) (time_of s) (chosen_vectors (time_of s) (dependences_of s)) (directions-length (depth_of s) (frame_of s) (sound s ok)) (sound s ok).independent

  -- so β is at most m
  pub chosen-few : chosen_of s ≤ count_of s
  chosen-few = omega (arith, chosen_among, count_most is_chosen (tab (λ i. i) (count_of s)), length-tab (λ (i : ℕ). i) (count_of s))

  -- a block sends to at most 2m - β other blocks
  pub theorem_2 : (n a : ℕ) → receiver_count s (blocks_of s) n a + chosen_of s ≤ 2 * count_of s
  unfolding receiver_count
  theorem_2 n a =
      let m = count_of s in
      let bs = tab (λ (b : ℕ). b) n in
      let u = count_less (receives s (blocks_of s) a) (λ b. any (λ i. leads_to a i b) (tab (λ i. i) m)) (led a) bs in
      let w = count_some (leads_to a) m bs in
      let x = total_with (λ i. count (leads_to a i) bs) is_chosen 2 m (λ i l. along-few n a i) in
      omega (arith, u, w, x, chosen_among, mul_comm m 2)

  -- the bound by itself
  pub most-is : most_receivers s + chosen_of s ≡ 2 * count_of s
  unfolding most_receivers
  most-is = omega (arith, chosen-few)

  pub receivers-few : (n a : ℕ) → receiver_count s (blocks_of s) n a ≤ most_receivers s
  receivers-few n a = omega (arith, theorem_2 n a, most-is)

-- ---- what `most_receivers` answers beside its number
pub most-refused : (s : LoopNest) → refusal s ≢ 0 → bound_of s ≡ 0
unfolding bound_of
most-refused s h = rw (bound_of, ne_eqb (refusal s) 0 h) refl

pub most-accepted : (s : LoopNest) → refusal s ≡ 0 → bound_of s ≡ most_receivers s
unfolding bound_of
most-accepted s e = rw (bound_of, eq-eqb (refusal s) 0 e) refl
