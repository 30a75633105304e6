-- A table of groups, written from the front: the invariant of the loop over the points, and a turn. Assumes nothing.
use mathlib.Core.Path.{◌≡◌, refl, sym, ap, ◌∙◌, subst}
use mathlib.Core.Bool.{Bool, true}
use mathlib.Core.Logic.{◌⊎◌, inl, inr}
use mathlib.Core.List.{List, [], map}
use Prim.Native.Nat.{ℕ, ◌+◌, ◌<◌, ◌≤◌}
use native.Mathlib.Nat as NatL
use native.Mathlib.Omega.{arith}
use lib.IntN.{ℤ}
use Rattle.integers.proofs.ListFacts.{get_d_default, place_true}
use Rattle.integers.specs.Vector.{AllWithin, Vector}
use lib.ListN.{length, get_or, take, set, length-set, replicate, length-replicate}
use lib.Seq.{get_or-set_same, get_or-set_other}
use Rattle.integers.specs.Lists.{place, firsts}
use Rattle.grouping.specs.Grouping.{Frame, same_class, seeds, class_number, directions, difference}
use Rattle.numbering.specs.Tables.{row, rows}
use Rattle.grouping.specs.Basis.{GroupedAs, Grouped, basis_frame_by, in_one_class_by, residues_by, ClassRowsBy}
use Rattle.numbering.proofs.TableRows.{length-heads, head_at}
use Rattle.numbering.proofs.Table.{Reflexive, Numbered, numbered-start, numbered_seen, numbered_new, heads-count, number-most, numbered-number}

-- ---- the invariant

-- a table of numbers before anything is in it
abbrev pub blank : List ℕ
blank = replicate 4096 0

-- after i points: the first of each class, in `heads`, and the group of each point, in a row of `table`
pub record GroupsTo (same : Vector → Vector → Bool) (F : Frame) (count : ℕ) (t table₀ table : List Vector) (heads : List ℕ) (k i : ℕ) : Type 0 where
  -- the class numbers so far
  pub out : List ℕ
  pub num : Numbered same t blank out heads k i
  pub low : (j : ℕ) → j < i → get_or out j 0 < k
  pub grouped : (j : ℕ) → j < i → GroupedAs F count (get_or out j 0) (row t j) (row t (get_or heads (get_or out j 0) 0)) (row table j)
  pub rest : (j : ℕ) → i ≤ j → row table j ≡ row table₀ j
  pub size : length table ≡ length table₀
  pub within : (j : ℕ) → j < i → AllWithin 1000000000 (row table j)

-- before the first point
pub groups-start : (same : Vector → Vector → Bool) (F : Frame) (count : ℕ) (t table : List Vector) (heads : List ℕ) → GroupsTo same F count t table table heads 0 0
groups-start same F count t table heads =
    record { out = blank; num = numbered-start same t blank heads; low = λ j l. absurd (omega arith); grouped = λ j l. absurd (omega arith); rest = λ j l. refl; size = refl; within = λ j l. absurd (omega arith) }

-- what a turn does to the heads, for a point of class c: it is the head of a new class, or the class has one
abbrev pub Headed : List ℕ → ℕ → ℕ → ℕ → List ℕ → ℕ → ℕ → Type 0
Headed heads k i c heads' k' head = ((c ≡ k) × (heads' ≡ set heads k i) × (k' ≡ k + 1) × (head ≡ i)) ⊎ ((c ≡ k → ⊥) × (heads' ≡ heads) × (k' ≡ k) × (head ≡ get_or heads c 0))

module _ (same : Vector → Vector → Bool) (F : Frame) (count : ℕ) (t table₀ table : List Vector) (self : Reflexive same t) (heads : List ℕ) (k i c : ℕ)
    (K : GroupsTo same F count t table₀ table heads k i) (room : k < length heads) (low : i < length t) (short : i < 4096) (at : c ≡ place (same (row t i)) (firsts same (rows t i))) where
  -- there is a number for point i
  long : i < length blank
  long = subst (λ (n : ℕ). i < n) (sym (length-replicate {A = ℕ} 4096 0)) short

  -- its class is one of those so far, or the next
  pub class-most : c ≤ k
  class-most = number-most same t self blank K.out heads k i c K.num room low long at

  -- a class that is not new has a head, in that class
  pub head-low : (c ≡ k → ⊥) → get_or heads c 0 < i
  head-low n = K.num.below c (omega (arith, class-most, n))

  head-same : c < k → same (row t i) (row t (get_or heads c 0)) ≡ true
  head-same l =
      ap (same (row t i)) (sym (head_at t heads k c l) ∙ ap (λ (hs : List Vector). get_or hs c (row t 0)) K.num.heads_are) ∙ ap (λ (b : ℕ). same (row t i) (get_or H b (row t 0))) at
      ∙ place_true (row t 0) (same (row t i)) H (subst (λ (n : ℕ). n < length H) at (subst (λ (n : ℕ). c < n) (heads-count same t blank K.out heads k i K.num (NatL.le_of_lt room)) l))
    where
      H : List Vector
      H = firsts same (rows t i)

  module _ (heads' : List ℕ) (k' head : ℕ) (D : Headed heads k i c heads' k' head) where
    -- the head of the class
    pub head-least : head ≤ i
    head-least = go D
      where
        go : Headed heads k i c heads' k' head → head ≤ i
        go (inl e) = omega (arith, e.3)
        go (inr e) = omega (arith, e.3, head-low e.0)

    pub head_one : same (row t i) (row t head) ≡ true
    head_one = go D
      where
        go : Headed heads k i c heads' k' head → same (row t i) (row t head) ≡ true
        go (inl e) = ap (λ (n : ℕ). same (row t i) (row t n)) e.3 ∙ self i low
        go (inr e) = ap (λ (n : ℕ). same (row t i) (row t n)) e.3 ∙ head-same (omega (arith, class-most, e.0))

    pub heads_long : length heads' ≡ length heads
    heads_long = go D
      where
        go : Headed heads k i c heads' k' head → length heads' ≡ length heads
        go (inl e) = ap (λ (u : List ℕ). length u) e.1 ∙ length-set heads k i
        go (inr e) = ap (λ (u : List ℕ). length u) e.1

    -- one point more
    pub groups-more : (g : Vector) → i < length table → AllWithin 1000000000 g → GroupedAs F count c (row t i) (row t head) g → GroupsTo same F count t table₀ (set table i g) heads' k' (i + 1)
    groups-more g fits wg G =
        record {
          out = set K.out i c;
          num = num D;
          low = λ j l. low' j (below j l);
          grouped = λ j l. grouped' j (below j l);
          rest = λ j l. apart j (λ e. absurd (omega (arith, e, l))) ∙ K.rest j (omega (arith, l));
          size = length-set table i g ∙ K.size;
          within = λ j l. within' j (below j l);
        }
      where
        below : (j : ℕ) → j < i + 1 → (j ≡ i) ⊎ (j < i)
        below j l = NatL.eq-or-lt_of_le (omega arith)

        wide : i < length K.out
        wide = subst (λ (n : ℕ). i < n) (sym K.num.size) long

        num : Headed heads k i c heads' k' head → Numbered same t blank (set K.out i c) heads' k' (i + 1)
        num (inl e) = rw (e.1, e.2) (numbered_new same t self blank K.out heads k i c K.num room low long at e.0)
        num (inr e) = rw (e.1, e.2) (numbered_seen same t self blank K.out heads k i c K.num room low long at (omega (arith, class-most, e.0)))

        -- there is a head for each class
        more : (b : ℕ) → b < k → b < k'
        more b l = go D
          where
            go : Headed heads k i c heads' k' head → b < k'
            go (inl e) = omega (arith, l, e.2)
            go (inr e) = omega (arith, l, e.2)

        last : c < k'
        last = go D
          where
            go : Headed heads k i c heads' k' head → c < k'
            go (inl e) = omega (arith, e.0, e.2)
            go (inr e) = omega (arith, class-most, e.0, e.2)

        -- those that stood stand, and that of point i is its head
        stay : (b : ℕ) → b < k → get_or heads' b 0 ≡ get_or heads b 0
        stay b l = go D
          where
            go : Headed heads k i c heads' k' head → get_or heads' b 0 ≡ get_or heads b 0
            go (inl e) = ap (λ (u : List ℕ). get_or u b 0) e.1 ∙ get_or-set_other heads k b i 0 (NatL.ne_of_lt l)
            go (inr e) = ap (λ (u : List ℕ). get_or u b 0) e.1

        mine : get_or heads' c 0 ≡ head
        mine = go D
          where
            go : Headed heads k i c heads' k' head → get_or heads' c 0 ≡ head
            go (inl e) = ap (λ (u : List ℕ). get_or u c 0) e.1 ∙ ap (λ (b : ℕ). get_or (set heads k i) b 0) e.0 ∙ get_or-set_same heads k i 0 room ∙ sym e.3
            go (inr e) = ap (λ (u : List ℕ). get_or u c 0) e.1 ∙ sym e.3

        here : get_or (set K.out i c) i 0 ≡ c
        here = get_or-set_same K.out i c 0 wide

        there : (j : ℕ) → j < i → get_or (set K.out i c) j 0 ≡ get_or K.out j 0
        there j l = get_or-set_other K.out i j c 0 (NatL.ne_of_lt l)

        put : row (set table i g) i ≡ g
        put = get_or-set_same table i g [] fits

        apart : (j : ℕ) → (j ≡ i → ⊥) → row (set table i g) j ≡ row table j
        apart j n = get_or-set_other table i j g [] n

        low' : (j : ℕ) → (j ≡ i) ⊎ (j < i) → get_or (set K.out i c) j 0 < k'
        low' j (inl e) = subst (λ (n : ℕ). n < k') (sym (ap (λ (b : ℕ). get_or (set K.out i c) b 0) e ∙ here)) last
        low' j (inr l) = subst (λ (n : ℕ). n < k') (sym (there j l)) (more (get_or K.out j 0) (K.low j l))

        grouped' : (j : ℕ) → (j ≡ i) ⊎ (j < i) → GroupedAs F count (get_or (set K.out i c) j 0) (row t j) (row t (get_or heads' (get_or (set K.out i c) j 0) 0)) (row (set table i g) j)
        grouped' j (inl e) = rw (e, here, mine, put) G
        grouped' j (inr l) = rw (there j l, stay (get_or K.out j 0) (K.low j l), apart j (NatL.ne_of_lt l)) (K.grouped j l)

        within' : (j : ℕ) → (j ≡ i) ⊎ (j < i) → AllWithin 1000000000 (row (set table i g) j)
        within' j (inl e) = subst (AllWithin 1000000000) (sym (ap (row (set table i g)) e ∙ put)) wg
        within' j (inr l) = subst (AllWithin 1000000000) (sym (apart j (NatL.ne_of_lt l))) (K.within j l)

-- ---- the end

-- the group in each row is relative to the first point of its class
groups-same : (same : Vector → Vector → Bool) (F : Frame) (count : ℕ) (t table₀ table : List Vector) (heads : List ℕ) (k n : ℕ) → GroupsTo same F count t table₀ table heads k n → k ≤ length heads → n ≤ length t → (j : ℕ) → j < n
    → GroupedAs F count (place (same (row t j)) (firsts same (rows t n))) (row t j) (get_or (firsts same (rows t n)) (place (same (row t j)) (firsts same (rows t n))) []) (row table j)
groups-same same F count t table₀ table heads k n K room wide j l =
    subst (λ (b : ℕ). GroupedAs F count b (row t j) (get_or (firsts same (rows t n)) b []) (row table j)) number
    (subst (λ (v : Vector). GroupedAs F count (get_or K.out j 0) (row t j) v (row table j)) seed (K.grouped j l))
  where
    number : get_or K.out j 0 ≡ place (same (row t j)) (firsts same (rows t n))
    number = numbered-number same t blank K.out heads k n K.num wide j l

    seed : row t (get_or heads (get_or K.out j 0) 0) ≡ get_or (firsts same (rows t n)) (get_or K.out j 0) []
    seed =
        sym (head_at t heads k (get_or K.out j 0) (K.low j l))
        ∙ get_d_default (row t 0) [] (map (row t) (take k heads)) (get_or K.out j 0) (subst (λ (b : ℕ). get_or K.out j 0 < b) (sym (length-heads t heads k room)) (K.low j l))
        ∙ ap (λ (hs : List Vector). get_or hs (get_or K.out j 0) []) K.num.heads_are

-- the group size plays no part in the test for one class
pub size-free : (P a b c : Vector) (count r : ℕ) → in_one_class_by P count a b c ≡ same_class (basis_frame_by P count a b c r)
unfolding same_class directions difference
size-free P a b c count r = refl

-- after the last point every row is a group
pub groups_end : (P a b c : Vector) (count r : ℕ) (t table₀ table : List Vector) (heads : List ℕ) (k n : ℕ) → GroupsTo (in_one_class_by P count a b c) (basis_frame_by P count a b c r) count t table₀ table heads k n
    → k ≤ length heads → n ≤ length t → Grouped (basis_frame_by P count a b c r) count t n table₀ table
unfolding class_number seeds
groups_end P a b c count r t table₀ table heads k n K₀ room wide =
    record {
      grouped = groups-same (same_class (basis_frame_by P count a b c r)) (basis_frame_by P count a b c r) count t table₀ table heads k n K room wide;
      rest = K.rest;
      size = K.size;
      within = K.within;
    }
  where
    K : GroupsTo (same_class (basis_frame_by P count a b c r)) (basis_frame_by P count a b c r) count t table₀ table heads k n
    K = subst (λ (s : Vector → Vector → Bool). GroupsTo s (basis_frame_by P count a b c r) count t table₀ table heads k n) (size-free P a b c count r) K₀

-- ---- the residues of the points, written from the front

-- one point more
pub class-rows-more : (count : ℕ) (f1 f2 f3 : Vector) (d : ℤ) (t table₀ table : List Vector) (i : ℕ) (g : Vector) → ClassRowsBy count f1 f2 f3 d t i table₀ table → i < length table
    → g ≡ residues_by count f1 f2 f3 d (row t i) → AllWithin 1000000000 g → ClassRowsBy count f1 f2 f3 d t (i + 1) table₀ (set table i g)
class-rows-more count f1 f2 f3 d t table₀ table i g K fits e w =
    record {
      rows_are = λ j l. rows' j (NatL.eq-or-lt_of_le (omega arith));
      rest = λ j l. apart j (λ q. absurd (omega (arith, q, l))) ∙ K.rest j (omega (arith, l));
      size = length-set table i g ∙ K.size;
      within = λ j l. within' j (NatL.eq-or-lt_of_le (omega arith));
    }
  where
    here : row (set table i g) i ≡ g
    here = get_or-set_same table i g [] fits

    apart : (j : ℕ) → (j ≡ i → ⊥) → row (set table i g) j ≡ row table j
    apart j n = get_or-set_other table i j g [] n

    rows' : (j : ℕ) → (j ≡ i) ⊎ (j < i) → row (set table i g) j ≡ residues_by count f1 f2 f3 d (row t j)
    rows' j (inl q) = subst (λ (m : ℕ). row (set table i g) m ≡ residues_by count f1 f2 f3 d (row t m)) (sym q) (here ∙ e)
    rows' j (inr l) = apart j (NatL.ne_of_lt l) ∙ K.rows_are j l

    within' : (j : ℕ) → (j ≡ i) ⊎ (j < i) → AllWithin 1000000000 (row (set table i g) j)
    within' j (inl q) = subst (AllWithin 1000000000) (sym (ap (row (set table i g)) q ∙ here)) w
    within' j (inr l) = subst (AllWithin 1000000000) (sym (apart j (NatL.ne_of_lt l))) (K.within j l)
