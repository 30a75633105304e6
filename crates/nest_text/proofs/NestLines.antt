-- The lines of a nest and the nest that lines give: each is had back from the other.
-- Assumes nothing.
use mathlib.Core.Path.{◌≡◌, refl, sym, ap, ap₂, subst, ◌∙◌}
use mathlib.Core.List.{List, [], ◌∷◌, ◌++◌, map, tail, append_assoc}
use mathlib.Core.Logic.{◌⊎◌, inl, inr, ⊎_elim}
use Prim.Native.Nat.{ℕ, zero, suc, ◌+◌, ◌*◌, ◌-◌, ◌≤◌, ◌<◌}
use native.Mathlib.Nat.{suc-ne-zero, suc_inj}
use native.Mathlib.Omega.{arith}
use borrow.Author.Tests.{eqb-true, eqb-false}
use lib.Dec.{eqb}
use lib.IntN.{ℤ, pos}
use lib.ListN.{length, get_or, take, drop, replicate, length-append, length-map, length-drop, length-replicate}
use lib.ListN.{get_or-replicate, get_or-map, take-append-drop}
use lib.Seq.{take_at, drop_at, get_or_at}
use Rattle.integers.specs.Lists.{tab}
use Rattle.integers.proofs.Lists.{split, tab-list, map-tab}
use Rattle.nest.specs.declared.LoopNest.{LoopNest}
use Rattle.nest.specs.Nest.{Limit, part, depth_of, count_of, limit_at, limits_of, time_of, dependence_at, dependences_of}
use Rattle.nest.specs.Nest.{to_ℕ, boundaries_of, weights_of, nest_of, cleared, max_depth}
use Rattle.nest_text.specs.Text.{at, long_last, lines_with, widths, short_width, long_width, boundaries_in, weights_in}
use Rattle.nest_text.specs.Text.{nest_from}
use Rattle.nest_text.specs.Form.{LastSays}
use Rattle.nest_text.proofs.LastLine.{boundaries_short, boundaries-long, boundaries-count}
use Rattle.nest.proofs.Lengths.{limits-length, time_length, dependences_count, boundaries-length, weights-length}
use Rattle.nest.proofs.Places.{Fitting, made-limits, made-time, made_dependences, made-boundaries, made-weights}
use Rattle.nest.proofs.Places.{made-cleared}
use Rattle.nest.proofs.Words.{part_length}

-- the numbers of lines
abbrev pub Lines : Type 0
Lines = List (List ℤ)

-- the two numbers of a loop's line
abbrev pub pair : Limit → List ℤ
pair l = l.lower ∷ l.upper ∷ []

-- two numbers as limits
abbrev pub limit : List ℤ → Limit
limit l = record { lower = at l 0; upper = at l 1 }

-- the lines behind line 1, with this last line
abbrev pub body_lines : LoopNest → List ℤ → Lines
body_lines s last = map pair (limits_of s) ++ (time_of s ∷ (dependences_of s ++ (last ∷ [])))

-- ---- the nest that lines give

-- the parts of a nest stand in its lines where they are looked for
from-lines : (n m : ℕ) (c : ℤ) (lims : Lines) (time : List ℤ) (deps : Lines) (last : List ℤ) → length lims ≡ n → length deps ≡ m
    → nest_from n m c (lims ++ (time ∷ (deps ++ (last ∷ [])))) ≡ nest_of c (map limit lims) time deps (boundaries_in m (length last) last) (weights_in m (length last) last)
unfolding nest_from
from-lines n m c lims time deps last p q =
    ap₂ (λ (a : Lines) (t : List ℤ). nest_of c (map limit a) t (take m (drop (n + 1) ls)) (boundaries_in m (length found) found) (weights_in m (length found) found))
    (take_at lims (time ∷ (deps ++ (last ∷ []))) n p) (get_or_at lims time (deps ++ (last ∷ [])) [] n p)
    ∙ ap₂ (λ (d : Lines) (l : List ℤ). nest_of c (map limit lims) time d (boundaries_in m (length l) l) (weights_in m (length l) l))
    (ap (take m) (ap (drop (n + 1)) one ∙ drop_at (lims ++ (time ∷ [])) (deps ++ (last ∷ [])) (n + 1) front) ∙ take_at deps (last ∷ []) m q)
    (ap (λ x. get_or x (n + 1 + m) []) two ∙ get_or_at ((lims ++ (time ∷ [])) ++ deps) last [] [] (n + 1 + m) middle)
  where
    ls : Lines
    ls = lims ++ (time ∷ (deps ++ (last ∷ [])))

    found : List ℤ
    found = get_or ls (n + 1 + m) []

    one : ls ≡ (lims ++ (time ∷ [])) ++ (deps ++ (last ∷ []))
    one = sym (append_assoc lims (time ∷ []) (deps ++ (last ∷ [])))

    two : ls ≡ ((lims ++ (time ∷ [])) ++ deps) ++ (last ∷ [])
    two = one ∙ sym (append_assoc (lims ++ (time ∷ [])) deps (last ∷ []))

    front : length (lims ++ (time ∷ [])) ≡ n + 1
    front = length-append lims (time ∷ []) ∙ ap (λ k. k + 1) p

    middle : length ((lims ++ (time ∷ [])) ++ deps) ≡ n + 1 + m
    middle = length-append (lims ++ (time ∷ [])) deps ∙ ap₂ (λ a b. a + b) front q

-- ---- the first number of a line

-- a line of one number, with others behind it
one_value : (xs ys : List ℤ) → length xs ≡ 1 → xs ≡ at (xs ++ ys) 0 ∷ []
one_value [] ys e = absurd (omega arith)
one_value (x ∷ []) ys e = refl
one_value (x ∷ y ∷ xs) ys e = absurd (omega arith)

-- the first number before the others
first_back : (l : List ℤ) → 1 ≤ length l → l ≡ at l 0 ∷ drop 1 l
first_back [] h = absurd (omega arith)
first_back (a ∷ l) h = refl

-- ---- a last line that says a nest's boundary values and weights

-- it has one of the two numbers of fields
pub says-width : (s : LoopNest) (last : List ℤ) → LastSays s last → (length last ≡ short_width (count_of s)) ⊎ (length last ≡ long_width (count_of s))
says-width s last (inl e) = inr (ap length e ∙ length-append (boundaries_of s) (weights_of s) ∙ ap₂ (λ a b. a + b) (boundaries-length s) (weights-length s))
says-width s last (inr (z, b, e)) = inl (ap length e ∙ omega (arith, weights-length s))

-- it is read as these
said : (s : LoopNest) (last : List ℤ) → LastSays s last → (boundaries_in (count_of s) (length last) last ≡ boundaries_of s) × (weights_in (count_of s) (length last) last ≡ weights_of s)
said s last (inl e) = (ap (λ l. boundaries_in m (length l) l) e ∙ values, ap (λ l. weights_in m (length l) l) e ∙ weights)
  where
    m : ℕ
    m = count_of s

    long : length (long_last s) ≡ m + m
    long = length-append (boundaries_of s) (weights_of s) ∙ ap₂ (λ a b. a + b) (boundaries-length s) (weights-length s)

    values : boundaries_in m (length (long_last s)) (long_last s) ≡ boundaries_of s
    values = split (eqb (length (long_last s)) (short_width m))
        (λ t.
        let w = eqb-true (length (long_last s)) (short_width m) t in
        let one : m ≡ 1 = omega (arith, w, long) in
        boundaries_short m (length (long_last s)) (long_last s) w
        ∙ ap (λ n. replicate n (at (long_last s) 0)) one
        ∙ sym (one_value (boundaries_of s) (weights_of s) (boundaries-length s ∙ one)))
        (λ f. boundaries-long m (length (long_last s)) (long_last s) (eqb-false (length (long_last s)) (short_width m) f) ∙ take_at (boundaries_of s) (weights_of s) m (boundaries-length s))

    weights : weights_in m (length (long_last s)) (long_last s) ≡ weights_of s
    weights = let e : length (long_last s) - m ≡ m = omega (arith, long) in ap (λ n. drop n (long_last s)) e ∙ drop_at (boundaries_of s) (weights_of s) m (boundaries-length s)
said s last (inr (z, b, e)) = (
  ap (λ l. boundaries_in m (length l) l) e ∙ boundaries_short m (length (z ∷ weights_of s)) (z ∷ weights_of s) width ∙ sym b,
  ap (λ l. weights_in m (length l) l) e ∙ ap (λ n. drop n (z ∷ weights_of s)) first,
)
  where
    m : ℕ
    m = count_of s

    width : length (z ∷ weights_of s) ≡ short_width m
    width = omega (arith, weights-length s)

    first : length (z ∷ weights_of s) - m ≡ 1
    first = omega (arith, weights-length s)

-- limits as two numbers, and back
limits_again : (ls : List Limit) → map limit (map pair ls) ≡ ls
limits_again [] = refl
limits_again (l ∷ ls) = ap (λ (x : List Limit). l ∷ x) (limits_again ls)

-- the lines of a nest give that nest, with 0 in the places that are no part of it
pub nest_again : (s : LoopNest) (last : List ℤ) → LastSays s last → nest_from (depth_of s) (count_of s) s.cube (body_lines s last) ≡ cleared s
unfolding cleared
nest_again s last says =
    from-lines (depth_of s) (count_of s) s.cube (map pair (limits_of s)) (time_of s) (dependences_of s) last
    (length-map (limits_of s) pair ∙ limits-length s)
    (dependences_count s)
    ∙ ap₂ (λ l b. nest_of s.cube l (time_of s) (dependences_of s) b (weights_in (count_of s) (length last) last)) (limits_again (limits_of s)) (said s last says).0
    ∙ ap (λ w. nest_of s.cube (limits_of s) (time_of s) (dependences_of s) (boundaries_of s) w) (said s last says).1

-- ---- the numbers of fields of the lines of a nest

-- of lines behind lines
widths-append : (xs ys : Lines) → map length (xs ++ ys) ≡ map length xs ++ map length ys
widths-append [] ys = refl
widths-append (x ∷ xs) ys = ap (λ (l : List ℕ). length x ∷ l) (widths-append xs ys)

-- a table of lines of k fields each
same-widths : (g : ℕ → List ℤ) (k n : ℕ) → ((i : ℕ) → i < n → length (g i) ≡ k) → map length (tab g n) ≡ replicate n k
same-widths g k n h =
    map-tab length g n ∙ tab-list (λ i. length (g i)) (replicate n k) 0 n (length-replicate n k) (λ i l. h i l ∙ sym (get_or-replicate n i k 0 l))

-- the lines behind line 1 have as many fields as the depth and the number of dependences say
pub body-widths : (s : LoopNest) (last : List ℤ) → map length (body_lines s last) ≡ widths (depth_of s) (count_of s) (length last)
unfolding widths limits_of time_of dependences_of part
body-widths s last =
    widths-append (map pair (limits_of s)) (time_of s ∷ (dependences_of s ++ (last ∷ [])))
    ∙ ap₂ (λ (a b : List ℕ). a ++ b)
    (ap (map length) (map-tab pair (limit_at s.lower s.upper) (depth_of s)) ∙ same-widths (λ k. pair (limit_at s.lower s.upper k)) 2 (depth_of s) (λ i l. refl))
    (ap₂ (λ (a : ℕ) (b : List ℕ). a ∷ b) (time_length s)
    (widths-append (dependences_of s) (last ∷ [])
    ∙ ap (λ (a : List ℕ). a ++ (length last ∷ []))
    (same-widths (dependence_at s.dependences (depth_of s)) (depth_of s) (count_of s) (λ i l. part_length s.dependences (i * max_depth) (depth_of s)))))

-- ---- lines with the numbers of fields that a text has

-- lines whose numbers of fields are xs ++ ys have a part for each
cut : (xs ys : List ℕ) (ls : Lines) → map length ls ≡ xs ++ ys → (p : Lines) × (q : Lines) × (ls ≡ p ++ q) × (map length p ≡ xs) × (map length q ≡ ys)
cut [] ys ls e = ([], ls, refl, refl, e)
cut (x ∷ xs) ys [] e = absurd (suc-ne-zero (length (xs ++ ys)) (sym (ap length e)))
cut (x ∷ xs) ys (l ∷ ls) e =
    let r = cut xs ys ls (ap tail e) in
    (l ∷ r.0, r.1, ap (λ (z : Lines). l ∷ z) r.2, ap₂ (λ (a : ℕ) (b : List ℕ). a ∷ b) (ap (λ z. get_or z 0 0) e) r.3, r.4)

-- a first line
cons_cut : (x : ℕ) (xs : List ℕ) (ls : Lines) → map length ls ≡ x ∷ xs → (l : List ℤ) × (q : Lines) × (ls ≡ l ∷ q) × (length l ≡ x) × (map length q ≡ xs)
cons_cut x xs [] e = absurd (suc-ne-zero (length xs) (sym (ap length e)))
cons_cut x xs (l ∷ ls) e = (l, ls, refl, ap (λ z. get_or z 0 0) e, ap tail e)

-- no line
no_lines : (ls : Lines) → map length ls ≡ [] → ls ≡ []
no_lines [] e = refl
no_lines (l ∷ ls) e = absurd (suc-ne-zero (length (map length ls)) (ap length e))

-- lines of k fields: as many as there are widths
how_many : (n k : ℕ) (ls : Lines) → map length ls ≡ replicate n k → length ls ≡ n
how_many n k ls e = sym (length-map ls length) ∙ ap length e ∙ length-replicate n k

-- and each has k
how_wide : (n k : ℕ) (ls : Lines) → map length ls ≡ replicate n k → (i : ℕ) → i < n → length (get_or ls i []) ≡ k
how_wide n k ls e i h = sym (get_or-map length ls i []) ∙ ap (λ l. get_or l i 0) e ∙ get_or-replicate n i k 0 h

-- the lines behind line 1 of a text in form
pub record Parts (n m k : ℕ) (ls : Lines) : Type 0 where
  lims : Lines
  time : List ℤ
  deps : Lines
  pub last : List ℤ
  is : ls ≡ lims ++ (time ∷ (deps ++ (last ∷ [])))
  lims_wide : map length lims ≡ replicate n 2
  time_wide : length time ≡ n
  deps_wide : map length deps ≡ replicate m n
  last_wide : length last ≡ k

-- the parts behind one another
joined : {ls p q r e : Lines} (a : Lines) (b : List ℤ) (c : Lines) (d : List ℤ) → ls ≡ a ++ p → p ≡ b ∷ q → q ≡ c ++ r → r ≡ d ∷ e → e ≡ [] → ls ≡ a ++ (b ∷ (c ++ (d ∷ [])))
joined a b c d f g h k l = cc

-- lines in form have these parts
pub parts : (n m k : ℕ) (ls : Lines) → map length ls ≡ widths n m k → Parts n m k ls
unfolding widths
parts n m k ls e =
    let a = cut (replicate n 2) (n ∷ (replicate m n ++ (k ∷ []))) ls e in
    let b = cons_cut n (replicate m n ++ (k ∷ [])) a.1 a.4 in
    let c = cut (replicate m n) (k ∷ []) b.1 b.4 in
    let d = cons_cut k [] c.1 c.4 in
    record {
      lims = a.0;
      time = b.0;
      deps = c.0;
      last = d.0;
      is = joined a.0 b.0 c.0 d.0 a.2 b.2 c.2 d.2 (no_lines d.1 d.4);
      lims_wide = a.3;
      time_wide = b.3;
      deps_wide = c.3;
      last_wide = d.3;
    }

-- a line of two numbers
pair-back : (l : List ℤ) → length l ≡ 2 → at l 0 ∷ at l 1 ∷ [] ≡ l
pair-back [] e = absurd (suc-ne-zero 1 (sym e))
pair-back (a ∷ []) e = absurd (suc-ne-zero 0 (sym (suc_inj e)))
pair-back (a ∷ b ∷ []) e = refl
pair-back (a ∷ b ∷ c ∷ l) e = absurd (suc-ne-zero (length l) (suc_inj (suc_inj e)))

-- a line of three numbers
pub triple_back : (l : List ℤ) → length l ≡ 3 → at l 0 ∷ at l 1 ∷ at l 2 ∷ [] ≡ l
triple_back [] e = absurd (suc-ne-zero 2 (sym e))
triple_back (a ∷ l) e = ap (λ (z : List ℤ). a ∷ z) (pair-back l (suc_inj e))

-- two numbers as limits, and back
pairs-back : (n : ℕ) (ls : Lines) → map length ls ≡ replicate n 2 → map pair (map limit ls) ≡ ls
pairs-back n [] e = refl
pairs-back zero (l ∷ ls) e = absurd (suc-ne-zero (length (map length ls)) (ap length e))
pairs-back (suc n) (l ∷ ls) e = ap₂ (λ (a : List ℤ) (b : Lines). a ∷ b) (pair-back l (ap (λ z. get_or z 0 0) e)) (pairs-back n ls (ap tail e))

-- the nest that such lines give, of which the last has k fields
module _ (n m k : ℕ) (c : ℤ) (ls : Lines) (p : Parts n m k ls) (few : n ≤ max_depth) (wide : (k ≡ short_width m) ⊎ (k ≡ long_width m)) where
  -- the boundary values that the last says
  values : List ℤ
  values = boundaries_in m (length p.last) p.last

  -- and the weights
  weights : List ℤ
  weights = weights_in m (length p.last) p.last

  -- its limits, time vector, dependences, boundary values and weights
  pub made : LoopNest
  made = nest_of c (map limit p.lims) p.time p.deps values weights

  -- as many limits as lines
  loops : length (map limit p.lims) ≡ n
  loops = length-map p.lims limit ∙ how_many n 2 p.lims p.lims_wide

  -- as many dependences
  count : length p.deps ≡ m
  count = how_many m n p.deps p.deps_wide

  -- the last line has room for the weights
  room : m ≤ length p.last
  room = ⊎_elim (λ e. omega (arith, e, p.last_wide)) (λ e. omega (arith, e, p.last_wide)) wide

  -- it is the nest that is read
  pub made_is : nest_from n m c ls ≡ made
  unfolding made values weights
  made_is = ap (nest_from n m c) p.is ∙ from-lines n m c p.lims p.time p.deps p.last (how_many n 2 p.lims p.lims_wide) count

  -- its parts fit one another
  fit : Fitting (map limit p.lims) p.time p.deps values weights
  unfolding values weights
  fit = record {
    few = subst (λ k. k ≤ max_depth) (sym loops) few;
    time_fits = p.time_wide ∙ sym loops;
    each_fits = λ i l. how_wide m n p.deps p.deps_wide i (subst (λ k. i < k) count l) ∙ sym loops;
    boundaries_fit = boundaries-count m (length p.last) p.last room ∙ sym count;
    weights_fit = length-drop (length p.last - m) p.last ∙ omega (arith, room, count);
  }

  -- line 1 again
  made_depth : made.depth ≡ pos n
  unfolding made nest_of
  made_depth = ap pos loops

  -- its number of dependences
  made-count : made.count ≡ pos m
  unfolding made nest_of
  made-count = ap pos count

  -- its cube dimension
  made_cube : made.cube ≡ c
  unfolding made nest_of
  made_cube = refl

  -- its other parts
  made-parts : (limits_of made ≡ map limit p.lims) × (time_of made ≡ p.time) × (dependences_of made ≡ p.deps)
  unfolding made
  made-parts =
      let ls' = map limit p.lims in
      (made-limits c ls' p.time p.deps values weights, made-time c ls' p.time p.deps values weights fit, made_dependences c ls' p.time p.deps values weights fit)

  -- its boundary values and weights
  made-last : (boundaries_of made ≡ values) × (weights_of made ≡ weights)
  unfolding made
  made-last = let ls' = map limit p.lims in (made-boundaries c ls' p.time p.deps values weights fit, made-weights c ls' p.time p.deps values weights fit)

  -- which the last line says
  pub made-says : LastSays made p.last
  unfolding values weights
  made-says = split (eqb (length p.last) (short_width m)) (λ t. short (eqb-true (length p.last) (short_width m) t)) (λ f. long (eqb-false (length p.last) (short_width m) f))
    where
      short : length p.last ≡ short_width m → LastSays made p.last
      short w =
          let number : m ≡ count_of made = unfold to_ℕ in ap to_ℕ (sym made-count) in
          let one : length p.last - m ≡ 1 = omega (arith, w) in
          inr (
            at p.last 0,
            made-last.0 ∙ boundaries_short m (length p.last) p.last w ∙ ap (λ j. replicate j (at p.last 0)) number,
            first_back p.last (omega (arith, w)) ∙ ap (λ (l : List ℤ). at p.last 0 ∷ l) (sym (made-last.1 ∙ ap (λ j. drop j p.last) one)),
          )

      long : (length p.last ≡ short_width m → ⊥) → LastSays made p.last
      long h =
          let w : k ≡ long_width m = ⊎_elim (λ e. absurd (h (p.last_wide ∙ e))) (λ e. e) wide in
          let back : length p.last - m ≡ m = omega (arith, w, p.last_wide) in
          inl (sym (ap₂ (λ (a b : List ℤ). a ++ b) (made-last.0 ∙ boundaries-long m (length p.last) p.last h) (made-last.1 ∙ ap (λ j. drop j p.last) back) ∙ take-append-drop m p.last))

  -- it has the numbers that the lines have
  pub made-lines : lines_with made p.last ≡ (pos n ∷ pos m ∷ c ∷ []) ∷ ls
  unfolding lines_with
  made-lines =
      ap₂ (λ (h : List ℤ) (b : Lines). h ∷ b)
      (ap₂ (λ (x y : ℤ). x ∷ y ∷ made.cube ∷ []) made_depth made-count ∙ ap (λ (z : ℤ). pos n ∷ pos m ∷ z ∷ []) made_cube)
      (ap₂ (λ (l : List Limit) (t : List ℤ). map pair l ++ (t ∷ (dependences_of made ++ (p.last ∷ [])))) made-parts.0 made-parts.1
      ∙ ap₂ (λ (a d : Lines). a ++ (p.time ∷ (d ++ (p.last ∷ [])))) (pairs-back n p.lims p.lims_wide) made-parts.2
      ∙ sym p.is)

  -- it has 0 in the places that are no part of it
  pub made-clear : cleared made ≡ made
  unfolding made
  made-clear = made-cleared c (map limit p.lims) p.time p.deps values weights fit
