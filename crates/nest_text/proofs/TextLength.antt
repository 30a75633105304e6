-- The text of an accepted nest, part by part, and how long each part is.
-- Assumes nothing.
use mathlib.Core.Path.{◌≡◌, sym, ap, ◌∙◌}
use mathlib.Core.List.{List, [], ◌∷◌, ◌++◌, map, flat_map, append_assoc}
use Prim.Native.Nat.{ℕ, zero, suc, ◌+◌, ◌*◌, ◌≤◌, ◌<◌}
use native.Mathlib.Nat.{mul-suc, mul-le-mul}
use native.Mathlib.Numerals.{add-one}
use native.Mathlib.Omega.{arith}
use lib.IntN.{ℤ, pos}
use lib.ListN.{length, get_or, length-append}
use Rattle.integers.specs.Lists.{tab}
use Rattle.integers.proofs.Lists.{flat_map-append, flat_map-one, flat_map-length, map-tab}
use Rattle.nest.specs.declared.LoopNest.{LoopNest}
use Rattle.nest.specs.Nest.{Limit, part, depth_of, count_of, limit_at, limits_of, time_of, dependence_at, dependences_of}
use Rattle.nest.specs.Nest.{boundaries_of, weights_of, max_depth, max_dependences, max_cube, max_boundary, max_weight}
use Rattle.nest_text.specs.Fields.{Bytes, columns, field_of}
use Rattle.nest_text.specs.Text.{line, line_length, header_width, limit_width, last_of, lines_with, text_with, text_of}
use Rattle.nest_text.specs.Text.{text_length, long_width}
use Rattle.nest_text.specs.Reader.{value_count}
use Rattle.nest_text.specs.Stored.{InColumns, EachInColumns}
use Rattle.nest_text.proofs.WriteLaws.{fields_length, line-length, line-append, pair-length}
use Rattle.nest.proofs.Spans.{Spans}
use Rattle.nest_text.proofs.EqualValues.{last-part, values-few}
use Rattle.nest_text.proofs.Columns.{limit-columns, component-columns, count-columns}

-- the numbers of line 1, and of the line of loop k
abbrev pub shape_line : LoopNest → List ℤ
shape_line s = s.depth ∷ s.count ∷ s.cube ∷ []

-- of the line of loop k
abbrev pub limit_line : LoopNest → ℕ → List ℤ
limit_line s k = get_or s.lower k (pos 0) ∷ get_or s.upper k (pos 0) ∷ []

-- of the lines of all loops
abbrev pub limit_lines : LoopNest → List (List ℤ)
limit_lines s = tab (limit_line s) (depth_of s)

-- the text line by line
pub text-parts : (s : LoopNest) (last : List ℤ) → line (shape_line s) ++ flat_map line (limit_lines s) ++ line (time_of s) ++ flat_map line (dependences_of s) ++ line last ≡ text_with s last
unfolding text_with lines_with flat_map limits_of
text-parts s last =
    let m : map (λ (l : Limit). l.lower ∷ l.upper ∷ []) (tab (limit_at s.lower s.upper) (depth_of s)) ≡ limit_lines s = map-tab (λ (l : Limit). l.lower ∷ l.upper ∷ []) (limit_at s.lower s.upper) (depth_of s) in
    let rest = time_of s ∷ (dependences_of s ++ (last ∷ [])) in
    let d : flat_map line (dependences_of s ++ (last ∷ [])) ≡ flat_map line (dependences_of s) ++ line last = flat_map-append line (dependences_of s) (last ∷ []) ∙ ap (λ l. flat_map line (dependences_of s) ++ l) (flat_map-one line last) in
    let b : flat_map line (map (λ (l : Limit). l.lower ∷ l.upper ∷ []) (tab (limit_at s.lower s.upper) (depth_of s)) ++ rest) ≡ flat_map line (limit_lines s) ++ (line (time_of s) ++ (flat_map line (dependences_of s) ++ line last)) = ap (λ l. flat_map line (l ++ rest)) m ∙ flat_map-append line (limit_lines s) rest ∙ ap (λ l. flat_map line (limit_lines s) ++ (line (time_of s) ++ l)) d in
    regroup (line (shape_line s)) (flat_map line (limit_lines s)) (line (time_of s)) (flat_map line (dependences_of s)) (line last) ∙ ap (λ l. line (shape_line s) ++ l) (sym b)
  where
    regroup : (a b c d e : Bytes) → (((a ++ b) ++ c) ++ d) ++ e ≡ a ++ (b ++ (c ++ (d ++ e)))
    regroup a b c d e = simp append_assoc

-- ---- each number has room in six columns
module _ (s : LoopNest) (h : Spans s) where
  -- line 1
  pub shape-columns : EachInColumns (shape_line s) 0 header_width
  shape-columns zero l = count-columns 1 max_depth s.depth (omega arith) h.depth_span
  shape-columns (suc zero) l = count-columns 1 max_dependences s.count (omega arith) h.count_span
  shape-columns (suc (suc zero)) l = count-columns 0 max_cube s.cube (omega arith) h.cube_span
  shape-columns (suc (suc (suc i))) l = absurd (omega arith)

  -- the limits of loop k
  pub limits-columns : (k : ℕ) → k < depth_of s → InColumns (get_or s.lower k (pos 0)) × InColumns (get_or s.upper k (pos 0))
  limits-columns k l = (limit-columns (get_or s.lower k (pos 0)) (h.lower_span k l), limit-columns (get_or s.upper k (pos 0)) (h.upper_span k l))

  -- the time vector
  pub time-columns : EachInColumns s.time 0 (depth_of s)
  time-columns k l = component-columns (get_or s.time (0 + k) (pos 0)) (h.time_span k l)

  -- dependence i
  pub dependence-columns : (i : ℕ) → i < count_of s → EachInColumns s.dependences (i * max_depth) (depth_of s)
  dependence-columns i l k m = component-columns (get_or s.dependences (i * max_depth + k) (pos 0)) (h.dependence_span i l k m)

  -- the boundary values
  pub boundary-columns : EachInColumns s.boundaries 0 (count_of s)
  boundary-columns i l = count-columns 0 max_boundary (get_or s.boundaries (0 + i) (pos 0)) (omega arith) (h.boundary_span i l)

  -- the weights
  pub weight-columns : EachInColumns s.weights 0 (count_of s)
  weight-columns i l = count-columns 0 max_weight (get_or s.weights (0 + i) (pos 0)) (omega arith) (h.weight_span i l)

  -- ---- the length of each part
  pub shape-length : length (line (shape_line s)) ≡ line_length header_width
  unfolding tab
  shape-length = line-length (λ i. get_or (shape_line s) (0 + i) (pos 0)) header_width shape-columns

  -- a line of two numbers for each loop
  pub limits-length : length (flat_map line (limit_lines s)) ≡ line_length limit_width * depth_of s
  limits-length = flat_map-length line (limit_line s) (line_length limit_width) (depth_of s) (λ k l. let c = limits-columns k l in pair-length (get_or s.lower k (pos 0)) (get_or s.upper k (pos 0)) c.0 c.1)

  -- one of as many numbers as components
  pub time_length : length (line (time_of s)) ≡ line_length (depth_of s)
  unfolding time_of part
  time_length = line-length (λ k. get_or s.time (0 + k) (pos 0)) (depth_of s) time-columns

  -- as many for each dependence
  pub dependences_length : length (flat_map line (dependences_of s)) ≡ line_length (depth_of s) * count_of s
  unfolding dependences_of part
  dependences_length =
      flat_map-length line (dependence_at s.dependences (depth_of s)) (line_length (depth_of s)) (count_of s)
      (λ i l. line-length (λ k. get_or s.dependences (i * max_depth + k) (pos 0)) (depth_of s) (dependence-columns i l))

  -- so many boundary values, and a weight for each dependence
  pub last-length : length (line (last_of s)) ≡ line_length (value_count (boundaries_of s) + count_of s)
  unfolding line weights_of part
  last-length =
      let v = value_count (boundaries_of s) in
      let few = (values-few s h.count_some).1 in
      let values = part s.boundaries 0 v in
      let a : length (flat_map field_of values) ≡ columns * v = fields_length (λ i. get_or s.boundaries (0 + i) (pos 0)) v (λ i l. boundary-columns i (omega (arith, few))) in
      let b : length (line (weights_of s)) ≡ line_length (count_of s) = line-length (λ i. get_or s.weights (0 + i) (pos 0)) (count_of s) weight-columns in
      ap (λ zs. length (line zs)) (last-part s h.count_some)
      ∙ ap length (sym (line-append values (weights_of s)))
      ∙ length-append (flat_map field_of values) (line (weights_of s)) ∙ omega (arith, a, b)

  -- the length of a text, by the numbers of loops, of dependences and of fields of its last line
  pub text_with_lem : (last : List ℤ) (k : ℕ) → length (line last) ≡ line_length k → length (text_with s last) ≡ text_length (depth_of s) (count_of s) k
  text_with_lem last k l =
      let a = line (shape_line s) in
      let b = flat_map line (limit_lines s) in
      let c = line (time_of s) in
      let d = flat_map line (dependences_of s) in
      let e = line last in
      let w : line_length (depth_of s) * (count_of s + 1) ≡ line_length (depth_of s) * count_of s + line_length (depth_of s) = ap (λ k. line_length (depth_of s) * k) (add-one (count_of s)) ∙ mul-suc (line_length (depth_of s)) (count_of s) in
      ap length (sym (text-parts s last))
      ∙ omega (arith, length-append (((a ++ b) ++ c) ++ d) e, length-append ((a ++ b) ++ c) d, length-append (a ++ b) c, length-append a b, shape-length, limits-length, time_length, dependences_length, l, w)

  -- of the text that is written
  pub text-length : length (text_of s) ≡ text_length (depth_of s) (count_of s) (value_count (boundaries_of s) + count_of s)
  text-length = text_with_lem (last_of s) (value_count (boundaries_of s) + count_of s) last-length

  -- the longest text of an accepted nest
  pub text-most : length (text_of s) ≤ text_length max_depth max_dependences (long_width max_dependences)
  text-most =
      let p : line_length (depth_of s) ≤ line_length max_depth = omega (arith, h.depth_few) in
      let q : count_of s + 1 ≤ max_dependences + 1 = omega (arith, h.count_few) in
      omega (arith, text-length, mul-le-mul p q, h.depth_few, h.count_few, (values-few s h.count_some).1)
