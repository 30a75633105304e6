-- The nest as it is filled: one line more, by the kind of the line.
-- Assumes nothing.
use mathlib.Core.Path.{◌≡◌, refl, sym, ap, ap₂, ◌∙◌}
use mathlib.Core.List.{List, [], ◌∷◌, ◌++◌, map, flat_map, map-append, append_assoc, append-nil}
use Prim.Native.Nat.{ℕ, zero, suc, ◌+◌, ◌*◌, ◌-◌, ◌≤◌, ◌<◌}
use native.Mathlib.Omega.{arith}
use lib.IntN.{ℤ, pos}
use lib.ListN.{length, get_or, set, take, drop, replicate, length-append, length-drop, length-map, drop_of_length-le}
use lib.ListN.{get_or-eq_default}
use lib.Seq.{get_or-drop, take_all, take-append-le, drop-append-le, get_or_at}
use Rattle.nest.specs.declared.LoopNest.{LoopNest}
use Rattle.nest.specs.Nest.{padded, max_depth, max_dependences}
use Rattle.nest_text.specs.Text.{at, boundaries_in, weights_in}
use Rattle.nest_text.specs.Reader.{max_fields, with_limit_line, with_time_line, with_dependence_line, with_boundary_line}
use Rattle.nest_text.specs.Reader.{with_last_line, filled}
use Rattle.nest.proofs.Padding.{padded-none, padded-set, take-padded, padded-row, length-padded, at-padded, drop-padded}
use Rattle.nest.proofs.Padding.{drop-zeros}
use Rattle.nest_text.proofs.LastLine.{boundaries-none, boundaries-count, boundaries-padded}

-- two nests with the same parts
pub same-nest : (c : ℤ) {n n' m m' : ℤ} {l l' u u' t t' d d' b b' w w' : List ℤ} → n ≡ n' → m ≡ m' → l ≡ l' → u ≡ u' → t ≡ t' → d ≡ d' → b ≡ b' → w ≡ w'
    → ◌≡◌ {A = LoopNest}
    (record { depth = n; count = m; cube = c; lower = l; upper = u; time = t; dependences = d; boundaries = b; weights = w })
    (record { depth = n'; count = m'; cube = c; lower = l'; upper = u'; time = t'; dependences = d'; boundaries = b'; weights = w' })
same-nest c n m l u t d b w = λ i. record { depth = n i; count = m i; cube = c; lower = l i; upper = u i; time = t i; dependences = d i; boundaries = b i; weights = w i }

-- ---- a list with one element more
module _ {A : Type 0} where
  -- another place than the new one
  get_or_other : (xs : List A) (v : A) (k : ℕ) (d : A) → (k ≡ length xs → ⊥) → get_or (xs ++ (v ∷ [])) k d ≡ get_or xs k d
  get_or_other [] v zero d h = absurd (h refl)
  get_or_other [] v (suc k) d h = refl
  get_or_other (x ∷ xs) v zero d h = refl
  get_or_other (x ∷ xs) v (suc k) d h = get_or_other xs v k d (λ e. h (ap suc e))

  -- its length
  length_snoc : (xs : List A) (v : A) → length (xs ++ (v ∷ [])) ≡ length xs + 1
  length_snoc xs v = length-append xs (v ∷ [])

  -- no place is left
  drop_past : (xs : List A) (v : A) (k : ℕ) → length xs < k → drop k (xs ++ (v ∷ [])) ≡ drop k xs
  drop_past xs v k h = drop_of_length-le (xs ++ (v ∷ [])) {i = k} (rw length_snoc (omega arith)) ∙ sym (drop_of_length-le xs {i = k} (omega arith))

  -- all places are taken
  take_snoc : (xs : List A) (v : A) (k : ℕ) → length xs < k → take k (xs ++ (v ∷ [])) ≡ take k xs ++ (v ∷ [])
  take_snoc xs v k h = take_all k (xs ++ (v ∷ [])) (rw length_snoc (omega arith)) ∙ ap (λ (l : List A). l ++ (v ∷ [])) (sym (take_all k xs (omega arith)))

-- one row more, joined
flat_snoc : (f : List ℤ → List ℤ) (xs : List (List ℤ)) (v : List ℤ) → flat_map f (xs ++ (v ∷ [])) ≡ flat_map f xs ++ f v
unfolding flat_map
flat_snoc f [] v = append-nil (f v)
flat_snoc f (x ∷ xs) v = ap (λ (l : List ℤ). f x ++ l) (flat_snoc f xs v) ∙ sym (append_assoc (f x) (flat_map f xs) (f v))

-- rows that fit fill a whole number of places
flat_length : (n : ℕ) (ds : List (List ℤ)) → ((j : ℕ) → length (get_or ds j []) ≤ n) → length (flat_map (padded n) ds) ≡ length ds * n
unfolding flat_map
flat_length n [] h = omega arith
flat_length n (d ∷ ds) h =
    length-append (padded n d) (flat_map (padded n) ds)
    ∙ (rw (length-padded n d (h 0), flat_length n ds (λ j. h (suc j))) (rows (length ds)))
  where
    rows : (k : ℕ) → n + k * n ≡ suc k * n
    rows k = omega arith

-- m numbers and the zeros behind them
padded_by : (n m : ℕ) (xs : List ℤ) → length xs ≡ m → padded n xs ≡ xs ++ replicate (n - m) (pos 0)
unfolding padded
padded_by n m xs e = ap (λ j. xs ++ replicate (n - j) (pos 0)) e

-- ---- one line more
module _ (n m : ℕ) (c : ℤ) (ls : List (List ℤ)) (zs : List ℤ) (i : ℕ) (count : length ls ≡ i) (low : n ≤ max_depth) (few : m ≤ max_dependences) where
  -- the lines with one more
  abbrev new : List (List ℤ)
  new = ls ++ (zs ∷ [])

  -- its numbers as the code holds them
  abbrev row : List ℤ
  row = padded max_fields zs

  -- column k of the limits
  column : ℕ → List (List ℤ) → List ℤ
  column k l = padded max_depth (map (λ z. at z k) (take n l))

  -- limits are read
  limits-more : (k : ℕ) → i < n → column k new ≡ set (column k ls) i (at row k)
  unfolding column
  limits-more k h =
      let e : map (λ z. at z k) (take n new) ≡ map (λ z. at z k) (take n ls) ++ (at zs k ∷ []) =
      ap (map (λ z. at z k)) (take_snoc ls zs n (omega arith)) ∙ map-append (λ z. at z k) (take n ls) (zs ∷ []) in
      let l : length (map (λ z. at z k) (take n ls)) ≡ i = length-map (take n ls) (λ z. at z k) ∙ (ap length (take_all n ls (omega arith)) ∙ count) in
      rw (e, at-padded max_fields zs k) (sym (padded-set max_depth (map (λ z. at z k) (take n ls)) i (at zs k) l (omega arith)))

  -- all limits are read already
  limits-same : (k : ℕ) → n ≤ i → column k new ≡ column k ls
  unfolding column
  limits-same k h = ap (λ (l : List (List ℤ)). padded max_depth (map (λ z. at z k) l)) (take-append-le n ls (zs ∷ []) (omega arith))

  -- one line
  line_same : (k : ℕ) → (k ≡ i → ⊥) → get_or new k [] ≡ get_or ls k []
  line_same k h = get_or_other ls zs k [] (λ e. h (e ∙ count))

  -- the line that is read
  line-new : (k : ℕ) → i ≡ k → get_or new k [] ≡ zs
  line-new k h = get_or_at ls zs [] [] k (count ∙ h)

  -- the dependences
  dependences_before : i ≤ n → take m (drop (n + 1) new) ≡ take m (drop (n + 1) ls)
  dependences_before h = ap (take m) (drop_past ls zs (n + 1) (omega arith))

  -- a line behind the time vector
  dependences_behind : n < i → drop (n + 1) new ≡ drop (n + 1) ls ++ (zs ∷ [])
  dependences_behind h = drop-append-le (n + 1) ls (zs ∷ []) (omega arith)

  -- all dependences are read already
  dependences_past : n + m < i → take m (drop (n + 1) new) ≡ take m (drop (n + 1) ls)
  dependences_past h = ap (take m) (dependences_behind (omega arith)) ∙ take-append-le m (drop (n + 1) ls) (zs ∷ []) (rw length-drop (omega arith))

  -- a dependence is read
  dependences_more : n < i → i ≤ n + m → take m (drop (n + 1) new) ≡ take m (drop (n + 1) ls) ++ (zs ∷ [])
  dependences_more h l = ap (take m) (dependences_behind h) ∙ take_snoc (drop (n + 1) ls) zs m (rw length-drop (omega arith))

  -- a line of limits
  pub filled-limit : i < n → filled n m c new ≡ with_limit_line (filled n m c ls) i row
  unfolding filled with_limit_line column
  filled-limit h =
      same-nest c refl refl (limits-more 0 h) (limits-more 1 h)
      (ap (padded max_depth) (line_same n (λ e. absurd (omega arith))))
      (ap (λ (l : List (List ℤ)). padded (max_depth * max_dependences) (flat_map (padded max_depth) l)) (dependences_before (omega arith)))
      (ap (λ (l : List ℤ). padded max_dependences (boundaries_in m (length l) l)) (line_same (n + 1 + m) (λ e. absurd (omega arith))))
      (ap (λ (l : List ℤ). padded max_dependences (weights_in m (length l) l)) (line_same (n + 1 + m) (λ e. absurd (omega arith))))

  -- the time vector
  pub filled-time : i ≡ n → length zs ≡ n → filled n m c new ≡ with_time_line (filled n m c ls) row
  unfolding filled with_time_line column
  filled-time h l =
      same-nest c refl refl (limits-same 0 (omega arith)) (limits-same 1 (omega arith))
      (ap (padded max_depth) (line-new n h) ∙ sym (take-padded max_depth max_fields zs (omega arith) (omega arith)))
      (ap (λ (l : List (List ℤ)). padded (max_depth * max_dependences) (flat_map (padded max_depth) l)) (dependences_before (omega arith)))
      (ap (λ (l : List ℤ). padded max_dependences (boundaries_in m (length l) l)) (line_same (n + 1 + m) (λ e. absurd (omega arith))))
      (ap (λ (l : List ℤ). padded max_dependences (weights_in m (length l) l)) (line_same (n + 1 + m) (λ e. absurd (omega arith))))

  -- a dependence, where those before it fit their places
  pub filled-dependence : n < i → i ≤ n + m → length zs ≡ n → ((j : ℕ) → n < j → length (get_or ls j []) ≤ max_depth)
      → filled n m c new ≡ with_dependence_line (filled n m c ls) (i - (n + 1)) row
  unfolding filled with_dependence_line column
  filled-dependence h l z narrow =
      let ds = take m (drop (n + 1) ls) in
      let all : ds ≡ drop (n + 1) ls = take_all m (drop (n + 1) ls) (rw length-drop (omega arith)) in
      let long : length ds ≡ i - (n + 1) = ap length all ∙ (length-drop (n + 1) ls ∙ (rw count refl)) in
      let fit : (j : ℕ) → length (get_or ds j []) ≤ max_depth = λ j. rw (all, get_or-drop (n + 1) ls j []) (narrow (n + 1 + j) (omega arith)) in
      let flat : length (flat_map (padded max_depth) ds) ≡ (i - (n + 1)) * max_depth = flat_length max_depth ds fit ∙ ap (λ (k : ℕ). k * max_depth) long in
      same-nest c refl refl (limits-same 0 (omega arith)) (limits-same 1 (omega arith))
      (ap (padded max_depth) (line_same n (λ e. absurd (omega arith))))
      (rw (dependences_more h l, flat_snoc (padded max_depth) ds zs, take-padded max_depth max_fields zs (omega arith) (omega arith))
      (sym (padded-row (max_depth * max_dependences) (flat_map (padded max_depth) ds) (padded max_depth zs) ((i - (n + 1)) * max_depth) max_depth flat (length-padded max_depth zs (omega arith)) (omega arith))))
      (ap (λ (l : List ℤ). padded max_dependences (boundaries_in m (length l) l)) (line_same (n + 1 + m) (λ e. absurd (omega arith))))
      (ap (λ (l : List ℤ). padded max_dependences (weights_in m (length l) l)) (line_same (n + 1 + m) (λ e. absurd (omega arith))))

  -- the boundary values behind the numbers of the last line, of which there are k
  boundaries-new : (k : ℕ) → i ≡ n + 1 + m → length zs ≡ k → m ≤ k
      → padded max_dependences (boundaries_in m (length (get_or new (n + 1 + m) [])) (get_or new (n + 1 + m) []))
      ≡ boundaries_in m k row ++ drop m (padded max_dependences (boundaries_in m (length (get_or ls (n + 1 + m) [])) (get_or ls (n + 1 + m) [])))
  boundaries-new k h l few =
      let none : get_or ls (n + 1 + m) [] ≡ [] = get_or-eq_default ls [] {n = n + 1 + m} (omega arith) in
      let zeros : padded max_dependences (boundaries_in m (length (get_or ls (n + 1 + m) [])) (get_or ls (n + 1 + m) [])) ≡ replicate max_dependences (pos 0) =
      ap (λ (l : List ℤ). padded max_dependences (boundaries_in m (length l) l)) none ∙ ap (padded max_dependences) (boundaries-none m) ∙ padded-none max_dependences in
      let count : length (boundaries_in m k zs) ≡ m = boundaries-count m k zs (omega arith) in
      ap (λ (l : List ℤ). padded max_dependences (boundaries_in m (length l) l)) (line-new (n + 1 + m) h)
      ∙ ap (λ (j : ℕ). padded max_dependences (boundaries_in m j zs)) l
      ∙ padded_by max_dependences m (boundaries_in m k zs) count
      ∙ sym (ap₂ (λ (a b : List ℤ). a ++ drop m b) (boundaries-padded m k max_fields zs (omega arith)) zeros ∙ ap (λ (b : List ℤ). boundaries_in m k zs ++ b) (drop-zeros m max_dependences))

  -- the last line, of k numbers
  pub filled-last : (k : ℕ) → i ≡ n + 1 + m → length zs ≡ k → m ≤ k → k ≤ m + max_dependences → filled n m c new ≡ with_last_line m k (filled n m c ls) row
  unfolding filled with_boundary_line with_last_line column
  filled-last k h l lo hi =
      same-nest c refl refl (limits-same 0 (omega arith)) (limits-same 1 (omega arith))
      (ap (padded max_depth) (line_same n (λ e. absurd (omega arith))))
      (ap (λ (l : List (List ℤ)). padded (max_depth * max_dependences) (flat_map (padded max_depth) l)) (dependences_past (omega arith)))
      (boundaries-new k h l lo)
      (ap (λ (l : List ℤ). padded max_dependences (weights_in m (length l) l)) (line-new (n + 1 + m) h) ∙ ap (λ (j : ℕ). padded max_dependences (drop (j - m) zs)) l
      ∙ sym (drop-padded max_dependences (k - m) max_fields zs (omega arith) (omega arith) (omega arith)))
