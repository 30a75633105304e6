-- The numbers of a nest put into one array, part by part. Assumes nothing.
use mathlib.Core.Path.{◌≡◌, refl, sym, ap, ◌∙◌}
use mathlib.Core.List.{List, [], ◌∷◌}
use Prim.Native.Nat.{◌*◌}
use lib.IntN.{ℤ, pos}
use lib.ListN.{length, replicate}
use lib.Seq.{sets}
use Rattle.integers.specs.Lists.{tab}
use Rattle.nest.specs.declared.LoopNest.{LoopNest}
use Rattle.nest.specs.Nest.{part, max_depth, max_dependences}
use Rattle.foreign.proofs.Parts.{whole}
use Rattle.foreign.specs.Numbers.{upper_from, time_from, dependences_from, boundaries_from, weights_from, number_count, numbers_of}

-- as parts of themselves
copied_parts : (s : LoopNest) (x y z : ℤ) (a b c d e f g : List ℤ) → x ≡ s.depth → y ≡ s.count → z ≡ s.cube
    → a ≡ sets (replicate number_count (pos 0)) 0 (part (x ∷ y ∷ z ∷ []) 0 3) → b ≡ sets a 3 (part s.lower 0 max_depth) → c ≡ sets b upper_from (part s.upper 0 max_depth) → d ≡ sets c time_from (part s.time 0 max_depth)
    → e ≡ sets d dependences_from (part s.dependences 0 (max_depth * max_dependences)) → f ≡ sets e boundaries_from (part s.boundaries 0 max_dependences) → g ≡ sets f weights_from (part s.weights 0 max_dependences) → g ≡ numbers_of s
unfolding part tab numbers_of
copied_parts s x y z a b c d e f g p q r ha hb hc hd he hf hg =
    let h : f ≡ sets (sets (sets (sets (sets (sets (replicate number_count (pos 0)) 0 (x ∷ y ∷ z ∷ [])) 3 (part s.lower 0 max_depth)) upper_from (part s.upper 0 max_depth)) time_from (part s.time 0 max_depth)) dependences_from (part s.dependences 0 (max_depth * max_dependences))) boundaries_from (part s.boundaries 0 max_dependences) =
    rw (hf, he, hd, hc, hb, ha) refl in
    hg ∙ rw (h, p, q, r) refl

-- the parts of a nest, put one behind the other
pub copied_nest : (s : LoopNest) (x y z : ℤ) (a b c d e f g : List ℤ) → x ≡ s.depth → y ≡ s.count → z ≡ s.cube
    → length s.lower ≡ max_depth → length s.upper ≡ max_depth → length s.time ≡ max_depth → length s.dependences ≡ max_depth * max_dependences → length s.boundaries ≡ max_dependences → length s.weights ≡ max_dependences
    → a ≡ sets (replicate number_count (pos 0)) 0 (x ∷ y ∷ z ∷ []) → b ≡ sets a 3 s.lower → c ≡ sets b upper_from s.upper → d ≡ sets c time_from s.time
    → e ≡ sets d dependences_from s.dependences → f ≡ sets e boundaries_from s.boundaries → g ≡ sets f weights_from s.weights → g ≡ numbers_of s
copied_nest s x y z a b c d e f g p q r lo up ti de bo we ha hb hc hd he hf hg =
    copied_parts s x y z a b c d e f g p q r (ha ∙ ap (sets (replicate number_count (pos 0)) 0) (sym (whole (x ∷ y ∷ z ∷ []) 3 refl)))
    (hb ∙ ap (sets a 3) (sym (whole s.lower max_depth lo)))
    (hc ∙ ap (sets b upper_from) (sym (whole s.upper max_depth up)))
    (hd ∙ ap (sets c time_from) (sym (whole s.time max_depth ti)))
    (he ∙ ap (sets d dependences_from) (sym (whole s.dependences (max_depth * max_dependences) de)))
    (hf ∙ ap (sets e boundaries_from) (sym (whole s.boundaries max_dependences bo)))
    (hg ∙ ap (sets f weights_from) (sym (whole s.weights max_dependences we)))
