-- What the machine computes of keys: that it fits, and that it is the number that is meant. Assumes nothing.
use mathlib.Core.Path.{◌≡◌, refl, sym, ap, subst, ◌∙◌}
use mathlib.Core.List.{List, [], ◌∷◌, ◌++◌}
use Prim.Native.Nat.{ℕ, ◌+◌, ◌-◌, ◌^◌, ◌<◌, ◌≤◌}
use native.Mathlib.Omega.{arith}
use lib.IntN.{ℤ, pos, nat_abs, ◌+ℤ◌, ◌-ℤ◌, ◌*ℤ◌}
use lib.ListN.{length, get_or, set, take, drop}
use mir.Facts.{to_z_pos}
use mir.Syntax.{w64}
use mir.Val.{to_z}
use lib.Signed.{◌≤ℤ◌, lt_z}
use Rattle.std.proofs.Common.{FitsSigned, true, false}
use Rattle.integers.specs.Lists.{any, tab}
use Rattle.integers.specs.Vector.{AllWithin}
use Rattle.integers.proofs.Linear.{ints, sum, dif, sizes}
use Rattle.integers.proofs.Tests.{signed}
use Rattle.integers.proofs.Machine.{reads, Given, Within, fits, fits_g, read, read_g}
use Rattle.integers.proofs.Solver.{var, con, ◌⊕◌, ◌⊖◌, ◌⊗◌}
use Rattle.integers.proofs.Vector.{get_or-within, all_wider}
use Rattle.nest.specs.declared.LoopNest.{LoopNest}
use Rattle.nest.specs.Nest.{depth_of, count_of, dependence_at, max_depth, max_limit, max_component, max_iterations}
use Rattle.nest.proofs.Words.{dependence-at}
use Rattle.nest.specs.Points.{extent}
use Rattle.nest.specs.Refusals.{refusal, crossed, dependence}
use Rattle.nest.proofs.Conditions.{uncrossed}
use Rattle.nest.proofs.Counted.{extent-within}
use Rattle.sources.specs.Keys.{base, key, max_key, above}
use Rattle.sources.specs.declared.Limits.{Limits}
use Rattle.sources.specs.Loops.{limit_of, loop_limits}
use Rattle.sources.proofs.Arrays.{key-take_more, key-take-size}
use Rattle.sources.proofs.Digits.{above-small}
use Rattle.sources.proofs.NestKeys.{dependence-within}
use Rattle.sources.proofs.Walk.{Split, split_loops, outer_of, inner_of, prefix_size, prefix_most, next_prefix, filled_more}

-- a number as small as a key is read as it is
pub read_small : (x : ℤ) → nat_abs x ≤ max_key → reads x ≡ x
read_small x h = read (x ∷ []) (max_key ∷ []) (var 0) (h, tt) tt

pub fits_small : (x : ℤ) → nat_abs x ≤ max_key → FitsSigned w64 x
fits_small x h = fits_g (x ∷ []) (x ∷ []) (max_key ∷ []) (var 0) ((refl, h), tt) tt

-- ---- one component more
pub record NextKey (xs : List ℤ) (i : ℕ) (b : ℤ) : Type 0 where
  pub product : FitsSigned w64 (b *ℤ pos base)
  pub sum : FitsSigned w64 (reads (b *ℤ pos base) +ℤ reads (get_or xs i (pos 0)))
  pub is : reads (reads (b *ℤ pos base) +ℤ reads (get_or xs i (pos 0))) ≡ key (take (i + 1) xs)

pub next_key : (xs : List ℤ) (i : ℕ) (b : ℤ) → length xs ≤ max_depth → AllWithin max_limit xs → i < length xs → b ≡ key (take i xs) → NextKey xs i b
next_key xs i b m w h e =
    let x = get_or xs i (pos 0) in
    let s : nat_abs x ≤ max_limit = get_or-within max_limit xs i w in
    let μ : List ℤ = b ∷ reads x ∷ [] in
    let ρ : List ℤ = key (take i xs) ∷ x ∷ [] in
    let β : List ℕ = max_key ∷ max_limit ∷ [] in
    let g : Given μ ρ β = ((e, key-take-size xs i m (omega arith) w), ((read_small x (omega arith), s), tt)) in
    record {
      product = fits_g μ ρ β (var 0 ⊗ con (pos base)) g tt;
      sum = fits_g μ ρ β (var 0 ⊗ con (pos base) ⊕ var 1) g tt;
      is = read_g μ ρ β (var 0 ⊗ con (pos base) ⊕ var 1) g tt ∙ sym (key-take_more xs i h);
    }

-- ---- the digits of k outer indices, and the lowest index of one loop more
abbrev pub first_held : ℤ → ℤ → ℤ
first_held a low = reads (reads (reads a *ℤ pos base) +ℤ reads low)

pub record FirstKey (a low : ℤ) (k : ℕ) : Type 0 where
  pub product : FitsSigned w64 (reads a *ℤ pos base)
  pub sum : FitsSigned w64 (reads (reads a *ℤ pos base) +ℤ reads low)
  pub is : first_held a low ≡ a *ℤ pos base +ℤ low
  pub most : nat_abs (a *ℤ pos base +ℤ low) ≤ max_key

pub first_key : (a low : ℤ) (k : ℕ) → k + 1 ≤ max_depth → nat_abs a + nat_abs a < base ^ k → nat_abs low ≤ max_limit → FirstKey a low k
first_key a low k m h l =
    let ρ : List ℤ = a ∷ low ∷ [] in
    let β : List ℕ = max_key ∷ max_limit ∷ [] in
    let w : Within ρ β = (prefix_most a k (omega arith) h, (l, tt)) in
    record {
      product = fits ρ β (var 0 ⊗ con (pos base)) w tt;
      sum = fits ρ β (var 0 ⊗ con (pos base) ⊕ var 1) w tt;
      is = read ρ β (var 0 ⊗ con (pos base) ⊕ var 1) w tt;
      most = prefix_most (a *ℤ pos base +ℤ low) (k + 1) m (prefix_size a low k h l);
    }

-- ---- the key of a later index
pub record LaterKey (f first : ℤ) (q : ℕ) : Type 0 where
  pub sum : FitsSigned w64 (f +ℤ to_z w64 q)
  pub is : reads (f +ℤ to_z w64 q) ≡ first +ℤ pos q

pub later_key : (f first : ℤ) (q : ℕ) → f ≡ first → nat_abs first ≤ max_key → q ≤ max_iterations → LaterKey f first q
later_key f first q e h l =
    let μ : List ℤ = f ∷ to_z w64 q ∷ [] in
    let ρ : List ℤ = first ∷ pos q ∷ [] in
    let β : List ℕ = max_key ∷ max_iterations ∷ [] in
    let g : Given μ ρ β = ((e, h), ((to_z_pos w64 (omega arith), l), tt)) in
    record { sum = fits_g μ ρ β (var 0 ⊕ var 1) g tt; is = read_g μ ρ β (var 0 ⊕ var 1) g tt }

-- ---- n prefixes one after the other, from f on, up to e: one of them, b, and the one behind it
pub record NextPrefix (f b e : ℤ) (n : ℕ) : Type 0 where
  -- so many are before it
  pub is : b ≡ f +ℤ pos (nat_abs (b -ℤ f))
  pub fewer : nat_abs (b -ℤ f) < n
  pub from : f ≤ℤ reads (b +ℤ pos 1)
  pub to : reads (b +ℤ pos 1) ≤ℤ e
  pub more : nat_abs (reads (b +ℤ pos 1) -ℤ f) ≡ nat_abs (b -ℤ f) + 1

module _ (f b e : ℤ) (n : ℕ) (h : nat_abs f ≤ max_key) (m : n ≤ max_iterations) (w : e ≡ f +ℤ pos n) (l : f ≤ℤ b) where
  pub next_one : lt_z b e ≡ true → NextPrefix f b e n
  next_one t =
      let x = b +ℤ pos 1 in
      let r : reads x ≡ x = read (x ∷ []) ((max_key + max_iterations) ∷ []) (var 0) (omega (signed, sum b (pos 1), sizes x, sizes f, sum f (pos n)), tt) tt in
      record {
        is = omega (ints, dif b f, sizes (b -ℤ f), sum f (pos (nat_abs (b -ℤ f))));
        fewer = omega (signed, dif b f, sizes (b -ℤ f), sum f (pos n));
        from = omega (ints, r, sum b (pos 1));
        to = omega (signed, r, sum b (pos 1), sum f (pos n));
        more = ap (λ (z : ℤ). nat_abs (z -ℤ f)) r ∙ omega (ints, dif b f, sizes (b -ℤ f), sum b (pos 1), dif x f, sizes (x -ℤ f));
      }

  -- behind the last, all are before it
  pub none_left : b ≤ℤ e → lt_z b e ≡ false → nat_abs (b -ℤ f) ≡ n
  none_left u t = omega (signed, dif b f, sizes (b -ℤ f), sum f (pos n))

-- ---- limits that are not crossed
pub record FineLimits (l : Limits) : Type 0 where
  pub lower_size : nat_abs l.lower ≤ max_limit
  pub lower_read : reads l.lower ≡ l.lower
  pub upper_read : reads l.upper ≡ l.upper
  pub few : extent (limit_of l) ≤ max_iterations

pub fine_limits : (l : Limits) → crossed (limit_of l) ≡ false → FineLimits l
fine_limits l h =
    let u = uncrossed l.lower l.upper h in
    let e = extent-within l.lower l.upper h in
    record { lower_size = u.lower_size; lower_read = read_small l.lower (omega (arith, u.lower_size)); upper_read = read_small l.upper (omega (arith, u.upper_size)); few = omega (arith, e) }

-- ---- some loops, behind the digits of the outer indices
pub record Loops (ls : List Limits) (a : ℤ) : Type 0 where
  pub split : Split ls
  pub fine : FineLimits (outer_of ls)
  pub first : FirstKey a (outer_of ls).lower (max_depth - length ls)
  -- behind the last index
  pub last : LaterKey (first_held a (outer_of ls).lower) (a *ℤ pos base +ℤ (outer_of ls).lower) (extent (limit_of (outer_of ls)))
  -- with one index more
  pub next_size : (q : ℕ) → q < extent (limit_of (outer_of ls)) → nat_abs ((a *ℤ pos base +ℤ (outer_of ls).lower) +ℤ pos q) + nat_abs ((a *ℤ pos base +ℤ (outer_of ls).lower) +ℤ pos q) < base ^ (max_depth - length (inner_of ls))

pub some_loops : (ls : List Limits) (a : ℤ) → 1 ≤ length ls → length ls ≤ max_depth → nat_abs a + nat_abs a < base ^ (max_depth - length ls) → any crossed (loop_limits ls) ≡ false → Loops ls a
some_loops ls a h m p f =
    let S = split_loops ls h f in
    let l = fine_limits (outer_of ls) S.fine in
    let k : ℕ = max_depth - length ls in
    let F = first_key a (outer_of ls).lower k (omega arith) p l.lower_size in
    let e : k + 1 ≡ max_depth - length (inner_of ls) = omega (arith, S.fewer) in
    record {
      split = S;
      fine = l;
      first = F;
      last = later_key (first_held a (outer_of ls).lower) (a *ℤ pos base +ℤ (outer_of ls).lower) (extent (limit_of (outer_of ls))) F.is F.most l.few;
      next_size = λ q b. rw (← e) (next_prefix ls a S [] k q b p);
    }

-- one entry of a row more
pub row_next : (first : ℤ) (old cur : List ℤ) (q : ℕ) → nat_abs first ≤ max_key → length old ≤ max_iterations → q < length old → cur ≡ tab (λ i. reads first +ℤ pos i) q ++ drop q old
    → set cur q (reads (reads first +ℤ to_z w64 q)) ≡ tab (λ i. reads first +ℤ pos i) (q + 1) ++ drop (q + 1) old
row_next first old cur q h m l e =
    let s = read_small first h in
    let n = later_key (reads first) first q s h (omega arith) in
    ap (λ (x : ℤ). set cur q x) (n.is ∙ ap (λ (z : ℤ). z +ℤ pos q) (sym s)) ∙ filled_more (pos 0) old cur (λ i. reads first +ℤ pos i) q l e

-- ---- one digit less
pub record LastDigit (b x : ℤ) : Type 0 where
  pub product : FitsSigned w64 (reads x *ℤ pos base)
  pub difference : FitsSigned w64 (b -ℤ reads (reads x *ℤ pos base))
  pub is : reads (b -ℤ reads (reads x *ℤ pos base)) ≡ b -ℤ above b *ℤ pos base
  pub read_above : reads x ≡ above b

pub last_digit : (b x : ℤ) → nat_abs b ≤ max_key → x ≡ above b → LastDigit b x
last_digit b x h e =
    let s = above-small b h in
    let r : reads x ≡ above b = ap reads e ∙ read_small (above b) s in
    let μ : List ℤ = b ∷ reads x ∷ [] in
    let ρ : List ℤ = b ∷ above b ∷ [] in
    let β : List ℕ = max_key ∷ max_key ∷ [] in
    let g : Given μ ρ β = ((refl, h), ((r, s), tt)) in
    record {
      product = fits_g μ ρ β (var 1 ⊗ con (pos base)) g tt;
      difference = fits_g μ ρ β (var 0 ⊖ var 1 ⊗ con (pos base)) g tt;
      is = read_g μ ρ β (var 0 ⊖ var 1 ⊗ con (pos base)) g tt;
      read_above = r;
    }

-- ---- the key that is searched for
pub record TargetKey (x d : ℤ) : Type 0 where
  pub difference : FitsSigned w64 (reads x -ℤ reads d)
  pub is : reads (reads x -ℤ reads d) ≡ x -ℤ d

pub target_key : (x d : ℤ) → nat_abs x ≤ max_key → nat_abs d ≤ max_key → TargetKey x d
target_key x d h l =
    let ρ : List ℤ = x ∷ d ∷ [] in
    let β : List ℕ = max_key ∷ max_key ∷ [] in
    record { difference = fits ρ β (var 0 ⊖ var 1) (h, (l, tt)) tt; is = read ρ β (var 0 ⊖ var 1) (h, (l, tt)) tt }

-- the components of a dependence of an accepted nest are small
pub slice-small : (s : LoopNest) → refusal s ≡ 0 → (i : ℕ) → i < count_of s → AllWithin max_limit (dependence_at s.dependences (depth_of s) i)
slice-small s ok i h = subst (AllWithin max_limit) (dependence-at s i h) (all_wider max_component max_limit (dependence s i) (omega arith) (dependence-within s ok i h))
