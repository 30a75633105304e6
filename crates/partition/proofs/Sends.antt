-- The test whether a block sends to another is the document's sentence, and goes by the table's entries for the iterations alone. Assumes nothing.
use mathlib.Core.Path.{◌≡◌, refl, sym, ap, ◌∙◌}
use mathlib.Core.Bool.{Bool, true, false}
use mathlib.Core.Logic.{◌↔◌, ◌≢◌}
use mathlib.Core.List.{List}
use mathlib.Core.Option.{Option, none, some}
use Prim.Native.Nat.{ℕ, ◌<◌, ◌≤◌}
use borrow.Author.Tests.{eqb-true, eqb-false, eq-eqb}
use lib.Dec.{eqb}
use lib.ListN.{length, get_or}
use Rattle.integers.specs.Lists.{any, tab}
use Rattle.integers.proofs.Lists.{clash, split, any-tab-some, any-tab_found}
use Rattle.integers.proofs.Sums.{count_less}
use Rattle.nest.specs.declared.LoopNest.{LoopNest}
use Rattle.nest.specs.Nest.{count_of}
use Rattle.nest.specs.Points.{points_of}
use Rattle.nest.specs.Sources.{source_rank}
use Rattle.nest.proofs.PointLaws.{source_iff}
use Rattle.partition.specs.Sending.{Sends, comes_from, has_source_in, sends_to, receives, receiver_count}

-- two tests, the second asked only where the first passes
both_iff : (b c : Bool) → (elim b as (λ _. Bool) [ true ↦ c | false ↦ false ] ≡ true) ↔ ((b ≡ true) × (c ≡ true))
both_iff true c = (λ e. (refl, e), λ w. w.1)
both_iff false c = (λ e. clash e refl, λ w. w.0)

-- a test that is asked only where the first fails
unless_iff : (b c : Bool) → (elim b as (λ _. Bool) [ true ↦ false | false ↦ c ] ≡ true) ↔ ((b ≡ false) × (c ≡ true))
unless_iff true c = (λ e. clash e refl, λ w. clash refl w.0)
unless_iff false c = (λ e. (refl, e), λ w. w.1)

-- of other blocks than a
pub other_iff : (b a : ℕ) (x : Bool) → (elim (eqb b a) as (λ _. Bool) [ true ↦ false | false ↦ x ] ≡ true) ↔ ((b ≢ a) × (x ≡ true))
other_iff b a x = (
  λ t. let w = (unless_iff (eqb b a) x).0 t in (eqb-false b a w.0, w.1),
  λ w. (unless_iff (eqb b a) x).1 (split (eqb b a) (λ t. absurd (w.0 (eqb-true b a t))) (λ f. f), w.1),
)

module _ (s : LoopNest) (table : List ℕ) where
  -- some iteration of block b passes a test
  pub some_iff : (test : ℕ → Bool) (b : ℕ)
      → (any (λ k. elim (eqb (get_or table k 0) b) as (λ _. Bool) [ true ↦ test k | false ↦ false ]) (tab (λ k. k) (length (points_of s))) ≡ true)
      ↔ ((k : ℕ) × (k < length (points_of s)) × (get_or table k 0 ≡ b) × (test k ≡ true))
  some_iff test b = (
    λ t.
        let k = any-tab-some asked (λ k. k) (length (points_of s)) t in
        let q = (both_iff (eqb (get_or table k.0 0) b) (test k.0)).0 k.2 in
        (k.0, k.1, eqb-true (get_or table k.0 0) b q.0, q.1),
    λ w. any-tab_found asked (λ k. k) (length (points_of s)) w.0 w.1 ((both_iff (eqb (get_or table w.0 0) b) (test w.0)).1 (eq-eqb (get_or table w.0 0) b w.2, w.3)),
  )
    where
      asked : ℕ → Bool
      asked k = elim (eqb (get_or table k 0) b) as (λ _. Bool) [ true ↦ test k | false ↦ false ]

  -- the source is an iteration of block a
  pub comes_iff : (a k i : ℕ) → (comes_from s table a k i ≡ true) ↔ ((j : ℕ) × (source_rank s k i ≡ some j) × (get_or table j 0 ≡ a))
  unfolding comes_from
  comes_iff a k i = (there (source_rank s k i), λ w. ap (λ (o : Option ℕ). elim o as (λ _. Bool) [ none ↦ false | some j ↦ eqb (get_or table j 0) a ]) w.1 ∙ eq-eqb (get_or table w.0 0) a w.2)
    where
      there : (o : Option ℕ) → elim o as (λ _. Bool) [ none ↦ false | some j ↦ eqb (get_or table j 0) a ] ≡ true → (j : ℕ) × (o ≡ some j) × (get_or table j 0 ≡ a)
      there none e = clash e refl
      there (some j) e = (j, refl, eqb-true (get_or table j 0) a e)

  -- block a sends to block b
  pub sends_iff : (a b : ℕ) → (sends_to s table a b ≡ true) ↔ Sends s table a b
  unfolding sends_to has_source_in
  sends_iff a b = (
    λ t.
        let k = (some_iff (has_source_in s table a) b).0 t in
        let i = any-tab-some (comes_from s table a k.0) (λ i. i) (count_of s) k.3 in
        let j = (comes_iff a k.0 i.0).0 i.2 in
        record { to = k.0; iteration = k.1; along = i.0; listed = i.1; from = j.0; leads = j.1; sender = j.2; receiver = k.2 },
    λ w.
        let i = (comes_iff a w.to w.along).1 (w.from, w.leads, w.sender) in
        (some_iff (has_source_in s table a) b).1 (w.to, w.iteration, w.receiver, any-tab_found (comes_from s table a w.to) (λ i. i) (count_of s) w.along w.listed i),
  )

  -- block b is another one, and block a sends to it
  pub receives_iff : (a b : ℕ) → (receives s table a b ≡ true) ↔ ((b ≢ a) × Sends s table a b)
  unfolding receives
  receives_iff a b = (
    λ t. let w = (other_iff b a (sends_to s table a b)).0 t in (w.0, (sends_iff a b).0 w.1),
    λ w. (other_iff b a (sends_to s table a b)).1 (w.0, (sends_iff a b).1 w.1),
  )

-- entries behind those of the iterations play no part
pub sends_same : (s : LoopNest) (table other : List ℕ) → ((k : ℕ) → k < length (points_of s) → get_or table k 0 ≡ get_or other k 0) → (a b : ℕ) → Sends s table a b → Sends s other a b
sends_same s table other h a b w = record {
  to = w.to;
  iteration = w.iteration;
  along = w.along;
  listed = w.listed;
  from = w.from;
  leads = w.leads;
  sender = sym (h w.from ((source_iff s w.to w.along w.from).0 w.leads).0) ∙ w.sender;
  receiver = sym (h w.to w.iteration) ∙ w.receiver;
}

pub receivers-same : (s : LoopNest) (table other : List ℕ) → ((k : ℕ) → k < length (points_of s) → get_or table k 0 ≡ get_or other k 0) → (n a : ℕ)
    → receiver_count s table n a ≤ receiver_count s other n a
unfolding receiver_count
receivers-same s table other h n a =
    count_less (receives s table a) (receives s other a)
    (λ b t. let w = (receives_iff s table a b).0 t in (receives_iff s other a b).1 (w.0, sends_same s table other h a b w.1)) (tab (λ b. b) n)
