-- `line_distance` answers the size of the key of the shortest vector. Assumes nothing.
use Rattle.std.proofs.Common.{◌≡◌, ◌∙◌, ◌+◌, ◌^◌, ◌≤◌, ℤ, pos, nat_abs, neg_ℤ, length, take, sym, ap, subst, arith}
use lib.Dec.{lit≤}
use Rattle.integers.proofs.Bounds.{told, back, small, abs_neg}
use Rattle.integers.proofs.Machine.{reads}
use Rattle.integers.specs.Vector.{Vector, AllWithin}
use Rattle.integers.proofs.Vector.{all-each, all_wider, get_or-within}
use Rattle.nest.specs.Nest.{part, max_component, max_limit}
use Rattle.nest.proofs.Slices.{part-first}
use Rattle.nest.proofs.Words.{part_length, part_at}
use Rattle.sources.specs.Keys.{base, key, max_key}
use Rattle.sources.proofs.Arrays.{power-most}
use Rattle.sources.proofs.KeyOrder.{key-size}
use Rattle.partition.proofs.inputs.line_distance.Goals as goal
use Rattle.partition.proofs.inputs.line_distance.Goals.{After-key_of, After-shortest-v}

-- the components of the key
abbrev digits_of : After-shortest-v → Vector
digits_of c = part c.shortest-v.result 0 c.args.n

-- each is one of the vector
digits-small : (c : After-shortest-v) → AllWithin max_component (digits_of c)
digits-small c =
    let v = c.shortest-v.result in
    let n = c.args.n in
    all-each max_component (digits_of c)
    (λ i l. subst (λ (z : ℤ). nat_abs z ≤ max_component) (sym (part_at v 0 n i (omega (arith, l, part_length v 0 n)))) (get_or-within max_component v (0 + i) c.shortest-v.ensures.0))

-- so the key is small
key_small : (c : After-shortest-v) → nat_abs (key (digits_of c)) ≤ max_key
key_small c =
    let p = key-size max_component (omega arith) (digits_of c) (digits-small c) in
    let q : base ^ length (digits_of c) ≤ max_key = power-most (length (digits_of c)) (omega (arith, part_length c.shortest-v.result 0 c.args.n, c.requires.1)) in
    omega (arith, p, q)

-- they are a slice of the vector
front : (c : After-shortest-v) → take c.args.n c.shortest-v.result ≡ digits_of c
front c = part-first c.shortest-v.result c.args.n (omega (arith, c.requires.1))

-- what the machine has of it
key-read : (c : After-key_of) → reads c.key_of.result ≡ key (digits_of (goal.at.After-key_of c).After-shortest-v)
key-read c =
    let d = (goal.at.After-key_of c).After-shortest-v in
    ap (λ (z : ℤ). reads z) (c.key_of.ensures ∙ ap key (front d)) ∙ back (key (digits_of d)) (key_small d) (lit≤ tt)

pub key_of-requires : goal.key_of-requires
key_of-requires c =
    let d = (goal.at.key_of-requires c).After-shortest-v in
    rw (front d) (omega (arith, c.requires.1, part_length c.shortest-v.result 0 c.args.n), all_wider max_component max_limit (digits_of d) (lit≤ tt) (digits-small d))

pub abs-requires : goal.abs-requires
abs-requires c =
    let d = (goal.at.abs-requires c).After-shortest-v in
    rw (key-read c) (small (neg_ℤ (key (digits_of d))) (abs_neg (key (digits_of d)) (key_small d)) (lit≤ tt))

pub returns : goal.returns
returns c =
    record {
      vector = c.shortest-v.result;
      shortest = c.shortest-v.ensures.1;
      small = c.shortest-v.ensures.0;
      size = told c.abs.result c.abs.type_inv ∙ c.abs.ensures.value ∙ ap (λ (z : ℤ). pos (nat_abs z)) (key-read (goal.at.returns c).After-key_of);
    }
