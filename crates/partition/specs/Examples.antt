-- Serves as examples: steps worked out by hand over plain lists of points, those of document 02
-- (U2) and beside them those of document 01; and how many other blocks each block of a nest sends
-- to (document 02, U3). proofs/Computed.antt checks all of it on the definitions, by computation.
-- Assumes nothing.
use Rattle.std.specs.Prelude.{List, [], ◌∷◌, map, ℕ, pos, neg_ℤ, length}
use Rattle.integers.specs.Lists.{tab}
use Rattle.integers.specs.Vector.{Vector}
use Rattle.nest.specs.declared.LoopNest.{LoopNest}
use Rattle.nest.specs.Nest.{nest_of}
use Rattle.partition.specs.Partition.{step, step_number, elapsed, blocks_of, block_count}
use Rattle.partition.specs.Sending.{receiver_count, most_receivers}

-- ---- steps

-- a time vector and points, with what was worked out of them: the step of each point, how many
-- steps there are, and how far each P·j is above the least
pub record Case : Type 0 where
  pub time : Vector
  pub points : List Vector
  pub steps : List ℕ
  pub number : ℕ
  pub above : List ℕ

-- 2 x 2 iterations
unfoldable pub square : List Vector
square =
    (pos 0 ∷ pos 0 ∷ []) ∷ (pos 0 ∷ pos 1 ∷ []) ∷ (pos 1 ∷ pos 0 ∷ []) ∷ (pos 1 ∷ pos 1 ∷ []) ∷ []

unfoldable pub cases : List Case
cases =
    -- P·j is 0, 2, 2, 4
    record {
      time = pos 2 ∷ pos 2 ∷ [];
      points = square;
      steps = 0 ∷ 1 ∷ 1 ∷ 2 ∷ [];
      number = 3;
      above = 0 ∷ 2 ∷ 2 ∷ 4 ∷ [];
    }
    -- 0, 3, 2, 5: no divisor of the components takes the gaps away
    ∷ record {
      time = pos 2 ∷ pos 3 ∷ [];
      points = square;
      steps = 0 ∷ 2 ∷ 1 ∷ 3 ∷ [];
      number = 4;
      above = 0 ∷ 3 ∷ 2 ∷ 5 ∷ [];
    }
    -- 0, -16, 16, 0
    ∷ record {
      time = pos 16 ∷ neg_ℤ (pos 16) ∷ [];
      points = square;
      steps = 1 ∷ 0 ∷ 2 ∷ 1 ∷ [];
      number = 3;
      above = 16 ∷ 0 ∷ 32 ∷ 16 ∷ [];
    }
    -- 3, -15, -3, 3: points in any order, one of them twice
    ∷ record {
      time = pos 3 ∷ [];
      points = (pos 1 ∷ []) ∷ (neg_ℤ (pos 5) ∷ []) ∷ (neg_ℤ (pos 1) ∷ []) ∷ (pos 1 ∷ []) ∷ [];
      steps = 2 ∷ 0 ∷ 1 ∷ 2 ∷ [];
      number = 3;
      above = 18 ∷ 0 ∷ 12 ∷ 18 ∷ [];
    }
    -- one point
    ∷ record {
      time = pos 16 ∷ [];
      points = (pos 1000 ∷ []) ∷ [];
      steps = 0 ∷ [];
      number = 1;
      above = 0 ∷ [];
    }
    ∷ []

-- what the definitions say of a case, and what was worked out
unfoldable pub computed : Case → List (List ℕ)
computed c =
    let P = c.time in
    let ps = c.points in
    map (step P ps) ps ∷ (step_number P ps ∷ []) ∷ map (elapsed P ps) ps ∷ []

unfoldable pub by_hand : Case → List (List ℕ)
by_hand c = c.steps ∷ (c.number ∷ []) ∷ c.above ∷ []

-- ---- nests

-- a vector of numbers that are not negative
unfoldable pub vector : List ℕ → Vector
vector = map pos

-- 0..u for each upper limit u; boundary values and weights 1
unfoldable pub nest_with : List ℕ → Vector → List Vector → ℕ → LoopNest
nest_with us P ds c = nest_of (pos c) (map (λ u. record { lower = pos 0; upper = pos u }) us) P ds
    (map (λ d. pos 1) ds) (map (λ d. pos 1) ds)

-- 000's loop L1
unfoldable pub L1 : ℕ → LoopNest
L1 c = nest_with (3 ∷ 3 ∷ []) (vector (1 ∷ 1 ∷ []))
    (vector (0 ∷ 1 ∷ []) ∷ vector (1 ∷ 1 ∷ []) ∷ vector (1 ∷ 0 ∷ []) ∷ []) c

-- 000's loop L2, whose second loop goes from 0 to u
unfoldable pub L2 : ℕ → LoopNest
L2 u = nest_with (3 ∷ u ∷ 3 ∷ []) (vector (1 ∷ 1 ∷ 1 ∷ []))
    (vector (0 ∷ 1 ∷ 0 ∷ []) ∷ vector (1 ∷ 0 ∷ 0 ∷ []) ∷ vector (0 ∷ 0 ∷ 1 ∷ []) ∷ []) 0

-- 4 x 4 iterations
unfoldable pub four : Vector → List Vector → LoopNest
four P ds = nest_with (3 ∷ 3 ∷ []) P ds 0

-- ---- receivers

-- a nest with 2m - β, and to how many other blocks its blocks 0, 1, .. send, as far as they were
-- worked out
pub record Senders : Type 0 where
  pub nest : LoopNest
  pub most : ℕ
  pub receivers : List ℕ

unfoldable pub senders : List Senders
senders =
    -- 000's group that sends to 2 × 3 - 2. The projection of (i,j,k) is j - k times that of
    -- (0,1,0), the grouping vector, and i - k times that of (1,0,0), the auxiliary one; r is 3. So
    -- the group is q = (j - k) / 3, b = i - k, and block 0 is q = 0, b = 0. It sends along (0,1,0)
    -- to q = 1, b = 0, which holds (0,3,0); along (1,0,0) to q = 0, b = 1, which holds (1,0,0); and
    -- along (0,0,1), which takes 1 from both coordinates, to q = 0, b = -1, which holds (0,1,1),
    -- and to q = -1, b = -1, which holds (0,0,1).
    record { nest = L2 3; most = 4; receivers = 4 ∷ [] }
    -- L1. The projections of (0,1) and (1,0) are (-1,1) / 2 and (1,-1) / 2, that of (1,1) is zero;
    -- r is 2, β is 1. With w = y - x, q is w / 2: block 0 has w = 0 and 1, block 1 w = 2 and 3,
    -- block 2 w = -1 and -2, block 3 w = -3. One step along (0,1) adds 1 to w, one along (1,0)
    -- takes 1 away. So 0 sends to 1 and 2, 1 to 0, 2 to 0 and 3, 3 to 2.
    ∷ record { nest = L1 0; most = 5; receivers = 2 ∷ 1 ∷ 2 ∷ 1 ∷ [] }
    -- one dependence: the same blocks, and w only grows; 0 sends to 1, 2 to 0, 3 to 2
    ∷ record {
      nest = four (vector (1 ∷ 1 ∷ [])) (vector (0 ∷ 1 ∷ []) ∷ []);
      most = 1;
      receivers = 1 ∷ 0 ∷ 1 ∷ 1 ∷ [];
    }
    -- β = 0: the projection of (x,y) is (0,y), that of the only dependence zero; block y is all
    -- (x,y)
    ∷ record {
      nest = four (vector (1 ∷ 0 ∷ [])) (vector (1 ∷ 0 ∷ []) ∷ []);
      most = 2;
      receivers = 0 ∷ 0 ∷ 0 ∷ 0 ∷ [];
    }
    -- a zero projection beside another (P6): the same blocks, and (1,1) leads from block y to y + 1
    ∷ record {
      nest = four (vector (1 ∷ 0 ∷ [])) (vector (1 ∷ 0 ∷ []) ∷ vector (1 ∷ 1 ∷ []) ∷ []);
      most = 3;
      receivers = 1 ∷ 1 ∷ 1 ∷ 0 ∷ [];
    }
    -- P5: (0,3) is the grouping vector, r is 2, and the class goes by w = y - x modulo 3, with
    -- seeds w = 0, 1, 2. Block 0 has w = 0 and 3, blocks 1 and 2 w = 1 and 2, blocks 3, 4, 5 w =
    -- -1, -2, -3. Along (0,3) blocks 3, 4, 5 send to 2, 1, 0. (0,1) leaves the class: along it 0
    -- sends to 1, 1 to 2, 2 to 0, 3 to 0, 4 to 3, 5 to 4.
    ∷ record {
      nest = four (vector (1 ∷ 1 ∷ [])) (vector (0 ∷ 3 ∷ []) ∷ vector (0 ∷ 1 ∷ []) ∷ []);
      most = 3;
      receivers = 1 ∷ 1 ∷ 1 ∷ 2 ∷ 2 ∷ 2 ∷ [];
    }
    ∷ []

-- P5 on one row of four: w is 0 to 3, and the blocks are w = 0 and 3, 1, 2. Along (0,3) block 0
-- leads to itself; along (0,1) 0 sends to 1, 1 to 2, 2 to 0.
unfoldable pub row : LoopNest
row = nest_with (0 ∷ 3 ∷ []) (vector (1 ∷ 1 ∷ [])) (vector (0 ∷ 3 ∷ []) ∷ vector (0 ∷ 1 ∷ []) ∷ []) 0

unfoldable pub row_blocks : List ℕ
row_blocks = 0 ∷ 1 ∷ 2 ∷ 0 ∷ []

-- what the definitions say of a nest: the bound, and the counts of as many blocks
unfoldable pub counted : Senders → List ℕ
counted c =
    let s = c.nest in
    let t = blocks_of s in
    let n = block_count s in
    most_receivers s ∷ tab (receiver_count s t n) (length c.receivers)
