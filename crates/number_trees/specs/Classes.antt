-- Classes of numbers that a relation chains, and trees of numbers.
use Rattle.std.specs.Prelude.{◌≡◌, ℕ, ◌<◌, List, get_or, length, ◌⊎◌, ◌≤◌, max, min, set}
use Rattle.box_geom.specs.Chains.{Chain}

-- number j is the parent of number i
pub record IsParent (parents : List ℕ) (i j : ℕ) : Type 0 where
  pub below : i < length parents
  pub is : get_or parents i 0 ≡ j

-- one of the two numbers is the parent of the other
abbrev pub AreKin : List ℕ → ℕ → ℕ → Type 0
AreKin parents i j = IsParent parents i j ⊎ IsParent parents j i

-- the numbers stand in one tree
abbrev pub InTree : List ℕ → ℕ → ℕ → Type 0
InTree parents i j = Chain (AreKin parents) i j

-- no parent is above its number
pub record AreLow (parents : List ℕ) : Type 0 where
  pub low : (i : ℕ) → i < length parents → get_or parents i 0 ≤ i

-- r is its own parent, in the tree of number i
pub record IsRoot (parents : List ℕ) (i r : ℕ) : Type 0 where
  pub own : get_or parents r 0 ≡ r
  pub low : r ≤ i
  pub tree : InTree parents i r

-- the smaller of two numbers is the parent of the greater one
abbrev pub hung : ℕ → ℕ → List ℕ → List ℕ
hung i j parents = set parents (max i j) (min i j)

-- the roots of two numbers are joined
pub record IsJoined (i j : ℕ) (old new : List ℕ) : Type 0 where
  pub one : ℕ
  pub other : ℕ
  pub first : IsRoot old i one
  pub second : IsRoot old j other
  pub made : new ≡ hung one other old

-- the parent of a number's parent in place of its parent
abbrev pub raised : ℕ → List ℕ → List ℕ
raised at parents = set parents at (get_or parents (get_or parents at 0) 0)

-- the root in place of each parent
pub record AreRoots (old new : List ℕ) : Type 0 where
  pub count : length new ≡ length old
  pub low : (i : ℕ) → i < length old → get_or new i 0 ≤ i
  pub tree : (i : ℕ) → i < length old → InTree old i (get_or new i 0)
  pub even : (i : ℕ) → i < length old → get_or new i 0 ≡ get_or new (get_or old i 0) 0

-- each number has a number of its class, and none above itself
pub record AreSound (n : ℕ) (R : ℕ → ℕ → Type 0) (labels : List ℕ) : Type 0 where
  pub count : length labels ≡ n
  pub low : (i : ℕ) → i < n → get_or labels i 0 ≤ i
  pub reach : (i : ℕ) → i < n → Chain R i (get_or labels i 0)

-- the trees of a relation: what it relates stands in one tree
pub record AreTrees (n : ℕ) (R : ℕ → ℕ → Type 0) (parents : List ℕ) : Type 0 where
  pub sound : AreSound n R parents
  pub joined : (i j : ℕ) → R i j → InTree parents i j

-- the label of a number is the least number of its class
pub record AreLeast (n : ℕ) (R : ℕ → ℕ → Type 0) (labels : List ℕ) : Type 0 where
  pub sound : AreSound n R labels
  pub same : (i j : ℕ) → R i j → get_or labels i 0 ≡ get_or labels j 0

-- numbers of one tree are of one tree afterwards
pub record Keeps (old new : List ℕ) : Type 0 where
  pub kept : (i j : ℕ) → InTree old i j → InTree new i j

-- number i was tried with the numbers behind it and below k: those that Q relates to it stand in its tree, and all that
-- stands in one tree is of one class by R
pub record AreTried (n : ℕ) (R Q : ℕ → ℕ → Type 0) (i k : ℕ) (old new : List ℕ) : Type 0 where
  pub sound : AreSound n R new
  pub keeps : Keeps old new
  pub joined : (j : ℕ) → i < j → j < k → Q i j → InTree new i j

-- one number was tried with another one
pub record IsTried (n : ℕ) (R Q : ℕ → ℕ → Type 0) (i j : ℕ) (old new : List ℕ) : Type 0 where
  pub sound : AreSound n R new
  pub keeps : Keeps old new
  pub joined : Q i j → InTree new i j

-- a label labels itself, and comes not behind what it labels
pub record AreHeads (n : ℕ) (labels : List ℕ) : Type 0 where
  pub count : length labels ≡ n
  pub low : (i : ℕ) → i < n → get_or labels i 0 ≤ i
  pub itself : (i : ℕ) → i < n → get_or labels (get_or labels i 0) 0 ≡ get_or labels i 0
