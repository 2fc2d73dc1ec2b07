-- Walks along a relation between keys, and the cycles among them.
use Rattle.std.specs.Prelude.{ℕ, ◌≡◌, ◌≢◌, ◌<◌, List, [], ◌∷◌, length, All, AllPairs}
use Rattle.std.specs.Bool.{⊤}

-- what an entry of a walk is: a key, and the line at which it stands above the next one
pub record Entries (X : Type 0) : Type 0 where
  pub key : X → ℕ
  pub line : X → ℕ

-- the key of the first entry, or the one behind all
abbrev pub next_key : {X : Type 0} → Entries X → List X → ℕ → ℕ
next_key e [] back = back
next_key e (a ∷ more) back = e.key a

-- each key stands above the next one at its line, and the last one above `back`
abbrev pub IsWalk : {X : Type 0} → Entries X → (ℕ → ℕ → ℕ → Type 0) → List X → ℕ → Type 0
IsWalk e Over [] back = ⊤
IsWalk e Over (a ∷ more) back = Over (e.key a) (next_key e more back) (e.line a) × IsWalk e Over more back

-- At least two keys, pairwise different, each above the next and the last above the first, which is the
-- least.
pub record IsCycleFrom {X : Type 0} (e : Entries X) (Over : ℕ → ℕ → ℕ → Type 0) (first : X) (rest : List X)
    : Type 0 where
  pub two : 0 < length rest
  pub differ : AllPairs (λ a b. e.key a ≢ e.key b) (first ∷ rest)
  pub above : IsWalk e Over (first ∷ rest) (e.key first)
  pub least : All (λ a. e.key first < e.key a) rest

abbrev pub IsKeyCycle : {X : Type 0} → Entries X → (ℕ → ℕ → ℕ → Type 0) → List X → Type 0
IsKeyCycle e Over [] = ⊥
IsKeyCycle e Over (first ∷ rest) = IsCycleFrom e Over first rest

-- a walk from one key down to another
pub record ComesTo {X : Type 0} (e : Entries X) (Over : ℕ → ℕ → ℕ → Type 0) (start key : ℕ) : Type 0 where
  pub path : List X
  pub walk : IsWalk e Over path key
  pub begins : next_key e path key ≡ start

-- a cycle that a walk from a key comes to
abbrev pub IsKeyCycleBelow : {X : Type 0} → Entries X → (ℕ → ℕ → ℕ → Type 0) → ℕ → List X → Type 0
IsKeyCycleBelow e Over start [] = ⊥
IsKeyCycleBelow e Over start (first ∷ rest) = IsCycleFrom e Over first rest × ComesTo e Over start (e.key first)
