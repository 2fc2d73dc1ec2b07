-- Conditions on rectangles under which no cell fails.
use Rattle.std.specs.Prelude.{◌≡◌, ℤ, pos, ◌≤ℤ◌, ◌<ℤ◌, ◌+ℤ◌, ℕ, List, ◌⊎◌, Bool, IsTrue}
use Rattle.std.specs.List.{Contains}
use Rattle.box_geom.specs.Rectangle.{Rectangle, Covers}
use Rattle.box_geom.specs.Touching.{Touch}
use Rattle.box_geom.specs.Chains.{Chain}

-- both sides are at least v
pub record IsWide (v : ℕ) (r : Rectangle) : Type 0 where
  pub wide : (r.x1 +ℤ pos v) ≤ℤ r.x2
  pub high : (r.y1 +ℤ pos v) ≤ℤ r.y2

-- v by v
pub record IsSquare (v : ℕ) (r : Rectangle) : Type 0 where
  pub wide : r.x2 ≡ r.x1 +ℤ pos v
  pub high : r.y2 ≡ r.y1 +ℤ pos v

-- no two different rectangles touch
pub record AreAlone (rs : List Rectangle) : Type 0 where
  pub same : (a b : Rectangle) → Contains rs a → Contains rs b → Touch a b → a ≡ b

-- a, grown by d to all four sides, lies in b
pub record LiesIn (d : ℕ) (a b : Rectangle) : Type 0 where
  pub left : (b.x1 +ℤ pos d) ≤ℤ a.x1
  pub right : (a.x2 +ℤ pos d) ≤ℤ b.x2
  pub low : (b.y1 +ℤ pos d) ≤ℤ a.y1
  pub high : (a.y2 +ℤ pos d) ≤ℤ b.y2

-- a, grown by d, lies in one rectangle of the list
pub record IsIn (d : ℕ) (outs : List Rectangle) (a : Rectangle) : Type 0 where
  pub outer : Rectangle
  pub listed : Contains outs outer
  pub lies : LiesIn d a outer

-- a, grown by d, has no cell in common with b
abbrev pub Clear : ℕ → Rectangle → Rectangle → Type 0
Clear d a b =
    ((a.x2 +ℤ pos d) ≤ℤ b.x1)
    ⊎ ((b.x2 +ℤ pos d) ≤ℤ a.x1)
    ⊎ ((a.y2 +ℤ pos d) ≤ℤ b.y1)
    ⊎ ((b.y2 +ℤ pos d) ≤ℤ a.y1)

pub record AreClear (d : ℕ) (ins outs : List Rectangle) : Type 0 where
  pub clear : (a b : Rectangle) → Contains ins a → Contains outs b → Clear d a b

-- the gaps of two rectangles in x and in y are below v
pub record Close (v : ℕ) (a b : Rectangle) : Type 0 where
  pub left : a.x1 <ℤ (b.x2 +ℤ pos v)
  pub right : b.x1 <ℤ (a.x2 +ℤ pos v)
  pub low : a.y1 <ℤ (b.y2 +ℤ pos v)
  pub high : b.y1 <ℤ (a.y2 +ℤ pos v)

-- two rectangles of the list touch
pub record Joint (rs : List Rectangle) (a b : Rectangle) : Type 0 where
  pub from : Contains rs a
  pub to : Contains rs b
  pub touch : Touch a b

-- the cell lies between the right side of a and the left side of b, and faces both
pub record IsAcross (a b : Rectangle) (x y : ℤ) : Type 0 where
  pub behind : a.x2 ≤ℤ x
  pub before : x <ℤ b.x1
  pub a_low : a.y1 ≤ℤ y
  pub a_high : y <ℤ a.y2
  pub b_low : b.y1 ≤ℤ y
  pub b_high : y <ℤ b.y2

-- the cell lies between the upper side of a and the lower side of b, and faces both
pub record IsUpward (a b : Rectangle) (x y : ℤ) : Type 0 where
  pub behind : a.y2 ≤ℤ y
  pub before : y <ℤ b.y1
  pub a_left : a.x1 ≤ℤ x
  pub a_right : x <ℤ a.x2
  pub b_left : b.x1 ≤ℤ x
  pub b_right : x <ℤ b.x2

-- what spacing asks of two close rectangles of the list
pub record IsJoined (rs : List Rectangle) (a b : Rectangle) : Type 0 where
  pub chain : Chain (Joint rs) a b
  pub across : (x y : ℤ) → IsAcross a b x y → Covers rs x y
  pub upward : (x y : ℤ) → IsUpward a b x y → Covers rs x y

pub record AreSpaced (v : ℕ) (rs : List Rectangle) : Type 0 where
  pub joined : (a b : Rectangle) → Contains rs a → Contains rs b → Close v a b → IsJoined rs a b

-- any two close rectangles touch
pub record AreTouching (v : ℕ) (rs : List Rectangle) : Type 0 where
  pub touch : (a b : Rectangle) → Contains rs a → Contains rs b → Close v a b → Touch a b

-- a cell that a test marks
abbrev pub Marked : (ℤ → ℤ → Bool) → ℤ → ℤ → Type 0
Marked p x y = IsTrue (p x y)

-- every cell of P is one of Q
abbrev pub IsBound : (ℤ → ℤ → Type 0) → (ℤ → ℤ → Type 0) → Type 0
IsBound P Q = (x y : ℤ) → P x y → Q x y
