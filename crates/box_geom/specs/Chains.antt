-- Chains of steps of one kind, and the cells of a set that hang together by their edges.
use Rattle.std.specs.Prelude.{◌≡◌, zero, suc, ℕ, ℤ}
use Rattle.box_geom.specs.Touching.{Cell, Edge}

-- n steps lead from a to b
abbrev pub Steps : {X : Type 0} → (X → X → Type 0) → ℕ → X → X → Type 0
Steps S zero a b = a ≡ b
Steps {X} S (suc n) a b = (c : X) × S a c × Steps S n c b

-- some number of steps leads from a to b
pub record Chain {X : Type 0} (S : X → X → Type 0) (a b : X) : Type 0 where
  pub count : ℕ
  pub steps : Steps S count a b

-- two cells of the set that share an edge
pub record Linked (P : ℤ → ℤ → Type 0) (a b : Cell) : Type 0 where
  pub from : P a.x a.y
  pub to : P b.x b.y
  pub edge : Edge a b
