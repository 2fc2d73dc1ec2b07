-- Lemmas that a text can hold.
use Rattle.std.specs.Prelude.{ℕ, ◌+◌, ◌*◌, ◌≤◌, Bool, nat_lt, IsTrue, List, All, drop}
use Rattle.std.specs.List.{list_all, zip}
use Rattle.row_state.specs.declared.kind.Kinds.{Kinds}
use Rattle.row_state.specs.Start.{IsState}
use Rattle.row_cycles.specs.declared.above.NetAbove.{NetAbove}
use Rattle.row_cycles.specs.Above.{HasNets}
use Rattle.row_cycles.specs.declared.lemma.CycleLemma.{CycleLemma}

-- by the upper net, then by the lower one
abbrev pub above_rank : NetAbove → ℕ
above_rank a = a.upper.0 * 256 + a.lower.0

-- each before the next, so none twice
abbrev pub is_in_order : List NetAbove → Bool
is_in_order above = list_all (λ pair. nat_lt (above_rank pair.0) (above_rank pair.1)) (zip above (drop 1 above))

-- a valid state, at most that many gaps, and nets of the kinds in order
pub record IsWithin (k : Kinds) (most : ℕ) (lemma : CycleLemma) : Type 0 where
  pub state : IsState k lemma.state
  pub gaps : lemma.gaps ≤ most
  pub nets : All (HasNets k.nets) lemma.above
  pub order : IsTrue (is_in_order lemma.above)

-- a text has numbers of gaps below 64
abbrev pub CycleFits : Kinds → CycleLemma → Type 0
CycleFits k lemma = IsWithin k 63 lemma
