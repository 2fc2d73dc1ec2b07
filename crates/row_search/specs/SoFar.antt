-- What a search has found up to now.
use Rattle.std.specs.Prelude.{ℕ, ◌≡◌, ◌+◌, List}
use Rattle.row_state.specs.declared.kind.Kinds.{Kinds}
use Rattle.bound_log.specs.declared.log.Lemma.{Lemma}
use Rattle.lemma_check.specs.declared.known.Known.{Known}
use Rattle.lemma_check.specs.Known.{Knows}

-- how many nodes it took, the best bounds of the states, and its lemmas on states of the kinds
pub record SoFar : Type 0 where
  pub nodes : ℕ
  pub known : Known
  pub kinds : Kinds
  pub lemmas : List Lemma

-- the lemmas are on states of these kinds, and what is known of each valid state is its best bound in them
pub record KnowsAll (k : Kinds) (p : SoFar) : Type 0 where
  pub kinds : p.kinds ≡ k
  pub table : Knows k p.known p.lemmas

-- with one node more
abbrev pub one_node : SoFar → SoFar
one_node p = record { nodes = p.nodes + 1; known = p.known; kinds = p.kinds; lemmas = p.lemmas }
