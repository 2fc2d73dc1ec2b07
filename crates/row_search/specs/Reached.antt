-- The states of the prefixes of arrangements.
use Rattle.std.specs.Prelude.{ℕ, ◌≡◌, ◌+◌, ◌≤◌, List, [], ◌∷◌, ◌++◌, Option, None, IsPermutation}
use Rattle.std.specs.Option.{option_map}
use Rattle.cell_num.specs.declared.finger.Row.{Row}
use Rattle.cell_num.specs.declared.finger.Row.TheVariants.{P, N}
use Rattle.cell_num.specs.declared.net.NetNo.{NetNo}
use Rattle.row_model.specs.declared.column.Column.{Column}
use Rattle.row_model.specs.Arrangement.{fingers_in, place}
use Rattle.row_model.specs.Gaps.{gaps_of, right_net}
use Rattle.row_state.specs.declared.kind.Kinds.{Kinds}
use Rattle.row_state.specs.declared.state.State.{State}
use Rattle.row_state.specs.Completion.{left_in, Completes}
use Rattle.row_state.specs.Start.{start_of}
use Rattle.bound_log.specs.declared.log.Lemma.{Lemma}

-- the right net of the last column's place in the row, none where that is empty
abbrev pub end_behind : Row → List Column → Option NetNo
end_behind row [] = None
end_behind row (c ∷ []) = option_map right_net (place row c)
end_behind row (c ∷ d ∷ ds) = end_behind row (d ∷ ds)

-- the fingers that the prefix does not use, and its right ends
pub record IsStateOf (k : Kinds) (prefix : List Column) (s : State) : Type 0 where
  pub p : IsPermutation (left_in k (start_of k)).p (fingers_in P prefix ++ (left_in k s).p)
  pub n : IsPermutation (left_in k (start_of k)).n (fingers_in N prefix ++ (left_in k s).n)
  pub p_end : s.p_end ≡ end_behind P prefix
  pub n_end : s.n_end ≡ end_behind N prefix

-- some prefix of an arrangement has the state and that many gaps
pub record IsReached (k : Kinds) (s : State) (gaps : ℕ) : Type 0 where
  pub prefix : List Column
  pub rest : List Column
  pub completes : Completes k (start_of k) (prefix ++ rest)
  pub state : IsStateOf k prefix s
  pub counted : gaps ≡ gaps_of prefix

-- a lemma pays for a state that the limits up to p reach
pub record IsWithin (k : Kinds) (p : ℕ) (lemma : Lemma) : Type 0 where
  pub gaps : ℕ
  pub reached : IsReached k lemma.state gaps
  pub within : gaps + lemma.bound ≤ p + 1
