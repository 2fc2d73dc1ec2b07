-- The kinds of fingers of both rows.
use Rattle.std.specs.Prelude.{ℕ, List}
use Rattle.row_state.specs.declared.kind.Kind.{Kind}

-- each row's kinds by gate, ends and width, over the nets numbered below `nets`
pub record Kinds : Type 0 where
  pub nets : ℕ
  pub p : List Kind
  pub n : List Kind
