-- Why a certificate is refused.
use Rattle.std.specs.Prelude.{ℕ, ◌<◌, List, Any, length, take, slice_index_or}
use Rattle.cell_num.specs.declared.finger.Row.{Row}
use Rattle.cell_num.specs.declared.net.Pins.{Pins}
use Rattle.row_state.specs.declared.kind.Kinds.{Kinds}
use Rattle.row_state.specs.declared.state.State.{State}
use Rattle.row_state.specs.Start.{start_of}
use Rattle.row_cycles.specs.declared.lemma.CycleLemma.{CycleLemma}
use Rattle.row_cycles.specs.Certificate.{AreJustified, CoversAll, IsJustified}
use Rattle.row_cycles.specs.declared.refused.CyclesRefused.{CyclesRefused}
use Rattle.row_cycles.specs.declared.refused.CyclesRefused.TheVariants as because

-- the lemmas before the place n are justified
abbrev pub AreJustifiedBelow : (Row → State → Kinds → ℕ) → Pins → Kinds → List CycleLemma → ℕ → Type 0
AreJustifiedBelow value pins k lemmas n =
    (i : ℕ) (d : CycleLemma) → i < n → IsJustified value pins k (take i lemmas) (slice_index_or lemmas i d)

-- all lemmas before this one are justified, and it is not
pub record IsFirstUnjustified
    (value : Row → State → Kinds → ℕ) (pins : Pins) (k : Kinds) (lemmas : List CycleLemma) (at : ℕ)
    : Type 0 where
  pub within : at < length lemmas
  pub before : AreJustifiedBelow value pins k lemmas at
  pub unjustified : (d : CycleLemma) → IsJustified value pins k (take at lemmas) (slice_index_or lemmas at d) → ⊥

-- all lemmas are justified, and none is on the start state and that many gaps and asks for nothing
pub record HasNoStart
    (value : Row → State → Kinds → ℕ) (pins : Pins) (k : Kinds) (gaps : ℕ) (lemmas : List CycleLemma)
    : Type 0 where
  pub justified : AreJustified value pins k lemmas
  pub whole : Any (CoversAll (start_of k) gaps) lemmas → ⊥

abbrev pub Refuses : (Row → State → Kinds → ℕ) → Pins → Kinds → ℕ → List CycleLemma → CyclesRefused → Type 0
Refuses value pins k gaps lemmas (because.Unjustified at) = IsFirstUnjustified value pins k lemmas at
Refuses value pins k gaps lemmas because.NoStart = HasNoStart value pins k gaps lemmas
Refuses value pins k gaps lemmas because.NoMemory = Unit {0}
