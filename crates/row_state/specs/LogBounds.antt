-- The bounds of the versions of logs, as values of one type.
use Rattle.std.specs.Prelude.{ℕ, List, Option}
use Rattle.std.proofs.Common.{inl, inr, refl}
use Rattle.cell_num.specs.declared.finger.Row.{Row}
use Rattle.cell_num.specs.declared.net.NetNo.{NetNo}
use Rattle.row_state.specs.declared.kind.Kinds.{Kinds}
use Rattle.row_state.specs.declared.log_bound.LogBound.{LogBound}
use Rattle.row_state.specs.declared.log_bound.LogBound.TheVariants as by
use Rattle.row_state.specs.declared.state.State.{State}
use Rattle.row_state.specs.Completion.{Need}
use Rattle.row_state.specs.Component.{component_trails}
use Rattle.row_state.specs.ComponentLaw.{component_holds}
use Rattle.row_state.specs.Law.{parity_holds}
use Rattle.row_state.specs.Start.{AreSomeKinds}
use Rattle.row_state.specs.Tests.{parity_trails}
use Rattle.row_state.specs.Versions.{IsVersion, value_of}

-- the version whose logs rest on the bound
abbrev pub log_version : LogBound → ℕ
log_version by.One = 1
log_version by.Two = 2

-- what the bound says of a row of which no place stays empty
abbrev pub log_trails : LogBound → Row → Option NetNo → List ℕ → Kinds → ℕ
log_trails by.One row end left k = parity_trails row end left k
log_trails by.Two row end left k = component_trails row end left k

pub log_bound_known : (b : LogBound) → IsVersion (log_version b)
log_bound_known by.One = inl refl
log_bound_known by.Two = inr refl

-- no completion has fewer further gaps
pub log_bound_holds : (b : LogBound) (row : Row) (s : State) (k : Kinds) → AreSomeKinds k
    → Need k s (value_of (log_version b) row s k)
log_bound_holds by.One row s k some = parity_holds k s row some
log_bound_holds by.Two row s k some = component_holds k s row some
