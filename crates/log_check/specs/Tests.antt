-- Tests of the listed columns.
use Rattle.std.specs.Prelude.{Bool, true, false, ◌&&◌, ◌==◌, List, Option, Some, None, slice_get}
use Rattle.cell_num.specs.declared.net.NetNo.{NetNo}
use Rattle.row_state.specs.declared.kind.Kind.{Kind}
use Rattle.row_state.specs.declared.kind.Kinds.{Kinds}
use Rattle.row_state.specs.declared.step.Side.{Side}
use Rattle.bound_log.specs.declared.log.LogStep.{LogStep}

abbrev pub kind_test : NetNo → Option Kind → Bool
kind_test gate None = false
kind_test gate (Some kind) = kind.gate.0 == gate.0

abbrev pub place_test : List Kind → NetNo → Option Side → Bool
place_test kinds gate None = true
place_test kinds gate (Some side) = kind_test gate (slice_get kinds side.kind)

abbrev pub listed_test : Kinds → LogStep → Bool
listed_test k listed = place_test k.p listed.gate listed.step.p && place_test k.n listed.gate listed.step.n
