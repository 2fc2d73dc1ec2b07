use Rattle.row_state.specs.ComponentLaw.{component_holds}
use Rattle.row_needs.proofs.gap_bound.ComponentGapBound.show_holds.Goals as goal

pub returns : goal.returns
returns c = λ row s k some valid. component_holds k s row some
