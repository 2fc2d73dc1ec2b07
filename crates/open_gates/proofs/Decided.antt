-- A test of the gates decides whether they are as asked.
use Rattle.std.specs.Bool.{Decides}
use Rattle.std.specs.List.{list_all}
use Rattle.std.proofs.Common.{refl}
use Rattle.std.proofs.lemmas.Bool.Decides.{Decides-by_and, Decides-ltb}
use Rattle.cell_num.specs.declared.finger.Row.{Row}
use Rattle.cell_num.specs.declared.finger.Fingers.{Fingers}
use Rattle.cell_num.specs.declared.net.NetNo.{NetNo}
use Rattle.cell_num.specs.Fingers.{on_gate}
use Rattle.open_gates.specs.declared.gates.OpenGates.{OpenGates}
use Rattle.open_gates.specs.Open.{AreOpenGates, HasMore, fingers_at, fingers_beside, has_more, have_more}

pub more_decides : (row : Row) (f : Fingers) (gate : NetNo) → Decides (has_more row f gate) (HasMore row f gate)
more_decides row f gate = Decides-ltb (on_gate gate.0 (fingers_beside row f)) (on_gate gate.0 (fingers_at row f))

pub open_decides : (f : Fingers) (opened : OpenGates) → Decides (have_more f opened) (AreOpenGates f opened)
open_decides f opened = Decides-by_and (has_more opened.row f) (HasMore opened.row f) (list_all (has_more opened.row f)) (more_decides opened.row f) refl (λ _ _. refl) opened.gates
