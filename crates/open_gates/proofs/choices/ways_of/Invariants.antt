use Rattle.std.proofs.Common.{◌≡◌, take}
use Rattle.open_gates.specs.Listed.{edges_of, is_listed}
use Rattle.open_gates.specs.Merged.{merged_choices}
use Rattle.open_gates.proofs.choices.ways_of.Given as goal

abbrev pub invariant-loop-choice : goal.invariant-loop-choice
invariant-loop-choice l = edges_of l.all.keys ≡ merged_choices l.row (is_listed l.nets) (take l.choice-index l.choices)
