use Rattle.std.proofs.Common.{◌≡◌, take}
use Rattle.net_extract.specs.Lookups.{net_labels_in}
use Rattle.net_extract.proofs.lookup.all_net_labels.Given as goal

abbrev pub invariant-loop-label : goal.invariant-loop-label
invariant-loop-label l = l.all.items ≡ net_labels_in l.wires (take l.label-index l.labels)
