use Rattle.std.proofs.Common.{◌≡◌, ◌++◌, bytes_eq, drop}
use Rattle.std.specs.List.{filter}
use Rattle.box_geom.specs.declared.shape.Label.{Label}
use Rattle.row_abut.proofs.labels.add_labels_named.Given as goal

abbrev pub invariant-loop-label : goal.invariant-loop-label
invariant-loop-label l = l.out ++ filter (λ (z : Label). bytes_eq z.name l.fn.name) (drop l.label-index l.labels) ≡ l.fn.out ++ filter (λ (z : Label). bytes_eq z.name l.fn.name) l.labels
