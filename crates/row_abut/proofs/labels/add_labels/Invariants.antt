use Rattle.std.proofs.Common.{◌≡◌, ◌++◌, not, drop, map}
use Rattle.std.specs.List.{filter}
use Rattle.box_geom.specs.declared.shape.Label.{Label}
use Rattle.row_abut.specs.Row.{is_rail, label_at, labels_at}
use Rattle.row_abut.proofs.labels.add_labels.Given as goal

abbrev pub invariant-loop-label : goal.invariant-loop-label
invariant-loop-label l =
    l.out ++ map (label_at l.number l.x) (filter (λ (z : Label). not (is_rail l.cell z.name)) (drop l.label-index l.label-items))
    ≡ l.fn.out ++ labels_at (record { number = l.number; x = l.x; cell = l.cell })
