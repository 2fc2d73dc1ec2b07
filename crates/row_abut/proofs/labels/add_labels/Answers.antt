use Rattle.std.proofs.Common.{rules, ◌≡◌, ◌++◌, not, filter, map, List, [], ◌∷◌, ap, ◌∙◌}
use Rattle.std.proofs.lemmas.List.{map-append}
use Rattle.std.proofs.lemmas.List.Elements.{filter-append}
use Rattle.box_geom.specs.declared.shape.Label.{Label}
use Rattle.row_abut.specs.Row.{Standing, is_rail, label_at, labels_at}
use Rattle.row_abut.proofs.Loops.{one_more}
use Rattle.row_abut.proofs.labels.add_labels.Goals as goal

pub loop-label-preserved : goal.loop-label-preserved
loop-label-preserved c =
    let s : Standing = record { number = c.args.number; x = c.args.x; cell = c.args.cell.now } in
    let signal = λ (z : Label). not (is_rail c.args.cell.now z.name) in
    let signals = λ (ls : List Label). map (label_at c.args.number c.args.x) (filter signal ls) in
    let l = c.label-item.result in
    let made : c.add_label.new.out ≡ c.loop-label.out ++ signals (l ∷ []) = search rules in
    one_more signals signals c.as_slice-label-items.result.now c.loop-label.label-index l l (signals (l ∷ [])) c.loop-label.out c.add_label.new.out (c.args.out.now ++ labels_at s) c.loop-label-test.true c.label-item.is (λ rest. ap (map (label_at c.args.number c.args.x)) (filter-append signal (l ∷ []) rest) ∙ map-append (label_at c.args.number c.args.x) (filter signal (l ∷ [])) (filter signal rest)) made c.loop-label.invariant
