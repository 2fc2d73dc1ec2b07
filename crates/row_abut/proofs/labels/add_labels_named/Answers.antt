use Rattle.std.proofs.Common.{rules, ◌≡◌, ◌++◌, bytes_eq, filter, [], ◌∷◌}
use Rattle.std.proofs.lemmas.List.Elements.{filter-append}
use Rattle.box_geom.specs.declared.shape.Label.{Label}
use Rattle.row_abut.proofs.Loops.{one_more}
use Rattle.row_abut.proofs.labels.add_labels_named.Goals as goal

pub loop-label-preserved : goal.loop-label-preserved
loop-label-preserved c =
    let named = λ (z : Label). bytes_eq z.name c.args.name.now in
    let l = c.label-item.result in
    let made : c.add_named.new.out ≡ c.loop-label.out ++ filter named (l ∷ []) = search rules in
    one_more (filter named) (filter named) c.args.labels.now c.loop-label.label-index l l (filter named (l ∷ [])) c.loop-label.out c.add_named.new.out (c.args.out.now ++ filter named c.args.labels.now) c.loop-label-test.true c.label-item.is (λ rest. filter-append named (l ∷ []) rest) made c.loop-label.invariant
