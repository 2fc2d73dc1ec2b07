use Rattle.std.proofs.Common.{refl, sym, subst, ap, ◌∙◌}
use Rattle.std.proofs.lemmas.Result.{err_from_is_err_and}
use Rattle.scmos_rules.specs.declared.rules.Deck.TheVariants.{Plain}
use Rattle.net_extract.specs.NetMaps.{AreOfNets, HaveNames, net_pieces}
use Rattle.net_extract.proofs.ByName.{are_by_name}
use Rattle.net_extract.proofs.Extracting.{says_on}
use Rattle.net_extract.proofs.NetMaps.{maps, of_nets, have_names}
use Rattle.net_extract.proofs.netmap.NetMap.new.Goals as goal

pub returns-in_err-drawing-clause-many : goal.returns-in_err-drawing-clause-many
returns-in_err-drawing-clause-many c =
    let p = err_from_is_err_and c.from_residual.result c.from_residual.ensures.1 in
    rw (p.1, p.2) (says_on c.args.shapes.now c.in_err-drawing.field-0.0 c.in_err-drawing.ensures.many)

pub returns-clause-maps : goal.returns-clause-maps
returns-clause-maps c = maps Plain c.args.shapes.now c.in_ok-drawing.drawing (record { pieces = c.in-Ok.pieces.items; labels = c.by_name.result.items; names = c.in_ok-drawing.drawing.named.names }) c.in_ok-drawing.ensures.ok (c.in-Ok.ensures ∙ ap net_pieces c.as_slice.ensures.value) c.by_name.ensures.moved refl

pub invariant_of-result : goal.invariant_of-result
invariant_of-result c =
    let e = c.in-Ok.ensures ∙ ap net_pieces c.as_slice.ensures.value in
    let held = c.in_ok-drawing.drawing.named.held.items in
    let is = c.in_ok-drawing.ensures.ok in (
      subst AreOfNets (sym e) (of_nets Plain c.args.shapes.now.rects c.in_ok-drawing.drawing.connections.wires.items c.in_ok-drawing.drawing.connections.firsts.items is.wires is.limits),
      are_by_name held c.by_name.result.items is.named.agreed.no_split c.by_name.ensures.moved c.by_name.ensures.sorted,
      subst (λ ps. HaveNames ps c.by_name.result.items c.in_ok-drawing.drawing.named.names) (sym e) (have_names Plain c.args.shapes.now c.in_ok-drawing.drawing c.by_name.result.items is c.by_name.ensures.moved),
    )
