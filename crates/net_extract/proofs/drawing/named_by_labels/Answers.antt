use Rattle.std.proofs.Common.{◌≡◌, arith, length, refl, sym}
use Rattle.std.proofs.lemmas.Result.{err_from_is_err_and}
use Rattle.net_extract.specs.Lookups.{net_labels_in}
use Rattle.net_extract.proofs.Extracting.{named_are, name_refused}
use Rattle.net_extract.proofs.drawing.named_by_labels.Goals as goal

pub returns-clause-ok : goal.returns-clause-ok
returns-clause-ok c =
    let a = c.as_slice.ensures.value in
    let b = c.as_slice-2.ensures in
    let h = c.in-Ok.ensures in
    let d = c.as_slice-3.ensures.value in
    let n = c.count_of-count.ensures in
    let f = c.as_slice-4.ensures.value in
    let eh : c.as_slice-4.result.now ≡ net_labels_in c.args.map.now.wires.items c.args.shapes.now.labels = grind (arith) in
    let ec : c.count_of-count.result ≡ length c.args.map.now.firsts.items = grind (arith) in
    named_are c.args.map.now.deck c.args.shapes.now c.args.map.now.wires.items c.args.map.now.firsts.items c.as_slice-4.result.now c.count_of-count.result c.in_ok-names.names c.requires.map c.requires.held eh ec c.in_ok-names.ensures.no_short c.in_ok-names.ensures.no_split c.in_ok-names.ensures.names (record { held = c.in-Ok.held; names = c.in_ok-names.names }) (sym f) refl

pub returns-in_err-names-clause-refused : goal.returns-in_err-names-clause-refused
returns-in_err-names-clause-refused c =
    let a = c.as_slice.ensures.value in
    let b = c.as_slice-2.ensures in
    let h = c.in-Ok.ensures in
    let d = c.as_slice-3.ensures.value in
    let n = c.count_of-count.ensures in
    let f = c.as_slice-4.ensures.value in
    let eh : c.as_slice-4.result.now ≡ net_labels_in c.args.map.now.wires.items c.args.shapes.now.labels = grind (arith) in
    let ec : c.count_of-count.result ≡ length c.args.map.now.firsts.items = grind (arith) in
    let p = err_from_is_err_and c.from_residual.result c.from_residual.ensures.1 in
    rw (p.1, p.2) (name_refused c.args.map.now.deck c.args.shapes.now c.args.map.now.wires.items c.args.map.now.firsts.items c.as_slice-4.result.now c.count_of-count.result c.in_err-names.field-0.0 c.requires.regular c.requires.map c.requires.held eh ec c.in_err-names.ensures.refused)
