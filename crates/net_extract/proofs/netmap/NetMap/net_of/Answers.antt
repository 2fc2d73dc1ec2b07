use Rattle.std.proofs.Common.{◌<◌, length, IfSome, w64, to_z, of_z, sym, subst, ap, ◌∙◌}
use Rattle.net_extract.specs.NetMaps.{net_in}
use Rattle.net_extract.proofs.NetMaps.{net_within}
use Rattle.net_extract.proofs.netmap.NetMap.net_of.Goals as goal

pub returns-clause-within : goal.returns-clause-within
returns-clause-within c =
    let x = to_z w64 (of_z w64 c.from.result) in
    let y = to_z w64 (of_z w64 c.from-2.result) in
    let e = c.net_at.ensures ∙ ap (λ ps. net_in ps c.args.layer x y) c.as_slice.ensures.value in
    let inside = net_within (record { pieces = c.self.inside.pieces.items; labels = c.self.inside.labels.items; names = c.self.inside.names }) c.self.invariant.2 c.args.layer x y in
    subst (λ m. IfSome c.net_at.result (λ n. n < length m.names)) c.self.view_is (subst (λ o. IfSome o (λ n. n < length c.self.inside.names)) (sym e) inside)
