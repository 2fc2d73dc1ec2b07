use Rattle.std.proofs.Common.{◌<◌, length, IfSome, sym, subst, ap, ◌∙◌}
use Rattle.net_extract.specs.NetMaps.{net_labelled}
use Rattle.net_extract.proofs.NetMaps.{named_within}
use Rattle.net_extract.proofs.netmap.NetMap.net_named.Goals as goal

pub returns-clause-within : goal.returns-clause-within
returns-clause-within c =
    let e = c.net_of_name.ensures ∙ ap (λ hs. net_labelled hs c.args.name.now) c.as_slice.ensures.value in
    let inside = named_within (record { pieces = c.self.inside.pieces.items; labels = c.self.inside.labels.items; names = c.self.inside.names }) c.self.invariant.2 c.args.name.now in
    subst (λ m. IfSome c.net_of_name.result (λ n. n < length m.names)) c.self.view_is (subst (λ o. IfSome o (λ n. n < length c.self.inside.names)) (sym e) inside)
