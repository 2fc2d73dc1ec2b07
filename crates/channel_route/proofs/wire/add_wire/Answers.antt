use Rattle.std.proofs.Common.{◌≡◌, ◌++◌, ◌∷◌, [], false, sym, subst, rules}
use Rattle.cell_num.specs.declared.net.NetNo.{NetNo}
use Rattle.channel_route.specs.Graph.{has_key}
use Rattle.channel_route.specs.Wires.{IsWire, AreFound}
use Rattle.channel_route.proofs.NetWires.{found_push}
use Rattle.channel_route.proofs.wire.add_wire.Goals as goal

pub returns-in_ok-push-in-Some-clause-found : goal.returns-in_ok-push-in-Some-clause-found
returns-in_ok-push-in-Some-clause-found c =
    let pushed : c.push.new.self.items ≡ c.args.wires.now.items ++ c.in-Some.wire ∷ [] = search rules in
    let is : IsWire c.args.placement.now c.args.pins.now c.in-Some.wire = search rules in
    let net : c.in-Some.wire.net ≡ c.args.net = search rules in
    let key : c.in-Some.wire.key ≡ c.args.net.0 = subst (λ (n : NetNo). c.in-Some.wire.key ≡ n.0) net is.key in
    let none : has_key c.args.wires.now.items c.args.net.0 ≡ false = search rules in
    let new : has_key c.args.wires.now.items c.in-Some.wire.key ≡ false = subst (λ n. has_key c.args.wires.now.items n ≡ false) (sym key) none in
    subst (λ ws. AreFound c.args.placement.now c.args.pins.now ws) (sym pushed)
    (found_push c.args.placement.now c.args.pins.now c.args.wires.now.items c.in-Some.wire c.requires.found new is)
