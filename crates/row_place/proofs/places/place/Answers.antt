use Rattle.std.proofs.Common.{◌≡◌, ◌+◌, length, sym, subst, rules}
use Rattle.row_place.specs.declared.placement.Placement.{Placement}
use Rattle.row_place.specs.Units.{units_of, seats_of}
use Rattle.row_place.specs.Trunks.{HasPins}
use Rattle.row_place.specs.Steps.{nodes_below, gates_of}
use Rattle.row_place.proofs.Placed.{exact, placed}
use Rattle.row_place.proofs.Pins.{has_pins}
use Rattle.row_place.proofs.places.place.Goals as goal

pub returns-clause-exact : goal.returns-clause-exact
returns-clause-exact c =
    let same : c.extend.new.self ≡ c.args.row.now = search rules in
    let units : c.in_ok-units.field-0.units ≡ units_of c.args.row.now = search rules in
    let nodes : c.in_ok-nodes.nodes ≡ nodes_below (seats_of c.args.row.now) (length c.in_ok-units.field-0.units + 1) = search rules in
    let gates : c.in_ok-gates.gates ≡ gates_of (seats_of c.args.row.now) = search rules in
    exact c.args.row.now c.extend.new.self c.in_ok-units.field-0.units c.in_ok-nodes.nodes c.in_ok-gates.gates same units nodes gates

pub returns-clause-places : goal.returns-clause-places
returns-clause-places c = placed _ _ (returns-clause-exact c) c.requires.columns c.requires.few

pub returns-clause-pins : goal.returns-clause-pins
returns-clause-pins c = λ names pins f sound are_pins arranged. subst (λ (p : Placement). HasPins p pins) (sym (returns-clause-exact c)) (has_pins names pins f c.args.row.now sound are_pins arranged)
