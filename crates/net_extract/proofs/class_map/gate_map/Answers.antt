use Rattle.std.proofs.Common.{List, map, sym, subst, All, ap, ◌∙◌}
use Rattle.box_geom.specs.Rectangle.{IsProper, IsRectangle}
use Rattle.box_geom.specs.declared.shape.Shape.{Shape}
use Rattle.scmos_rules.specs.declared.rules.Deck.TheVariants.{Plain}
use Rattle.net_extract.specs.Corners.{HaveFewSides}
use Rattle.net_extract.specs.Cuts.{poly_of}
use Rattle.net_extract.specs.GateNets.{AreGateNets}
use Rattle.net_extract.specs.Connections.{AreWires}
use Rattle.net_extract.specs.Pieces.{rect_of}
use Rattle.net_extract.specs.declared.connections.Connections.{Connections}
use Rattle.net_extract.specs.declared.piece.Piece.{Piece}
use Rattle.net_extract.proofs.Carving.{all_gates_limited, gate_shapes_proper}
use Rattle.net_extract.proofs.Cornering.{gates_sides}
use Rattle.net_extract.proofs.Extracting.{if_ok, gate_nets}
use Rattle.net_extract.proofs.class_map.gate_map.Goals as goal

pub poly_shapes-requires : goal.poly_shapes-requires
poly_shapes-requires c = subst (λ ps. All (λ p. IsRectangle (rect_of p)) ps) (sym (c.as_slice.ensures ∙ c.in_ok-pieces.ensures)) (all_gates_limited c.args.shapes.now c.requires.limits)

pub connections_of-requires-clause-proper : goal.connections_of-requires-clause-proper
connections_of-requires-clause-proper c = subst (λ zs. All (λ (z : Shape). IsProper z.rect) zs) (sym (c.as_slice-2.ensures.value ∙ c.in_ok-gates.ensures)) (gate_shapes_proper c.as_slice.result.now (subst (λ ps. All (λ p. IsRectangle (rect_of p)) ps) (sym (c.as_slice.ensures ∙ c.in_ok-pieces.ensures)) (all_gates_limited c.args.shapes.now c.requires.limits)))

pub returns : goal.returns
returns c = if_ok (λ (m : Connections). AreWires Plain c.as_slice-2.result.now m.wires.items m.firsts.items) (λ (m : Connections). AreGateNets c.args.shapes.now m.wires.items m.firsts.items) c.connections_of.result (λ m h. gate_nets c.args.shapes.now c.as_slice-2.result.now m.wires.items m.firsts.items c.requires.limits (c.as_slice-2.ensures.value ∙ c.in_ok-gates.ensures ∙ ap (λ (ps : List Piece). map poly_of ps) (c.as_slice.ensures ∙ c.in_ok-pieces.ensures)) h) c.connections_of.ensures.wires

pub connections_of-requires-clause-few : goal.connections_of-requires-clause-few
connections_of-requires-clause-few c = subst HaveFewSides (sym (c.as_slice-2.ensures.value ∙ c.in_ok-gates.ensures ∙ ap (λ (ps : List Piece). map poly_of ps) (c.as_slice.ensures ∙ c.in_ok-pieces.ensures))) (gates_sides c.args.shapes.now c.requires.few)
