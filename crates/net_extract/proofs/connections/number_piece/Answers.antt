use Rattle.std.proofs.Common.{◌≡◌, List, length, get_or, refl, arith, ◌∙◌, sym, ap}
use Rattle.net_extract.specs.Connections.{blank, nets_of, heads_below}
use Rattle.net_extract.specs.declared.connections.Wire.{Wire}
use Rattle.net_extract.specs.declared.piece.Piece.{Piece}
use Rattle.net_extract.proofs.Cornering.{heads_fewer}
use Rattle.net_extract.proofs.Numbering.{more_numbered, as_many, on_ok}
use Rattle.net_extract.proofs.connections.number_piece.Goals as goal

pub returns : goal.returns
returns c =
    let less = c.requires.at in
    let same : c.as_slice.result.now ≡ c.args.wires.now.items = c.as_slice.ensures.value in
    let many : length c.as_slice.result.now ≡ c.args.at = ap (λ (z : List Wire). length z) same ∙ as_many c.args.pieces.now c.args.labels.now c.args.at c.args.wires.now.items c.args.firsts.now.items (omega (arith, less)) c.requires.before in
    on_ok c.add_wire.result c.add_wire.ensures (λ made. more_numbered c.args.pieces.now c.args.labels.now c.args.at c.args.wires.now.items c.add_wire.new.wires.items c.args.firsts.now.items c.number_of.new.firsts.items (record { piece = get_or c.args.pieces.now c.args.at blank; net = c.in_ok-net.net }) c.requires.at c.requires.labels c.requires.before refl made
    (record {
      first = λ e. c.in_ok-net.ensures.first (e ∙ sym many);
      new = λ e. c.in_ok-net.ensures.new (e ∙ sym many);
      later = λ l. c.in_ok-net.ensures.later (omega (arith, l, many));
      old = λ l. c.in_ok-net.ensures.old (omega (arith, l, many)) ∙ ap (λ (z : List Wire). get_or (nets_of z) (get_or c.args.labels.now c.args.at 0) 0) same;
    }))

pub number_of-requires-clause-few : goal.number_of-requires-clause-few
number_of-requires-clause-few c =
    let at = c.requires.at in
    let few = c.requires.few in
    let e : length c.args.firsts.now.items ≡ length (heads_below c.args.pieces.now c.args.labels.now c.args.at) = ap (λ (z : List Piece). length z) c.requires.before.heads in
    let h = heads_fewer c.args.pieces.now c.args.labels.now c.args.at (length c.args.pieces.now) (omega (arith, at)) in
    omega (arith, e, h, few)
