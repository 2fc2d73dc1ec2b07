use Rattle.std.proofs.Common.{arith, subst, sym}
use Rattle.cell_num.specs.Pins.{ArePins}
use Rattle.cell_inputs.specs.Inputs.{AreInputs, Inputs, inputs_of}
use Rattle.track_search.specs.Lowest.{HavePins}
use Rattle.cell_make.proofs.LowPieces.{pieces_so}
use Rattle.cell_make.proofs.Makes.{few_columns}
use Rattle.cell_make.proofs.low_pieces.by_pieces.Goals as goal

pub gaps-gaps-requires : goal.gaps-gaps-requires
gaps-gaps-requires c = omega (arith, few_columns c.args.inputs.now c.args.row.now c.show_limits.ensures c.requires.least.arranges)

pub lowest_pieces-requires : goal.lowest_pieces-requires
lowest_pieces-requires c =
    let inputs : Inputs = c.args.inputs.now in
    let are : AreInputs inputs = c.show_limits.ensures in
    subst (λ (i : Inputs). HavePins i.cell.pins c.args.kinds.now c.gaps-gaps.result) (sym c.inputs.view_is)
    (c.sound_pins.ensures inputs.cell.nets inputs.cell.pins inputs.fingers c.args.kinds.now c.gaps-gaps.result are.sound (subst (λ n. ArePins n inputs.cell.pins) (sym are.sound.named) are.pins) c.requires.kinds)

pub returns : goal.returns
returns c =
    pieces_so c.args.inputs.now (inputs_of c.inputs.inside.tech c.inputs.inside.cell c.inputs.inside.fingers) c.args.kinds.now c.gaps-gaps.result c.most_tracks-most.result c.budget.result c.args.row.now c.args.ring
    c.in_ok-lowest.lowest c.of_lowest.result c.inputs.view_is c.most_tracks-most.ensures c.budget.ensures.is c.show_limits.ensures c.requires.kinds c.show_limits-2.ensures c.requires.least c.gaps-gaps.ensures c.requires.ring
    (record {
      arranges = c.in_ok-lowest.ensures.arranges;
      placed = c.in_ok-lowest.ensures.placed;
      legal = c.in_ok-lowest.ensures.legal;
      fewest = c.in_ok-lowest.ensures.fewest;
      first = c.in_ok-lowest.ensures.first;
      routing = c.in_ok-lowest.ensures.routing;
      certified = c.in_ok-lowest.ensures.certified;
      fits = c.in_ok-lowest.ensures.fits;
      kept = c.in_ok-lowest.ensures.kept;
      few = c.in_ok-lowest.ensures.most;
      spent = c.in_ok-lowest.ensures.open;
    })
    c.of_lowest.ensures
