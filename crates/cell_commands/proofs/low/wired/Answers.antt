use Rattle.cell_inputs.specs.Inputs.{inputs_of}
use Rattle.cell_commands.specs.Evidence.{shown}
use Rattle.cell_commands.specs.Relisted.{kind_of}
use Rattle.cell_commands.proofs.Named.{inside_named}
use Rattle.cell_commands.proofs.Lows.{evidence_of, found_first, found_there, low_fits, wired_made}
use Rattle.cell_commands.proofs.low.wired.Goals as goal

pub beside-requires-clause-arranged : goal.beside-requires-clause-arranged
beside-requires-clause-arranged c = c.requires.open.wired.arranges

pub low_evidence-requires-clause-name : goal.low_evidence-requires-clause-name
low_evidence-requires-clause-name c = inside_named c.args.inputs.now (inputs_of c.inputs.inside.tech c.inputs.inside.cell c.inputs.inside.fingers) c.inputs.view_is c.show_limits.ensures

pub low_evidence-requires-clause-fits : goal.low_evidence-requires-clause-fits
low_evidence-requires-clause-fits c = low_fits (kind_of c.args.gaps) c.args.inputs.now c.args.row.now c.in_ok-listing.listing c.in_ok-listing.ensures

pub drawn-requires : goal.drawn-requires
drawn-requires c = record { arranged = c.requires.open.wired.arranges }

pub returns : goal.returns
returns c =
    wired_made (kind_of c.args.gaps) c.args.style c.args.inputs.now c.args.stem.now c.args.least.now c.args.row.now c.in_ok-listing.listing c.args.tracks.now (shown c.in_ok-evidence.evidence) c.drawn.result
    (evidence_of c.args.style.wiring (inputs_of c.inputs.inside.tech c.inputs.inside.cell c.inputs.inside.fingers) c.args.inputs.now c.args.stem.now c.in_ok-listing.listing c.args.tracks.now (shown c.in_ok-evidence.evidence) c.inputs.view_is c.in_ok-evidence.ensures)
    c.requires.proves c.in_ok-listing.ensures
    (found_there c.args.style.wiring c.args.inputs.now c.args.least.now c.args.gaps c.show_limits.ensures c.requires.found c.requires.routed)
    (found_first (kind_of c.args.gaps) c.args.inputs.now c.args.least.now c.args.gaps c.requires.found)
    c.requires.open c.drawn.ensures
