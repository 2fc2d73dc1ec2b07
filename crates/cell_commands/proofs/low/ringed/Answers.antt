use Rattle.std.proofs.Common.{ℕ, IfOk, subst}
use Rattle.cell_inputs.specs.Inputs.{inputs_of}
use Rattle.cell_commands.specs.Evidence.{shown}
use Rattle.cell_commands.specs.Low.{open_fewest}
use Rattle.cell_commands.specs.LowEnds.{IsRingEnd}
use Rattle.cell_commands.specs.Relisted.{kind_of}
use Rattle.cell_commands.proofs.Ended.{found_fits}
use Rattle.cell_commands.proofs.Named.{inside_named}
use Rattle.cell_commands.proofs.Lows.{evidence_of, found_there, ring_ends}
use Rattle.cell_commands.proofs.low.ringed.Goals as goal

pub low_evidence-requires-clause-name : goal.low_evidence-requires-clause-name
low_evidence-requires-clause-name c = inside_named c.args.inputs.now (inputs_of c.inputs.inside.tech c.inputs.inside.cell c.inputs.inside.fingers) c.inputs.view_is c.show_limits.ensures

pub low_evidence-requires-clause-fits : goal.low_evidence-requires-clause-fits
low_evidence-requires-clause-fits c = found_fits (kind_of c.args.gaps) c.args.inputs.now c.args.least.now c.args.gaps c.requires.found

pub returns : goal.returns
returns c =
    let fewest : IfOk c.ring_end.result (IsRingEnd c.args.inputs.now (shown c.in_ok-evidence.evidence) c.args.none_wired (open_fewest c.args.style.wiring c.args.tracks.now) c.args.ring.now) =
    subst (λ (n : ℕ). IfOk c.ring_end.result (IsRingEnd c.args.inputs.now (shown c.in_ok-evidence.evidence) c.args.none_wired n c.args.ring.now)) c.open_fewest-fewest.ensures c.ring_end.ensures in
    ring_ends (kind_of c.args.gaps) c.args.style c.args.inputs.now c.args.stem.now c.args.least.now c.args.gaps c.args.tracks.now c.args.none_wired c.args.ring.now (shown c.in_ok-evidence.evidence) c.ring_end.result
    (evidence_of c.args.style.wiring (inputs_of c.inputs.inside.tech c.inputs.inside.cell c.inputs.inside.fingers) c.args.inputs.now c.args.stem.now c.args.gaps c.args.tracks.now (shown c.in_ok-evidence.evidence) c.inputs.view_is c.in_ok-evidence.ensures)
    c.requires.proves (found_there c.args.style.wiring c.args.inputs.now c.args.least.now c.args.gaps c.show_limits.ensures c.requires.found c.requires.routed)
    c.requires.found c.requires.unwired c.requires.ringed fewest
