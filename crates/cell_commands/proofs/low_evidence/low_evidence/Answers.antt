use Rattle.std.proofs.Common.{◌≡◌, rules}
use Rattle.cell_report.specs.Cells.{fewest_text}
use Rattle.cell_commands.proofs.Lows.{evidence_shown}
use Rattle.cell_commands.proofs.low_evidence.low_evidence.Goals as goal

pub returns : goal.returns
returns c =
    let fewest : c.put_fewest.new.out ≡ fewest_text c.args.tracks.now.tracks = search rules in
    evidence_shown c.args.wiring c.args.cell.now c.args.stem.now c.args.certificate c.args.tracks.now c.in_ok-evidence.evidence c.in_ok-files.files c.put_fewest.new.out
    c.in_ok-evidence.ensures c.in_ok-files.ensures fewest
