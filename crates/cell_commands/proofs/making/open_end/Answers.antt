use Rattle.std.proofs.Common.{ℕ, ◌≡◌, ◌++◌, List, ap, rules, subst}
use Rattle.call_end.specs.declared.status.Status.TheVariants as status
use Rattle.call_end.specs.Status.{first_line}
use Rattle.cell_report.specs.Logs.{unfinished_text}
use Rattle.cell_commands.specs.Evidence.{evidence_files}
use Rattle.call_end.specs.End.{IsEnd}
use Rattle.cell_commands.specs.RowEnd.{RowEvidence as EvidenceOf}
use Rattle.cell_commands.specs.Certificate.{lemma_count, row_evidence}
use Rattle.cell_commands.proofs.making.open_end.Goals as goal

pub returns : goal.returns
returns c =
    let told : c.in_ok-report.report ≡ first_line status.Unfinished ++ unfinished_text c.args.proved (lemma_count c.args.certificate) = search rules in
    let files : evidence_files c.in_ok-evidence.evidence.files ≡ (row_evidence c.args.cell.now c.args.stem.now c.args.certificate).files = ap (λ (x : EvidenceOf). x.files) c.in_ok-evidence.ensures in
    subst (λ (text : List ℕ). IsEnd status.Unfinished (row_evidence c.args.cell.now c.args.stem.now c.args.certificate).files text c.evidence_end.result) told
    (subst (λ (fs : List (List ℕ × List ℕ)). IsEnd status.Unfinished fs c.in_ok-report.report c.evidence_end.result) files c.evidence_end.ensures)
