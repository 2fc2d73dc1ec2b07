use Rattle.std.proofs.Common.{◌≡◌, length, rules}
use Rattle.bound_log.specs.Text.{log_text}
use Rattle.cell_report.proofs.Unfinished.{spent_end}
use Rattle.cell_report.proofs.reports.log_unfinished.Goals as goal

pub returns : goal.returns
returns c =
    let counted : c.count.result ≡ length c.args.log.lemmas = search rules in
    let written : c.in_ok-text.text ≡ log_text c.args.cell.now.name c.args.log = search rules in
    spent_end c.args.cell.now c.args.proved c.count.result c.args.log c.in_ok-front.front c.in_ok-text.text c.with_log-report.result c.tells.result counted c.in_ok-front.ensures written c.with_log-report.ensures c.tells.ensures
