use Rattle.std.proofs.Common.{◌≡◌, [], IfOk, Option, subst}
use Rattle.std.specs.Prelude.{MatchOption}
use Rattle.bound_log.specs.declared.log.Best.{Best}
use Rattle.log_check.specs.Accepted.{columns_listed}
use Rattle.log_check.specs.Items.{Checked}
use Rattle.cell_commands.proofs.log_checker.LogChecker.listed.Goals as goal

pub returns : goal.returns
returns c =
    subst (λ (s : Checked). IfOk c.listed_row.result (λ row. MatchOption s.row (row ≡ []) (λ best. row ≡ columns_listed c.args.kinds.now best.steps))) c.self.view_is
    (subst (λ (listed : Option Best). IfOk c.listed_row.result (λ row. MatchOption listed (row ≡ []) (λ best. row ≡ columns_listed c.args.kinds.now best.steps))) c.row.ensures c.listed_row.ensures)
