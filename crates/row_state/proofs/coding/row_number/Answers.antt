use Rattle.std.proofs.Common.{rules, ◌≡◌, ◌∙◌}
use Rattle.row_state.specs.Code.{row_code}
use Rattle.row_state.proofs.Codes.{row_same}
use Rattle.row_state.proofs.coding.row_number.Goals as goal

pub returns-in-P-clause-own : goal.returns-in-P-clause-own
returns-in-P-clause-own c = λ other valid same.
    let number : c.row_digits.result ≡ row_code c.args.row c.args.kinds.now c.args.state.now = search rules in
    row_same c.args.row c.args.kinds.now other c.args.state.now valid c.requires.state (same ∙ number)

pub returns-in-N-clause-own : goal.returns-in-N-clause-own
returns-in-N-clause-own c = λ other valid same.
    let number : c.row_digits-in-N.result ≡ row_code c.args.row c.args.kinds.now c.args.state.now = search rules in
    row_same c.args.row c.args.kinds.now other c.args.state.now valid c.requires.state (same ∙ number)
