use Rattle.std.proofs.Common.{subst, sym}
use Rattle.row_state.specs.Start.{IsState}
use Rattle.row_state.proofs.Decoding.{code_valid}
use Rattle.row_state.proofs.coding.decode.Goals as goal

pub returns-clause-state : goal.returns-clause-state
returns-clause-state c = subst (IsState c.args.kinds.now) (sym c.put_state.ensures) (code_valid c.args.kinds.now c.args.code c.requires.code)
