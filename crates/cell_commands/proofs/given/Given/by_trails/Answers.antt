use Rattle.std.proofs.Common.{◌≡◌, refl, rules}
use Rattle.cell_commands.specs.Counts.{counts_text}
use Rattle.cell_commands.specs.declared.trail_checking.TrailAnswer.TheVariants.{Misread, Rejected}
use Rattle.cell_commands.proofs.GivenRows.{certified_given, trails_refused}
use Rattle.cell_commands.proofs.given.Given.by_trails.Goals as goal

pub returns-in_ok-put_counts-in-Accepted : goal.returns-in_ok-put_counts-in-Accepted
returns-in_ok-put_counts-in-Accepted c =
    let counted : c.put_counts.new.out ≡ counts_text c.in-Accepted.lemmas c.in-Accepted.filled = search rules in
    certified_given c.args.inputs.now c.args.bytes.now c.in_ok-answer.answer c.in-Accepted.row _ c.in-Accepted.lemmas c.in-Accepted.filled c.put_counts.new.out c.in-Accepted.is c.in_ok-answer.ensures counted

pub returns-in_ok-end-in-Misread : goal.returns-in_ok-end-in-Misread
returns-in_ok-end-in-Misread c = trails_refused c.args.inputs.now c.args.bytes.now c.in_ok-answer.answer (Misread c.in-Misread.fault) c.in_ok-end-in-Misread.end c.in-Misread.is c.in_ok-answer.ensures refl c.in_ok-end-in-Misread.ensures

pub returns-in_ok-end-in-Rejected : goal.returns-in_ok-end-in-Rejected
returns-in_ok-end-in-Rejected c = trails_refused c.args.inputs.now c.args.bytes.now c.in_ok-answer.answer (Rejected c.in-Rejected.cause) c.in_ok-end-in-Rejected.end c.in-Rejected.is c.in_ok-answer.ensures refl c.in_ok-end-in-Rejected.ensures
