use Rattle.std.proofs.Common.{◌≡◌, ◌++◌, codes, length, rules}
use Rattle.bound_log.specs.Text.{log_text}
use Rattle.cell_num.specs.Lines.{count_line}
use Rattle.cell_commands.proofs.RowEnds.{file_shown}
use Rattle.cell_commands.proofs.evidence.RowEvidence.of_log.Goals as goal

pub returns : goal.returns
returns c =
    let counted : c.put_count.new.out ≡ count_line (codes "lemmas ") (length c.args.log.lemmas) = search rules in
    file_shown c.in_ok-file.file (c.args.stem.now ++ codes ".clog") (log_text c.args.cell.now.name c.args.log) c.put_count.new.out (count_line (codes "lemmas ") (length c.args.log.lemmas)) c.of_file.result
    c.in_ok-file.ensures.name c.in_ok-file.ensures.bytes counted c.of_file.ensures
