use Rattle.std.proofs.Common.{◌≡◌, ◌++◌, codes, rules}
use Rattle.trail_either.specs.Either.{either_text, fill_count, lemma_count}
use Rattle.cell_commands.specs.Counts.{counts_text}
use Rattle.cell_commands.proofs.RowEnds.{file_shown}
use Rattle.cell_commands.proofs.certificate.trails_evidence.Goals as goal

pub returns : goal.returns
returns c =
    let counted : c.put_counts.new.out ≡ counts_text (lemma_count c.args.trails.now) (fill_count c.args.trails.now) = search rules in
    file_shown c.in_ok-file.file (c.args.stem.now ++ codes ".ctrail") (either_text c.args.cell.now.name c.args.trails.now) c.put_counts.new.out (counts_text (lemma_count c.args.trails.now) (fill_count c.args.trails.now)) c.of_file.result
    c.in_ok-file.ensures.name c.in_ok-file.ensures.bytes counted c.of_file.ensures
