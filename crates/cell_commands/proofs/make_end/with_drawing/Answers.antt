use Rattle.gds_write.specs.Written.{written}
use Rattle.cell_make.specs.Making.{final_of}
use Rattle.lef_write.specs.Lef.{cell_text}
use Rattle.cell_commands.specs.Evidence.{evidence_files}
use Rattle.call_end.specs.Files.{gds_file, lef_file}
use Rattle.cell_commands.proofs.MakeEnds.{drawn_told}
use Rattle.cell_commands.proofs.make_end.with_drawing.Goals as goal

pub returns : goal.returns
returns c =
    drawn_told (evidence_files c.args.evidence.files) c.in_ok-parts.parts.library c.in_ok-parts.parts.summary
    (gds_file c.args.stem.now (written c.args.cell.now.name (final_of c.args.drawn.now).shapes c.args.unit_nm))
    (lef_file c.args.stem.now (cell_text c.args.cell.now c.args.routing.now c.args.drawn.now.drawing c.args.unit_nm))
    c.in_ok-parts.parts.report _ c.drawn_files.result
    c.in_ok-parts.ensures.library c.in_ok-parts.ensures.summary c.in_ok-parts.ensures.report c.drawn_files.ensures
