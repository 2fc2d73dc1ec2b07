use Rattle.std.proofs.Common.{◌≡◌, ◌++◌, codes, subst, sym}
use Rattle.cell_draw.specs.declared.drawing.Drawing.{Drawing}
use Rattle.gds_read.specs.RoundTrip.{IsReadable}
use Rattle.gds_write.specs.Written.{written}
use Rattle.cell_make.specs.Making.{final_of}
use Rattle.lef_write.specs.Lef.{cell_text}
use Rattle.cell_commands.proofs.MakeEnds.{file_is}
use Rattle.cell_commands.proofs.make_end.drawn_parts.Goals as goal

pub gds_file-requires : goal.gds_file-requires
gds_file-requires c = subst (λ (d : Drawing). IsReadable c.args.cell.now.name d.shapes c.args.unit_nm) (sym c.final_drawing.ensures) c.requires.readable

pub returns-clause-library : goal.returns-clause-library
returns-clause-library c =
    file_is c.in_ok-library.library (c.args.stem.now ++ codes ".gds") (written c.args.cell.now.name (final_of c.args.drawn.now).shapes c.args.unit_nm) c.in_ok-library.ensures.name
    (subst (λ (d : Drawing). c.in_ok-library.library.bytes ≡ written c.args.cell.now.name d.shapes c.args.unit_nm) c.final_drawing.ensures c.in_ok-library.ensures.bytes)

pub returns-clause-summary : goal.returns-clause-summary
returns-clause-summary c =
    file_is c.in_ok-summary.summary (c.args.stem.now ++ codes ".lef") (cell_text c.args.cell.now c.args.routing.now c.args.drawn.now.drawing c.args.unit_nm) c.in_ok-summary.ensures.name c.in_ok-summary.ensures.bytes
