-- What a call reports and makes of a drawn row: its files, and its report.
use Rattle.std.specs.Prelude.{ℕ, List, [], ◌∷◌, ◌++◌, codes, length}
use Rattle.cell_num.specs.Lines.{count_line}
use Rattle.row_model.specs.declared.column.Column.{Column}
use Rattle.bound_log.specs.declared.log.Log.{Log}
use Rattle.bound_log.specs.Text.{log_text}
use Rattle.channel_route.specs.declared.routing.Routing.{Routing}
use Rattle.cell_draw.specs.declared.drawing.Drawing.{Drawing}
use Rattle.cell_draw.specs.Frame.{needed_of}
use Rattle.gds_write.specs.Written.{written}
use Rattle.lef_write.specs.Lef.{cell_text}
use Rattle.spice_net.specs.declared.subckt.Subckt.{Subckt}
use Rattle.cell_inputs.specs.declared.style.Style.{Style}
use Rattle.cell_inputs.specs.Inputs.{Inputs, unit_nm}
use Rattle.cell_make.specs.Making.{drawing_in, final_in}
use Rattle.cell_make.specs.Rows.{DrawAnswer, RowDrawn, RowCyclic, RowTall}
use Rattle.call_end.specs.declared.end.End.{End}
use Rattle.call_end.specs.declared.status.Status.TheVariants as status
use Rattle.call_end.specs.End.{IsEnd}
use Rattle.call_end.specs.Files.{gds_file, lef_file}
use Rattle.cell_report.specs.Cycles.{ring_text}
use Rattle.cell_report.specs.Cells.{sizes_with, tall_text}
use Rattle.cell_report.specs.Rows.{plan_text}
use Rattle.call_end.specs.Status.{first_line}

abbrev pub log_file : Subckt → List ℕ → Log → List ℕ × List ℕ
log_file cell out log = (out ++ codes ".clog", log_text cell.name log)

-- ---- the end of a row, whatever its evidence is

-- The files of a row's evidence, or none where it was given; the line of how many tracks each least row takes at least,
-- or nothing; and what the report of a drawn row says of the evidence.
pub record RowEvidence : Type 0 where
  pub files : List (List ℕ × List ℕ)
  pub fewest : List ℕ
  pub counts : List ℕ

-- one file, and what the report says of it
abbrev pub one_file : List ℕ × List ℕ → List ℕ → RowEvidence
one_file file counts = record { files = file ∷ []; fewest = []; counts = counts }

-- none, since the evidence was given
abbrev pub no_file : List ℕ → RowEvidence
no_file counts = record { files = []; fewest = []; counts = counts }

-- the library is of the final drawing, the abstract and the report of the one without taps
abbrev pub IsDrawnEnd : Subckt → List ℕ → List Column → RowEvidence → Routing → Drawing → Drawing → ℕ → End → Type 0
IsDrawnEnd cell out row evidence routing drawing final unit =
    IsEnd status.Done
    (evidence.files
    ++ gds_file out (written cell.name final.shapes unit)
    ∷ lef_file out (cell_text cell routing drawing unit)
    ∷ [])
    (first_line status.Done ++ plan_text cell.name cell.nets row
    ++ sizes_with routing.tracks evidence.fewest drawing.width drawing.height ++ evidence.counts)

-- its drawing, or the evidence alone, and why there is no drawing
abbrev pub IsRowEnd : Style → Inputs → List ℕ → List Column → RowEvidence → DrawAnswer → End → Type 0
IsRowEnd style inputs out row evidence (RowDrawn routing xs) =
    IsDrawnEnd inputs.cell out row evidence routing (drawing_in inputs row routing xs)
    (final_in style inputs row routing xs) (unit_nm inputs.tech)
IsRowEnd style inputs out row evidence (RowCyclic ring) =
    IsEnd status.Cycle evidence.files (first_line status.Cycle ++ ring_text inputs.cell.nets ring)
IsRowEnd style inputs out row evidence (RowTall routing) =
    IsEnd status.TooTall evidence.files
    (first_line status.TooTall ++ evidence.fewest
    ++ tall_text (needed_of row routing.tracks) inputs.tech.height)

-- ---- with a log

abbrev pub log_evidence : Subckt → List ℕ → Log → RowEvidence
log_evidence cell out log = one_file (log_file cell out log) (count_line (codes "lemmas ") (length log.lemmas))
