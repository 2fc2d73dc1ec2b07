-- The end of a row, from what drawing it resulted in.
use Rattle.std.proofs.Common.{ℕ, ◌≡◌, ◌<◌, ◌++◌, true, false, Bool, List, Result, IfOk, length, string_bytes, subst, sym}
use Rattle.cell_num.specs.declared.list.NoMemory.{NoMemory}
use Rattle.row_model.specs.declared.column.Column.{Column}
use Rattle.channel_route.specs.declared.ring.Ring.{Ring}
use Rattle.channel_route.specs.declared.routing.Routing.{Routing}
use Rattle.row_place.specs.declared.placement.Placement.{Placement}
use Rattle.cell_draw.specs.declared.cell.TheConstants.{MOST_SHAPES}
use Rattle.cell_draw.specs.declared.drawing.Drawing.{Drawing}
use Rattle.gds_read.specs.RoundTrip.{IsReadable}
use Rattle.cell_inputs.specs.declared.style.Style.{Style}
use Rattle.cell_inputs.specs.Inputs.{Inputs, unit_nm}
use Rattle.cell_make.specs.declared.drawn.Drawn.{Drawn}
use Rattle.cell_make.specs.declared.draw_outcome.DrawOutcome.{DrawOutcome}
use Rattle.cell_make.specs.declared.draw_outcome.DrawOutcome.TheVariants as came
use Rattle.cell_make.specs.Making.{drawing_in, final_of}
use Rattle.cell_make.specs.Rows.{CanRowBeWritten, IsRowDrawnBy, RowDrawn, row_answer}
use Rattle.cell_make.specs.Style.{final, tapped_by}
use Rattle.cell_make.proofs.Finals.{final_is}
use Rattle.cell_report.specs.Cells.{fewest_text, tall_text}
use Rattle.cell_report.specs.Cycles.{ring_text}
use Rattle.call_end.specs.declared.end.End.{End}
use Rattle.call_end.specs.declared.end.Output.{Output}
use Rattle.call_end.specs.declared.status.Status.TheVariants as status
use Rattle.call_end.specs.Status.{first_line}
use Rattle.cell_commands.specs.declared.evidence.RowEvidence.{RowEvidence}
use Rattle.cell_commands.specs.Evidence.{evidence_files, shown}
use Rattle.cell_commands.specs.LowEnds.{IsRingEnd}
use Rattle.cell_commands.specs.RowEnd.{IsDrawnEnd, IsRowEnd, RowEvidence as EvidenceOf, one_file}
use Rattle.call_end.specs.End.{IsEnd, named}
use Rattle.cell_commands.proofs.MakeEnds.{file_is}

-- ---- the evidence

-- by the name and the bytes of its file, and what the report says of it
pub file_shown : (file : Output) (name bytes counts told : List ℕ) (r : Result RowEvidence NoMemory) → string_bytes file.name ≡ name → file.bytes ≡ bytes → counts ≡ told → IfOk r (λ e. shown e ≡ one_file (named file) counts) → IfOk r (λ e. shown e ≡ one_file (name, bytes) told)
file_shown file name bytes counts told r named_so holds counted is =
    subst (λ (c : List ℕ). IfOk r (λ e. shown e ≡ one_file (name, bytes) c)) counted
    (subst (λ (f : List ℕ × List ℕ). IfOk r (λ e. shown e ≡ one_file f counts)) (file_is file name bytes named_so holds) is)

-- ---- a drawn row

-- what drawing resulted in, where it is a drawing
pub written_so : (inputs inside : Inputs) (outcome : DrawOutcome) (placement : Placement) (routing : Routing) (drawn : Drawn) (unit : ℕ) → inside ≡ inputs → unit ≡ unit_nm inputs.tech → outcome ≡ came.Drawn placement routing drawn → CanRowBeWritten inputs outcome → IsReadable inside.cell.name (final_of drawn).shapes unit
written_so inputs inside outcome placement routing drawn unit same nm is written =
    let can : CanRowBeWritten inputs (came.Drawn placement routing drawn) = subst (CanRowBeWritten inputs) is written in
    subst (λ (i : Inputs). IsReadable i.cell.name (final_of drawn).shapes unit) (sym same)
    (subst (λ u. IsReadable inputs.cell.name (final_of drawn).shapes u) (sym nm) can.0)

pub few_so : (inputs : Inputs) (outcome : DrawOutcome) (placement : Placement) (routing : Routing) (drawn : Drawn) → outcome ≡ came.Drawn placement routing drawn → CanRowBeWritten inputs outcome → length drawn.drawing.shapes.rects < MOST_SHAPES
few_so inputs outcome placement routing drawn is written =
    let can : CanRowBeWritten inputs (came.Drawn placement routing drawn) = subst (CanRowBeWritten inputs) is written in
    can.1

drawn_end : (style : Style) (inputs inside : Inputs) (out : List ℕ) (row : List Column) (evidence : EvidenceOf) (routing : Routing) (drawn : Drawn) (unit : ℕ) (r : Result End NoMemory) → inside ≡ inputs → unit ≡ unit_nm inputs.tech → drawn.drawing ≡ drawing_in inputs row routing drawn.lines → drawn.tapped ≡ tapped_by style.taps drawn.drawing drawn.lines → IfOk r (IsDrawnEnd inside.cell out row evidence routing drawn.drawing (final_of drawn) unit) → IfOk r (IsRowEnd style inputs out row evidence (RowDrawn routing drawn.lines))
drawn_end style inputs inside out row evidence routing drawn unit r same nm is tapped ends =
    subst (λ (d : Drawing). IfOk r (IsDrawnEnd inputs.cell out row evidence routing d (final style.taps d drawn.lines) (unit_nm inputs.tech))) is
    (subst (λ (f : Drawing). IfOk r (IsDrawnEnd inputs.cell out row evidence routing drawn.drawing f (unit_nm inputs.tech))) (final_is style.taps drawn tapped)
    (subst (λ (i : Inputs). IfOk r (IsDrawnEnd i.cell out row evidence routing drawn.drawing (final_of drawn) (unit_nm inputs.tech))) same
    (subst (λ u. IfOk r (IsDrawnEnd inside.cell out row evidence routing drawn.drawing (final_of drawn) u)) nm ends)))

pub drawn_ends : (style : Style) (inputs inside : Inputs) (out : List ℕ) (row : List Column) (evidence : EvidenceOf) (outcome : DrawOutcome) (placement : Placement) (routing : Routing) (drawn : Drawn) (unit : ℕ) (r : Result End NoMemory) → inside ≡ inputs → unit ≡ unit_nm inputs.tech → outcome ≡ came.Drawn placement routing drawn → IsRowDrawnBy style inputs row outcome → IfOk r (IsDrawnEnd inside.cell out row evidence routing drawn.drawing (final_of drawn) unit) → IfOk r (IsRowEnd style inputs out row evidence (row_answer outcome))
drawn_ends style inputs inside out row evidence outcome placement routing drawn unit r same nm is by ends =
    let from : IsRowDrawnBy style inputs row (came.Drawn placement routing drawn) = subst (IsRowDrawnBy style inputs row) is by in
    let (exact, tapped) = from in
    subst (λ (o : DrawOutcome). IfOk r (IsRowEnd style inputs out row evidence (row_answer o))) (sym is)
    (drawn_end style inputs inside out row evidence routing drawn unit r same nm exact tapped ends)

-- ---- a row that is not drawn

pub cyclic_ends : (style : Style) (inputs inside : Inputs) (out : List ℕ) (row : List Column) (evidence : RowEvidence) (outcome : DrawOutcome) (placement : Placement) (ring : Ring) (report : List ℕ) (end : End) → inside ≡ inputs → outcome ≡ came.Cyclic placement ring → report ≡ first_line status.Cycle ++ ring_text inside.cell.nets ring → IsEnd status.Cycle (evidence_files evidence.files) report end → IsRowEnd style inputs out row (shown evidence) (row_answer outcome) end
cyclic_ends style inputs inside out row evidence outcome placement ring report end same is told ends =
    subst (λ (o : DrawOutcome). IsRowEnd style inputs out row (shown evidence) (row_answer o) end) (sym is)
    (subst (λ (text : List ℕ). IsEnd status.Cycle (evidence_files evidence.files) text end)
    (subst (λ (i : Inputs). report ≡ first_line status.Cycle ++ ring_text i.cell.nets ring) same told) ends)

pub tall_ends : (style : Style) (inputs : Inputs) (out : List ℕ) (row : List Column) (evidence : RowEvidence) (outcome : DrawOutcome) (placement : Placement) (routing : Routing) (needed given : ℕ) (report : List ℕ) (end : End) → outcome ≡ came.Tall placement routing needed given → IsRowDrawnBy style inputs row outcome → report ≡ first_line status.TooTall ++ evidence.fewest ++ tall_text needed given → IsEnd status.TooTall (evidence_files evidence.files) report end → IsRowEnd style inputs out row (shown evidence) (row_answer outcome) end
tall_ends style inputs out row evidence outcome placement routing needed given report end is by told ends =
    let from : IsRowDrawnBy style inputs row (came.Tall placement routing needed given) = subst (IsRowDrawnBy style inputs row) is by in
    let (needs, has) = from in
    subst (λ (o : DrawOutcome). IsRowEnd style inputs out row (shown evidence) (row_answer o) end) (sym is)
    (subst (λ (text : List ℕ). IsEnd status.TooTall (evidence_files evidence.files) text end)
    (subst (λ n. report ≡ first_line status.TooTall ++ evidence.fewest ++ tall_text n inputs.tech.height) needs
    (subst (λ h. report ≡ first_line status.TooTall ++ evidence.fewest ++ tall_text needed h) has told)) ends)

-- the cycle of the first least row where no row can be wired, and where the search for one is open
pub none_ends : (inputs inside : Inputs) (evidence : RowEvidence) (none_wired : Bool) (fewest : ℕ) (ring : Ring) (report : List ℕ) (end : End) → inside ≡ inputs → none_wired ≡ true → report ≡ first_line status.Cycle ++ ring_text inside.cell.nets ring → IsEnd status.Cycle (evidence_files evidence.files) report end → IsRingEnd inputs (shown evidence) none_wired fewest ring end
none_ends inputs inside evidence none_wired fewest ring report end same none told ends =
    subst (λ (b : Bool). IsRingEnd inputs (shown evidence) b fewest ring end) (sym none)
    (subst (λ (text : List ℕ). IsEnd status.Cycle (evidence_files evidence.files) text end)
    (subst (λ (i : Inputs). report ≡ first_line status.Cycle ++ ring_text i.cell.nets ring) same told) ends)

pub open_ends : (inputs inside : Inputs) (evidence : RowEvidence) (none_wired : Bool) (fewest : ℕ) (ring : Ring) (report : List ℕ) (end : End) → inside ≡ inputs → none_wired ≡ false → report ≡ first_line status.Unfinished ++ fewest_text fewest ++ ring_text inside.cell.nets ring → IsEnd status.Unfinished (evidence_files evidence.files) report end → IsRingEnd inputs (shown evidence) none_wired fewest ring end
open_ends inputs inside evidence none_wired fewest ring report end same spent told ends =
    subst (λ (b : Bool). IsRingEnd inputs (shown evidence) b fewest ring end) (sym spent)
    (subst (λ (text : List ℕ). IsEnd status.Unfinished (evidence_files evidence.files) text end)
    (subst (λ (i : Inputs). report ≡ first_line status.Unfinished ++ fewest_text fewest ++ ring_text i.cell.nets ring) same told) ends)
