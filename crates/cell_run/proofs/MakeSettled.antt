-- The end of a call of `make` over told files, and what it leaves, by its status.
use Rattle.std.proofs.Common.{ℕ, ◌≡◌, List, [], ◌∷◌, ◌++◌, Option, inl, inr, refl, sym, ◌∙◌, subst}
use Rattle.cell_io.specs.Desk.{View, Both}
use Rattle.cell_draw.specs.Frame.{IsTooTall}
use Rattle.cell_num.specs.declared.net.NetNo.{NetNo}
use Rattle.row_model.specs.declared.column.Column.{Column}
use Rattle.row_place.specs.Places.{placement_of}
use Rattle.row_search.specs.First.{IsFirstLeast}
use Rattle.call_end.specs.declared.end.End.{End}
use Rattle.call_end.specs.declared.status.Status.{Status}
use Rattle.call_end.specs.declared.status.Status.TheVariants as status
use Rattle.call_end.specs.Deliver.{Says, TellsWhole}
use Rattle.call_end.specs.Status.{first_line}
use Rattle.call_words.specs.declared.evidence.Evidence.{Evidence}
use Rattle.call_words.specs.declared.evidence.Evidence.TheVariants.{Log, Trails}
use Rattle.cell_inputs.specs.declared.style.Style.{Style}
use Rattle.cell_inputs.specs.Inputs.{Inputs}
use Rattle.cell_make.proofs.Abstracts.{abstract_made}
use Rattle.cell_make.proofs.Small.{small_made}
use Rattle.cell_make.proofs.Rings.{ring_is}
use Rattle.cell_make.specs.Making.{abstract_of, drawing_in, final_in, library_of}
use Rattle.cell_make.specs.Making as made
use Rattle.cell_make.specs.Rows.{Draws, DrawsAs, DrawAnswer, RowDrawn, RowCyclic, RowTall}
use Rattle.cell_make.specs.Style.{AreLegal, HasNoRing, IsToldRing}
use Rattle.cell_report.specs.Logs.{unfinished_text}
use Rattle.cell_run.proofs.FileNames.{told_files}
use Rattle.cell_run.proofs.MadeFiles.{evidence_made, files_made, none_drawn, none_left}
use Rattle.cell_run.specs.Evidence.{Certificate, ProvesAlone, evidence_counts, evidence_name, evidence_text, lemma_count}
use Rattle.cell_run.specs.Origin.{CertifiesBy, IsRoutedOf, IsRowOf, IsStopOf, Origin, Search, fewest_of, kind_of_evidence}
use Rattle.cell_run.specs.Headline.{IsCyclicCell, IsMadeCell, IsOpenMake, IsTallCell, IsUnmade}
use Rattle.cell_run.specs.Plan.{IsCrowdedCell}
use Rattle.channel_route.specs.declared.ring.Ring.{Ring}
use Rattle.channel_route.specs.declared.routing.Routing.{Routing}
use Rattle.cell_commands.specs.declared.certificate.Certificate.{Certificate as HeldCertificate}
use Rattle.cell_commands.specs.declared.certificate.Certificate.TheVariants as held
use Rattle.cell_commands.specs.Certificate.{row_evidence}
use Rattle.cell_commands.specs.Make.{IsOpenEnd, MakesTo}
use Rattle.cell_commands.specs.Make as make
use Rattle.cell_commands.specs.Evidence.{gate_text}
use Rattle.cell_commands.specs.Searched.{Crowds, IsFoundBy, IsOpenBy}
use Rattle.call_end.specs.End.{IsEnd}
use Rattle.cell_commands.specs.RowEnd.{IsRowEnd, RowEvidence}

-- what the end of a row has of its evidence
abbrev pub told_evidence : (origin : Origin) → Inputs → List ℕ → Certificate (kind_of_evidence origin) → RowEvidence
told_evidence origin inputs out certificate = record {
  files = told_files origin inputs.cell out (evidence_text (kind_of_evidence origin) inputs.cell.name certificate);
  fewest = fewest_of origin;
  counts = evidence_counts (kind_of_evidence origin) certificate;
}

-- what a drawing of the row says of its channel, by where the row comes from
pub record IsRowRouted (origin : Origin) (style : Style) (inputs : Inputs) (row : List Column) (routing : Routing) : Type 0 where
  pub acyclic : HasNoRing style.wiring (placement_of row) inputs.cell.pins
  pub legal : AreLegal style.wiring (placement_of row) inputs.cell.pins routing
  pub tracks : IsRoutedOf origin style inputs row routing

-- which row it is, by what drawing it comes to
abbrev pub IsRowBy : Origin → Inputs → List Column → DrawAnswer → Type 0
IsRowBy origin inputs row (RowDrawn routing xs) = IsRowOf origin inputs row
IsRowBy origin inputs row (RowCyclic ring) = IsStopOf origin inputs row
IsRowBy origin inputs row (RowTall routing) = IsRowOf origin inputs row

-- A row of this origin is drawn so: what is said of its channel says this of it.
pub record IsDrawnBy (origin : Origin) (style : Style) (inputs : Inputs) (row : List Column) (Routed : Routing → Type 0) (drawing : DrawAnswer) : Type 0 where
  pub routed : (routing : Routing) → Routed routing → IsRowRouted origin style inputs row routing
  pub from : IsRowBy origin inputs row drawing
  pub draws : DrawsAs Routed style inputs row drawing

-- the end of a search that spent its budget
abbrev pub IsSpentEnd : (evidence : Evidence) → Inputs → List ℕ → ℕ → Certificate evidence → End → Type 0
IsSpentEnd evidence inputs out proved certificate =
    IsEnd status.Unfinished
    ((evidence_name evidence out, evidence_text evidence inputs.cell.name certificate) ∷ [])
    (first_line status.Unfinished ++ unfinished_text proved (lemma_count evidence certificate))

-- by the status of the call
abbrev pub Leaves : Evidence → Style → Inputs → List ℕ → View → View → Status → Type 0
Leaves evidence style inputs out old new status.Done = IsMadeCell (Search evidence) style inputs out old new
Leaves evidence style inputs out old new status.Cycle = IsCyclicCell (Search evidence) style inputs out old new
Leaves evidence style inputs out old new status.TooTall = IsTallCell (Search evidence) style inputs out old new
Leaves evidence style inputs out old new status.Unfinished = IsUnmade evidence inputs out old new
Leaves evidence style inputs out old new _ = Unit {0}

-- with the status of the end that was told
pub by_end : (Is : Status → Type 0) (settled answer : Status) (end : End) (old new : View) → end.status ≡ settled → TellsWhole end answer old new → Is settled → Is answer
by_end Is settled answer end old new is whole so = subst Is (sym (whole.0 ∙ is)) so

pub said_so : (text report : List ℕ) (old new : Option (List ℕ)) → report ≡ text → Both (Says report) old new → Both (Says text) old new
said_so text report old new is said = subst (λ (t : List ℕ). Both (Says t) old new) is said

-- ---- a row, by what drawing it comes to

drawn_so : (origin : Origin) (style : Style) (inputs : Inputs) (out : List ℕ) (row : List Column) (certificate : Certificate (kind_of_evidence origin)) (Routed : Type 0) (routing : Routing) (xs : List ℕ) (end : End) (answer : Status) (old new : View) → IsRowOf origin inputs row → CertifiesBy origin inputs row certificate → (Routed → IsRowRouted origin style inputs row routing) → made.IsDrawnAs Routed style inputs row routing xs → IsRowEnd style inputs out row (told_evidence origin inputs out certificate) (RowDrawn routing xs) end → TellsWhole end answer old new → IsMadeCell origin style inputs out old new
drawn_so origin style inputs out row certificate Routed routing xs end answer old new first certified routed h is whole = record {
  row = row;
  certificate = certificate;
  routing = routing;
  lines = xs;
  least = first;
  certified = certified;
  acyclic = (routed h.routed).acyclic;
  legal = (routed h.routed).legal;
  tracks = (routed h.routed).tracks;
  least_lines = h.lines;
  fits = h.fits;
  drawing = drawing_in inputs row routing xs;
  drawn = refl;
  layout = final_in style inputs row routing xs;
  written = refl;
  obeys = h.obeys;
  extracts = h.extracts;
  bodied = h.bodied;
  shows_row = h.shows_row;
  shows_routing = h.shows_routing;
  ports = h.ports;
  port_trunks = h.port_trunks;
  port_nets = h.port_nets;
  obstructs = h.obstructs;
  sized = h.sized;
  agrees = abstract_made style inputs row routing xs h.agrees;
  small = small_made style inputs row routing xs h.small;
  decodes = h.decodes;
  alone = h.alone;
  files = files_made origin inputs.cell out (evidence_text (kind_of_evidence origin) inputs.cell.name certificate) (library_of inputs (final_in style inputs row routing xs)) (abstract_of inputs routing (drawing_in inputs row routing xs)) end.files old.made new.made is.files whole.1;
  says = said_so _ end.report old.said new.said is.report whole.2;
}

cyclic_so : (origin : Origin) (style : Style) (inputs : Inputs) (out : List ℕ) (row : List Column) (certificate : Certificate (kind_of_evidence origin)) (ring : Ring) (end : End) (answer : Status) (old new : View) → IsStopOf origin inputs row → CertifiesBy origin inputs row certificate → IsToldRing style.wiring (placement_of row) inputs.cell.pins ring → IsRowEnd style inputs out row (told_evidence origin inputs out certificate) (RowCyclic ring) end → TellsWhole end answer old new → IsCyclicCell origin style inputs out old new
cyclic_so origin style inputs out row certificate ring end answer old new stops certified h is whole = record {
  row = row;
  certificate = certificate;
  ring = ring;
  stops = stops;
  certified = certified;
  is_ring = ring_is style.wiring (placement_of row) inputs.cell.pins ring h;
  is_told = h;
  files = none_drawn origin inputs.cell out (evidence_text (kind_of_evidence origin) inputs.cell.name certificate) end.files old.made new.made is.files whole.1;
  says = said_so _ end.report old.said new.said is.report whole.2;
}

tall_so : (origin : Origin) (style : Style) (inputs : Inputs) (out : List ℕ) (row : List Column) (certificate : Certificate (kind_of_evidence origin)) (routing : Routing) (end : End) (answer : Status) (old new : View) → IsRowOf origin inputs row → CertifiesBy origin inputs row certificate → IsRowRouted origin style inputs row routing → IsTooTall row routing.tracks inputs.tech.height → IsRowEnd style inputs out row (told_evidence origin inputs out certificate) (RowTall routing) end → TellsWhole end answer old new → IsTallCell origin style inputs out old new
tall_so origin style inputs out row certificate routing end answer old new first certified routed tall is whole = record {
  row = row;
  certificate = certificate;
  routing = routing;
  least = first;
  certified = certified;
  acyclic = routed.acyclic;
  legal = routed.legal;
  tracks = routed.tracks;
  tall = tall;
  files = none_drawn origin inputs.cell out (evidence_text (kind_of_evidence origin) inputs.cell.name certificate) end.files old.made new.made is.files whole.1;
  says = said_so _ end.report old.said new.said is.report whole.2;
}

-- so it leaves what the three ends of a row leave, each by its status
pub row_leaves : (origin : Origin) (style : Style) (inputs : Inputs) (out : List ℕ) (row : List Column) (certificate : Certificate (kind_of_evidence origin)) (Routed : Routing → Type 0) (drawing : DrawAnswer) (end : End) (answer : Status) (old new : View) (Is : Status → Type 0) → (IsMadeCell origin style inputs out old new → Is status.Done) → (IsCyclicCell origin style inputs out old new → Is status.Cycle) → (IsTallCell origin style inputs out old new → Is status.TooTall) → CertifiesBy origin inputs row certificate → IsDrawnBy origin style inputs row Routed drawing → IsRowEnd style inputs out row (told_evidence origin inputs out certificate) drawing end → TellsWhole end answer old new → Is answer
row_leaves origin style inputs out row certificate Routed (RowDrawn routing xs) end answer old new Is made cyclic tall certified h is whole =
    by_end Is status.Done answer end old new is.status whole (made (drawn_so origin style inputs out row certificate (Routed routing) routing xs end answer old new h.from certified (h.routed routing) h.draws is whole))
row_leaves origin style inputs out row certificate Routed (RowCyclic ring) end answer old new Is made cyclic tall certified h is whole =
    by_end Is status.Cycle answer end old new is.status whole (cyclic (cyclic_so origin style inputs out row certificate ring end answer old new h.from certified h.draws is whole))
row_leaves origin style inputs out row certificate Routed (RowTall routing) end answer old new Is made cyclic tall certified h is whole =
    by_end Is status.TooTall answer end old new is.status whole (tall (tall_so origin style inputs out row certificate routing end answer old new h.from certified (h.routed routing h.draws.0) h.draws.1 is whole))

-- ---- by the kind of evidence

spent_so : (evidence : Evidence) (inputs : Inputs) (out : List ℕ) (proved : ℕ) (certificate : Certificate evidence) (end : End) (answer : Status) (old new : View) → ProvesAlone evidence inputs proved certificate → IsSpentEnd evidence inputs out proved certificate end → TellsWhole end answer old new → IsOpenMake evidence inputs out old new
spent_so evidence inputs out proved certificate end answer old new h is whole = record {
  certificate = certificate;
  proved = proved;
  proves = h;
  files = evidence_made (evidence_name evidence out) (evidence_text evidence inputs.cell.name certificate) end.files old.made new.made is.files whole.1;
  says = said_so _ end.report old.said new.said is.report whole.2;
}

-- a row that is searched for is the first least one, whatever drawing it comes to
searched_row : (evidence : Evidence) (inputs : Inputs) (row : List Column) (drawing : DrawAnswer) → IsFirstLeast inputs.fingers row → IsRowBy (Search evidence) inputs row drawing
searched_row evidence inputs row (RowDrawn routing xs) first = first
searched_row evidence inputs row (RowCyclic ring) first = first
searched_row evidence inputs row (RowTall routing) first = first

searched_so : (evidence : Evidence) (style : Style) (inputs : Inputs) (row : List Column) (drawing : DrawAnswer) → IsFirstLeast inputs.fingers row → Draws style inputs row drawing → IsDrawnBy (Search evidence) style inputs row (made.IsRouted style inputs row) drawing
searched_so evidence style inputs row drawing first h = record {
  routed = λ routing r. record { acyclic = r.acyclic; legal = r.legal; tracks = r.tight };
  from = searched_row evidence inputs row drawing first;
  draws = h;
}

-- with an end of `make`
made_so : (evidence : Evidence) (style : Style) (inputs : Inputs) (out : List ℕ) (row : List Column) (certificate : HeldCertificate) (drawing : DrawAnswer) (end : End) (answer : Status) (old new : View) → IsFoundBy evidence inputs row certificate → Draws style inputs row drawing → IsRowEnd style inputs out row (row_evidence inputs.cell out certificate) drawing end → TellsWhole end answer old new → Leaves evidence style inputs out old new answer
made_so Log style inputs out row (held.Log log) drawing end answer old new found h is whole =
    row_leaves (Search Log) style inputs out row log (made.IsRouted style inputs row) drawing end answer old new (Leaves Log style inputs out old new) (λ x. x) (λ x. x) (λ x. x) found.certified (searched_so Log style inputs row drawing found.first h) is whole
made_so Trails style inputs out row (held.Trails trails) drawing end answer old new found h is whole =
    row_leaves (Search Trails) style inputs out row trails (made.IsRouted style inputs row) drawing end answer old new (Leaves Trails style inputs out old new) (λ x. x) (λ x. x) (λ x. x) found.certified (searched_so Trails style inputs row drawing found.first h) is whole
made_so Log style inputs out row (held.Trails trails) drawing end answer old new found h is whole = absurd found
made_so Trails style inputs out row (held.Log log) drawing end answer old new found h is whole = absurd found

pub open_so : (evidence : Evidence) (inputs : Inputs) (out : List ℕ) (proved : ℕ) (certificate : HeldCertificate) (end : End) (answer : Status) (old new : View) → IsOpenBy evidence inputs proved certificate → IsOpenEnd inputs.cell out proved certificate end → TellsWhole end answer old new → IsOpenMake evidence inputs out old new
open_so Log inputs out proved (held.Log log) end answer old new h is whole = spent_so Log inputs out proved log end answer old new h is whole
open_so Trails inputs out proved (held.Trails trails) end answer old new h is whole = spent_so Trails inputs out proved trails end answer old new h is whole
open_so Log inputs out proved (held.Trails trails) end answer old new h is whole = absurd h
open_so Trails inputs out proved (held.Log log) end answer old new h is whole = absurd h

pub crowded_so : (evidence : Evidence) (inputs : Inputs) (gate : NetNo) (end : End) (answer : Status) (old new : View) → Crowds evidence inputs gate → IsEnd status.Unfinished [] (first_line status.Unfinished ++ gate_text inputs.cell gate) end → TellsWhole end answer old new → IsCrowdedCell evidence inputs old new × (new.made ≡ old.made)
crowded_so evidence inputs gate end answer old new h is whole = (
  record { gate = gate; crowded = h; says = said_so _ end.report old.said new.said is.report whole.2 },
  none_left end.files old.made new.made is.files whole.1,
)

pub make_leaves_so : (evidence : Evidence) (style : Style) (inputs : Inputs) (out : List ℕ) (end : End) (answer : Status) (old new : View) → MakesTo evidence style inputs out end → TellsWhole end answer old new → Leaves evidence style inputs out old new answer
make_leaves_so evidence style inputs out end answer old new (make.Made row certificate drawing, (found, h), is) whole = made_so evidence style inputs out row certificate drawing end answer old new found h is whole
make_leaves_so evidence style inputs out end answer old new (make.Open proved certificate, h, is) whole =
    by_end (Leaves evidence style inputs out old new) status.Unfinished answer end old new is.status whole (inl (open_so evidence inputs out proved certificate end answer old new h is whole))
make_leaves_so evidence style inputs out end answer old new (make.Crowded gate, h, is) whole =
    by_end (Leaves evidence style inputs out old new) status.Unfinished answer end old new is.status whole (inr (crowded_so evidence inputs gate end answer old new h is whole))
