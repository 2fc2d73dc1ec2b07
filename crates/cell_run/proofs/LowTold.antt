-- What the top call owes of `make` with `--low`, from the end that the files call for and how it was told.
use Rattle.std.proofs.Common.{ℕ, ◌≡◌, ◌⊎◌, true, List, Option, Some, None, Result, Ok, IfSome, inl, inr, ap, sym, subst, ◌∙◌}
use Rattle.cell_io.specs.Desk.{Files, View}
use Rattle.cell_num.proofs.Lists.{some_same}
use Rattle.bound_log.specs.declared.log.Log.{Log as SearchLog}
use Rattle.row_model.specs.declared.column.Column.{Column}
use Rattle.channel_route.specs.declared.ring.Ring.{Ring}
use Rattle.channel_route.specs.declared.routing.Routing.{Routing}
use Rattle.track_log.specs.declared.certificate.TrackCertificate.{TrackCertificate}
use Rattle.call_end.specs.declared.end.End.{End}
use Rattle.call_end.specs.declared.status.Status.{Status}
use Rattle.call_end.specs.declared.status.Status.TheVariants as status
use Rattle.call_end.specs.Deliver.{TellsWhole}
use Rattle.call_read.specs.declared.refusal.Refusal.{Refusal}
use Rattle.call_read.specs.InputFiles.{inputs_from}
use Rattle.call_read.specs.Reading.{Ends, called}
use Rattle.call_read.proofs.Asked.{asked_name, called_parts}
use Rattle.call_words.specs.Asked.{CellAsked}
use Rattle.call_words.specs.Words.{Form, MakeLow}
use Rattle.call_words.specs.declared.evidence.Evidence.{Evidence}
use Rattle.call_words.specs.declared.evidence.Evidence.TheVariants.{Log, Trails}
use Rattle.call_work.proofs.EachCommand.{is_make_low}
use Rattle.call_work.specs.Commands.{Material, MakingLow, gathered, making_low}
use Rattle.call_work.specs.Ends.{is_among}
use Rattle.call_work.specs.declared.material.LowMaterial.{LowMaterial}
use Rattle.cell_inputs.specs.declared.style.Style.{Style}
use Rattle.cell_inputs.specs.declared.style.Wiring.{Wiring}
use Rattle.cell_inputs.specs.Inputs.{Inputs}
use Rattle.cell_make.specs.Low.{DrawsLow, IsLowRouted}
use Rattle.cell_make.specs.LowRows.{IsLeastWired, IsRinged}
use Rattle.cell_make.specs.LowTracks.{ProvesTracks}
use Rattle.cell_make.specs.LowUnwired.{IsUnwiredOpen}
use Rattle.cell_make.specs.Rows.{DrawAnswer, RowDrawn, RowCyclic, RowTall}
use Rattle.cell_commands.specs.declared.certificate.Certificate.{Certificate}
use Rattle.cell_commands.specs.declared.certificate.Certificate.TheVariants as held
use Rattle.cell_commands.specs.Low.{IsLowCertifiedBy, IsUnwiredEnd, MakesLowTo, low_evidence}
use Rattle.cell_commands.specs.Low as low
use Rattle.cell_commands.proofs.LowAccepted.{accepted_tracks}
use Rattle.cell_commands.specs.RowEnd.{IsRowEnd}
use Rattle.cell_commands.specs.Searched.{IsFoundBy}
use Rattle.cell_run.proofs.MadeFiles.{none_drawn}
use Rattle.cell_run.proofs.MakeSettled.{IsDrawnBy, IsRowBy, IsRowRouted, by_end, crowded_so, open_so, row_leaves, said_so}
use Rattle.cell_run.proofs.Worked.{IsAnswered, ends_told, work_statuses}
use Rattle.cell_run.specs.Ended.{WhereEnds}
use Rattle.cell_run.specs.Evidence.{evidence_text}
use Rattle.cell_run.specs.Headline.{IsCyclicCell, IsMadeCell, IsTallCell, IsUnmade}
use Rattle.cell_run.specs.Low.{IsAskedLow, IsMakeLow, IsUnwiredCell}
use Rattle.cell_run.specs.Origin.{CertifiesFewest, CertifiesLow, Low}
use Rattle.trail_either.specs.declared.evidence.TrailEvidence.{TrailEvidence}

-- ---- what the words ask for

-- the material of such a drawing, where it is one
abbrev low_of : Result Material Refusal → Option LowMaterial
low_of (Ok (MakingLow, m)) = Some m
low_of _ = None

words_for : (files : Files) (asked : CellAsked) (out : List ℕ) (style : Style) (evidence : Evidence) (m : LowMaterial) → called files (gathered (Some (MakeLow asked out style evidence))) ≡ Ok (MakingLow, m) → IsAskedLow (Some (MakeLow asked out style evidence)) m
words_for files asked out style evidence m got =
    let read = called_parts files (inputs_from asked) (λ i. Ends (Ok (making_low evidence out style i))) (MakingLow, m) got in
    let same : (making_low evidence out style read.0).1 ≡ m = some_same (making_low evidence out style read.0).1 m (ap low_of read.2) in
    record {
      asked = asked;
      words = ap (λ (x : LowMaterial). Some (MakeLow asked x.stem x.style x.evidence)) same;
      name = ap (λ (x : LowMaterial). x.inputs.cell.name) (sym same) ∙ asked_name files asked read.0 read.1;
    }

asked_so : (files : Files) (form : Form) (m : LowMaterial) → (asked : CellAsked) × (out : List ℕ) × (style : Style) × (evidence : Evidence) × (form ≡ MakeLow asked out style evidence) → called files (gathered (Some form)) ≡ Ok (MakingLow, m) → IsAskedLow (Some form) m
asked_so files form m (asked, out, style, evidence, is) got =
    subst (λ (f : Form). IsAskedLow (Some f) m) (sym is)
    (words_for files asked out style evidence m (subst (λ (f : Form). called files (gathered (Some f)) ≡ Ok (MakingLow, m)) is got))

asked_for : (files : Files) (form : Option Form) (m : LowMaterial) → IsMakeLow form → called files (gathered form) ≡ Ok (MakingLow, m) → IsAskedLow form m
asked_for files None m make got = absurd make
asked_for files (Some form) m make got = asked_so files form m (is_make_low form make) got

asked_told : (form : Option Form) (answer settled : Status) (Says : LowMaterial → Type 0) (given : Option Files) → IfSome given (λ files. WhereEnds MakingLow files form answer settled Says) → IfSome given (λ files. WhereEnds MakingLow files form answer settled (λ m. IsAskedLow form m × Says m))
asked_told form answer settled Says None told = tt
asked_told form answer settled Says (Some files) told = λ make is.
    let (m, comes, says) = told make is in
    (m, comes, (asked_for files form m make comes, says))

-- ---- the row, by what drawing it results in

low_routed : (evidence : Evidence) (style : Style) (inputs : Inputs) (row : List Column) (tracks : TrackCertificate) (routing : Routing) → IsLowRouted style inputs row tracks routing → IsRowRouted (Low evidence style.wiring tracks) style inputs row routing
low_routed evidence style inputs row tracks routing (inl h) = record { acyclic = h.acyclic; legal = h.legal; tracks = inl h }
low_routed evidence style inputs row tracks routing (inr h) = record { acyclic = h.routed.acyclic; legal = h.routed.legal; tracks = inr h }

routed_wired : (style : Style) (inputs : Inputs) (row : List Column) (tracks : TrackCertificate) (routing : Routing) → IsLowRouted style inputs row tracks routing → IsLeastWired style.wiring inputs row
routed_wired style inputs row tracks routing (inl h) = h.least
routed_wired style inputs row tracks routing (inr h) = h.first.least

low_row : (evidence : Evidence) (style : Style) (inputs : Inputs) (row : List Column) (tracks : TrackCertificate) (drawing : DrawAnswer) → DrawsLow style inputs row tracks drawing → IsRowBy (Low evidence style.wiring tracks) inputs row drawing
low_row evidence style inputs row tracks (RowDrawn routing xs) (draws, stop) = routed_wired style inputs row tracks routing draws.routed
low_row evidence style inputs row tracks (RowCyclic ring) (draws, stop) = stop
low_row evidence style inputs row tracks (RowTall routing) (draws, stop) = routed_wired style inputs row tracks routing draws.0

low_drawn : (evidence : Evidence) (style : Style) (inputs : Inputs) (row : List Column) (tracks : TrackCertificate) (drawing : DrawAnswer) → DrawsLow style inputs row tracks drawing → IsDrawnBy (Low evidence style.wiring tracks) style inputs row (IsLowRouted style inputs row tracks) drawing
low_drawn evidence style inputs row tracks drawing h = record {
  routed = λ routing r. low_routed evidence style inputs row tracks routing r;
  from = low_row evidence style inputs row tracks drawing h;
  draws = h.0;
}

-- ---- what it leaves, by its status

abbrev pub LowLeaves : Evidence → Style → Inputs → List ℕ → View → View → Status → Type 0
LowLeaves evidence style inputs out old new status.Done = (tracks : TrackCertificate) × IsMadeCell (Low evidence style.wiring tracks) style inputs out old new
LowLeaves evidence style inputs out old new status.Cycle = (tracks : TrackCertificate) × IsCyclicCell (Low evidence style.wiring tracks) style inputs out old new
LowLeaves evidence style inputs out old new status.TooTall = (tracks : TrackCertificate) × IsTallCell (Low evidence style.wiring tracks) style inputs out old new
LowLeaves evidence style inputs out old new status.Unfinished = IsUnmade evidence inputs out old new ⊎ IsUnwiredCell evidence style.wiring inputs out old new
LowLeaves evidence style inputs out old new _ = Unit {0}

-- `check .. --low` accepts the text of what proves the fewest tracks
fewest_certified : (wiring : Wiring) (inputs : Inputs) (tracks : TrackCertificate) → ProvesTracks wiring inputs tracks → CertifiesFewest wiring inputs tracks
fewest_certified wiring inputs tracks proves = record { proves = proves; accepted = accepted_tracks wiring inputs tracks proves }

-- the certificate of the fewest gaps, by its kind
low_log : (inputs : Inputs) (row : List Column) (log : SearchLog) → IsLowCertifiedBy Log inputs row (held.Log log) → CertifiesLow Log inputs row log
low_log inputs row log (inl is) = inl is
low_log inputs row log (inr (least, more, found)) = inr (record { least = least; first = found.first; more = more; certified = found.certified })

low_trails : (inputs : Inputs) (row : List Column) (trails : TrailEvidence) → IsLowCertifiedBy Trails inputs row (held.Trails trails) → CertifiesLow Trails inputs row trails
low_trails inputs row trails (inl is) = inl is
low_trails inputs row trails (inr (least, more, found)) = inr (record { least = least; first = found.first; more = more; certified = found.certified })

made_so : (evidence : Evidence) (style : Style) (inputs : Inputs) (out : List ℕ) (row : List Column) (certificate : Certificate) (tracks : TrackCertificate) (drawing : DrawAnswer) (end : End) (answer : Status) (old new : View) → ProvesTracks style.wiring inputs tracks → IsLowCertifiedBy evidence inputs row certificate → DrawsLow style inputs row tracks drawing → IsRowEnd style inputs out row (low_evidence style.wiring inputs.cell out certificate tracks) drawing end → TellsWhole end answer old new → LowLeaves evidence style inputs out old new answer
made_so Log style inputs out row (held.Log log) tracks drawing end answer old new proves certified h is whole =
    row_leaves (Low Log style.wiring tracks) style inputs out row log (IsLowRouted style inputs row tracks) drawing end answer old new (LowLeaves Log style inputs out old new) (λ x. (tracks, x)) (λ x. (tracks, x)) (λ x. (tracks, x))
    (low_log inputs row log certified, fewest_certified style.wiring inputs tracks proves) (low_drawn Log style inputs row tracks drawing h) is whole
made_so Trails style inputs out row (held.Trails trails) tracks drawing end answer old new proves certified h is whole =
    row_leaves (Low Trails style.wiring tracks) style inputs out row trails (IsLowRouted style inputs row tracks) drawing end answer old new (LowLeaves Trails style inputs out old new) (λ x. (tracks, x)) (λ x. (tracks, x)) (λ x. (tracks, x))
    (low_trails inputs row trails certified, fewest_certified style.wiring inputs tracks proves) (low_drawn Trails style inputs row tracks drawing h) is whole
made_so Log style inputs out row (held.Trails trails) tracks drawing end answer old new proves (inl none) h is whole = absurd none
made_so Log style inputs out row (held.Trails trails) tracks drawing end answer old new proves (inr (least, more, none)) h is whole = absurd none
made_so Trails style inputs out row (held.Log log) tracks drawing end answer old new proves (inl none) h is whole = absurd none
made_so Trails style inputs out row (held.Log log) tracks drawing end answer old new proves (inr (least, more, none)) h is whole = absurd none

unwired_so : (evidence : Evidence) (wiring : Wiring) (inputs : Inputs) (out : List ℕ) (row : List Column) (certificate : Certificate) (tracks : TrackCertificate) (ring : Ring) (end : End) (answer : Status) (old new : View) → ProvesTracks wiring inputs tracks → IsUnwiredOpen wiring inputs tracks → IsFoundBy evidence inputs row certificate → IsRinged wiring inputs row ring → IsUnwiredEnd wiring inputs out certificate tracks ring end → TellsWhole end answer old new → IsUnwiredCell evidence wiring inputs out old new
unwired_so Log wiring inputs out row (held.Log log) tracks ring end answer old new proves open' found ringed is whole = record {
  row = row;
  certificate = log;
  tracks = tracks;
  ring = ring;
  first = found.first;
  certified = found.certified;
  fewest = fewest_certified wiring inputs tracks proves;
  unwired = open';
  ringed = ringed;
  files = none_drawn (Low Log wiring tracks) inputs.cell out (evidence_text Log inputs.cell.name log) end.files old.made new.made is.files whole.1;
  says = said_so _ end.report old.said new.said is.report whole.2;
}
unwired_so Trails wiring inputs out row (held.Trails trails) tracks ring end answer old new proves open' found ringed is whole = record {
  row = row;
  certificate = trails;
  tracks = tracks;
  ring = ring;
  first = found.first;
  certified = found.certified;
  fewest = fewest_certified wiring inputs tracks proves;
  unwired = open';
  ringed = ringed;
  files = none_drawn (Low Trails wiring tracks) inputs.cell out (evidence_text Trails inputs.cell.name trails) end.files old.made new.made is.files whole.1;
  says = said_so _ end.report old.said new.said is.report whole.2;
}
unwired_so Log wiring inputs out row (held.Trails trails) tracks ring end answer old new proves open' found ringed is whole = absurd found
unwired_so Trails wiring inputs out row (held.Log log) tracks ring end answer old new proves open' found ringed is whole = absurd found

low_leaves_so : (evidence : Evidence) (style : Style) (inputs : Inputs) (out : List ℕ) (end : End) (answer : Status) (old new : View) → MakesLowTo evidence style inputs out end → TellsWhole end answer old new → LowLeaves evidence style inputs out old new answer
low_leaves_so evidence style inputs out end answer old new (low.Made row certificate tracks drawing, (proves, certified, there, h), is) whole =
    made_so evidence style inputs out row certificate tracks drawing end answer old new proves certified h is whole
low_leaves_so evidence style inputs out end answer old new (low.Unwired row certificate tracks ring, (proves, open', found, ringed), is) whole =
    by_end (LowLeaves evidence style inputs out old new) status.Unfinished answer end old new is.status whole (inr (unwired_so evidence style.wiring inputs out row certificate tracks ring end answer old new proves open' found ringed is whole))
low_leaves_so evidence style inputs out end answer old new (low.Open proved certificate, h, is) whole =
    by_end (LowLeaves evidence style inputs out old new) status.Unfinished answer end old new is.status whole (inl (inl (open_so evidence inputs out proved certificate end answer old new h is whole)))
low_leaves_so evidence style inputs out end answer old new (low.Crowded gate, h, is) whole =
    by_end (LowLeaves evidence style inputs out old new) status.Unfinished answer end old new is.status whole (inl (inr (crowded_so evidence inputs gate end answer old new h is whole)))

pub low_leaves : (settled : Status) (a c : View) (form : Option Form) (answer : Status) (given : Option Files) → is_among work_statuses settled ≡ true → IfSome given (IsAnswered form a c answer) → IfSome given (λ files. WhereEnds MakingLow files form answer settled (λ m. IsAskedLow form m × LowLeaves m.evidence m.style m.inputs m.stem a c settled))
low_leaves settled a c form answer given own told =
    asked_told form answer settled (λ m. LowLeaves m.evidence m.style m.inputs m.stem a c settled) given
    (ends_told MakingLow (λ m. LowLeaves m.evidence m.style m.inputs m.stem a c settled) form settled answer a c given own (λ m end works is whole. subst (LowLeaves m.evidence m.style m.inputs m.stem a c) is (low_leaves_so m.evidence m.style m.inputs m.stem end answer a c works whole)) told)
