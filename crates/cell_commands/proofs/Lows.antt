-- What making the lowest row results in, from what the searches and the drawing answered.
use Rattle.std.proofs.Common.{ℕ, ◌≡◌, ◌≢◌, ◌∙◌, ◌++◌, true, false, Bool, List, Result, IfOk, ap, inl, inr, refl, subst, sym, arith}
use Rattle.std.proofs.lemmas.Result.{IfOk-weaker}
use Rattle.cell_num.specs.declared.list.NoMemory.{NoMemory}
use Rattle.cell_num.specs.declared.net.NetNo.{NetNo}
use Rattle.row_model.specs.declared.column.Column.{Column}
use Rattle.row_model.specs.Arrangement.{IsArrangement}
use Rattle.row_model.specs.Gaps.{gaps_of}
use Rattle.row_state.specs.declared.kind.Kinds.{Kinds}
use Rattle.row_state.specs.Component.{component_value}
use Rattle.row_state.specs.Start.{AreKinds, AreSomeKinds}
use Rattle.bound_log.specs.declared.log.Best.{Best}
use Rattle.row_search.specs.First.{IsFirstLeast}
use Rattle.cell_commands.specs.Listed.{IsBestOf}
use Rattle.cell_commands.proofs.Listing.{certified_too, solved_too}
use Rattle.call_words.specs.declared.evidence.Evidence.{Evidence}
use Rattle.call_words.specs.declared.evidence.Evidence.TheVariants.{Log, Trails}
use Rattle.call_end.specs.declared.end.End.{End}
use Rattle.call_end.specs.declared.end.Output.{Output}
use Rattle.call_end.specs.declared.status.Status.TheVariants as status
use Rattle.call_end.specs.End.{IsEnd, reports}
use Rattle.call_end.specs.Status.{first_line}
use Rattle.cell_report.specs.Cells.{fewest_text}
use Rattle.cell_report.specs.Cycles.{ring_text}
use Rattle.channel_route.specs.declared.ring.Ring.{Ring}
use Rattle.channel_route.specs.declared.routing.Routing.{Routing}
use Rattle.spice_net.specs.declared.subckt.Subckt.{Subckt}
use Rattle.track_log.specs.declared.certificate.TrackCertificate.{TrackCertificate}
use Rattle.cell_inputs.specs.declared.style.Style.{Style}
use Rattle.cell_inputs.specs.declared.style.Wiring.{Wiring}
use Rattle.cell_inputs.specs.Inputs.{AreInputs, Inputs}
use Rattle.cell_make.specs.declared.draw_outcome.DrawOutcome.{DrawOutcome}
use Rattle.cell_make.specs.Low.{DrawsLow, IsLowest, IsOpenRow}
use Rattle.cell_make.specs.LowRows.{CanBeRouted, HasFirstLeast, IsLeast, IsRinged}
use Rattle.cell_make.specs.LowTracks.{ProvesTracks}
use Rattle.cell_make.specs.LowUnwired.{IsUnwiredEnd as IsUnwired}
use Rattle.cell_make.specs.Rows.{ComesAs, DrawAnswer, IsThat, IsWired, RowCyclic, row_answer}
use Rattle.cell_make.proofs.LogFits as log
use Rattle.cell_make.proofs.LowCell.{first_there}
pub use Rattle.cell_make.proofs.LowCell.{first_least}
use Rattle.cell_make.proofs.LowDrawn.{lowest_draws}
use Rattle.cell_make.proofs.LowOpen.{open_draws}
use Rattle.cell_commands.specs.declared.certificate.Certificate.{Certificate}
use Rattle.cell_commands.specs.declared.certificate.Certificate.TheVariants as held
use Rattle.cell_commands.specs.declared.evidence.RowEvidence.{RowEvidence as EvidenceOf}
use Rattle.cell_commands.specs.Certificate.{CanBeWritten, row_evidence}
use Rattle.cell_commands.specs.Evidence.{evidence_files, gate_text, shown}
use Rattle.cell_commands.specs.Low.{Crowded, IsLowCertifiedBy, Made, MakesLowTo, Open, Unwired, low_evidence, open_fewest, track_files}
use Rattle.cell_commands.specs.LowEnds.{IsRingEnd}
use Rattle.cell_commands.specs.Make.{IsDrawnTo, IsOpenEnd}
use Rattle.cell_commands.specs.RowEnd.{IsRowEnd, RowEvidence}
use Rattle.cell_commands.proofs.Ended.{crowded_end, found_fits}
use Rattle.cell_commands.specs.Relisted.{IsFoundFor, ListsInstead, kind_of, listing}
use Rattle.cell_commands.specs.Searched.{Crowds, IsCertifiedBy, IsFoundBy, IsOpenBy}

-- ---- what is found

pub found_kind : (evidence : Evidence) (inputs : Inputs) (row : List Column) (certificate : Certificate) → IsFoundBy evidence inputs row certificate → kind_of certificate ≡ evidence
found_kind Log inputs row (held.Log found) is = refl
found_kind Trails inputs row (held.Trails found) is = refl
found_kind Log inputs row (held.Trails found) is = absurd is
found_kind Trails inputs row (held.Log found) is = absurd is

-- it was found for the row, as its own kind has it
pub found_for : (evidence : Evidence) (inputs : Inputs) (row : List Column) (certificate : Certificate) → IsFoundBy evidence inputs row certificate → IsFoundFor inputs row certificate
found_for evidence inputs row certificate is = subst (λ (e : Evidence). IsFoundBy e inputs row certificate) (sym (found_kind evidence inputs row certificate is)) is

pub found_first : (evidence : Evidence) (inputs : Inputs) (row : List Column) (certificate : Certificate) → IsFoundBy evidence inputs row certificate → IsFirstLeast inputs.fingers row
found_first Log inputs row (held.Log found) is = is.first
found_first Trails inputs row (held.Trails found) is = is.first
found_first Log inputs row (held.Trails found) is = absurd is
found_first Trails inputs row (held.Log found) is = absurd is

pub found_there : (wiring : Wiring) (inputs : Inputs) (row : List Column) (certificate : Certificate) → AreInputs inputs → IsFoundFor inputs row certificate → CanBeRouted wiring inputs row → HasFirstLeast wiring inputs
found_there wiring inputs row certificate are is routed = first_there wiring inputs row are (found_first (kind_of certificate) inputs row certificate is) routed

pub found_certified : (evidence : Evidence) (inputs : Inputs) (row : List Column) (certificate : Certificate) → IsFoundBy evidence inputs row certificate → IsCertifiedBy evidence inputs row certificate
found_certified Log inputs row (held.Log found) is = is.certified
found_certified Trails inputs row (held.Trails found) is = is.certified
found_certified Log inputs row (held.Trails found) is = absurd is
found_certified Trails inputs row (held.Log found) is = absurd is

pub certified_fits : (evidence : Evidence) (inputs : Inputs) (row : List Column) (certificate : Certificate) → IsCertifiedBy evidence inputs row certificate → CanBeWritten certificate
certified_fits Log inputs row (held.Log found) is = log.found_fits inputs row found is
certified_fits Trails inputs row (held.Trails found) (k, of_k, some_k, certified) = (k, some_k, certified.fits)
certified_fits Log inputs row (held.Trails found) is = absurd is
certified_fits Trails inputs row (held.Log found) is = absurd is

-- ---- another least row

-- two least rows have as many gaps
same_gaps : (inputs : Inputs) (row other : List Column) → IsLeast inputs.fingers row → IsLeast inputs.fingers other → gaps_of other ≡ gaps_of row
same_gaps inputs row other least too = omega (arith, too.least row least.arranges, least.least other too.arranges)

-- the certificate that was found for one certifies the other, where it lists that
listed_by : (inputs : Inputs) (row other : List Column) (certificate : Certificate) (k : Kinds) (best : Best) → IsFoundFor inputs row certificate → IsLeast inputs.fingers other → AreKinds inputs.fingers k → AreSomeKinds k → IsBestOf k other best → IsCertifiedBy (kind_of certificate) inputs other (listing certificate best)
listed_by inputs row other (held.Log found) k best is least of_k some_k lists =
    let (version, solved) = is.certified in
    (version, solved_too component_value k inputs.fingers inputs.tech.budget found row other best of_k some_k solved least.arranges (same_gaps inputs row other (first_least inputs row is.first) least) lists)
listed_by inputs row other (held.Trails found) k best is least of_k some_k lists =
    certified_too k inputs.fingers found row other best of_k some_k is.certified least.arranges (same_gaps inputs row other (first_least inputs row is.first) least) lists

relisted_certified : (inputs : Inputs) (row other : List Column) (certificate relisted : Certificate) → IsFoundFor inputs row certificate → IsLeast inputs.fingers other → ListsInstead inputs other certificate relisted → IsCertifiedBy (kind_of certificate) inputs other relisted
relisted_certified inputs row other certificate relisted is least (k, of_k, some_k, (best, lists, same)) =
    subst (IsCertifiedBy (kind_of certificate) inputs other) (sym same) (listed_by inputs row other certificate k best is least of_k some_k lists)

pub lists_instead : (inside inputs : Inputs) (row : List Column) (certificate other : Certificate) (k : Kinds) (best : Best) → inside ≡ inputs → AreKinds inside.fingers k → AreSomeKinds k → IsBestOf k row best → other ≡ listing certificate best → ListsInstead inputs row certificate other
lists_instead inside inputs row certificate other k best same of_k some_k lists is =
    subst (λ (i : Inputs). ListsInstead i row certificate other) same (k, of_k, some_k, (best, lists, is))

-- ---- the certificate beside a row that can be wired

-- a row with as many gaps as a least one is a least one
as_least : (inputs : Inputs) (row other : List Column) → IsLeast inputs.fingers row → IsArrangement other inputs.fingers → gaps_of other ≡ gaps_of row → IsLeast inputs.fingers other
as_least inputs row other least arranged same = record { arranges = arranged; least = λ third o. omega (arith, same, least.least third o) }

pub beside_listed : (inputs : Inputs) (least row : List Column) (certificate : Certificate) (r : Result Certificate NoMemory) → IsFoundFor inputs least certificate → IsArrangement row inputs.fingers → gaps_of row ≡ gaps_of least → IfOk r (ListsInstead inputs row certificate) → IfOk r (IsLowCertifiedBy (kind_of certificate) inputs row)
beside_listed inputs least row certificate r is arranged same lists =
    let as_few : IsLeast inputs.fingers row = as_least inputs least row (first_least inputs least (found_first (kind_of certificate) inputs least certificate is)) arranged same in
    IfOk-weaker r (ListsInstead inputs row certificate) (IsLowCertifiedBy (kind_of certificate) inputs row) (λ relisted l. inl (relisted_certified inputs least row certificate relisted is as_few l)) lists

pub beside_more : (inputs : Inputs) (least row : List Column) (certificate : Certificate) → IsFoundFor inputs least certificate → IsArrangement row inputs.fingers → gaps_of row ≢ gaps_of least → IsLowCertifiedBy (kind_of certificate) inputs row certificate
beside_more inputs least row certificate is arranged differ =
    let first : IsFirstLeast inputs.fingers least = found_first (kind_of certificate) inputs least certificate is in
    inr (least, omega (arith, differ, first.least row arranged), is)

pub low_fits : (evidence : Evidence) (inputs : Inputs) (row : List Column) (certificate : Certificate) → IsLowCertifiedBy evidence inputs row certificate → CanBeWritten certificate
low_fits evidence inputs row certificate (inl is) = certified_fits evidence inputs row certificate is
low_fits evidence inputs row certificate (inr (least, more, is)) = found_fits evidence inputs least certificate is

-- ---- the evidence

evidence_is : (files files' : List (List ℕ × List ℕ)) (fewest fewest' counts counts' : List ℕ) → files ≡ files' → fewest ≡ fewest' → counts ≡ counts' → ◌≡◌ {A = RowEvidence} (record { files = files; fewest = fewest; counts = counts }) (record { files = files'; fewest = fewest'; counts = counts' })
evidence_is files files' fewest fewest' counts counts' f w c = cc

-- that of a row, with the file of its tracks after its files
pub evidence_shown : (wiring : Wiring) (cell : Subckt) (out : List ℕ) (certificate : Certificate) (tracks : TrackCertificate) (of_row : EvidenceOf) (files : List Output) (fewest : List ℕ) → shown of_row ≡ row_evidence cell out certificate → evidence_files files ≡ evidence_files of_row.files ++ track_files wiring cell out tracks → fewest ≡ fewest_text tracks.tracks → shown (record { files = files; fewest = fewest; counts = of_row.counts }) ≡ low_evidence wiring cell out certificate tracks
evidence_shown wiring cell out certificate tracks of_row files fewest is more counted =
    evidence_is (evidence_files files) ((row_evidence cell out certificate).files ++ track_files wiring cell out tracks) fewest (fewest_text tracks.tracks) of_row.counts (row_evidence cell out certificate).counts
    (more ∙ ap (λ (e : RowEvidence). e.files ++ track_files wiring cell out tracks) is) counted (ap (λ (e : RowEvidence). e.counts) is)

-- ---- the end

-- the evidence as the code has it, of the inputs as they are seen
pub evidence_of : (wiring : Wiring) (inside inputs : Inputs) (out : List ℕ) (certificate : Certificate) (tracks : TrackCertificate) (told : RowEvidence) → inside ≡ inputs → told ≡ low_evidence wiring inside.cell out certificate tracks → told ≡ low_evidence wiring inputs.cell out certificate tracks
evidence_of wiring inside inputs out certificate tracks told same is = subst (λ (i : Inputs). told ≡ low_evidence wiring i.cell out certificate tracks) same is

row_made : (evidence : Evidence) (style : Style) (inputs : Inputs) (out : List ℕ) (row : List Column) (certificate : Certificate) (tracks : TrackCertificate) (answer : DrawAnswer) (told : RowEvidence) (end : End) → told ≡ low_evidence style.wiring inputs.cell out certificate tracks → ProvesTracks style.wiring inputs tracks → IsLowCertifiedBy evidence inputs row certificate → HasFirstLeast style.wiring inputs → DrawsLow style inputs row tracks answer → IsRowEnd style inputs out row told answer end → MakesLowTo evidence style inputs out end
row_made evidence style inputs out row certificate tracks answer told end is proves certified there draws ends =
    (Made row certificate tracks answer, (proves, certified, there, draws), subst (λ (t : RowEvidence). IsRowEnd style inputs out row t answer end) is ends)

pub lowest_made : (evidence : Evidence) (style : Style) (inputs : Inputs) (out : List ℕ) (row drawn : List Column) (certificate : Certificate) (tracks : TrackCertificate) (routing : Routing) (came : DrawOutcome) (told : RowEvidence) (r : Result End NoMemory) → drawn ≡ row → told ≡ low_evidence style.wiring inputs.cell out certificate tracks → ProvesTracks style.wiring inputs tracks → IsLowCertifiedBy evidence inputs row certificate → HasFirstLeast style.wiring inputs → IsLowest style.wiring inputs row routing tracks → IsWired came → ComesAs (IsThat routing) style inputs row came → IfOk r (IsRowEnd style inputs out drawn told (row_answer came)) → IfOk r (MakesLowTo evidence style inputs out)
lowest_made evidence style inputs out row drawn certificate tracks routing came told r same is proves certified there lowest wired comes ends =
    IfOk-weaker r (IsRowEnd style inputs out row told (row_answer came)) (MakesLowTo evidence style inputs out)
    (λ end e. row_made evidence style inputs out row certificate tracks (row_answer came) told end is proves certified there (lowest_draws style inputs row tracks routing came lowest wired comes) e)
    (subst (λ (columns : List Column). IfOk r (IsRowEnd style inputs out columns told (row_answer came))) same ends)

-- the first row that can be wired with the fewest gaps
pub wired_made : (evidence : Evidence) (style : Style) (inputs : Inputs) (out : List ℕ) (least row : List Column) (certificate : Certificate) (tracks : TrackCertificate) (told : RowEvidence) (r : Result End NoMemory) → told ≡ low_evidence style.wiring inputs.cell out certificate tracks → ProvesTracks style.wiring inputs tracks → IsLowCertifiedBy evidence inputs row certificate → HasFirstLeast style.wiring inputs → IsFirstLeast inputs.fingers least → IsOpenRow style.wiring inputs least row tracks → IfOk r (IsDrawnTo style inputs out row told) → IfOk r (MakesLowTo evidence style inputs out)
wired_made evidence style inputs out least row certificate tracks told r is proves certified there first open' ends =
    IfOk-weaker r (IsDrawnTo style inputs out row told) (MakesLowTo evidence style inputs out)
    (λ end (answer, draws, e). row_made evidence style inputs out row certificate tracks answer told end is proves certified there (open_draws style inputs least row tracks answer first open' draws) e) ends

-- the cycle of the first least row, by why no row that can be wired is known
ring_made : (evidence : Evidence) (style : Style) (inputs : Inputs) (out : List ℕ) (row : List Column) (certificate : Certificate) (tracks : TrackCertificate) (none_wired : Bool) (ring : Ring) (told : RowEvidence) (end : End) → told ≡ low_evidence style.wiring inputs.cell out certificate tracks → ProvesTracks style.wiring inputs tracks → HasFirstLeast style.wiring inputs → IsFoundBy evidence inputs row certificate → IsUnwired style.wiring inputs tracks none_wired → IsRinged style.wiring inputs row ring → IsRingEnd inputs told none_wired (open_fewest style.wiring tracks) ring end → MakesLowTo evidence style inputs out end
ring_made evidence style inputs out row certificate tracks true ring told end is proves there found none ringed ends =
    row_made evidence style inputs out row certificate tracks (RowCyclic ring) told end is proves (inl (found_certified evidence inputs row certificate found)) there
    (ringed.told, (found_first evidence inputs row certificate found, none)) ends
ring_made evidence style inputs out row certificate tracks false ring told end is proves there found spent ringed ends = (
  Unwired row certificate tracks ring,
  (proves, spent, found, ringed),
  subst (λ (t : RowEvidence). IsEnd status.Unfinished t.files (first_line status.Unfinished ++ fewest_text (open_fewest style.wiring tracks) ++ ring_text inputs.cell.nets ring) end) is ends,
)

pub ring_ends : (evidence : Evidence) (style : Style) (inputs : Inputs) (out : List ℕ) (row : List Column) (certificate : Certificate) (tracks : TrackCertificate) (none_wired : Bool) (ring : Ring) (told : RowEvidence) (r : Result End NoMemory) → told ≡ low_evidence style.wiring inputs.cell out certificate tracks → ProvesTracks style.wiring inputs tracks → HasFirstLeast style.wiring inputs → IsFoundBy evidence inputs row certificate → IsUnwired style.wiring inputs tracks none_wired → IsRinged style.wiring inputs row ring → IfOk r (IsRingEnd inputs told none_wired (open_fewest style.wiring tracks) ring) → IfOk r (MakesLowTo evidence style inputs out)
ring_ends evidence style inputs out row certificate tracks none_wired ring told r is proves there found unwired ringed ends =
    IfOk-weaker r (IsRingEnd inputs told none_wired (open_fewest style.wiring tracks) ring) (MakesLowTo evidence style inputs out)
    (λ end e. ring_made evidence style inputs out row certificate tracks none_wired ring told end is proves there found unwired ringed e) ends

-- ---- without a row

pub open_low : (evidence : Evidence) (style : Style) (inputs inside : Inputs) (out : List ℕ) (proved : ℕ) (certificate : Certificate) (r : Result End NoMemory) → inside ≡ inputs → IsOpenBy evidence inputs proved certificate → IfOk r (IsOpenEnd inside.cell out proved certificate) → IfOk r (MakesLowTo evidence style inputs out)
open_low evidence style inputs inside out proved certificate r same spent ends =
    IfOk-weaker r (IsOpenEnd inputs.cell out proved certificate) (MakesLowTo evidence style inputs out) (λ end e. (Open proved certificate, spent, e))
    (subst (λ (i : Inputs). IfOk r (IsOpenEnd i.cell out proved certificate)) same ends)

pub crowded_low : (evidence : Evidence) (style : Style) (inputs inside : Inputs) (out : List ℕ) (gate : NetNo) (r : Result End NoMemory) → inside ≡ inputs → Crowds evidence inputs gate → IfOk r (λ end. end ≡ reports status.Unfinished (gate_text inside.cell gate)) → IfOk r (MakesLowTo evidence style inputs out)
crowded_low evidence style inputs inside out gate r same crowded is =
    IfOk-weaker r (λ (end : End). end ≡ reports status.Unfinished (gate_text inputs.cell gate)) (MakesLowTo evidence style inputs out)
    (λ end said. (Crowded gate, crowded, crowded_end inputs.cell gate end said))
    (subst (λ (i : Inputs). IfOk r (λ end. end ≡ reports status.Unfinished (gate_text i.cell gate))) same is)
