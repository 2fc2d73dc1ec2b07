-- What a search by tracks, with either wiring, proves of the rows that can be wired with the fewest gaps, and of the row
-- that it found.
use Rattle.std.proofs.Common.{ℕ, ◌≡◌, ◌≤◌, ◌⊎◌, inl, inr, List, All, refl, subst, arith}
use Rattle.cell_num.specs.declared.finger.Fingers.{Fingers}
use Rattle.cell_num.specs.declared.net.Pins.{Pins}
use Rattle.row_model.specs.declared.column.Column.{Column}
use Rattle.row_model.specs.Arrangement.{IsArrangement}
use Rattle.row_model.specs.Gaps.{gaps_of}
use Rattle.row_state.specs.declared.kind.Kinds.{Kinds}
use Rattle.row_state.specs.Component.{component_value}
use Rattle.row_state.specs.Order.{RowBefore}
use Rattle.row_state.specs.Start.{AreKinds, AreSomeKinds}
use Rattle.row_place.specs.declared.placement.Placement.{Placement}
use Rattle.row_place.specs.Places.{placement_of}
use Rattle.channel_route.specs.declared.routing.Routing.{Routing}
use Rattle.track_ways.specs.declared.lemma.TrackLemma.{TrackLemma}
use Rattle.row_cycles.specs.declared.lemma.CycleLemma.{CycleLemma}
use Rattle.row_cycles.specs.Fits.{CycleFits}
use Rattle.track_log.specs.declared.certificate.TrackCertificate.{TrackCertificate}
use Rattle.track_log.specs.Fits.{LemmaFits}
use Rattle.track_search.specs.FewestBy.{ProveBy}
use Rattle.track_search.specs.Kept.{IsKeptWithinBy}
use Rattle.track_search.specs.Lowest.{Arranges}
use Rattle.cell_inputs.specs.declared.style.Wiring.{Wiring}
use Rattle.cell_inputs.specs.declared.style.Wiring.TheVariants.{Straight, Doglegs}
use Rattle.cell_inputs.specs.Inputs.{AreInputs, Inputs}
use Rattle.cell_make.specs.Low.{IsFirstOn, IsLowest}
use Rattle.cell_make.specs.LowRows.{IsWired}
use Rattle.cell_make.specs.LowTracks.{CertifiesLow, CertifiesTracks, IsAboveNone, ProvesTracks, TakeAtLeast, fits_of}
use Rattle.cell_make.specs.LowWired.{cycles_at}
use Rattle.cell_make.specs.Style.{AreLegal}
use Rattle.cell_make.proofs.LowOpen.{wired_acyclic}
use Rattle.cell_make.proofs.LowRows.{fewer_than_columns}
use Rattle.cell_make.proofs.Makes.{few_columns}

-- ---- what a search says, over the kinds of the fingers

-- each legal routing of each row with at most that many gaps takes that many tracks or more
abbrev pub AllTake : Wiring → Pins → Kinds → (gaps tracks : ℕ) → Type 0
AllTake wiring pins k gaps tracks =
    (f : Fingers) (row : List Column) (r : Routing) → AreKinds f k → IsArrangement row f → gaps_of row ≤ gaps
    → AreLegal wiring (placement_of row) pins r → tracks ≤ r.tracks

-- of each such tracks the lemmas certify it, and a text can hold them
pub record AreProved (wiring : Wiring) (inputs : Inputs) (k : Kinds) (gaps tracks : ℕ) (lemmas : List TrackLemma) : Type 0 where
  pub fewest : AllTake wiring inputs.cell.pins k gaps tracks
  pub certified : ProveBy (fits_of wiring) component_value inputs.cell.pins k gaps tracks lemmas
  pub fits : gaps ≤ 63 → All (LemmaFits k) lemmas
  pub kept : IsKeptWithinBy (fits_of wiring) component_value inputs.cell.pins k gaps tracks inputs.tech.budget lemmas
  pub few : tracks ≤ 256

-- the row that it found, on its lines, and its routing
pub record IsFoundRow (wiring : Wiring) (inputs : Inputs) (k : Kinds) (gaps : ℕ) (p : Placement) (r : Routing) : Type 0 where
  pub arranges : Arranges k gaps p.row
  pub placed : p ≡ placement_of p.row
  pub legal : AreLegal wiring p inputs.cell.pins r
  pub first : (f : Fingers) (other : List Column) (s : Routing) → AreKinds f k → IsArrangement other f → gaps_of other ≤ gaps
      → AreLegal wiring (placement_of other) inputs.cell.pins s → s.tracks ≤ r.tracks → (p.row ≡ other) ⊎ RowBefore p.row other
  pub routing : IsFirstOn wiring p inputs.cell.pins r.tracks r

-- ---- the certificate

-- with these tracks and lemmas nothing else is said of the gaps
above_in : (wiring : Wiring) (inputs : Inputs) (k : Kinds) (certificate : TrackCertificate) → IsAboveNone wiring inputs k (cycles_at certificate.gaps certificate.cycles) → IsAboveNone wiring inputs k certificate
above_in Straight inputs k certificate (inl h) = inl (record { fewest = h.fewest; alone = h.alone })
above_in Straight inputs k certificate (inr h) = inr (record { below = h.below; next = h.next; unwired = h.unwired })
above_in Doglegs inputs k certificate h = record { fewest = h.fewest; alone = h.alone }

by_tracks : (wiring : Wiring) (inputs : Inputs) (k : Kinds) (certificate : TrackCertificate) → CertifiesTracks wiring inputs k certificate → CertifiesLow wiring inputs k certificate
by_tracks Straight inputs k certificate h = inl h
by_tracks Doglegs inputs k certificate h = h

-- The gaps are those of an arrangement, and no row that can be wired has fewer.
module _ (wiring : Wiring) (inputs : Inputs) (k : Kinds) (gaps : ℕ) (row : List Column) (cycles : List CycleLemma) (are : AreInputs inputs) (kinds : AreKinds inputs.fingers k) (some : AreSomeKinds k) (arranged : IsArrangement row inputs.fingers) (same : gaps ≡ gaps_of row) (least : (other : List Column) → IsArrangement other inputs.fingers → IsWired wiring inputs other → gaps ≤ gaps_of other) (above : IsAboveNone wiring inputs k (cycles_at gaps cycles)) (fit : All (CycleFits k) cycles) where
  takes : (tracks : ℕ) → AllTake wiring inputs.cell.pins k gaps tracks → TakeAtLeast wiring inputs gaps tracks
  takes tracks h other r o within legal = h inputs.fingers other r kinds o within legal

  few : gaps ≤ 63
  few = omega (arith, same, fewer_than_columns inputs row are arranged, few_columns inputs row are arranged)

  certificate_of : ℕ → List TrackLemma → TrackCertificate
  certificate_of tracks lemmas = record { gaps = gaps; tracks = tracks; cycles = cycles; lemmas = lemmas }

  pub proves : (tracks : ℕ) (lemmas : List TrackLemma) → AreProved wiring inputs k gaps tracks lemmas → ProvesTracks wiring inputs (record { gaps = gaps; tracks = tracks; cycles = cycles; lemmas = lemmas })
  unfolding certificate_of
  proves tracks lemmas h = record {
    least = takes tracks h.fewest;
    certified = (k, kinds, some, by_tracks wiring inputs k (certificate_of tracks lemmas) (record { certified = h.certified; within = h.kept; below = above_in wiring inputs k (certificate_of tracks lemmas) above }));
    fits = λ one. (k, kinds, some, record { gaps = few; some = one; few = h.few; cycles = fit; lemmas = h.fits few });
  }

  pub lowest_is : (p : Placement) (r : Routing) (lemmas : List TrackLemma) → IsFoundRow wiring inputs k gaps p r → AllTake wiring inputs.cell.pins k gaps r.tracks → IsLowest wiring inputs p.row r (record { gaps = gaps; tracks = r.tracks; cycles = cycles; lemmas = lemmas })
  lowest_is p r lemmas h fewest =
      let on_lines : AreLegal wiring (placement_of p.row) inputs.cell.pins r = subst (λ (q : Placement). AreLegal wiring q inputs.cell.pins r) h.placed h.legal in
      let found : IsArrangement p.row inputs.fingers = h.arranges.arranges inputs.fingers kinds in
      let wired : IsWired wiring inputs p.row = (r, on_lines) in
      record {
        least = record { arranges = found; wired = wired; least = λ other o w. omega (arith, h.arranges.within, least other o w) };
        gaps = omega (arith, h.arranges.within, least p.row found wired);
        acyclic = wired_acyclic wiring inputs p.row wired;
        legal = on_lines;
        on = refl;
        fewest = λ other s o within l. takes r.tracks fewest other s o (omega (arith, within, h.arranges.within)) l;
        first = λ other s o l on. h.first inputs.fingers other s kinds o.arranges (omega (arith, o.least p.row found wired, h.arranges.within)) l on;
        first_routing = subst (λ (q : Placement). IsFirstOn wiring q inputs.cell.pins r.tracks r) h.placed h.routing;
      }
