-- With doglegs: what the search by tracks of pieces proves, over all rows with the fewest gaps.
use Rattle.std.proofs.Common.{ℕ, ◌≡◌, ◌≤◌, ◌⊎◌, ◌+◌, inl, inr, List, [], All, Option, Some, None, IfOk, Result, Ok, Err, refl, subst, sym, arith}
use Rattle.std.specs.Option.{MatchOption}
use Rattle.std.proofs.lemmas.List.Elements.{All-nil}
use Rattle.cell_num.specs.declared.list.NoMemory.{NoMemory}
use Rattle.row_model.specs.declared.column.Column.{Column}
use Rattle.row_model.specs.Gaps.{gaps_of}
use Rattle.row_state.specs.declared.kind.Kinds.{Kinds}
use Rattle.row_state.specs.Component.{component_value}
use Rattle.row_state.specs.Start.{AreKinds, AreSomeKinds}
use Rattle.row_place.specs.Places.{placement_of}
use Rattle.channel_route.specs.declared.ring.Ring.{Ring}
use Rattle.row_cycles.specs.Fits.{CycleFits}
use Rattle.dogleg_route.specs.Routings.{ArePiecesLegal, as_routing}
use Rattle.piece_lines.specs.Lines.{PieceLineFits}
use Rattle.first_pieces.specs.First.{IsFirstPieces}
use Rattle.track_log.specs.Fits.{LemmaFits}
use Rattle.track_search.specs.FewestBy.{ProveBy}
use Rattle.track_search.specs.Kept.{IsKeptWithinBy}
use Rattle.track_search.specs.Lowest.{Arranges}
use Rattle.piece_search.specs.declared.lowest.LowestPieces.{LowestPieces}
use Rattle.piece_search.specs.declared.lowest.LowestPieces.TheVariants as ended
use Rattle.piece_search.specs.Lowest.{IfFound, IsFirstLowPieces, IsOpenPieces, IsPieceBudgetSpent, TakePiecesAtLeast, least_of, lemmas_of}
use Rattle.track_ways.specs.declared.lemma.TrackLemma.{TrackLemma}
use Rattle.cell_inputs.specs.declared.style.Wiring.TheVariants.{Doglegs}
use Rattle.cell_inputs.specs.Inputs.{AreInputs, Inputs}
use Rattle.cell_make.specs.declared.low_pieces.TheConstants.{MOST_ROUTED}
use Rattle.cell_make.specs.declared.low_planned.LowPlanned.{LowPlanned}
use Rattle.cell_make.specs.Low.{IsLowPlanned}
use Rattle.cell_make.specs.LowEnded.{most_tracks, pieces_planned_by}
use Rattle.cell_make.specs.LowRows.{IsLeast, IsRinged, IsWired, NoneIsWiredWithin}
use Rattle.cell_make.specs.LowTracks.{IsAboveNone, ProvesTracks}
use Rattle.cell_make.specs.LowUnwired.{IsLeastOpen}
use Rattle.cell_make.specs.LowWired.{cycles_at}
use Rattle.cell_make.specs.Style.{as_pieces}
use Rattle.cell_make.proofs.LowEnds.{AllTake, lowest_is, proves}
use Rattle.cell_make.proofs.LowRows.{few_routed, first_wired, least_wired}

-- what the search says, over the kinds of the fingers, by that many gaps and tracks and that budget
pub record IsPiecesEnd (inputs : Inputs) (k : Kinds) (gaps most budget : ℕ) (lowest : LowestPieces) : Type 0 where
  pub arranges : IfFound (λ p r. Arranges k gaps p.row) lowest
  pub placed : IfFound (λ p r. p ≡ placement_of p.row) lowest
  pub legal : IfFound (λ p r. ArePiecesLegal p inputs.cell.pins r) lowest
  pub fewest : TakePiecesAtLeast inputs.cell.pins k gaps (least_of lowest)
  pub first : IfFound (λ p r. IsFirstLowPieces inputs.cell.pins k gaps r.tracks p.row) lowest
  pub routing : IfFound (λ p r. IsFirstPieces p inputs.cell.pins r.tracks r) lowest
  pub certified : ProveBy PieceLineFits component_value inputs.cell.pins k gaps (least_of lowest) (lemmas_of lowest)
  pub fits : gaps ≤ 63 → most ≤ 256 → All (LemmaFits k) (lemmas_of lowest)
  pub kept : IsKeptWithinBy PieceLineFits component_value inputs.cell.pins k gaps (least_of lowest) budget (lemmas_of lowest)
  pub few : least_of lowest ≤ most
  pub spent : IsOpenPieces component_value inputs.cell.pins k gaps most budget lowest

-- ... where these are the gaps of a least row
module _ (inputs : Inputs) (k : Kinds) (gaps : ℕ) (row : List Column) (are : AreInputs inputs) (kinds : AreKinds inputs.fingers k) (some : AreSomeKinds k) (is : IsLeast inputs.fingers row) (same : gaps ≡ gaps_of row) where
  takes : (tracks : ℕ) → TakePiecesAtLeast inputs.cell.pins k gaps tracks → AllTake Doglegs inputs.cell.pins k gaps tracks
  takes tracks h f other r of o within legal = h f other (as_pieces r) of o within legal

  above : IsAboveNone Doglegs inputs k (cycles_at gaps [])
  above = record { fewest = λ other o. omega (arith, same, is.least other o); alone = refl }

  few_most : (ring : Option Ring) → most_tracks inputs ring ≤ 256
  few_most None = omega arith
  few_most (Some ring) = are.fingers.few_nets

  certified : (most tracks : ℕ) (lemmas : List TrackLemma) → most ≤ 256 → TakePiecesAtLeast inputs.cell.pins k gaps tracks → ProveBy PieceLineFits component_value inputs.cell.pins k gaps tracks lemmas → (gaps ≤ 63 → most ≤ 256 → All (LemmaFits k) lemmas) → IsKeptWithinBy PieceLineFits component_value inputs.cell.pins k gaps tracks inputs.tech.budget lemmas → tracks ≤ most → ProvesTracks Doglegs inputs (record { gaps = gaps; tracks = tracks; cycles = []; lemmas = lemmas })
  certified most tracks lemmas low fewest by fits kept few =
      proves Doglegs inputs k gaps row [] are kinds some is.arranges same (λ other o w. omega (arith, same, is.least other o)) above (All-nil (CycleFits k)) tracks lemmas
      (record { fewest = takes tracks fewest; certified = by; fits = λ within. fits within low; kept = kept; few = omega (arith, few, low) })

  -- a row that can be wired takes no more tracks than a routing can have
  never_most : (tracks : ℕ) → TakePiecesAtLeast inputs.cell.pins k gaps tracks → tracks ≡ MOST_ROUTED + 1 → NoneIsWiredWithin Doglegs inputs gaps
  never_most tracks fewest all other o within (r, legal) =
      omega (arith, fewest inputs.fingers other (as_pieces r) kinds o within legal, all, few_routed Doglegs inputs other r are o legal)

  still_open : (X : Type 0) (tracks : ℕ) → IsWired Doglegs inputs row → TakePiecesAtLeast inputs.cell.pins k gaps tracks → (tracks ≡ MOST_ROUTED + 1) ⊎ X → X
  still_open X tracks wired fewest (inl all) = absurd (never_most tracks fewest all row is.arranges (omega (arith, same)) wired)
  still_open X tracks wired fewest (inr x) = x

  left_open : (tracks : ℕ) (lemmas : List TrackLemma) → (tracks ≡ inputs.fingers.nets) ⊎ IsPieceBudgetSpent component_value inputs.cell.pins k gaps tracks inputs.tech.budget → IsLeastOpen inputs (record { gaps = gaps; tracks = tracks; cycles = []; lemmas = lemmas })
  left_open tracks lemmas (inl all) = record { row = row; least = is; gaps = sym same; unwired = inl all }
  left_open tracks lemmas (inr spent) = record { row = row; least = is; gaps = sym same; unwired = inr (k, kinds, some, spent) }

  planned : (ring : Option Ring) → MatchOption ring (IsWired Doglegs inputs row) (IsRinged Doglegs inputs row) → (lowest : LowestPieces) → IsPiecesEnd inputs k gaps (most_tracks inputs ring) inputs.tech.budget lowest → IsLowPlanned Doglegs inputs row (pieces_planned_by lowest ring row gaps)
  planned ring of (ended.Found placement routing lemmas) h = (
    h.placed,
    lowest_is Doglegs inputs k gaps row [] are kinds some is.arranges same (λ other o w. omega (arith, same, is.least other o)) above (All-nil (CycleFits k)) placement (as_routing routing) lemmas
        (record { arranges = h.arranges; placed = h.placed; legal = h.legal; first = λ f other r of' o within legal on. h.first f other (as_pieces r) of' o within legal on; routing = h.routing })
        (takes routing.tracks h.fewest),
    certified (most_tracks inputs ring) routing.tracks lemmas (few_most ring) h.fewest h.certified h.fits h.kept h.few,
  )
  planned None wired (ended.Open proved lemmas) h = (
    record {
      wired = least_wired Doglegs inputs row is wired;
      first = first_wired Doglegs inputs row wired;
      gaps = sym same;
      spent = (k, kinds, some, still_open (IsPieceBudgetSpent component_value inputs.cell.pins k gaps proved inputs.tech.budget) proved wired h.fewest h.spent);
    },
    certified (MOST_ROUTED + 1) proved lemmas (omega arith) h.fewest h.certified h.fits h.kept h.few,
  )
  planned (Some ring) ringed (ended.Open proved lemmas) h = (
    ringed,
    left_open proved lemmas h.spent,
    certified inputs.fingers.nets proved lemmas are.fingers.few_nets h.fewest h.certified h.fits h.kept h.few,
  )

-- ---- the same, as the code sees the inputs

end_so : (inputs inside : Inputs) (k : Kinds) (gaps most limit budget : ℕ) (lowest : LowestPieces) → inside ≡ inputs → most ≡ limit → budget ≡ inputs.tech.budget → IsPiecesEnd inside k gaps most budget lowest → IsPiecesEnd inputs k gaps limit inputs.tech.budget lowest
end_so inputs inside k gaps most limit budget lowest view same all end =
    subst (λ n. IsPiecesEnd inputs k gaps n inputs.tech.budget lowest) same (subst (λ n. IsPiecesEnd inputs k gaps most n lowest) all (subst (λ (i : Inputs). IsPiecesEnd i k gaps most budget lowest) view end))

pub pieces_so : (inputs inside : Inputs) (k : Kinds) (gaps most budget : ℕ) (row : List Column) (ring : Option Ring) (lowest : LowestPieces) (came : Result LowPlanned NoMemory) → inside ≡ inputs → most ≡ most_tracks inputs ring → budget ≡ inputs.tech.budget → AreInputs inputs → AreKinds inputs.fingers k → AreSomeKinds k → IsLeast inputs.fingers row → gaps ≡ gaps_of row → MatchOption ring (IsWired Doglegs inputs row) (IsRinged Doglegs inputs row) → IsPiecesEnd inside k gaps most budget lowest → IfOk came (λ planned. planned ≡ pieces_planned_by lowest ring row gaps) → IfOk came (IsLowPlanned Doglegs inputs row)
pieces_so inputs inside k gaps most budget row ring lowest (Ok came) view limit all are kinds some is same of end told =
    subst (IsLowPlanned Doglegs inputs row) (sym told)
    (planned inputs k gaps row are kinds some is same ring of lowest (end_so inputs inside k gaps most (most_tracks inputs ring) budget lowest view limit all end))
pieces_so inputs inside k gaps most budget row ring lowest (Err e) view limit all are kinds some is same of end told = tt
