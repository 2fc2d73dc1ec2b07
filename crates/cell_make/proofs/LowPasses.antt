-- With straight trunks: what the searches for a row without a cycle prove, with one gap more each time.
use Rattle.std.proofs.Common.{ℕ, ◌≡◌, ◌≤◌, ◌+◌, inl, inr, true, false, List, [], All, length, refl, subst, sym, arith}
use Rattle.std.proofs.lemmas.Bool.{cases_lt}
use Rattle.std.proofs.lemmas.List.Elements.{All-nil}
use Rattle.cell_num.specs.declared.finger.Fingers.{Fingers}
use Rattle.cell_num.specs.declared.net.Pins.{Pins}
use Rattle.row_model.specs.declared.column.Column.{Column}
use Rattle.row_model.specs.Arrangement.{IsArrangement, IsColumn}
use Rattle.row_model.specs.Gaps.{gaps_of}
use Rattle.row_state.specs.declared.kind.Kinds.{Kinds}
use Rattle.row_state.specs.Component.{component_value}
use Rattle.row_state.specs.Start.{AreKinds, AreSomeKinds}
use Rattle.row_needs.specs.declared.need_bound.NeedBound.{NeedBound}
use Rattle.row_needs.specs.declared.need_bound.TheConstants.{MOST_LEFTOVERS}
use Rattle.row_needs.specs.Bound.{IsBoundOf, value_by}
use Rattle.row_place.specs.Places.{placement_of}
use Rattle.row_place.specs.Trunks.{HasPins}
use Rattle.channel_route.specs.declared.routing.Routing.{Routing}
use Rattle.channel_route.specs.Routing.{HasTightRouting, IsLegal}
use Rattle.track_ways.specs.Rows.{lines_of_row}
use Rattle.row_cycles.specs.declared.lemma.CycleLemma.{CycleLemma}
use Rattle.row_cycles.specs.Above.{HasCycle, above_of}
use Rattle.row_cycles.specs.Certificate.{Certifies}
use Rattle.row_cycles.specs.Fits.{CycleFits}
use Rattle.cycle_search.specs.Search.{AreKept, IsFirstWired}
use Rattle.track_log.specs.declared.certificate.TrackCertificate.{TrackCertificate}
use Rattle.track_log.specs.Fits.{LemmaFits}
use Rattle.track_search.specs.Kept.{IsKeptWithin}
use Rattle.cell_inputs.specs.declared.style.Wiring.TheVariants.{Straight}
use Rattle.cell_inputs.specs.Inputs.{AreInputs, Inputs}
use Rattle.cell_make.specs.LowCycles.{CertifyUnwired, IsPassSpent}
use Rattle.cell_make.specs.LowEnded.{nothing_at, unwired_at}
use Rattle.cell_make.specs.LowRows.{IsFirstLeastWired, IsLeast, IsWired, NoneIsWiredWithin}
use Rattle.cell_make.specs.LowTracks.{CertifiesCycles, ProvesTracks}
use Rattle.cell_make.specs.LowUnwired.{IsUnwiredEnd}
use Rattle.cell_make.specs.LowWired.{AreBelow, IsBelow}
use Rattle.cell_make.proofs.LowRows.{fewer_than_columns, pins_there}
use Rattle.cell_make.proofs.Makes.{few_columns}

-- ---- as row_cycles has its laws

-- a row without a cycle has a legal routing
abbrev pub AreWiredRows : Type 0
AreWiredRows =
    (row : List Column) (pins : Pins) → All IsColumn row → length row ≤ 32 → HasPins (placement_of row) pins
    → (HasCycle (above_of pins (lines_of_row row)) → ⊥) → HasTightRouting (placement_of row) pins

-- a row with a cycle has none
abbrev pub AreCyclicRows : Type 0
AreCyclicRows =
    (row : List Column) (pins : Pins) (r : Routing) → All IsColumn row → length row ≤ 32
    → HasCycle (above_of pins (lines_of_row row)) → IsLegal (placement_of row) pins r → ⊥

-- no arrangement with at most that many gaps has a legal routing
abbrev pub AreUnwired : Pins → Fingers → ℕ → Type 0
AreUnwired pins f gaps =
    (row : List Column) (r : Routing) → IsArrangement row f → gaps_of row ≤ gaps → IsLegal (placement_of row) pins r → ⊥

-- ---- the passes, with these gaps

module _ (inputs : Inputs) (k : Kinds) (gaps : ℕ) (are : AreInputs inputs) (kinds : AreKinds inputs.fingers k) (some : AreSomeKinds k) where
  -- before the first one nothing is known
  pub begins : (row : List Column) (came : TrackCertificate) → IsLeast inputs.fingers row → gaps ≡ gaps_of row → came ≡ nothing_at gaps → IsBelow inputs k gaps came
  begins row came is same comes = subst (IsBelow inputs k gaps) (sym comes) (record {
    known = inl (record { fewest = fewest; gaps_are = refl; nothing = refl });
    proves = record {
      least = λ other r arranged within legal. omega arith;
      certified = (k, kinds, some, inl (record { certified = λ limit e. absurd (omega (arith, e)); within = nothing_kept; below = inl (record { fewest = fewest; alone = refl }) }));
      fits = λ one. absurd (omega (arith, one));
    };
    cycles = record { below = inl (record { fewest = fewest; alone = refl }); fit = All-nil (CycleFits k) };
  })
    where
      fewest : (other : List Column) → IsArrangement other inputs.fingers → gaps ≤ gaps_of other
      fewest other o = omega (arith, same, is.least other o)

      nothing_kept : IsKeptWithin component_value inputs.cell.pins k gaps 0 inputs.tech.budget []
      nothing_kept = record { lists = []; limits = refl; kept = tt; few = omega arith; last = refl }

  -- after one that found none, no row with as many gaps can be wired
  pub goes_on : (bound : NeedBound) (lemmas : List CycleLemma) (came : TrackCertificate) → IsBoundOf MOST_LEFTOVERS k bound → gaps ≤ 63 → Certifies (value_by bound) inputs.cell.pins k gaps lemmas → AreKept (value_by bound) inputs.cell.pins k gaps lemmas → length lemmas ≤ inputs.tech.budget → All (CycleFits k) lemmas → AreUnwired inputs.cell.pins inputs.fingers gaps → came ≡ unwired_at lemmas gaps inputs.fingers.nets → IsBelow inputs k (gaps + 1) came
  goes_on bound lemmas came of few certified kept within fit unwired comes = subst (IsBelow inputs k (gaps + 1)) (sym comes) (record {
    known = inr (record { none = none; next = refl; tracks = refl; certified = (k, kinds, some, by) });
    proves = record {
      least = λ row r arranged low legal. absurd (unwired row r arranged low legal);
      certified = (k, kinds, some, inr by);
      fits = λ one. (k, kinds, some, record { gaps = few; some = one; few = are.fingers.few_nets; cycles = fit; lemmas = All-nil (LemmaFits k) });
    };
    cycles = record { below = inr (record { below = gaps; next = refl; unwired = certify }); fit = fit };
  })
    where
      none : NoneIsWiredWithin Straight inputs gaps
      none row arranged low wired = unwired row wired.0 arranged low wired.1

      certify : CertifyUnwired inputs k gaps lemmas
      certify = record { bound = bound; is = of; certified = certified; kept = kept; within = within }

      by : CertifiesCycles inputs k (unwired_at lemmas gaps inputs.fingers.nets)
      by = record { unwired = certify; alone = refl }

  module _ (below : TrackCertificate) (is : IsBelow inputs k gaps below) where
    -- a row that can be wired has as many gaps or more
    least_gaps : (row : List Column) → IsArrangement row inputs.fingers → IsWired Straight inputs row → gaps ≤ gaps_of row
    least_gaps row arranged wired = elim is.known [
      | inl nothing ↦ nothing.fewest row arranged
      | inr fewer ↦ elim (cases_lt below.gaps (gaps_of row)) [
        | inl more ↦ omega (arith, fewer.next, more)
        | inr low ↦ absurd (fewer.none row arranged low wired)
      ]
    ]

    -- a row without a cycle can be wired with the fewest gaps
    pub finds : (row : List Column) → AreWiredRows → AreCyclicRows → IsFirstWired inputs.cell.pins k gaps row → IsFirstLeastWired Straight inputs row × AreBelow inputs k (gaps_of row) below.cycles
    finds row legal cyclic first =
        let arranged : IsArrangement row inputs.fingers = first.arranges inputs.fingers kinds in
        let has : HasTightRouting (placement_of row) inputs.cell.pins = legal row inputs.cell.pins arranged.columns (few_columns inputs row are arranged) (pins_there inputs row are arranged) first.free in
        let wired : IsWired Straight inputs row = (has.routing, has.legal) in
        let same : gaps ≡ gaps_of row = omega (arith, first.within, least_gaps row arranged wired) in (
          record {
            least = record { arranges = arranged; wired = wired; least = λ other o w. omega (arith, first.within, least_gaps other o w) };
            first = λ other o. first.first inputs.fingers other kinds o.arranges (omega (arith, o.least row arranged wired, first.within))
                (λ cycle. cyclic other inputs.cell.pins o.wired.0 o.arranges.columns (few_columns inputs other are o.arranges) cycle o.wired.1);
          },
          subst (λ n. AreBelow inputs k n below.cycles) same is.cycles,
        )

    pub spends : IsPassSpent inputs k gaps → IsUnwiredEnd Straight inputs below false × ProvesTracks Straight inputs below
    spends spent = (record { gaps = gaps; below = is.known; spent = (k, kinds, some, spent) }, is.proves)

    -- no row has as many gaps as columns
    pub ends : (row : List Column) → IsArrangement row inputs.fingers → gaps ≡ length row → IsUnwiredEnd Straight inputs below true × ProvesTracks Straight inputs below
    ends row arranged same = (
      elim is.known [
        | inl nothing ↦ absurd (omega (arith, nothing.fewest row arranged, fewer_than_columns inputs row are arranged, same))
        | inr fewer ↦
            let all : (other : List Column) → IsArrangement other inputs.fingers → gaps_of other ≤ below.gaps = λ other o. omega (arith, fewer_than_columns inputs other are o, o.fewest, arranged.fewest, same, fewer.next) in
            record { none = λ other o wired. fewer.none other o (all other o) wired; all = all; tracks = fewer.tracks; certified = fewer.certified }
      ],
      is.proves,
    )
