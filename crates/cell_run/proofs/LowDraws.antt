-- That `make` with `--low` draws each cell that `make` draws, from what the work results in.
use Rattle.std.proofs.Common.{ℕ, ◌≡◌, ◌≤◌, ◌⊎◌, true, List, [], ◌∷◌, Option, Some, None, Result, Ok, IfSome, inl, inr, refl, sym, subst, arith, ◌∙◌}
use Rattle.cell_io.specs.Desk.{Files, View}
use Rattle.row_model.specs.declared.column.Column.{Column}
use Rattle.row_model.specs.Gaps.{gaps_of}
use Rattle.row_search.specs.First.{IsFirstLeast}
use Rattle.channel_route.specs.declared.ring.Ring.{Ring}
use Rattle.channel_route.specs.declared.routing.Routing.{Routing}
use Rattle.track_log.specs.declared.certificate.TrackCertificate.{TrackCertificate}
use Rattle.call_end.specs.declared.end.End.{End}
use Rattle.call_end.specs.declared.status.Status.{Status}
use Rattle.call_end.specs.declared.status.Status.TheVariants as status
use Rattle.call_end.specs.Deliver.{TellsWhole}
use Rattle.call_read.specs.declared.refusal.Refusal.{Refusal}
use Rattle.call_read.specs.Reading.{called}
use Rattle.call_words.specs.Words.{Form}
use Rattle.call_words.specs.declared.evidence.Evidence.{Evidence}
use Rattle.call_work.specs.Commands.{Material, MakingLow, gathered}
use Rattle.call_work.specs.Ends.{EndsTo, IsOfOutside, desk_statuses, is_among}
use Rattle.call_work.proofs.Statuses.{among_one}
use Rattle.call_work.specs.declared.material.LowMaterial.{LowMaterial}
use Rattle.cell_inputs.specs.declared.style.Style.{Style}
use Rattle.cell_inputs.specs.declared.style.Wiring.{Wiring}
use Rattle.cell_inputs.specs.declared.style.Wiring.TheVariants.{Straight, Doglegs}
use Rattle.cell_inputs.specs.Inputs.{Inputs}
use Rattle.cell_make.proofs.RowOrder.{one_row}
use Rattle.cell_make.specs.Low.{DrawsLow, IsLowRouted}
use Rattle.cell_make.specs.LowRows.{HasFirstLeast, IsFirstLeastWired, IsLeastWired, IsRinged, IsWired, NoneIsWired}
use Rattle.cell_make.specs.LowUnwired.{ProvesUnwired}
use Rattle.cell_make.specs.Rows.{DrawAnswer, RowDrawn, RowCyclic, RowTall}
use Rattle.cell_make.specs.Making.{IsRouted}
use Rattle.cell_commands.specs.declared.certificate.Certificate.{Certificate}
use Rattle.cell_commands.specs.Low.{MakesLowTo, low_evidence}
use Rattle.cell_commands.specs.Low as low
use Rattle.cell_commands.specs.RowEnd.{IsRowEnd}
use Rattle.cell_commands.specs.Searched.{IsFoundBy}
use Rattle.cell_draw.specs.Frame.{IsTooTall}
use Rattle.cell_run.proofs.Heights.{also_tall}
use Rattle.cell_run.proofs.MakeSettled.{crowded_so, open_so}
use Rattle.cell_run.proofs.MakeTold.{enough_found, enough_pairs, found_first}
use Rattle.cell_run.proofs.Worked.{Completes, IsAnswered, settles}
use Rattle.cell_run.specs.Calm.{IsCalm, IsDoneOrShort}
use Rattle.cell_run.specs.Headline.{CanBeDrawn, IsOrShort, IsUnmade}
use Rattle.cell_run.specs.Low.{CanBeMadeLow, CanFirstBeDrawn, DrawsFirst, LeavesGapsOpen, DrawsLow as CanDraw}

-- ---- the first least row

-- what `make` draws of it
pub record IsDrawnFirst (style : Style) (inputs : Inputs) : Type 0 where
  pub row : List Column
  pub first : IsFirstLeast inputs.fingers row
  pub routing : Routing
  pub routed : IsRouted style inputs row routing
  pub fits : IsTooTall row routing.tracks inputs.tech.height → ⊥

-- without a cycle it can be routed
pub drawn_first : (style : Style) (inputs : Inputs) → HasFirstLeast style.wiring inputs → CanFirstBeDrawn style inputs → IsDrawnFirst style inputs
drawn_first style inputs there can =
    let fits : CanBeDrawn style inputs there.row = can there.row there.first in
    let (routing, legal, tight) = there.routed fits.acyclic in
    let routed : IsRouted style inputs there.row routing = record { acyclic = fits.acyclic; legal = legal; tight = tight } in
    record { row = there.row; first = there.first; routing = routing; routed = routed; fits = fits.fits routing routed }

-- ---- where the budget is enough

-- the first least row is the first that can be wired with the fewest gaps
first_wired : (style : Style) (inputs : Inputs) (row : List Column) (drawn : IsDrawnFirst style inputs) → IsFirstLeastWired style.wiring inputs row → drawn.row ≡ row
first_wired style inputs row drawn first =
    let wired : IsWired style.wiring inputs drawn.row = (drawn.routing, drawn.routed.legal) in
    let least : IsLeastWired style.wiring inputs drawn.row = record { arranges = drawn.first.arranges; wired = wired; least = λ other arranged able. drawn.first.least other arranged } in
    let same : gaps_of row ≡ gaps_of drawn.row = omega (arith, drawn.first.least row first.least.arranges, first.least.least drawn.row drawn.first.arranges wired) in
    one_row drawn.row row (drawn.first.first row first.least.arranges same) (first.first drawn.row least)

-- the lowest row has no more tracks than the first least one, so it is no taller
pub never_tall : (style : Style) (inputs : Inputs) (row : List Column) (tracks : TrackCertificate) (routing : Routing) → CanFirstBeDrawn style inputs → IsDrawnFirst style inputs → IsLowRouted style inputs row tracks routing → IsTooTall row routing.tracks inputs.tech.height → ⊥
never_tall style inputs row tracks routing can drawn (inr h) tall =
    let first : IsFirstLeast inputs.fingers row = subst (IsFirstLeast inputs.fingers) (first_wired style inputs row drawn h.first) drawn.first in
    (can row first).fits routing h.routed tall
never_tall style inputs row tracks routing can drawn (inl h) tall =
    let few : routing.tracks ≤ drawn.routing.tracks = h.fewest drawn.row drawn.routing drawn.first.arranges (drawn.first.least row h.least.arranges) drawn.routed.legal in
    drawn.fits (also_tall inputs.fingers row drawn.row routing.tracks drawn.routing.tracks inputs.tech.height h.least.arranges drawn.first.arranges few tall)

-- where it is proved that no row can be wired, none can
none_wired : (wiring : Wiring) (inputs : Inputs) (tracks : TrackCertificate) → ProvesUnwired wiring inputs tracks → NoneIsWired wiring inputs
none_wired Straight inputs tracks proves = proves.none
none_wired Doglegs inputs tracks proves = absurd proves

low_draws : (style : Style) (inputs : Inputs) (out : List ℕ) (row : List Column) (certificate : Certificate) (tracks : TrackCertificate) (drawing : DrawAnswer) (end : End) → CanFirstBeDrawn style inputs → IsDrawnFirst style inputs → DrawsLow style inputs row tracks drawing → IsRowEnd style inputs out row (low_evidence style.wiring inputs.cell out certificate tracks) drawing end → end.status ≡ status.Done
low_draws style inputs out row certificate tracks (RowDrawn routing xs) end can drawn h is = is.status
low_draws style inputs out row certificate tracks (RowCyclic ring) end can drawn (draws, (first, none)) is = absurd (none_wired style.wiring inputs tracks none drawn.row drawn.first.arranges (drawn.routing, drawn.routed.legal))
low_draws style inputs out row certificate tracks (RowTall routing) end can drawn ((routed, tall), stop) is = absurd (never_tall style inputs row tracks routing can drawn routed tall)

-- the first least row has no ring
never_unwired : (evidence : Evidence) (style : Style) (inputs : Inputs) (row : List Column) (certificate : Certificate) (ring : Ring) → CanFirstBeDrawn style inputs → IsFoundBy evidence inputs row certificate → IsRinged style.wiring inputs row ring → ⊥
never_unwired evidence style inputs row certificate ring can found ringed = ringed.cyclic (can row (found_first evidence inputs row certificate found)).acyclic

low_draws_where : (m : LowMaterial) (end : End) → CanBeMadeLow m → MakesLowTo m.evidence m.style m.inputs m.stem end → end.status ≡ status.Done
low_draws_where m end can (low.Made row certificate tracks drawing, (proves, certified, there, h), is) = low_draws m.style m.inputs m.stem row certificate tracks drawing end can.1 (drawn_first m.style m.inputs there can.1) h is
low_draws_where m end can (low.Unwired row certificate tracks ring, (proves, open', found, ringed), is) = absurd (never_unwired m.evidence m.style m.inputs row certificate ring can.1 found ringed)
low_draws_where m end can (low.Open proved certificate, h, is) = absurd (enough_found m.evidence m.inputs proved certificate can.0 h)
low_draws_where m end can (low.Crowded gate, h, is) = absurd (enough_pairs m.evidence m.inputs gate can.0 h)

pub low_draws_told : (a c : View) (form : Option Form) (answer : Status) (given : Option Files) → IfSome given (λ files. IsCalm a c → Completes form files answer) → IfSome given (λ files. IsCalm a c → CanDraw files form → IsOrShort status.Done answer)
low_draws_told a c form answer given told = settles MakingLow CanBeMadeLow form status.Done answer a c given low_draws_where told

-- ---- whatever the budget is

-- the first search alone can be left open
drawn_or_open : (m : LowMaterial) (end : End) → CanFirstBeDrawn m.style m.inputs → MakesLowTo m.evidence m.style m.inputs m.stem end → (end.status ≡ status.Done) ⊎ (end.status ≡ status.Unfinished)
drawn_or_open m end can (low.Made row certificate tracks drawing, (proves, certified, there, h), is) = inl (low_draws m.style m.inputs m.stem row certificate tracks drawing end can (drawn_first m.style m.inputs there can) h is)
drawn_or_open m end can (low.Unwired row certificate tracks ring, (proves, open', found, ringed), is) = absurd (never_unwired m.evidence m.style m.inputs row certificate ring can found ringed)
drawn_or_open m end can (low.Open proved certificate, h, is) = inr is.status
drawn_or_open m end can (low.Crowded gate, h, is) = inr is.status

keeps_so : (m : LowMaterial) (end : End) (answer : Status) (old new : View) → CanFirstBeDrawn m.style m.inputs → MakesLowTo m.evidence m.style m.inputs m.stem end → TellsWhole end answer old new → (answer ≡ status.Done) ⊎ ((answer ≡ status.Unfinished) × IsUnmade m.evidence m.inputs m.stem old new)
keeps_so m end answer old new can (low.Made row certificate tracks drawing, (proves, certified, there, h), is) whole = inl (whole.0 ∙ low_draws m.style m.inputs m.stem row certificate tracks drawing end can (drawn_first m.style m.inputs there can) h is)
keeps_so m end answer old new can (low.Unwired row certificate tracks ring, (proves, open', found, ringed), is) whole = absurd (never_unwired m.evidence m.style m.inputs row certificate ring can found ringed)
keeps_so m end answer old new can (low.Open proved certificate, h, is) whole = inr (whole.0 ∙ is.status, inl (open_so m.evidence m.inputs m.stem proved certificate end answer old new h is whole))
keeps_so m end answer old new can (low.Crowded gate, h, is) whole = inr (whole.0 ∙ is.status, inr (crowded_so m.evidence m.inputs gate end answer old new h is whole))

-- by the status that the files call for, where memory ran out or writing failed
keeps_short : (m : LowMaterial) (files : Files) (form : Option Form) (answer : Status) (a c : View) → CanFirstBeDrawn m.style m.inputs → called files (gathered form) ≡ Ok (MakingLow, m) → IsOfOutside answer → Completes form files answer → IsDoneOrShort answer ⊎ LeavesGapsOpen files form answer a c
keeps_short m files form answer a c can got outside (inr short) = inl (inr short)
keeps_short m files form answer a c can got outside (inl (end, calls, same)) =
    elim (drawn_or_open m end can (subst (λ (r : Result Material Refusal). EndsTo r end) got calls)) [
      | inl done ↦ inl (inl (same ∙ done))
      | inr open' ↦ absurd (among_one (status.Unfinished ∷ []) desk_statuses answer refl (subst (λ (s : Status). is_among (status.Unfinished ∷ []) s ≡ true) (sym (same ∙ open')) refl) outside)
    ]

pub low_keeps_told : (a c : View) (form : Option Form) (answer : Status) (given : Option Files) → IfSome given (λ files. IsCalm a c → Completes form files answer) → IfSome given (IsAnswered form a c answer) → IfSome given (λ files. IsCalm a c → DrawsFirst files form → IsDoneOrShort answer ⊎ LeavesGapsOpen files form answer a c)
low_keeps_told a c form answer None completes told = tt
low_keeps_told a c form answer (Some files) completes (inl outside) = λ calm (m, got, can). keeps_short m files form answer a c can got outside (completes calm)
low_keeps_told a c form answer (Some files) completes (inr (end, calls, whole)) = λ calm (m, got, can).
    elim (keeps_so m end answer a c can (subst (λ (r : Result Material Refusal). EndsTo r end) got calls) whole) [
      | inl done ↦ inl (inl done)
      | inr (open', unmade) ↦ inr (open', (m, got, unmade))
    ]
