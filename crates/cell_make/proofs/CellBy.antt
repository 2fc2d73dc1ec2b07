-- A cell of these inputs, with its first least row or with its lowest one, from what the searches and the drawing
-- answered.
use Rattle.std.proofs.Common.{ℕ, ◌≡◌, ◌∙◌, true, false, Bool, List, ap, refl, sym, subst}
use Rattle.bound_log.specs.declared.log.Log.{Log}
use Rattle.cell_inputs.specs.Inputs.{AreInputs, Inputs}
use Rattle.cell_inputs.specs.Style.{plain_style}
use Rattle.cell_inputs.specs.declared.style.LeastRow.{LeastRow}
use Rattle.cell_inputs.specs.declared.style.LeastRow.TheVariants.{First, Lowest}
use Rattle.cell_inputs.specs.declared.style.Style.{Style}
use Rattle.cell_make.proofs.LowCell.{first_straight}
use Rattle.cell_make.proofs.MadeCells.{IsStanding, made_of, sound_so, stands_by}
use Rattle.cell_make.specs.Extent.{LiesInFrame}
use Rattle.cell_make.specs.Low.{IsLowRouted}
use Rattle.cell_make.specs.LowTracks.{ProvesTracks}
use Rattle.cell_make.specs.LowUnwired.{IsUnwiredEnd}
use Rattle.cell_make.specs.Making.{CanBeWritten, ComesTo, drawing_in}
use Rattle.cell_make.specs.RowInputs.{RowInputs}
use Rattle.cell_make.specs.RowSteps.{IsCellBy, IsCellOf, IsFoundLow, IsRingEnd, IsSoundCell, IsStop, IsStopBy, ringed}
use Rattle.cell_make.specs.CellOfRow.{Cyclic, IsMadeBy, IsMadeLow, StopAnswer, StopsBy, Tall, TellsWhy, Unfinished, Unwired}
use Rattle.cell_make.specs.Rowed.{AreInputsOf, MadeCell, cell_drawing}
use Rattle.cell_make.specs.Rows.{CanRowBeWritten, ComesAs, LiesRowInFrame}
use Rattle.cell_make.specs.Searched.{IsFound, IsUnfinished}
use Rattle.cell_make.specs.Style.{IsToldRing, tapped_by}
use Rattle.cell_make.specs.declared.draw_outcome.DrawOutcome.TheVariants as came
use Rattle.cell_make.specs.declared.drawn.Drawn.{Drawn}
use Rattle.cell_make.specs.declared.low_drawn.LowDrawn.{LowDrawn}
use Rattle.cell_make.specs.declared.outcome.Outcome.{Outcome}
use Rattle.cell_make.specs.declared.outcome.Outcome.TheVariants as outcome
use Rattle.cell_make.specs.declared.row_outcome.Undrawn.{Undrawn}
use Rattle.cell_make.specs.declared.row_outcome.Undrawn.TheVariants as why
use Rattle.cell_make.specs.declared.row_stop.RowStop.{RowStop}
use Rattle.cell_make.specs.declared.row_stop.RowStop.TheVariants.{Refused, Stopped, NoMemory}
use Rattle.channel_route.specs.declared.ring.Ring.{Ring}
use Rattle.channel_route.specs.declared.routing.Routing.{Routing}
use Rattle.row_abut.specs.declared.cell.RowCell.{RowCell}
use Rattle.row_model.specs.declared.column.Column.{Column}
use Rattle.row_place.specs.Places.{placement_of}
use Rattle.row_place.specs.declared.placement.Placement.{Placement}
use Rattle.track_log.specs.declared.certificate.TrackCertificate.{TrackCertificate}

-- a made cell, and what holds of it besides
pub record IsReadyBy (choice : LeastRow) (m : MadeCell) : Type 0 where
  pub is : IsMadeBy choice m.inputs m.row m.log m.routing m.lines
  pub sound : IsSoundCell m

pub standing : (choice : LeastRow) (m : MadeCell) → IsReadyBy choice m → IsStanding m
standing choice m h = stands_by choice m h.is h.sound

-- why it is not made
abbrev pub IsWhy : LeastRow → Inputs → Undrawn → Type 0
IsWhy choice inputs told = (answer : StopAnswer) × StopsBy choice inputs answer × TellsWhy inputs told answer

pub stop_by : (choice : LeastRow) (inputs : Inputs) (told : Undrawn) (stop : RowStop) → stop ≡ Stopped inputs told → IsWhy choice inputs told → IsStopBy choice inputs stop
stop_by choice inputs told stop is h = subst (IsStopBy choice inputs) (sym is) (refl, h)

-- ---- its first least row

pub plain_so : (inputs : Inputs) (style : Style) (came other : Outcome) → style ≡ plain_style → came ≡ other → ComesTo style inputs came → ComesTo plain_style inputs other
plain_so inputs style came other plain is comes = subst (ComesTo plain_style inputs) is (subst (λ (s : Style). ComesTo s inputs came) plain comes)

pub first_so : (inputs : Inputs) (style : Style) (came : Outcome) (placement : Placement) (log : Log) (routing : Routing) (drawn : Drawn) → style ≡ plain_style → came ≡ outcome.Made placement log routing drawn → AreInputs inputs → ComesTo style inputs came → CanBeWritten inputs came → LiesInFrame inputs came → IsReadyBy First (made_of inputs placement log routing drawn)
first_so inputs style came placement log routing drawn plain is are comes written extent =
    let (made, (drawing, tapped)) = plain_so inputs style came (outcome.Made placement log routing drawn) plain is comes in
    let (readable, few) = subst (CanBeWritten inputs) is written in
    record { is = made; sound = sound_so inputs placement log routing drawn are drawing tapped readable few (subst (LiesInFrame inputs) is extent) }

pub first_drawing : (inputs : Inputs) (style : Style) (came : Outcome) (placement : Placement) (log : Log) (routing : Routing) (drawn : Drawn) → style ≡ plain_style → came ≡ outcome.Made placement log routing drawn → ComesTo style inputs came → drawn.drawing ≡ cell_drawing (made_of inputs placement log routing drawn)
first_drawing inputs style came placement log routing drawn plain is comes =
    (plain_so inputs style came (outcome.Made placement log routing drawn) plain is comes).1.0

pub first_cyclic : (inputs : Inputs) (style : Style) (came : Outcome) (placement : Placement) (log : Log) (ring : Ring) → style ≡ plain_style → came ≡ outcome.Cyclic placement log ring → ComesTo style inputs came → IsWhy First inputs (why.Cyclic ring)
first_cyclic inputs style came placement log ring plain is comes =
    (Cyclic placement.row log ring, (plain_so inputs style came (outcome.Cyclic placement log ring) plain is comes).0, (placement.row, log, refl))

pub first_tall : (inputs : Inputs) (style : Style) (came : Outcome) (placement : Placement) (log : Log) (routing : Routing) (needed given : ℕ) → style ≡ plain_style → came ≡ outcome.Tall placement log routing needed given → ComesTo style inputs came → IsWhy First inputs (why.Tall needed given)
first_tall inputs style came placement log routing needed given plain is comes =
    let (makes, (high, low)) = plain_so inputs style came (outcome.Tall placement log routing needed given) plain is comes in
    (Tall placement.row log routing, makes, (placement.row, log, routing, refl, high, low))

pub first_open : (inputs : Inputs) (style : Style) (came : Outcome) (log : Log) (proved : ℕ) → style ≡ plain_style → came ≡ outcome.Unfinished log proved → ComesTo style inputs came → IsWhy First inputs (why.Unfinished log proved)
first_open inputs style came log proved plain is comes =
    (Unfinished proved log, (plain_so inputs style came (outcome.Unfinished log proved) plain is comes).0, refl)

-- ---- its lowest row

-- on its lines
row_is : (placement : Placement) (row : List Column) → placement ≡ placement_of row → row ≡ placement.row
row_is placement row placed = sym (ap (λ (p : Placement). p.row) placed)

-- the row, its certificate and its drawing, of what was drawn
record IsDrawnLow (inputs : Inputs) (placement : Placement) (log : Log) (routing : Routing) (drawn : Drawn) : Type 0 where
  is : IsMadeLow inputs placement.row log routing drawn.lines
  drawing : drawn.drawing ≡ drawing_in inputs placement.row routing drawn.lines
  tapped : drawn.tapped ≡ tapped_by plain_style.taps drawn.drawing drawn.lines

drawn_low : (inputs : Inputs) (low : LowDrawn) (placement : Placement) (routing : Routing) (drawn : Drawn) (h : IsFoundLow inputs low) → low.came ≡ came.Drawn placement routing drawn → IsDrawnLow inputs placement h.1 routing drawn
drawn_low inputs low placement routing drawn (first, log, found, h) is =
    let comes : ComesAs (IsLowRouted plain_style inputs h.row h.tracks) plain_style inputs h.row (came.Drawn placement routing drawn) = subst (ComesAs (IsLowRouted plain_style inputs h.row h.tracks) plain_style inputs h.row) is h.comes in
    let same : h.row ≡ placement.row = row_is placement h.row comes.placed in
    record {
      is = subst (λ (row : List Column). IsMadeLow inputs row log routing drawn.lines) same (record { first = first; found = found; tracks = h.tracks; proves = h.proves; drawn = comes.draws });
      drawing = subst (λ (row : List Column). drawn.drawing ≡ drawing_in inputs row routing drawn.lines) same comes.exact.0;
      tapped = comes.exact.1;
    }

pub low_so : (inputs : Inputs) (low : LowDrawn) (placement : Placement) (routing : Routing) (drawn : Drawn) (h : IsFoundLow inputs low) → low.came ≡ came.Drawn placement routing drawn → AreInputs inputs → CanRowBeWritten inputs low.came → LiesRowInFrame inputs low.came → IsReadyBy Lowest (made_of inputs placement h.1 routing drawn)
low_so inputs low placement routing drawn h is are written extent =
    let made = drawn_low inputs low placement routing drawn h is in
    let (readable, few) = subst (CanRowBeWritten inputs) is written in
    record { is = made.is; sound = sound_so inputs placement h.1 routing drawn are made.drawing made.tapped readable few (subst (LiesRowInFrame inputs) is extent) }

pub low_drawing : (inputs : Inputs) (low : LowDrawn) (placement : Placement) (routing : Routing) (drawn : Drawn) (h : IsFoundLow inputs low) → low.came ≡ came.Drawn placement routing drawn → drawn.drawing ≡ cell_drawing (made_of inputs placement h.1 routing drawn)
low_drawing inputs low placement routing drawn h is = (drawn_low inputs low placement routing drawn h is).drawing

pub low_tall : (inputs : Inputs) (low : LowDrawn) (placement : Placement) (routing : Routing) (needed given : ℕ) → AreInputs inputs → IsFoundLow inputs low → low.came ≡ came.Tall placement routing needed given → IsWhy Lowest inputs (why.Tall needed given)
low_tall inputs low placement routing needed given are (first, log, found, h) is =
    let comes : ComesAs (IsLowRouted plain_style inputs h.row h.tracks) plain_style inputs h.row (came.Tall placement routing needed given) = subst (ComesAs (IsLowRouted plain_style inputs h.row h.tracks) plain_style inputs h.row) is h.comes in (
      Tall h.row log routing,
      record { first = first; found = found; there = first_straight inputs first are found.first; tracks = h.tracks; proves = h.proves; routed = comes.draws.0; tall = comes.draws.1 },
      (h.row, log, routing, refl, comes.exact.0, comes.exact.1),
    )

-- a ring, by why no row that can be wired is known
low_ring : (inputs : Inputs) (first row : List Column) (log : Log) (tracks : TrackCertificate) (none_wired : Bool) (ring : Ring) → IsFound inputs first log → ProvesTracks plain_style.wiring inputs tracks → row ≡ first → IsToldRing plain_style.wiring (placement_of row) inputs.cell.pins ring → IsUnwiredEnd plain_style.wiring inputs tracks none_wired → IsWhy Lowest inputs (ringed ring none_wired)
low_ring inputs first row log tracks true ring found proves same told none = (
  Cyclic first log ring,
  (tracks, record { found = found; proves = proves; unwired = none; told = subst (λ (columns : List Column). IsToldRing plain_style.wiring (placement_of columns) inputs.cell.pins ring) same told }),
  (first, log, refl),
)
low_ring inputs first row log tracks false ring found proves same told spent = (
  Unwired first log tracks ring,
  record { found = found; proves = proves; unwired = spent; told = subst (λ (columns : List Column). IsToldRing plain_style.wiring (placement_of columns) inputs.cell.pins ring) same told },
  (first, log, tracks, refl),
)

pub low_cyclic : (inputs : Inputs) (low : LowDrawn) (placement : Placement) (ring : Ring) → IsFoundLow inputs low → low.came ≡ came.Cyclic placement ring → IsWhy Lowest inputs (ringed ring low.none_wired)
low_cyclic inputs low placement ring (first, log, found, h) is =
    let comes : ComesAs (IsLowRouted plain_style inputs h.row h.tracks) plain_style inputs h.row (came.Cyclic placement ring) = subst (ComesAs (IsLowRouted plain_style inputs h.row h.tracks) plain_style inputs h.row) is h.comes in
    let ends : IsRingEnd inputs first h.row h.tracks low.none_wired (came.Cyclic placement ring) = subst (IsRingEnd inputs first h.row h.tracks low.none_wired) is h.ring in
    low_ring inputs first h.row log h.tracks low.none_wired ring found h.proves ends.0 comes.draws ends.1

pub low_open : (inputs : Inputs) (log : Log) (proved : ℕ) → IsUnfinished inputs proved log → IsWhy Lowest inputs (why.Unfinished log proved)
low_open inputs log proved spent = (Unfinished proved log, spent, refl)

-- ---- as a cell of a row

pub cell_so : (r : RowInputs) (choice : LeastRow) (inputs : Inputs) (name : List ℕ) (c : RowCell) → r.choice ≡ choice → AreInputsOf r inputs → inputs.cell.name ≡ name → IsCellBy choice inputs c → IsCellOf r name c
cell_so r choice inputs name c chosen of named h = record {
  m = h.m;
  is = record { of = subst (AreInputsOf r) (sym h.of) of; made = subst (λ (by : LeastRow). IsMadeBy by h.m.inputs h.m.row h.m.log h.m.routing h.m.lines) (sym chosen) h.is };
  sound = h.sound;
  named = ap (λ (i : Inputs). i.cell.name) h.of ∙ named;
  cell = h.cell;
}

pub stop_so : (r : RowInputs) (choice : LeastRow) (inputs : Inputs) (name : List ℕ) (stop : RowStop) → r.choice ≡ choice → AreInputsOf r inputs → inputs.cell.name ≡ name → IsStopBy choice inputs stop → IsStop r name stop
stop_so r choice inputs name (Refused f) chosen of named h = absurd h
stop_so r choice inputs name (Stopped kept told) chosen of named (same, (answer, stops, tells)) =
    subst (λ (i : Inputs). IsStop r name (Stopped i told)) (sym same)
    (of, named, (answer, subst (λ (by : LeastRow). StopsBy by inputs answer) (sym chosen) stops, tells))
stop_so r choice inputs name NoMemory chosen of named h = tt
