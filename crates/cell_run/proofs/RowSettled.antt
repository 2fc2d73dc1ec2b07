-- How `row` has to end, where all its cells can be made.
use Rattle.std.proofs.Common.{ℕ, ◌≡◌, true, false, List, [], ◌∷◌, map, codes, All, Contains, Option, Some, None, Result, Ok, Err, IfSome, inl, inr, refl, sym, ap, ◌∙◌, subst}
use Rattle.std.proofs.lemmas.List.Elements.{All-contains, Contains-append_right}
use Rattle.cell_io.specs.Desk.{Files, View}
use Rattle.call_end.specs.End.{reports}
use Rattle.call_end.specs.declared.end.End.{End}
use Rattle.call_end.specs.declared.status.Status.{Status}
use Rattle.call_end.specs.declared.status.Status.TheVariants as status
use Rattle.call_read.specs.declared.refusal.Refusal.{Refusal}
use Rattle.call_words.specs.Words.{Form}
use Rattle.call_words.specs.declared.evidence.Evidence.TheVariants.{Log}
use Rattle.call_work.specs.Commands.{Material, Rowing}
use Rattle.call_work.specs.Ends.{EndsTo, IsOfOutside, desk_statuses, is_among}
use Rattle.cell_inputs.specs.Inputs.{Inputs, inputs_of}
use Rattle.cell_inputs.specs.Style.{plain_style}
use Rattle.cell_inputs.specs.declared.style.LeastRow.{LeastRow}
use Rattle.cell_inputs.specs.declared.style.LeastRow.TheVariants.{First, Lowest}
use Rattle.cell_make.proofs.Rings.{no_ring, ring_is}
use Rattle.cell_num.proofs.Lists.{contains_here}
use Rattle.cell_run.proofs.LowDraws.{drawn_first, never_tall}
use Rattle.cell_run.proofs.MakeTold.{spends_less}
use Rattle.cell_run.proofs.Worked.{Completes, IsAnswered, settles}
use Rattle.cell_run.specs.Calm.{IsCalm, IsDoneOrShort}
use Rattle.cell_run.specs.Headline.{CanBeDrawn, OfFirstLeast}
use Rattle.cell_run.specs.Row.{CanBeMade, CanBeRowed, IsApartOrShort, IsKeptApart, OfRow}
use Rattle.cell_num.specs.declared.finger.Fingers.{Fingers}
use Rattle.cell_report.specs.Faults.{fault_line}
use Rattle.cell_report.specs.RowFaults.{row_fault}
use Rattle.finger_fold.specs.Folding.{folded}
use Rattle.finger_fold.specs.declared.folding.FoldFault.{FoldFault}
use Rattle.spice_net.specs.declared.fault.SpiceFault.{SpiceFault}
use Rattle.cell_make.specs.CellOfRow.{StopAnswer, StopsBy, Cyclic, Tall, Unfinished, Unwired}
use Rattle.cell_make.specs.RowInputs.{RowInputs}
use Rattle.row_abut.specs.declared.cell.RowFault.{RowFault}
use Rattle.cell_make.proofs.Apart.{one_row_fault}
use Rattle.cell_make.specs.Rowed.{AreInputsOf, IsInputFault, IsRefused, IsStopped, MadeCell, ComesNext, cell_name, row_cells, Rowed, Refused, Stopped, Unabutted}
use Rattle.cell_make.specs.declared.row_outcome.InputFault.{InputFault}
use Rattle.cell_make.specs.declared.row_outcome.InputFault.TheVariants.{Spice, Fold}
use Rattle.row_place.specs.Places.{placement_of}
use Rattle.layout_commands.specs.Row.{RowsTo}
use Rattle.tech_file.specs.Technology.{Technology}
use Rattle.spice_net.specs.Subcircuit.{subcircuit}
use Rattle.spice_net.specs.declared.subckt.Subckt.{Subckt}
use Rattle.cell_run.proofs.RowTold.{said_so}

-- ---- where the cells can be made

parts_same : (t u : Technology) (c d : Subckt) (f g : Fingers) → t ≡ u → c ≡ d → f ≡ g → inputs_of t c f ≡ inputs_of u d g
parts_same t u c d f g tech cell fingers = ap (λ z. inputs_of z c f) tech ∙ (ap (λ z. inputs_of u z f) cell ∙ ap (λ z. inputs_of u d z) fingers)

-- the inputs of a cell are told by its name
same_inputs : (r : RowInputs) (a b : Inputs) → AreInputsOf r a → AreInputsOf r b → a.cell.name ≡ b.cell.name → a ≡ b
same_inputs r a b x y named =
    let cell : a.cell ≡ b.cell = ok_is a.cell b.cell (sym x.cell ∙ ap (λ name. subcircuit r.spice name r.tech) named ∙ y.cell) in
    let fingers : a.fingers ≡ b.fingers = ok_same a.fingers b.fingers (sym x.fingers ∙ ap (λ c. folded r.tech c) cell ∙ y.fingers) in
    parts_same a.tech b.tech a.cell b.cell a.fingers b.fingers (x.tech ∙ sym y.tech) cell fingers
  where
    ok_is : (c d : Subckt) → ◌≡◌ {A = Result Subckt SpiceFault} (Ok c) (Ok d) → c ≡ d
    ok_is c d e = cc

    ok_same : (f g : Fingers) → ◌≡◌ {A = Result Fingers FoldFault} (Ok f) (Ok g) → f ≡ g
    ok_same f g e = cc

never_stops : (choice : LeastRow) (inputs : Inputs) (answer : StopAnswer) → OfFirstLeast CanBeDrawn Log plain_style inputs [] → StopsBy choice inputs answer → ⊥
never_stops First inputs (Cyclic row log ring) (much, can) stops = no_ring plain_style.wiring (placement_of row) inputs.cell.pins ring (can row stops.0.first).acyclic (ring_is plain_style.wiring (placement_of row) inputs.cell.pins ring stops.1)
never_stops First inputs (Tall row log routing) (much, can) stops = (can row stops.0.first).fits routing stops.1 stops.2
never_stops First inputs (Unfinished proved log) (much, can) stops = spends_less inputs log proved much stops
never_stops First inputs (Unwired row log tracks ring) can stops = stops
never_stops Lowest inputs (Cyclic row log ring) (much, can) (tracks, h) = no_ring plain_style.wiring (placement_of row) inputs.cell.pins ring (can row h.found.first).acyclic (ring_is plain_style.wiring (placement_of row) inputs.cell.pins ring h.told)
never_stops Lowest inputs (Tall row log routing) (much, can) h = never_tall plain_style inputs row h.tracks routing can (drawn_first plain_style inputs h.there can) h.routed h.tall
never_stops Lowest inputs (Unfinished proved log) (much, can) spent = spends_less inputs log proved much spent
never_stops Lowest inputs (Unwired row log tracks ring) (much, can) h = no_ring plain_style.wiring (placement_of row) inputs.cell.pins ring (can row h.found.first).acyclic (ring_is plain_style.wiring (placement_of row) inputs.cell.pins ring h.told)

never_refused : (r : RowInputs) (name : List ℕ) (fault : InputFault) → CanBeMade r name → IsInputFault r name fault → ⊥
never_refused r name (Spice f) can is =
    let ok : subcircuit r.spice name r.tech ≡ Ok can.inputs.cell = subst (λ n. subcircuit r.spice n r.tech ≡ Ok can.inputs.cell) can.named can.of.cell in
    let clash : ◌≡◌ {A = Result Subckt SpiceFault} (Ok can.inputs.cell) (Err f) = sym ok ∙ is in
    cc
never_refused r name (Fold f) can (cell, ok, is) =
    let own : subcircuit r.spice name r.tech ≡ Ok can.inputs.cell = subst (λ n. subcircuit r.spice n r.tech ≡ Ok can.inputs.cell) can.named can.of.cell in
    let same : can.inputs.cell ≡ cell = ok_is can.inputs.cell cell (sym own ∙ ok) in
    let clash : ◌≡◌ {A = Result Fingers FoldFault} (Ok can.inputs.fingers) (Err f) = sym can.of.fingers ∙ ap (λ c. folded r.tech c) same ∙ is in
    cc
  where
    ok_is : (c d : Subckt) → ◌≡◌ {A = Result Subckt SpiceFault} (Ok c) (Ok d) → c ≡ d
    ok_is c d e = cc

next_can : (r : RowInputs) (before : List MadeCell) (name : List ℕ) → All (CanBeMade r) r.names → ComesNext r before name → CanBeMade r name
next_can r before name each next =
    All-contains (CanBeMade r) r.names name each (subst (λ names. Contains names name) (sym next.names) (Contains-append_right (map cell_name before) (name ∷ next.later) name (contains_here name next.later)))

is_refused : (r : RowInputs) (before : List MadeCell) (name : List ℕ) (fault : InputFault) → All (CanBeMade r) r.names → IsRefused r before name fault → ⊥
is_refused r before name fault each h = never_refused r name fault (next_can r before name each h.next) h.is

is_stopped : (r : RowInputs) (before : List MadeCell) (inputs : Inputs) (answer : StopAnswer) → All (CanBeMade r) r.names → IsStopped r before inputs answer → ⊥
is_stopped r before inputs answer each h =
    let next = next_can r before inputs.cell.name each h.next in
    never_stops r.choice inputs answer (subst (λ i. OfFirstLeast CanBeDrawn Log plain_style i []) (same_inputs r next.inputs inputs next.of h.of next.named) next.drawn) h.stops

rowed_where : (r : RowInputs) (out : List ℕ) (end : End) → CanBeRowed r → RowsTo r out end → end.status ≡ status.Done
rowed_where r out end can (Rowed made, h, is) = is.status
rowed_where r out end can (Refused before name fault, h, is) = absurd (is_refused r before name fault can.each h)
rowed_where r out end can (Stopped before inputs answer, h, is) = absurd (is_stopped r before inputs answer can.each h)
rowed_where r out end can (Unabutted made fault, h, is) = absurd (can.beside made h.cells fault h.is)

pub rows_told : (a c : View) (form : Option Form) (answer : Status) (given : Option Files) → IfSome given (λ files. IsCalm a c → Completes form files answer) → IfSome given (λ files. IsCalm a c → OfRow files form (λ r out. CanBeRowed r) → IsDoneOrShort answer)
rows_told a c form answer given told = settles Rowing (λ m. CanBeRowed m.inputs) form status.Done answer a c given (λ m end can works. rowed_where m.inputs m.stem end can works) told

-- ---- where a fault keeps the made cells apart

abbrev apart_end : RowFault → End
apart_end fault = reports status.Row (fault_line (codes "row") (row_fault fault))

apart_where : (r : RowInputs) (out : List ℕ) (fault : RowFault) (end : End) → IsKeptApart r fault → RowsTo r out end → end ≡ apart_end fault
apart_where r out fault end can (Rowed made, h, is) = absurd (h.beside fault (can.apart made h.cells))
apart_where r out fault end can (Refused before name f, h, is) = absurd (is_refused r before name f can.each h)
apart_where r out fault end can (Stopped before inputs answer, h, is) = absurd (is_stopped r before inputs answer can.each h)
apart_where r out fault end can (Unabutted made other, h, is) = is ∙ ap apart_end (one_row_fault (row_cells made) other fault h.is (can.apart made h.cells))

no_outside : (answer : Status) → answer ≡ status.Row → IsOfOutside answer → ⊥
no_outside answer is outside =
    let wrong : is_among desk_statuses status.Row ≡ true = subst IsOfOutside is outside in
    let none : is_among desk_statuses status.Row ≡ false = refl in
    cc

pub unabuts_told : (a c : View) (form : Option Form) (answer : Status) (given : Option Files) → IfSome given (IsAnswered form a c answer) → IfSome given (λ files. IsCalm a c → Completes form files answer) → IfSome given (λ files. IsCalm a c → (fault : RowFault) → OfRow files form (λ r out. IsKeptApart r fault) → IsApartOrShort fault answer a c)
unabuts_told a c form answer None told completes = tt
unabuts_told a c form answer (Some files) (inr (end, calls, whole)) completes = λ calm fault (m, got, can).
    let is : end ≡ apart_end fault = apart_where m.inputs m.stem fault end can (subst (λ (r : Result Material Refusal). EndsTo r end) got calls) in
    inl (whole.0 ∙ ap (λ (e : End). e.status) is, said_so end (apart_end fault) a c is whole.2)
unabuts_told a c form answer (Some files) (inl outside) completes = λ calm fault (m, got, can). elim (completes calm) [
  | inl (end, calls, same) ↦
      let is : end ≡ apart_end fault = apart_where m.inputs m.stem fault end can (subst (λ (r : Result Material Refusal). EndsTo r end) got calls) in
      absurd (no_outside answer (same ∙ ap (λ (e : End). e.status) is) outside)
  | inr short ↦ inr short
]
