-- Where the cells of a row end, before the first that is not made.
use Rattle.std.proofs.Common.{ℕ, ◌≡◌, List, ◌∷◌, ◌++◌, Result, Ok, Err, IfErr, ap, sym, subst, ◌∙◌}
use Rattle.std.specs.Result.{IsErr, IsErrAnd}
use Rattle.row_abut.specs.declared.cell.RowCell.{RowCell}
use Rattle.cell_make.specs.RowInputs.{RowInputs}
use Rattle.cell_make.specs.Rowed.{ComesNext}
use Rattle.cell_make.specs.RowSteps.{AreCellsOf, IsStop, Stops}
use Rattle.cell_make.specs.declared.row_stop.RowStop.{RowStop}
use Rattle.cell_make.specs.declared.row_stop.RowStop.TheVariants.{Refused, Stopped, NoMemory}

comes_next : (r : RowInputs) (names : List (List ℕ)) (cells : List RowCell) (name : List ℕ) (later : List (List ℕ)) (s : AreCellsOf r names cells) → r.names ≡ names ++ name ∷ later → ComesNext r s.made name
comes_next r names cells name later s all = record { each = s.are.each; later = later; names = all ∙ ap (λ ns. ns ++ name ∷ later) (sym s.are.named) }

pub stops_here : (r : RowInputs) (names : List (List ℕ)) (cells : List RowCell) (name : List ℕ) (later : List (List ℕ)) (stop : RowStop) → AreCellsOf r names cells → r.names ≡ names ++ name ∷ later → IsStop r name stop → Stops r stop
stops_here r names cells name later (Refused f) s all fault = (s.made, name, record { next = comes_next r names cells name later s all; is = fault })
stops_here r names cells name later (Stopped inputs why) s all (of, named, (answer, stops, told)) =
    (s.made, answer, record { next = comes_next r names cells inputs.cell.name later s (all ∙ ap (λ n. names ++ n ∷ later) (sym named)); of = of; stops = stops }, told)
stops_here r names cells name later NoMemory s all fault = tt

-- a stop that is handed on
pub stop_handed : {A : Type 0} (r : Result A RowStop) (e : RowStop) (P : RowStop → Type 0) → IsErr r × IsErrAnd r (λ told. told ≡ e) → P e → IfErr r P
stop_handed (Ok x) e P (is, told) h = tt
stop_handed (Err f) e P (is, same) h = subst P (sym same) h
