-- What is said of the routing of a drawn row may say less.
use Rattle.std.proofs.Common.{ℕ, List, IfOk, Result, Ok, Err, subst, sym}
use Rattle.cell_num.specs.declared.list.NoMemory.{NoMemory}
use Rattle.row_model.specs.declared.column.Column.{Column}
use Rattle.channel_route.specs.declared.routing.Routing.{Routing}
use Rattle.cell_inputs.specs.declared.style.Style.{Style}
use Rattle.cell_inputs.specs.Inputs.{Inputs}
use Rattle.cell_make.specs.declared.draw_outcome.DrawOutcome.{DrawOutcome}
use Rattle.cell_make.specs.Making.{IsDrawnAs, IsRouted}
use Rattle.cell_make.specs.Rows.{ComesAs, ComesFrom, DrawAnswer, DrawsAs, IsThat, RowCyclic, RowDrawn, RowTall, row_answer}

pub drawn_as : (A B : Type 0) (style : Style) (inputs : Inputs) (row : List Column) (routing : Routing) (xs : List ℕ) → (A → B) → IsDrawnAs A style inputs row routing xs → IsDrawnAs B style inputs row routing xs
drawn_as A B style inputs row routing xs to h = record {
  routed = to h.routed;
  lines = h.lines;
  fits = h.fits;
  obeys = h.obeys;
  extracts = h.extracts;
  bodied = h.bodied;
  shows_row = h.shows_row;
  shows_routing = h.shows_routing;
  ports = h.ports;
  port_trunks = h.port_trunks;
  port_nets = h.port_nets;
  obstructs = h.obstructs;
  sized = h.sized;
  decodes = h.decodes;
  alone = h.alone;
  agrees = h.agrees;
  small = h.small;
}

pub draws_as : (A B : Routing → Type 0) (style : Style) (inputs : Inputs) (row : List Column) (answer : DrawAnswer) → ((r : Routing) → A r → B r) → DrawsAs A style inputs row answer → DrawsAs B style inputs row answer
draws_as A B style inputs row (RowDrawn routing xs) to h = drawn_as (A routing) (B routing) style inputs row routing xs (to routing) h
draws_as A B style inputs row (RowCyclic ring) to h = h
draws_as A B style inputs row (RowTall routing) to h = (to routing h.0, h.1)

pub comes_as : (A B : Routing → Type 0) (style : Style) (inputs : Inputs) (row : List Column) (of : DrawOutcome) → ((r : Routing) → A r → B r) → ComesAs A style inputs row of → ComesAs B style inputs row of
comes_as A B style inputs row of to h = record { placed = h.placed; draws = draws_as A B style inputs row (row_answer of) to h.draws; exact = h.exact }

-- it is the one that was given
pub comes_with : (A : Routing → Type 0) (style : Style) (inputs : Inputs) (row : List Column) (routing : Routing) (of : DrawOutcome) → A routing → ComesAs (IsThat routing) style inputs row of → ComesAs A style inputs row of
comes_with A style inputs row routing of routed h = comes_as (IsThat routing) A style inputs row of (λ r is. subst A (sym is) routed) h

pub comes_from : (style : Style) (inputs : Inputs) (row : List Column) (routing : Routing) (r : Result DrawOutcome NoMemory) → IsRouted style inputs row routing → IfOk r (ComesAs (IsThat routing) style inputs row) → IfOk r (ComesFrom style inputs row)
comes_from style inputs row routing (Ok of) routed h = comes_with (IsRouted style inputs row) style inputs row routing of routed h
comes_from style inputs row routing (Err e) routed h = tt
