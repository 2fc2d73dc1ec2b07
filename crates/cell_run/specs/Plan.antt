-- What a call of `plan` reports: the row, with evidence; or what a search proves without a row, or a gate with too many
-- ways to pair its fingers. What calls for the row.
use Rattle.std.specs.Prelude.{ℕ, ◌⊎◌, List, ◌++◌, Option}
use Rattle.cell_io.specs.Desk.{Files, View, Both}
use Rattle.cell_num.specs.declared.net.NetNo.{NetNo}
use Rattle.row_model.specs.declared.column.Column.{Column}
use Rattle.row_search.specs.First.{IsFirstLeast}
use Rattle.call_end.specs.Deliver.{Says}
use Rattle.call_end.specs.Status.{first_line}
use Rattle.call_end.specs.declared.status.Status.{Status}
use Rattle.call_end.specs.declared.status.Status.TheVariants as status
use Rattle.call_words.specs.Words.{Form}
use Rattle.call_words.specs.declared.evidence.Evidence.{Evidence}
use Rattle.call_work.specs.Commands.{Planning}
use Rattle.cell_inputs.specs.Inputs.{Inputs}
use Rattle.cell_report.specs.Logs.{unfinished_text}
use Rattle.cell_commands.specs.Searched.{Crowds}
use Rattle.cell_run.specs.Ended.{Gathers, WhereEnds}
use Rattle.cell_run.specs.Evidence.{Certificate, Certifies, HasEnough, ProvesAlone, evidence_text, lemma_count}
use Rattle.cell_run.specs.Evidence.{planned_text}
use Rattle.cell_commands.specs.Evidence.{gate_text}

-- so it is where `plan` ends with this status
abbrev pub WherePlanEnds : Files → Option Form → Status → Status → (Evidence → Inputs → Type 0) → Type 0
WherePlanEnds files form answer settled Says =
    WhereEnds Planning files form answer settled (λ m. Says m.evidence m.inputs)

-- the row was reported, and how many lemmas and filled gates a certificate by trails has
pub record IsPlannedRow (evidence : Evidence) (inputs : Inputs) (old new : View) : Type 0 where
  pub row : List Column
  pub certificate : Certificate evidence
  -- Over all orders, flips and pairings with the fewest columns, no row has fewer gaps, and of those with as few
  -- this one comes first.
  pub first_least : IsFirstLeast inputs.fingers row
  -- The checker accepts the evidence with the gaps of the row, and the row that it lists is this one.
  pub certified : Certifies evidence inputs row certificate
  pub says :
      Both (Says (first_line status.Done ++ planned_text evidence inputs.cell row certificate)) old.said new.said

-- the evidence was reported, which lists no row: it proves that no row has fewer gaps than the report says
pub record IsOpenSearch (evidence : Evidence) (inputs : Inputs) (old new : View) : Type 0 where
  pub certificate : Certificate evidence
  pub proved : ℕ
  pub proves : ProvesAlone evidence inputs proved certificate
  pub says :
      Both (Says (first_line status.Unfinished ++ unfinished_text proved (lemma_count evidence certificate)
      ++ evidence_text evidence inputs.cell.name certificate)) old.said new.said

-- A gate was reported with too many ways to pair its fingers, and no row. It is the first such gate that is not left
-- open. Or it is the first that is left open, and every row has more gaps than lemmas prove then. No search with pools
-- could list lemmas.
pub record IsCrowdedCell (evidence : Evidence) (inputs : Inputs) (old new : View) : Type 0 where
  pub gate : NetNo
  pub crowded : Crowds evidence inputs gate
  pub says : Both (Says (first_line status.Unfinished ++ gate_text inputs.cell gate)) old.said new.said

abbrev pub IsUnplanned : Evidence → Inputs → View → View → Type 0
IsUnplanned evidence inputs old new = IsOpenSearch evidence inputs old new ⊎ IsCrowdedCell evidence inputs old new

-- the inputs of a plan are there and accepted, and the budget is enough for them
abbrev pub CanBePlanned : Files → Option Form → Type 0
CanBePlanned files form = Gathers Planning files form (λ m. HasEnough m.evidence m.inputs)
