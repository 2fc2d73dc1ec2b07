use Rattle.std.proofs.Common.{◌≡◌, drop}
use Rattle.toml.specs.View.{items_view}
use Rattle.tech_file.specs.Reading.{names_in}
use Rattle.tech_file.proofs.NameLists.{behind}
use Rattle.tech_file.proofs.models.names_in.Given as goal

abbrev pub invariant-values : goal.invariant-values
invariant-values l = behind l.names (names_in (items_view (drop l.value-index l.values))) ≡ names_in (items_view l.values)
