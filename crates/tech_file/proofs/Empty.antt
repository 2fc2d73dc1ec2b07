-- A file of no bytes says the plain technology.
use Rattle.std.proofs.Common.{◌≡◌, [], Some, Ok, refl, ◌∙◌}
use Rattle.toml.specs.Data.{no_members}
use Rattle.toml.specs.Parse.{parse_document}
use Rattle.toml.proofs.OnLiterals.{toml_on_literals}
use Rattle.tech_file.specs.Technology.{plain}
use Rattle.tech_file.specs.Reading.{table_of, technology}
use Rattle.tech_file.proofs.Documents.{table_of_text}

no_table : parse_document [] ≡ Some no_members
unfolding toml_on_literals
no_table = refl

empty_table : table_of [] ≡ Some no_members
empty_table = table_of_text [] ([], (refl, refl)) ∙ no_table

pub empty_is_plain : technology [] ≡ Ok plain
empty_is_plain = rw empty_table
