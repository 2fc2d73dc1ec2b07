-- From each place of the grammar's table some records lead to the end of a library.
use Rattle.std.proofs.Common.{◌≡◌, Bool, true, false, List, [], ◌∷◌, refl}
use Rattle.gds_record.specs.declared.types.RecordType.{RecordType}
use Rattle.gds_record.specs.declared.types.RecordType.TheVariants as record_type
use Rattle.gds_read.specs.declared.grammar.ElementKind.{ElementKind}
use Rattle.gds_read.specs.declared.grammar.ElementKind.TheVariants as element
use Rattle.gds_read.specs.declared.grammar.Seen.{Seen}
use Rattle.gds_read.specs.declared.grammar.Place.{Place}
use Rattle.gds_read.specs.declared.grammar.Place.TheVariants.{Start, Opened, Library, Naming, Structure, Element, Ended}
use Rattle.gds_read.specs.Grammar.{is_allowed, follows}
use Rattle.gds_read.specs.Words.{Accepts}

-- some records lead from the place to the end
abbrev Ends : Place → Type 0
Ends place = (rest : List RecordType) × Accepts place rest Ended

behind : (place : Place) (kind : RecordType) → is_allowed place kind ≡ true → Ends (follows place kind) → Ends place
behind place kind may (rest, leads) = (kind ∷ rest, (may, leads))

with_units : (named structures : Bool) → Ends (Library named true structures)
with_units named structures = behind (Library named true structures) record_type.EndLib refl ([], refl)

library : (named units structures : Bool) → Ends (Library named units structures)
library named true structures = with_units named structures
library named false structures = behind (Library named false structures) record_type.Units refl (with_units named structures)

structure : Ends Structure
structure = behind Structure record_type.EndStr refl (with_units true true)

abbrev met : Bool → Bool → Bool → Bool → Bool → Seen
met layer xy width path_type string = record { layer = layer; xy = xy; width = width; path_type = path_type; string = string }

-- an element of a kind that met these records can still end
abbrev Closes : ElementKind → Bool → Bool → Bool → Bool → Bool → Type 0
Closes kind layer xy width path_type string = Ends (Element kind (met layer xy width path_type string))

-- Where it ends with a layer and points, it ends without them: they may still come.
layer_and_points : (kind : ElementKind) → ((w p s : Bool) → Closes kind true true w p s) → ((x w p s : Bool) → is_allowed (Element kind (met false x w p s)) record_type.Layer ≡ true) → ((l w p s : Bool) → is_allowed (Element kind (met l false w p s)) record_type.Xy ≡ true) → (layer xy w p s : Bool) → Closes kind layer xy w p s
layer_and_points kind ends may_layer may_xy true true w p s = ends w p s
layer_and_points kind ends may_layer may_xy true false w p s = behind (Element kind (met true false w p s)) record_type.Xy (may_xy true w p s) (ends w p s)
layer_and_points kind ends may_layer may_xy false true w p s = behind (Element kind (met false true w p s)) record_type.Layer (may_layer true w p s) (ends w p s)
layer_and_points kind ends may_layer may_xy false false w p s = behind (Element kind (met false false w p s)) record_type.Layer (may_layer false w p s) (behind (Element kind (met true false w p s)) record_type.Xy (may_xy true w p s) (ends w p s))

boundary : (w p s : Bool) → Closes element.Boundary true true w p s
boundary w p s = behind (Element element.Boundary (met true true w p s)) record_type.EndEl refl structure

path : (w p s : Bool) → Closes element.Path true true w p s
path w p s = behind (Element element.Path (met true true w p s)) record_type.EndEl refl structure

text : (w p s : Bool) → Closes element.Text true true w p s
text w p true = behind (Element element.Text (met true true w p true)) record_type.EndEl refl structure
text w p false = behind (Element element.Text (met true true w p false)) record_type.StringText refl (behind (Element element.Text (met true true w p true)) record_type.EndEl refl structure)

inside : (kind : ElementKind) (seen : Seen) → Ends (Element kind seen)
inside element.Boundary seen = layer_and_points element.Boundary boundary (λ x w p s. refl) (λ l w p s. refl) seen.layer seen.xy seen.width seen.path_type seen.string
inside element.Path seen = layer_and_points element.Path path (λ x w p s. refl) (λ l w p s. refl) seen.layer seen.xy seen.width seen.path_type seen.string
inside element.Text seen = layer_and_points element.Text text (λ x w p s. refl) (λ l w p s. refl) seen.layer seen.xy seen.width seen.path_type seen.string
inside element.Other seen = behind (Element element.Other seen) record_type.EndEl refl structure

pub no_dead_end : (place : Place) → (rest : List RecordType) × Accepts place rest Ended
no_dead_end Start = behind Start record_type.Header refl (behind Opened record_type.BgnLib refl (library false false false))
no_dead_end Opened = behind Opened record_type.BgnLib refl (library false false false)
no_dead_end (Library named units structures) = library named units structures
no_dead_end Naming = behind Naming record_type.StrName refl structure
no_dead_end Structure = structure
no_dead_end (Element kind seen) = inside kind seen
no_dead_end Ended = ([], refl)
