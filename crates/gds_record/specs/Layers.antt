-- The layers of a drawing by their numbers in a file, those of MOSIS SCMOS.
use Rattle.std.specs.Prelude.{ℕ, ◌==◌, Option, Some, None, if◌then◌else◌}
use Rattle.box_geom.specs.declared.layer.Layer.{Layer}
use Rattle.box_geom.specs.declared.layer.Layer.TheVariants as layer

abbrev pub layer_number : Layer → ℕ
layer_number layer.Well = 42
layer_number layer.Active = 43
layer_number layer.PSelect = 44
layer_number layer.NSelect = 45
layer_number layer.Poly = 46
layer_number layer.Contact = 25
layer_number layer.Metal1 = 49
layer_number layer.Via = 50
layer_number layer.Metal2 = 51

abbrev pub layer_numbered : ℕ → Option Layer
layer_numbered number =
    if number == 42 then Some layer.Well else
    if number == 43 then Some layer.Active else
    if number == 44 then Some layer.PSelect else
    if number == 45 then Some layer.NSelect else
    if number == 46 then Some layer.Poly else
    if number == 25 then Some layer.Contact else
    if number == 49 then Some layer.Metal1 else
    if number == 50 then Some layer.Via else
    if number == 51 then Some layer.Metal2 else
    None
