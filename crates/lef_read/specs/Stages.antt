-- How far a text is read, by the names of its macros: the first one of the wanted name counts.
use Rattle.std.specs.Prelude.{Bool, true, false}
use Rattle.lef_read.specs.declared.stage.Stage.{Stage}
use Rattle.lef_read.specs.declared.stage.Stage.TheVariants.{Before, Inside, Behind}

-- after the head of a macro that is of the wanted name or is not
abbrev pub next_stage : Stage → Bool → Stage
next_stage Before true = Inside
next_stage Before false = Before
next_stage _ is_wanted = Behind
