-- The technology, the inputs, a drawing and the macro of an abstract, as they are read from files.
use Rattle.std.specs.Prelude.{ℕ, List, [], ◌∷◌, Option, Some, None, Ok}
use Rattle.cell_num.specs.Names.{lowered}
use Rattle.tech_file.specs.Technology.{Technology, plain}
use Rattle.tech_file.specs.Reading.{technology}
use Rattle.box_geom.specs.declared.shape.Shapes.{Shapes}
use Rattle.gds_read.specs.Decoding.{decoded}
use Rattle.lef_read.specs.Macros.{macro_in}
use Rattle.lef_read.specs.declared.cell.Macro.{Macro}
use Rattle.cell_inputs.specs.Inputs.{Inputs, unit_nm}
use Rattle.call_read.specs.declared.refusal.Refusal.TheVariants.{Tech, Gds, Lef}
use Rattle.call_read.specs.Inputs.{inputs_in}
use Rattle.call_read.specs.Refusals.{as_refusal}
use Rattle.call_read.specs.Reading.{Reading, Ends, bytes_of, ◌>>=◌}
use Rattle.call_read.specs.Sources.{Source, TechFile, SpiceFile, GdsFile, LefFile}
use Rattle.call_words.specs.Asked.{CellAsked}

abbrev pub technology_in : List ℕ → Reading Technology
technology_in bytes = Ends (as_refusal Tech (technology bytes))

-- the plain technology, or the one of a file
abbrev pub technology_from : Option (List ℕ) → Reading Technology
technology_from None = Ends (Ok plain)
technology_from (Some name) = bytes_of (TechFile name) >>= technology_in

-- the SPICE file, the subcircuit of the name in lower case, and its fingers
abbrev pub inputs_over : CellAsked → Technology → Reading Inputs
inputs_over asked tech = bytes_of (SpiceFile asked.spice) >>= λ bytes. Ends (inputs_in bytes (lowered asked.cell) tech)

-- the technology, and then the others
abbrev pub inputs_from : CellAsked → Reading Inputs
inputs_from asked = technology_from asked.tech >>= inputs_over asked

-- the GDSII file, and what it draws as a cell of that name
abbrev pub shapes_in : List ℕ → Technology → List ℕ → Reading Shapes
shapes_in cell tech bytes = Ends (as_refusal Gds (decoded bytes cell tech.lambda_nm))

abbrev pub shapes_from : List ℕ → List ℕ → Technology → Reading Shapes
shapes_from gds cell tech = bytes_of (GdsFile gds) >>= shapes_in cell tech

-- the LEF file, and the first macro of that name in it, in grid units of the technology
abbrev pub macro_of : List ℕ → Technology → List ℕ → Reading Macro
macro_of cell tech bytes = Ends (as_refusal Lef (macro_in bytes cell (unit_nm tech)))

abbrev pub macro_from : List ℕ → List ℕ → Technology → Reading Macro
macro_from lef cell tech = bytes_of (LefFile lef) >>= macro_of cell tech

-- the files that are read for a technology, and for the inputs, in order
abbrev pub tech_files : Option (List ℕ) → List Source
tech_files None = []
tech_files (Some tech) = TechFile tech ∷ []

abbrev pub input_files : Option (List ℕ) → List ℕ → List Source
input_files None spice = SpiceFile spice ∷ []
input_files (Some tech) spice = TechFile tech ∷ SpiceFile spice ∷ []
