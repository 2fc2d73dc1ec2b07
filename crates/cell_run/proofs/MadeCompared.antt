-- The files of a made cell are found to agree.
use Rattle.std.proofs.Common.{ℕ, ◌≡◌, ◌≤◌, List, Option, Some, None, Result, Ok, Err, IfSome, inl, inr, length, refl, arith, ap, ◌∙◌, subst, sym}
use Rattle.std.proofs.lemmas.Bool.{le-leb}
use Rattle.cell_io.specs.Desk.{Files, View}
use Rattle.box_geom.specs.declared.shape.Shapes.{Shapes}
use Rattle.tech_file.specs.Technology.{Technology}
use Rattle.gds_read.specs.Decoding.{Decodes}
use Rattle.lef_read.specs.Macros.{macro_in}
use Rattle.lef_read.specs.declared.cell.Macro.{Macro}
use Rattle.layout_commands.specs.Agree.{DoesAgree, compared, comparing, comparing_over, comparing_with}
use Rattle.layout_commands.specs.declared.compared.Compared.{Compared}
use Rattle.call_end.specs.declared.status.Status.{Status}
use Rattle.call_end.specs.declared.status.Status.TheVariants as status
use Rattle.call_read.specs.InputFiles.{macro_from, macro_of, shapes_from, shapes_in, technology_from}
use Rattle.call_read.specs.Reading.{Reading, Ends, Reads, bytes_of, ◌>>=◌, behind, called}
use Rattle.call_read.specs.Refusals.{as_refusal}
use Rattle.call_read.specs.Sources.{Source, GdsFile, LefFile, held, most_bytes, within}
use Rattle.call_read.specs.declared.refusal.Refusal.{Refusal}
use Rattle.call_read.specs.declared.refusal.Refusal.TheVariants.{Gds, Lef}
use Rattle.call_words.specs.Words.{Form, Agree}
use Rattle.call_work.specs.Commands.{Agreeing, Material, gathered}
use Rattle.cell_inputs.specs.declared.style.Style.{Style}
use Rattle.cell_inputs.specs.Inputs.{Inputs, unit_nm}
use Rattle.channel_route.specs.declared.routing.Routing.{Routing}
use Rattle.row_model.specs.declared.column.Column.{Column}
use Rattle.cell_make.proofs.Abstracts.{abstract_made}
use Rattle.cell_make.proofs.Small.{small_made}
use Rattle.cell_make.specs.Making.{HasAbstract, HasSmallFiles, final_in, library_of}
use Rattle.cell_run.specs.Agree.{ComparesMade, IsDrawnAnyhow, OfCompared}
use Rattle.cell_run.specs.Calm.{IsCalm}
use Rattle.cell_run.specs.Headline.{IsOrShort}
use Rattle.cell_run.proofs.AgreeTold.{agrees_told}
use Rattle.cell_run.proofs.Worked.{Completes}

-- ---- one reading behind another, where the first one is accepted

behind_so : {A B : Type 0} (got : Result (List ℕ) Refusal) (first : List ℕ → Result A Refusal) (whole : List ℕ → Result B Refusal) (y : A) (last : Result B Refusal) → ((bytes : List ℕ) → first bytes ≡ Ok y → whole bytes ≡ last) → behind got first ≡ Ok y → behind got whole ≡ last
behind_so (Ok bytes) first whole y last each e = each bytes e
behind_so (Err why) first whole y last each e = absurd cc

called_so : {A B : Type 0} (files : Files) (first : Reading A) (next : A → Reading B) (y : A) → called files first ≡ Ok y → called files (first >>= next) ≡ called files (next y)
called_so files (Ends (Ok z)) next y e = let same : z ≡ y = cc in ap (λ w. called files (next w)) same
called_so files (Ends (Err why)) next y e = absurd cc
called_so files (Reads source go) next y e =
    behind_so (held files source) (λ bytes. called files (go bytes)) (λ bytes. called files (go bytes >>= next)) y (called files (next y)) (λ bytes got. called_so files (go bytes) next y got) e

file_so : (files : Files) (source : Source) (bytes : List ℕ) → held files source ≡ Ok bytes → called files (bytes_of source) ≡ Ok bytes
file_so files source bytes e = ap (λ (r : Result (List ℕ) Refusal). behind r (λ b. Ok b)) e

-- ---- the two files

-- a file that is not longer than the most is read whole
within_most : (name bytes : List ℕ) (most : ℕ) (got : Option (List ℕ)) → got ≡ Some bytes → length bytes ≤ most → within name most got ≡ Ok bytes
within_most name bytes most got e few = ap (within name most) e ∙ rw (le-leb (length bytes) most few) refl

library_held : (files : Files) (gds bytes : List ℕ) → files gds ≡ Some bytes → length bytes ≤ 200000 → held files (GdsFile gds) ≡ Ok bytes
library_held files gds bytes e few = within_most gds bytes (most_bytes (GdsFile gds)) (files gds) e (omega (arith, few))

abstract_held : (files : Files) (lef bytes : List ℕ) → files lef ≡ Some bytes → length bytes ≤ 200000 → held files (LefFile lef) ≡ Ok bytes
abstract_held files lef bytes e few = within_most lef bytes (most_bytes (LefFile lef)) (files lef) e (omega (arith, few))

shapes_so : (files : Files) (gds name bytes : List ℕ) (tech : Technology) (shapes : Shapes) → held files (GdsFile gds) ≡ Ok bytes → Decodes bytes name tech.lambda_nm shapes → called files (shapes_from gds name tech) ≡ Ok shapes
shapes_so files gds name bytes tech shapes e is =
    called_so files (bytes_of (GdsFile gds)) (shapes_in name tech) bytes (file_so files (GdsFile gds) bytes e) ∙ ap (as_refusal Gds) is

macro_so : (files : Files) (lef name bytes : List ℕ) (tech : Technology) (cell : Macro) → held files (LefFile lef) ≡ Ok bytes → macro_in bytes name (unit_nm tech) ≡ Ok cell → called files (macro_from lef name tech) ≡ Ok cell
macro_so files lef name bytes tech cell e is =
    called_so files (bytes_of (LefFile lef)) (macro_of name tech) bytes (file_so files (LefFile lef) bytes e) ∙ ap (as_refusal Lef) is

-- what is compared, as what a call works on
abbrev as_material : Compared → Reading Material
as_material both = Ends (Ok (Agreeing, both))

compared_so : (files : Files) (word : Option (List ℕ)) (gds lef name : List ℕ) (tech : Technology) (shapes : Shapes) (cell : Macro) → called files (technology_from word) ≡ Ok tech → called files (shapes_from gds name tech) ≡ Ok shapes → called files (macro_from lef name tech) ≡ Ok cell → called files (gathered (Some (Agree word gds lef name))) ≡ Ok (Agreeing, compared shapes cell)
compared_so files word gds lef name tech shapes cell one two three =
    called_so files (comparing word gds lef name) as_material (compared shapes cell)
    (called_so files (technology_from word) (comparing_over gds lef name) tech one
    ∙ (called_so files (shapes_from gds name tech) (comparing_with lef name tech) shapes two
    ∙ called_so files (macro_from lef name tech) (λ cell. Ends (Ok (compared shapes cell))) cell three))

-- ---- they agree

-- what a comparison needs of a drawn row
record IsComparable (style : Style) (inputs : Inputs) (row : List Column) (routing : Routing) (lines : List ℕ) : Type 0 where
  pub agrees : HasAbstract style inputs row routing lines
  pub small : HasSmallFiles style inputs row routing lines
  pub decodes : Decodes (library_of inputs (final_in style inputs row routing lines)) inputs.cell.name inputs.tech.lambda_nm (final_in style inputs row routing lines).shapes

comparable : (style : Style) (inputs : Inputs) (row : List Column) (routing : Routing) (lines : List ℕ) → IsDrawnAnyhow style inputs row routing lines → IsComparable style inputs row routing lines
comparable style inputs row routing lines (inl h) = record { agrees = h.agrees; small = h.small; decodes = h.decodes }
comparable style inputs row routing lines (inr (tracks, h)) = record { agrees = h.agrees; small = h.small; decodes = h.decodes }

of_made : (files : Files) (form : Option Form) → ComparesMade files form → OfCompared files form DoesAgree
of_made files form m =
    let shapes : Shapes = (final_in m.style m.inputs m.row m.routing m.lines).shapes in
    let drawn : IsComparable m.style m.inputs m.row m.routing m.lines = comparable m.style m.inputs m.row m.routing m.lines m.drawn in
    let agrees = abstract_made m.style m.inputs m.row m.routing m.lines drawn.agrees in
    let small = small_made m.style m.inputs m.row m.routing m.lines drawn.small in (
      compared shapes agrees.cell,
      subst (λ f. called files (gathered f) ≡ Ok (Agreeing, compared shapes agrees.cell)) (sym m.words)
          (compared_so files m.tech m.gds m.lef m.inputs.cell.name m.inputs.tech shapes agrees.cell m.technology
          (shapes_so files m.gds m.inputs.cell.name _ m.inputs.tech shapes (library_held files m.gds _ m.library small.library) drawn.decodes)
          (macro_so files m.lef m.inputs.cell.name _ m.inputs.tech agrees.cell (abstract_held files m.lef _ m.abstract small.abstract) agrees.read)),
      (agrees.netlist, agrees.agrees),
    )

pub agrees_made_told : (a c : View) (form : Option Form) (answer : Status) (given : Option Files) → IfSome given (λ files. IsCalm a c → Completes form files answer) → IfSome given (λ files. IsCalm a c → ComparesMade files form → IsOrShort status.Done answer)
agrees_made_told a c form answer None told = tt
agrees_made_told a c form answer (Some files) told = λ calm made. agrees_told a c form answer (Some files) told calm (of_made files form made)
