-- What `make` works on is what its words ask for.
use Rattle.std.proofs.Common.{ℕ, ◌≡◌, List, Option, Some, None, Result, Ok, IfSome, ap, sym, ◌∙◌, subst}
use Rattle.cell_io.specs.Desk.{Files}
use Rattle.cell_num.proofs.Lists.{some_same}
use Rattle.cell_inputs.specs.declared.style.Style.{Style}
use Rattle.cell_inputs.specs.Inputs.{Inputs}
use Rattle.call_words.specs.Asked.{CellAsked}
use Rattle.call_words.specs.Words.{Form, Make}
use Rattle.call_words.specs.declared.evidence.Evidence.{Evidence}
use Rattle.call_read.specs.declared.refusal.Refusal.{Refusal}
use Rattle.call_read.specs.InputFiles.{inputs_from}
use Rattle.call_read.specs.Reading.{Ends, called}
use Rattle.call_read.proofs.Asked.{asked_name, called_parts}
use Rattle.call_end.specs.declared.status.Status.{Status}
use Rattle.call_work.proofs.EachCommand.{is_make}
use Rattle.call_work.specs.Commands.{Material, Making, gathered, making}
use Rattle.call_work.specs.declared.material.MakeMaterial.{MakeMaterial}
use Rattle.cell_run.specs.Ended.{WhereEnds}
use Rattle.cell_run.specs.Headline.{IsAskedFor, IsMake, WhereMakeEnds}

-- the material of a drawing, where it is one
abbrev making_of : Result Material Refusal → Option MakeMaterial
making_of (Ok (Making, m)) = Some m
making_of _ = None

words_for : (files : Files) (asked : CellAsked) (name : List ℕ) (style : Style) (evidence : Evidence) (m : MakeMaterial) → called files (gathered (Some (Make asked name style evidence))) ≡ Ok (Making, m) → IsAskedFor (Some (Make asked name style evidence)) m.evidence m.style m.inputs m.stem
words_for files asked name style evidence m got =
    let read = called_parts files (inputs_from asked) (λ i. Ends (Ok (making evidence name style i))) (Making, m) got in
    let same : (making evidence name style read.0).1 ≡ m = some_same (making evidence name style read.0).1 m (ap making_of read.2) in
    record {
      asked = asked;
      words = ap (λ (x : MakeMaterial). Some (Make asked x.stem x.style x.evidence)) same;
      name = ap (λ (x : MakeMaterial). x.inputs.cell.name) (sym same) ∙ asked_name files asked read.0 read.1;
    }

asked_so : (files : Files) (form : Form) (m : MakeMaterial) → (asked : CellAsked) × (name : List ℕ) × (style : Style) × (evidence : Evidence) × (form ≡ Make asked name style evidence) → called files (gathered (Some form)) ≡ Ok (Making, m) → IsAskedFor (Some form) m.evidence m.style m.inputs m.stem
asked_so files form m (asked, name, style, evidence, is) got =
    subst (λ (f : Form). IsAskedFor (Some f) m.evidence m.style m.inputs m.stem) (sym is)
    (words_for files asked name style evidence m (subst (λ (f : Form). called files (gathered (Some f)) ≡ Ok (Making, m)) is got))

asked_for : (files : Files) (form : Option Form) (m : MakeMaterial) → IsMake form → called files (gathered form) ≡ Ok (Making, m) → IsAskedFor form m.evidence m.style m.inputs m.stem
asked_for files None m make got = absurd make
asked_for files (Some form) m make got = asked_so files form m (is_make form make) got

-- so it is besides of what the words ask for
pub asked_told : (form : Option Form) (answer settled : Status) (Says : Evidence → Style → Inputs → List ℕ → Type 0) (given : Option Files) → IfSome given (λ files. WhereEnds Making files form answer settled (λ m. Says m.evidence m.style m.inputs m.stem)) → IfSome given (λ files. WhereMakeEnds files form answer settled Says)
asked_told form answer settled Says None told = tt
asked_told form answer settled Says (Some files) told = λ make is.
    let (m, comes, says) = told make is in
    (m, comes, (asked_for files form m make comes, says))
