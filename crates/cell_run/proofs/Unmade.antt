-- Calls that make no file.
use Rattle.std.proofs.Common.{◌≡◌, ◌⊎◌, ◌==◌, true, List, [], ◌∷◌, Option, inl, inr, refl, sym, ◌∙◌, subst}
use Rattle.cell_io.specs.Desk.{View, Both, Rose}
use Rattle.call_end.specs.declared.end.End.{End}
use Rattle.call_end.specs.declared.end.Output.{Output}
use Rattle.call_end.specs.declared.status.Status.{Status}
use Rattle.call_end.specs.declared.status.Status.TheVariants as status
use Rattle.call_end.specs.Deliver.{MakesAll}
use Rattle.call_end.specs.Status.{number_of}
use Rattle.call_end.proofs.Delivered.{none_made}
use Rattle.call_words.specs.Words.{Form}
use Rattle.call_work.specs.Ends.{is_among}
use Rattle.cell_run.specs.Headline.{MakesNone, fileless_statuses}
use Rattle.cell_run.proofs.Ends.{none_alone}
use Rattle.cell_run.proofs.Telling.{Answers, or_so}

no_made : (a c : View) (end : End) → end.files ≡ [] → Both (MakesAll end.files) a.made c.made → c.made ≡ a.made
no_made a c end none made = none_made a.made c.made (subst (λ (files : List Output). Both (MakesAll files) a.made c.made) none made)

fileless : (end : End) (answer : Status) → answer ≡ end.status → MakesNone answer → is_among (status.NoMemory ∷ fileless_statuses) end.status ≡ true
fileless end answer is none = or_so (number_of status.NoMemory == number_of end.status) (is_among fileless_statuses end.status) (subst MakesNone is none)

pub none_told : (a c : View) (form : Option Form) (answer : Status) → Answers a c form answer → MakesNone answer → c.made ≡ a.made
none_told a c form answer (end, (got, came, ends), inl (is, made, said, created)) none = no_made a c end (none_alone got end ends (fileless end answer is none)) made
none_told a c form answer (end, may, inr (inl (is, rose), some)) none =
    let clash : MakesNone status.WriteFault = subst MakesNone is none in
    cc
none_told a c form answer (end, may, inr (inr (is, rose), some)) none =
    let clash : MakesNone status.NoMemory = subst MakesNone is none in
    cc

pub unmade_told : (a c : View) (form : Option Form) (answer : Status) → Answers a c form answer → answer ≡ status.NoMemory → Rose a.shorts c.shorts ⊎ (c.made ≡ a.made)
unmade_told a c form answer (end, (got, came, ends), inl (is, made, said, created)) short = inr (no_made a c end (none_alone got end ends (rw (sym is ∙ short) refl)) made)
unmade_told a c form answer (end, may, inr (inl (is, rose), some)) short =
    let clash : status.NoMemory ≡ status.WriteFault = sym short ∙ is in
    cc
unmade_told a c form answer (end, may, inr (inr (is, rose), some)) short = inl rose
