-- The inputs that are read for a cell have its name, in lower case.
use Rattle.std.proofs.Common.{ℕ, ◌≡◌, List, Result, Ok, Err, refl, sym, ap, ◌∙◌, subst}
use Rattle.cell_io.specs.Desk.{Files}
use Rattle.cell_num.specs.Names.{lowered}
use Rattle.cell_num.proofs.Steps.{granted_step}
use Rattle.tech_file.specs.Technology.{Technology}
use Rattle.spice_net.specs.declared.subckt.Subckt.{Subckt}
use Rattle.spice_net.specs.Chosen.{chosen_in, lines_in, without_comments}
use Rattle.spice_net.specs.Subcircuit.{pins_of, subcircuit, subckt_in, subckt_of, with_rails}
use Rattle.spice_net.specs.Transistors.{transistors_of}
use Rattle.spice_net.proofs.Sound.{accepted}
use Rattle.finger_fold.specs.Folding.{folded}
use Rattle.cell_inputs.specs.Inputs.{Inputs, inputs_of}
use Rattle.call_words.specs.Asked.{CellAsked}
use Rattle.call_read.specs.declared.refusal.Refusal.{Refusal}
use Rattle.call_read.specs.declared.refusal.Refusal.TheVariants.{Spice, Fold}
use Rattle.call_read.specs.InputFiles.{inputs_from, inputs_over, technology_from}
use Rattle.call_read.specs.Inputs.{inputs_in}
use Rattle.call_read.specs.Reading.{Reading, Ends, Reads, bytes_of, ◌>>=◌, behind, called}
use Rattle.call_read.specs.Refusals.{as_refusal}
use Rattle.call_read.specs.Sources.{SpiceFile, held}

-- ---- one reading behind another, over files that are told

behind_parts : {A B : Type 0} (got : Result (List ℕ) Refusal) (part : List ℕ → Result A Refusal) (whole : List ℕ → Result B Refusal) (x : B) (P : A → Type 0) → ((bytes : List ℕ) → whole bytes ≡ Ok x → (y : A) × (part bytes ≡ Ok y) × P y) → behind got whole ≡ Ok x → (y : A) × (behind got part ≡ Ok y) × P y
behind_parts (Ok bytes) part whole x P each e = each bytes e
behind_parts (Err why) part whole x P each e = absurd cc

pub called_parts : {A B : Type 0} (files : Files) (first : Reading A) (next : A → Reading B) (x : B) → called files (first >>= next) ≡ Ok x → (y : A) × (called files first ≡ Ok y) × (called files (next y) ≡ Ok x)
called_parts files (Ends (Ok y)) next x e = (y, refl, e)
called_parts files (Ends (Err why)) next x e = absurd cc
called_parts files (Reads source go) next x e =
    behind_parts (held files source) (λ bytes. called files (go bytes)) (λ bytes. called files (go bytes >>= next)) x (λ y. called files (next y) ≡ Ok x) (λ bytes got. called_parts files (go bytes) next x got) e

-- ---- the name

accepted_so : {A F : Type 0} (refusal : F → Refusal) (r : Result A F) (x : A) → as_refusal refusal r ≡ Ok x → r ≡ Ok x
accepted_so refusal (Ok y) x e = let same : y ≡ x = cc in ap (λ z. Ok z) same
accepted_so refusal (Err f) x e = absurd cc

cell_name : (bytes name : List ℕ) (tech : Technology) (cell : Subckt) → subcircuit bytes name tech ≡ Ok cell → cell.name ≡ name
cell_name bytes name tech cell e =
    let lines = granted_step (lines_in bytes) (subckt_in name tech) cell e in
    let chosen = granted_step (chosen_in name lines.0) _ cell lines.2 in
    let listed = granted_step (pins_of chosen.0.head) _ cell chosen.2 in
    let inside = granted_step (transistors_of tech (without_comments chosen.0.inside)) (λ ts. subckt_of name tech chosen.0.inside (with_rails tech lines.0 listed.0) ts) cell listed.2 in
    subst (λ (c : Subckt). c.name ≡ name) (accepted name tech chosen.0.inside (with_rails tech lines.0 listed.0) inside.0 cell inside.2).1 refl

inputs_name : (bytes name : List ℕ) (tech : Technology) (inputs : Inputs) → inputs_in bytes name tech ≡ Ok inputs → inputs.cell.name ≡ name
inputs_name bytes name tech inputs e =
    let cell = granted_step (as_refusal Spice (subcircuit bytes name tech)) _ inputs e in
    let fingers = granted_step (as_refusal Fold (folded tech cell.0)) _ inputs cell.2 in
    let same : inputs_of tech cell.0 fingers.0 ≡ inputs = made (inputs_of tech cell.0 fingers.0) inputs fingers.2 in
    ap (λ (i : Inputs). i.cell.name) (sym same) ∙ cell_name bytes name tech cell.0 (accepted_so Spice (subcircuit bytes name tech) cell.0 cell.1)
  where
    made : (a b : Inputs) → ◌≡◌ {A = Result Inputs Refusal} (Ok a) (Ok b) → a ≡ b
    made a b e = cc

pub asked_name : (files : Files) (asked : CellAsked) (inputs : Inputs) → called files (inputs_from asked) ≡ Ok inputs → inputs.cell.name ≡ lowered asked.cell
asked_name files asked inputs e =
    let tech = called_parts files (technology_from asked.tech) (inputs_over asked) inputs e in
    let file = called_parts files (bytes_of (SpiceFile asked.spice)) (λ bytes. Ends (inputs_in bytes (lowered asked.cell) tech.0)) inputs tech.2 in
    inputs_name file.0 (lowered asked.cell) tech.0 inputs file.2
