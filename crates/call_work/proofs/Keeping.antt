-- Steps after which a material is kept.
use Rattle.std.proofs.Common.{ℕ, ◌≡◌, ◌≤◌, List, length, Some, Result, Ok, Err, IfErr, ap, inl, inr, refl, sym, subst}
use Rattle.cell_io.specs.Desk.{OnlyReads, View}
use Rattle.cell_commands.specs.declared.checked_log.CheckedLog.{CheckedLog}
use Rattle.call_work.specs.declared.commands.Material.{Material as Own}
use Rattle.call_work.specs.declared.commands.Material.TheVariants.{Bench as OfNumber, Read}
use Rattle.call_work.specs.declared.commands.ReadMaterial.TheVariants as held
use Rattle.call_work.specs.declared.material.CheckMaterial.{CheckMaterial as Checked}
use Rattle.call_work.specs.declared.material.EvidenceFile.{EvidenceFile}
use Rattle.call_read.specs.declared.refusal.Refusal.{Refusal}
use Rattle.call_read.specs.declared.refusal.Refusal.TheVariants.{NoMemory}
use Rattle.call_work.specs.Commands.{IsKept, checking, gathered, making, making_from, making_low, rowing_of, Benching, Material}
use Rattle.call_work.specs.Evidence.{IsReadAs, evidence_file}
use Rattle.cell_make.specs.RowInputs.{RowInputs}
use Rattle.cell_inputs.specs.declared.style.Style.{Style}
use Rattle.cell_inputs.specs.Inputs.{Inputs}
use Rattle.call_work.specs.Kept.{AreKept, HoldsFile, HoldsLog, MayKeep, ReadsBoth, both_from}
use Rattle.cell_commands.specs.LogRead.{AreBegun, AreBehind}
use Rattle.call_read.specs.InputFiles.{inputs_from}
use Rattle.call_read.specs.Read.{IsRead}
use Rattle.call_read.specs.Reading.{Reading, Ends, ◌>>=◌, MayCome, bytes_of}
use Rattle.call_read.specs.Sources.{Source, LogFile, most_bytes}
use Rattle.call_words.specs.Asked.{CellAsked}
use Rattle.call_words.specs.Words.{Bench}
use Rattle.call_words.specs.declared.evidence.Evidence.{Evidence}
use Rattle.call_read.proofs.Desks.{IsHanded, came_bytes, only_refl, refused, taken}
use Rattle.cell_commands.proofs.LogReads.{behind_all}

handed_on : (e : Refusal) (own : Result Own Refusal) → IsHanded own e → AreKept (Err e) own
handed_on e (Ok x) (is, told) = absurd told
handed_on e (Err told) (is, same) = same

-- a step that was refused
pub keeps_refusal : {A : Type 0} (a b c : View) (first : Reading A) (next : A → Reading Material) (r : Result A Refusal) (e : Refusal) (own : Result Own Refusal) → OnlyReads b c → MayCome a b first r → r ≡ Err e → IsHanded own e → MayKeep a c (first >>= next) own
keeps_refusal a b c first next r e own two came is told = (Err e, refused a b c first next r e (Err e) two came is (refl, refl), handed_on e own told)

-- after a step that was taken
pub keeps_behind : {A : Type 0} (a b c : View) (first : Reading A) (next : A → Reading Material) (r : Result A Refusal) (x : A) (own : Result Own Refusal) → OnlyReads a b → OnlyReads b c → MayCome a b first r → r ≡ Ok x → MayKeep b c (next x) own → MayKeep a c (first >>= next) own
keeps_behind a b c first next r x own one two came is (got, rest, kept) = (got, taken a b c first next r x got one two came is rest, kept)

-- a refusal that is handed on
pub keeps_handed : (old new : View) (reading : Reading Material) (e : Refusal) (own : Result Own Refusal) → IsHanded own e → MayKeep old new reading (Err e) → MayKeep old new reading own
keeps_handed old new reading e (Ok x) (is, told) kept = absurd told
keeps_handed old new reading e (Err told) (is, same) kept = subst (λ (x : Refusal). MayKeep old new reading (Err x)) (sym same) kept

-- ---- the inputs of a cell, and then a file

abbrev then_file : Source → (Inputs → List ℕ → Material) → Inputs → Reading Material
then_file source material inputs = bytes_of source >>= λ bytes. Ends (Ok (material inputs bytes))

-- inputs that were not read
pub keeps_uninput : (a b : View) (asked : CellAsked) (source : Source) (material : Inputs → List ℕ → Material) (r : Result Inputs Refusal) (e : Refusal) (own : Result Own Refusal) → MayCome a b (inputs_from asked) r → r ≡ Err e → IsHanded own e → MayKeep a b (both_from asked source material) own
keeps_uninput a b asked source material r e own came is told =
    keeps_refusal a b b (inputs_from asked) (then_file source material) r e own (only_refl b) came is told

-- a file that was not read
pub keeps_unread : (a b c : View) (asked : CellAsked) (source : Source) (material : Inputs → List ℕ → Material) (r : Result Inputs Refusal) (inputs : Inputs) (e : Refusal) (own : Result Own Refusal) → OnlyReads a b → OnlyReads b c → MayCome a b (inputs_from asked) r → r ≡ Ok inputs → IsRead b c source (Err e) → IsHanded own e → MayKeep a c (both_from asked source material) own
keeps_unread a b c asked source material r inputs e own one two came is read told =
    keeps_behind a b c (inputs_from asked) (then_file source material) r inputs own one two came is
    (keeps_refusal b c c (bytes_of source) (λ (bytes : List ℕ). Ends (Ok (material inputs bytes))) (Err e) e own
    (only_refl c)
    (came_bytes b c source (Err e) read)
    refl
    told)

-- a file whose bytes are kept with the inputs
pub keeps_both : (a b c : View) (asked : CellAsked) (source : Source) (material : Inputs → List ℕ → Material) (r : Result Inputs Refusal) (inputs : Inputs) (bytes : List ℕ) (own : Own) → OnlyReads a b → OnlyReads b c → MayCome a b (inputs_from asked) r → r ≡ Ok inputs → IsRead b c source (Ok bytes) → IsKept (material inputs bytes) own → MayKeep a c (both_from asked source material) (Ok own)
keeps_both a b c asked source material r inputs bytes own one two came is read kept =
    keeps_behind a b c (inputs_from asked) (then_file source material) r inputs (Ok own) one two came is
    (keeps_behind b c c (bytes_of source) (λ (x : List ℕ). Ends (Ok (material inputs x))) (Ok bytes) bytes (Ok own)
    two
    (only_refl c)
    (came_bytes b c source (Ok bytes) read)
    refl
    (Ok (material inputs bytes), inl refl, kept))

-- ---- the same, the file as evidence

pub reads_both : (a b c : View) (asked : CellAsked) (evidence : Evidence) (file : List ℕ) (r : Result Inputs Refusal) (inputs : Inputs) (kept : EvidenceFile) → OnlyReads a b → OnlyReads b c → MayCome a b (inputs_from asked) r → r ≡ Ok inputs → HoldsFile b c evidence file inputs kept → ReadsBoth a c asked evidence file (Ok (record { inputs = inputs; file = kept }))
reads_both a b c asked evidence file r inputs kept one two came is (bytes, read, read_as) = λ material own each.
    keeps_both a b c asked (evidence_file evidence file) material r inputs bytes own one two came is read (each bytes read_as)

pub refuses_both : (old new : View) (asked : CellAsked) (evidence : Evidence) (file : List ℕ) (e : Refusal) (own : Result Checked Refusal) → IsHanded own e → ((material : Inputs → List ℕ → Material) → MayKeep old new (both_from asked (evidence_file evidence file) material) (Err e)) → ReadsBoth old new asked evidence file own
refuses_both old new asked evidence file e (Ok x) (is, told) each = absurd told
refuses_both old new asked evidence file e (Err told) (is, same) each = subst (λ (x : Refusal). ReadsBoth old new asked evidence file (Err x)) (sym same) each

pub kept_checking : (evidence : Evidence) (inputs : Inputs) (kept : EvidenceFile) (bytes : List ℕ) → IsReadAs evidence inputs bytes kept → IsKept (checking evidence inputs bytes) (Read (held.Checking (record { inputs = inputs; file = kept })))
kept_checking evidence inputs kept bytes read_as = (evidence, bytes, refl, read_as)

pub kept_making : (evidence : Evidence) (out stem : List ℕ) (style : Style) (inputs : Inputs) (kept : EvidenceFile) → stem ≡ out → (bytes : List ℕ) → IsReadAs evidence inputs bytes kept → IsKept (making_from evidence out style inputs bytes) (Read (held.MakingFrom (record { inputs = inputs; file = kept; stem = stem; style = style })))
kept_making evidence out stem style inputs kept is bytes read_as = (evidence, bytes, ap (λ (o : List ℕ). making_from evidence o style inputs bytes) (sym is), read_as)

pub holds_log : (old new : View) (log : List ℕ) (inputs : Inputs) (before after : CheckedLog) → AreBegun inputs before.reader before.checker → (bytes : List ℕ) × AreBehind before.reader before.checker bytes after.reader after.checker × (length bytes ≤ most_bytes (LogFile log)) × IsRead old new (LogFile log) (Ok bytes) → HoldsLog old new log inputs after
holds_log old new log inputs before after begun (bytes, behind, few, read) = (bytes, read, behind_all inputs bytes before.reader after.reader before.checker after.checker begun behind)

-- what holds of a refusal holds where it is handed on
pub holds_handed : {A : Type 0} (Holds : Refusal → Type 0) (own : Result A Refusal) (e : Refusal) → IsHanded own e → Holds e → IfErr own Holds
holds_handed Holds (Ok x) e told holds = tt
holds_handed Holds (Err told) e (is, same) holds = subst Holds (sym same) holds

-- a bench reads no file
pub keeps_bench : (old new : View) (number : ℕ) → MayKeep old new (gathered (Some (Bench number))) (Ok (OfNumber number))
keeps_bench old new number = (Ok (Benching, number), inl refl, refl)

-- memory ran out
pub keeps_short : (old new : View) (reading : Reading Material) (own : Result Own Refusal) → IsHanded own NoMemory → MayKeep old new reading own
keeps_short old new reading own told = (Err NoMemory, inr refl, handed_on NoMemory own told)

-- ---- words that are kept

pub kept_cell : (evidence : Evidence) (inputs : Inputs) (out stem : List ℕ) (style : Style) → stem ≡ out → IsKept (making evidence out style inputs) (Read (held.Making (record { inputs = inputs; stem = stem; style = style; evidence = evidence })))
kept_cell evidence inputs out stem style is = rw is refl

pub kept_low : (evidence : Evidence) (inputs : Inputs) (out stem : List ℕ) (style : Style) → stem ≡ out → IsKept (making_low evidence out style inputs) (Read (held.MakingLow (record { inputs = inputs; stem = stem; style = style; evidence = evidence })))
kept_low evidence inputs out stem style is = rw is refl

pub kept_row : (inputs : RowInputs) (out stem : List ℕ) → stem ≡ out → IsKept (rowing_of out inputs) (Read (held.Rowing (record { inputs = inputs; stem = stem })))
kept_row inputs out stem is = rw is refl
