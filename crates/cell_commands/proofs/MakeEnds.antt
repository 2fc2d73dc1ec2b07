-- An end of a row, from its parts.
use Rattle.std.proofs.Common.{ℕ, ◌≡◌, List, [], ◌∷◌, ◌++◌, Result, IfOk, ap, ◌∙◌, map, string_bytes, subst}
use Rattle.std.proofs.lemmas.List.{append_assoc, map-append}
use Rattle.cell_num.specs.declared.list.NoMemory.{NoMemory}
use Rattle.call_end.specs.declared.end.End.{End}
use Rattle.call_end.specs.declared.end.Output.{Output}
use Rattle.call_end.specs.declared.status.Status.{Status}
use Rattle.call_end.specs.declared.status.Status.TheVariants as status
use Rattle.call_end.specs.End.{leaves, IsEnd, named}
use Rattle.cell_commands.specs.Evidence.{evidence_files}

pair_is : (a b c d : List ℕ) → a ≡ c → b ≡ d → ◌≡◌ {A = List ℕ × List ℕ} (a, b) (c, d)
pair_is a b c d p q = cc

pub file_is : (file : Output) (name bytes : List ℕ) → string_bytes file.name ≡ name → file.bytes ≡ bytes → named file ≡ (name, bytes)
file_is file name bytes p q = pair_is (string_bytes file.name) file.bytes name bytes p q

-- one file more
pub files_more : (files : List Output) (file : Output) → evidence_files (files ++ file ∷ []) ≡ evidence_files files ++ named file ∷ []
files_more files file = map-append named files (file ∷ [])

-- two files more
pub files_two : (files : List Output) (a b : Output) → evidence_files ((files ++ a ∷ []) ++ b ∷ []) ≡ evidence_files files ++ named a ∷ named b ∷ []
files_two files a b =
    files_more (files ++ a ∷ []) b
    ∙ (ap (λ (told : List (List ℕ × List ℕ)). told ++ named b ∷ []) (files_more files a)
    ∙ append_assoc (evidence_files files) (named a ∷ []) (named b ∷ []))

pub end_left : (answer : Status) (files : List Output) (report : List ℕ) (end : End) → end ≡ leaves answer files report → IsEnd answer (evidence_files files) report end
end_left answer files report end is = record {
  status = ap (λ (x : End). x.status) is;
  files = ap (λ (x : End). map named x.files) is;
  report = ap (λ (x : End). x.report) is;
}

pub drawn_left : (files all : List Output) (library summary : Output) (report : List ℕ) (end : End) → all ≡ (files ++ library ∷ []) ++ summary ∷ [] → end ≡ leaves status.Done all report → IsEnd status.Done (evidence_files files ++ named library ∷ named summary ∷ []) report end
drawn_left files all library summary report end more is =
    subst (λ (told : List (List ℕ × List ℕ)). IsEnd status.Done told report end) (ap evidence_files more ∙ files_two files library summary)
    (end_left status.Done all report end is)

-- with the files of the evidence in front
pub drawn_told : (files : List (List ℕ × List ℕ)) (library summary : Output) (a b : List ℕ × List ℕ) (report text : List ℕ) (r : Result End NoMemory) → named library ≡ a → named summary ≡ b → report ≡ text → IfOk r (IsEnd status.Done (files ++ named library ∷ named summary ∷ []) report) → IfOk r (IsEnd status.Done (files ++ a ∷ b ∷ []) text)
drawn_told files library summary a b report text r p q t ends =
    subst (λ (x : List ℕ). IfOk r (IsEnd status.Done (files ++ a ∷ b ∷ []) x)) t
    (subst (λ (x : List ℕ × List ℕ). IfOk r (IsEnd status.Done (files ++ a ∷ x ∷ []) report)) q
    (subst (λ (x : List ℕ × List ℕ). IfOk r (IsEnd status.Done (files ++ x ∷ named summary ∷ []) report)) p ends))
