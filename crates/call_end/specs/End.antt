-- An end of a call, with files and without.
use Rattle.std.specs.Prelude.{ℕ, ◌≡◌, List, [], ◌++◌, map, string_bytes}
use Rattle.call_end.specs.declared.end.End.{End}
use Rattle.call_end.specs.declared.end.Output.{Output}
use Rattle.call_end.specs.declared.status.Status.{Status}
use Rattle.call_end.specs.Status.{first_line}

abbrev pub says : Status → List ℕ → End
says status report = record { status = status; files = []; report = report }

-- without files, and with this text after the first line of its report
abbrev pub reports : Status → List ℕ → End
reports status text = says status (first_line status ++ text)

abbrev pub leaves : Status → List Output → List ℕ → End
leaves status files report = record { status = status; files = files; report = report }

-- ---- an end by what it reports

-- a file by its name and bytes
abbrev pub named : Output → List ℕ × List ℕ
named file = (string_bytes file.name, file.bytes)

pub record IsEnd (answer : Status) (told : List (List ℕ × List ℕ)) (text : List ℕ) (end : End) : Type 0 where
  pub status : end.status ≡ answer
  pub files : map named end.files ≡ told
  pub report : end.report ≡ text
