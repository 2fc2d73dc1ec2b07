-- When bytes are the text of a document.
use Rattle.std.proofs.Common.{◌≡◌, ℕ, true, false, List, None, refl, cond}
use Rattle.std.specs.Str.{IsUtf8, is_utf8}
use Rattle.std.proofs.lemmas.Str.{IsUtf8-from_is_utf8, is_utf8-from_IsUtf8}
use Rattle.toml.specs.Parse.{parse_document}
use Rattle.tech_file.specs.Reading.{table_of}

pub table_of_text : (bytes : List ℕ) → IsUtf8 bytes → table_of bytes ≡ parse_document bytes
table_of_text bytes text = rw (is_utf8-from_IsUtf8 bytes text)

pub no_text : (bytes : List ℕ) → (IsUtf8 bytes → ⊥) → table_of bytes ≡ None
no_text bytes broken =
    elim (is_utf8 bytes) as (λ b. is_utf8 bytes ≡ b → cond b (parse_document bytes) None ≡ None) [
      | true ↦ λ e. absurd (broken (IsUtf8-from_is_utf8 bytes e))
      | false ↦ λ e. refl
    ] refl
