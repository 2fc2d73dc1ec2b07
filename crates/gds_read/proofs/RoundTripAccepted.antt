-- The first pass accepts what is written, up to its end.
use Rattle.std.proofs.Common.{ℕ, ◌≡◌, List, [], ◌∷◌, length, Bool, true, false, Ok, refl, ap, ◌∙◌, arith}
use Rattle.std.specs.List.{All}
use Rattle.std.proofs.Math.Seq.{drop-length}
use Rattle.gds_record.specs.declared.record.RecFault.{RecFault}
use Rattle.gds_record.specs.declared.record.RecFault.TheVariants.{Cut}
use Rattle.gds_record.specs.Records.{Raw, Stream, placed, ends, spelling}
use Rattle.gds_record.proofs.Spelled.{ends_at}
use Rattle.gds_read.specs.declared.grammar.Place.TheVariants.{Start, Library, Structure}
use Rattle.gds_read.specs.Grammar.{pass, zeros_behind, first_pass_of}
use Rattle.gds_write.specs.declared.library.Struct.{Struct}
use Rattle.gds_write.specs.Written.{library_of, IsWritableStruct}
use Rattle.gds_write.proofs.Pieces.{point_length, corners_length}
use Rattle.gds_read.proofs.RoundTripNested.{structures_records, library_items, all_nested, library_records_are, IsKept, along_elements}

-- inside a structure the records are accepted, wherever they stand
abbrev IsAccepted : List ℕ → RecFault → List Raw → Type 0
IsAccepted bytes f rest = (at : ℕ) → pass bytes Structure (placed at rest) f ≡ zeros_behind bytes (ends at rest)

kept : (bytes : List ℕ) (f : RecFault) (unit : ℕ) → IsKept (IsAccepted bytes f) unit
unfolding pass
kept bytes f unit = record {
  rectangle = λ s more rest at. rw (corners_length unit s.rect) (rest _);
  reference = λ r more rest at. rw (point_length unit r.x r.y) (rest _);
  label = λ l more rest at. rw (point_length unit l.x l.y) (rest _);
}

structures_pass : (bytes : List ℕ) (f : RecFault) (unit : ℕ) (structs : List Struct) (before : Bool) (at : ℕ) → pass bytes (Library true true before) (placed at (structures_records unit structs)) f ≡ zeros_behind bytes (ends at (structures_records unit structs))
unfolding pass
structures_pass bytes f unit [] before at = refl
structures_pass bytes f unit (s ∷ ss) before at = along_elements (IsAccepted bytes f) unit (kept bytes f unit) s (structures_records unit ss) (λ next. structures_pass bytes f unit ss true _) _

library_passes : (bytes : List ℕ) (f : RecFault) (unit : ℕ) (structs : List Struct) → pass bytes Start (placed 0 (library_items unit structs)) f ≡ zeros_behind bytes (ends 0 (library_items unit structs))
unfolding pass
library_passes bytes f unit structs = structures_pass bytes f unit structs false _

zeros_end : (bytes : List ℕ) → zeros_behind bytes (length bytes) ≡ Ok (length bytes)
zeros_end bytes = rw (drop-length bytes) refl

pub written_passes : (structs : List Struct) (unit : ℕ) → All (IsWritableStruct unit) structs → first_pass_of (library_of structs unit) ≡ Ok (length (library_of structs unit))
written_passes structs unit is =
    let bytes : List ℕ = library_of structs unit in
    let rs : List Raw = library_items unit structs in
    let end : ends 0 rs ≡ length bytes = omega (arith, ends_at 0 rs, ap (λ (t : List Raw). length (spelling t)) (all_nested unit structs)) in
    ap (λ (s : Stream). pass bytes Start s.items s.fault) (library_records_are unit structs is)
    ∙ (library_passes bytes (Cut (length bytes)) unit structs ∙ (ap (λ (n : ℕ). zeros_behind bytes n) end ∙ zeros_end bytes))
