-- The first record of a type, a record at a time.
use Rattle.std.proofs.Common.{ℕ, ◌≡◌, List, Option, Some, None, Ok, Err, refl, ap, ◌∙◌}
use Rattle.std.specs.Prelude.{find}
use Rattle.std.proofs.lemmas.Bool.{eq-eqb, ne_eqb}
use Rattle.gds_record.specs.declared.record.GdsRec.{GdsRec}
use Rattle.gds_record.specs.declared.record.RecFault.{RecFault}
use Rattle.gds_record.specs.declared.types.RecordType.{RecordType}
use Rattle.gds_record.specs.Types.{number_of}
use Rattle.gds_record.specs.Records.{Item, item_of, record_at, items_from}
use Rattle.gds_record.proofs.Walks.{items_end, items_more}
use Rattle.gds_read.specs.Structure.{is_type}
use Rattle.gds_read.specs.Elements.{until}

abbrev pub found_from : List ℕ → RecordType → RecordType → ℕ → Option Item
found_from bytes end kind at = find (is_type kind) (until end (items_from bytes at))

pub none_left : (bytes : List ℕ) (end kind : RecordType) (at : ℕ) (f : RecFault) → record_at bytes at ≡ Err f → found_from bytes end kind at ≡ None
none_left bytes end kind at f e = ap (λ (t : List Item). find (is_type kind) (until end t)) (items_end bytes at f e)

pub none_before : (bytes : List ℕ) (end kind : RecordType) (at : ℕ) (r : GdsRec) → record_at bytes at ≡ Ok r → r.code ≡ number_of end → found_from bytes end kind at ≡ None
none_before bytes end kind at r e k = ap (λ (t : List Item). find (is_type kind) (until end t)) (items_more bytes at r e) ∙ (rw (eq-eqb r.code (number_of end) k) refl)

pub this_one : (bytes : List ℕ) (end kind : RecordType) (at : ℕ) (r : GdsRec) → record_at bytes at ≡ Ok r → (r.code ≡ number_of end → ⊥) → r.code ≡ number_of kind → found_from bytes end kind at ≡ Some (item_of bytes r)
this_one bytes end kind at r e other k = ap (λ (t : List Item). find (is_type kind) (until end t)) (items_more bytes at r e) ∙ (rw (ne_eqb r.code (number_of end) other, eq-eqb r.code (number_of kind) k) refl)

pub later : (bytes : List ℕ) (end kind : RecordType) (at : ℕ) (r : GdsRec) → record_at bytes at ≡ Ok r → (r.code ≡ number_of end → ⊥) → (r.code ≡ number_of kind → ⊥) → found_from bytes end kind at ≡ found_from bytes end kind r.next
later bytes end kind at r e other differs = ap (λ (t : List Item). find (is_type kind) (until end t)) (items_more bytes at r e) ∙ (rw (ne_eqb r.code (number_of end) other, ne_eqb r.code (number_of kind) differs) refl)

pub ruleset field_rules = (none_left, none_before, this_one, later)
