-- Whether an element has a second record of a type, a record at a time.
use Rattle.std.proofs.Common.{ℕ, suc, ◌≡◌, ◌+◌, Bool, true, false, List, [], ◌∷◌, Ok, Err, refl, sym, ap, ◌∙◌, inl, inr, arith}
use Rattle.std.specs.Prelude.{◌||◌, nat_lt, if◌then◌else◌}
use Rattle.std.proofs.lemmas.Bool.{cases_Bool, eq-eqb, ne_eqb, lt-ltb}
use Rattle.gds_record.specs.declared.record.GdsRec.{GdsRec}
use Rattle.gds_record.specs.declared.record.RecFault.{RecFault}
use Rattle.gds_record.specs.declared.types.RecordType.{RecordType}
use Rattle.gds_record.specs.declared.types.RecordType.TheVariants as record_type
use Rattle.gds_record.specs.Types.{number_of}
use Rattle.gds_record.specs.Records.{Item, record_at, items_from}
use Rattle.gds_record.proofs.Walks.{items_end, items_more}
use Rattle.gds_read.specs.Structure.{is_type}
use Rattle.gds_read.specs.References.{times, stands_twice}
use Rattle.gds_read.specs.Elements.{until}

-- one more, where one was seen, or two
abbrev pub again : Bool → RecordType → List Item → Bool
again seen kind [] = false
again seen kind (r ∷ rs) = if is_type kind r then seen || again true kind rs else again seen kind rs

abbrev pub again_from : List ℕ → Bool → RecordType → ℕ → Bool
again_from bytes seen kind at = again seen kind (until record_type.EndEl (items_from bytes at))

abbrev seen_once : Bool → ℕ
seen_once true = 1
seen_once false = 0

again_is : (seen : Bool) (kind : RecordType) (rs : List Item) → again seen kind rs ≡ nat_lt 1 (seen_once seen + times kind rs)
again_is true kind [] = refl
again_is false kind [] = refl
again_is true kind (r ∷ rs) = elim (cases_Bool (is_type kind r)) [
  | inl same ↦ rw same (sym (lt-ltb 1 (1 + suc (times kind rs)) (omega arith)))
  | inr other ↦ rw other (again_is true kind rs)
]
again_is false kind (r ∷ rs) = elim (cases_Bool (is_type kind r)) [
  | inl same ↦ rw same (again_is true kind rs ∙ ap (λ (n : ℕ). nat_lt 1 n) (let e : 1 + times kind rs ≡ 0 + suc (times kind rs) = omega arith in e))
  | inr other ↦ rw other (again_is false kind rs)
]

pub twice_told : (bytes : List ℕ) (kind : RecordType) (at : ℕ) → again_from bytes false kind at ≡ stands_twice kind (until record_type.EndEl (items_from bytes at))
twice_told bytes kind at = again_is false kind (until record_type.EndEl (items_from bytes at)) ∙ ap (λ (n : ℕ). nat_lt 1 n) (let e : 0 + times kind (until record_type.EndEl (items_from bytes at)) ≡ times kind (until record_type.EndEl (items_from bytes at)) = omega arith in e)

pub none_more : (bytes : List ℕ) (seen : Bool) (kind : RecordType) (at : ℕ) (f : RecFault) → record_at bytes at ≡ Err f → again_from bytes seen kind at ≡ false
none_more bytes seen kind at f e = ap (λ (t : List Item). again seen kind (until record_type.EndEl t)) (items_end bytes at f e)

pub none_before : (bytes : List ℕ) (seen : Bool) (kind : RecordType) (at : ℕ) (r : GdsRec) → record_at bytes at ≡ Ok r → r.code ≡ number_of record_type.EndEl → again_from bytes seen kind at ≡ false
none_before bytes seen kind at r e k = ap (λ (t : List Item). again seen kind (until record_type.EndEl t)) (items_more bytes at r e) ∙ (rw (eq-eqb r.code (number_of record_type.EndEl) k) refl)

pub one_more : (bytes : List ℕ) (seen : Bool) (kind : RecordType) (at : ℕ) (r : GdsRec) → record_at bytes at ≡ Ok r → (r.code ≡ number_of record_type.EndEl → ⊥) → r.code ≡ number_of kind → again_from bytes seen kind at ≡ (seen || again_from bytes true kind r.next)
one_more bytes seen kind at r e other k = ap (λ (t : List Item). again seen kind (until record_type.EndEl t)) (items_more bytes at r e) ∙ (rw (ne_eqb r.code (number_of record_type.EndEl) other, eq-eqb r.code (number_of kind) k) refl)

pub other_one : (bytes : List ℕ) (seen : Bool) (kind : RecordType) (at : ℕ) (r : GdsRec) → record_at bytes at ≡ Ok r → (r.code ≡ number_of record_type.EndEl → ⊥) → (r.code ≡ number_of kind → ⊥) → again_from bytes seen kind at ≡ again_from bytes seen kind r.next
other_one bytes seen kind at r e other differs = ap (λ (t : List Item). again seen kind (until record_type.EndEl t)) (items_more bytes at r e) ∙ (rw (ne_eqb r.code (number_of record_type.EndEl) other, ne_eqb r.code (number_of kind) differs) refl)

pub twice_here : (bytes : List ℕ) (kind : RecordType) (from at : ℕ) (r : GdsRec) (seen : Bool) → seen ≡ true → record_at bytes at ≡ Ok r → (r.code ≡ number_of record_type.EndEl → ⊥) → r.code ≡ number_of kind → again_from bytes seen kind at ≡ again_from bytes false kind from → true ≡ stands_twice kind (until record_type.EndEl (items_from bytes from))
twice_here bytes kind from at r seen told e other k so = sym (ap (λ (b : Bool). b || again_from bytes true kind r.next) told) ∙ (sym (one_more bytes seen kind at r e other k) ∙ (so ∙ twice_told bytes kind from))

pub seen_first : (bytes : List ℕ) (kind : RecordType) (from at : ℕ) (r : GdsRec) (seen : Bool) → seen ≡ false → record_at bytes at ≡ Ok r → (r.code ≡ number_of record_type.EndEl → ⊥) → r.code ≡ number_of kind → again_from bytes seen kind at ≡ again_from bytes false kind from → again_from bytes true kind r.next ≡ again_from bytes false kind from
seen_first bytes kind from at r seen told e other k so = sym (ap (λ (b : Bool). b || again_from bytes true kind r.next) told) ∙ (sym (one_more bytes seen kind at r e other k) ∙ so)

pub ruleset repeat_rules = (none_more, none_before, one_more, other_one, twice_told)
