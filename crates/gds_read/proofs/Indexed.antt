-- The index of a library, a record at a time.
use Rattle.std.specs.HashMap.{IsEmpty, get, get_by}
use Rattle.std.specs.Str.{bytes_eq}
use Rattle.std.specs.Prelude.{◌==◌, nat_eq, if◌then◌else◌}
use Rattle.std.proofs.Common.{ℕ, ◌≡◌, ◌≤◌, Bool, true, false, cond, Option, Some, None, option_map, List, [], ◌∷◌, Ok, Err, length, refl, sym, ap, subst, ◌∙◌, inl, inr}
use Rattle.std.proofs.lemmas.Bool.{cases_Bool, eq-eqb, ne_eqb, eqb-true}
use Rattle.std.proofs.lemmas.Slice.Eq.{bytes_eq-Decides}
use Rattle.gds_record.specs.declared.record.GdsRec.{GdsRec}
use Rattle.gds_record.specs.declared.record.RecFault.{RecFault}
use Rattle.gds_record.specs.declared.types.RecordType.TheVariants as record_type
use Rattle.gds_record.specs.Types.{number_of}
use Rattle.gds_record.specs.Records.{Item, item_of, record_at, items_from}
use Rattle.gds_read.specs.declared.structure.Lookup.{Lookup}
use Rattle.gds_read.specs.declared.structure.Lookup.TheVariants as lookup
use Rattle.gds_read.specs.declared.index.Index.{Index}
use Rattle.gds_read.specs.Structure.{is_named, trimmed, behind_name, found_in, Finds, IsWithin}
use Rattle.gds_read.specs.Index.{drawing_places, found_as, looked_up, listed_at, IsListOf, IsIndex, once_more, Met, IsIndexBefore, IsStructureAdded, IsNamed, IsListed}
use Rattle.gds_read.proofs.Tails.{none_here, not_here, here}

-- ---- no record yet

nothing_in : (index : Index) (name : List ℕ) → IsEmpty index.names → looked_up index name ≡ lookup.NoCell
nothing_in index name e = rw e refl

nothing_at : (index : Index) (place : ℕ) → IsEmpty index.drawing → listed_at index place ≡ None
nothing_at index place e = rw e refl

pub none_before : (bytes : List ℕ) (index : Index) → IsEmpty index.names → IsEmpty index.drawing → IsIndexBefore bytes index 0
none_before bytes index e d = record {
  met = λ name. subst (λ (f : Lookup). Met bytes f (found_in bytes name) (found_in bytes name)) (sym (nothing_in index name e)) refl;
  within = λ name. subst (λ (f : Lookup). IsWithin (length bytes) f) (sym (nothing_in index name e)) tt;
  lists = λ place. subst (λ (o : Option (List ℕ)). IsListOf bytes place o) (sym (nothing_at index place d)) tt;
}

-- ---- no record more

met_all : (bytes : List ℕ) (found : Lookup) (all : List (List Item)) → Met bytes found [] all → Finds bytes found all
met_all bytes lookup.NoCell all m = subst (λ (t : List (List Item)). Finds bytes lookup.NoCell t) m tt
met_all bytes (lookup.At place) all m = subst (λ (t : List (List Item)). Finds bytes (lookup.At place) t) m refl
met_all bytes lookup.Twice all m = m

pub all_met : (bytes : List ℕ) (index : Index) (at : ℕ) (f : RecFault) → record_at bytes at ≡ Err f → IsIndexBefore bytes index at → IsIndex bytes index
all_met bytes index at f e so = record {
  finds = λ name. met_all bytes (looked_up index name) (found_in bytes name) (subst (λ (t : List (List Item)). Met bytes (looked_up index name) t (found_in bytes name)) (none_here bytes name at f e) (so.met name));
  within = so.within;
  lists = so.lists;
}

-- ---- a record that is no name

unnamed : (bytes name : List ℕ) (r : GdsRec) → (r.code ≡ number_of record_type.StrName → ⊥) → is_named name (item_of bytes r) ≡ false
unnamed bytes name r other = rw (ne_eqb r.code (number_of record_type.StrName) other) refl

pub passed_by : (bytes : List ℕ) (index : Index) (at : ℕ) (r : GdsRec) → record_at bytes at ≡ Ok r → (r.code ≡ number_of record_type.StrName → ⊥) → IsIndexBefore bytes index at → IsIndexBefore bytes index r.next
passed_by bytes index at r e other so = record {
  met = λ name. subst (λ (t : List (List Item)). Met bytes (looked_up index name) t (found_in bytes name)) (not_here bytes name at r e (unnamed bytes name r other)) (so.met name);
  within = so.within;
  lists = so.lists;
}

-- ---- a name

met_once_more : (bytes : List ℕ) (found : Lookup) (place : ℕ) (rest all : List (List Item)) → Met bytes found (items_from bytes place ∷ rest) all → Met bytes (once_more found place) rest all
met_once_more bytes lookup.NoCell place rest all m = m
met_once_more bytes (lookup.At other) place rest all m = subst (λ (t : List (List Item)). Finds bytes lookup.Twice t) m tt
met_once_more bytes lookup.Twice place rest all m = m

within_once_more : (size : ℕ) (found : Lookup) (place : ℕ) → place ≤ size → IsWithin size (once_more found place)
within_once_more size lookup.NoCell place le = le
within_once_more size (lookup.At other) place le = tt
within_once_more size lookup.Twice place le = tt

named_as : (bytes name : List ℕ) (r : GdsRec) → r.code ≡ number_of record_type.StrName → is_named name (item_of bytes r) ≡ bytes_eq (trimmed (item_of bytes r).content) name
named_as bytes name r k = rw (eq-eqb r.code (number_of record_type.StrName) k) refl

same_name : (a b : List ℕ) → bytes_eq a b ≡ true → a ≡ b
same_name a b e = (bytes_eq-Decides a b).0 e

pub named_more : (bytes : List ℕ) (old new : Index) (at : ℕ) (r : GdsRec) (name : List ℕ) → record_at bytes at ≡ Ok r → r.next ≤ length bytes → r.code ≡ number_of record_type.StrName → name ≡ trimmed (item_of bytes r).content → IsStructureAdded bytes old new name r.next → IsIndexBefore bytes old at → IsIndexBefore bytes new r.next
named_more bytes old new at r name e le k is added so = record { met = met; within = within; lists = λ place. added.lists place (so.lists place) }
  where
    at_name : (other : List ℕ) → bytes_eq name other ≡ true → looked_up new other ≡ once_more (looked_up old other) r.next
    at_name other same = added.names other ∙ (rw same (ap (λ (t : List ℕ). once_more (looked_up old t) r.next) (same_name name other same)))

    elsewhere : (other : List ℕ) → bytes_eq name other ≡ false → looked_up new other ≡ looked_up old other
    elsewhere other differs = added.names other ∙ (rw differs refl)

    met : (other : List ℕ) → Met bytes (looked_up new other) (behind_name other (items_from bytes r.next)) (found_in bytes other)
    met other = elim (cases_Bool (bytes_eq name other)) [
      | inl same ↦ subst (λ (f : Lookup). Met bytes f (behind_name other (items_from bytes r.next)) (found_in bytes other)) (sym (at_name other same))
          (met_once_more bytes (looked_up old other) r.next (behind_name other (items_from bytes r.next)) (found_in bytes other)
          (subst (λ (t : List (List Item)). Met bytes (looked_up old other) t (found_in bytes other)) (here bytes other at r e (named_as bytes other r k ∙ (ap (λ (t : List ℕ). bytes_eq t other) (sym is) ∙ same))) (so.met other)))
      | inr differs ↦ subst (λ (f : Lookup). Met bytes f (behind_name other (items_from bytes r.next)) (found_in bytes other)) (sym (elsewhere other differs))
          (subst (λ (t : List (List Item)). Met bytes (looked_up old other) t (found_in bytes other)) (not_here bytes other at r e (named_as bytes other r k ∙ (ap (λ (t : List ℕ). bytes_eq t other) (sym is) ∙ differs))) (so.met other))
    ]

    within : (other : List ℕ) → IsWithin (length bytes) (looked_up new other)
    within other = elim (cases_Bool (bytes_eq name other)) [
      | inl same ↦ subst (λ (f : Lookup). IsWithin (length bytes) f) (sym (at_name other same)) (within_once_more (length bytes) (looked_up old other) r.next le)
      | inr differs ↦ subst (λ (f : Lookup). IsWithin (length bytes) f) (sym (elsewhere other differs)) (so.within other)
    ]

-- ---- the tables themselves

chosen : (b : Bool) (found : Lookup) (o : Option Lookup) → found_as (cond b (Some found) o) ≡ (if b then found else found_as o)
chosen true found o = refl
chosen false found o = refl

pub name_added : (old new : Index) (name : List ℕ) (place : ℕ) (seen found : Lookup) → seen ≡ looked_up old name → found ≡ once_more seen place → ((other : List ℕ) → get_by (λ k. bytes_eq other k.now) new.names ≡ cond (bytes_eq name other) (Some found) (get_by (λ k. bytes_eq other k.now) old.names)) → new.drawing ≡ old.drawing → IsNamed old new name place
name_added old new name place seen found saw is so same = record {
  names = λ other.
      ap found_as (so other)
      ∙ (chosen (bytes_eq name other) found (get_by (λ k. bytes_eq other k.now) old.names)
      ∙ ap (λ (f : Lookup). if bytes_eq name other then f else looked_up old other) (is ∙ ap (λ (l : Lookup). once_more l place) saw));
  lists = λ other. ap (λ m. option_map (λ places. places.items) (get nat_eq m other)) same;
}

pub structure_added : (bytes : List ℕ) (old mid new : Index) (name places : List ℕ) (place : ℕ) → IsNamed old mid name place → places ≡ drawing_places false (items_from bytes place) → IsListed mid new places place → IsStructureAdded bytes old new name place
structure_added bytes old mid new name places place named is listed = record {
  names = λ other. listed.names other ∙ named.names other;
  lists = λ other so. by other (place == other) refl so;
}
  where
    same : (other : ℕ) → (place == other) ≡ true → place ≡ other
    same other e = eqb-true place other e

    by : (other : ℕ) (b : Bool) → (place == other) ≡ b → IsListOf bytes other (listed_at old other) → IsListOf bytes other (listed_at new other)
    by other true e so =
        let there : listed_at new other ≡ Some places = listed.lists other ∙ (rw e refl) in
        subst (λ (o : Option (List ℕ)). IsListOf bytes other o) (sym there) (is ∙ ap (λ (n : ℕ). drawing_places false (items_from bytes n)) (same other e))
    by other false e so =
        let there : listed_at new other ≡ listed_at mid other = listed.lists other ∙ (rw e refl) in
        subst (λ (o : Option (List ℕ)). IsListOf bytes other o) (sym (there ∙ named.lists other)) so
