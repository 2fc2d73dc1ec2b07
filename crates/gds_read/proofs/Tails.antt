-- What stands behind the structures' names, a record at a time.
use Rattle.std.proofs.Common.{ℕ, ◌≡◌, true, false, List, [], ◌∷◌, Ok, Err, refl, sym, ap, subst, ◌∙◌}
use Rattle.gds_record.specs.declared.record.GdsRec.{GdsRec}
use Rattle.gds_record.specs.declared.record.RecFault.{RecFault}
use Rattle.gds_record.specs.Records.{Item, item_of, record_at, items_from}
use Rattle.gds_record.proofs.Walks.{items_end, items_more}
use Rattle.gds_read.specs.declared.structure.Lookup.{Lookup}
use Rattle.gds_read.specs.declared.structure.Lookup.TheVariants as lookup
use Rattle.gds_read.specs.Structure.{is_named, behind_name, found_in, Finds, SoFar}

so_ends : (bytes : List ℕ) (found : Lookup) (all : List (List Item)) → SoFar bytes found [] all → Finds bytes found all
so_ends bytes lookup.NoCell all s = rw (← s) tt
so_ends bytes lookup.Twice all s = absurd s
so_ends bytes (lookup.At place) all s = rw (← s) refl

two : (bytes : List ℕ) (found : Lookup) (one : List Item) (rest all : List (List Item)) → (found ≡ lookup.NoCell → ⊥) → SoFar bytes found (one ∷ rest) all → Finds bytes lookup.Twice all
two bytes lookup.NoCell one rest all other s = absurd (other refl)
two bytes lookup.Twice one rest all other s = absurd s
two bytes (lookup.At place) one rest all other s = subst (λ (t : List (List Item)). Finds bytes lookup.Twice t) s tt

pub none_here : (bytes name : List ℕ) (at : ℕ) (f : RecFault) → record_at bytes at ≡ Err f → behind_name name (items_from bytes at) ≡ []
none_here bytes name at f e = ap (λ (t : List Item). behind_name name t) (items_end bytes at f e)

pub not_here : (bytes name : List ℕ) (at : ℕ) (r : GdsRec) → record_at bytes at ≡ Ok r → is_named name (item_of bytes r) ≡ false → behind_name name (items_from bytes at) ≡ behind_name name (items_from bytes r.next)
not_here bytes name at r e other = ap (λ (t : List Item). behind_name name t) (items_more bytes at r e) ∙ (rw other refl)

pub here : (bytes name : List ℕ) (at : ℕ) (r : GdsRec) → record_at bytes at ≡ Ok r → is_named name (item_of bytes r) ≡ true → behind_name name (items_from bytes at) ≡ items_from bytes r.next ∷ behind_name name (items_from bytes r.next)
here bytes name at r e same = ap (λ (t : List Item). behind_name name t) (items_more bytes at r e) ∙ (rw same refl)

pub ends : (bytes name : List ℕ) (at : ℕ) (found : Lookup) (f : RecFault) → record_at bytes at ≡ Err f → SoFar bytes found (behind_name name (items_from bytes at)) (found_in bytes name) → Finds bytes found (found_in bytes name)
ends bytes name at found f e s = so_ends bytes found (found_in bytes name) (subst (λ (t : List (List Item)). SoFar bytes found t (found_in bytes name)) (none_here bytes name at f e) s)

pub passes : (bytes name : List ℕ) (at : ℕ) (found : Lookup) (r : GdsRec) → record_at bytes at ≡ Ok r → is_named name (item_of bytes r) ≡ false → SoFar bytes found (behind_name name (items_from bytes at)) (found_in bytes name) → SoFar bytes found (behind_name name (items_from bytes r.next)) (found_in bytes name)
passes bytes name at found r e other s = subst (λ (t : List (List Item)). SoFar bytes found t (found_in bytes name)) (not_here bytes name at r e other) s

pub finds : (bytes name : List ℕ) (at : ℕ) (r : GdsRec) → record_at bytes at ≡ Ok r → is_named name (item_of bytes r) ≡ true → SoFar bytes lookup.NoCell (behind_name name (items_from bytes at)) (found_in bytes name) → SoFar bytes (lookup.At r.next) (behind_name name (items_from bytes r.next)) (found_in bytes name)
finds bytes name at r e same s = sym (here bytes name at r e same) ∙ s

pub again : (bytes name : List ℕ) (at : ℕ) (found : Lookup) (r : GdsRec) → record_at bytes at ≡ Ok r → is_named name (item_of bytes r) ≡ true → (found ≡ lookup.NoCell → ⊥) → SoFar bytes found (behind_name name (items_from bytes at)) (found_in bytes name) → Finds bytes lookup.Twice (found_in bytes name)
again bytes name at found r e same other s = two bytes found (items_from bytes r.next) (behind_name name (items_from bytes r.next)) (found_in bytes name) other (subst (λ (t : List (List Item)). SoFar bytes found t (found_in bytes name)) (here bytes name at r e same) s)

pub ruleset tail_rules = (ends, passes, finds, again)
