-- Each structure of what is written is found by its name.
use Rattle.std.proofs.Common.{ℕ, suc, ◌≡◌, ◌+◌, List, [], ◌∷◌, length, true, false, Some, refl, sym, subst, ap, arith, inl, inr}
use Rattle.std.specs.List.{All, AllPairs, Contains}
use Rattle.std.specs.Str.{bytes_eq}
use Rattle.std.proofs.lemmas.Bool.{cases_Bool}
use Rattle.std.proofs.lemmas.List.Elements.{All-contains, All-head, All-tail, All-weaker}
use Rattle.std.proofs.lemmas.Slice.Eq.{bytes_eq-Decides}
use Rattle.cell_num.proofs.Lists.{contains_none, contains_cons}
use Rattle.gds_record.specs.Records.{Raw, Item, placed}
use Rattle.gds_read.specs.Structure.{behind_name}
use Rattle.gds_write.specs.declared.library.Struct.{Struct}
use Rattle.gds_write.specs.Written.{padded}
use Rattle.gds_read.specs.RoundTrip.{HasNoZeroEnd, structure_named}
use Rattle.gds_read.proofs.RoundTripNested.{structures_records, elements_records, library_items, IsKept, along_elements}
use Rattle.gds_read.proofs.RoundTripPadded.{padded_back}

pub same_bytes : (bytes : List ℕ) → bytes_eq bytes bytes ≡ true
same_bytes bytes = (bytes_eq-Decides bytes bytes).1 refl

pub other_bytes : (xs ys : List ℕ) → (xs ≡ ys → ⊥) → bytes_eq xs ys ≡ false
other_bytes xs ys other =
    elim (cases_Bool (bytes_eq xs ys)) [
      | inl same ↦ absurd (other ((bytes_eq-Decides xs ys).0 same))
      | inr e ↦ e
    ]

-- ---- names that no structure has

abbrev HasNone : List ℕ → List Raw → Type 0
HasNone name rest = (at : ℕ) → behind_name name (placed at rest) ≡ []

none_kept : (name : List ℕ) (unit : ℕ) → IsKept (HasNone name) unit
none_kept name unit = record {
  rectangle = λ s more rest at. rest _;
  reference = λ r more rest at. rest _;
  label = λ l more rest at. rest _;
}

none_named : (name : List ℕ) (unit : ℕ) (structs : List Struct) → All (λ (s : Struct). HasNoZeroEnd s.name) structs → All (λ (s : Struct). s.name ≡ name → ⊥) structs → (at : ℕ) → behind_name name (placed at (structures_records unit structs)) ≡ []
none_named name unit [] whole other at = refl
none_named name unit (s ∷ ss) whole other at =
    let end : HasNoZeroEnd s.name = All-head (λ (s : Struct). HasNoZeroEnd s.name) s ss whole in
    let differs : s.name ≡ name → ⊥ = All-head (λ (s : Struct). s.name ≡ name → ⊥) s ss other in
    let rest : HasNone name (structures_records unit ss) = none_named name unit ss (All-tail (λ (s : Struct). HasNoZeroEnd s.name) s ss whole) (All-tail (λ (s : Struct). s.name ≡ name → ⊥) s ss other) in
    rw (padded_back s.name end, other_bytes s.name name differs) (along_elements (HasNone name) unit (none_kept name unit) s (structures_records unit ss) (λ next. rest _) _)

-- ---- the one structure of a name

-- the records behind its name, wherever it stands
pub record IsFound (unit : ℕ) (s : Struct) (found : List (List Item)) : Type 0 where
  pub at : ℕ
  pub rest : List Raw
  pub is : found ≡ placed at (elements_records unit s rest) ∷ []

abbrev Finds : ℕ → Struct → List Raw → Type 0
Finds unit s rest = (at : ℕ) → IsFound unit s (behind_name s.name (placed at rest))

finds_kept : (unit : ℕ) (s : Struct) → IsKept (Finds unit s) unit
finds_kept unit s = record {
  rectangle = λ x more rest at. rest _;
  reference = λ x more rest at. rest _;
  label = λ x more rest at. rest _;
}

tail_pairs : (s : Struct) (ss : List Struct) → AllPairs (λ (s t : Struct). s.name ≡ t.name → ⊥) (s ∷ ss) → AllPairs (λ (s t : Struct). s.name ≡ t.name → ⊥) ss
tail_pairs s ss pairs = λ i j d less within. pairs (suc i) (suc j) d (omega (arith, less)) (omega (arith, within))

head_pairs : (s : Struct) (ss : List Struct) → AllPairs (λ (s t : Struct). s.name ≡ t.name → ⊥) (s ∷ ss) → All (λ (t : Struct). s.name ≡ t.name → ⊥) ss
head_pairs s ss pairs = λ j d within. pairs 0 (suc j) d (omega arith) (omega (arith, within))

first_found : (unit : ℕ) (s : Struct) (ss : List Struct) (at : ℕ) → HasNoZeroEnd s.name → HasNone s.name (structures_records unit ss) → IsFound unit s (behind_name s.name (placed at (structures_records unit (s ∷ ss))))
first_found unit s ss at end none =
    let behind : behind_name s.name (placed (at + 28 + (length (padded s.name) + 4)) (elements_records unit s (structures_records unit ss))) ≡ [] = along_elements (HasNone s.name) unit (none_kept s.name unit) s (structures_records unit ss) (λ next. none _) _ in
    record { at = at + 28 + (length (padded s.name) + 4); rest = structures_records unit ss; is = rw (padded_back s.name end, same_bytes s.name) (ap (λ (t : List (List Item)). placed (at + 28 + (length (padded s.name) + 4)) (elements_records unit s (structures_records unit ss)) ∷ t) behind) }

pub found : (unit : ℕ) (structs : List Struct) (s : Struct) → All (λ (s : Struct). HasNoZeroEnd s.name) structs → AllPairs (λ (s t : Struct). s.name ≡ t.name → ⊥) structs → Contains structs s → (at : ℕ) → IsFound unit s (behind_name s.name (placed at (structures_records unit structs)))
found unit [] s whole pairs there at = absurd (contains_none s there)
found unit (t ∷ ts) s whole pairs there at =
    let end : HasNoZeroEnd t.name = All-head (λ (s : Struct). HasNoZeroEnd s.name) t ts whole in
    let more : All (λ (s : Struct). HasNoZeroEnd s.name) ts = All-tail (λ (s : Struct). HasNoZeroEnd s.name) t ts whole in
    let apart : All (λ (u : Struct). t.name ≡ u.name → ⊥) ts = head_pairs t ts pairs in
    elim (contains_cons t ts s there) [
      | inl same ↦ subst (λ (x : Struct). IsFound unit x (behind_name x.name (placed at (structures_records unit (t ∷ ts))))) same (first_found unit t ts at end (none_named t.name unit ts more (All-weaker (λ (u : Struct). t.name ≡ u.name → ⊥) (λ (u : Struct). u.name ≡ t.name → ⊥) (λ u other e. other (sym e)) ts apart)))
      | inr later ↦
          let differs : t.name ≡ s.name → ⊥ = All-contains (λ (u : Struct). t.name ≡ u.name → ⊥) ts s apart later in
          rw (padded_back t.name end, other_bytes t.name s.name differs) (along_elements (Finds unit s) unit (finds_kept unit s) t (structures_records unit ts) (λ next. found unit ts s more (tail_pairs t ts pairs) later _) _)
    ]

pub found_in_library : (unit : ℕ) (structs : List Struct) (s : Struct) → All (λ (s : Struct). HasNoZeroEnd s.name) structs → AllPairs (λ (s t : Struct). s.name ≡ t.name → ⊥) structs → Contains structs s → IsFound unit s (behind_name s.name (placed 0 (library_items unit structs)))
found_in_library unit structs s whole pairs there = found unit structs s whole pairs there _

-- the first structure of its name is itself
pub named_is : (structs : List Struct) (s : Struct) → AllPairs (λ (s t : Struct). s.name ≡ t.name → ⊥) structs → Contains structs s → structure_named structs s.name ≡ Some s
named_is [] s pairs there = absurd (contains_none s there)
named_is (t ∷ ts) s pairs there =
    elim (contains_cons t ts s there) [
      | inl same ↦ subst (λ (x : Struct). structure_named (t ∷ ts) x.name ≡ Some x) same (rw (same_bytes t.name) refl)
      | inr later ↦
          let differs : t.name ≡ s.name → ⊥ = All-contains (λ (u : Struct). t.name ≡ u.name → ⊥) ts s (head_pairs t ts pairs) later in
          rw (other_bytes t.name s.name differs) (named_is ts s (tail_pairs t ts pairs) later)
    ]
