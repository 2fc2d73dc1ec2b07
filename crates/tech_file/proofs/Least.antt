-- In a table whose keys ascend, the first key that is not known is the least one.
use Rattle.std.proofs.Common.{◌≡◌, ℕ, Bool, true, false, not, cond, List, [], ◌∷◌, Option, Some, None, option_map, String, Global, Less, Bor, string_bytes, nat_cmp, refl, ap, sym, ◌∙◌, inl, inr}
use Rattle.std.proofs.lemmas.Bool.{cases_Bool}
use Rattle.std.specs.Cmp.Lexicographic.{slice_cmp}
use Rattle.std.specs.BTreeMap.{BTreeMap, keys, IsOrdered}
use Rattle.std.specs.List.{AllByRecursion, find}
use Rattle.std.specs.List.Sorted.{IsStrictlySortedBy}
use Rattle.std.specs.Map.{keys_of}
use Rattle.std.specs.Option.{IfSome}
use Rattle.std.specs.Ordering.{is_lt}
use Rattle.std.specs.String.{string_cmp}
use Rattle.toml.specs.declared.value.Value.{Value}
use Rattle.toml.specs.View.{members_view, table_view}
use Rattle.toml.proofs.Views.{Entry}
use Rattle.tech_file.specs.Reading.{is_known, lesser, least_unknown}

abbrev pub is_unknown : String Global → Bool
is_unknown key = not (is_known (string_bytes key))

-- a key is below the other, where that is there
abbrev IsBelow : List ℕ → Option (List ℕ) → Type 0
IsBelow key other = IfSome other (λ o. slice_cmp nat_cmp key o ≡ Less)

below_lesser : (key a : List ℕ) (other : Option (List ℕ)) → slice_cmp nat_cmp key a ≡ Less → IsBelow key other → slice_cmp nat_cmp key (lesser a other) ≡ Less
below_lesser key a None h more = h
below_lesser key a (Some o) h more =
    elim (is_lt (slice_cmp nat_cmp a o)) as (λ b. slice_cmp nat_cmp key (cond b a o) ≡ Less) [ true ↦ h | false ↦ more ]

lesser_is : (key : List ℕ) (other : Option (List ℕ)) → IsBelow key other → lesser key other ≡ key
lesser_is key None h = refl
lesser_is key (Some o) h = rw h

-- a key below all keys is below the least of those that are not known
below_least : (key : String Global) (es : List Entry) → AllByRecursion (λ k. string_cmp key k ≡ Less) (keys_of es) → IsBelow (string_bytes key) (least_unknown (members_view es))
below_least key [] h = tt
below_least key (e ∷ es) h =
    elim (cases_Bool (is_known (string_bytes e.0))) [
      | inl known ↦ rw known (below_least key es h.1)
      | inr unknown ↦ rw unknown (below_lesser (string_bytes key) (string_bytes e.0) (least_unknown (members_view es)) h.0 (below_least key es h.1))
    ]

least_is_first : (es : List Entry) → IsStrictlySortedBy string_cmp (keys_of es) → least_unknown (members_view es) ≡ option_map string_bytes (find is_unknown (keys_of es))
unfolding IsStrictlySortedBy
least_is_first [] h = refl
least_is_first (e ∷ es) h =
    elim (cases_Bool (is_known (string_bytes e.0))) [
      | inl known ↦ rw known (least_is_first es h.1)
      | inr unknown ↦ rw unknown (ap (λ key. Some key) (lesser_is (string_bytes e.0) (least_unknown (members_view es)) (below_least e.0 es h.0)))
    ]

bytes_of : (found : Option (Bor (String Global))) → option_map string_bytes (option_map (λ (key : Bor (String Global)). key.now) found) ≡ option_map (λ key. string_bytes key.now) found
bytes_of None = refl
bytes_of (Some key) = refl

-- what the first key is, for a caller that found it or found none
pub first_is_least : (found : Option (Bor (String Global))) (table : BTreeMap (String Global) Value) → option_map (λ key. key.now) found ≡ find is_unknown (keys table) → IsOrdered string_cmp table
    → least_unknown (table_view table) ≡ option_map (λ key. string_bytes key.now) found
first_is_least found table is ordered = least_is_first table.entries ordered ∙ ap (option_map string_bytes) (sym is) ∙ bytes_of found
