-- The kind of a finger is found, and a place is as its side.
use Rattle.std.proofs.Common.{ℕ, ◌≡◌, ◌<◌, ◌≤◌, true, false, List, Option, Some, None, nat_lt, get_or, inl, inr, refl, sym, ap, arith, length, slice_get, ◌∙◌}
use Rattle.std.specs.List.{position, position_or_len}
use Rattle.std.specs.Option.{option_map}
use Rattle.std.proofs.lemmas.Bool.{cases_Bool, ltb-false}
use Rattle.std.proofs.lemmas.List.Quantifiers.{position-Some}
use Rattle.std.proofs.lemmas.List.Sums.{fails_before_first}
use Rattle.std.proofs.lemmas.Option.{none-some, slice_get-get_or, slice_get_within}
use Rattle.cell_num.specs.declared.finger.Finger.{Finger}
use Rattle.cell_num.specs.declared.finger.Row.{Row}
use Rattle.row_model.specs.declared.column.Placed.{Placed}
use Rattle.row_model.specs.Tests.{same_finger}
use Rattle.row_model.proofs.Decide.{finger_decides}
use Rattle.row_state.specs.declared.kind.Kind.{Kind}
use Rattle.row_state.specs.Completion.{finger_of}
use Rattle.row_state.specs.Steps.{oriented_of}
use Rattle.cell_commands.specs.Sides.{HasKind, IsNumberOf, IsSideOf}

-- a finger of one of the kinds is found
past_all : (row : Row) (kinds : List Kind) (finger : Finger) → length kinds ≤ position_or_len (λ kind. same_finger (finger_of row kind) finger) kinds → HasKind row kinds finger → ⊥
past_all row kinds finger past (at, kind, within, is, same) =
    let fails : same_finger (finger_of row (get_or kinds at kind)) finger ≡ false = fails_before_first (λ kind. same_finger (finger_of row kind) finger) kinds at kind (omega (arith, past, within)) in
    let passes : same_finger (finger_of row (get_or kinds at kind)) finger ≡ true = (finger_decides (finger_of row (get_or kinds at kind)) finger).1 (ap (finger_of row) is ∙ same) in
    cc

pub is_found : (row : Row) (kinds : List Kind) (finger : Finger) → HasKind row kinds finger → position (λ kind. same_finger (finger_of row kind) finger) kinds ≡ None → ⊥
is_found row kinds finger has none = elim (cases_Bool (nat_lt (position_or_len (λ kind. same_finger (finger_of row kind) finger) kinds) (length kinds))) [
  | inl found ↦ let there : position (λ kind. same_finger (finger_of row kind) finger) kinds ≡ Some (position_or_len (λ kind. same_finger (finger_of row kind) finger) kinds) = rw found refl in absurd (none-some _ (sym none ∙ there))
  | inr past ↦ past_all row kinds finger (ltb-false _ _ past) has
]

blank : Kind
blank = record { gate = record { 0 = 0 }; lo = record { 0 = 0 }; hi = record { 0 = 0 }; width = 0; count = 0 }

pub is_number : (row : Row) (kinds : List Kind) (finger : Finger) (at : ℕ) → position (λ kind. same_finger (finger_of row kind) finger) kinds ≡ Some at → (at < length kinds) × IsNumberOf row kinds finger at
is_number row kinds finger at is =
    let found : (at < length kinds) × (same_finger (finger_of row (get_or kinds at blank)) finger ≡ true) × ((i : ℕ) → i < at → same_finger (finger_of row (get_or kinds i blank)) finger ≡ false) = position-Some (λ kind. same_finger (finger_of row kind) finger) kinds at blank is in
    let same : finger_of row (get_or kinds at blank) ≡ finger = (finger_decides (finger_of row (get_or kinds at blank)) finger).0 found.1 in
    (found.0, ap (option_map (finger_of row)) (slice_get-get_or kinds at blank found.0) ∙ ap (λ f. Some f) same)

-- a place of that kind
placed_by : (row : Row) (o : Option Kind) (x : Placed) → option_map (finger_of row) o ≡ Some x.finger → option_map (λ (kind : Kind). oriented_of row kind x.flipped) o ≡ Some x
placed_by row None x is = absurd (none-some _ is)
placed_by row (Some kind) x is = ap (option_map (λ (f : Finger). let y : Placed = record { finger = f; flipped = x.flipped } in y)) is

within : (row : Row) (kinds : List Kind) (finger : Finger) (at : ℕ) (o : Option Kind) → slice_get kinds at ≡ o → IsNumberOf row kinds finger at → at < length kinds
within row kinds finger at None is number =
    let none : None ≡ Some finger = ap (option_map (finger_of row)) (sym is) ∙ number in
    absurd (none-some finger none)
within row kinds finger at (Some kind) is number = slice_get_within kinds at kind is

pub filled_side : (row : Row) (kinds : List Kind) (x : Placed) (at : ℕ) → IsNumberOf row kinds x.finger at → IsSideOf row kinds (Some x) (Some (record { kind = at; flipped = x.flipped }))
filled_side row kinds x at number = record {
  placed = placed_by row (slice_get kinds at) x number;
  fits = within row kinds x.finger at (slice_get kinds at) refl number;
}

pub empty_side : (row : Row) (kinds : List Kind) → IsSideOf row kinds None None
empty_side row kinds = record { placed = refl; fits = tt }
