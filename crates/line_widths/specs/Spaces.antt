-- The spaces between neighbouring lines of a routed row.
use Rattle.std.specs.Prelude.{ℕ, ◌≡◌, ◌+◌, ◌*◌, ◌⊎◌, List, Some, length, slice_get, Contains}
use Rattle.cell_num.specs.declared.net.Pins.{Pins}
use Rattle.row_place.specs.declared.placement.Placement.{Placement}
use Rattle.row_place.specs.declared.placement.UnitKind.TheVariants.{Column}
use Rattle.row_compact.specs.Measures.{LINE_SPACE, CONTACT_SPACE, STRETCH_SPACE}
use Rattle.row_compact.specs.Allowed.{Stretch, HasContact}

-- A track is handed over: a stretch on it ends at the line, and another one begins at the next line.
pub record IsHandedOver (stretches : List Stretch) (line : ℕ) : Type 0 where
  pub before : Stretch
  pub behind : Stretch
  pub ends : Contains stretches before
  pub begins : Contains stretches behind
  pub track : before.track ≡ behind.track
  pub end : before.right ≡ line
  pub begin : behind.left ≡ line + 1

-- The line and the next one are the gate line of a column and a node line of it, where some place is contacted.
pub record IsBesideContact (placement : Placement) (pins : Pins) (line : ℕ) : Type 0 where
  pub unit : ℕ
  pub column : slice_get placement.units unit ≡ Some Column
  pub contact :
      ((line ≡ 2 * unit) × HasContact placement pins (2 * unit))
      ⊎ ((line ≡ 2 * unit + 1) × HasContact placement pins (2 * unit + 2))

-- The space from a line to the next one: 14 where a track is handed over, or else 11 beside a contact, or else 8.
abbrev pub IsSpace : Placement → Pins → List Stretch → ℕ → ℕ → Type 0
IsSpace placement pins stretches line space =
    (IsHandedOver stretches line × (space ≡ STRETCH_SPACE))
    ⊎ ((IsHandedOver stretches line → ⊥)
    × ((IsBesideContact placement pins line × (space ≡ CONTACT_SPACE))
    ⊎ ((IsBesideContact placement pins line → ⊥) × (space ≡ LINE_SPACE))))

-- the spaces between the lines of a row, from left to right
pub record AreSpaces (placement : Placement) (pins : Pins) (stretches : List Stretch) (spaces : List ℕ) : Type 0 where
  pub count : length spaces ≡ 2 * length placement.units
  pub each : (line space : ℕ) → slice_get spaces line ≡ Some space → IsSpace placement pins stretches line space
