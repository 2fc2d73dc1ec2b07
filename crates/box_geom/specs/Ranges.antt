-- Ranges of numbers: which numbers they hold, and what ranges in order join to.
use Rattle.std.specs.Prelude.{ℤ, ◌≤ℤ◌, ◌<ℤ◌, List, [], ◌∷◌, Bool, if◌then◌else◌, int_le, ◌⊎◌}
use Rattle.std.specs.Int.{int_max}
use Rattle.box_geom.specs.declared.ranges.XRange.{XRange}

pub record IsInRange (r : XRange) (x : ℤ) : Type 0 where
  pub from : r.x1 ≤ℤ x
  pub to : x <ℤ r.x2

-- some range holds the number
abbrev pub Hit : List XRange → ℤ → Type 0
Hit [] x = ⊥
Hit (r ∷ rs) x = IsInRange r x ⊎ Hit rs x

-- ranges that are not empty, ordered by their beginnings, none of them before low
abbrev pub Rising : ℤ → List XRange → Type 0
Rising low [] = Unit {0}
Rising low (r ∷ rs) = (low ≤ℤ r.x1) × ((r.x1 <ℤ r.x2) × Rising r.x1 rs)

-- ranges that are not empty, ascending, with room between them, all above low
abbrev pub Apart : ℤ → List XRange → Type 0
Apart low [] = Unit {0}
Apart low (r ∷ rs) = (low <ℤ r.x1) × ((r.x1 <ℤ r.x2) × Apart r.x2 rs)

-- ranges that are not empty, ascending, with room between them
abbrev pub Spread : List XRange → Type 0
Spread [] = Unit {0}
Spread (r ∷ rs) = (r.x1 <ℤ r.x2) × Apart r.x2 rs

abbrev pub meets : XRange → XRange → Bool
meets c r = int_le r.x1 c.x2

abbrev pub wider : XRange → XRange → XRange
wider c r = record { x1 = c.x1; x2 = int_max c.x2 r.x2 }

-- what a range and ranges that begin behind it join to
abbrev pub join : XRange → List XRange → List XRange
join c [] = c ∷ []
join c (r ∷ rs) = if meets c r then join (wider c r) rs else c ∷ join r rs

abbrev pub all_joined : List XRange → List XRange
all_joined [] = []
all_joined (r ∷ rs) = join r rs
