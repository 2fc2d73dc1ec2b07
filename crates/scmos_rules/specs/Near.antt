-- The rectangles of a set with their places in the list, and which of them lie near one.
use Rattle.std.specs.Prelude.{ℕ, ℤ, ◌+◌, ◌-ℤ◌, ◌++◌, List, [], ◌∷◌, Bool, if◌then◌else◌}
use Rattle.std.specs.Prelude.{◌||◌, ◌&&◌, int_lt, nat_lt, unsigned_abs, ◌<◌}
use Rattle.std.specs.List.{flat_map}
use Rattle.box_geom.specs.Rectangle.{Rectangle}
use Rattle.box_geom.specs.Regions.{IsBlock}
use Rattle.scmos_rules.specs.declared.parts.NumberedBlock.{NumberedBlock}

-- a span begins less than d behind the end of another, or before it
unfoldable pub closer : ℕ → ℤ → ℤ → Bool
closer d end begin = int_lt begin end || nat_lt (unsigned_abs (begin -ℤ end)) d

-- the gap from a up to b is below d, or b begins before the end of a
abbrev pub close_upward : ℕ → Rectangle → Rectangle → Bool
close_upward d a b = closer d a.y2 b.y1

-- the gap in x is below d
abbrev pub close_across : ℕ → Rectangle → Rectangle → Bool
close_across d a b = closer d a.x2 b.x1 && closer d b.x2 a.x1

-- the rectangles with their numbers, the first of them k
abbrev pub numbered : ℕ → List Rectangle → List NumberedBlock
numbered k [] = []
numbered k (r ∷ rs) = record { number = k; block = r } ∷ numbered (k + 1) rs

abbrev pub some_close : ℕ → NumberedBlock → NumberedBlock → List NumberedBlock
some_close d a b = if close_across d a.block b.block then b ∷ [] else []

-- the parts behind a with gaps below d to it, up to the first with a gap upward that is not
abbrev pub near_from : ℕ → NumberedBlock → List NumberedBlock → List NumberedBlock
near_from d a [] = []
near_from d a (b ∷ bs) = if close_upward d a.block b.block then some_close d a b ++ near_from d a bs else []

-- what a function gives for each part and those near behind it
abbrev pub near_over : {X : Type 0} → ℕ → (NumberedBlock → NumberedBlock → List X) → List NumberedBlock → List X
near_over d f [] = []
near_over d f (a ∷ rest) = flat_map (f a) (near_from d a rest) ++ near_over d f rest

-- a rectangle of a region, with a number below n
pub record IsNumberedBlock (n : ℕ) (p : NumberedBlock) : Type 0 where
  pub number : p.number < n
  pub block : IsBlock p.block
