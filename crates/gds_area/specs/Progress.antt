-- Shapes and references that are taken one after the other, up to a limit.
use Rattle.std.specs.Prelude.{ℕ, ◌≡◌, ◌+◌, nat_lt, List, [], ◌∷◌, ◌++◌, length}
use Rattle.std.specs.Prelude.{Option, Some, None, Result, Ok, Err, if◌then◌else◌}
use Rattle.box_geom.specs.declared.shape.Shape.{Shape}
use Rattle.box_geom.specs.declared.shape.Shapes.{Shapes}
use Rattle.gds_area.specs.declared.fault.GdsFault.{GdsFault}
use Rattle.gds_area.specs.declared.fault.GdsFault.TheVariants as fault
use Rattle.gds_area.specs.declared.progress.Progress.{Progress}
use Rattle.gds_area.specs.declared.progress.Origin.{Origin}
use Rattle.gds_area.specs.Moves.{stays}
use Rattle.cell_num.specs.Steps.{◌>>=◌}

abbrev pub nothing_drawn : Shapes
nothing_drawn = record { rects = []; labels = [] }

-- shapes without a reference
abbrev pub plain : Shapes → Progress
plain shapes = record { shapes = shapes; refs = 0 }

abbrev pub no_progress : Progress
no_progress = plain nothing_drawn

abbrev pub rectangles : List Shape → Progress
rectangles rects = plain (record { rects = rects; labels = [] })

abbrev pub one_reference : Progress
one_reference = record { shapes = nothing_drawn; refs = 1 }

abbrev pub joined : Shapes → Shapes → Shapes
joined a b = record { rects = a.rects ++ b.rects; labels = a.labels ++ b.labels }

abbrev pub both : Progress → Progress → Progress
both a b = record { shapes = joined a.shapes b.shapes; refs = a.refs + b.refs }

-- how many rectangles and references there are
abbrev pub amount : Progress → ℕ
amount t = length t.shapes.rects + t.refs

-- No more than 1,000,000 rectangles and references are taken; the first number is of those before.
abbrev pub within_limit : ℕ → ℕ → Progress → Result Progress GdsFault
within_limit at count one = if nat_lt 1000000 (count + amount one) then Err (fault.Wide at) else Ok one

-- what is taken of one after the other, or the first fault; the number is of what was taken before
unfoldable pub in_order : {A : Type 0} → (ℕ → A → Result Progress GdsFault) → ℕ → List A → Result Progress GdsFault
in_order step count [] = Ok no_progress
in_order step count (x ∷ xs) =
    step count x >>= λ one.
    in_order step (count + amount one) xs >>= λ rest.
    Ok (both one rest)

-- Memory may run out anywhere; else what is taken is what is read, or the fault is.
abbrev pub Adds : Result (Unit {0}) GdsFault → Progress → Progress → Result Progress GdsFault → Type 0
Adds (Ok _) old new (Ok one) = new ≡ both old one
Adds (Ok _) old new (Err e) = ⊥
Adds (Err fault.NoMemory) old new read = Unit {0}
Adds (Err f) old new read = read ≡ Err f

-- ---- how an element is placed

-- How an element is placed, and the place that its faults name: nothing is moved in
-- the structure itself, and what is inside a reference is moved with it and has the outermost one's place.
abbrev pub origin_of : Option Origin → ℕ → Origin
origin_of None at = record { stands = stays; outer = at }
origin_of (Some origin) at = origin
