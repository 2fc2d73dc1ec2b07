-- How many tries were made, track by track of the first wire that is left.
use Rattle.std.proofs.Common.{ℕ, ◌≡◌, ◌<◌, ◌+◌, ◌++◌, cond, true, false, List, [], ◌∷◌, refl, subst, arith}
use Rattle.cell_num.specs.Fingers.{sum_below}
use Rattle.cell_num.proofs.Sums.{sum_below_more, sum_below_le}
use Rattle.channel_route.specs.declared.constraint.Constraint.{Constraint}
use Rattle.channel_route.specs.declared.wire.Wire.{Wire}
use Rattle.channel_route.specs.declared.wire.PlacedWire.{PlacedWire}
use Rattle.first_route.specs.Tries.{tries}
use Rattle.first_route.specs.Ways.{on_track, fits, is_open}

-- the tries with the first wire on one track
abbrev pub tries_on : List Constraint → ℕ → List PlacedWire → Wire → List Wire → ℕ → ℕ
tries_on cs tracks placed w left track =
    cond (fits cs placed (on_track w track)) (1 + tries cs tracks (placed ++ on_track w track ∷ []) left) 0

-- those with it below a track
abbrev pub tries_below : List Constraint → ℕ → List PlacedWire → Wire → List Wire → ℕ → ℕ
tries_below cs tracks placed w left track = sum_below (tries_on cs tracks placed w left) track

-- what is left of a budget then
abbrev pub AreTried : List Constraint → ℕ → List PlacedWire → Wire → List Wire → ℕ → ℕ → ℕ → Type 0
AreTried cs tracks placed w left track before now = before ≡ now + tries_below cs tracks placed w left track

pub tried_skip : (cs : List Constraint) (tracks : ℕ) (placed : List PlacedWire) (w : Wire) (left : List Wire) (track before now : ℕ) → AreTried cs tracks placed w left track before now → fits cs placed (on_track w track) ≡ false → AreTried cs tracks placed w left (track + 1) before now
tried_skip cs tracks placed w left track before now h full =
    let none : tries_on cs tracks placed w left track ≡ 0 = rw full refl in
    omega (arith, h, none, sum_below_more (tries_on cs tracks placed w left) track)

on_fit : (cs : List Constraint) (tracks : ℕ) (placed : List PlacedWire) (w : Wire) (left : List Wire) (track : ℕ) → fits cs placed (on_track w track) ≡ true → tries_on cs tracks placed w left track ≡ 1 + tries cs tracks (placed ++ on_track w track ∷ []) left
on_fit cs tracks placed w left track fit = rw fit refl

pub tried_fail : (cs : List Constraint) (tracks : ℕ) (placed : List PlacedWire) (w : Wire) (left : List Wire) (track before now put new : ℕ) → AreTried cs tracks placed w left track before now → fits cs placed (on_track w track) ≡ true → now ≡ put + 1 → put ≡ new + tries cs tracks (placed ++ on_track w track ∷ []) left → AreTried cs tracks placed w left (track + 1) before new
tried_fail cs tracks placed w left track before now put new h fit one rest =
    omega (arith, h, one, rest, on_fit cs tracks placed w left track fit, sum_below_more (tries_on cs tracks placed w left) track)

open_tries : (cs : List Constraint) (tracks : ℕ) (placed : List PlacedWire) (w : Wire) (left : List Wire) → is_open cs tracks placed (w ∷ left) ≡ true → tries cs tracks placed (w ∷ left) ≡ tries_below cs tracks placed w left tracks
open_tries cs tracks placed w left open' = rw open' refl

pub tried_all : (cs : List Constraint) (tracks : ℕ) (placed : List PlacedWire) (w : Wire) (left : List Wire) (track before now : ℕ) → is_open cs tracks placed (w ∷ left) ≡ true → track ≡ tracks → AreTried cs tracks placed w left track before now → before ≡ now + tries cs tracks placed (w ∷ left)
tried_all cs tracks placed w left track before now open' end h =
    let all : AreTried cs tracks placed w left tracks before now = subst (λ (n : ℕ). AreTried cs tracks placed w left n before now) end h in
    omega (arith, all, open_tries cs tracks placed w left open')

pub closed_tries : (cs : List Constraint) (tracks : ℕ) (placed : List PlacedWire) (left : List Wire) → is_open cs tracks placed left ≡ false → tries cs tracks placed left ≡ 0
closed_tries cs tracks placed [] closed = refl
closed_tries cs tracks placed (w ∷ left) closed = rw closed refl

-- the budget is spent before the track
pub spent_put : (cs : List Constraint) (tracks : ℕ) (placed : List PlacedWire) (w : Wire) (left : List Wire) (track before now : ℕ) → is_open cs tracks placed (w ∷ left) ≡ true → AreTried cs tracks placed w left track before now → fits cs placed (on_track w track) ≡ true → track < tracks → now ≡ 0 → before < tries cs tracks placed (w ∷ left)
spent_put cs tracks placed w left track before now open' h fit less none =
    omega (arith, h, none, open_tries cs tracks placed w left open', on_fit cs tracks placed w left track fit, sum_below_le (tries_on cs tracks placed w left) tracks track less)

-- or by the others after it
pub spent_rest : (cs : List Constraint) (tracks : ℕ) (placed : List PlacedWire) (w : Wire) (left : List Wire) (track before now put : ℕ) → is_open cs tracks placed (w ∷ left) ≡ true → AreTried cs tracks placed w left track before now → fits cs placed (on_track w track) ≡ true → track < tracks → now ≡ put + 1 → put < tries cs tracks (placed ++ on_track w track ∷ []) left → before < tries cs tracks placed (w ∷ left)
spent_rest cs tracks placed w left track before now put open' h fit less one rest =
    omega (arith, h, one, rest, open_tries cs tracks placed w left open', on_fit cs tracks placed w left track fit, sum_below_le (tries_on cs tracks placed w left) tracks track less)
