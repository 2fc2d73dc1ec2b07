-- The tracks of the first wire that is left, tried from the lowest one on.
use Rattle.std.proofs.Common.{ℕ, ◌≡◌, ◌<◌, ◌≤◌, ◌+◌, ◌++◌, true, false, List, [], ◌∷◌, length, inl, inr, refl, sym, subst, append-nil, append_assoc, arith, ◌∙◌}
use Rattle.std.proofs.lemmas.Bool.{cases_eq, cases_order}
use Rattle.channel_route.specs.declared.constraint.Constraint.{Constraint}
use Rattle.channel_route.specs.declared.wire.Wire.{Wire}
use Rattle.channel_route.specs.declared.wire.PlacedWire.{PlacedWire}
use Rattle.first_route.specs.First.{IsNoLater}
use Rattle.first_route.specs.Ways.{on_track, on_tracks, fits, is_open, Go, Fails, AreFirst}
use Rattle.first_route.proofs.Openings.{open_full}

-- no way has the wire below the track
abbrev pub FailBelow : List Constraint → ℕ → List PlacedWire → Wire → List Wire → ℕ → Type 0
FailBelow cs tracks placed w left track =
    (on : ℕ) (way : List ℕ) → on < track → Go cs tracks placed (w ∷ left) (on ∷ way) → ⊥

pub none_below : (cs : List Constraint) (tracks : ℕ) (placed : List PlacedWire) (w : Wire) (left : List Wire) → FailBelow cs tracks placed w left 0
none_below cs tracks placed w left on way less g = omega (arith, less)

more_below : (cs : List Constraint) (tracks : ℕ) (placed : List PlacedWire) (w : Wire) (left : List Wire) (track : ℕ) → FailBelow cs tracks placed w left track → ((way : List ℕ) → Go cs tracks placed (w ∷ left) (track ∷ way) → ⊥) → FailBelow cs tracks placed w left (track + 1)
more_below cs tracks placed w left track below here on way less g =
    elim (cases_eq on track) [
      | inl same ↦ here way (subst (λ (z : ℕ). Go cs tracks placed (w ∷ left) (z ∷ way)) same g)
      | inr other ↦ below on way (omega (arith, less, other)) g
    ]

-- it does not fit
pub skip_below : (cs : List Constraint) (tracks : ℕ) (placed : List PlacedWire) (w : Wire) (left : List Wire) (track : ℕ) → FailBelow cs tracks placed w left track → fits cs placed (on_track w track) ≡ false → FailBelow cs tracks placed w left (track + 1)
skip_below cs tracks placed w left track below full = more_below cs tracks placed w left track below (λ way g. let fit : fits cs placed (on_track w track) ≡ true = g.1 in cc)

-- the others find no way then
pub fail_below : (cs : List Constraint) (tracks : ℕ) (placed : List PlacedWire) (w : Wire) (left : List Wire) (track : ℕ) → FailBelow cs tracks placed w left track → Fails cs tracks (placed ++ on_track w track ∷ []) left → FailBelow cs tracks placed w left (track + 1)
fail_below cs tracks placed w left track below fail = more_below cs tracks placed w left track below (λ way g. fail way g.2)

pub all_fail : (cs : List Constraint) (tracks : ℕ) (placed : List PlacedWire) (w : Wire) (left : List Wire) (track : ℕ) → tracks ≤ track → FailBelow cs tracks placed w left track → Fails cs tracks placed (w ∷ left)
all_fail cs tracks placed w left track all below [] g = absurd g
all_fail cs tracks placed w left track all below (on ∷ way) g = below on way (omega (arith, all, g.0)) g

pub none_long : (wires : List Wire) → length wires ≡ 0 → wires ≡ []
none_long [] none = refl
none_long (w ∷ wires) none = absurd (omega (arith, none))

-- none is left
pub none_left : (cs : List Constraint) (tracks : ℕ) (placed : List PlacedWire) → is_open cs tracks placed [] ≡ true → AreFirst cs tracks placed [] placed
none_left cs tracks placed h = record {
  way = [];
  goes = open_full cs tracks placed h;
  is = sym (append-nil placed);
  first = λ other g. tt;
}

-- the others found the first way then
pub found_first : (cs : List Constraint) (tracks : ℕ) (placed new : List PlacedWire) (w : Wire) (left : List Wire) (track : ℕ) → track < tracks → FailBelow cs tracks placed w left track → fits cs placed (on_track w track) ≡ true → AreFirst cs tracks (placed ++ on_track w track ∷ []) left new → AreFirst cs tracks placed (w ∷ left) new
found_first cs tracks placed new w left track less below fit h = record {
  way = track ∷ h.way;
  goes = (less, fit, h.goes);
  is = h.is ∙ append_assoc placed (on_track w track ∷ []) (on_tracks left h.way);
  first = first;
}
  where
    first : (other : List ℕ) → Go cs tracks placed (w ∷ left) other → IsNoLater (track ∷ h.way) other
    first [] g = absurd g
    first (on ∷ way) g =
        elim (cases_order track on) [
          | inl same ↦ inr (same, h.first way (subst (λ (z : ℕ). Go cs tracks (placed ++ on_track w z ∷ []) left way) (sym same) g.2))
          | inr other ↦ elim other [
            | inl lower ↦ inl lower
            | inr higher ↦ absurd (below on way higher g)
          ]
        ]
