-- Drawings side by side, by facts on cells alone: s has one for each of X, u is all of them, h their height.
use Rattle.std.proofs.Common.{◌≡◌, ℤ, pos, ◌≤ℤ◌, ◌<ℤ◌, ◌+ℤ◌, ◌-ℤ◌, List, ◌⊎◌}
use Rattle.box_geom.specs.declared.shape.Shape.{Shape}
use Rattle.box_geom.specs.declared.layer.Layer.TheVariants.{Contact, Via}
use Rattle.scmos_rules.specs.Layout.{On}
use Rattle.scmos_rules.specs.declared.rules.Deck.TheVariants.{Plain}
use Rattle.scmos_rules.proofs.Rails.{IsColumn}
use Rattle.net_extract.specs.Nets.{Site, site_at, Are, SameNet}
use Rattle.net_extract.specs.declared.piece.Conductor.{Conductor}
use Rattle.net_extract.specs.declared.piece.Conductor.TheVariants.{Metal1}

pub data Side : Type 0 where
  low : Side
  high : Side

-- the rows of a rail
abbrev pub IsOn : ℤ → Side → ℤ → Type 0
IsOn h low y = (pos 0 ≤ℤ y) × (y <ℤ pos 16)
IsOn h high y = ((h -ℤ pos 16) ≤ℤ y) × (y <ℤ h)

-- the first cell of a rail
abbrev pub rail : ℤ → ℤ → Side → Site
rail h from low = site_at Metal1 from (pos 0)
rail h from high = site_at Metal1 from (h -ℤ pos 1)

pub record AreBeside {X : Type 0} (s : X → List Shape) (u : List Shape) (from to : X → ℤ) (h : ℤ) : Type 0 where
  -- u conducts and has contacts and vias where one of the drawings does
  pub parts : (k : Conductor) (x y : ℤ) → Are u k x y → (i : X) × Are (s i) k x y
  pub whole : (i : X) (k : Conductor) (x y : ℤ) → Are (s i) k x y → Are u k x y
  pub contacts : (x y : ℤ) → On Contact u x y → (i : X) × On Contact (s i) x y
  pub contacts_up : (i : X) (x y : ℤ) → On Contact (s i) x y → On Contact u x y
  pub vias : (x y : ℤ) → On Via u x y → (i : X) × On Via (s i) x y
  pub vias_up : (i : X) (x y : ℤ) → On Via (s i) x y → On Via u x y
  -- each stands in a column of its own, and touches its sides by its rails alone
  pub apart : (i j : X) → (i ≡ j) ⊎ ((to i ≤ℤ from j) ⊎ (to j ≤ℤ from i))
  pub lies : (i : X) (k : Conductor) (x y : ℤ) → Are (s i) k x y → IsColumn (from i) (to i) x
  pub contact_lies : (i : X) (x y : ℤ) → On Contact (s i) x y → IsColumn (from i) (to i) x
  pub via_lies : (i : X) (x y : ℤ) → On Via (s i) x y → IsColumn (from i) (to i) x
  pub inner : (i : X) (k : Conductor) (x y : ℤ) → Are (s i) k x y → ((k ≡ Metal1) × ((side : Side) × IsOn h side y)) ⊎ IsColumn (from i +ℤ pos 3) (to i -ℤ pos 3) x
  -- each rail is of one net, and the two are not of one
  pub railed : (i : X) (side : Side) (x y : ℤ) → IsColumn (from i) (to i) x → IsOn h side y → SameNet Plain (s i) (rail h (from i) side) (site_at Metal1 x y)
  pub sides : (i : X) → SameNet Plain (s i) (rail h (from i) low) (rail h (from i) high) → ⊥
