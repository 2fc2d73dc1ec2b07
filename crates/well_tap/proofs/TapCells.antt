-- What a drawing gains by taps: facts on cells alone, s being the shapes without taps, t those with them, h their
-- height.
use Rattle.std.proofs.Common.{◌≡◌, ◌↔◌, ℤ, pos, ◌≤ℤ◌, ◌<ℤ◌, ◌-ℤ◌, List, ◌⊎◌}
use Rattle.box_geom.specs.declared.shape.Shape.{Shape}
use Rattle.box_geom.specs.declared.layer.Layer.TheVariants.{Well, Active, PSelect, NSelect, Poly as PolyLayer, Contact, Metal1 as Metal1Layer, Via, Metal2 as Metal2Layer}
use Rattle.scmos_rules.specs.Layout.{On}
use Rattle.scmos_rules.specs.declared.rules.Deck.{Deck}
use Rattle.scmos_rules.specs.declared.rules.Deck.TheVariants.{Plain}
use Rattle.net_extract.specs.Nets.{site_at, Are, SameNet}
use Rattle.net_extract.specs.declared.piece.Conductor.{Conductor}
use Rattle.net_extract.specs.declared.piece.Conductor.TheVariants.{PDiffusion, NDiffusion, Metal1}

-- cells of taps: on the lower rail, and on the upper one
pub record IsLow (y : ℤ) : Type 0 where
  pub least : pos 3 ≤ℤ y
  pub most : y <ℤ pos 13

pub record IsHigh (h y : ℤ) : Type 0 where
  pub least : (h -ℤ pos 13) ≤ℤ y
  pub most : y <ℤ (h -ℤ pos 3)

abbrev pub IsTap : ℤ → ℤ → Type 0
IsTap h y = IsLow y ⊎ IsHigh h y

-- clear of taps
pub record IsInner (h y : ℤ) : Type 0 where
  pub low : pos 20 ≤ℤ y
  pub high : y <ℤ (h -ℤ pos 20)

-- the two kinds of diffusion
abbrev pub IsDiffusion : Conductor → Type 0
IsDiffusion k = (k ≡ PDiffusion) ⊎ (k ≡ NDiffusion)

pub record AreTapped (s t : List Shape) (h : ℤ) : Type 0 where
  pub tall : pos 60 ≤ℤ h
  pub on_poly : (x y : ℤ) → On PolyLayer t x y ↔ On PolyLayer s x y
  pub on_metal1 : (x y : ℤ) → On Metal1Layer t x y ↔ On Metal1Layer s x y
  pub on_metal2 : (x y : ℤ) → On Metal2Layer t x y ↔ On Metal2Layer s x y
  pub on_via : (x y : ℤ) → On Via t x y ↔ On Via s x y
  pub active_up : (x y : ℤ) → On Active s x y → On Active t x y
  pub active : (x y : ℤ) → On Active t x y → On Active s x y ⊎ IsTap h y
  pub contact_up : (x y : ℤ) → On Contact s x y → On Contact t x y
  pub contact : (x y : ℤ) → On Contact t x y → On Contact s x y ⊎ IsTap h y
  pub well_up : (x y : ℤ) → On Well s x y → On Well t x y
  pub well : (x y : ℤ) → On Well t x y → On Well s x y ⊎ (h ≤ℤ y)
  pub actives_inner : (x y : ℤ) → On Active s x y → IsInner h y
  pub polys_inner : (x y : ℤ) → On PolyLayer s x y → IsInner h y
  -- what is tied is a tap of the one rail or of the other
  pub well_taps : (x y : ℤ) → On Active t x y → On Well t x y → On NSelect t x y → IsHigh h y
  pub substrate_taps : (x y : ℤ) → On Active t x y → (On Well t x y → ⊥) → On PSelect t x y → IsLow y
  -- over each rail metal1 is of one net
  pub low_rail : (x y u v : ℤ) → On Active t x y → On Active t u v → IsLow y → IsLow v → SameNet Plain s (site_at Metal1 x y) (site_at Metal1 u v)
  pub high_rail : (x y u v : ℤ) → On Active t x y → On Active t u v → IsHigh h y → IsHigh h v → SameNet Plain s (site_at Metal1 x y) (site_at Metal1 u v)
  -- by any deck each tap is of the net of the rail over it
  pub linked : (deck : Deck) (k : Conductor) (x y : ℤ) → IsDiffusion k → Are t k x y → IsTap h y → SameNet deck t (site_at Metal1 x y) (site_at k x y)
