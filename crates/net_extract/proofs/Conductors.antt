-- The kinds of conductor, and the layers that link two of them.
use Rattle.std.proofs.Common.{◌≡◌, ℤ, Option, Some, None, List, inl, inr, ◌⊎◌, refl, ap}
use Rattle.box_geom.specs.declared.shape.Shape.{Shape}
use Rattle.box_geom.specs.declared.layer.Layer.{Layer}
use Rattle.scmos_rules.specs.Layout.{On}
use Rattle.net_extract.specs.Nets.{IsLower, of_p, of_n, of_poly, Joins, by_contact, by_via, Through}
use Rattle.net_extract.specs.Pieces.{place, link_layer}
use Rattle.net_extract.specs.declared.piece.Conductor.{Conductor}
use Rattle.net_extract.specs.declared.piece.Conductor.TheVariants.{PDiffusion, NDiffusion, Poly, Metal1, Metal2}

-- a shape on the linking layer is there
abbrev pub OnLink : Option Layer → List Shape → ℤ → ℤ → Type 0
OnLink (Some layer) s x y = On layer s x y
OnLink None s x y = ⊥

pub through_link : (s : List Shape) (x y : ℤ) (k l : Conductor) → OnLink (link_layer k l) s x y → Through s x y k l
through_link s x y PDiffusion PDiffusion o = absurd o
through_link s x y PDiffusion NDiffusion o = absurd o
through_link s x y PDiffusion Poly o = absurd o
through_link s x y PDiffusion Metal1 o = inr (by_contact refl of_p o)
through_link s x y PDiffusion Metal2 o = absurd o
through_link s x y NDiffusion PDiffusion o = absurd o
through_link s x y NDiffusion NDiffusion o = absurd o
through_link s x y NDiffusion Poly o = absurd o
through_link s x y NDiffusion Metal1 o = inr (by_contact refl of_n o)
through_link s x y NDiffusion Metal2 o = absurd o
through_link s x y Poly PDiffusion o = absurd o
through_link s x y Poly NDiffusion o = absurd o
through_link s x y Poly Poly o = absurd o
through_link s x y Poly Metal1 o = inr (by_contact refl of_poly o)
through_link s x y Poly Metal2 o = absurd o
through_link s x y Metal1 PDiffusion o = inl (by_contact refl of_p o)
through_link s x y Metal1 NDiffusion o = inl (by_contact refl of_n o)
through_link s x y Metal1 Poly o = inl (by_contact refl of_poly o)
through_link s x y Metal1 Metal1 o = absurd o
through_link s x y Metal1 Metal2 o = inr (by_via refl refl o)
through_link s x y Metal2 PDiffusion o = absurd o
through_link s x y Metal2 NDiffusion o = absurd o
through_link s x y Metal2 Poly o = absurd o
through_link s x y Metal2 Metal1 o = inl (by_via refl refl o)
through_link s x y Metal2 Metal2 o = absurd o

-- what a kind below metal1 is
lower_is : (k : Conductor) → IsLower k → (k ≡ PDiffusion) ⊎ ((k ≡ NDiffusion) ⊎ (k ≡ Poly))
lower_is PDiffusion of_p = inl refl
lower_is NDiffusion of_n = inr (inl refl)
lower_is Poly of_poly = inr (inr refl)
lower_is Metal1 low = elim low [ ]
lower_is Metal2 low = elim low [ ]

-- the linking layer, whatever the order of the two kinds
joins_link : (s : List Shape) (x y : ℤ) (k l : Conductor) → Joins s x y k l → OnLink (link_layer k l) s x y × OnLink (link_layer l k) s x y
joins_link s x y PDiffusion PDiffusion (by_contact e low on) = absurd (cc e)
joins_link s x y PDiffusion PDiffusion (by_via e f on) = absurd (cc e)
joins_link s x y PDiffusion NDiffusion (by_contact e low on) = absurd (cc e)
joins_link s x y PDiffusion NDiffusion (by_via e f on) = absurd (cc e)
joins_link s x y PDiffusion Poly (by_contact e low on) = absurd (cc e)
joins_link s x y PDiffusion Poly (by_via e f on) = absurd (cc e)
joins_link s x y PDiffusion Metal1 (by_contact e low on) = absurd (cc e)
joins_link s x y PDiffusion Metal1 (by_via e f on) = absurd (cc e)
joins_link s x y PDiffusion Metal2 (by_contact e low on) = absurd (cc e)
joins_link s x y PDiffusion Metal2 (by_via e f on) = absurd (cc e)
joins_link s x y NDiffusion PDiffusion (by_contact e low on) = absurd (cc e)
joins_link s x y NDiffusion PDiffusion (by_via e f on) = absurd (cc e)
joins_link s x y NDiffusion NDiffusion (by_contact e low on) = absurd (cc e)
joins_link s x y NDiffusion NDiffusion (by_via e f on) = absurd (cc e)
joins_link s x y NDiffusion Poly (by_contact e low on) = absurd (cc e)
joins_link s x y NDiffusion Poly (by_via e f on) = absurd (cc e)
joins_link s x y NDiffusion Metal1 (by_contact e low on) = absurd (cc e)
joins_link s x y NDiffusion Metal1 (by_via e f on) = absurd (cc e)
joins_link s x y NDiffusion Metal2 (by_contact e low on) = absurd (cc e)
joins_link s x y NDiffusion Metal2 (by_via e f on) = absurd (cc e)
joins_link s x y Poly PDiffusion (by_contact e low on) = absurd (cc e)
joins_link s x y Poly PDiffusion (by_via e f on) = absurd (cc e)
joins_link s x y Poly NDiffusion (by_contact e low on) = absurd (cc e)
joins_link s x y Poly NDiffusion (by_via e f on) = absurd (cc e)
joins_link s x y Poly Poly (by_contact e low on) = absurd (cc e)
joins_link s x y Poly Poly (by_via e f on) = absurd (cc e)
joins_link s x y Poly Metal1 (by_contact e low on) = absurd (cc e)
joins_link s x y Poly Metal1 (by_via e f on) = absurd (cc e)
joins_link s x y Poly Metal2 (by_contact e low on) = absurd (cc e)
joins_link s x y Poly Metal2 (by_via e f on) = absurd (cc e)
joins_link s x y Metal1 PDiffusion (by_contact e low on) = (on, on)
joins_link s x y Metal1 PDiffusion (by_via e f on) = absurd (cc e)
joins_link s x y Metal1 NDiffusion (by_contact e low on) = (on, on)
joins_link s x y Metal1 NDiffusion (by_via e f on) = absurd (cc e)
joins_link s x y Metal1 Poly (by_contact e low on) = (on, on)
joins_link s x y Metal1 Poly (by_via e f on) = absurd (cc e)
joins_link s x y Metal1 Metal1 (by_contact e low on) = absurd (elim (lower_is Metal1 low) [ inl f ↦ cc f | inr r ↦ elim r [ inl f ↦ cc f | inr f ↦ cc f ] ])
joins_link s x y Metal1 Metal1 (by_via e f on) = absurd (cc e)
joins_link s x y Metal1 Metal2 (by_contact e low on) = absurd (elim (lower_is Metal2 low) [ inl f ↦ cc f | inr r ↦ elim r [ inl f ↦ cc f | inr f ↦ cc f ] ])
joins_link s x y Metal1 Metal2 (by_via e f on) = absurd (cc e)
joins_link s x y Metal2 PDiffusion (by_contact e low on) = absurd (cc e)
joins_link s x y Metal2 PDiffusion (by_via e f on) = absurd (cc f)
joins_link s x y Metal2 NDiffusion (by_contact e low on) = absurd (cc e)
joins_link s x y Metal2 NDiffusion (by_via e f on) = absurd (cc f)
joins_link s x y Metal2 Poly (by_contact e low on) = absurd (cc e)
joins_link s x y Metal2 Poly (by_via e f on) = absurd (cc f)
joins_link s x y Metal2 Metal1 (by_contact e low on) = absurd (cc e)
joins_link s x y Metal2 Metal1 (by_via e f on) = (on, on)
joins_link s x y Metal2 Metal2 (by_contact e low on) = absurd (cc e)
joins_link s x y Metal2 Metal2 (by_via e f on) = absurd (cc f)

pub link_through : (s : List Shape) (x y : ℤ) (k l : Conductor) → Through s x y k l → OnLink (link_layer k l) s x y
link_through s x y k l (inl j) = (joins_link s x y k l j).0
link_through s x y k l (inr j) = (joins_link s x y l k j).1

pub same_place : (k l : Conductor) → k ≡ l → place k ≡ place l
same_place k l e = ap place e

pub same_kind_place : (k l : Conductor) → place k ≡ place l → k ≡ l
same_kind_place PDiffusion PDiffusion e = refl
same_kind_place PDiffusion NDiffusion e = absurd (cc e)
same_kind_place PDiffusion Poly e = absurd (cc e)
same_kind_place PDiffusion Metal1 e = absurd (cc e)
same_kind_place PDiffusion Metal2 e = absurd (cc e)
same_kind_place NDiffusion PDiffusion e = absurd (cc e)
same_kind_place NDiffusion NDiffusion e = refl
same_kind_place NDiffusion Poly e = absurd (cc e)
same_kind_place NDiffusion Metal1 e = absurd (cc e)
same_kind_place NDiffusion Metal2 e = absurd (cc e)
same_kind_place Poly PDiffusion e = absurd (cc e)
same_kind_place Poly NDiffusion e = absurd (cc e)
same_kind_place Poly Poly e = refl
same_kind_place Poly Metal1 e = absurd (cc e)
same_kind_place Poly Metal2 e = absurd (cc e)
same_kind_place Metal1 PDiffusion e = absurd (cc e)
same_kind_place Metal1 NDiffusion e = absurd (cc e)
same_kind_place Metal1 Poly e = absurd (cc e)
same_kind_place Metal1 Metal1 e = refl
same_kind_place Metal1 Metal2 e = absurd (cc e)
same_kind_place Metal2 PDiffusion e = absurd (cc e)
same_kind_place Metal2 NDiffusion e = absurd (cc e)
same_kind_place Metal2 Poly e = absurd (cc e)
same_kind_place Metal2 Metal1 e = absurd (cc e)
same_kind_place Metal2 Metal2 e = refl
