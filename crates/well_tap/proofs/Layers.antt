-- What a layer covers in lists of shapes that are put together.
use Rattle.std.proofs.Common.{◌≡◌, ℤ, List, [], ◌++◌, map, inl, inr, ◌⊎◌, sym, subst, ap, ◌∙◌}
use Rattle.std.specs.List.{All, Contains, filter}
use Rattle.std.proofs.lemmas.List.{map-append, append-nil}
use Rattle.std.proofs.lemmas.List.Elements.{All-contains, filter-append, Contains-append_cases, Contains-append_left, Contains-append_right}
use Rattle.box_geom.specs.Rectangle.{Holds}
use Rattle.box_geom.specs.Layers.{same_layer, rects_on}
use Rattle.box_geom.specs.declared.layer.Layer.{Layer}
use Rattle.box_geom.specs.declared.shape.Shape.{Shape}
use Rattle.scmos_rules.specs.Layout.{On}
use Rattle.net_extract.proofs.Finding.{shows}
use Rattle.net_extract.proofs.LayerNumbers.{layer_is}

rects_append : (layer : Layer) (xs ys : List Shape) → rects_on layer (xs ++ ys) ≡ rects_on layer xs ++ rects_on layer ys
rects_append layer xs ys =
    ap (map (λ (s : Shape). s.rect)) (filter-append (λ (s : Shape). same_layer s.layer layer) xs ys)
    ∙ map-append (λ (s : Shape). s.rect) (filter (λ (s : Shape). same_layer s.layer layer) xs) (filter (λ (s : Shape). same_layer s.layer layer) ys)

pub on_either : (layer : Layer) (xs ys : List Shape) (x y : ℤ) → On layer (xs ++ ys) x y → On layer xs x y ⊎ On layer ys x y
on_either layer xs ys x y c =
    elim (Contains-append_cases (rects_on layer xs) (rects_on layer ys) c.rect (subst (λ rs. Contains rs c.rect) (rects_append layer xs ys) c.listed)) [
      | inl l ↦ inl (record { rect = c.rect; listed = l; holds = c.holds })
      | inr r ↦ inr (record { rect = c.rect; listed = r; holds = c.holds })
    ]

pub on_left : (layer : Layer) (xs ys : List Shape) (x y : ℤ) → On layer xs x y → On layer (xs ++ ys) x y
on_left layer xs ys x y c = record { rect = c.rect; listed = subst (λ rs. Contains rs c.rect) (sym (rects_append layer xs ys)) (Contains-append_left (rects_on layer xs) (rects_on layer ys) c.rect c.listed); holds = c.holds }

pub on_right : (layer : Layer) (xs ys : List Shape) (x y : ℤ) → On layer ys x y → On layer (xs ++ ys) x y
on_right layer xs ys x y c = record { rect = c.rect; listed = subst (λ rs. Contains rs c.rect) (sym (rects_append layer xs ys)) (Contains-append_right (rects_on layer xs) (rects_on layer ys) c.rect c.listed); holds = c.holds }

-- shapes that are on other layers change nothing of a layer
pub unchanged : (layer : Layer) (xs ys : List Shape) → rects_on layer ys ≡ [] → rects_on layer (xs ++ ys) ≡ rects_on layer xs
unchanged layer xs ys e = rects_append layer xs ys ∙ (ap (λ rs. rects_on layer xs ++ rs) e ∙ append-nil (rects_on layer xs))

-- a shape of the layer, and what holds of all shapes of the list
pub record Found (Q : Shape → Type 0) (layer : Layer) (x y : ℤ) : Type 0 where
  pub shape : Shape
  pub on : shape.layer ≡ layer
  pub holds : Holds shape.rect x y
  pub is : Q shape

pub found : (Q : Shape → Type 0) (ss : List Shape) (layer : Layer) (x y : ℤ) → All Q ss → On layer ss x y → Found Q layer x y
found Q ss layer x y all c =
    let s = shows ss layer x y c in
    record { shape = s.shape; on = layer_is s.shape.layer layer s.on; holds = s.holds; is = All-contains Q ss s.shape all s.listed }
