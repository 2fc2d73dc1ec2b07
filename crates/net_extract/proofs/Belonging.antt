-- A label belongs to one conductor cell.
use Rattle.std.proofs.Common.{◌≡◌, ℤ, List, [], ◌∷◌, inl, inr, refl, sym, subst, ◌∙◌}
use Rattle.box_geom.specs.Touching.{Cell}
use Rattle.box_geom.specs.declared.layer.Layer.{Layer}
use Rattle.box_geom.specs.declared.shape.Shape.{Shape}
use Rattle.box_geom.specs.declared.shape.Label.{Label}
use Rattle.net_extract.specs.Nets.{Are, layer_of, Site}
use Rattle.net_extract.specs.declared.piece.Conductor.{Conductor}
use Rattle.net_extract.specs.declared.piece.Conductor.TheVariants.{PDiffusion, NDiffusion, Poly, Metal1, Metal2}
use Rattle.net_extract.specs.Labels.{IsConductorAt, IsFirstConductor, cells_round, Belongs}
use Rattle.net_extract.proofs.Ranking.{site_same}

-- in one cell a layer has one kind of conductor
one_kind : (s : List Shape) (j k : Conductor) (x y : ℤ) → layer_of j ≡ layer_of k → Are s j x y → Are s k x y → j ≡ k
one_kind s PDiffusion PDiffusion x y e c d = refl
one_kind s PDiffusion NDiffusion x y e c d = absurd (d.1 c.1)
one_kind s PDiffusion Poly x y e c d = absurd cc
one_kind s PDiffusion Metal1 x y e c d = absurd cc
one_kind s PDiffusion Metal2 x y e c d = absurd cc
one_kind s NDiffusion PDiffusion x y e c d = absurd (c.1 d.1)
one_kind s NDiffusion NDiffusion x y e c d = refl
one_kind s NDiffusion Poly x y e c d = absurd cc
one_kind s NDiffusion Metal1 x y e c d = absurd cc
one_kind s NDiffusion Metal2 x y e c d = absurd cc
one_kind s Poly PDiffusion x y e c d = absurd cc
one_kind s Poly NDiffusion x y e c d = absurd cc
one_kind s Poly Poly x y e c d = refl
one_kind s Poly Metal1 x y e c d = absurd cc
one_kind s Poly Metal2 x y e c d = absurd cc
one_kind s Metal1 PDiffusion x y e c d = absurd cc
one_kind s Metal1 NDiffusion x y e c d = absurd cc
one_kind s Metal1 Poly x y e c d = absurd cc
one_kind s Metal1 Metal1 x y e c d = refl
one_kind s Metal1 Metal2 x y e c d = absurd cc
one_kind s Metal2 PDiffusion x y e c d = absurd cc
one_kind s Metal2 NDiffusion x y e c d = absurd cc
one_kind s Metal2 Poly x y e c d = absurd cc
one_kind s Metal2 Metal1 x y e c d = absurd cc
one_kind s Metal2 Metal2 x y e c d = refl

pub one_conductor : (s : List Shape) (layer : Layer) (c : Cell) (a b : Site) → IsConductorAt s layer c a → IsConductorAt s layer c b → a ≡ b
one_conductor s layer c a b p q =
    let cells : a.cell ≡ b.cell = p.cell ∙ sym q.cell in
    let other : Are s b.kind a.cell.x a.cell.y = subst (λ (z : Cell). Are s b.kind z.x z.y) (sym cells) q.conducts in
    site_same a b (one_kind s a.kind b.kind a.cell.x a.cell.y (p.on_layer ∙ sym q.on_layer) p.conducts other) cells

one_first : (s : List Shape) (layer : Layer) (cells : List Cell) (a b : Site) → IsFirstConductor s layer cells a → IsFirstConductor s layer cells b → a ≡ b
one_first s layer [] a b p q = absurd p
one_first s layer (c ∷ cs) a b (inl p) (inl q) = one_conductor s layer c a b p q
one_first s layer (c ∷ cs) a b (inl p) (inr (none, q)) = absurd (none a p)
one_first s layer (c ∷ cs) a b (inr (none, p)) (inl q) = absurd (none b q)
one_first s layer (c ∷ cs) a b (inr (none, p)) (inr (bare, q)) = one_first s layer cs a b p q

pub one_site : (s : List Shape) (l : Label) (a b : Site) → Belongs s l a → Belongs s l b → a ≡ b
one_site s l a b = one_first s l.layer (cells_round l.x l.y) a b
