-- Layers by their places in the list of layers.
use Rattle.std.proofs.Common.{◌≡◌, ℕ, true, [], ◌∷◌, get_or, refl, sym, ap, ◌∙◌}
use Rattle.std.proofs.lemmas.Bool.Decides.{Decides-eqb}
use Rattle.box_geom.specs.Layers.{layer_no, same_layer}
use Rattle.box_geom.specs.declared.layer.Layer.{Layer}
use Rattle.box_geom.specs.declared.layer.Layer.TheVariants.{Well, Active, PSelect, NSelect, Poly, Contact, Metal1, Via, Metal2}

numbered : ℕ → Layer
numbered n = get_or (Well ∷ Active ∷ PSelect ∷ NSelect ∷ Poly ∷ Contact ∷ Metal1 ∷ Via ∷ Metal2 ∷ []) n Well

by_number : (layer : Layer) → numbered (layer_no layer) ≡ layer
unfolding numbered
by_number Well = refl
by_number Active = refl
by_number PSelect = refl
by_number NSelect = refl
by_number Poly = refl
by_number Contact = refl
by_number Metal1 = refl
by_number Via = refl
by_number Metal2 = refl

pub layer_is : (a b : Layer) → same_layer a b ≡ true → a ≡ b
layer_is a b e = sym (by_number a) ∙ (ap numbered ((Decides-eqb (layer_no a) (layer_no b)).0 e) ∙ by_number b)

pub is_layer : (a b : Layer) → a ≡ b → same_layer a b ≡ true
is_layer a b e = (Decides-eqb (layer_no a) (layer_no b)).1 (ap layer_no e)
