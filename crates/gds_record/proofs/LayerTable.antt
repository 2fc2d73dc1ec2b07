-- The layers by the numbers that are written for them.
use Rattle.std.proofs.Common.{ℕ, ◌≡◌, Some, refl}
use Rattle.box_geom.specs.declared.layer.Layer.{Layer}
use Rattle.box_geom.specs.declared.layer.Layer.TheVariants as layer
use Rattle.gds_record.proofs.Tables.{row, no_entry}
use Rattle.gds_record.specs.Layers.{layer_number, layer_numbered}

pub numbered : (l : Layer) → layer_numbered (layer_number l) ≡ Some l
numbered layer.Well = refl
numbered layer.Active = refl
numbered layer.PSelect = refl
numbered layer.NSelect = refl
numbered layer.Poly = refl
numbered layer.Contact = refl
numbered layer.Metal1 = refl
numbered layer.Via = refl
numbered layer.Metal2 = refl

pub numbered_only : (n : ℕ) (l : Layer) → layer_numbered n ≡ Some l → layer_number l ≡ n
numbered_only n l e =
    row layer_number n 42 l layer.Well _ refl e
    (λ e. row layer_number n 43 l layer.Active _ refl e
    (λ e. row layer_number n 44 l layer.PSelect _ refl e
    (λ e. row layer_number n 45 l layer.NSelect _ refl e
    (λ e. row layer_number n 46 l layer.Poly _ refl e
    (λ e. row layer_number n 25 l layer.Contact _ refl e
    (λ e. row layer_number n 49 l layer.Metal1 _ refl e
    (λ e. row layer_number n 50 l layer.Via _ refl e
    (λ e. row layer_number n 51 l layer.Metal2 _ refl e
    (λ e. absurd (no_entry l e))))))))))
