-- The limits of all rectangles are those of the rectangles of each layer.
use Rattle.std.proofs.Common.{List}
use Rattle.std.specs.List.{All, filter}
use Rattle.std.proofs.lemmas.List.Elements.{All-map, All-filter}
use Rattle.box_geom.specs.Rectangle.{IsRectangle}
use Rattle.box_geom.specs.Layers.{same_layer, AreWithinLimits}
use Rattle.box_geom.specs.declared.shape.Shape.{Shape}

pub within_limits : (shapes : List Shape) → All (λ (s : Shape). IsRectangle s.rect) shapes → AreWithinLimits shapes
within_limits shapes all =
    record {
      all = all;
      on = λ layer. All-map IsRectangle (λ (s : Shape). s.rect) (filter (λ (s : Shape). same_layer s.layer layer) shapes) (All-filter (λ (s : Shape). same_layer s.layer layer) (λ (s : Shape). IsRectangle s.rect) shapes all);
    }
