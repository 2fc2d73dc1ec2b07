-- The nets of a drawing have one numbering.
use Rattle.std.proofs.Common.{◌≡◌, List}
use Rattle.box_geom.specs.declared.shape.Shape.{Shape}
use Rattle.scmos_rules.proofs.Orders.{ordered_same}
use Rattle.scmos_rules.specs.declared.rules.Deck.{Deck}
use Rattle.net_extract.specs.Nets.{Site}
use Rattle.net_extract.specs.Numbering.{IsBefore, AreNets}

before_strict : (a b : Site) → IsBefore a b → IsBefore b a → ⊥
before_strict a b ab ba = ab.other ba.not_behind

pub same_numbering : (deck : Deck) (s : List Shape) (firsts others : List Site) → AreNets deck s firsts → AreNets deck s others → firsts ≡ others
same_numbering deck s firsts others a b =
    ordered_same IsBefore before_strict firsts others a.ascending b.ascending
    (λ z c. b.all z (a.sound z c)) (λ z c. a.all z (b.sound z c))
