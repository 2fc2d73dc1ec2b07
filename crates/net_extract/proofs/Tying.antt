-- Pieces come into one tree by bonds, then by ties.
use Rattle.std.proofs.Common.{ℕ, Option, List, get_or, inl, inr}
use Rattle.box_geom.specs.Chains.{Chain}
use Rattle.box_geom.specs.declared.shape.Shape.{Shape}
use Rattle.number_trees.proofs.Chains.{one}
use Rattle.scmos_rules.specs.declared.rules.Deck.TheVariants.{Plain}
use Rattle.number_trees.specs.Classes.{InTree, AreTrees}
use Rattle.number_trees.specs.Ties.{InTreeOrTied}
use Rattle.number_trees.proofs.Classing.{GoesBack, rechained}
use Rattle.number_trees.proofs.Forests.{class_of_tree}
use Rattle.number_trees.proofs.Tying.{one_back}
use Rattle.net_extract.specs.Bonds.{Paired}
use Rattle.net_extract.specs.Ties.{PairedOrTied}
use Rattle.net_extract.specs.declared.piece.Piece.{Piece}
use Rattle.net_extract.proofs.Bonds.{carried_steps}
use Rattle.net_extract.proofs.Pairing.{paired_back}

pub met_back : (s : List Shape) (ps : List Piece) (ties : List (Option ℕ)) → GoesBack (PairedOrTied s ps ties)
met_back s ps ties i j (inl p) = inl (paired_back Plain s ps i j p)
met_back s ps ties i j (inr h) = inr (one_back ties i j h)

pub met_trees : (n : ℕ) (s : List Shape) (ps : List Piece) (ties : List (Option ℕ)) (old new : List ℕ) → AreTrees n (Paired Plain s ps) old → AreTrees n (InTreeOrTied old ties) new → AreTrees n (PairedOrTied s ps ties) new
met_trees n s ps ties old new was is = record {
  sound = record { count = is.sound.count; low = is.sound.low; reach = λ i l. rechained (InTreeOrTied old ties) (PairedOrTied s ps ties) step i (get_or new i 0) (is.sound.reach i l) };
  joined = each;
}
  where
    step : (a b : ℕ) → InTreeOrTied old ties a b → Chain (PairedOrTied s ps ties) a b
    step a b (inl t) = let c : Chain (Paired Plain s ps) a b = class_of_tree n (Paired Plain s ps) (paired_back Plain s ps) old was.sound a b t in carried_steps (Paired Plain s ps) (PairedOrTied s ps ties) (λ z. z) (λ x y p. inl p) c.count a b c.steps
    step a b (inr h) = one (PairedOrTied s ps ties) a b (inr h)

    each : (i j : ℕ) → PairedOrTied s ps ties i j → InTree new i j
    each i j (inl p) = is.joined i j (inl (was.joined i j p))
    each i j (inr h) = is.joined i j (inr h)
