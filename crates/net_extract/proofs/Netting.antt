-- Pieces, labels and numbers together are the nets of a drawing.
use Rattle.std.proofs.Common.{◌≡◌, ℕ, ◌≤◌, List, length, sym, subst, IsPermutation, IsSorted}
use Rattle.std.specs.List.{All}
use Rattle.box_geom.specs.Rectangle.{IsProper}
use Rattle.box_geom.specs.declared.shape.Shape.{Shape}
use Rattle.scmos_rules.specs.declared.rules.Deck.{Deck}
use Rattle.number_trees.specs.Classes.{AreLeast, AreHeads}
use Rattle.net_extract.specs.Cuts.{pieces_in}
use Rattle.net_extract.specs.Corners.{HaveFewCorners}
use Rattle.net_extract.specs.Connections.{AreWires, AreNumbered, heads_below}
use Rattle.net_extract.specs.Bonds.{AreDrawn, Paired}
use Rattle.net_extract.specs.Pieces.{rect_of, rects_in, piece_cmp}
use Rattle.net_extract.specs.declared.connections.Wire.{Wire}
use Rattle.net_extract.specs.declared.piece.Piece.{Piece}
use Rattle.net_extract.proofs.Carving.{pieces_drawn}
use Rattle.number_trees.proofs.Classing.{least_heads}
use Rattle.net_extract.proofs.Cornering.{few_heads}
use Rattle.net_extract.proofs.Listing.{drawn_permuted, all_proper}
use Rattle.net_extract.proofs.Wiring.{wires_are}

pub sorted_drawn : (s : List Shape) (ps qs : List Piece) → All (λ (z : Shape). IsProper z.rect) s → ps ≡ pieces_in s → IsPermutation ps qs → AreDrawn s (rects_in qs)
sorted_drawn s ps qs proper e m = drawn_permuted s ps qs m (subst (λ z. AreDrawn s (rects_in z)) (sym e) (pieces_drawn s proper))

pub ruleset piece_rules = (sorted_drawn)

pub pieces_proper : (s : List Shape) (ps : List Piece) → AreDrawn s (rects_in ps) → All (λ p. IsProper (rect_of p)) ps
pieces_proper = all_proper

pub labels_head : (deck : Deck) (s : List Shape) (ps : List Piece) (ls : List ℕ) → AreLeast (length ps) (Paired deck s ps) ls → AreHeads (length ps) ls
labels_head deck s ps ls is = least_heads (length ps) (Paired deck s ps) ls is

pub net_is : (deck : Deck) (s : List Shape) (ps : List Piece) (ls : List ℕ) (wires : List Wire) (firsts : List Piece) → AreDrawn s (rects_in ps) → IsSorted piece_cmp ps → AreLeast (length ps) (Paired deck s ps) ls → AreNumbered ps ls (length ps) wires firsts → AreWires deck s wires firsts
net_is deck s ps ls wires firsts d up least n = wires_are deck s ps ls wires firsts (record { drawn = d; sorted = up; least = least }) n

pub ruleset net_rules = (pieces_proper, labels_head, net_is)

pub heads_from : (deck : Deck) (s : List Shape) (ps : List Piece) (ls ms : List ℕ) → ms ≡ ls → AreLeast (length ps) (Paired deck s ps) ls → AreHeads (length ps) ms
heads_from deck s ps ls ms em least = subst (AreHeads (length ps)) (sym em) (labels_head deck s ps ls least)

pub net_from : (deck : Deck) (s : List Shape) (ps : List Piece) (ls ms : List ℕ) (wires : List Wire) (firsts : List Piece) → ms ≡ ls → AreDrawn s (rects_in ps) → IsSorted piece_cmp ps → AreLeast (length ps) (Paired deck s ps) ls → AreNumbered ps ms (length ps) wires firsts → AreWires deck s wires firsts
net_from deck s ps ls ms wires firsts em d up least n = net_is deck s ps ls wires firsts d up least (subst (λ zs. AreNumbered ps zs (length ps) wires firsts) em n)

pub few_from : (deck : Deck) (s : List Shape) (ps : List Piece) (ls ms : List ℕ) → ms ≡ ls → AreDrawn s (rects_in ps) → IsSorted piece_cmp ps → HaveFewCorners ps → AreLeast (length ps) (Paired deck s ps) ls → length (heads_below ps ms (length ps)) ≤ 2000000000
few_from deck s ps ls ms em d up few least = subst (λ zs. length (heads_below ps zs (length ps)) ≤ 2000000000) (sym em) (few_heads deck s ps ls (record { drawn = d; sorted = up; least = least }) few)

pub few_numbered : (rs : List Piece) (ms : List ℕ) (wires : List Wire) (firsts : List Piece) → length (heads_below rs ms (length rs)) ≤ 2000000000 → AreNumbered rs ms (length rs) wires firsts → length firsts ≤ 2000000000
few_numbered rs ms wires firsts few n = subst (λ zs. length zs ≤ 2000000000) (sym n.heads) few
