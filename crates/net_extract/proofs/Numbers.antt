-- A conductor cell has one net.
use Rattle.std.proofs.Common.{◌≡◌, inl, inr, ℕ, ◌<◌, List, sym, subst, ℤ}
use Rattle.std.specs.List.{Contains}
use Rattle.std.proofs.lemmas.Bool.{cases_order}
use Rattle.cell_num.proofs.Lists.{contains_get}
use Rattle.cell_num.proofs.Pairs.{pairs_at}
use Rattle.box_geom.specs.Touching.{Cell, Edge}
use Rattle.box_geom.specs.Chains.{Linked}
use Rattle.box_geom.specs.declared.shape.Shape.{Shape}
use Rattle.box_geom.specs.declared.layer.Layer.TheVariants.{Well}
use Rattle.scmos_rules.specs.Layout.{On}
use Rattle.number_trees.proofs.Chains.{joined, turned}
use Rattle.scmos_rules.proofs.Chains.{flip_linked}
use Rattle.scmos_rules.specs.declared.rules.Deck.{Deck}
use Rattle.net_extract.specs.Nets.{Site, Through, Tied, by_well, by_substrate, Meets, along, through, tied, Wired, SameNet}
use Rattle.net_extract.specs.declared.piece.Conductor.{Conductor}
use Rattle.net_extract.specs.Numbering.{IsBefore, AreNets, IsInNet}

pub flip_edge : (a b : Cell) → Edge a b → Edge b a
flip_edge a b e = (flip_linked (λ x y. Unit {0}) a b (record { from = tt; to = tt; edge = e })).edge

pub swapped : (s : List Shape) (x y : ℤ) (k l : Conductor) → Through s x y k l → Through s x y l k
swapped s x y k l (inl j) = inr j
swapped s x y k l (inr j) = inl j

pub tied_back : (s : List Shape) (a b : Site) → Tied s a b → Tied s b a
tied_back s a b (by_well p q m n c) = by_well q p n m (turned (Linked (On Well s)) (flip_linked (On Well s)) a.cell b.cell c)
tied_back s a b (by_substrate p q m n) = by_substrate q p n m

meets_back : (deck : Deck) (s : List Shape) (a b : Site) → Meets deck s a b → Meets deck s b a
meets_back deck s a b (along e edge) = along (sym e) (flip_edge a.cell b.cell edge)
meets_back deck s a b (through e t) = through (sym e) (subst (λ (c : Cell). Through s c.x c.y b.kind a.kind) e (swapped s a.cell.x a.cell.y a.kind b.kind t))
meets_back deck s a b (tied e t) = tied e (tied_back s a b t)

pub wired_back : (deck : Deck) (s : List Shape) (a b : Site) → Wired deck s a b → Wired deck s b a
wired_back deck s a b w = record { from = w.to; to = w.from; meets = meets_back deck s a b w.meets }

-- two sites in the net of a third
pub same_through : (deck : Deck) (s : List Shape) (a b c : Site) → SameNet deck s a c → SameNet deck s b c → SameNet deck s a b
same_through deck s a b c ac bc = record { conducts = ac.conducts; chain = joined (Wired deck s) a c b ac.chain (turned (Wired deck s) (wired_back deck s) b c bc.chain) }

-- the earlier of two nets holds no cell of the later one
apart : (deck : Deck) (s : List Shape) (firsts : List Site) (m n : ℕ) (a : Site) → AreNets deck s firsts → (x : IsInNet deck s firsts m a) (y : IsInNet deck s firsts n a) → m < n → ⊥
apart deck s firsts m n a nets x y less =
    let before : IsBefore x.first y.first = pairs_at IsBefore firsts m n x.first y.first nets.ascending less x.numbered y.numbered in
    let listed : Contains firsts y.first = contains_get firsts n y.first y.numbered in
    let back : SameNet deck s y.first x.first = same_through deck s y.first x.first a y.same x.same in
    before.other ((nets.sound y.first listed).first x.first back)

pub one_number : (deck : Deck) (s : List Shape) (firsts : List Site) (m n : ℕ) (a : Site) → AreNets deck s firsts → IsInNet deck s firsts m a → IsInNet deck s firsts n a → m ≡ n
one_number deck s firsts m n a nets x y =
    elim (cases_order m n) [
      | inl e ↦ e
      | inr (inl less) ↦ absurd (apart deck s firsts m n a nets x y less)
      | inr (inr more) ↦ absurd (apart deck s firsts n m a nets y x more)
    ]
