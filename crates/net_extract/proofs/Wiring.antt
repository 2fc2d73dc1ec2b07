-- Pieces in order, labelled by the least pieces of their classes and numbered in turn, are the nets of the drawing.
use Rattle.std.proofs.Common.{◌≡◌, ℕ, zero, suc, ◌+◌, ◌<◌, ◌≤◌, ◌++◌, List, [], ◌∷◌, map, length, get_or, slice_get, take_all, Some, arith, refl, sym, subst, ap, ◌∙◌, inl, inr, IsSorted}
use Rattle.std.specs.List.{All, AllPairs, Contains}
use Rattle.std.specs.Option.{option_map}
use Rattle.std.proofs.lemmas.Bool.{cases_eq}
use Rattle.std.proofs.lemmas.Int.{ints}
use Rattle.std.proofs.lemmas.Option.{slice_get-map, slice_get-get_or}
use Rattle.std.proofs.lemmas.List.{get_or-map}
use Rattle.cell_num.proofs.Lists.{contains_get, all_from_contains, all_one}
use Rattle.cell_num.proofs.Pairs.{pairs_append}
use Rattle.cell_num.proofs.In.{in_map, contains_map}
use Rattle.box_geom.specs.Chains.{Steps, Chain}
use Rattle.box_geom.specs.Rectangle.{Rectangle, IsProper}
use Rattle.box_geom.specs.Touching.{Touch}
use Rattle.box_geom.specs.declared.shape.Shape.{Shape}
use Rattle.number_trees.proofs.Chains.{none, one, joined, turned}
use Rattle.scmos_rules.specs.declared.rules.Deck.{Deck}
use Rattle.number_trees.specs.Classes.{AreLeast}
use Rattle.net_extract.specs.Nets.{Site, Conducts, Wired, SameNet}
use Rattle.net_extract.specs.Numbering.{NotBehind, IsFirstOfNet, IsBefore, AreNets, IsInNet}
use Rattle.net_extract.specs.Bonds.{AreDrawn, Bond, touching, Bonded, IsPieceOf, IsIn, Paired}
use Rattle.net_extract.specs.Pieces.{rects_in, rect_of, corner_of, piece_cmp, piece_of}
use Rattle.net_extract.specs.Connections.{firsts_of, pieces_of, nets_of, AreWires, blank, heads_below, AreNumbered}
use Rattle.net_extract.specs.declared.piece.Piece.{Piece}
use Rattle.net_extract.specs.declared.connections.Wire.{Wire}
use Rattle.net_extract.proofs.Bonds.{carried_steps, one_net}
use Rattle.number_trees.proofs.Classing.{chained_same, same_chained, least_heads}
use Rattle.net_extract.proofs.Listing.{listed_of, piece_listed, piece_proper, corner_in, corner_conducts, held}
use Rattle.net_extract.proofs.Numbering.{head_of, head_is, heads_own, heads_other, as_many}
use Rattle.net_extract.proofs.Numbers.{wired_back}
use Rattle.net_extract.proofs.Pairing.{paired_back, paired_below, paired_of, bond_of_pair}
use Rattle.net_extract.proofs.Ranking.{not_behind_both, corner_first, same_site, ordered}

-- what stands at a place, whatever stands for a missing piece
pub at_blank : (qs : List Piece) (q : Piece) (k : ℕ) → k < length qs → get_or qs k q ≡ q → get_or qs k blank ≡ q
at_blank [] q k l e = absurd (omega (arith, l))
at_blank (x ∷ xs) q zero l e = e
at_blank (x ∷ xs) q (suc k) l e = at_blank xs q k (omega (arith, l)) e

-- the number of a piece of the list
pub record Numbered (ps : List Piece) (p : Piece) : Type 0 where
  pub at : ℕ
  pub within : at < length ps
  pub is : get_or ps at blank ≡ p

pub number_of : (ps : List Piece) (p : Piece) → Contains ps p → Numbered ps p
number_of ps p (k, l, e) = record { at = k; within = l; is = at_blank ps p k l e }

pub listed_at : (ps : List Piece) (i : ℕ) → i < length ps → Contains ps (get_or ps i blank)
listed_at ps i l = contains_get ps i (get_or ps i blank) (slice_get-get_or ps i blank l)

abbrev piece_at : List Piece → ℕ → Piece
piece_at ps i = get_or ps i blank

bonded_of : (deck : Deck) (s : List Shape) (ps : List Piece) (i j : ℕ) → Paired deck s ps i j → Bonded deck s (rects_in ps) (piece_at ps i) (piece_at ps j)
bonded_of deck s ps i j p =
    let b = paired_below deck s ps i j p in
    record { from = piece_listed ps (get_or ps i blank) (listed_at ps i b.0); to = piece_listed ps (get_or ps j blank) (listed_at ps j b.1); bond = bond_of_pair deck s ps i j blank p }

parts_chain : (deck : Deck) (s : List Shape) (ps : List Piece) (i j : ℕ) → Chain (Paired deck s ps) i j → Chain (Bonded deck s (rects_in ps)) (piece_at ps i) (piece_at ps j)
parts_chain deck s ps i j c = carried_steps (Paired deck s ps) (Bonded deck s (rects_in ps)) (piece_at ps) (bonded_of deck s ps) c.count i j c.steps

touch_self : (r : Rectangle) → IsProper r → Touch r r
touch_self r p = let w = p.wide in let h = p.high in record { one = record { x = r.x1; y = r.y1 }; other = record { x = r.x1; y = r.y1 }; in_a = omega (arith, ints); in_b = omega (arith, ints); meet = inl refl }

-- a piece is bonded to itself
same_part : (deck : Deck) (s : List Shape) (ps : List Piece) → AreDrawn s (rects_in ps) → (i j : ℕ) → i < length ps → j < length ps → piece_at ps i ≡ piece_at ps j → Paired deck s ps i j
same_part deck s ps d i j li lj e =
    paired_of deck s ps i j blank li lj (subst (λ z. Bond deck s (piece_at ps i) z) e (touching refl (touch_self (rect_of (get_or ps i blank)) (piece_proper s ps d (get_or ps i blank) (listed_at ps i li)))))

-- the number of a piece
record PieceNumber (ps : List Piece) (p : Piece) : Type 0 where
  pub at : ℕ
  pub within : at < length ps
  pub is : piece_at ps at ≡ p

piece_same : (p q : Piece) → p.kind ≡ q.kind → rect_of p ≡ rect_of q → p ≡ q
piece_same p q e f = subst (λ k. p ≡ piece_of k (rect_of q)) e (subst (λ r. p ≡ piece_of p.kind r) f refl)

piece_number : (ps : List Piece) (p : Piece) → IsPieceOf (rects_in ps) p → PieceNumber ps p
piece_number ps p c =
    let l = listed_of ps p.kind (rect_of p) c in
    let n = number_of ps l.piece l.listed in
    record { at = n.at; within = n.within; is = subst (λ z. z ≡ p) (sym n.is) (piece_same l.piece p l.kind l.rect) }

numbers_steps : (deck : Deck) (s : List Shape) (ps : List Piece) → AreDrawn s (rects_in ps) → (m : ℕ) (i j : ℕ) (p q : Piece) → i < length ps → j < length ps → piece_at ps i ≡ p → piece_at ps j ≡ q → Steps (Bonded deck s (rects_in ps)) m p q → Chain (Paired deck s ps) i j
numbers_steps deck s ps d zero i j p q li lj ei ej e = one (Paired deck s ps) i j (same_part deck s ps d i j li lj (ei ∙ e ∙ sym ej))
numbers_steps deck s ps d (suc m) i j p q li lj ei ej (mid, b, rest) =
    let n = piece_number ps mid b.to in
    let bond : Bond deck s (piece_at ps i) (piece_at ps n.at) = subst (λ z. Bond deck s z (piece_at ps n.at)) (sym ei) (subst (λ z. Bond deck s p z) (sym n.is) b.bond) in
    joined (Paired deck s ps) i n.at j (one (Paired deck s ps) i n.at (paired_of deck s ps i n.at blank li n.within bond)) (numbers_steps deck s ps d m n.at j mid q n.within lj n.is ej rest)

numbers_chain : (deck : Deck) (s : List Shape) (ps : List Piece) → AreDrawn s (rects_in ps) → (i j : ℕ) → i < length ps → j < length ps → Chain (Bonded deck s (rects_in ps)) (piece_at ps i) (piece_at ps j) → Chain (Paired deck s ps) i j
numbers_chain deck s ps d i j li lj c = numbers_steps deck s ps d c.count i j (piece_at ps i) (piece_at ps j) li lj refl refl c.steps

-- the end of a chain conducts
end_steps : (deck : Deck) (s : List Shape) (m : ℕ) (a b : Site) → Conducts s a → Steps (Wired deck s) m a b → Conducts s b
end_steps deck s zero a b ca e = subst (Conducts s) e ca
end_steps deck s (suc m) a b ca (c, w, r) = end_steps deck s m c b w.to r

pub end_conducts : (deck : Deck) (s : List Shape) (a b : Site) → SameNet deck s a b → Conducts s b
end_conducts deck s a b n = end_steps deck s n.chain.count a b n.conducts n.chain.steps

pub net_back : (deck : Deck) (s : List Shape) (a b : Site) → SameNet deck s a b → SameNet deck s b a
net_back deck s a b n = record { conducts = end_conducts deck s a b n; chain = turned (Wired deck s) (wired_back deck s) a b n.chain }

pub net_both : (deck : Deck) (s : List Shape) (a b c : Site) → SameNet deck s a b → SameNet deck s b c → SameNet deck s a c
net_both deck s a b c ab bc = record { conducts = ab.conducts; chain = joined (Wired deck s) a b c ab.chain bc.chain }

pub net_self : (deck : Deck) (s : List Shape) (a : Site) → Conducts s a → SameNet deck s a a
net_self deck s a c = record { conducts = c; chain = none (Wired deck s) a a refl }

-- ---- what is known of pieces, labels and numbers
pub record AreSet (deck : Deck) (s : List Shape) (ps : List Piece) (ls : List ℕ) : Type 0 where
  pub drawn : AreDrawn s (rects_in ps)
  pub sorted : IsSorted piece_cmp ps
  pub least : AreLeast (length ps) (Paired deck s ps) ls

abbrev at : List Piece → ℕ → Piece
at ps i = get_or ps i blank

-- cells of pieces with one label are of one net, and cells of one net lie in pieces with one label
label_net : (deck : Deck) (s : List Shape) (ps : List Piece) (ls : List ℕ) → AreSet deck s ps ls → (i j : ℕ) (a b : Site) → i < length ps → j < length ps → IsIn (piece_at ps i) a → IsIn (piece_at ps j) b → get_or ls i 0 ≡ get_or ls j 0 → SameNet deck s a b
label_net deck s ps ls z i j a b li lj ia jb e =
    (one_net deck s (rects_in ps) (piece_at ps i) (piece_at ps j) a b z.drawn (piece_listed ps (at ps i) (listed_at ps i li)) (piece_listed ps (at ps j) (listed_at ps j lj)) ia jb).1
    (parts_chain deck s ps i j (same_chained (length ps) (Paired deck s ps) (paired_back deck s ps) ls z.least i j li lj e))

net_label : (deck : Deck) (s : List Shape) (ps : List Piece) (ls : List ℕ) → AreSet deck s ps ls → (i j : ℕ) (a b : Site) → i < length ps → j < length ps → IsIn (piece_at ps i) a → IsIn (piece_at ps j) b → SameNet deck s a b → get_or ls i 0 ≡ get_or ls j 0
net_label deck s ps ls z i j a b li lj ia jb n =
    chained_same (length ps) (Paired deck s ps) ls z.least i j (numbers_chain deck s ps z.drawn i j li lj
    ((one_net deck s (rects_in ps) (piece_at ps i) (piece_at ps j) a b z.drawn (piece_listed ps (at ps i) (listed_at ps i li)) (piece_listed ps (at ps j) (listed_at ps j lj)) ia jb).0 n))

corner_at : (s : List Shape) (ps : List Piece) → AreDrawn s (rects_in ps) → (i : ℕ) → i < length ps → IsIn (piece_at ps i) (corner_of (at ps i))
corner_at s ps d i l = corner_in (at ps i) (piece_proper s ps d (at ps i) (listed_at ps i l))

-- where a conductor cell lies
record Place (ps : List Piece) (a : Site) : Type 0 where
  pub at : ℕ
  pub within : at < length ps
  pub inside : IsIn (get_or ps at blank) a

place_of : (s : List Shape) (ps : List Piece) → AreDrawn s (rects_in ps) → (a : Site) → Conducts s a → Place ps a
place_of s ps d a c =
    let h = held s ps d a c in
    let n = number_of ps h.piece h.listed in
    record { at = n.at; within = n.within; inside = subst (λ z. IsIn z a) (sym n.is) h.inside }

-- the corner of a head comes first in its net
head_first : (deck : Deck) (s : List Shape) (ps : List Piece) (ls : List ℕ) → AreSet deck s ps ls → (i : ℕ) → i < length ps → get_or ls i 0 ≡ i → IsFirstOfNet deck s (corner_of (at ps i))
head_first deck s ps ls z i l own = record {
  conducts = corner_conducts s ps z.drawn (at ps i) (listed_at ps i l);
  first = λ b n.
      let c = place_of s ps z.drawn b (end_conducts deck s (corner_of (at ps i)) b n) in
      let e = net_label deck s ps ls z i c.at (corner_of (at ps i)) b l c.within (corner_at s ps z.drawn i l) c.inside n in
      let low = z.least.sound.low c.at c.within in
      let le : i ≤ c.at = omega (arith, e, own, low) in
      not_behind_both (corner_of (at ps i)) (corner_of (at ps c.at)) b (ordered ps blank z.sorted i c.at le c.within) (corner_first (at ps c.at) b c.inside);
}

-- heads come in order
heads_before : (deck : Deck) (s : List Shape) (ps : List Piece) (ls : List ℕ) → AreSet deck s ps ls → (i j : ℕ) → i < j → j < length ps → get_or ls i 0 ≡ i → get_or ls j 0 ≡ j → IsBefore (corner_of (at ps i)) (corner_of (at ps j))
heads_before deck s ps ls z i j less l oi oj =
    let li : i < length ps = omega (arith, less, l) in
    let up : NotBehind (corner_of (at ps i)) (corner_of (at ps j)) = ordered ps blank z.sorted i j (omega (arith, less)) l in
    record {
      not_behind = up;
      other = λ back.
          let ca = corner_conducts s ps z.drawn (at ps i) (listed_at ps i li) in
          let e : corner_of (at ps i) ≡ corner_of (at ps j) = same_site s (corner_of (at ps i)) (corner_of (at ps j)) ca (corner_conducts s ps z.drawn (at ps j) (listed_at ps j l)) up back in
          let n : SameNet deck s (corner_of (at ps i)) (corner_of (at ps j)) = subst (λ b. SameNet deck s (corner_of (at ps i)) b) e (net_self deck s (corner_of (at ps i)) ca) in
          let same = net_label deck s ps ls z i j (corner_of (at ps i)) (corner_of (at ps j)) li l (corner_at s ps z.drawn i li) (corner_at s ps z.drawn j l) n in
          omega (arith, same, oi, oj, less);
    }

map_append : {X Y : Type 0} (f : X → Y) (xs ys : List X) → map f (xs ++ ys) ≡ map f xs ++ map f ys
map_append f [] ys = refl
map_append f (x ∷ xs) ys = ap (λ z. f x ∷ z) (map_append f xs ys)

pub pairs_none : {X : Type 0} (R : X → X → Type 0) → AllPairs R []
pairs_none R = λ i j d lt l. absurd (omega (arith, l))

pub pairs_one : {X : Type 0} (R : X → X → Type 0) (x : X) → AllPairs R (x ∷ [])
pairs_one R x = λ i j d lt l. absurd (omega (arith, lt, l))

suc_one : (k : ℕ) → ◌≡◌ {A = ℕ} (k + 1) (suc k)
suc_one k = omega arith

pub heads_ascend : (deck : Deck) (s : List Shape) (ps : List Piece) (ls : List ℕ) → AreSet deck s ps ls → (k : ℕ) → k ≤ length ps → AllPairs IsBefore (firsts_of (heads_below ps ls k))
heads_ascend deck s ps ls z zero le = pairs_none IsBefore
heads_ascend deck s ps ls z (suc k) le =
    elim (cases_eq (get_or ls k 0) k) [
      | inl own ↦ subst (λ hs. AllPairs IsBefore (firsts_of hs)) (sym (with_own own)) (subst (AllPairs IsBefore) (sym (map_append corner_of (heads_below ps ls k) (at ps k ∷ []))) (pairs_append IsBefore (firsts_of (heads_below ps ls k)) (corner_of (at ps k) ∷ []) (heads_ascend deck s ps ls z k (omega (arith, le))) (pairs_one IsBefore (corner_of (at ps k))) (all_from_contains (λ a. All (IsBefore a) (corner_of (at ps k) ∷ [])) (firsts_of (heads_below ps ls k)) (λ a c. all_one (IsBefore a) (corner_of (at ps k)) (before own a c)))))
      | inr ne ↦ subst (λ hs. AllPairs IsBefore (firsts_of hs)) (sym (without ne)) (heads_ascend deck s ps ls z k (omega (arith, le)))
    ]
  where
    with_own : get_or ls k 0 ≡ k → heads_below ps ls (suc k) ≡ heads_below ps ls k ++ at ps k ∷ []
    with_own e = subst (λ n. heads_below ps ls n ≡ heads_below ps ls k ++ at ps k ∷ []) (suc_one k) (heads_own ps ls k e)

    without : (get_or ls k 0 ≡ k → ⊥) → heads_below ps ls (suc k) ≡ heads_below ps ls k
    without ne = subst (λ n. heads_below ps ls n ≡ heads_below ps ls k) (suc_one k) (heads_other ps ls k ne)

    before : get_or ls k 0 ≡ k → (a : Site) → Contains (firsts_of (heads_below ps ls k)) a → IsBefore a (corner_of (at ps k))
    before own a c =
        let i = in_map corner_of (heads_below ps ls k) a c in
        let h = head_of ps ls k i.of i.listed in
        let b : IsBefore (corner_of (at ps h.at)) (corner_of (at ps k)) = heads_before deck s ps ls z h.at k h.below (omega (arith, le)) h.own own in
        subst (λ x. IsBefore x (corner_of (at ps k))) i.is (subst (λ x. IsBefore (corner_of x) (corner_of (at ps k))) h.is b)

nets_of_heads : (deck : Deck) (s : List Shape) (ps : List Piece) (ls : List ℕ) → AreSet deck s ps ls → AreNets deck s (firsts_of (heads_below ps ls (length ps)))
nets_of_heads deck s ps ls z = record {
  ascending = heads_ascend deck s ps ls z (length ps) (omega arith);
  sound = λ a c.
      let i = in_map corner_of (heads_below ps ls (length ps)) a c in
      let h = head_of ps ls (length ps) i.of i.listed in
      subst (IsFirstOfNet deck s) i.is (subst (λ x. IsFirstOfNet deck s (corner_of x)) h.is (head_first deck s ps ls z h.at h.below h.own));
  all = λ a f.
      let c = place_of s ps z.drawn a f.conducts in
      let low = z.least.sound.low c.at c.within in
      let top : ℕ = get_or ls c.at 0 in
      let lt : get_or ls c.at 0 < length ps = (let w = c.within in omega (arith, low, w)) in
      let own : get_or ls (get_or ls c.at 0) 0 ≡ get_or ls c.at 0 = (least_heads (length ps) (Paired deck s ps) ls z.least).itself c.at c.within in
      let n : SameNet deck s a (corner_of (at ps (get_or ls c.at 0))) = label_net deck s ps ls z c.at (get_or ls c.at 0) a (corner_of (at ps (get_or ls c.at 0))) c.within lt c.inside (corner_at s ps z.drawn (get_or ls c.at 0) lt) (sym own) in
      let there : NotBehind a (corner_of (at ps (get_or ls c.at 0))) = f.first (corner_of (at ps (get_or ls c.at 0))) n in
      let back : NotBehind (corner_of (at ps (get_or ls c.at 0))) a = not_behind_both (corner_of (at ps (get_or ls c.at 0))) (corner_of (at ps c.at)) a (ordered ps blank z.sorted (get_or ls c.at 0) c.at low c.within) (corner_first (at ps c.at) a c.inside) in
      let e : a ≡ corner_of (at ps (get_or ls c.at 0)) = same_site s a (corner_of (at ps (get_or ls c.at 0))) f.conducts (corner_conducts s ps z.drawn (at ps (get_or ls c.at 0)) (listed_at ps (get_or ls c.at 0) lt)) there back in
      subst (Contains (firsts_of (heads_below ps ls (length ps)))) (sym e) (contains_map corner_of (heads_below ps ls (length ps)) (at ps (get_or ls c.at 0)) (head_is ps ls (length ps) (get_or ls c.at 0) lt own));
}

-- number n of the wires
pub wires_are : (deck : Deck) (s : List Shape) (ps : List Piece) (ls : List ℕ) (wires : List Wire) (firsts : List Piece) → AreSet deck s ps ls → AreNumbered ps ls (length ps) wires firsts → AreWires deck s wires firsts
wires_are deck s ps ls wires firsts z is = record {
  drawn = subst (λ qs. AreDrawn s (rects_in qs)) (sym pieces) z.drawn;
  nets = subst (λ fs. AreNets deck s (firsts_of fs)) (sym is.heads) (nets_of_heads deck s ps ls z);
  numbers = all_from_contains (λ (w : Wire). IsInNet deck s (firsts_of firsts) w.net (corner_of w.piece)) wires numbered;
}
  where
    pieces : pieces_of wires ≡ ps
    pieces = is.pieces ∙ take_all (length ps) ps (omega arith)

    many : length wires ≡ length ps
    many = as_many ps ls (length ps) wires firsts (omega arith) is

    numbered : (w : Wire) → Contains wires w → IsInNet deck s (firsts_of firsts) w.net (corner_of w.piece)
    numbered w (i, l, e) =
        let li : i < length ps = omega (arith, l, many) in
        let piece : get_or ps i blank ≡ w.piece = subst (λ qs. get_or qs i blank ≡ w.piece) pieces (get_or-map (λ (v : Wire). v.piece) wires i w blank l ∙ ap (λ (v : Wire). v.piece) e) in
        let net : get_or (nets_of wires) i 0 ≡ w.net = get_or-map (λ (v : Wire). v.net) wires i w 0 l ∙ ap (λ (v : Wire). v.net) e in
        let got : slice_get firsts w.net ≡ Some (get_or ps (get_or ls i 0) blank) = subst (λ n. slice_get firsts n ≡ Some (get_or ps (get_or ls i 0) blank)) net (is.numbers i li) in
        let low = z.least.sound.low i li in
        let lt : get_or ls i 0 < length ps = omega (arith, low, li) in
        let own : get_or ls (get_or ls i 0) 0 ≡ get_or ls i 0 = (least_heads (length ps) (Paired deck s ps) ls z.least).itself i li in
        let n : SameNet deck s (corner_of (at ps (get_or ls i 0))) (corner_of (at ps i)) = label_net deck s ps ls z (get_or ls i 0) i (corner_of (at ps (get_or ls i 0))) (corner_of (at ps i)) lt li (corner_at s ps z.drawn (get_or ls i 0) lt) (corner_at s ps z.drawn i li) own in
        record {
          first = corner_of (at ps (get_or ls i 0));
          numbered = slice_get-map corner_of firsts w.net ∙ ap (option_map corner_of) got;
          same = subst (λ x. SameNet deck s (corner_of (at ps (get_or ls i 0))) (corner_of x)) piece n;
        }
