-- The ties that the code numbers are those of taps.
use Rattle.std.proofs.Common.{◌≡◌, ℕ, ◌+◌, ◌<◌, ◌≤◌, ℤ, Bool, true, false, ◌&&◌, if◌then◌else◌, Option, Some, None, List, [], length, get_or, slice_get, arith, refl, sym, subst, ap, ◌∙◌, inl, inr}
use Rattle.std.specs.List.{All, Contains}
use Rattle.std.specs.Option.{option_map}
use Rattle.std.proofs.lemmas.List.{get_or-map, length-map}
use Rattle.std.proofs.lemmas.List.Elements.{All-contains, Contains-get_or}
use Rattle.std.proofs.lemmas.Option.{slice_get_within, get_or_from_slice_get}
use Rattle.cell_num.proofs.Lists.{some_same, contains_get}
use Rattle.box_geom.specs.Rectangle.{Rectangle, IsProper, Holds}
use Rattle.box_geom.specs.Chains.{Linked}
use Rattle.box_geom.specs.Layers.{same_layer}
use Rattle.box_geom.specs.declared.shape.Shape.{Shape}
use Rattle.box_geom.specs.declared.layer.Layer.{Layer}
use Rattle.box_geom.specs.declared.layer.Layer.TheVariants.{Well, PSelect, NSelect}
use Rattle.scmos_rules.specs.Failing.{SameClass}
use Rattle.scmos_rules.specs.Layout.{On}
use Rattle.scmos_rules.specs.declared.rules.Deck.TheVariants.{Plain, Taps}
use Rattle.number_trees.proofs.Chains.{joined}
use Rattle.number_trees.specs.Ties.{HaveOneTie}
use Rattle.number_trees.proofs.Tying.{one_tie, of_one_tie, one_below}
use Rattle.net_extract.specs.Areas.{meeting, meeting_any}
use Rattle.net_extract.specs.Connections.{blank, firsts_of, IsFound}
use Rattle.net_extract.specs.GateNets.{AreWellNets}
use Rattle.net_extract.specs.Lookups.{net_in}
use Rattle.net_extract.specs.Nets.{site_at, Are, Tied, by_well, by_substrate}
use Rattle.net_extract.specs.Bonds.{AreDrawn, Bond, touching, joining, tying, AreTied, Paired}
use Rattle.net_extract.specs.Pieces.{rect_of, rects_in}
use Rattle.net_extract.specs.Ties.{well_tie, tie_by, tie_of, ties_of, PairedOrTied, AreTies}
use Rattle.net_extract.specs.declared.connections.Wire.{Wire}
use Rattle.net_extract.specs.declared.piece.Conductor.{Conductor}
use Rattle.net_extract.specs.declared.piece.Conductor.TheVariants.{PDiffusion, NDiffusion, Poly, Metal1, Metal2}
use Rattle.net_extract.specs.declared.piece.Piece.{Piece}
use Rattle.net_extract.proofs.Filling.{meeting_decides, and_parts, and_true}
use Rattle.net_extract.proofs.Finding.{any_of, of_any, shows, shown}
use Rattle.net_extract.proofs.Labelling.{net_in_some, net_in_none}
use Rattle.net_extract.proofs.Listing.{piece_proper, inside_conducts}
use Rattle.net_extract.proofs.Numbers.{one_number}
use Rattle.net_extract.proofs.Pairing.{paired_of}
use Rattle.net_extract.proofs.PolyClasses.{cell, class_of_net, net_of_class, same_class, class_back}
use Rattle.net_extract.proofs.Siding.{corner_held, move_net, same_number}

-- ---- a cell of a rectangle on a layer
pub record Marked (s : List Shape) (layer : Layer) (r : Rectangle) : Type 0 where
  pub x : ℤ
  pub y : ℤ
  pub holds : Holds r x y
  pub on : On layer s x y

abbrev meeting_on : Layer → Rectangle → Shape → Bool
meeting_on layer r z = same_layer z.layer layer && meeting r z.rect

shape_proper : (s : List Shape) → All (λ (z : Shape). IsProper z.rect) s → (z : Shape) → Contains s z → IsProper z.rect
shape_proper s all z c = All-contains (λ (w : Shape). IsProper w.rect) s z all c

mark_of : (s : List Shape) (layer : Layer) (r : Rectangle) → IsProper r → All (λ (z : Shape). IsProper z.rect) s → meeting_any s layer r ≡ true → Marked s layer r
mark_of s layer r p all e =
    let w = any_of (meeting_on layer r) s e in
    let t = and_parts (same_layer w.it.layer layer) (meeting r w.it.rect) w.passes in
    let c = (meeting_decides r w.it.rect p (shape_proper s all w.it w.listed)).0 t.1 in
    record { x = c.x; y = c.y; holds = c.in_a; on = shown s layer w.it c.x c.y w.listed t.0 c.in_b }

of_mark : (s : List Shape) (layer : Layer) (r : Rectangle) → IsProper r → All (λ (z : Shape). IsProper z.rect) s → Marked s layer r → meeting_any s layer r ≡ true
of_mark s layer r p all m =
    let w = shows s layer m.x m.y m.on in
    let h = m.holds in
    of_any (meeting_on layer r) s w.shape w.listed (and_true (same_layer w.shape.layer layer) (meeting r w.shape.rect) w.on ((meeting_decides r w.shape.rect p (shape_proper s all w.shape w.listed)).1 (record { x = m.x; y = m.y; in_a = h; in_b = w.holds })))

-- ---- classes of well cells
pub record InWell (wells : List Wire) (x y : ℤ) : Type 0 where
  pub class : ℕ
  pub is : net_in wells Poly x y ≡ Some class

pub in_well : (s : List Shape) (wells : List Wire) (firsts : List Piece) → AreWellNets s wells firsts → (x y : ℤ) → On Well s x y → InWell wells x y
in_well s wells firsts z x y on = by (net_in wells Poly x y) refl
  where
    by : (o : Option ℕ) → net_in wells Poly x y ≡ o → InWell wells x y
    by (Some n) e = record { class = n; is = e }
    by None e = absurd (net_in_none Plain z.shapes wells firsts z.nets Poly x y e ((z.are.poly x y).1 on))

well_found : (s : List Shape) (wells : List Wire) (firsts : List Piece) (z : AreWellNets s wells firsts) (x y : ℤ) (n : ℕ) → net_in wells Poly x y ≡ Some n → IsFound Plain z.shapes (firsts_of firsts) Poly x y n
well_found s wells firsts z x y n e = net_in_some Plain z.shapes wells firsts z.nets Poly x y n e

pub of_well_net : (s : List Shape) (wells : List Wire) (firsts : List Piece) → AreWellNets s wells firsts → (x y : ℤ) (n : ℕ) → net_in wells Poly x y ≡ Some n → On Well s x y
of_well_net s wells firsts z x y n e = (z.are.poly x y).0 (well_found s wells firsts z x y n e).conducts

pub one_class : (s : List Shape) (wells : List Wire) (firsts : List Piece) → AreWellNets s wells firsts → (x y u v : ℤ) (m n : ℕ) → net_in wells Poly x y ≡ Some m → net_in wells Poly u v ≡ Some n → m ≡ n → SameClass (On Well s) x y u v
one_class s wells firsts z x y u v m n e f same =
    class_of_net (On Well s) z.shapes z.are x y u v (same_number Plain z.shapes (firsts_of firsts) m n (site_at Poly x y) (site_at Poly u v) same (well_found s wells firsts z x y m e).net (well_found s wells firsts z u v n f).net)

pub class_one : (s : List Shape) (wells : List Wire) (firsts : List Piece) → AreWellNets s wells firsts → (x y u v : ℤ) (m n : ℕ) → net_in wells Poly x y ≡ Some m → net_in wells Poly u v ≡ Some n → SameClass (On Well s) x y u v → m ≡ n
class_one s wells firsts z x y u v m n e f c =
    let on : On Well s x y = of_well_net s wells firsts z x y m e in
    one_number Plain z.shapes (firsts_of firsts) m n (site_at Poly u v) z.nets.nets
    (move_net Plain z.shapes (firsts_of firsts) m (site_at Poly x y) (site_at Poly u v) (well_found s wells firsts z x y m e).net (net_of_class (On Well s) z.shapes z.are x y u v on c))
    (well_found s wells firsts z u v n f).net

-- ---- the tie of a piece
pub data IsTie (s : List Shape) (wells : List Wire) (p : Piece) (t : ℕ) : Type 0 where
  of_well : p.kind ≡ PDiffusion → Marked s NSelect (rect_of p) → (m : ℕ) → net_in wells Poly p.left p.low ≡ Some m → t ≡ m + 1 → IsTie s wells p t
  of_substrate : p.kind ≡ NDiffusion → Marked s PSelect (rect_of p) → t ≡ 0 → IsTie s wells p t

pub tie_is : (s : List Shape) (wells : List Wire) (p : Piece) (t : ℕ) → IsProper (rect_of p) → All (λ (z : Shape). IsProper z.rect) s → tie_of s wells p ≡ Some t → IsTie s wells p t
tie_is s wells p t proper all e = by p.kind refl e
  where
    in_class : (o : Option ℕ) → p.kind ≡ PDiffusion → meeting_any s NSelect (rect_of p) ≡ true → net_in wells Poly p.left p.low ≡ o → option_map (λ n. n + 1) o ≡ Some t → IsTie s wells p t
    in_class (Some m) k g h f = of_well k (mark_of s NSelect (rect_of p) proper all g) m h (sym (some_same (m + 1) t f))
    in_class None k g h f = absurd (cc f)

    p_by : (b : Bool) → p.kind ≡ PDiffusion → meeting_any s NSelect (rect_of p) ≡ b → (if b then well_tie wells p.left p.low else None) ≡ Some t → IsTie s wells p t
    p_by true k g f = in_class (net_in wells Poly p.left p.low) k g refl f
    p_by false k g f = absurd (cc f)

    n_by : (b : Bool) → p.kind ≡ NDiffusion → meeting_any s PSelect (rect_of p) ≡ b → (if b then Some 0 else None) ≡ Some t → IsTie s wells p t
    n_by true k g f = of_substrate k (mark_of s PSelect (rect_of p) proper all g) (sym (some_same 0 t f))
    n_by false k g f = absurd (cc f)

    by : (k : Conductor) → p.kind ≡ k → tie_by k s wells p ≡ Some t → IsTie s wells p t
    by PDiffusion k f = p_by (meeting_any s NSelect (rect_of p)) k refl f
    by NDiffusion k f = n_by (meeting_any s PSelect (rect_of p)) k refl f
    by Poly k f = absurd (cc f)
    by Metal1 k f = absurd (cc f)
    by Metal2 k f = absurd (cc f)

if_true : (b : Bool) (x y : Option ℕ) → b ≡ true → (if b then x else y) ≡ x
if_true true x y e = refl
if_true false x y e = absurd (cc e)

pub is_tie : (s : List Shape) (wells : List Wire) (p : Piece) (t : ℕ) → IsProper (rect_of p) → All (λ (z : Shape). IsProper z.rect) s → IsTie s wells p t → tie_of s wells p ≡ Some t
is_tie s wells p t proper all (of_well k g m h q) =
    subst (λ (c : Conductor). tie_by c s wells p ≡ Some t) (sym k)
    (if_true (meeting_any s NSelect (rect_of p)) (well_tie wells p.left p.low) None (of_mark s NSelect (rect_of p) proper all g)
    ∙ ap (option_map (λ n. n + 1)) h ∙ ap (λ z. Some z) (sym q))
is_tie s wells p t proper all (of_substrate k g q) =
    subst (λ (c : Conductor). tie_by c s wells p ≡ Some t) (sym k)
    (if_true (meeting_any s PSelect (rect_of p)) (Some 0) None (of_mark s PSelect (rect_of p) proper all g) ∙ ap (λ z. Some z) (sym q))

-- ---- pieces of a drawing and its wells
pub record IsGround (s : List Shape) (ps : List Piece) (wells : List Wire) (firsts : List Piece) : Type 0 where
  pub proper : All (λ (z : Shape). IsProper z.rect) s
  pub drawn : AreDrawn s (rects_in ps)
  pub classes : AreWellNets s wells firsts

pub of_kind : (s : List Shape) (ps : List Piece) → AreDrawn s (rects_in ps) → (k : Conductor) (p : Piece) → Contains ps p → p.kind ≡ k → (x y : ℤ) → Holds (rect_of p) x y → Are s k x y
of_kind s ps d k p c e x y h = subst (λ (j : Conductor). Are s j x y) e (inside_conducts s ps d p c (site_at p.kind x y) (record { kind = refl; holds = h }))

pub in_corner : (p : Piece) → IsProper (rect_of p) → Holds (rect_of p) p.left p.low
in_corner p proper = corner_held (rect_of p) proper

-- the corner of a piece in the well is in the class of each of its cells
pub corner_class : (s : List Shape) (ps : List Piece) → AreDrawn s (rects_in ps) → (p : Piece) → Contains ps p → p.kind ≡ PDiffusion → (x y : ℤ) → Holds (rect_of p) x y → SameClass (On Well s) p.left p.low x y
corner_class s ps d p c e x y h = same_class (On Well s) (rect_of p) (λ u v k. (of_kind s ps d PDiffusion p c e u v k).1) p.left p.low x y (in_corner p (piece_proper s ps d p c)) h

pub corner_in_well : (s : List Shape) (ps : List Piece) (wells : List Wire) (firsts : List Piece) → IsGround s ps wells firsts → (p : Piece) → Contains ps p → p.kind ≡ PDiffusion → InWell wells p.left p.low
corner_in_well s ps wells firsts g p c e = in_well s wells firsts g.classes p.left p.low (of_kind s ps g.drawn PDiffusion p c e p.left p.low (in_corner p (piece_proper s ps g.drawn p c))).1

pub p_alone : (k : Conductor) → k ≡ PDiffusion → k ≡ PDiffusion
p_alone PDiffusion e = refl
p_alone NDiffusion e = absurd (cc e)
p_alone Poly e = absurd (cc e)
p_alone Metal1 e = absurd (cc e)
p_alone Metal2 e = absurd (cc e)

pub n_alone : (k : Conductor) → k ≡ NDiffusion → k ≡ NDiffusion
n_alone PDiffusion e = absurd (cc e)
n_alone NDiffusion e = refl
n_alone Poly e = absurd (cc e)
n_alone Metal1 e = absurd (cc e)
n_alone Metal2 e = absurd (cc e)

-- pieces of one tie are tied
tied_of : (s : List Shape) (ps : List Piece) (wells : List Wire) (firsts : List Piece) → IsGround s ps wells firsts → (p q : Piece) → Contains ps p → Contains ps q → (t : ℕ) → IsTie s wells p t → IsTie s wells q t → AreTied s p q
tied_of s ps wells firsts g p q cp cq t (of_well e a m h u) (of_well f b n k v) =
    let same : m ≡ n = omega (arith, u, v) in
    let corners : SameClass (On Well s) p.left p.low q.left q.low = one_class s wells firsts g.classes p.left p.low q.left q.low m n h k same in
    let here : SameClass (On Well s) a.x a.y p.left p.low = class_back (On Well s) p.left p.low a.x a.y (corner_class s ps g.drawn p cp e a.x a.y a.holds) in
    let there : SameClass (On Well s) q.left q.low b.x b.y = corner_class s ps g.drawn q cq f b.x b.y b.holds in
    record {
      x = a.x;
      y = a.y;
      u = b.x;
      v = b.y;
      in_p = a.holds;
      in_q = b.holds;
      tied = by_well e f a.on b.on (joined (Linked (On Well s)) (cell a.x a.y) (cell p.left p.low) (cell b.x b.y) here (joined (Linked (On Well s)) (cell p.left p.low) (cell q.left q.low) (cell b.x b.y) corners there));
    }
tied_of s ps wells firsts g p q cp cq t (of_substrate e a u) (of_substrate f b v) = record { x = a.x; y = a.y; u = b.x; v = b.y; in_p = a.holds; in_q = b.holds; tied = by_substrate e f a.on b.on }
tied_of s ps wells firsts g p q cp cq t (of_well e a m h u) (of_substrate f b v) = absurd (omega (arith, u, v))
tied_of s ps wells firsts g p q cp cq t (of_substrate f b v) (of_well e a m h u) = absurd (omega (arith, u, v))

-- tied pieces have one tie
record ShareTie (s : List Shape) (wells : List Wire) (p q : Piece) : Type 0 where
  pub tie : ℕ
  pub first : IsTie s wells p tie
  pub other : IsTie s wells q tie

tie_shared : (s : List Shape) (ps : List Piece) (wells : List Wire) (firsts : List Piece) → IsGround s ps wells firsts → (p q : Piece) → Contains ps p → Contains ps q → AreTied s p q → ShareTie s wells p q
tie_shared s ps wells firsts g p q cp cq z = by z.tied
  where
    by : Tied s (site_at p.kind z.x z.y) (site_at q.kind z.u z.v) → ShareTie s wells p q
    by (by_well k l m n c) =
        let e : p.kind ≡ PDiffusion = p_alone p.kind k in
        let f : q.kind ≡ PDiffusion = p_alone q.kind l in
        let a : InWell wells p.left p.low = corner_in_well s ps wells firsts g p cp e in
        let b : InWell wells q.left q.low = corner_in_well s ps wells firsts g q cq f in
        let here : SameClass (On Well s) p.left p.low z.x z.y = corner_class s ps g.drawn p cp e z.x z.y z.in_p in
        let there : SameClass (On Well s) z.u z.v q.left q.low = class_back (On Well s) q.left q.low z.u z.v (corner_class s ps g.drawn q cq f z.u z.v z.in_q) in
        let all : SameClass (On Well s) p.left p.low q.left q.low = joined (Linked (On Well s)) (cell p.left p.low) (cell z.x z.y) (cell q.left q.low) here (joined (Linked (On Well s)) (cell z.x z.y) (cell z.u z.v) (cell q.left q.low) c there) in
        let same : a.class ≡ b.class = class_one s wells firsts g.classes p.left p.low q.left q.low a.class b.class a.is b.is all in
        record {
          tie = a.class + 1;
          first = of_well e (record { x = z.x; y = z.y; holds = z.in_p; on = m }) a.class a.is refl;
          other = of_well f (record { x = z.u; y = z.v; holds = z.in_q; on = n }) b.class b.is (ap (λ k. k + 1) same);
        }
    by (by_substrate k l m n) = record {
      tie = 0;
      first = of_substrate (n_alone p.kind k) (record { x = z.x; y = z.y; holds = z.in_p; on = m }) refl;
      other = of_substrate (n_alone q.kind l) (record { x = z.u; y = z.v; holds = z.in_q; on = n }) refl;
    }

-- ---- the ties of a deck
pub plain_ties : (s : List Shape) (ps : List Piece) (ties : List (Option ℕ)) → ties ≡ [] → AreTies Plain s ps ties
plain_ties s ps ties e = record {
  sound = λ i j h. absurd (let b = (one_below ties i j h).0 in let l : length ties ≡ 0 = ap (λ (zs : List (Option ℕ)). length zs) e in omega (arith, b, l));
  all = λ i j p. inl p;
}

taps_ties : (s : List Shape) (ps : List Piece) (wells : List Wire) (firsts : List Piece) → IsGround s ps wells firsts → AreTies Taps s ps (ties_of s wells ps)
taps_ties s ps wells firsts g = record { sound = sound; all = all }
  where
    many : length (ties_of s wells ps) ≡ length ps
    many = length-map ps (tie_of s wells)

    at : (i : ℕ) → i < length ps → get_or (ties_of s wells ps) i None ≡ tie_of s wells (get_or ps i blank)
    at i l = get_or-map (tie_of s wells) ps i blank None l

    is_at : (i t : ℕ) → i < length ps → get_or (ties_of s wells ps) i None ≡ Some t → IsTie s wells (get_or ps i blank) t
    is_at i t l e = tie_is s wells (get_or ps i blank) t (piece_proper s ps g.drawn (get_or ps i blank) (Contains-get_or ps i blank l)) g.proper (sym (at i l) ∙ e)

    sound : (i j : ℕ) → HaveOneTie (ties_of s wells ps) i j → Paired Taps s ps i j
    sound i j h =
        let o = one_tie (get_or (ties_of s wells ps) i None) (get_or (ties_of s wells ps) j None) h.is in
        let b = one_below (ties_of s wells ps) i j h in
        let b0 = b.0 in
        let b1 = b.1 in
        let c = many in
        let li : i < length ps = omega (arith, b0, c) in
        let lj : j < length ps = omega (arith, b1, c) in
        paired_of Taps s ps i j blank li lj (tying refl (tied_of s ps wells firsts g (get_or ps i blank) (get_or ps j blank) (Contains-get_or ps i blank li) (Contains-get_or ps j blank lj) o.tie (is_at i o.tie li o.first) (is_at j o.tie lj o.other)))

    tie_there : (i t : ℕ) (p : Piece) → slice_get ps i ≡ Some p → IsTie s wells p t → get_or (ties_of s wells ps) i None ≡ Some t
    tie_there i t p e is =
        at i (slice_get_within ps i p e) ∙ ap (tie_of s wells) (get_or_from_slice_get ps i p blank e)
        ∙ is_tie s wells p t (piece_proper s ps g.drawn p (contains_get ps i p e)) g.proper is

    all : (i j : ℕ) → Paired Taps s ps i j → PairedOrTied s ps (ties_of s wells ps) i j
    all i j p = by p.bond
      where
        by : Bond Taps s p.one p.other → PairedOrTied s ps (ties_of s wells ps) i j
        by (touching e t) = inl (record { one = p.one; other = p.other; at_one = p.at_one; at_other = p.at_other; bond = touching e t })
        by (joining b) = inl (record { one = p.one; other = p.other; at_one = p.at_one; at_other = p.at_other; bond = joining b })
        by (tying e z) =
            let w = tie_shared s ps wells firsts g p.one p.other (contains_get ps i p.one p.at_one) (contains_get ps j p.other p.at_other) z in
            inr (record { is = of_one_tie w.tie (get_or (ties_of s wells ps) i None) (get_or (ties_of s wells ps) j None) (tie_there i w.tie p.one p.at_one w.first) (tie_there j w.tie p.other p.at_other w.other) })

pub taps_from : (s : List Shape) (ps qs rs : List Piece) (ws wells : List Wire) (firsts : List Piece) (ts ties : List (Option ℕ)) → wells ≡ ws → qs ≡ ps → rs ≡ ps → ts ≡ ties_of s wells qs → ties ≡ ts → All (λ (z : Shape). IsProper z.rect) s → AreDrawn s (rects_in ps) → AreWellNets s ws firsts → AreTies Taps s rs ties
taps_from s ps qs rs ws wells firsts ts ties ew eq er et es proper drawn nets =
    let mine : AreTies Taps s ps (ties_of s ws ps) = taps_ties s ps ws firsts (record { proper = proper; drawn = drawn; classes = nets }) in
    let e : ties_of s ws ps ≡ ties = ap (λ (zs : List Wire). ties_of s zs ps) (sym ew) ∙ ap (ties_of s wells) (sym eq) ∙ sym et ∙ sym es in
    subst (λ zs. AreTies Taps s zs ties) (sym er) (subst (AreTies Taps s ps) e mine)

pub few_ties : (s : List Shape) (ps qs rs : List Piece) (wells : List Wire) (ts ties : List (Option ℕ)) → qs ≡ ps → rs ≡ ps → ts ≡ ties_of s wells qs → ties ≡ ts → length ties ≤ length rs
few_ties s ps qs rs wells ts ties eq er et es =
    let a : length ties ≡ length (ties_of s wells qs) = ap (λ (zs : List (Option ℕ)). length zs) (es ∙ et) in
    let b = length-map qs (tie_of s wells) in
    let c : length qs ≡ length rs = ap (λ (zs : List Piece). length zs) (eq ∙ sym er) in
    omega (arith, a, b, c)
