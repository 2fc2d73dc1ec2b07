-- The labels of a routed row name its nets.
use Rattle.std.proofs.Common.{ℕ, ◌≡◌, ◌≢◌, ◌↔◌, ◌+◌, ◌<◌, List, [], Some, inl, inr, refl, sym, ap, subst, ◌∙◌, arith, AllPairs, Any, Contains, length}
use Rattle.std.specs.List.{range_with_len}
use Rattle.std.proofs.lemmas.Bool.{cases_lt, eq-eqb}
use Rattle.std.proofs.lemmas.List.Elements.{All-contains}
use Rattle.std.proofs.lemmas.List.FromFn.{get_or-range_with_len, length-range_with_len}
use Rattle.std.proofs.lemmas.Option.{slice_get_within, get_or_from_slice_get}
use Rattle.cell_num.specs.declared.net.NetNo.{NetNo}
use Rattle.cell_num.specs.declared.net.Pins.{Pins}
use Rattle.cell_num.specs.Pins.{ArePins}
use Rattle.cell_num.proofs.In.{Image, in_map, contains_map}
use Rattle.cell_num.proofs.Lists.{contains_get, contains_filter_map, Kept, kept_from}
use Rattle.cell_num.proofs.Pairs.{any_at, pairs_at}
use Rattle.row_model.proofs.Decide.{net_decides}
use Rattle.row_place.specs.declared.placement.Placement.{Placement}
use Rattle.row_place.specs.Units.{seats_of}
use Rattle.row_place.proofs.Placed.{only_placement}
use Rattle.channel_route.specs.declared.routing.Routing.{Routing}
use Rattle.box_geom.specs.declared.shape.Label.{Label}
use Rattle.box_geom.specs.declared.shape.Shapes.{Shapes}
use Rattle.scmos_rules.specs.declared.rules.Deck.TheVariants.{Plain}
use Rattle.net_extract.specs.Nets.{Site, Conducts, SameNet}
use Rattle.net_extract.specs.Labels.{Belongs, IsNamed}
use Rattle.cell_draw.specs.declared.layout.Frame.{Frame}
use Rattle.cell_draw.specs.declared.layout.Gate.{Gate}
use Rattle.cell_draw.specs.declared.layout.Tag.{Tag}
use Rattle.cell_draw.specs.Drawings.{label_of, drawing_of}
use Rattle.cell_draw.specs.Named.{name_of, AreNamed}
use Rattle.cell_draw.specs.Layouts.{tag_of, tags_of, net_no, gates_on}
use Rattle.cell_draw.specs.Shapes.{shapes_of}
use Rattle.cell_draw.proofs.BridgeLines.{At, some_at, standing}
use Rattle.cell_draw.proofs.LabelsPlaced.{IsWired, layout, tag_label}
use Rattle.cell_draw.proofs.LabelPieces.{LabelOn}
use Rattle.net_extract.proofs.Belonging.{one_site}
use Rattle.cell_draw.proofs.NetsWhole.{IsOf, nets, PieceOf, piece_of}
use Rattle.cell_draw.proofs.NetsWires.{Wire, net_of, IsWire}
use Rattle.cell_draw.proofs.Tags.{tag_from, tag_net, number_below, labels_named}
use Rattle.cell_draw.proofs.TagsFound.{HasTag, has_tag}
use Rattle.cell_draw.proofs.NetsLow.{wire_low}

-- ---- labels
abbrev pub shapes : (names : List (List ℕ)) (pins : Pins) (p : Placement) (r : Routing) (xs : List ℕ) (f : Frame) → Shapes
shapes names pins p r xs f = (drawing_of names (layout names pins p r xs f)).shapes

-- the net that a label names, and the piece to which it belongs
record LabelFor (names : List (List ℕ)) (pins : Pins) (p : Placement) (r : Routing) (xs : List ℕ) (f : Frame) (w : IsWired names pins p r xs f) (l : Label) (net : NetNo) : Type 0 where
  low : net.0 < length names
  reads : l.name ≡ name_of names net
  on : LabelOn (layout names pins p r xs f) w.has.netted l net

tag_for : (names : List (List ℕ)) (pins : Pins) (p : Placement) (r : Routing) (xs : List ℕ) (f : Frame) (w : IsWired names pins p r xs f) → (net : NetNo) (t : Tag) → net.0 < length names → tag_of pins f p.nodes r.trunks xs (gates_on f r.trunks xs (seats_of p.row)) net ≡ Some t → LabelFor names pins p r xs f w (label_of names t) net
tag_for names pins p r xs f w net t low gives =
    let from = tag_from pins f p.nodes r.trunks xs (gates_on f r.trunks xs (seats_of p.row)) net t gives in
    let of : t.net ≡ net = tag_net pins f p.nodes r.trunks xs (gates_on f r.trunks xs (seats_of p.row)) net t from in
    record { low = low; reads = ap (λ z. name_of names z) of; on = tag_label names pins p r xs f w net t from }

-- each label is that of a net
label_for : (names : List (List ℕ)) (pins : Pins) (p : Placement) (r : Routing) (xs : List ℕ) (f : Frame) (w : IsWired names pins p r xs f) → (l : Label) → Contains (shapes names pins p r xs f).labels l → (net : NetNo) × LabelFor names pins p r xs f w l net
label_for names pins p r xs f w l there =
    let g : List Gate = gates_on f r.trunks xs (seats_of p.row) in
    let i : Image (label_of names) (tags_of pins f (length names) p.nodes r.trunks xs g) l = in_map (label_of names) (tags_of pins f (length names) p.nodes r.trunks xs g) l there in
    let k : Kept (λ n. tag_of pins f p.nodes r.trunks xs g (net_no n)) (range_with_len 0 (length names)) i.of = kept_from (λ n. tag_of pins f p.nodes r.trunks xs g (net_no n)) (range_with_len 0 (length names)) i.of i.listed in
    (net_no k.from, subst (λ z. LabelFor names pins p r xs f w z (net_no k.from)) i.is (tag_for names pins p r xs f w (net_no k.from) i.of (number_below (length names) k.from k.there) k.gives))

pub in_range : (n k : ℕ) → k < n → Contains (range_with_len 0 n) k
in_range n k low =
    let short : k < length (range_with_len 0 n) = omega (arith, low, length-range_with_len 0 n) in
    let a : At (range_with_len 0 n) k = some_at (range_with_len 0 n) k short in
    let is : a.it ≡ k = sym (get_or_from_slice_get (range_with_len 0 n) k a.it 0 a.is) ∙ (get_or-range_with_len 0 n k 0 low ∙ (let e : ◌≡◌ {A = ℕ} (0 + k) k = omega arith in e)) in
    subst (λ z. Contains (range_with_len 0 n) z) is (contains_get (range_with_len 0 n) k a.it a.is)

-- each net has a label
record NetLabel (names : List (List ℕ)) (pins : Pins) (p : Placement) (r : Routing) (xs : List ℕ) (f : Frame) (w : IsWired names pins p r xs f) (net : NetNo) : Type 0 where
  label : Label
  listed : Contains (shapes names pins p r xs f).labels label
  is : LabelFor names pins p r xs f w label net

net_label : (names : List (List ℕ)) (pins : Pins) (p : Placement) (r : Routing) (xs : List ℕ) (f : Frame) (w : IsWired names pins p r xs f) → ArePins (length names) pins → (net : NetNo) → net.0 < length names → NetLabel names pins p r xs f w net
net_label names pins p r xs f w are net low =
    let g : List Gate = gates_on f r.trunks xs (seats_of p.row) in
    let t : HasTag pins p r xs f net = has_tag names pins p r xs f w.drawn.row (only_placement p w.drawn.placement) are net low in
    let number_there : Contains (range_with_len 0 (length names)) net.0 = in_range (length names) net.0 low in
    record {
      label = label_of names t.tag;
      listed = contains_map (label_of names) (tags_of pins f (length names) p.nodes r.trunks xs g) t.tag (contains_filter_map (λ n. tag_of pins f p.nodes r.trunks xs g (net_no n)) (range_with_len 0 (length names)) net.0 t.tag number_there t.gives);
      is = tag_for names pins p r xs f w net t.tag low t.gives;
    }

-- names of two nets differ
same_net : (names : List (List ℕ)) → AllPairs (λ (a b : List ℕ). a ≢ b) names → (a b : NetNo) → a.0 < length names → b.0 < length names → name_of names a ≡ name_of names b → a ≡ b
same_net names differ a b la lb e =
    let s : At names a.0 = some_at names a.0 la in
    let t : At names b.0 = some_at names b.0 lb in
    let same : s.it ≡ t.it = sym (get_or_from_slice_get names a.0 s.it [] s.is) ∙ (e ∙ get_or_from_slice_get names b.0 t.it [] t.is) in
    elim (cases_lt a.0 b.0) [
      | inl less ↦ absurd (pairs_at (λ (x y : List ℕ). x ≢ y) names a.0 b.0 s.it t.it differ less s.is t.is same)
      | inr le ↦ elim (cases_lt b.0 a.0) [
        | inl less ↦ absurd (pairs_at (λ (x y : List ℕ). x ≢ y) names b.0 a.0 t.it s.it differ less t.is s.is (sym same))
        | inr ge ↦ (net_decides a b).0 (eq-eqb a.0 b.0 (omega (arith, le, ge)))
      ]
    ]

-- a cell of a piece is in the net that goes by the name of the piece's net
pub piece_named : (names : List (List ℕ)) (pins : Pins) (p : Placement) (r : Routing) (xs : List ℕ) (f : Frame) (w : IsWired names pins p r xs f) → ArePins (length names) pins → (a : Wire) (s : Site) → IsWire (layout names pins p r xs f) a → IsOf (layout names pins p r xs f) w.has.netted a s → IsNamed Plain (shapes names pins p r xs f) (name_of names (net_of (layout names pins p r xs f) w.has.netted a)) s
piece_named names pins p r xs f w are a s h i =
    let net : NetNo = net_of (layout names pins p r xs f) w.has.netted a in
    let l : NetLabel names pins p r xs f w net = net_label names pins p r xs f w are net (wire_low names pins p r xs f w are a h) in
    let on : LabelOn (layout names pins p r xs f) w.has.netted l.label net = l.is.on in
    record {
      label = l.label;
      listed = l.listed;
      reads = l.is.reads;
      at = on.site;
      belongs = on.belongs;
      same = (nets (layout names pins p r xs f) w.laid w.has.netted on.wire a on.site s on.listed h on.holds i).1 on.of;
    }

labels_apart : (names : List (List ℕ)) (pins : Pins) (p : Placement) (r : Routing) (xs : List ℕ) (f : Frame) (w : IsWired names pins p r xs f) → (l m : Label) (a b : Site) → Contains (shapes names pins p r xs f).labels l → Contains (shapes names pins p r xs f).labels m → Belongs (shapes names pins p r xs f).rects l a → Belongs (shapes names pins p r xs f).rects m b → SameNet Plain (shapes names pins p r xs f).rects a b ↔ l.name ≡ m.name
labels_apart names pins p r xs f w l m a b hl hm ba bb =
    let s = label_for names pins p r xs f w l hl in
    let t = label_for names pins p r xs f w m hm in
    let u = s.1.on in
    let v = t.1.on in
    let ea : u.site ≡ a = one_site (shapes_of (layout names pins p r xs f)) l u.site a u.belongs ba in
    let eb : v.site ≡ b = one_site (shapes_of (layout names pins p r xs f)) m v.site b v.belongs bb in
    let law = nets (layout names pins p r xs f) w.laid w.has.netted u.wire v.wire u.site v.site u.listed v.listed u.holds v.holds in (
      λ same. s.1.reads ∙ (ap (λ z. name_of names z) (sym u.of ∙ (law.0 (subst (λ z. SameNet Plain (shapes_of (layout names pins p r xs f)) z v.site) (sym ea) (subst (λ z. SameNet Plain (shapes_of (layout names pins p r xs f)) a z) (sym eb) same)) ∙ v.of)) ∙ sym t.1.reads),
      λ e.
          let one : s.0 ≡ t.0 = same_net names w.drawn.row.sound.names_differ s.0 t.0 s.1.low t.1.low (sym s.1.reads ∙ (e ∙ t.1.reads)) in
          subst (λ z. SameNet Plain (shapes_of (layout names pins p r xs f)) z b) ea (subst (λ z. SameNet Plain (shapes_of (layout names pins p r xs f)) u.site z) eb (law.1 (u.of ∙ (one ∙ sym v.of)))),
    )

-- the labels of a routed row name its nets
pub are_named : (names : List (List ℕ)) (pins : Pins) (p : Placement) (r : Routing) (xs : List ℕ) (f : Frame) (w : IsWired names pins p r xs f) → ArePins (length names) pins → AreNamed Plain names (shapes names pins p r xs f)
are_named names pins p r xs f w are = record {
  belong = λ l there. let s = label_for names pins p r xs f w l there in record { site = s.1.on.site; belongs = s.1.on.belongs };
  known = λ l there. All-contains (λ (z : Label). Contains names z.name) (shapes names pins p r xs f).labels l (labels_named names pins f p.nodes r.trunks xs (gates_on f r.trunks xs (seats_of p.row)) (shapes names pins p r xs f).labels refl) there;
  all = all;
  apart = labels_apart names pins p r xs f w;
  every = every;
}
  where
    all : (name : List ℕ) → Contains names name → Any (λ (l : Label). l.name ≡ name) (shapes names pins p r xs f).labels
    all name there =
        let k = standing names name there in
        let l : NetLabel names pins p r xs f w (net_no k.0) = net_label names pins p r xs f w are (net_no k.0) (slice_get_within names k.0 name k.1) in
        any_at (λ (l : Label). l.name ≡ name) (shapes names pins p r xs f).labels l.label l.listed (l.is.reads ∙ get_or_from_slice_get names k.0 name [] k.1)

    every : (a : Site) → Conducts (shapes names pins p r xs f).rects a → (name : List ℕ) × IsNamed Plain (shapes names pins p r xs f) name a
    every a c =
        let q : PieceOf (layout names pins p r xs f) w.has.netted a = piece_of (layout names pins p r xs f) w.laid w.has.netted a c in
        (name_of names (net_of (layout names pins p r xs f) w.has.netted q.wire), piece_named names pins p r xs f w are q.wire a q.listed q.holds)
