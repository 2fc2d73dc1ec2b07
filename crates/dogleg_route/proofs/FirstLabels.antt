-- The label of a net with pieces stands on the first of them.
use Rattle.std.proofs.Common.{ℕ, ◌≡◌, ◌+◌, ◌<◌, ◌≤◌, ◌==◌, Bool, true, false, if◌then◌else◌, List, Option, Some, None, inl, inr, refl, sym, ap, subst, ◌∙◌, arith, Contains, length, option_map}
use Rattle.std.specs.List.{range_with_len}
use Rattle.std.proofs.lemmas.List.FromFn.{length-range_with_len, get_or-range_with_len}
use Rattle.cell_num.specs.declared.net.NetNo.{NetNo}
use Rattle.cell_num.specs.declared.net.Pins.{Pins}
use Rattle.cell_num.specs.Pins.{IsRail}
use Rattle.cell_num.proofs.In.{contains_map}
use Rattle.cell_num.proofs.Lists.{some_same, contains_filter_map}
use Rattle.row_model.proofs.Decide.{net_decides}
use Rattle.row_place.specs.declared.placement.Placement.{Placement}
use Rattle.row_place.specs.Places.{IsPlacement}
use Rattle.row_place.specs.Units.{seats_of}
use Rattle.channel_route.specs.declared.routing.Trunk.{Trunk}
use Rattle.row_compact.specs.Solution.{x_of}
use Rattle.cell_draw.specs.declared.drawing.Drawing.{Drawing}
use Rattle.cell_draw.specs.declared.layout.Frame.{Frame}
use Rattle.cell_draw.specs.declared.layout.Gate.{Gate}
use Rattle.cell_draw.specs.declared.layout.Tag.{Tag}
use Rattle.cell_draw.specs.Drawings.{label_of, drawn_of}
use Rattle.cell_draw.specs.Frame.{frame_of, track_y}
use Rattle.cell_draw.specs.Layouts.{width_of, metal_tag, or_else, place_tag, net_tag, tag_of, tags_of, net_no, trunk_of, gates_on}
use Rattle.cell_draw.specs.Sound.{IsSoundRow}
use Rattle.cell_draw.proofs.NetsNamed.{place_low}
use Rattle.dogleg_route.specs.declared.piece.PieceRouting.{PieceRouting}
use Rattle.dogleg_route.specs.Firsts.{IsFirstPiece, ShowsFirsts}
use Rattle.dogleg_route.specs.Pieces.{IsPiece}
use Rattle.dogleg_route.specs.Routings.{StandsEarlier, ArePiecesLegal, as_routing}
use Rattle.dogleg_route.proofs.Finds.{Found, found_there, found_first, none_found}
use Rattle.dogleg_route.proofs.Marks.{mark_place}
use Rattle.dogleg_route.proofs.Wired.{is_piece}

in_range : (n k : ℕ) → k < n → Contains (range_with_len 0 n) k
in_range n k low = (k, omega (arith, low, length-range_with_len 0 n), get_or-range_with_len 0 n k k low ∙ (let e : ◌≡◌ {A = ℕ} (0 + k) k = omega arith in e))

first_is : (p : Placement) (pins : Pins) (r : PieceRouting) → ArePiecesLegal p pins r → (t : Trunk) → IsFirstPiece r.pieces t → trunk_of r.pieces t.net ≡ Some t
first_is p pins r l t first = by (trunk_of r.pieces t.net) refl
  where
    from : (u : Trunk) → trunk_of r.pieces t.net ≡ Some u → Found (λ (v : Trunk). v.net.0 == t.net.0) r.pieces u
    from u found = found_there (λ (v : Trunk). v.net.0 == t.net.0) r.pieces u found

    never : (u : Trunk) → StandsEarlier u t → u.net ≡ t.net → t.left ≤ u.left → ⊥
    never u (inl less) of low = omega (arith, less, ap (λ (n : NetNo). n.0) of)
    never u (inr (_, less)) of low = omega (arith, less, low)

    by : (o : Option Trunk) → trunk_of r.pieces t.net ≡ o → trunk_of r.pieces t.net ≡ Some t
    by None none = absurd (none_found (λ (u : Trunk). u.net.0 == t.net.0) r.pieces t none first.there ((net_decides t.net t.net).1 refl))
    by (Some u) found = elim (found_first StandsEarlier (λ (v : Trunk). v.net.0 == t.net.0) r.pieces u t l.order found first.there ((net_decides t.net t.net).1 refl)) [
      | inl same ↦ found ∙ ap (λ (z : Trunk). Some z) same
      | inr before ↦ absurd (let k : Found (λ (v : Trunk). v.net.0 == t.net.0) r.pieces u = from u found in let of : u.net ≡ t.net = (net_decides u.net t.net).0 k.passes in never u before of (first.none_before u k.there of))
    ]

-- the tag of a net with pieces stands on the first
tag_is : (pins : Pins) (p : Placement) (pieces : List Trunk) (xs : List ℕ) (f : Frame) (net : NetNo) (t : Trunk) → (IsRail pins net → ⊥) → trunk_of pieces net ≡ Some t → tag_of pins f p.nodes pieces xs (gates_on f pieces xs (seats_of p.row)) net ≡ Some (metal_tag (x_of xs t.left) (track_y f t.track) net)
tag_is pins p pieces xs f net t signal found = rails (net.0 == pins.gnd.0) (net.0 == pins.vdd.0) refl refl
  where
    trunk : (o : Option Trunk) → trunk_of pieces net ≡ o → or_else (option_map (λ (u : Trunk). metal_tag (x_of xs u.left) (track_y f u.track) net) o) (place_tag f p.nodes xs (gates_on f pieces xs (seats_of p.row)) net) ≡ Some (metal_tag (x_of xs t.left) (track_y f t.track) net)
    trunk (Some u) e = ap (λ (z : Trunk). Some (metal_tag (x_of xs z.left) (track_y f z.track) net)) (some_same u t (sym e ∙ found))
    trunk None e = absurd (let wrong : None ≡ Some t = sym e ∙ found in cc)

    rails : (g v : Bool) → (net.0 == pins.gnd.0) ≡ g → (net.0 == pins.vdd.0) ≡ v → (if g then Some (metal_tag 8 8 net) else if v then Some (metal_tag 8 (f.p_edge + f.p_height + 16) net) else net_tag f p.nodes pieces xs (gates_on f pieces xs (seats_of p.row)) net) ≡ Some (metal_tag (x_of xs t.left) (track_y f t.track) net)
    rails true v eg ev = absurd (signal (inr ((net_decides net pins.gnd).0 eg)))
    rails false true eg ev = absurd (signal (inl ((net_decides net pins.vdd).0 ev)))
    rails false false eg ev = trunk (trunk_of pieces net) refl

shows : (names : List (List ℕ)) (pins : Pins) (p : Placement) (r : PieceRouting) (xs : List ℕ) (height : ℕ) → IsPlacement p → IsSoundRow names pins p.row → ArePiecesLegal p pins r → ShowsFirsts names p xs (drawn_of names pins p (as_routing r) xs height).shapes r.pieces
shows names pins p r xs height is row l t first =
    let f : Frame = frame_of p.row r.tracks height (width_of p xs) in
    let g : List Gate = gates_on f r.pieces xs (seats_of p.row) in
    let tag : Tag = metal_tag (x_of xs t.left) (track_y f t.track) t.net in
    let piece : IsPiece p pins t.net t.left t.right = is_piece p pins r l t first.there in
    let gives : tag_of pins f p.nodes r.pieces xs g t.net ≡ Some tag = tag_is pins p r.pieces xs f t.net t piece.trunk.0 (first_is p pins r l t first) in
    let low : t.net.0 < length names = place_low names pins p is row t.net t.left (mark_place p t.net t.left piece.begins) in
    record {
      label = label_of names tag;
      listed = contains_map (label_of names) (tags_of pins f (length names) p.nodes r.pieces xs g) tag (contains_filter_map (λ n. tag_of pins f p.nodes r.pieces xs g (net_no n)) (range_with_len 0 (length names)) t.net.0 tag (in_range (length names) t.net.0 low) gives);
      reads = refl;
      layer = refl;
      place = refl;
      height = refl;
    }

pub firsts : (d : Drawing) (names : List (List ℕ)) (pins : Pins) (p : Placement) (r : PieceRouting) (xs : List ℕ) (height : ℕ) → d ≡ drawn_of names pins p (as_routing r) xs height → IsPlacement p → IsSoundRow names pins p.row → ArePiecesLegal p pins r → ShowsFirsts names p xs d.shapes r.pieces
firsts d names pins p r xs height e is row l = subst (λ (z : Drawing). ShowsFirsts names p xs z.shapes r.pieces) (sym e) (shows names pins p r xs height is row l)
