-- A drawn row shows its routing.
use Rattle.std.proofs.Common.{ℕ, ◌≡◌, ◌+◌, ◌<◌, ◌==◌, Bool, true, false, if◌then◌else◌, List, Option, Some, None, inl, inr, refl, sym, ap, subst, ◌∙◌, arith, Contains, length, option_map}
use Rattle.std.specs.List.{range_with_len}
use Rattle.cell_num.specs.declared.net.NetNo.{NetNo}
use Rattle.cell_num.specs.declared.net.Pins.{Pins}
use Rattle.cell_num.specs.Pins.{IsRail}
use Rattle.cell_num.proofs.In.{contains_map}
use Rattle.cell_num.proofs.Lists.{some_same, all_from_contains, contains_filter_map}
use Rattle.row_model.proofs.Decide.{net_decides}
use Rattle.row_place.specs.declared.placement.Placement.{Placement}
use Rattle.row_place.specs.Units.{seats_of}
use Rattle.channel_route.specs.declared.routing.Trunk.{Trunk}
use Rattle.channel_route.specs.declared.routing.Routing.{Routing}
use Rattle.channel_route.specs.Routing.{IsLegal}
use Rattle.channel_route.proofs.LegalWiring.{span_of}
use Rattle.row_compact.specs.Solution.{x_of}
use Rattle.cell_draw.specs.declared.layout.Frame.{Frame}
use Rattle.cell_draw.specs.declared.layout.Gate.{Gate}
use Rattle.cell_draw.specs.declared.layout.Tag.{Tag}
use Rattle.cell_draw.specs.Drawings.{label_of}
use Rattle.cell_draw.specs.Frame.{channel_edge, track_y}
use Rattle.cell_draw.specs.Layouts.{metal_tag, or_else, place_tag, net_tag, tag_of, tags_of, net_no, trunk_of, gates_on}
use Rattle.cell_draw.specs.Shown.{ShowsTrack, ShowsRouting}
use Rattle.cell_draw.proofs.BridgeFrom.{IsDrawn, TrunkFrom, trunk_from}
use Rattle.cell_draw.proofs.BridgeLines.{one_in_order}
use Rattle.cell_draw.proofs.BridgeTracks.{has_trunk}
use Rattle.cell_draw.proofs.Found.{none_found}
use Rattle.cell_draw.proofs.NamesPlaced.{shapes, in_range}
use Rattle.cell_draw.proofs.NetsNamed.{place_low}

-- in a legal routing a net has one trunk
one_trunk : (p : Placement) (pins : Pins) (r : Routing) → IsLegal p pins r → (t u : Trunk) → Contains r.trunks t → Contains r.trunks u → t.net ≡ u.net → t ≡ u
one_trunk p pins r legal t u lt lu e =
    let same : t.net.0 ≡ u.net.0 = ap (λ (n : NetNo). n.0) e in
    one_in_order (λ (a b : Trunk). a.net.0 < b.net.0) r.trunks t u legal.order lt lu (λ h. omega (arith, h, same)) (λ h. omega (arith, h, same))

trunk_is : (p : Placement) (pins : Pins) (r : Routing) → IsLegal p pins r → (t : Trunk) → Contains r.trunks t → trunk_of r.trunks t.net ≡ Some t
trunk_is p pins r legal t there = by (trunk_of r.trunks t.net) refl
  where
    by : (o : Option Trunk) → trunk_of r.trunks t.net ≡ o → trunk_of r.trunks t.net ≡ Some t
    by None none = absurd (none_found (λ (u : Trunk). u.net.0 == t.net.0) r.trunks t there ((net_decides t.net t.net).1 refl) none)
    by (Some u) found =
        let from : TrunkFrom r.trunks t.net u = trunk_from r.trunks t.net u found in
        found ∙ ap (λ z. Some z) (one_trunk p pins r legal u t from.listed there from.of)

-- the tag of a net with a trunk stands on it
trunk_tag : (pins : Pins) (p : Placement) (r : Routing) (xs : List ℕ) (f : Frame) (net : NetNo) (t : Trunk) → (IsRail pins net → ⊥) → trunk_of r.trunks net ≡ Some t → tag_of pins f p.nodes r.trunks xs (gates_on f r.trunks xs (seats_of p.row)) net ≡ Some (metal_tag (x_of xs t.left) (track_y f t.track) net)
trunk_tag pins p r xs f net t signal found = rails (net.0 == pins.gnd.0) (net.0 == pins.vdd.0) refl refl
  where
    trunk : (o : Option Trunk) → trunk_of r.trunks net ≡ o → or_else (option_map (λ (u : Trunk). metal_tag (x_of xs u.left) (track_y f u.track) net) o) (place_tag f p.nodes xs (gates_on f r.trunks xs (seats_of p.row)) net) ≡ Some (metal_tag (x_of xs t.left) (track_y f t.track) net)
    trunk (Some u) e = ap (λ (z : Trunk). Some (metal_tag (x_of xs z.left) (track_y f z.track) net)) (some_same u t (sym e ∙ found))
    trunk None e = absurd (let wrong : None ≡ Some t = sym e ∙ found in cc)

    rails : (g v : Bool) → (net.0 == pins.gnd.0) ≡ g → (net.0 == pins.vdd.0) ≡ v → (if g then Some (metal_tag 8 8 net) else if v then Some (metal_tag 8 (f.p_edge + f.p_height + 16) net) else net_tag f p.nodes r.trunks xs (gates_on f r.trunks xs (seats_of p.row)) net) ≡ Some (metal_tag (x_of xs t.left) (track_y f t.track) net)
    rails true v eg ev = absurd (signal (inr ((net_decides net pins.gnd).0 eg)))
    rails false true eg ev = absurd (signal (inl ((net_decides net pins.vdd).0 ev)))
    rails false false eg ev = trunk (trunk_of r.trunks net) refl

shows_track : (names : List (List ℕ)) (pins : Pins) (p : Placement) (r : Routing) (xs : List ℕ) (f : Frame) → IsDrawn names pins p r xs f → IsLegal p pins r → (t : Trunk) → Contains r.trunks t → ShowsTrack names f.n_edge (shapes names pins p r xs f) t
shows_track names pins p r xs f d legal t there =
    let g : List Gate = gates_on f r.trunks xs (seats_of p.row) in
    let tag : Tag = metal_tag (x_of xs t.left) (track_y f t.track) t.net in
    let gives : tag_of pins f p.nodes r.trunks xs g t.net ≡ Some tag = trunk_tag pins p r xs f t.net t (has_trunk p pins r d.wiring t there).0 (trunk_is p pins r legal t there) in
    let span = span_of p pins r legal t there in
    let low : t.net.0 < length names = place_low names pins p d.placement d.row t.net t.left span.begins in
    record {
      label = label_of names tag;
      listed = contains_map (label_of names) (tags_of pins f (length names) p.nodes r.trunks xs g) tag (contains_filter_map (λ n. tag_of pins f p.nodes r.trunks xs g (net_no n)) (range_with_len 0 (length names)) t.net.0 tag (in_range (length names) t.net.0 low) gives);
      reads = refl;
      layer = refl;
      height = refl;
    }

-- a drawn row shows its routing
pub shows_routing : (names : List (List ℕ)) (pins : Pins) (p : Placement) (r : Routing) (xs : List ℕ) (f : Frame) → IsDrawn names pins p r xs f → IsLegal p pins r → f.n_edge ≡ channel_edge p.row → ShowsRouting names pins p (shapes names pins p r xs f) r
shows_routing names pins p r xs f d legal edge = record {
  nets = legal.nets;
  order = legal.order;
  spans = legal.spans;
  shown = all_from_contains (ShowsTrack names (channel_edge p.row) (shapes names pins p r xs f)) r.trunks (λ t there. subst (λ y. ShowsTrack names y (shapes names pins p r xs f) t) edge (shows_track names pins p r xs f d legal t there));
  below = legal.tracks;
  full = λ tracks e. legal.full tracks (omega (arith, e));
}
