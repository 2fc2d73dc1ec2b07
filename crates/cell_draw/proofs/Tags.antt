-- Where the tag of a net stands, and that labels are names of nets.
use Rattle.std.proofs.Common.{ℕ, ◌≡◌, ◌+◌, ◌<◌, ◌==◌, Bool, true, false, if◌then◌else◌, List, [], Option, Some, None, inl, inr, refl, sym, ap, subst, ◌∙◌, arith, All, Contains, length, get_or, find, map, option_map, slice_get}
use Rattle.std.specs.List.{range_with_len}
use Rattle.std.proofs.lemmas.List.FromFn.{get_or-range_with_len, length-range_with_len}
use Rattle.std.proofs.lemmas.Option.{slice_get_within, get_or_from_slice_get}
use Rattle.box_geom.specs.declared.shape.Label.{Label}
use Rattle.cell_num.specs.declared.net.NetNo.{NetNo}
use Rattle.cell_num.specs.declared.net.Pins.{Pins}
use Rattle.cell_num.specs.Pins.{IsRail}
use Rattle.cell_num.proofs.Lists.{some_same, contains_get, all_from_contains, Kept, kept_from}
use Rattle.cell_num.proofs.In.{Image, in_map}
use Rattle.row_model.proofs.Decide.{net_decides}
use Rattle.row_place.specs.declared.placement.NodePlace.{NodePlace}
use Rattle.channel_route.specs.declared.routing.Trunk.{Trunk}
use Rattle.row_compact.specs.Solution.{x_of}
use Rattle.cell_draw.specs.declared.layout.Frame.{Frame}
use Rattle.cell_draw.specs.declared.layout.Gate.{Gate}
use Rattle.cell_draw.specs.declared.layout.Tag.{Tag}
use Rattle.cell_draw.specs.Drawings.{label_of}
use Rattle.cell_draw.specs.Frame.{track_y}
use Rattle.cell_draw.specs.Layouts.{node_tag, gate_tag, metal_tag, or_else, place_tag, net_tag, tag_of, tags_of, net_no, trunk_of}
use Rattle.cell_draw.proofs.BridgeLines.{At, some_at, standing}
use Rattle.cell_draw.proofs.Found.{found_is}

-- the tag of a net: on its rail, on its trunk, or else at its first node place, or at its first gate
pub data TagFrom (pins : Pins) (f : Frame) (nodes : List NodePlace) (trunks : List Trunk) (xs : List ℕ) (gates : List Gate) (net : NetNo) (t : Tag) : Type 0 where
  on_gnd : net ≡ pins.gnd → metal_tag 8 8 net ≡ t → TagFrom pins f nodes trunks xs gates net t
  on_vdd : net ≡ pins.vdd → metal_tag 8 (f.p_edge + f.p_height + 16) net ≡ t → TagFrom pins f nodes trunks xs gates net t
  on_trunk : (u : Trunk) → trunk_of trunks net ≡ Some u → metal_tag (x_of xs u.left) (track_y f u.track) net ≡ t → TagFrom pins f nodes trunks xs gates net t
  at_node : (IsRail pins net → ⊥) → trunk_of trunks net ≡ None → (n : NodePlace) → find (λ (z : NodePlace). z.net.0 == net.0) nodes ≡ Some n → n.net ≡ net → node_tag f xs n ≡ t → TagFrom pins f nodes trunks xs gates net t
  at_gate : trunk_of trunks net ≡ None → (g : Gate) → find (λ (z : Gate). z.net.0 == net.0) gates ≡ Some g → g.net ≡ net → gate_tag f g ≡ t → TagFrom pins f nodes trunks xs gates net t

pub tag_from : (pins : Pins) (f : Frame) (nodes : List NodePlace) (trunks : List Trunk) (xs : List ℕ) (gates : List Gate) (net : NetNo) (t : Tag) → tag_of pins f nodes trunks xs gates net ≡ Some t → TagFrom pins f nodes trunks xs gates net t
tag_from pins f nodes trunks xs gates net t e = rails (net.0 == pins.gnd.0) (net.0 == pins.vdd.0) refl refl e
  where
    gate : trunk_of trunks net ≡ None → (o : Option Gate) → find (λ (z : Gate). z.net.0 == net.0) gates ≡ o → option_map (gate_tag f) o ≡ Some t → TagFrom pins f nodes trunks xs gates net t
    gate bare None is h = absurd cc
    gate bare (Some g) is h = at_gate bare g is ((net_decides g.net net).0 (found_is (λ (z : Gate). z.net.0 == net.0) gates g is)) (some_same (gate_tag f g) t h)

    node : (IsRail pins net → ⊥) → trunk_of trunks net ≡ None → (o : Option NodePlace) → find (λ (z : NodePlace). z.net.0 == net.0) nodes ≡ o → or_else (option_map (node_tag f xs) o) (option_map (gate_tag f) (find (λ (z : Gate). z.net.0 == net.0) gates)) ≡ Some t → TagFrom pins f nodes trunks xs gates net t
    node signal bare None is h = gate bare (find (λ (z : Gate). z.net.0 == net.0) gates) refl h
    node signal bare (Some n) is h = at_node signal bare n is ((net_decides n.net net).0 (found_is (λ (z : NodePlace). z.net.0 == net.0) nodes n is)) (some_same (node_tag f xs n) t h)

    trunk : (IsRail pins net → ⊥) → (o : Option Trunk) → trunk_of trunks net ≡ o → or_else (option_map (λ (u : Trunk). metal_tag (x_of xs u.left) (track_y f u.track) net) o) (place_tag f nodes xs gates net) ≡ Some t → TagFrom pins f nodes trunks xs gates net t
    trunk signal None is h = node signal is (find (λ (z : NodePlace). z.net.0 == net.0) nodes) refl h
    trunk signal (Some u) is h = on_trunk u is (some_same (metal_tag (x_of xs u.left) (track_y f u.track) net) t h)

    rails : (g v : Bool) → (net.0 == pins.gnd.0) ≡ g → (net.0 == pins.vdd.0) ≡ v → (if g then Some (metal_tag 8 8 net) else if v then Some (metal_tag 8 (f.p_edge + f.p_height + 16) net) else net_tag f nodes trunks xs gates net) ≡ Some t → TagFrom pins f nodes trunks xs gates net t
    rails true v is at h = on_gnd ((net_decides net pins.gnd).0 is) (some_same (metal_tag 8 8 net) t h)
    rails false true is at h = on_vdd ((net_decides net pins.vdd).0 at) (some_same (metal_tag 8 (f.p_edge + f.p_height + 16) net) t h)
    rails false false is at h = trunk signal (trunk_of trunks net) refl h
      where
        signal : IsRail pins net → ⊥
        signal (inl e) = let wrong : true ≡ false = sym ((net_decides net pins.vdd).1 e) ∙ at in cc
        signal (inr e) = let wrong : true ≡ false = sym ((net_decides net pins.gnd).1 e) ∙ is in cc

pub tag_net : (pins : Pins) (f : Frame) (nodes : List NodePlace) (trunks : List Trunk) (xs : List ℕ) (gates : List Gate) (net : NetNo) (t : Tag) → TagFrom pins f nodes trunks xs gates net t → t.net ≡ net
tag_net pins f nodes trunks xs gates net t (on_gnd e is) = sym (ap (λ (z : Tag). z.net) is)
tag_net pins f nodes trunks xs gates net t (on_vdd e is) = sym (ap (λ (z : Tag). z.net) is)
tag_net pins f nodes trunks xs gates net t (on_trunk u found is) = sym (ap (λ (z : Tag). z.net) is)
tag_net pins f nodes trunks xs gates net t (at_node signal bare n found of is) = sym (ap (λ (z : Tag). z.net) is) ∙ of
tag_net pins f nodes trunks xs gates net t (at_gate bare g found of is) = sym (ap (λ (z : Tag). z.net) is) ∙ of

pub number_below : (n k : ℕ) → Contains (range_with_len 0 n) k → k < n
number_below n k there = by (standing (range_with_len 0 n) k there)
  where
    by : (i : ℕ) × (slice_get (range_with_len 0 n) i ≡ Some k) → k < n
    by (i, is) =
        let short : i < length (range_with_len 0 n) = slice_get_within (range_with_len 0 n) i k is in
        let low : i < n = omega (arith, short, length-range_with_len 0 n) in
        omega (arith, low, get_or-range_with_len 0 n i 0 low, get_or_from_slice_get (range_with_len 0 n) i k 0 is)

pub item_there : (names : List (List ℕ)) (n : ℕ) → n < length names → Contains names (get_or names n [])
item_there names n low =
    let a : At names n = some_at names n low in
    subst (λ z. Contains names z) (sym (get_or_from_slice_get names n a.it [] a.is)) (contains_get names n a.it a.is)

pub labels_named : (names : List (List ℕ)) (pins : Pins) (f : Frame) (nodes : List NodePlace) (trunks : List Trunk) (xs : List ℕ) (gates : List Gate) (labels : List Label) → labels ≡ map (label_of names) (tags_of pins f (length names) nodes trunks xs gates) → All (λ (l : Label). Contains names l.name) labels
labels_named names pins f nodes trunks xs gates labels e = all_from_contains (λ (l : Label). Contains names l.name) labels (λ l there. by l (in_map (label_of names) (tags_of pins f (length names) nodes trunks xs gates) l (subst (λ ls. Contains ls l) e there)))
  where
    by : (l : Label) → Image (label_of names) (tags_of pins f (length names) nodes trunks xs gates) l → Contains names l.name
    by l i =
        let k : Kept (λ n. tag_of pins f nodes trunks xs gates (net_no n)) (range_with_len 0 (length names)) i.of = kept_from (λ n. tag_of pins f nodes trunks xs gates (net_no n)) (range_with_len 0 (length names)) i.of i.listed in
        let net : i.of.net ≡ net_no k.from = tag_net pins f nodes trunks xs gates (net_no k.from) i.of (tag_from pins f nodes trunks xs gates (net_no k.from) i.of k.gives) in
        let number : i.of.net.0 ≡ k.from = ap (λ (z : NetNo). z.0) net in
        let name : get_or names i.of.net.0 [] ≡ l.name = ap (λ (z : Label). z.name) i.is in
        subst (λ z. Contains names z) name (item_there names i.of.net.0 (omega (arith, number, number_below (length names) k.from k.there)))
