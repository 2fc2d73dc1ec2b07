-- Where the tags of a layout stand: what holds of 8 and of the lines of places and trunks holds of each tag's line.
use Rattle.std.proofs.Common.{ℕ, ◌≡◌, ◌+◌, ◌==◌, Bool, true, false, if◌then◌else◌, List, Option, Some, None, refl, subst, All, find, option_map}
use Rattle.std.specs.List.{range_with_len}
use Rattle.cell_num.specs.declared.net.NetNo.{NetNo}
use Rattle.cell_num.specs.declared.net.Pins.{Pins}
use Rattle.cell_num.proofs.Lists.{some_same, all_from_contains, Kept, kept_from}
use Rattle.row_place.specs.declared.placement.NodePlace.{NodePlace}
use Rattle.channel_route.specs.declared.routing.Trunk.{Trunk}
use Rattle.row_compact.specs.Solution.{x_of}
use Rattle.cell_draw.specs.Frame.{track_y}
use Rattle.cell_draw.specs.Layouts.{node_tag, gate_tag, metal_tag, or_else, place_tag, net_tag, tag_of, net_no, trunk_of, tags_of}
use Rattle.cell_draw.specs.declared.layout.Frame.{Frame}
use Rattle.cell_draw.specs.declared.layout.Gate.{Gate}
use Rattle.cell_draw.specs.declared.layout.Tag.{Tag}
use Rattle.cell_draw.proofs.Found.{found_all}

-- what holds where tags may stand
pub record AtLines (Q : ℕ → Type 0) (nodes : List NodePlace) (trunks : List Trunk) (xs : List ℕ) (gates : List Gate) : Type 0 where
  pub rails : Q 8
  pub at_nodes : All (λ (n : NodePlace). Q (x_of xs n.line)) nodes
  pub at_trunks : All (λ (t : Trunk). Q (x_of xs t.left)) trunks
  pub at_gates : All (λ (g : Gate). Q g.x) gates

some_tag : (Q : ℕ → Type 0) (a t : Tag) → Some a ≡ Some t → Q a.x → Q t.x
some_tag Q a t e holds = subst (λ (z : Tag). Q z.x) (some_same a t e) holds

tag_at : (Q : ℕ → Type 0) (pins : Pins) (f : Frame) (nodes : List NodePlace) (trunks : List Trunk) (xs : List ℕ) (gates : List Gate) → AtLines Q nodes trunks xs gates → (net : NetNo) (t : Tag) → tag_of pins f nodes trunks xs gates net ≡ Some t → Q t.x
tag_at Q pins f nodes trunks xs gates a net t e = rails (net.0 == pins.gnd.0) (net.0 == pins.vdd.0) e
  where
    gate : (o : Option Gate) → find (λ (g : Gate). g.net.0 == net.0) gates ≡ o → option_map (gate_tag f) o ≡ Some t → Q t.x
    gate None is h = absurd cc
    gate (Some g) is h = some_tag Q (gate_tag f g) t h (found_all (λ (z : Gate). Q z.x) (λ (z : Gate). z.net.0 == net.0) gates g a.at_gates is)

    node : (o : Option NodePlace) → find (λ (n : NodePlace). n.net.0 == net.0) nodes ≡ o → or_else (option_map (node_tag f xs) o) (option_map (gate_tag f) (find (λ (g : Gate). g.net.0 == net.0) gates)) ≡ Some t → Q t.x
    node None is h = gate (find (λ (g : Gate). g.net.0 == net.0) gates) refl h
    node (Some n) is h = some_tag Q (node_tag f xs n) t h (found_all (λ (z : NodePlace). Q (x_of xs z.line)) (λ (z : NodePlace). z.net.0 == net.0) nodes n a.at_nodes is)

    trunk : (o : Option Trunk) → trunk_of trunks net ≡ o → or_else (option_map (λ (u : Trunk). metal_tag (x_of xs u.left) (track_y f u.track) net) o) (place_tag f nodes xs gates net) ≡ Some t → Q t.x
    trunk None is h = node (find (λ (n : NodePlace). n.net.0 == net.0) nodes) refl h
    trunk (Some u) is h = some_tag Q (metal_tag (x_of xs u.left) (track_y f u.track) net) t h (found_all (λ (z : Trunk). Q (x_of xs z.left)) (λ (z : Trunk). z.net.0 == net.0) trunks u a.at_trunks is)

    rails : (g v : Bool) → (if g then Some (metal_tag 8 8 net) else if v then Some (metal_tag 8 (f.p_edge + f.p_height + 16) net) else net_tag f nodes trunks xs gates net) ≡ Some t → Q t.x
    rails true v h = some_tag Q (metal_tag 8 8 net) t h a.rails
    rails false true h = some_tag Q (metal_tag 8 (f.p_edge + f.p_height + 16) net) t h a.rails
    rails false false h = trunk (trunk_of trunks net) refl h

pub tags_at : (Q : ℕ → Type 0) (pins : Pins) (f : Frame) (nets : ℕ) (nodes : List NodePlace) (trunks : List Trunk) (xs : List ℕ) (gates : List Gate) → AtLines Q nodes trunks xs gates → All (λ (t : Tag). Q t.x) (tags_of pins f nets nodes trunks xs gates)
tags_at Q pins f nets nodes trunks xs gates a = all_from_contains (λ (t : Tag). Q t.x) (tags_of pins f nets nodes trunks xs gates) (λ t there.
    let k : Kept (λ n. tag_of pins f nodes trunks xs gates (net_no n)) (range_with_len 0 nets) t = kept_from (λ n. tag_of pins f nodes trunks xs gates (net_no n)) (range_with_len 0 nets) t there in
    tag_at Q pins f nodes trunks xs gates a (net_no k.from) t k.gives)
