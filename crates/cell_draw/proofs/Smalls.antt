-- What is laid and not too wide has coordinates within their type.
use Rattle.std.proofs.Common.{ℕ, ◌≡◌, ◌+◌, ◌-◌, ◌≤◌, ◌<◌, ◌==◌, Bool, true, false, if◌then◌else◌, List, Option, Some, None, refl, subst, arith, All, Contains, find, filter_map, option_map}
use Rattle.std.specs.List.{range_with_len}
use Rattle.std.proofs.lemmas.List.Elements.{All-contains}
use Rattle.cell_num.specs.declared.net.NetNo.{NetNo}
use Rattle.cell_num.specs.declared.net.Pins.{Pins}
use Rattle.cell_num.specs.declared.finger.Row.{Row}
use Rattle.cell_num.specs.declared.finger.Row.TheVariants.{P, N}
use Rattle.cell_num.proofs.Lists.{some_same, all_from_contains, Kept, kept_from}
use Rattle.row_place.specs.declared.placement.NodePlace.{NodePlace}
use Rattle.channel_route.specs.declared.routing.Trunk.{Trunk}
use Rattle.row_compact.specs.Solution.{x_of}
use Rattle.cell_draw.specs.Frame.{track_y}
use Rattle.cell_draw.specs.Layouts.{is_p, node_tag, gate_y, gate_tag, metal_tag, or_else, place_tag, net_tag, tag_of, net_no, trunk_of}
use Rattle.cell_draw.proofs.Found.{found_all}
use Rattle.cell_draw.specs.declared.layout.Frame.{Frame}
use Rattle.cell_draw.specs.declared.layout.Strip.{Strip}
use Rattle.cell_draw.specs.declared.layout.Contact.{Contact}
use Rattle.cell_draw.specs.declared.layout.Gate.{Gate}
use Rattle.cell_draw.specs.declared.layout.Bar.{Bar}
use Rattle.cell_draw.specs.declared.layout.Tag.{Tag}
use Rattle.cell_draw.specs.declared.layout.Layout.{Layout}
use Rattle.cell_draw.specs.Laid.{IsFrame, IsTrack, IsInside, IsStrip, IsGate, IsOnBar, IsMet, IsLaid}
use Rattle.cell_draw.specs.Small.{IsSmallFrame, IsHeight, IsReach, IsSmallStrip, IsSmallContact, IsSmallGate, IsSmallBar, IsSmallTag, IsSmall}

pub track_height : (f : Frame) (tracks y : ℕ) → IsFrame f tracks → IsTrack f tracks y → IsHeight f y
track_height f tracks y frame t = (omega (arith, t.is), omega (arith, t.is, t.below, frame.room))

pub reach_height : (f : Frame) (o : Option ℕ) → ((y : ℕ) → o ≡ Some y → IsHeight f y) → IsReach f o
reach_height f None h = tt
reach_height f (Some y) h = h y refl

small_strip : (f : Frame) (s : Strip) → IsSmallFrame f → IsStrip f s → IsSmallStrip f s
small_strip f s small is = record { ascends = omega (arith, is.wide); right = omega (arith, is.right, small.right); least = is.least; most = is.most }

-- where bars do not pass the last line, and tags lie in the cell
pub small : (l : Layout) → IsLaid l → IsSmallFrame l.frame → All (λ (b : Bar). b.right ≤ 1000000) l.bars → All IsSmallTag l.tags → IsSmall l
small l w frame right tags = record {
  frame = frame;
  strips = all_from_contains (IsSmallStrip l.frame) l.strips (λ s there. small_strip l.frame s frame (All-contains (IsStrip l.frame) l.strips s w.strips there));
  contacts = all_from_contains (IsSmallContact l.frame) l.contacts contact;
  gates = all_from_contains (IsSmallGate l.frame) l.gates gate;
  bars = all_from_contains (IsSmallBar l.frame) l.bars bar;
  tags = tags;
}
  where
    contact : (c : Contact) → Contains l.contacts c → IsSmallContact l.frame c
    contact c there =
        let inside : IsInside l.frame c.x = All-contains (λ (d : Contact). IsInside l.frame d.x) l.contacts c w.inside there in
        record {
          right = omega (arith, inside.right, frame.right);
          reach = reach_height l.frame c.reach (λ y e. track_height l.frame w.tracks y w.frame (w.reaches c y there e));
        }

    on_bar : (g : Gate) (y : ℕ) → IsOnBar l g.net g.x y → IsHeight l.frame y
    on_bar g y on = subst (λ z. IsHeight l.frame z) on.track (track_height l.frame w.tracks on.bar.y w.frame (w.bars on.bar on.listed).1)

    gate : (g : Gate) → Contains l.gates g → IsSmallGate l.frame g
    gate g there =
        let is : IsGate l.frame g = All-contains (IsGate l.frame) l.gates g w.gates there in
        record {
          right = omega (arith, is.inside.right, frame.right);
          n = is.n;
          p = is.p;
          finger = is.finger;
          track = reach_height l.frame g.track (λ y e. on_bar g y (w.pads g y there e));
        }

    bar : (b : Bar) → Contains l.bars b → IsSmallBar l.frame b
    bar b there =
        let last : b.right ≤ 1000000 = All-contains (λ (z : Bar). z.right ≤ 1000000) l.bars b right there in
        record {
          ascends = (w.bars b there).0;
          right = last;
          height = track_height l.frame w.tracks b.y w.frame (w.bars b there).1;
          vias = all_from_contains (λ x. x ≤ 1000000) b.vias (λ x met. let m : IsMet l b x = w.vias b x there met in omega (arith, m.right, last));
        }

-- tags lie in the cell
pub record Lies (f : Frame) (tracks : ℕ) (trunks : List Trunk) (xs : List ℕ) (gates : List Gate) : Type 0 where
  pub small : IsSmallFrame f
  pub frame : IsFrame f tracks
  pub on_tracks : All (λ (t : Trunk). t.track < tracks) trunks
  pub lines : (line : ℕ) → x_of xs line ≤ 1000000
  pub on_gates : All (λ (g : Gate). g.x ≤ 1000000) gates

node_small : (f : Frame) (xs : List ℕ) (node : NodePlace) (side : Row) → IsSmallFrame f → ((line : ℕ) → x_of xs line ≤ 1000000) → (if is_p side then f.p_edge + 4 else f.n_edge - 4) ≤ 200000
node_small f xs node P small lines = omega (arith, small.top)
node_small f xs node N small lines = omega (arith, small.top, small.rows.channel)

gate_small : (f : Frame) (o : Option ℕ) → IsSmallFrame f → gate_y f o ≤ 200000
gate_small f None small = omega (arith, small.top)
gate_small f (Some width) small = omega (arith, small.top, small.rows.channel)

some_tag : (a t : Tag) → Some a ≡ Some t → IsSmallTag a → IsSmallTag t
some_tag a t e small = subst (λ z. IsSmallTag z) (some_same a t e) small

tag_small : (pins : Pins) (f : Frame) (tracks : ℕ) (nodes : List NodePlace) (trunks : List Trunk) (xs : List ℕ) (gates : List Gate) → Lies f tracks trunks xs gates → (net : NetNo) (t : Tag) → tag_of pins f nodes trunks xs gates net ≡ Some t → IsSmallTag t
tag_small pins f tracks nodes trunks xs gates l net t e = rails (net.0 == pins.gnd.0) (net.0 == pins.vdd.0) e
  where
    gate : (o : Option Gate) → find (λ (g : Gate). g.net.0 == net.0) gates ≡ o → option_map (gate_tag f) o ≡ Some t → IsSmallTag t
    gate None is h = absurd cc
    gate (Some g) is h = some_tag (gate_tag f g) t h (record { right = found_all (λ (z : Gate). z.x ≤ 1000000) (λ (z : Gate). z.net.0 == net.0) gates g l.on_gates is; top = gate_small f g.n l.small })

    node : (o : Option NodePlace) → find (λ (n : NodePlace). n.net.0 == net.0) nodes ≡ o → or_else (option_map (node_tag f xs) o) (option_map (gate_tag f) (find (λ (g : Gate). g.net.0 == net.0) gates)) ≡ Some t → IsSmallTag t
    node None is h = gate (find (λ (g : Gate). g.net.0 == net.0) gates) refl h
    node (Some n) is h = some_tag (node_tag f xs n) t h (record { right = l.lines n.line; top = node_small f xs n n.row l.small l.lines })

    trunk : (o : Option Trunk) → trunk_of trunks net ≡ o → or_else (option_map (λ (u : Trunk). metal_tag (x_of xs u.left) (track_y f u.track) net) o) (place_tag f nodes xs gates net) ≡ Some t → IsSmallTag t
    trunk None is h = node (find (λ (n : NodePlace). n.net.0 == net.0) nodes) refl h
    trunk (Some u) is h =
        let low : u.track < tracks = found_all (λ (z : Trunk). z.track < tracks) (λ (z : Trunk). z.net.0 == net.0) trunks u l.on_tracks is in
        some_tag (metal_tag (x_of xs u.left) (track_y f u.track) net) t h (record { right = l.lines u.left; top = omega (arith, low, l.frame.room, l.small.top) })

    rails : (g v : Bool) → (if g then Some (metal_tag 8 8 net) else if v then Some (metal_tag 8 (f.p_edge + f.p_height + 16) net) else net_tag f nodes trunks xs gates net) ≡ Some t → IsSmallTag t
    rails true v h = some_tag (metal_tag 8 8 net) t h (record { right = omega arith; top = omega arith })
    rails false true h = some_tag (metal_tag 8 (f.p_edge + f.p_height + 16) net) t h (record { right = omega arith; top = omega (arith, l.small.top) })
    rails false false h = trunk (trunk_of trunks net) refl h

pub tags_small : (pins : Pins) (f : Frame) (tracks nets : ℕ) (nodes : List NodePlace) (trunks : List Trunk) (xs : List ℕ) (gates : List Gate) → Lies f tracks trunks xs gates → All IsSmallTag (filter_map (λ n. tag_of pins f nodes trunks xs gates (net_no n)) (range_with_len 0 nets))
tags_small pins f tracks nets nodes trunks xs gates l = all_from_contains IsSmallTag (filter_map (λ n. tag_of pins f nodes trunks xs gates (net_no n)) (range_with_len 0 nets)) (λ t there.
    let k : Kept (λ n. tag_of pins f nodes trunks xs gates (net_no n)) (range_with_len 0 nets) t = kept_from (λ n. tag_of pins f nodes trunks xs gates (net_no n)) (range_with_len 0 nets) t there in
    tag_small pins f tracks nodes trunks xs gates l (net_no k.from) t k.gives)
