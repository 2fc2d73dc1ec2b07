-- A legal routing is a wiring: its trunks are the spans of their nets, cut at no line.
use Rattle.std.proofs.Common.{ℕ, ◌≡◌, ◌+◌, ◌<◌, ◌≤◌, inl, ap, subst, arith, Contains, Some, slice_get}
use Rattle.std.proofs.lemmas.List.Elements.{All-contains}
use Rattle.cell_num.specs.declared.net.NetNo.{NetNo}
use Rattle.cell_num.specs.declared.net.Pins.{Pins}
use Rattle.cell_num.proofs.Lists.{all_from_contains}
use Rattle.cell_num.proofs.Pairs.{Some', some_from_any, pairs_at}
use Rattle.row_place.specs.declared.placement.Placement.{Placement}
use Rattle.row_place.specs.Trunks.{lines_of, HasTrunk, IsSpan}
use Rattle.channel_route.specs.declared.routing.Trunk.{Trunk}
use Rattle.channel_route.specs.declared.routing.Routing.{Routing}
use Rattle.channel_route.specs.Routing.{IsLegal}
use Rattle.channel_route.specs.Wiring.{IsHeldAt, AreEnds, IsWiring}

-- a trunk of a legal routing goes over the span of its net
pub span_of : (p : Placement) (pins : Pins) (r : Routing) → IsLegal p pins r → (t : Trunk) → Contains r.trunks t → IsSpan p t.net t.left t.right
span_of p pins r l t there = All-contains (λ (t : Trunk). IsSpan p t.net t.left t.right) r.trunks t l.spans there

ends_of : (p : Placement) (pins : Pins) (r : Routing) → IsLegal p pins r → (t : Trunk) → Contains r.trunks t → AreEnds p t
ends_of p pins r l t there =
    let span : IsSpan p t.net t.left t.right = span_of p pins r l t there in
    record { left = span.begins; right = span.ends; ascending = All-contains (λ line. line ≤ t.right) (lines_of p t.net) t.left span.none_behind span.begins }

held_at : (p : Placement) (pins : Pins) (r : Routing) → IsLegal p pins r → (net : NetNo) (line : ℕ) → HasTrunk p pins net → Contains (lines_of p net) line → IsHeldAt r.trunks net line
held_at p pins r l net line has there =
    let t : Some' (λ (t : Trunk). t.net ≡ net) r.trunks = some_from_any (λ (t : Trunk). t.net ≡ net) r.trunks ((l.nets net).0 has) in
    let span : IsSpan p net t.it.left t.it.right = subst (λ n. IsSpan p n t.it.left t.it.right) t.holds (span_of p pins r l t.it t.there) in
    record {
      trunk = t.it;
      there = t.there;
      is = t.holds;
      holds = record { begins = All-contains (λ k. t.it.left ≤ k) (lines_of p net) line span.none_before there; ends = All-contains (λ k. k ≤ t.it.right) (lines_of p net) line span.none_behind there };
    }

-- trunks that follow each other are of different nets
never_next : (p : Placement) (pins : Pins) (r : Routing) → IsLegal p pins r → (at : ℕ) (a b : Trunk) → slice_get r.trunks at ≡ Some a → slice_get r.trunks (at + 1) ≡ Some b → a.net ≡ b.net → ⊥
never_next p pins r l at a b here next same =
    let less : a.net.0 < b.net.0 = pairs_at (λ (a b : Trunk). a.net.0 < b.net.0) r.trunks at (at + 1) a b l.order (omega arith) here next in
    omega (arith, less, ap (λ (n : NetNo). n.0) same)

pub legal_wiring : (p : Placement) (pins : Pins) (r : Routing) → IsLegal p pins r → IsWiring p pins r
legal_wiring p pins r l = record {
  nets = l.nets;
  ends = all_from_contains (AreEnds p) r.trunks (ends_of p pins r l);
  order = λ i j d less short. inl (l.order i j d less short);
  held = held_at p pins r l;
  next = λ at a b here next same. absurd (never_next p pins r l at a b here next same);
  apart = l.apart;
  above = λ a b ha hb line over _ _. l.above a b ha hb line over;
  tracks = l.tracks;
  full = l.full;
}
