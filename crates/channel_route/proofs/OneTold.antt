-- One cycle is told: a walk down has no choice, so two walks from one net come to one cycle.
use Rattle.std.proofs.Common.{ℕ, ◌≡◌, ◌<◌, ◌≤◌, ◌⊎◌, List, inl, inr, refl, sym, ap, subst, arith, Contains}
use Rattle.std.proofs.lemmas.Bool.{eq-eqb}
use Rattle.cell_num.specs.declared.net.NetNo.{NetNo}
use Rattle.cell_num.specs.declared.net.Pins.{Pins}
use Rattle.cell_num.specs.declared.finger.Row.TheVariants.{N}
use Rattle.row_model.proofs.Decide.{net_decides}
use Rattle.row_place.specs.declared.placement.NodePlace.{NodePlace}
use Rattle.row_place.specs.declared.placement.Placement.{Placement}
use Rattle.row_place.specs.Places.{StandsBefore, IsPlacement}
use Rattle.channel_route.specs.declared.routing.Above.{Above}
use Rattle.channel_route.specs.Cycle.{nets, by_number, IsCycleBelow}
use Rattle.channel_route.specs.Told.{IsFirstStuck, IsStep, IsTold}
use Rattle.channel_route.proofs.OneCycle.{Determined, Faithful, one_cycle}
use Rattle.channel_route.proofs.OneRouting.{either}
use Rattle.channel_route.proofs.TrunkChannel.{net_of}

same_lower : (p : Placement) → IsPlacement p → (a b : NodePlace) → Contains p.nodes a → Contains p.nodes b → a.line ≡ b.line → a.row ≡ N → b.row ≡ N → a.net ≡ b.net
same_lower p is a b ha hb line ra rb =
    elim (either StandsBefore p.nodes a b is.node_order ha hb) [
      | inl same ↦ ap (λ (z : NodePlace). z.net) same
      | inr other ↦ elim other [ inl before ↦ absurd (never a b line rb before) | inr behind ↦ absurd (never b a (sym line) ra behind) ]
    ]
  where
    never : (x y : NodePlace) → x.line ≡ y.line → y.row ≡ N → StandsBefore x y → ⊥
    never x y e r (inl less) = omega (arith, e, less)
    never x y e r (inr (_, _, up)) = absurd cc

-- a step has no choice
steps_determined : (p : Placement) (pins : Pins) → IsPlacement p → Determined (by_number (IsStep p pins))
steps_determined p pins is upper a b i j s t =
    let low : i ≤ j = s.first (net_of b) j t.over t.stuck in
    let high : j ≤ i = t.first (net_of a) i s.over s.stuck in
    let line : i ≡ j = omega (arith, low, high) in
    (line, ap (λ (n : NetNo). n.0) (same_lower p is (record { row = N; line = i; net = net_of a }) (record { row = N; line = j; net = net_of b }) s.over.n t.over.n line refl refl))

make : NetNo → ℕ → Above
make net line = record { net = net; line = line }

made : {a b : NetNo} {i j : ℕ} → a ≡ b → i ≡ j → make a i ≡ make b j
made e f = cc

entry_same : Faithful nets
unfolding make
entry_same a b e f = made (let n : a.net ≡ b.net = ap net_of e in n) f

net_same : (a b : NetNo) → a.0 ≤ b.0 → b.0 ≤ a.0 → a ≡ b
net_same a b low high = (net_decides a b).0 (eq-eqb a.0 b.0 (omega (arith, low, high)))

one_start : (p : Placement) (pins : Pins) (a b : NetNo) → IsFirstStuck p pins a → IsFirstStuck p pins b → a ≡ b
one_start p pins a b s t = by (s.none_before b t.first t.last t.stuck t.span) (t.none_before a s.first s.last s.stuck s.span)
  where
    by : (s.first < t.first) ⊎ ((s.first ≡ t.first) × (a.0 ≤ b.0)) → (t.first < s.first) ⊎ ((t.first ≡ s.first) × (b.0 ≤ a.0)) → a ≡ b
    by (inl e) (inl f) = absurd (omega (arith, e, f))
    by (inl e) (inr (f, _)) = absurd (omega (arith, e, f))
    by (inr (e, _)) (inl f) = absurd (omega (arith, e, f))
    by (inr (_, e)) (inr (_, f)) = net_same a b e f

pub one_told : (p : Placement) (pins : Pins) (a b : List Above) → IsPlacement p → IsTold p pins a → IsTold p pins b → a ≡ b
one_told p pins a b is s t = one_cycle nets (by_number (IsStep p pins)) (steps_determined p pins is) entry_same s.start.0 a b s.below (subst (λ (n : NetNo). IsCycleBelow (IsStep p pins) n b) (sym (one_start p pins s.start t.start s.first t.first)) t.below)
