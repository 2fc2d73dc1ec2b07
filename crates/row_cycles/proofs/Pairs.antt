-- The pairs that a row's lines ask for are the nets above others in its placement.
use Rattle.std.proofs.Common.{ℕ, zero, suc, ◌≡◌, ◌≢◌, ◌+◌, ◌≤◌, ◌<◌, ◌==◌, ◌||◌, Bool, true, false, cond, List, [], ◌∷◌, Option, Some, None, length, inl, inr, refl, sym, ap, subst, arith, Contains}
use Rattle.std.proofs.lemmas.Bool.{or_parts}
use Rattle.std.proofs.lemmas.List.Elements.{Contains-append_cases, Contains-append_left, Contains-append_right}
use Rattle.cell_num.specs.declared.net.NetNo.{NetNo}
use Rattle.cell_num.specs.declared.net.Pins.{Pins}
use Rattle.cell_num.specs.declared.finger.Row.{Row}
use Rattle.cell_num.specs.declared.finger.Row.TheVariants.{P, N}
use Rattle.cell_num.specs.Pins.{IsRail, is_rail}
use Rattle.cell_num.proofs.Lists.{contains_here, contains_none, contains_one}
use Rattle.row_model.proofs.Decide.{net_decides}
use Rattle.row_place.specs.declared.placement.NodePlace.{NodePlace}
use Rattle.row_place.specs.declared.placement.Placement.{Placement}
use Rattle.row_place.specs.Trunks.{HasTrunk, IsAbove, lines_of}
use Rattle.track_ways.specs.declared.line.Line.{Line}
use Rattle.track_ways.specs.Channel.{AreLinesOf, side}
use Rattle.track_ways.specs.Lines.{is_net}
use Rattle.track_ways.proofs.Places.{NodeAt, at_line, is_net_some, node_at, node_of_line, some_is_net, the_node}
use Rattle.track_ways.proofs.Counts.{all_places, count_is, one_if}
use Rattle.track_ways.proofs.Holding.{rail_decides}
use Rattle.row_cycles.specs.declared.above.NetAbove.{NetAbove}
use Rattle.row_cycles.specs.Above.{above_at, above_ends, above_of, over}

abbrev apart_test : Pins → NetNo → NetNo → Bool
apart_test pins upper lower = (upper.0 == lower.0) || (is_rail pins upper || is_rail pins lower)

-- two different nets, no rails
pub record AreApart (pins : Pins) (upper lower : NetNo) : Type 0 where
  pub differ : upper ≢ lower
  pub upper_signal : IsRail pins upper → ⊥
  pub lower_signal : IsRail pins lower → ⊥

are_apart : (pins : Pins) (upper lower : NetNo) → apart_test pins upper lower ≡ false → AreApart pins upper lower
are_apart pins upper lower e =
    let w = or_parts (upper.0 == lower.0) (is_rail pins upper || is_rail pins lower) e in
    let v = or_parts (is_rail pins upper) (is_rail pins lower) w.1 in
    record {
      differ = λ same. wrong (upper.0 == lower.0) ((net_decides upper lower).1 same) w.0;
      upper_signal = λ r. wrong (is_rail pins upper) ((rail_decides pins upper).1 r) v.0;
      lower_signal = λ r. wrong (is_rail pins lower) ((rail_decides pins lower).1 r) v.1;
    }
  where
    wrong : (b : Bool) → b ≡ true → b ≡ false → ⊥
    wrong b t f = absurd cc

apart_tested : (pins : Pins) (upper lower : NetNo) → AreApart pins upper lower → apart_test pins upper lower ≡ false
apart_tested pins upper lower h =
    none (upper.0 == lower.0) (is_rail pins upper) (is_rail pins lower)
    (λ t. h.differ ((net_decides upper lower).0 t)) (λ t. h.upper_signal ((rail_decides pins upper).0 t))
    (λ t. h.lower_signal ((rail_decides pins lower).0 t))
  where
    none : (a b c : Bool) → (a ≡ true → ⊥) → (b ≡ true → ⊥) → (c ≡ true → ⊥) → (a || (b || c)) ≡ false
    none true b c x y z = absurd (x refl)
    none false true c x y z = absurd (y refl)
    none false false true x y z = absurd (z refl)
    none false false false x y z = refl

-- the ends of a pair at a line
record EndsOf (pins : Pins) (p n : Option NetNo) (a : NetAbove) : Type 0 where
  p_end : p ≡ Some a.upper
  n_end : n ≡ Some a.lower
  apart : AreApart pins a.upper a.lower

ends_of : (pins : Pins) (p n : Option NetNo) (a : NetAbove) → Contains (above_ends pins p n) a → EndsOf pins p n a
ends_of pins None n a h = absurd (contains_none a h)
ends_of pins (Some upper) None a h = absurd (contains_none a h)
ends_of pins (Some upper) (Some lower) a h = go (apart_test pins upper lower) refl h
  where
    go : (b : Bool) → apart_test pins upper lower ≡ b → Contains (cond b [] (over upper lower ∷ [])) a
        → EndsOf pins (Some upper) (Some lower) a
    go true e there = absurd (contains_none a there)
    go false e there = subst (EndsOf pins (Some upper) (Some lower)) (contains_one (over upper lower) a there)
        (record { p_end = refl; n_end = refl; apart = are_apart pins upper lower e })

-- a pair at one of the lines: one net in the P row, the other one in the N row
pub record PairAt (pins : Pins) (lines : List Line) (a : NetAbove) : Type 0 where
  pub at : ℕ
  pub p : at_line lines at (λ l. is_net l.p a.upper) ≡ true
  pub n : at_line lines at (λ l. is_net l.n a.lower) ≡ true
  pub apart : AreApart pins a.upper a.lower

pub pair_at : (pins : Pins) (lines : List Line) (a : NetAbove) → Contains (above_of pins lines) a → PairAt pins lines a
pair_at pins [] a h = absurd (contains_none a h)
pair_at pins (line ∷ lines) a h =
    elim (Contains-append_cases (above_at pins line) (above_of pins lines) a h) [
      | inl here ↦ first (ends_of pins line.p line.n a here)
      | inr rest ↦ later (pair_at pins lines a rest)
    ]
  where
    first : EndsOf pins line.p line.n a → PairAt pins (line ∷ lines) a
    first e = record {
      at = 0;
      p = is_net_some line.p a.upper e.p_end;
      n = is_net_some line.n a.lower e.n_end;
      apart = e.apart;
    }

    later : PairAt pins lines a → PairAt pins (line ∷ lines) a
    later r = record { at = suc r.at; p = r.p; n = r.n; apart = r.apart }

pub pair_there : (pins : Pins) (lines : List Line) (i : ℕ) (upper lower : NetNo) → AreApart pins upper lower
    → at_line lines i (λ l. is_net l.p upper) ≡ true → at_line lines i (λ l. is_net l.n lower) ≡ true
    → Contains (above_of pins lines) (over upper lower)
pair_there pins [] i upper lower apart p n = absurd cc
pair_there pins (line ∷ lines) zero upper lower apart p n =
    Contains-append_left (above_at pins line) (above_of pins lines) (over upper lower)
    (subst (λ x. Contains (above_ends pins x line.n) (over upper lower)) (sym (some_is_net line.p upper p))
    (subst (λ x. Contains (above_ends pins (Some upper) x) (over upper lower)) (sym (some_is_net line.n lower n))
    (subst (λ b. Contains (cond b [] (over upper lower ∷ [])) (over upper lower))
    (sym (apart_tested pins upper lower apart)) (contains_here (over upper lower) []))))
pair_there pins (line ∷ lines) (suc i) upper lower apart p n =
    Contains-append_right (above_at pins line) (above_of pins lines) (over upper lower)
    (pair_there pins lines i upper lower apart p n)

-- the places of a net in one of the two rows
abbrev row_places : Row → List Line → NetNo → ℕ
row_places row [] net = 0
row_places row (line ∷ lines) net = one_if (is_net (side row line) net) + row_places row lines net

row_there : (row : Row) (lines : List Line) (i : ℕ) (net : NetNo)
    → at_line lines i (λ l. is_net (side row l) net) ≡ true → 0 < row_places row lines net
row_there row [] i net e = absurd cc
row_there row (line ∷ lines) zero net e =
    let one : one_if (is_net (side row line) net) ≡ 1 = ap one_if e in omega (arith, one)
row_there row (line ∷ lines) (suc i) net e = omega (arith, row_there row lines i net e)

in_both : (lines : List Line) (net : NetNo) → row_places P lines net + row_places N lines net ≤ all_places lines net
in_both [] net = omega arith
in_both (line ∷ lines) net = omega (arith, in_both lines net)

-- a net with places in both rows has a trunk, if it is no rail
pub has_trunk : (p : Placement) (pins : Pins) (lines : List Line) → AreLinesOf p lines → (i j : ℕ) (net : NetNo)
    → (IsRail pins net → ⊥) → at_line lines i (λ l. is_net l.p net) ≡ true
    → at_line lines j (λ l. is_net l.n net) ≡ true → HasTrunk p pins net
has_trunk p pins lines h i j net signal top bottom =
    let up : 0 < row_places P lines net = row_there P lines i net top in
    let down : 0 < row_places N lines net = row_there N lines j net bottom in
    let two : 2 ≤ length (lines_of p net) = omega (arith, up, down, in_both lines net, count_is p lines h net) in
    (signal, inl two)

-- a pair of nets with trunks
pub pair_above : (p : Placement) (pins : Pins) (lines : List Line) → AreLinesOf p lines → (a : NetAbove)
    → (pair : PairAt pins lines a) → HasTrunk p pins a.upper → HasTrunk p pins a.lower
    → IsAbove p pins a.upper a.lower pair.at
pair_above p pins lines h a pair upper lower = record {
  p = node_of_line p lines h pair.at P a.upper pair.p;
  n = node_of_line p lines h pair.at N a.lower pair.n;
  differ = pair.apart.differ;
  upper_trunk = upper;
  lower_trunk = lower;
}

-- a net above another is such a pair
pub above_there : (p : Placement) (pins : Pins) (lines : List Line) → AreLinesOf p lines
    → (upper lower : NetNo) (line : ℕ) → IsAbove p pins upper lower line
    → Contains (above_of pins lines) (over upper lower)
above_there p pins lines h upper lower line above =
    let top : NodeAt 0 lines (the_node P line upper) = found (the_node P line upper) above.p in
    let bottom : NodeAt 0 lines (the_node N line lower) = found (the_node N line lower) above.n in
    let same : bottom.at ≡ top.at = omega (arith, top.line, bottom.line) in
    let apart : AreApart pins upper lower = record {
      differ = above.differ;
      upper_signal = above.upper_trunk.0;
      lower_signal = above.lower_trunk.0;
    } in
    pair_there pins lines top.at upper lower apart top.there
    (subst (λ i. at_line lines i (λ l. is_net l.n lower) ≡ true) same bottom.there)
  where
    found : (node : NodePlace) → Contains p.nodes node → NodeAt 0 lines node
    found node there = node_at 0 lines node (subst (λ ns. Contains ns node) h.nodes there)
