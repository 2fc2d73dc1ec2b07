-- On the fewest tracks none is empty.
use Rattle.std.proofs.Common.{ℕ, zero, suc, ◌≡◌, ◌≢◌, ◌-◌, ◌<◌, ◌≤◌, ◌⊎◌, ◌==◌, ltb, true, false, cond, List, [], map, inl, inr, refl, sym, subst, arith, Any, Contains}
use Rattle.std.specs.List.{list_any}
use Rattle.std.proofs.lemmas.Bool.{cases_Bool, cases_lt, cases_order, eq-eqb, eqb-true, lt-ltb, le-ltb}
use Rattle.std.proofs.lemmas.List.Elements.{All-contains}
use Rattle.cell_num.specs.declared.net.NetNo.{NetNo}
use Rattle.cell_num.specs.declared.net.Pins.{Pins}
use Rattle.cell_num.proofs.In.{Image, in_map, contains_map}
use Rattle.cell_num.proofs.Lists.{all_from_contains}
use Rattle.cell_num.proofs.Pairs.{Some', some_from_any, any_at, test_finds, test_fails, pairs_map}
use Rattle.row_place.specs.declared.placement.Placement.{Placement}
use Rattle.channel_route.specs.declared.routing.Trunk.{Trunk}
use Rattle.channel_route.specs.Routing.{AreApart}
use Rattle.dogleg_route.specs.declared.piece.PieceRouting.{PieceRouting}
use Rattle.dogleg_route.specs.Routings.{GoesOver, IsPieceAbove, StandsEarlier, ArePiecesLegal}
use Rattle.track_ways.specs.declared.line.Line.{Line}
use Rattle.track_ways.specs.Lines.{is_ahead}
use Rattle.track_ways.specs.Channel.{AreLinesOf}
use Rattle.piece_lines.specs.Lines.{PieceSweeps}
use Rattle.piece_lines.specs.Within.{ArePiecesWithin, routing_on}
use Rattle.piece_lines.proofs.Swept.{sweeps, legal_sweeps}

-- an empty track left out
abbrev lower_track : ℕ → ℕ → ℕ
lower_track j m = cond (ltb j m) (m - 1) m

lower_is : (j m : ℕ) → m ≢ j → ((j < m) × (suc (lower_track j m) ≡ m)) ⊎ ((m < j) × (lower_track j m ≡ m))
lower_is j m other = by (cases_order m j)
  where
    high : j < m → lower_track j m ≡ m - 1
    high more = rw (lt-ltb j m more) refl

    by : (m ≡ j) ⊎ ((m < j) ⊎ (j < m)) → ((j < m) × (suc (lower_track j m) ≡ m)) ⊎ ((m < j) × (lower_track j m ≡ m))
    by (inl same) = absurd (other same)
    by (inr (inl less)) = let low : m ≤ j = omega (arith, less) in inr (less, rw (le-ltb j m low) refl)
    by (inr (inr more)) = inl (more, omega (arith, high more, more))

lower_below : (limit j m : ℕ) → m < suc limit → j < suc limit → m ≢ j → lower_track j m < limit
lower_below limit j m less within other = elim (lower_is j m other) [ inl h ↦ omega (arith, h.0, h.1, less) | inr l ↦ omega (arith, l.0, l.1, within) ]

lower_one : (j m n : ℕ) → m ≢ j → n ≢ j → lower_track j m ≡ lower_track j n → m ≡ n
lower_one j m n mj nj e = by (lower_is j m mj) (lower_is j n nj)
  where
    by : ((j < m) × (suc (lower_track j m) ≡ m)) ⊎ ((m < j) × (lower_track j m ≡ m)) → ((j < n) × (suc (lower_track j n) ≡ n)) ⊎ ((n < j) × (lower_track j n ≡ n)) → m ≡ n
    by (inl a) (inl b) = omega (arith, a.1, b.1, e)
    by (inl a) (inr b) = absurd (omega (arith, a.0, a.1, b.0, b.1, e))
    by (inr a) (inl b) = absurd (omega (arith, a.0, a.1, b.0, b.1, e))
    by (inr a) (inr b) = omega (arith, a.1, b.1, e)

lower_less : (j m n : ℕ) → m ≢ j → n ≢ j → m < n → lower_track j m < lower_track j n
lower_less j m n mj nj e = by (lower_is j m mj) (lower_is j n nj)
  where
    by : ((j < m) × (suc (lower_track j m) ≡ m)) ⊎ ((m < j) × (lower_track j m ≡ m)) → ((j < n) × (suc (lower_track j n) ≡ n)) ⊎ ((n < j) × (lower_track j n ≡ n)) → lower_track j m < lower_track j n
    by (inl a) (inl b) = omega (arith, a.1, b.1, e)
    by (inl a) (inr b) = absurd (omega (arith, a.0, b.0, e))
    by (inr a) (inl b) = omega (arith, a.0, a.1, b.0, b.1)
    by (inr a) (inr b) = omega (arith, a.1, b.1, e)

abbrev lowered : ℕ → Trunk → Trunk
lowered j t = record { net = t.net; left = t.left; right = t.right; track = lower_track j t.track }

to_lowered : (j : ℕ) (P : Trunk → Type 0) (list : List Trunk) → ((t : Trunk) → P t → P (lowered j t)) → Any P list → Any P (map (lowered j) list)
to_lowered j P list f any = let s : Some' P list = some_from_any P list any in any_at P (map (lowered j) list) (lowered j s.it) (contains_map (lowered j) list s.it s.there) (f s.it s.holds)

from_lowered : (j : ℕ) (P : Trunk → Type 0) (list : List Trunk) → ((t : Trunk) → P (lowered j t) → P t) → Any P (map (lowered j) list) → Any P list
from_lowered j P list f any =
    let s : Some' P (map (lowered j) list) = some_from_any P (map (lowered j) list) any in
    let i : Image (lowered j) list s.it = in_map (lowered j) list s.it s.there in
    any_at P list i.of i.listed (f i.of (subst P (sym i.is) s.holds))

-- where no piece is on a track, one track fewer does
one_fewer : (p : Placement) (pins : Pins) (limit j : ℕ) (list : List Trunk) → ArePiecesWithin p pins (suc limit) list → j < suc limit → ((t : Trunk) → Contains list t → t.track ≢ j) → ArePiecesWithin p pins limit (map (lowered j) list)
one_fewer p pins limit j list w within empty = record {
  nets = λ net. (λ trunk. to_lowered j (λ (t : Trunk). t.net ≡ net) list (λ t e. e) ((w.nets net).0 trunk), λ any. (w.nets net).1 (from_lowered j (λ (t : Trunk). t.net ≡ net) list (λ t e. e) any));
  pieces = λ net l r. (λ piece. to_lowered j (GoesOver net l r) list (λ t e. record { of = e.of; begins = e.begins; ends = e.ends }) ((w.pieces net l r).0 piece), λ any. (w.pieces net l r).1 (from_lowered j (GoesOver net l r) list (λ t e. record { of = e.of; begins = e.begins; ends = e.ends }) any));
  order = pairs_map StandsEarlier (λ t. Contains list t) StandsEarlier (lowered j) list (λ x y at also e. e) (all_from_contains (λ t. Contains list t) list (λ t there. there)) w.order;
  low = all_from_contains (λ (t : Trunk). t.track < limit) (map (lowered j) list) (λ t there. low t (in_map (lowered j) list t there));
  apart = λ x y hx hy. apart x y (in_map (lowered j) list x hx) (in_map (lowered j) list y hy);
  above = λ x y hx hy. above x y (in_map (lowered j) list x hx) (in_map (lowered j) list y hy);
}
  where
    low : (t : Trunk) → Image (lowered j) list t → t.track < limit
    low t i = subst (λ (z : Trunk). z.track < limit) i.is (lower_below limit j i.of.track (All-contains (λ (z : Trunk). z.track < suc limit) list i.of w.low i.listed) within (empty i.of i.listed))

    apart : (x y : Trunk) → Image (lowered j) list x → Image (lowered j) list y → x.net ≢ y.net → x.track ≡ y.track → AreApart x y
    apart x y a b =
        subst (λ (z : Trunk). z.net ≢ y.net → z.track ≡ y.track → AreApart z y) a.is (subst (λ (z : Trunk). a.of.net ≢ z.net → lower_track j a.of.track ≡ z.track → AreApart (lowered j a.of) z) b.is
        (λ differ e. w.apart a.of b.of a.listed b.listed differ (lower_one j a.of.track b.of.track (empty a.of a.listed) (empty b.of b.listed) e)))

    above : (x y : Trunk) → Image (lowered j) list x → Image (lowered j) list y → (line : ℕ) → IsPieceAbove p pins x y line → y.track < x.track
    above x y a b =
        subst (λ (z : Trunk). (line : ℕ) → IsPieceAbove p pins z y line → y.track < z.track) a.is (subst (λ (z : Trunk). (line : ℕ) → IsPieceAbove p pins (lowered j a.of) z line → z.track < lower_track j a.of.track) b.is
        (λ line o. lower_less j b.of.track a.of.track (empty b.of b.listed) (empty a.of a.listed) (w.above a.of b.of a.listed b.listed line (record { over = o.over; upper_ends = o.upper_ends; lower_ends = o.lower_ends }))))

abbrev pub NoneFewer : Pins → List Line → ℕ → Type 0
NoneFewer pins lines limit = (fewer : ℕ) (track : NetNo → ℕ) → fewer < limit → PieceSweeps pins fewer (is_ahead []) track lines → ⊥

full : (p : Placement) (pins : Pins) (lines : List Line) → AreLinesOf p lines → (limit : ℕ) (list : List Trunk) → ArePiecesWithin p pins limit list → NoneFewer pins lines limit → (j : ℕ) → j < limit → Any (λ (t : Trunk). t.track ≡ j) list
full p pins lines h zero list w none j less = absurd (omega (arith, less))
full p pins lines h (suc limit) list w none j less =
    elim (cases_Bool (list_any (λ (t : Trunk). t.track == j) list)) [
      | inl found ↦ let s : Some' (λ (t : Trunk). (t.track == j) ≡ true) list = test_finds (λ (t : Trunk). t.track == j) list found in any_at (λ (t : Trunk). t.track ≡ j) list s.it s.there (eqb-true s.it.track j s.holds)
      | inr missing ↦ absurd (none limit (λ net. 0) (omega arith) (sweeps p pins lines h limit (map (lowered j) list) (one_fewer p pins limit j list w less (λ t there. off t (test_fails (λ (t : Trunk). t.track == j) list t missing there))) (λ net. 0)))
    ]
  where
    off : (t : Trunk) → (t.track == j) ≡ false → t.track ≢ j
    off t e same = let yes' : (t.track == j) ≡ true = eq-eqb t.track j same in cc

-- pieces on the fewest tracks are a legal routing
pub legal : (p : Placement) (pins : Pins) (lines : List Line) → AreLinesOf p lines → (limit : ℕ) (list : List Trunk) → ArePiecesWithin p pins limit list → NoneFewer pins lines limit → ArePiecesLegal p pins (routing_on limit list)
legal p pins lines h limit list w none = record { nets = w.nets; pieces = w.pieces; order = w.order; apart = w.apart; above = w.above; tracks = w.low; full = full p pins lines h limit list w none }

-- and no legal routing has fewer
pub none_less : (p : Placement) (pins : Pins) (lines : List Line) → AreLinesOf p lines → (limit : ℕ) → NoneFewer pins lines limit → (r : PieceRouting) → ArePiecesLegal p pins r → limit ≤ r.tracks
none_less p pins lines h limit none r l =
    elim (cases_lt r.tracks limit) [
      | inl fewer ↦ absurd (none r.tracks (λ net. 0) fewer (legal_sweeps p pins lines h r l r.tracks (omega arith) (λ net. 0)))
      | inr enough ↦ enough
    ]
