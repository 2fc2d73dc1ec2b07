-- The tracks of legal pieces go through the lines.
use Rattle.std.proofs.Common.{ℕ, ◌≡◌, ◌≢◌, ◌<◌, ◌≤◌, ◌⊎◌, ◌&&◌, not, true, false, List, [], Some, inl, inr, refl, sym, ap, subst, arith, Contains, ◌∙◌}
use Rattle.std.proofs.lemmas.Bool.{cases_lt, cases_eq, eq-eqb, and_parts, or_left, or_right}
use Rattle.std.proofs.lemmas.List.Elements.{All-contains}
use Rattle.cell_num.specs.declared.net.NetNo.{NetNo}
use Rattle.cell_num.specs.declared.net.Pins.{Pins}
use Rattle.cell_num.specs.declared.finger.Row.TheVariants.{P, N}
use Rattle.cell_num.specs.Pins.{is_rail}
use Rattle.cell_num.proofs.Lists.{all_imply}
use Rattle.cell_num.proofs.Pairs.{Some', some_from_any, any_at}
use Rattle.row_model.proofs.Decide.{net_decides}
use Rattle.row_place.specs.declared.placement.Placement.{Placement}
use Rattle.row_place.specs.Trunks.{lines_of, IsAbove}
use Rattle.channel_route.specs.declared.routing.Trunk.{Trunk}
use Rattle.channel_route.specs.Routing.{AreApart}
use Rattle.dogleg_route.specs.declared.piece.PieceRouting.{PieceRouting}
use Rattle.dogleg_route.specs.Pieces.{HasNode, IsMark, IsPiece}
use Rattle.dogleg_route.specs.Routings.{GoesOver, EndsAt, ArePiecesLegal}
use Rattle.dogleg_route.proofs.Marks.{mark_place, node_between, ends_at}
use Rattle.dogleg_route.proofs.Holding.{HeldBy, piece_at}
use Rattle.track_ways.specs.declared.line.Line.{Line}
use Rattle.track_ways.specs.Lines.{is_net, is_ahead, is_open, is_held}
use Rattle.track_ways.specs.Channel.{side, AreLinesOf}
use Rattle.track_ways.proofs.Places.{is_net_some, node_of_line}
use Rattle.track_ways.proofs.Holding.{Parts, parts, Holds, holding}
use Rattle.piece_lines.specs.Lines.{may_turn, IsOn, PieceSweeps}
use Rattle.piece_lines.specs.Within.{ArePiecesWithin}
use Rattle.piece_lines.proofs.Goes.{GoesOn, goes_on}
use Rattle.piece_lines.proofs.TrackAt.{goes_after, track_at, track_at_is, goes_after_beginning, goes_after_within}
use Rattle.piece_lines.proofs.OnLines.{at_split, plain_at, open_held, node_of_turn, turn_of_node, After, after}
use Rattle.piece_lines.proofs.SweptAt.{into_at, FitEach, sweeps_of_each}

-- the trunk of a piece
pub record TrunkOf (list : List Trunk) (net : NetNo) (left right : ℕ) : Type 0 where
  pub trunk : Trunk
  pub there : Contains list trunk
  pub net' : trunk.net ≡ net
  pub left' : trunk.left ≡ left
  pub right' : trunk.right ≡ right

pub trunk_of : (p : Placement) (pins : Pins) (limit : ℕ) (list : List Trunk) → ArePiecesWithin p pins limit list → (net : NetNo) (left right : ℕ) → IsPiece p pins net left right → TrunkOf list net left right
trunk_of p pins limit list w net left right piece =
    let s : Some' (GoesOver net left right) list = some_from_any (GoesOver net left right) list ((w.pieces net left right).0 piece) in
    record { trunk = s.it; there = s.there; net' = s.holds.of; left' = s.holds.begins; right' = s.holds.ends }

pub piece_of : (p : Placement) (pins : Pins) (limit : ℕ) (list : List Trunk) → ArePiecesWithin p pins limit list → (t : Trunk) → Contains list t → IsPiece p pins t.net t.left t.right
piece_of p pins limit list w t there = (w.pieces t.net t.left t.right).1 (any_at (GoesOver t.net t.left t.right) list t there (record { of = refl; begins = refl; ends = refl }))

-- a trunk of the net that holds the line, on the track
pub record TrunkOn (list : List Trunk) (net : NetNo) (line track : ℕ) : Type 0 where
  pub trunk : Trunk
  pub there : Contains list trunk
  pub is : trunk.net ≡ net
  pub begins : trunk.left ≤ line
  pub ends : line ≤ trunk.right
  pub on : track ≡ trunk.track

-- one whose track is that of its net after a line
pub trunk_after : (p : Placement) (pins : Pins) (limit : ℕ) (list : List Trunk) → ArePiecesWithin p pins limit list → (net : NetNo) (left right line k : ℕ) → IsPiece p pins net left right → left ≤ line → (left ≡ line) ⊎ (line < right) → left ≤ k → k ≤ right → TrunkOn list net k (track_at list line net)
trunk_after p pins limit list w net left right line k piece low goes begins ends =
    let t : TrunkOf list net left right = trunk_of p pins limit list w net left right piece in
    let test : goes_after line t.trunk ≡ true = elim goes [ inl b ↦ goes_after_beginning line t.trunk (t.left' ∙ b) | inr h ↦ goes_after_within line t.trunk (omega (arith, t.left', low)) (omega (arith, t.right', h)) ] in
    let same : track_at list line t.trunk.net ≡ t.trunk.track = track_at_is p pins list (piece_of p pins limit list w) w.order line t.trunk t.there test in
    record { trunk = t.trunk; there = t.there; is = t.net'; begins = omega (arith, t.left', begins); ends = omega (arith, t.right', ends); on = subst (λ n. track_at list line n ≡ t.trunk.track) t.net' same }

line_fits : (p : Placement) (pins : Pins) (lines : List Line) → AreLinesOf p lines → (limit : ℕ) (list : List Trunk) → ArePiecesWithin p pins limit list → (track : NetNo → ℕ) → FitEach pins limit (is_ahead []) track lines (track_at list)
line_fits p pins lines h limit list w track k front line rest s = record {
  low = λ net t o. let u : TrunkOn list net k t = on net t o in subst (λ m. m < limit) (sym u.on) (All-contains (λ (t : Trunk). t.track < limit) list u.trunk w.low u.there);
  apart = λ x y t o q. one x y (on x t o) (on y t q);
  above = λ upper lower high low top bottom differ o q. over upper lower top bottom differ o.held q.held (on upper high o) (on lower low q);
  straight = keeps;
}
  where
    hold : (net : NetNo) → is_held pins (is_ahead front) line (is_ahead rest) net ≡ true → Holds p pins net k
    hold net held = (holding p pins lines h k front line rest s (plain_at p lines h k front line rest s) net).0 held

    at : (net : NetNo) → Parts p k front line rest net
    at net = parts p lines h k front line rest s net

    -- the piece that comes to the line
    comes : (net : NetNo) → Holds p pins net k → (early : ℕ) → Contains (lines_of p net) early → early < k → TrunkOn list net k (into_at track (track_at list) k net)
    comes net holds early there less =
        let m : After k = after k early less in
        let g : GoesOn p pins net m.before = goes_on p pins net m.before early holds.last.0 holds.trunk there (omega (arith, m.is, less)) holds.last.1 (omega (arith, m.is, holds.last.2)) in
        let t : TrunkOn list net k (track_at list m.before net) = trunk_after p pins limit list w net g.left g.right m.before k g.piece g.begins (inr g.beyond) (omega (arith, g.begins, m.is)) (omega (arith, g.beyond, m.is)) in
        subst (λ n. TrunkOn list net k (into_at track (track_at list) n net)) (sym m.is) t

    -- the piece that goes on from it
    leaves : (net : NetNo) → Holds p pins net k → (is_ahead front net ≡ false) ⊎ (is_ahead rest net ≡ true) → TrunkOn list net k (track_at list k net)
    leaves net holds (inr later) =
        let l = (at net).late later in
        let g : GoesOn p pins net k = goes_on p pins net k holds.first.0 l.0 holds.trunk holds.first.1 holds.first.2 l.1 l.2 in
        trunk_after p pins limit list w net g.left g.right k k g.piece g.begins (inr g.beyond) g.begins (omega (arith, g.beyond))
    leaves net holds (inl none) =
        let b : HeldBy p pins net k = piece_at p pins net k holds.trunk (subst (λ z. Contains (lines_of p net) z) (first holds.first.0 holds.first.1 holds.first.2) holds.first.1) in
        let left : b.left ≡ k = first b.left (mark_place p net b.left b.piece.begins) b.begins in
        trunk_after p pins limit list w net b.left b.right k k b.piece b.begins (inl left) b.begins b.ends
      where
        first : (l : ℕ) → Contains (lines_of p net) l → l ≤ k → l ≡ k
        first l there low = elim ((at net).each l there) [
          | inl early ↦ absurd (let e : is_ahead front net ≡ true = early.1 in cc)
          | inr other ↦ elim other [ inl here ↦ here.0 | inr late ↦ absurd (omega (arith, late.0, low)) ]
        ]

    on : (net : NetNo) (t : ℕ) → IsOn pins (is_ahead front) line (is_ahead rest) (into_at track (track_at list) k) (track_at list k) net t → TrunkOn list net k t
    on net t o = by o.piece
      where
        holds : Holds p pins net k
        holds = hold net o.held

        by : ((is_ahead front net ≡ true) × (t ≡ into_at track (track_at list) k net)) ⊎ (((is_ahead front net ≡ false) ⊎ (is_ahead rest net ≡ true)) × (t ≡ track_at list k net)) → TrunkOn list net k t
        by (inl (before, is)) = let e = (at net).early before in subst (λ z. TrunkOn list net k z) (sym is) (comes net holds e.0 e.1 e.2)
        by (inr (goes, is)) = subst (λ z. TrunkOn list net k z) (sym is) (leaves net holds goes)

    meet : (a b : Trunk) → a.left ≤ k → k ≤ a.right → b.left ≤ k → k ≤ b.right → AreApart a b → ⊥
    meet a b al ar bl br (inl e) = omega (arith, e, ar, bl)
    meet a b al ar bl br (inr e) = omega (arith, e, br, al)

    one : {t : ℕ} (x y : NetNo) → TrunkOn list x k t → TrunkOn list y k t → x ≡ y
    one x y a b =
        elim (cases_eq x.0 y.0) [
          | inl same ↦ (net_decides x y).0 (eq-eqb x.0 y.0 same)
          | inr differ ↦ absurd (meet a.trunk b.trunk a.begins a.ends b.begins b.ends (w.apart a.trunk b.trunk a.there b.there (λ e. differ (ap (λ (n : NetNo). n.0) (sym a.is ∙ e ∙ b.is))) (sym a.on ∙ b.on)))
        ]

    node : (net : NetNo) → may_turn line net ≡ true → HasNode p net k
    node net e = node_of_turn p lines h k front line rest s net e

    ends : (net : NetNo) (t : Trunk) → Contains list t → t.net ≡ net → t.left ≤ k → k ≤ t.right → HasNode p net k → EndsAt t k
    ends net t there is low high n = ends_at p pins t.net t.left t.right k (piece_of p pins limit list w t there) (inr (inr (subst (λ m. HasNode p m k) (sym is) n))) low high

    over : {high low : ℕ} (upper lower : NetNo) → line.p ≡ Some upper → line.n ≡ Some lower → upper ≢ lower → is_held pins (is_ahead front) line (is_ahead rest) upper ≡ true → is_held pins (is_ahead front) line (is_ahead rest) lower ≡ true → TrunkOn list upper k high → TrunkOn list lower k low → low < high
    over upper lower top bottom differ hu hl a b =
        let less : b.trunk.track < a.trunk.track = w.above a.trunk b.trunk a.there b.there k (record {
          over = named;
          upper_ends = ends upper a.trunk a.there a.is a.begins a.ends (node upper (top_turns (is_net_some line.p upper top)));
          lower_ends = ends lower b.trunk b.there b.is b.begins b.ends (node lower (bottom_turns (is_net_some line.n lower bottom)));
        }) in omega (arith, less, a.on, b.on)
      where
        top_turns : is_net line.p upper ≡ true → may_turn line upper ≡ true
        top_turns e = or_left (is_net line.p upper) (is_net line.n upper) e

        bottom_turns : is_net line.n lower ≡ true → may_turn line lower ≡ true
        bottom_turns e = or_right (is_net line.p lower) (is_net line.n lower) e

        above : IsAbove p pins upper lower k
        above = record {
          p = node_of_line p lines h k P upper (at_split lines k front line rest s (λ q. is_net (side P q) upper) ∙ is_net_some line.p upper top);
          n = node_of_line p lines h k N lower (at_split lines k front line rest s (λ q. is_net (side N q) lower) ∙ is_net_some line.n lower bottom);
          differ = differ;
          upper_trunk = (hold upper hu).trunk;
          lower_trunk = (hold lower hl).trunk;
        }

        named : IsAbove p pins a.trunk.net b.trunk.net k
        named = subst (λ n. IsAbove p pins n b.trunk.net k) (sym a.is) (subst (λ n. IsAbove p pins upper n k) (sym b.is) above)

    keeps : (net : NetNo) → is_open pins (is_ahead front) (is_ahead rest) net ≡ true → may_turn line net ≡ false → track_at list k net ≡ into_at track (track_at list) k net
    keeps net o turns =
        let both : (is_ahead front net ≡ true) × (is_ahead rest net ≡ true) = and_parts (is_ahead front net) (is_ahead rest net) (and_parts (not (is_rail pins net)) (is_ahead front net && is_ahead rest net) o).1 in
        let e = (at net).early both.0 in
        let l = (at net).late both.1 in
        let m : After k = after k e.0 e.2 in
        let g : GoesOn p pins net m.before = goes_on p pins net m.before e.0 l.0 (hold net (open_held pins (is_ahead front) line (is_ahead rest) net o)).trunk e.1 (omega (arith, m.is, e.2)) l.1 (omega (arith, m.is, l.2)) in
        elim (cases_lt k g.right) [
          | inr back ↦ absurd (stops g l.0 l.1 l.2 e.0 e.1 e.2 (let z : g.right ≡ k = omega (arith, back, g.beyond, m.is) in z))
          | inl beyond ↦
              let a : TrunkOf list net g.left g.right = trunk_of p pins limit list w net g.left g.right g.piece in
              let now : track_at list k a.trunk.net ≡ a.trunk.track = track_at_is p pins list (piece_of p pins limit list w) w.order k a.trunk a.there (goes_after_within k a.trunk (omega (arith, a.left', g.begins, m.is)) (omega (arith, a.right', beyond))) in
              let then' : track_at list m.before a.trunk.net ≡ a.trunk.track = track_at_is p pins list (piece_of p pins limit list w) w.order m.before a.trunk a.there (goes_after_within m.before a.trunk (omega (arith, a.left', g.begins)) (omega (arith, a.right', g.beyond))) in
              subst (λ n. track_at list k net ≡ into_at track (track_at list) n net) (sym m.is) (subst (λ n. track_at list k n ≡ track_at list m.before n) a.net' (now ∙ sym then'))
        ]
      where
        stops : {m : ℕ} → (g : GoesOn p pins net m) → (late : ℕ) → Contains (lines_of p net) late → k < late → (early : ℕ) → Contains (lines_of p net) early → early < k → g.right ≡ k → ⊥
        stops g late there high early there' low is =
            let t : may_turn line net ≡ true = turn_of_node p lines h k front line rest s net (node_between p net early k late (subst (λ z. IsMark p net z) is g.piece.ends) there' there low high) in cc

-- pieces within a limit give tracks through the lines
pub sweeps : (p : Placement) (pins : Pins) (lines : List Line) → AreLinesOf p lines → (limit : ℕ) (list : List Trunk) → ArePiecesWithin p pins limit list → (track : NetNo → ℕ) → PieceSweeps pins limit (is_ahead []) track lines
sweeps p pins lines h limit list w track = sweeps_of_each pins limit (is_ahead []) track lines (track_at list) (line_fits p pins lines h limit list w track)

-- a legal routing is pieces on as many tracks as it has, or more
pub within_of_legal : (p : Placement) (pins : Pins) (r : PieceRouting) → ArePiecesLegal p pins r → (limit : ℕ) → r.tracks ≤ limit → ArePiecesWithin p pins limit r.pieces
within_of_legal p pins r l limit enough = record {
  nets = l.nets;
  pieces = l.pieces;
  order = l.order;
  low = all_imply (λ (t : Trunk). t.track < r.tracks) (λ (t : Trunk). t.track < limit) r.pieces (λ t less. omega (arith, less, enough)) l.tracks;
  apart = l.apart;
  above = l.above;
}

pub legal_sweeps : (p : Placement) (pins : Pins) (lines : List Line) → AreLinesOf p lines → (r : PieceRouting) → ArePiecesLegal p pins r → (limit : ℕ) → r.tracks ≤ limit → (track : NetNo → ℕ) → PieceSweeps pins limit (is_ahead []) track lines
legal_sweeps p pins lines h r l limit enough track = sweeps p pins lines h limit r.pieces (within_of_legal p pins r l limit enough) track
