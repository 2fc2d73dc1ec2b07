-- Tracks through the lines are those of legal pieces.
use Rattle.std.proofs.Common.{ℕ, ◌≡◌, ◌≢◌, ◌<◌, ◌≤◌, ◌↔◌, true, List, [], inl, inr, refl, sym, subst, arith, All, AllPairs, Any, Contains}
use Rattle.std.proofs.lemmas.Bool.{cases_lt}
use Rattle.std.proofs.lemmas.List.Elements.{All-contains}
use Rattle.cell_num.specs.declared.net.NetNo.{NetNo}
use Rattle.cell_num.specs.declared.net.Pins.{Pins}
use Rattle.cell_num.specs.declared.finger.Row.TheVariants.{P, N}
use Rattle.cell_num.proofs.Lists.{all_from_contains}
use Rattle.cell_num.proofs.Pairs.{any_at}
use Rattle.row_place.specs.declared.placement.Placement.{Placement}
use Rattle.row_place.specs.Trunks.{HasTrunk}
use Rattle.channel_route.specs.declared.routing.Trunk.{Trunk}
use Rattle.channel_route.specs.Routing.{AreApart}
use Rattle.dogleg_route.specs.Pieces.{IsPiece}
use Rattle.dogleg_route.specs.Routings.{GoesOver, EndsAt, IsPieceAbove, StandsEarlier}
use Rattle.dogleg_route.proofs.Marks.{mark_place, ascends}
use Rattle.track_ways.specs.declared.line.Line.{Line}
use Rattle.track_ways.specs.Lines.{is_ahead}
use Rattle.track_ways.specs.Channel.{AreLinesOf}
use Rattle.track_ways.proofs.Places.{some_is_net, the_node, node_line}
use Rattle.track_ways.proofs.Holding.{Split}
use Rattle.track_ways.proofs.Legal.{SplitAt}
use Rattle.piece_lines.specs.Lines.{IsOn}
use Rattle.piece_lines.specs.Within.{ArePiecesWithin}
use Rattle.piece_lines.proofs.OnLines.{node_side}
use Rattle.piece_lines.proofs.SweptAt.{into_at, FitEach}
use Rattle.piece_lines.proofs.Steady.{line_to, on_piece}

-- the pieces of a placement, each on the track of its net and its first line
pub record ArePieces (p : Placement) (pins : Pins) (of : ℕ → NetNo → ℕ) (list : List Trunk) : Type 0 where
  pub nets : (net : NetNo) → HasTrunk p pins net ↔ Any (λ t. t.net ≡ net) list
  pub pieces : (net : NetNo) (left right : ℕ) → IsPiece p pins net left right ↔ Any (GoesOver net left right) list
  pub order : AllPairs StandsEarlier list
  pub tracks : All (λ t. t.track ≡ of t.left t.net) list

pub within : (p : Placement) (pins : Pins) (lines : List Line) → AreLinesOf p lines → (limit : ℕ) (track : NetNo → ℕ) (outs : ℕ → NetNo → ℕ) → FitEach pins limit (is_ahead []) track lines outs → (list : List Trunk) → ArePieces p pins outs list → ArePiecesWithin p pins limit list
within p pins lines h limit track outs each list a = record {
  nets = a.nets;
  pieces = a.pieces;
  order = a.order;
  low = all_from_contains (λ (t : Trunk). t.track < limit) list (λ t there. low t there (begin t there));
  apart = apart;
  above = λ x y hx hy line over. above x y hx hy line over (line_to p lines h x.net line line (node_line p P line x.net over.over.p) (omega arith));
}
  where
    piece : (t : Trunk) → Contains list t → IsPiece p pins t.net t.left t.right
    piece t there = (a.pieces t.net t.left t.right).1 (any_at (GoesOver t.net t.left t.right) list t there (record { of = refl; begins = refl; ends = refl }))

    up : (t : Trunk) → Contains list t → t.left ≤ t.right
    up t there = ascends p pins t.net t.left t.right (piece t there)

    begin : (t : Trunk) → Contains list t → SplitAt lines t.left (λ line. true)
    begin t there = line_to p lines h t.net t.left t.left (mark_place p t.net t.left (piece t there).begins) (omega arith)

    on : (t : Trunk) → Contains list t → (k : ℕ) → t.left ≤ k → k ≤ t.right → (front : List Line) (line : Line) (rest : List Line) → Split lines k front line rest → IsOn pins (is_ahead front) line (is_ahead rest) (into_at track outs k) (outs k) t.net t.track
    on t there k least most front line rest s = subst (λ n. IsOn pins (is_ahead front) line (is_ahead rest) (into_at track outs k) (outs k) t.net n) (sym (All-contains (λ (t : Trunk). t.track ≡ outs t.left t.net) list t a.tracks there)) (on_piece p pins lines h limit track outs each t.net t.left t.right k (piece t there) least most front line rest s)

    low : (t : Trunk) → Contains list t → SplitAt lines t.left (λ line. true) → t.track < limit
    low t there s = (each t.left s.front s.line s.rest s.split).low t.net t.track (on t there t.left (omega arith) (up t there) s.front s.line s.rest s.split)

    -- where both hold the line at which one of them begins
    meet : (x y : Trunk) → Contains list x → Contains list y → SplitAt lines x.left (λ line. true) → y.left ≤ x.left → x.left ≤ y.right → x.track ≡ y.track → x.net ≡ y.net
    meet x y hx hy s least most e = (each x.left s.front s.line s.rest s.split).apart x.net y.net x.track (on x hx x.left (omega arith) (up x hx) s.front s.line s.rest s.split) (subst (λ n. IsOn pins (is_ahead s.front) s.line (is_ahead s.rest) (into_at track outs x.left) (outs x.left) y.net n) (sym e) (on y hy x.left least most s.front s.line s.rest s.split))

    apart : (x y : Trunk) → Contains list x → Contains list y → x.net ≢ y.net → x.track ≡ y.track → AreApart x y
    apart x y hx hy differ e =
        elim (cases_lt x.right y.left) [
          | inl before ↦ inl before
          | inr l ↦ elim (cases_lt y.right x.left) [
            | inl after ↦ inr after
            | inr r ↦ elim (cases_lt x.left y.left) [
              | inl less ↦ absurd (differ (sym (meet y x hy hx (begin y hy) (omega (arith, less)) l (sym e))))
              | inr more ↦ absurd (differ (meet x y hx hy (begin x hx) more r e))
            ]
          ]
        ]

    ends : (t : Trunk) → Contains list t → (line : ℕ) → EndsAt t line → (t.left ≤ line) × (line ≤ t.right)
    ends t there line (inl e) = (omega (arith, e), omega (arith, e, up t there))
    ends t there line (inr e) = (omega (arith, e, up t there), omega (arith, e))

    above : (x y : Trunk) → Contains list x → Contains list y → (line : ℕ) → IsPieceAbove p pins x y line → SplitAt lines line (λ line. true) → y.track < x.track
    above x y hx hy k over s =
        let ex = ends x hx k over.upper_ends in
        let ey = ends y hy k over.lower_ends in
        (each k s.front s.line s.rest s.split).above x.net y.net x.track y.track
        (some_is_net s.line.p x.net (node_side p lines h k s.front s.line s.rest s.split (the_node P k x.net) over.over.p refl))
        (some_is_net s.line.n y.net (node_side p lines h k s.front s.line s.rest s.split (the_node N k y.net) over.over.n refl))
        over.over.differ (on x hx k ex.0 ex.1 s.front s.line s.rest s.split) (on y hy k ey.0 ey.1 s.front s.line s.rest s.split)
