-- Trunks are legal exactly where their tracks fit every line.
use Rattle.std.proofs.Common.{ℕ, zero, suc, ◌≡◌, ◌≢◌, ◌+◌, ◌<◌, ◌≤◌, ◌++◌, ◌==◌, ◌||◌, Bool, true, false, List, [], ◌∷◌, Some, length, inl, inr, refl, sym, ap, subst, arith, All, Contains, ◌∙◌}
use Rattle.std.proofs.lemmas.Bool.{cases_lt, cases_eq}
use Rattle.std.proofs.lemmas.List.Elements.{All-contains, All-head, All-tail}
use Rattle.cell_num.specs.declared.net.NetNo.{NetNo}
use Rattle.cell_num.specs.declared.net.Pins.{Pins}
use Rattle.cell_num.specs.declared.finger.Row.{Row}
use Rattle.cell_num.specs.declared.finger.Row.TheVariants.{P, N}
use Rattle.cell_num.proofs.Lists.{all_from_contains}
use Rattle.cell_num.proofs.Pairs.{Some', some_from_any, any_at}
use Rattle.row_model.proofs.Decide.{net_decides}
use Rattle.row_place.specs.declared.placement.Placement.{Placement}
use Rattle.row_place.specs.Trunks.{lines_of, HasTrunk, IsSpan, IsAbove}
use Rattle.channel_route.specs.declared.routing.Trunk.{Trunk}
use Rattle.channel_route.specs.Routing.{AreApart}
use Rattle.track_ways.specs.declared.line.Line.{Line}
use Rattle.track_ways.specs.Lines.{is_net, has_place, is_ahead, with_line, is_held, LineFits, Fits}
use Rattle.track_ways.specs.Channel.{side, IsPlain, AreLinesOf, AreTrunks, AreLegalWithin}
use Rattle.track_ways.proofs.Tracks.{line_before}
use Rattle.track_ways.proofs.Places.{at_line, line_at, node_at, node_of_line, some_is_net, node_line, NodeAt}
use Rattle.track_ways.proofs.Holding.{Split, Holds, holding, at_behind}

-- the trunk of a net that holds a line, and its ends
pub record TrunkAt (p : Placement) (pins : Pins) (trunks : List Trunk) (net : NetNo) (k : ℕ) : Type 0 where
  pub trunk : Trunk
  pub there : Contains trunks trunk
  pub is : trunk.net ≡ net
  pub begins : trunk.left ≤ k
  pub ends : k ≤ trunk.right

pub trunk_at : (p : Placement) (pins : Pins) (track : NetNo → ℕ) (trunks : List Trunk) → AreTrunks p pins track trunks → (net : NetNo) (k : ℕ) → Holds p pins net k → TrunkAt p pins trunks net k
trunk_at p pins track trunks a net k h =
    let s : Some' (λ (t : Trunk). t.net ≡ net) trunks = some_from_any (λ (t : Trunk). t.net ≡ net) trunks ((a.nets net).0 h.trunk) in
    let span : IsSpan p s.it.net s.it.left s.it.right = All-contains (λ (t : Trunk). IsSpan p t.net t.left t.right) trunks s.it a.spans s.there in
    let mine : IsSpan p net s.it.left s.it.right = subst (λ n. IsSpan p n s.it.left s.it.right) s.holds span in
    record {
      trunk = s.it;
      there = s.there;
      is = s.holds;
      begins = omega (arith, h.first.2, All-contains (λ line. s.it.left ≤ line) (lines_of p net) h.first.0 mine.none_before h.first.1);
      ends = omega (arith, h.last.2, All-contains (λ line. line ≤ s.it.right) (lines_of p net) h.last.0 mine.none_behind h.last.1);
    }

-- a trunk holds each line of its span
pub holds_at : (p : Placement) (pins : Pins) (track : NetNo → ℕ) (trunks : List Trunk) → AreTrunks p pins track trunks → (t : Trunk) → Contains trunks t → (k : ℕ) → t.left ≤ k → k ≤ t.right → Holds p pins t.net k
holds_at p pins track trunks a t there k low high =
    let span : IsSpan p t.net t.left t.right = All-contains (λ (t : Trunk). IsSpan p t.net t.left t.right) trunks t a.spans there in
    record { trunk = (a.nets t.net).1 (any_at (λ (s : Trunk). s.net ≡ t.net) trunks t there refl); first = (t.left, span.begins, low); last = (t.right, span.ends, high) }

track_is : (p : Placement) (pins : Pins) (track : NetNo → ℕ) (trunks : List Trunk) → AreTrunks p pins track trunks → (t : Trunk) → Contains trunks t → t.track ≡ track t.net
track_is p pins track trunks a t there = All-contains (λ (t : Trunk). t.track ≡ track t.net) trunks t a.tracks there

-- what the tracks of legal trunks do at one line
line_fits : (p : Placement) (pins : Pins) (lines : List Line) → AreLinesOf p lines → (track : NetNo → ℕ) (trunks : List Trunk) (limit : ℕ) → AreTrunks p pins track trunks → AreLegalWithin p pins limit trunks → (k : ℕ) (front : List Line) (line : Line) (rest : List Line) → Split lines k front line rest → IsPlain line → LineFits pins limit track (is_ahead front) line (is_ahead rest)
line_fits p pins lines h track trunks limit a legal k front line rest s plain = record {
  low = λ net held. let t = trunk_of net held in subst (λ m. m < limit) (is t.trunk net t.there t.is) (All-contains (λ (t : Trunk). t.track < limit) trunks t.trunk legal.low t.there);
  apart = λ x y hx hy e. one x y (trunk_of x hx) (trunk_of y hy) e;
  above = λ upper lower top bottom differ hu hl. over upper lower top bottom differ (trunk_of upper hu) (trunk_of lower hl);
}
  where
    trunk_of : (net : NetNo) → is_held pins (is_ahead front) line (is_ahead rest) net ≡ true → TrunkAt p pins trunks net k
    trunk_of net held = trunk_at p pins track trunks a net k ((holding p pins lines h k front line rest s plain net).0 held)

    is : (t : Trunk) (net : NetNo) → Contains trunks t → t.net ≡ net → t.track ≡ track net
    is t net there e = track_is p pins track trunks a t there ∙ ap track e

    meet : (x y : NetNo) → (t : TrunkAt p pins trunks x k) → (u : TrunkAt p pins trunks y k) → AreApart t.trunk u.trunk → ⊥
    meet x y t u (inl e) = omega (arith, e, t.ends, u.begins)
    meet x y t u (inr e) = omega (arith, e, u.ends, t.begins)

    one : (x y : NetNo) → TrunkAt p pins trunks x k → TrunkAt p pins trunks y k → track x ≡ track y → x ≡ y
    one x y t u e =
        elim (cases_eq x.0 y.0) [
          | inl same ↦ (net_decides x y).0 (eqb_from x.0 y.0 same)
          | inr other ↦ absurd (meet x y t u (legal.apart t.trunk u.trunk t.there u.there (λ f. other (ap (λ (n : NetNo). n.0) (sym t.is ∙ f ∙ u.is))) (is t.trunk x t.there t.is ∙ e ∙ sym (is u.trunk y u.there u.is))))
        ]
      where
        eqb_from : (m n : ℕ) → m ≡ n → (m == n) ≡ true
        eqb_from m n e = grind (arith, e)

    node : (row : Row) (net : NetNo) → is_net (side row line) net ≡ true → Contains p.nodes (record { row = row; line = k; net = net })
    node row net e = node_of_line p lines h k row net (subst (λ ls. at_line ls k (λ q. is_net (side row q) net) ≡ true) (sym s.is) (subst (λ m. at_line (front ++ line ∷ rest) m (λ q. is_net (side row q) net) ≡ true) (let z : length front + 0 ≡ k = omega (arith, s.count) in z) (sym (at_behind front (line ∷ rest) 0 (λ q. is_net (side row q) net)) ∙ e)))

    net_there : (net : NetNo) → is_net (Some net) net ≡ true
    net_there net = (net_decides net net).1 refl

    over : (upper lower : NetNo) → line.p ≡ Some upper → line.n ≡ Some lower → upper ≢ lower → TrunkAt p pins trunks upper k → TrunkAt p pins trunks lower k → track lower < track upper
    over upper lower top bottom differ t u =
        let ht : Holds p pins t.trunk.net k = holds_at p pins track trunks a t.trunk t.there k t.begins t.ends in
        let hu : Holds p pins u.trunk.net k = holds_at p pins track trunks a u.trunk u.there k u.begins u.ends in
        let above : IsAbove p pins upper lower k = record {
          p = node P upper (subst (λ o. is_net o upper ≡ true) (sym top) (net_there upper));
          n = node N lower (subst (λ o. is_net o lower ≡ true) (sym bottom) (net_there lower));
          differ = differ;
          upper_trunk = subst (λ n. HasTrunk p pins n) t.is ht.trunk;
          lower_trunk = subst (λ n. HasTrunk p pins n) u.is hu.trunk;
        } in
        let named : IsAbove p pins t.trunk.net u.trunk.net k = subst (λ n. IsAbove p pins n u.trunk.net k) (sym t.is) (subst (λ n. IsAbove p pins upper n k) (sym u.is) above) in
        let less : u.trunk.track < t.trunk.track = legal.above t.trunk u.trunk t.there u.there k named in
        omega (arith, less, is t.trunk upper t.there t.is, is u.trunk lower u.there u.is)

push : (front : List Line) (line : Line) (rest : List Line) → front ++ line ∷ rest ≡ (front ++ line ∷ []) ++ rest
push [] line rest = refl
push (f ∷ front) line rest = ap (λ ls. f ∷ ls) (push front line rest)

or_none : (b : Bool) → b ≡ (b || false)
or_none true = refl
or_none false = refl

or_assoc : (a b c : Bool) → ((a || b) || c) ≡ (a || (b || c))
or_assoc true b c = refl
or_assoc false b c = refl

seen : (front : List Line) (line : Line) (net : NetNo) → (is_ahead front net || has_place line net) ≡ is_ahead (front ++ line ∷ []) net
seen [] line net = or_none (has_place line net)
seen (f ∷ front) line net = or_assoc (has_place f net) (is_ahead front net) (has_place line net) ∙ ap (λ b. has_place f net || b) (seen front line net)

-- tracks that fit each line fit the lines
pub fits_each : (pins : Pins) (lines : List Line) (track : NetNo → ℕ) (limit : ℕ) → ((k : ℕ) (front : List Line) (line : Line) (rest : List Line) → Split lines k front line rest → IsPlain line → LineFits pins limit track (is_ahead front) line (is_ahead rest)) → All IsPlain lines → Fits pins limit track (is_ahead []) lines
fits_each pins lines track limit each plain = go [] lines (is_ahead []) refl (λ net. refl) plain
  where
    go : (front rest : List Line) (before : NetNo → Bool) → lines ≡ front ++ rest → ((net : NetNo) → before net ≡ is_ahead front net) → All IsPlain rest → Fits pins limit track before rest
    go front [] before is same plain = tt
    go front (line ∷ rest) before is same plain = (
      line_before pins limit track (is_ahead front) before line rest same (each (length front) front line rest (record { is = is; count = refl }) (All-head IsPlain line rest plain)),
      go (front ++ line ∷ []) rest (with_line before line) (is ∙ push front line rest) (λ net. ap (λ b. b || has_place line net) (same net) ∙ seen front line net) (All-tail IsPlain line rest plain),
    )

-- the tracks of legal trunks fit every line
pub fits : (p : Placement) (pins : Pins) (lines : List Line) → AreLinesOf p lines → (track : NetNo → ℕ) (trunks : List Trunk) (limit : ℕ) → AreTrunks p pins track trunks → AreLegalWithin p pins limit trunks → Fits pins limit track (is_ahead []) lines
fits p pins lines h track trunks limit a legal = fits_each pins lines track limit (line_fits p pins lines h track trunks limit a legal) (λ i d l. h.plain i d l)

-- lines up to one at which something is so, and that one
pub record SplitAt (lines : List Line) (k : ℕ) (f : Line → Bool) : Type 0 where
  pub front : List Line
  pub line : Line
  pub rest : List Line
  pub split : Split lines k front line rest
  pub there : f line ≡ true

pub split_at : (lines : List Line) (k : ℕ) (f : Line → Bool) → at_line lines k f ≡ true → SplitAt lines k f
split_at [] k f e = absurd cc
split_at (x ∷ lines) zero f e = record { front = []; line = x; rest = lines; split = record { is = refl; count = refl }; there = e }
split_at (x ∷ lines) (suc k) f e = later (split_at lines k f e)
  where
    later : SplitAt lines k f → SplitAt (x ∷ lines) (suc k) f
    later s = record { front = x ∷ s.front; line = s.line; rest = s.rest; split = record { is = ap (λ ls. x ∷ ls) s.split.is; count = omega (arith, s.split.count) }; there = s.there }

-- one track for each net fits each line
pub fits_at : (pins : Pins) (limit : ℕ) (track : NetNo → ℕ) (before : NetNo → Bool) (front : List Line) (line : Line) (rest : List Line) → Fits pins limit track before (front ++ line ∷ rest) → LineFits pins limit track (λ net. before net || is_ahead front net) line (is_ahead rest)
fits_at pins limit track before [] line rest f = line_before pins limit track before (λ net. before net || false) line rest (λ net. or_none (before net)) f.0
  where
    or_none : (b : Bool) → (b || false) ≡ b
    or_none true = refl
    or_none false = refl
fits_at pins limit track before (x ∷ front) line rest f = line_before pins limit track (λ net. with_line before x net || is_ahead front net) (λ net. before net || (has_place x net || is_ahead front net)) line rest (λ net. or_assoc (before net) (has_place x net) (is_ahead front net)) (fits_at pins limit track (with_line before x) front line rest f.1)
  where
    or_assoc : (a b c : Bool) → (a || (b || c)) ≡ ((a || b) || c)
    or_assoc true b c = refl
    or_assoc false b c = refl

-- what is so at the line of a split
at_split_line : (lines : List Line) (k : ℕ) (front : List Line) (line : Line) (rest : List Line) → Split lines k front line rest → (f : Line → Bool) → at_line lines k f ≡ true → f line ≡ true
at_split_line lines k front line rest s f e = at_behind front (line ∷ rest) 0 f ∙ subst (λ m. at_line (front ++ line ∷ rest) m f ≡ true) (let z : k ≡ length front + 0 = omega (arith, s.count) in z) (subst (λ ls. at_line ls k f ≡ true) s.is e)

-- trunks whose tracks fit every line are legal
pub legal_within : (p : Placement) (pins : Pins) (lines : List Line) → AreLinesOf p lines → (track : NetNo → ℕ) (trunks : List Trunk) (limit : ℕ) → AreTrunks p pins track trunks → Fits pins limit track (is_ahead []) lines → AreLegalWithin p pins limit trunks
legal_within p pins lines h track trunks limit a f = record {
  low = all_from_contains (λ (t : Trunk). t.track < limit) trunks (λ t there. low t there (begin t there));
  apart = apart;
  above = above;
}
  where
    at : (k : ℕ) (front : List Line) (line : Line) (rest : List Line) → Split lines k front line rest → LineFits pins limit track (is_ahead front) line (is_ahead rest)
    at k front line rest s = fits_at pins limit track (is_ahead []) front line rest (subst (λ ls. Fits pins limit track (is_ahead []) ls) s.is f)

    plain : (k : ℕ) (front : List Line) (line : Line) (rest : List Line) → Split lines k front line rest → IsPlain line
    plain k front line rest s = All-head IsPlain line rest (behind front (line ∷ rest) (subst (λ ls. All IsPlain ls) s.is (λ i d l. h.plain i d l)))
      where
        behind : (front more : List Line) → All IsPlain (front ++ more) → All IsPlain more
        behind [] more b = b
        behind (x ∷ front) more b = behind front more (All-tail IsPlain x (front ++ more) b)

    held : (k : ℕ) (front : List Line) (line : Line) (rest : List Line) → Split lines k front line rest → (t : Trunk) → Contains trunks t → t.left ≤ k → k ≤ t.right → is_held pins (is_ahead front) line (is_ahead rest) t.net ≡ true
    held k front line rest s t there low high = (holding p pins lines h k front line rest s (plain k front line rest s) t.net).1 (holds_at p pins track trunks a t there k low high)

    span : (t : Trunk) → Contains trunks t → IsSpan p t.net t.left t.right
    span t there = All-contains (λ (t : Trunk). IsSpan p t.net t.left t.right) trunks t a.spans there

    begin : (t : Trunk) → Contains trunks t → SplitAt lines t.left (λ line. has_place line t.net)
    begin t there = split_at lines t.left (λ line. has_place line t.net) (line_at p lines h t.net t.left (span t there).begins)

    ascends : (t : Trunk) → Contains trunks t → t.left ≤ t.right
    ascends t there = All-contains (λ line. line ≤ t.right) (lines_of p t.net) t.left (span t there).none_behind (span t there).begins

    is : (t : Trunk) → Contains trunks t → t.track ≡ track t.net
    is t there = track_is p pins track trunks a t there

    low : (t : Trunk) → Contains trunks t → SplitAt lines t.left (λ line. has_place line t.net) → t.track < limit
    low t there s = omega (arith, is t there, (at t.left s.front s.line s.rest s.split).low t.net (held t.left s.front s.line s.rest s.split t there (omega arith) (ascends t there)))

    same : (k : ℕ) (front : List Line) (line : Line) (rest : List Line) → Split lines k front line rest → (x y : Trunk) → Contains trunks x → Contains trunks y → x.left ≤ k → k ≤ x.right → y.left ≤ k → k ≤ y.right → x.track ≡ y.track → x.net ≡ y.net
    same k front line rest s x y hx hy xl xr yl yr e = (at k front line rest s).apart x.net y.net (held k front line rest s x hx xl xr) (held k front line rest s y hy yl yr) (sym (is x hx) ∙ e ∙ is y hy)

    -- where both hold the line at which one of them begins
    meet : (x y : Trunk) → Contains trunks x → Contains trunks y → SplitAt lines x.left (λ line. has_place line x.net) → y.left ≤ x.left → x.left ≤ y.right → x.track ≡ y.track → x.net ≡ y.net
    meet x y hx hy s l r e = same x.left s.front s.line s.rest s.split x y hx hy (omega arith) (ascends x hx) l r e

    apart : (x y : Trunk) → Contains trunks x → Contains trunks y → x.net ≢ y.net → x.track ≡ y.track → AreApart x y
    apart x y hx hy differ e =
        elim (cases_lt x.right y.left) [
          | inl before ↦ inl before
          | inr l ↦ elim (cases_lt y.right x.left) [
            | inl behind ↦ inr behind
            | inr r ↦ elim (cases_lt x.left y.left) [
              | inl less ↦ absurd (differ (sym (meet y x hy hx (begin y hy) (omega (arith, less)) l (sym e))))
              | inr more ↦ absurd (differ (meet x y hx hy (begin x hx) more r e))
            ]
          ]
        ]

    above : (x y : Trunk) → Contains trunks x → Contains trunks y → (line : ℕ) → IsAbove p pins x.net y.net line → y.track < x.track
    above x y hx hy k over = go (split_at lines k (λ q. is_net q.p x.net) top)
      where
        at_place : (row : Row) (net : NetNo) → Contains p.nodes (record { row = row; line = k; net = net }) → at_line lines k (λ q. is_net (side row q) net) ≡ true
        at_place row net there = found (node_at 0 lines (record { row = row; line = k; net = net }) (subst (λ ns. Contains ns (record { row = row; line = k; net = net })) h.nodes there))
          where
            found : NodeAt 0 lines (record { row = row; line = k; net = net }) → at_line lines k (λ q. is_net (side row q) net) ≡ true
            found n = subst (λ m. at_line lines m (λ q. is_net (side row q) net) ≡ true) (let e : n.at ≡ k = omega (arith, n.line) in e) n.there

        top : at_line lines k (λ q. is_net q.p x.net) ≡ true
        top = at_place P x.net over.p

        holds : (t : Trunk) → Contains trunks t → (row : Row) → Contains p.nodes (record { row = row; line = k; net = t.net }) → (t.left ≤ k) × (k ≤ t.right)
        holds t there row node =
            let line : Contains (lines_of p t.net) k = node_line p row k t.net node in
            (All-contains (λ l. t.left ≤ l) (lines_of p t.net) k (span t there).none_before line, All-contains (λ l. l ≤ t.right) (lines_of p t.net) k (span t there).none_behind line)

        go : SplitAt lines k (λ q. is_net q.p x.net) → y.track < x.track
        go s =
            let hold_x = holds x hx P over.p in
            let hold_y = holds y hy N over.n in
            let bottom : is_net s.line.n y.net ≡ true = at_split_line lines k s.front s.line s.rest s.split (λ q. is_net q.n y.net) (at_place N y.net over.n) in
            let less : track y.net < track x.net = (at k s.front s.line s.rest s.split).above x.net y.net (some_is_net s.line.p x.net s.there) (some_is_net s.line.n y.net bottom) over.differ (held k s.front s.line s.rest s.split x hx hold_x.0 hold_x.1) (held k s.front s.line s.rest s.split y hy hold_y.0 hold_y.1) in
            omega (arith, less, is x hx, is y hy)
