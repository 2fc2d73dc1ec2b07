-- Which nets have places before and behind a prefix, by counts of its fingers.
use Rattle.std.proofs.Common.{ℕ, ◌≡◌, ◌+◌, ◌*◌, ◌≤◌, ◌⊎◌, ◌++◌, ◌==◌, ◌&&◌, ltb, not, Bool, true, false, cond, List, [], ◌∷◌, Option, Some, None, inl, inr, refl, sym, ap, subst, arith, All, option_map, ◌∙◌}
use Rattle.std.specs.List.{cons_option}
use Rattle.std.proofs.lemmas.Bool.{cases_Bool, lt-ltb, le-ltb, or_parts, eqb-true}
use Rattle.std.proofs.lemmas.List.Elements.{All-head, All-tail}
use Rattle.std.proofs.lemmas.List.Sums.{sum_by-append, sum_by-cons}
use Rattle.std.proofs.lemmas.List.Sorted.{sum_by-IsPermutation}
use Rattle.cell_num.specs.declared.net.NetNo.{NetNo}
use Rattle.cell_num.specs.declared.net.Pins.{Pins}
use Rattle.cell_num.specs.declared.finger.Row.{Row}
use Rattle.cell_num.specs.declared.finger.Row.TheVariants.{P, N}
use Rattle.cell_num.specs.declared.finger.Finger.{Finger}
use Rattle.row_model.specs.declared.column.Placed.{Placed}
use Rattle.row_model.specs.declared.column.Column.{Column}
use Rattle.row_model.specs.Arrangement.{fingers_in, IsColumn, AreOneColumn, gate_in}
use Rattle.row_model.specs.Gaps.{left_net}
use Rattle.row_trails.specs.Trails.{end_differs}
use Rattle.row_place.specs.Steps.{or_else}
use Rattle.row_state.specs.declared.kind.Kinds.{Kinds}
use Rattle.row_state.specs.declared.state.State.{State}
use Rattle.row_state.specs.Completion.{left_in, Completes}
use Rattle.row_state.specs.Start.{start_of}
use Rattle.track_ways.specs.declared.line.Line.{Line}
use Rattle.track_ways.specs.Lines.{is_net, is_ahead, is_open}
use Rattle.cell_num.specs.Pins.{is_rail}
use Rattle.track_ways.specs.Rows.{left_end, right_end, node_line, gate_line, is_gap_behind, lines_between, lines_behind, lines_before, end_after}
use Rattle.track_ways.specs.States.{touches, touched, touched_left, touched_here, is_behind, is_still_ahead, is_open_at, IsBehind}
use Rattle.track_ways.proofs.Counts.{one_if, all_places}
use Rattle.track_ways.proofs.Holding.{ahead_counts, none_ahead, places_append}

-- what a place of a column counts
abbrev pub of_placed : NetNo → Option Placed → ℕ
of_placed net None = 0
of_placed net (Some x) = touches net x.finger

abbrev pub of_row : NetNo → List Column → ℕ
of_row net [] = 0
of_row net (c ∷ cs) = of_placed net c.p + of_placed net c.n + of_row net cs

abbrev pub gate_one : NetNo → Option Placed → ℕ
gate_one net None = 0
gate_one net (Some x) = one_if (x.finger.gate.0 == net.0)

-- both ends and the gate
pub placed_is : (net : NetNo) (o : Option Placed) → of_placed net o ≡ one_if (is_net (left_end o) net) + one_if (is_net (right_end o) net) + gate_one net o
placed_is net None = refl
placed_is net (Some x) = go x.flipped
  where
    go : (b : Bool) → touches net x.finger ≡ one_if ((cond b x.finger.hi x.finger.lo).0 == net.0) + one_if ((cond b x.finger.lo x.finger.hi).0 == net.0) + one_if (x.finger.gate.0 == net.0)
    go true = omega arith
    go false = omega arith

-- a gate place counts as the one or two fingers on it
pub record GateCounts (net : NetNo) (p n : Option Placed) : Type 0 where
  pub least : one_if (is_net (gate_in p n) net) ≤ gate_one net p + gate_one net n
  pub most : gate_one net p + gate_one net n ≤ 2 * one_if (is_net (gate_in p n) net)

pub gate_counts : (net : NetNo) (p n : Option Placed) → AreOneColumn p n → GateCounts net p n
gate_counts net None None one = absurd one
gate_counts net (Some x) None one = record { least = omega arith; most = omega arith }
gate_counts net None (Some y) one = record { least = omega arith; most = omega arith }
gate_counts net (Some x) (Some y) one =
    let same : one_if (x.finger.gate.0 == net.0) ≡ one_if (y.finger.gate.0 == net.0) = ap (λ (g : NetNo). one_if (g.0 == net.0)) one.0 in
    record { least = omega (arith, same); most = omega (arith, same) }

-- an open end and the end that faces it, where no gap is between them
pub record FaceCounts (net : NetNo) (end : Option NetNo) (o : Option Placed) : Type 0 where
  pub least : one_if (is_net (or_else end (left_end o)) net) ≤ one_if (is_net end net) + one_if (is_net (left_end o) net)
  pub most : one_if (is_net end net) + one_if (is_net (left_end o) net) ≤ 2 * one_if (is_net (or_else end (left_end o)) net)

face_counts : (net : NetNo) (end : Option NetNo) (o : Option Placed) → end_differs end o ≡ false → FaceCounts net end o
face_counts net None o e = record { least = omega arith; most = omega arith }
face_counts net (Some v) None e = record { least = omega arith; most = omega arith }
face_counts net (Some v) (Some x) e =
    let same : one_if (v.0 == net.0) ≡ one_if ((left_net x).0 == net.0) = ap (λ (m : ℕ). one_if (m == net.0)) (facing v.0 (left_net x).0 e) in
    record { least = omega (arith, same); most = omega (arith, same) }
  where
    facing : (a b : ℕ) → not (a == b) ≡ false → a ≡ b
    facing a b e = eqb-true a b (go (a == b) e)
      where
        go : (t : Bool) → not t ≡ false → t ≡ true
        go true e = refl
        go false e = absurd cc

-- the lines up to a column's gate count as the ends at them
pub record BetweenCounts (net : NetNo) (p n : Option NetNo) (c : Column) : Type 0 where
  pub least : all_places (lines_between p n c) net ≤ one_if (is_net p net) + one_if (is_net n net) + one_if (is_net (left_end c.p) net) + one_if (is_net (left_end c.n) net)
  pub most : one_if (is_net p net) + one_if (is_net n net) + one_if (is_net (left_end c.p) net) + one_if (is_net (left_end c.n) net) ≤ 2 * all_places (lines_between p n c) net

pub between_counts : (net : NetNo) (p n : Option NetNo) (c : Column) → BetweenCounts net p n c
between_counts net p n c = go (is_gap_behind p n c) refl
  where
    lines : Bool → List Line
    lines b = cond b (node_line p n ∷ node_line None None ∷ node_line (left_end c.p) (left_end c.n) ∷ []) (node_line (or_else p (left_end c.p)) (or_else n (left_end c.n)) ∷ [])

    ends : ℕ
    ends = one_if (is_net p net) + one_if (is_net n net) + one_if (is_net (left_end c.p) net) + one_if (is_net (left_end c.n) net)

    bounds : (b : Bool) → is_gap_behind p n c ≡ b → (all_places (lines b) net ≤ ends) × (ends ≤ 2 * all_places (lines b) net)
    bounds true e = (omega arith, omega arith)
    bounds false e =
        let w : (end_differs p c.p ≡ false) × (end_differs n c.n ≡ false) = or_parts _ _ e in
        let top : FaceCounts net p c.p = face_counts net p c.p w.0 in
        let bottom : FaceCounts net n c.n = face_counts net n c.n w.1 in
        (omega (arith, top.least, bottom.least), omega (arith, top.most, bottom.most))

    go : (b : Bool) → is_gap_behind p n c ≡ b → BetweenCounts net p n c
    go b e = let w = bounds b e in record { least = subst (λ (t : Bool). all_places (lines t) net ≤ ends) (sym e) w.0; most = subst (λ (t : Bool). ends ≤ 2 * all_places (lines t) net) (sym e) w.1 }

-- the lines behind a prefix
pub record BehindCounts (net : NetNo) (p n : Option NetNo) (row : List Column) : Type 0 where
  pub least : all_places (lines_behind p n row) net ≤ one_if (is_net p net) + one_if (is_net n net) + of_row net row
  pub most : one_if (is_net p net) + one_if (is_net n net) + of_row net row ≤ 2 * all_places (lines_behind p n row) net

pub behind_counts : (net : NetNo) (p n : Option NetNo) (row : List Column) → All IsColumn row → BehindCounts net p n row
behind_counts net p n [] columns = record { least = omega arith; most = omega arith }
behind_counts net p n (c ∷ cs) columns =
    let rest : BehindCounts net (right_end c.p) (right_end c.n) cs = behind_counts net (right_end c.p) (right_end c.n) cs (All-tail IsColumn c cs columns) in
    let gate : GateCounts net c.p c.n = gate_counts net c.p c.n (All-head IsColumn c cs columns) in
    let between : BetweenCounts net p n c = between_counts net p n c in
    let split : all_places (lines_behind p n (c ∷ cs)) net ≡ all_places (lines_between p n c) net + all_places (gate_line c ∷ lines_behind (right_end c.p) (right_end c.n) cs) net = places_append (lines_between p n c) (gate_line c ∷ lines_behind (right_end c.p) (right_end c.n) cs) net in
    record {
      least = omega (arith, rest.least, gate.least, between.least, split, placed_is net c.p, placed_is net c.n);
      most = omega (arith, rest.most, gate.most, between.most, split, placed_is net c.p, placed_is net c.n);
    }

-- the lines up to the last node line of a prefix
pub record BeforeCounts (net : NetNo) (p n : Option NetNo) (row : List Column) : Type 0 where
  pub least : all_places (lines_before p n row) net + (one_if (is_net (end_after P p row) net) + one_if (is_net (end_after N n row) net)) ≤ one_if (is_net p net) + one_if (is_net n net) + of_row net row
  pub most : one_if (is_net p net) + one_if (is_net n net) + of_row net row ≤ 2 * all_places (lines_before p n row) net + (one_if (is_net (end_after P p row) net) + one_if (is_net (end_after N n row) net))

pub before_counts : (net : NetNo) (p n : Option NetNo) (row : List Column) → All IsColumn row → BeforeCounts net p n row
before_counts net p n [] columns = record { least = omega arith; most = omega arith }
before_counts net p n (c ∷ cs) columns =
    let rest : BeforeCounts net (right_end c.p) (right_end c.n) cs = before_counts net (right_end c.p) (right_end c.n) cs (All-tail IsColumn c cs columns) in
    let gate : GateCounts net c.p c.n = gate_counts net c.p c.n (All-head IsColumn c cs columns) in
    let between : BetweenCounts net p n c = between_counts net p n c in
    let split : all_places (lines_before p n (c ∷ cs)) net ≡ all_places (lines_between p n c) net + all_places (gate_line c ∷ lines_before (right_end c.p) (right_end c.n) cs) net = places_append (lines_between p n c) (gate_line c ∷ lines_before (right_end c.p) (right_end c.n) cs) net in
    record {
      least = omega (arith, rest.least, gate.least, between.least, split, placed_is net c.p, placed_is net c.n);
      most = omega (arith, rest.most, gate.most, between.most, split, placed_is net c.p, placed_is net c.n);
    }

-- by fingers
row_touched : (net : NetNo) (row : Row) (cs : List Column) → ℕ
row_touched net row cs = touched net (fingers_in row cs)

option_counts : (net : NetNo) (o : Option Placed) (fs : List Finger) → touched net (cons_option (option_map (λ (x : Placed). x.finger) o) fs) ≡ of_placed net o + touched net fs
option_counts net None fs = omega arith
option_counts net (Some x) fs = sum_by-cons (touches net) x.finger fs

pub of_row_is : (net : NetNo) (cs : List Column) → of_row net cs ≡ touched net (fingers_in P cs) + touched net (fingers_in N cs)
of_row_is net [] = refl
of_row_is net (c ∷ cs) = omega (arith, of_row_is net cs, option_counts net c.p (fingers_in P cs), option_counts net c.n (fingers_in N cs))

-- the fingers of a state's prefix, by those that it has left
pub prefix_touched : (k : Kinds) (prefix : List Column) (s : State) (net : NetNo) → IsBehind k prefix s → touched_left k (start_of k) net ≡ of_row net prefix + touched_left k s net
prefix_touched k prefix s net b =
    omega (
      arith,
      of_row_is net prefix,
      sum_by-IsPermutation (touches net) _ _ b.p,
      sum_by-append (touches net) (fingers_in P prefix) (left_in k s).p,
      sum_by-IsPermutation (touches net) _ _ b.n,
      sum_by-append (touches net) (fingers_in N prefix) (left_in k s).n,
    )

pub rest_touched : (k : Kinds) (rest : List Column) (s : State) (net : NetNo) → Completes k s rest → of_row net rest ≡ touched_left k s net
rest_touched k rest s net c = omega (arith, of_row_is net rest, sum_by-IsPermutation (touches net) _ _ c.p, sum_by-IsPermutation (touches net) _ _ c.n)

ahead_is : (lines : List Line) (net : NetNo) (n : ℕ) → (all_places lines net ≤ n) → (n ≤ 2 * all_places lines net) → is_ahead lines net ≡ ltb 0 n
ahead_is lines net n least most =
    elim (cases_Bool (is_ahead lines net)) [
      | inl yes' ↦ yes' ∙ sym (lt-ltb 0 n (omega (arith, least, ahead_counts lines net yes')))
      | inr no' ↦ no' ∙ sym (le-ltb 0 n (omega (arith, most, none_ahead lines net no')))
    ]

-- the nets with places at the lines from the last node line on are known from the state
pub ahead_of_state : (k : Kinds) (rest : List Column) (s : State) (net : NetNo) → Completes k s rest → is_ahead (lines_behind s.p_end s.n_end rest) net ≡ is_still_ahead k s net
ahead_of_state k rest s net c =
    let b : BehindCounts net s.p_end s.n_end rest = behind_counts net s.p_end s.n_end rest c.columns in
    let t : of_row net rest ≡ touched_left k s net = rest_touched k rest s net c in
    ahead_is (lines_behind s.p_end s.n_end rest) net (touched_left k s net + touched_here s net) (omega (arith, b.least, t)) (omega (arith, b.most, t))

-- and so are those with places before it
pub before_of_state : (k : Kinds) (prefix : List Column) (s : State) (net : NetNo) → All IsColumn prefix → IsBehind k prefix s → is_ahead (lines_before None None prefix) net ≡ is_behind k s net
before_of_state k prefix s net columns b = go (cases_Bool (is_ahead (lines_before None None prefix) net))
  where
    counts : BeforeCounts net None None prefix
    counts = before_counts net None None prefix columns

    all : touched_left k (start_of k) net ≡ of_row net prefix + touched_left k s net
    all = prefix_touched k prefix s net b

    here : touched_here s net ≡ one_if (is_net (end_after P None prefix) net) + one_if (is_net (end_after N None prefix) net)
    here = ap (λ (o : Option NetNo). one_if (is_net o net) + one_if (is_net s.n_end net)) b.p_end ∙ ap (λ (o : Option NetNo). one_if (is_net (end_after P None prefix) net) + one_if (is_net o net)) b.n_end

    go : (is_ahead (lines_before None None prefix) net ≡ true) ⊎ (is_ahead (lines_before None None prefix) net ≡ false) → is_ahead (lines_before None None prefix) net ≡ is_behind k s net
    go (inl yes') = yes' ∙ sym (lt-ltb _ _ (omega (arith, counts.least, all, here, ahead_counts (lines_before None None prefix) net yes')))
    go (inr no') = no' ∙ sym (le-ltb _ _ (omega (arith, counts.most, all, here, none_ahead (lines_before None None prefix) net no')))

-- the law: a net is open behind a prefix exactly where the state says so
pub open_of_state : (pins : Pins) (k : Kinds) (prefix rest : List Column) (s : State) (net : NetNo) → All IsColumn prefix → IsBehind k prefix s → Completes k s rest → is_open pins (is_ahead (lines_before None None prefix)) (is_ahead (lines_behind s.p_end s.n_end rest)) net ≡ is_open_at pins k s net
open_of_state pins k prefix rest s net columns b c =
    ap (λ (t : Bool). not (is_rail pins net) && (t && is_ahead (lines_behind s.p_end s.n_end rest) net)) (before_of_state k prefix s net columns b)
    ∙ ap (λ (t : Bool). not (is_rail pins net) && (is_behind k s net && t)) (ahead_of_state k rest s net c)

-- the lines of a row are those before and those behind
pub lines_parted : (p n : Option NetNo) (prefix rest : List Column) → lines_behind p n (prefix ++ rest) ≡ lines_before p n prefix ++ lines_behind (end_after P p prefix) (end_after N n prefix) rest
lines_parted p n [] rest = refl
lines_parted p n (c ∷ cs) rest =
    ap (λ ls. lines_between p n c ++ gate_line c ∷ ls) (lines_parted (right_end c.p) (right_end c.n) cs rest)
    ∙ assoc (lines_between p n c) (gate_line c) (lines_before (right_end c.p) (right_end c.n) cs) _
  where
    assoc : (xs : List Line) (x : Line) (ys zs : List Line) → xs ++ x ∷ (ys ++ zs) ≡ (xs ++ x ∷ ys) ++ zs
    assoc [] x ys zs = refl
    assoc (y ∷ xs) x ys zs = ap (λ ls. y ∷ ls) (assoc xs x ys zs)
