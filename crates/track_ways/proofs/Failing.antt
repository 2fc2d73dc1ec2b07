-- The rules by which states fail, and what the failure of the first state means.
use Rattle.std.proofs.Common.{ℕ, ◌≡◌, ◌≢◌, ◌+◌, ◌-◌, ◌<◌, ◌≤◌, ◌⊎◌, ◌++◌, ◌&&◌, ◌||◌, ◌==◌, ltb, not, Bool, true, false, cond, List, [], ◌∷◌, Option, Some, None, option_map, map, length, inl, inr, refl, sym, ap, subst, arith, All, Contains, count_by, ◌∙◌, suc}
use Rattle.std.proofs.lemmas.Bool.{cases_lt, and_parts, and_from, lt-ltb, eqb-true, le-ltb}
use Rattle.std.proofs.lemmas.List.Elements.{All-contains, All-head}
use Rattle.std.proofs.lemmas.List.Sorted.{length_permutation}
use Rattle.cell_num.specs.declared.net.NetNo.{NetNo}
use Rattle.cell_num.specs.declared.net.Pins.{Pins}
use Rattle.cell_num.specs.declared.finger.Fingers.{Fingers}
use Rattle.cell_num.proofs.Pairs.{OneEach}
use Rattle.cell_num.proofs.Permutations.{count_cons}
use Rattle.row_model.specs.declared.column.Column.{Column}
use Rattle.row_model.specs.Arrangement.{IsArrangement, IsColumn, AreOneColumn, fingers_in}
use Rattle.row_model.specs.declared.column.Placed.{Placed}
use Rattle.cell_num.specs.declared.finger.Finger.{Finger}
use Rattle.cell_num.specs.declared.finger.Row.TheVariants.{P, N}
use Rattle.std.specs.List.{cons_option}
use Rattle.row_model.specs.Gaps.{gaps_of}
use Rattle.row_place.specs.Places.{placement_of}
use Rattle.row_place.specs.Steps.{or_else}
use Rattle.channel_route.specs.declared.routing.Routing.{Routing}
use Rattle.channel_route.specs.Routing.{IsLegal}
use Rattle.channel_route.proofs.Counts.{below, on, count_one, count_within, few_below}
use Rattle.row_state.specs.declared.kind.Kinds.{Kinds}
use Rattle.row_state.specs.declared.state.State.{State}
use Rattle.row_state.specs.declared.step.Step.{Step}
use Rattle.row_state.specs.Completion.{Completes, Need, cost_of, further_gaps}
use Rattle.row_state.specs.Start.{start_of, GatesAreNets, AreKinds, HasFingers}
use Rattle.row_state.specs.Steps.{column_of, state_after, IsPossible}
use Rattle.row_state.proofs.Unfold.{completion_of, further_step, gaps_from_start, unfold_from}
use Rattle.track_ways.specs.declared.line.Line.{Line}
use Rattle.track_ways.specs.Lines.{Fits, LineRule, PassesBy, StraightFits, is_ahead, is_open}
use Rattle.track_ways.specs.Rules.{IsAgain, IsOwn, IsWider}
use Rattle.track_ways.specs.Fillings.{open_holds}
use Rattle.track_ways.specs.StraightLaw.{straight_rule}
use Rattle.cell_num.specs.Pins.{is_rail}
use Rattle.track_ways.specs.Rows.{left_end, node_line, gate_line, is_gap_behind, lines_of_row}
use Rattle.track_ways.specs.States.{is_behind, is_still_ahead, is_open_at}
use Rattle.track_ways.specs.Paths.{EndsBy, GoesBy, Leads, RunsBy, lines_to}
use Rattle.track_ways.specs.Fails.{Fails, FailsBy}
use Rattle.track_ways.proofs.Behind.{ahead_of_state}
use Rattle.track_ways.proofs.LineParts.{first_of_lines, or_none, sweeps_wider}
use Rattle.track_ways.proofs.Path.{completes, StepsOf, steps_of, runs, sweeps_of}
use Rattle.track_ways.specs.Channel.{AreTrunks}
use Rattle.channel_route.specs.declared.routing.Trunk.{Trunk}
use Rattle.track_ways.proofs.Whole.{again, again_by, legal_path, path_of, start_fits, still_ahead}

-- a column has a finger
has_column : (p n : Option Placed) → AreOneColumn p n → (fs gs : List Finger) → 0 < length (cons_option (option_map (λ (x : Placed). x.finger) p) fs) + length (cons_option (option_map (λ (x : Placed). x.finger) n) gs)
has_column None None one fs gs = absurd one
has_column (Some x) None one fs gs = omega arith
has_column None (Some y) one fs gs = omega arith
has_column (Some x) (Some y) one fs gs = omega arith

pub has_fingers : (k : Kinds) (s : State) (c : Column) (cs : List Column) → Completes k s (c ∷ cs) → HasFingers k s
has_fingers k s c cs h = omega (arith, has_column c.p c.n (All-head IsColumn c cs h.columns) (fingers_in P cs) (fingers_in N cs), length_permutation _ _ h.p, length_permutation _ _ h.n)

-- no finger is left, and no tracks go through the last line
pub at_end_by : (rule : LineRule) (pins : Pins) (limit : ℕ) (k : Kinds) (s : State) (track : NetNo → ℕ) (gaps : ℕ) → GatesAreNets k → (HasFingers k s → ⊥) → (EndsBy rule pins limit k s track → ⊥) → FailsBy rule pins limit k s track gaps
at_end_by rule pins limit k s track gaps nets none ends [] leads within r = ends r
at_end_by rule pins limit k s track gaps nets none ends (step ∷ steps) leads within r = none (has_fingers k s (column_of k step) (map (column_of k) steps) (completes k s (step ∷ steps) nets leads))

-- its need is greater
pub needs_more_by : (rule : LineRule) (pins : Pins) (limit : ℕ) (k : Kinds) (s : State) (track : NetNo → ℕ) (gaps bound : ℕ) → GatesAreNets k → Need k s bound → gaps < bound → FailsBy rule pins limit k s track gaps
needs_more_by rule pins limit k s track gaps bound nets need less steps leads within r = omega (arith, less, within, need (map (column_of k) steps) (completes k s steps nets leads))

-- fewer gaps, and tracks that are the same for the open nets
pub weaker_by : (rule : LineRule) → IsAgain rule → (pins : Pins) (limit : ℕ) (k : Kinds) (s : State)
    (track other : NetNo → ℕ) (gaps fewer : ℕ) → GatesAreNets k → fewer ≤ gaps →
    ((net : NetNo) → is_open_at pins k s net ≡ true → other net ≡ track net) → FailsBy rule pins limit k s track gaps →
    FailsBy rule pins limit k s other fewer
weaker_by rule again' pins limit k s track other gaps fewer nets le same f steps leads within r = f steps leads (omega (arith, le, within)) (again_by rule again' pins limit k s other track steps nets leads same r)

-- each next column that does not cost more than the gaps fails, where the tracks behind it are listed for its open nets
pub branch_by : (rule : LineRule) → IsAgain rule → (pins : Pins) (limit : ℕ) (k : Kinds) (s : State) (track : NetNo → ℕ) (gaps : ℕ) → GatesAreNets k → HasFingers k s
    → ((step : Step) (next : NetNo → ℕ) (left : ℕ) → IsPossible k s step → cost_of s (column_of k step) + left ≡ gaps → GoesBy rule pins limit k s track step next
    → (listed : NetNo → ℕ) × ((net : NetNo) → is_open_at pins k (state_after k s step) net ≡ true → next net ≡ listed net) × FailsBy rule pins limit k (state_after k s step) listed left)
    → FailsBy rule pins limit k s track gaps
branch_by rule again' pins limit k s track gaps nets some each [] leads within r = omega (arith, some, length_permutation _ _ leads.p, length_permutation _ _ leads.n)
branch_by rule again' pins limit k s track gaps nets some each (step ∷ steps) leads within (next, goes, more) =
    let further : further_gaps s (column_of k step ∷ map (column_of k) steps) ≡ cost_of s (column_of k step) + further_gaps (state_after k s step) (map (column_of k) steps) = further_step k s step (map (column_of k) steps) in
    let cost : cost_of s (column_of k step) ≤ gaps = omega (arith, further, within) in
    let left : ℕ = gaps - cost_of s (column_of k step) in
    let l = each step next left leads.0 (omega (arith, cost)) goes in
    weaker_by rule again' pins limit k (state_after k s step) l.0 next left left nets (omega arith) l.1 l.2 steps leads.1 (omega (arith, further, within)) more

-- what a first line asks of the tracks of open nets
pub record Low (pins : Pins) (limit : ℕ) (before behind : NetNo → Bool) (track : NetNo → ℕ) : Type 0 where
  pub low : (net : NetNo) → is_open pins before behind net ≡ true → track net < limit
  pub apart : (a b : NetNo) → is_open pins before behind a ≡ true → is_open pins before behind b ≡ true → track a ≡ track b → a ≡ b

low_first : (rule : LineRule) → IsOwn rule → (pins : Pins) (limit : ℕ) (before : NetNo → Bool) (track : NetNo → ℕ)
    (line : Line) (xs : List Line) (after : NetNo → Bool) (last : NetNo → ℕ) →
    PassesBy rule pins limit before track (line ∷ xs) after last →
    Low pins limit before (λ net. is_ahead (line ∷ xs) net || after net) track
low_first rule own' pins limit before track line xs after last (next, fits, more) = subst (λ (b : NetNo → Bool). Low pins limit before b track) (first_of_lines line xs after) (record {
  low = λ net o. subst (λ m. m < limit) (own.1.same net o) (own.1.fits.low net (open_holds pins before line later net o));
  apart = λ a b oa ob e. own.1.fits.apart a b (open_holds pins before line later a oa) (open_holds pins before line later b ob) (own.1.same a oa ∙ e ∙ sym (own.1.same b ob));
})
  where
    later : NetNo → Bool
    later net = is_ahead xs net || after net

    own : (of : NetNo → ℕ) × StraightFits pins limit track before line later of
    own = own' pins limit before line later track next fits

-- the lines to a column are some
low_lines : (rule : LineRule) → IsOwn rule → (pins : Pins) (limit : ℕ) (before : NetNo → Bool) (track : NetNo → ℕ)
    (s : State) (c : Column) (after : NetNo → Bool) (last : NetNo → ℕ) →
    PassesBy rule pins limit before track (lines_to s c) after last →
    Low pins limit before (λ net. is_ahead (lines_to s c) net || after net) track
low_lines rule own' pins limit before track s c after last p = go (lines_to s c) (some (is_gap_behind s.p_end s.n_end c)) p
  where
    some : (b : Bool) → length (cond b (node_line s.p_end s.n_end ∷ node_line None None ∷ node_line (left_end c.p) (left_end c.n) ∷ []) (node_line (or_else s.p_end (left_end c.p)) (or_else s.n_end (left_end c.n)) ∷ []) ++ gate_line c ∷ []) ≢ 0
    some true e = omega (arith, e)
    some false e = omega (arith, e)

    go : (ls : List Line) → length ls ≢ 0 → PassesBy rule pins limit before track ls after last → Low pins limit before (λ net. is_ahead ls net || after net) track
    go [] n p = absurd (n refl)
    go (x ∷ xs) n p = low_first rule own' pins limit before track x xs after last p

-- the tracks of the nets that are open at a state with a path
low_path : (rule : LineRule) → IsOwn rule → (pins : Pins) (limit : ℕ) (k : Kinds) (s : State) (track : NetNo → ℕ) (steps : List Step) → GatesAreNets k → Leads k s steps → RunsBy rule pins limit k s track steps → Low pins limit (is_behind k s) (is_still_ahead k s) track
low_path rule own' pins limit k s track [] nets leads (last, p) = subst
    (λ (b : NetNo → Bool). Low pins limit (is_behind k s) b track)
    (λ i net. (or_none (is_ahead (node_line s.p_end s.n_end ∷ []) net) ∙ ahead_of_state k [] s net leads) i)
    (low_first rule own' pins limit (is_behind k s) track (node_line s.p_end s.n_end) [] (λ net. false) last p)
low_path rule own' pins limit k s track (step ∷ steps) nets leads (next, goes, more) =
    let after : Completes k (state_after k s step) (map (column_of k) steps) = completes k (state_after k s step) steps nets leads.1 in
    let whole : Completes k s (column_of k step ∷ map (column_of k) steps) = unfold_from k s step (map (column_of k) steps) nets leads.0 after in
    subst (λ (b : NetNo → Bool). Low pins limit (is_behind k s) b track) (λ i net. still_ahead k s step (map (column_of k) steps) net whole after i) (low_lines rule own' pins limit (is_behind k s) track s (column_of k step) (is_still_ahead k (state_after k s step)) next goes)

-- open nets on tracks of their own are no more than these
few_open : (pins : Pins) (limit : ℕ) (before after : NetNo → Bool) (track : NetNo → ℕ) (open' : List NetNo) → Low pins limit before after track → OneEach (λ (n : NetNo). n.0) open' → All (λ net. is_open pins before after net ≡ true) open' → length open' ≤ limit
few_open pins limit before after track open' l one each = omega (arith, few, all)
  where
    test : NetNo → Bool
    test net = true

    is : (net : NetNo) → Contains open' net → is_open pins before after net ≡ true
    is net there = All-contains (λ net. is_open pins before after net ≡ true) open' net each there

    one_at : (n : ℕ) (a b : NetNo) → Contains open' a → Contains open' b → on test track n a ≡ true → on test track n b ≡ true → a.0 ≡ b.0
    one_at n a b ha hb pa pb =
        let qa : (test a ≡ true) × ((track a == n) ≡ true) = and_parts (test a) (track a == n) pa in
        let qb : (test b ≡ true) × ((track b == n) ≡ true) = and_parts (test b) (track b == n) pb in
        ap (λ (n : NetNo). n.0) (l.apart a b (is a ha) (is b hb) (eqb-true (track a) n qa.1 ∙ sym (eqb-true (track b) n qb.1)))

    few : count_by (below test track limit) open' ≤ limit
    few = few_below test track open' (λ n. count_one (λ (n : NetNo). n.0) (on test track n) open' one (one_at n)) limit

    inside : (net : NetNo) → Contains open' net → test net ≡ true → below test track limit net ≡ true
    inside net there e = and_from (test net) (ltb (track net) limit) e (lt-ltb (track net) limit (l.low net (is net there)))

    all : length open' ≤ count_by (below test track limit) open'
    all = omega (arith, count_within test (below test track limit) open' inside, count_all open')
      where
        count_all : (xs : List NetNo) → count_by test xs ≡ length xs
        count_all [] = refl
        count_all (x ∷ xs) = omega (arith, count_cons test x xs, count_all xs)

-- more nets are open than there are tracks
pub too_many_open_by : (rule : LineRule) → IsOwn rule → (pins : Pins) (limit : ℕ) (k : Kinds) (s : State)
    (track : NetNo → ℕ) (gaps : ℕ) (open' : List NetNo) → GatesAreNets k → OneEach (λ (n : NetNo). n.0) open' →
    All (λ net. is_open_at pins k s net ≡ true) open' → limit < length open' → FailsBy rule pins limit k s track gaps
too_many_open_by rule own' pins limit k s track gaps open' nets one each more steps leads within r =
    let few : length open' ≤ limit = few_open pins limit (is_behind k s) (is_still_ahead k s) track open' (low_path rule own' pins limit k s track steps nets leads r) one each in
    omega (arith, more, few)

-- the same where nets go straight
pub weaker : (pins : Pins) (limit : ℕ) (k : Kinds) (s : State) (track other : NetNo → ℕ) (gaps fewer : ℕ) → GatesAreNets k → fewer ≤ gaps → ((net : NetNo) → is_open_at pins k s net ≡ true → other net ≡ track net) → Fails pins limit k s track gaps → Fails pins limit k s other fewer
weaker = weaker_by StraightFits straight_rule.again

pub needs_more : (pins : Pins) (limit : ℕ) (k : Kinds) (s : State) (track : NetNo → ℕ) (gaps bound : ℕ) → GatesAreNets k → Need k s bound → gaps < bound → Fails pins limit k s track gaps
needs_more = needs_more_by StraightFits

-- where the first state fails, each legal routing of an arrangement with at most so many gaps has more tracks
pub more_tracks : (pins : Pins) (f : Fingers) (k : Kinds) (limit gaps : ℕ) (track : NetNo → ℕ) → AreKinds f k → GatesAreNets k → Fails pins limit k (start_of k) track gaps
    → (row : List Column) (r : Routing) → IsArrangement row f → length row ≤ 32 → gaps_of row ≤ gaps → IsLegal (placement_of row) pins r → limit < r.tracks
more_tracks pins f k limit gaps track kinds nets fails row r is few within legal = go (steps_of k (start_of k) row (completion_of f k row kinds is)) (cases_lt limit r.tracks)
  where
    go : StepsOf k (start_of k) row → (limit < r.tracks) ⊎ (r.tracks ≤ limit) → limit < r.tracks
    go s (inl more) = more
    go s (inr le) =
        absurd (fails s.steps s.leads (omega (arith, within, gaps_from_start k (map (column_of k) s.steps), ap gaps_of s.is))
        (path_of pins k s.steps r limit track nets s.leads (subst (λ cs. length cs ≤ 32) (sym s.is) few) (subst (λ cs. IsLegal (placement_of cs) pins r) (sym s.is) legal) le))

-- on more tracks along a path
pub runs_wider : (rule : LineRule) → IsAgain rule → IsWider rule →
    (pins : Pins) (few many : ℕ) (k : Kinds) (steps : List Step) (track : NetNo → ℕ) → GatesAreNets k →
    Leads k (start_of k) steps → few ≤ many → RunsBy rule pins few k (start_of k) track steps →
    RunsBy rule pins many k (start_of k) track steps
runs_wider rule again' wider' pins few many k steps track nets leads le p =
    runs rule pins many k (start_of k) track steps nets leads (start_fits k)
    (sweeps_wider rule wider' pins few many (is_behind k (start_of k)) track (lines_of_row (map (column_of k) steps)) le (sweeps_of rule again' pins few k (start_of k) track steps nets leads (start_fits k) p))

-- no net is open before the first line, so any tracks are the same there
pub start_open : (pins : Pins) (k : Kinds) (net : NetNo) → is_open_at pins k (start_of k) net ≡ true → ⊥
start_open pins k net o = wrong (not (is_rail pins net)) (is_behind k (start_of k) net) (is_still_ahead k (start_of k) net) (le-ltb _ _ (omega arith)) o
  where
    wrong : (r b a : Bool) → b ≡ false → (r && (b && a)) ≡ true → ⊥
    wrong r true a e o = absurd cc
    wrong true false a e o = absurd cc
    wrong false false a e o = absurd cc

-- a limit at which the first state fails, and a path on one track more: its trunks are a legal routing
pub found : (pins : Pins) (k : Kinds) (limit gaps : ℕ) (start of : NetNo → ℕ) (steps : List Step) (trunks : List Trunk) → GatesAreNets k → Fails pins limit k (start_of k) start gaps
    → Leads k (start_of k) steps → length (map (column_of k) steps) ≤ 32 → gaps_of (map (column_of k) steps) ≤ gaps
    → Fits pins (suc limit) of (is_ahead []) (lines_of_row (map (column_of k) steps))
    → AreTrunks (placement_of (map (column_of k) steps)) pins of trunks
    → IsLegal (placement_of (map (column_of k) steps)) pins (record { tracks = suc limit; trunks = trunks })
found pins k limit gaps start of steps trunks nets fails leads few within fits are =
    legal_path pins k steps (suc limit) of trunks nets leads few fits
    (λ track fewer less r. fails steps leads (omega (arith, within, gaps_from_start k (map (column_of k) steps)))
    (again pins limit k (start_of k) track start steps nets leads (λ net o. absurd (start_open pins k net o)) (runs_wider StraightFits straight_rule.again straight_rule.wider pins fewer limit k steps track nets leads (omega (arith, less)) r))) are
