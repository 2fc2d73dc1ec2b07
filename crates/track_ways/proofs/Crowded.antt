-- No tracks go through a crowded line.
use Rattle.std.proofs.Common.{ℕ, zero, suc, ◌≡◌, ◌+◌, ◌<◌, ◌≤◌, ◌==◌, ◌||◌, not, ltb, Bool, true, false, cond, List, [], ◌∷◌, map, inl, inr, refl, sym, ap, arith, Contains, count_by, ◌∙◌}
use Rattle.std.specs.List.{range_with_len}
use Rattle.std.proofs.lemmas.Bool.{and_from, and_parts, both_ways, cases_eq, eq-eqb, eqb-true, le-ltb, lt-ltb, ne_eqb}
use Rattle.cell_num.specs.declared.net.NetNo.{NetNo}
use Rattle.cell_num.specs.declared.net.Pins.{Pins}
use Rattle.cell_num.proofs.Lists.{all_from_contains}
use Rattle.cell_num.proofs.Pairs.{OneEach}
use Rattle.cell_num.proofs.Permutations.{count_cons}
use Rattle.channel_route.proofs.Counts.{below, count_one, count_within, few_below, on}
use Rattle.row_state.specs.declared.kind.Kinds.{Kinds}
use Rattle.row_state.specs.declared.state.State.{State}
use Rattle.row_state.specs.declared.step.Step.{Step}
use Rattle.row_state.specs.Start.{AreSomeKinds, IsState}
use Rattle.row_state.specs.Steps.{column_of, state_after}
use Rattle.track_ways.specs.declared.line.Line.{Line}
use Rattle.track_ways.specs.declared.track.NetTrack.{NetTrack}
use Rattle.track_ways.specs.Crowds.{end_uncrowded, nets_at, none_crowded, step_uncrowded}
use Rattle.track_ways.specs.Lines.{LineFits, LineRule, is_ahead, is_held, with_line}
use Rattle.track_ways.specs.Paths.{lines_to}
use Rattle.track_ways.specs.Rows.{node_line}
use Rattle.track_ways.specs.States.{is_behind, is_still_ahead}
use Rattle.track_ways.specs.Ways.{LineWays, ends_ways_by, goes_ways_by, net_of, nets_below, pass_ways_by}
use Rattle.track_ways.specs.Rules.{Among, IsRule}
use Rattle.track_ways.specs.Fillings.{look, look_is}
use Rattle.track_ways.proofs.Exact.{PartedBy, PlacesAmong, here_among, parted_by, rest_among}
use Rattle.track_ways.proofs.Nets.{behind_among, end_among, lines_among}
use Rattle.track_ways.proofs.Steps.{empty}

none_from : (v a n : ℕ) → v < a → count_by (λ (x : NetNo). x.0 == v) (map net_of (range_with_len a n)) ≡ 0
none_from v a zero less = refl
none_from v a (suc n) less =
    let other : ◌≡◌ {A = ℕ} (cond (a == v) 1 0) 0 = rw (ne_eqb a v (λ e. omega (arith, e, less))) refl in
    omega (arith, other, count_cons (λ (x : NetNo). x.0 == v) (net_of a) (map net_of (range_with_len (a + 1) n)), none_from v (a + 1) n (omega (arith, less)))

one_from : (v a n : ℕ) → count_by (λ (x : NetNo). x.0 == v) (map net_of (range_with_len a n)) ≤ 1
one_from v a zero = omega arith
one_from v a (suc n) =
    elim (cases_eq a v) [
      | inl e ↦
          let here : ◌≡◌ {A = ℕ} (cond (a == v) 1 0) 1 = rw (eq-eqb a v e) refl in
          omega (arith, here, count_cons (λ (x : NetNo). x.0 == v) (net_of a) (map net_of (range_with_len (a + 1) n)), none_from v (a + 1) n (omega (arith, e)))
      | inr ne ↦
          let other : ◌≡◌ {A = ℕ} (cond (a == v) 1 0) 0 = rw (ne_eqb a v ne) refl in
          omega (arith, other, count_cons (λ (x : NetNo). x.0 == v) (net_of a) (map net_of (range_with_len (a + 1) n)), one_from v (a + 1) n)
    ]

one_each : (nets : ℕ) → OneEach (λ (n : NetNo). n.0) (nets_below nets)
one_each nets v = one_from v 0 nets

-- the nets that hold a line have tracks of their own
few_at : (pins : Pins) (limit nets : ℕ) (track : NetNo → ℕ) (before : NetNo → Bool) (line : Line) (after : NetNo → Bool) → LineFits pins limit track before line after → nets_at pins nets before line after ≤ limit
few_at pins limit nets track before line after fits = omega (arith, few, all)
  where
    test : NetNo → Bool
    test = is_held pins before line after

    one_at : (n : ℕ) (a b : NetNo) → Contains (nets_below nets) a → Contains (nets_below nets) b → on test track n a ≡ true → on test track n b ≡ true → a.0 ≡ b.0
    one_at n a b ha hb pa pb =
        let qa : (test a ≡ true) × ((track a == n) ≡ true) = and_parts (test a) (track a == n) pa in
        let qb : (test b ≡ true) × ((track b == n) ≡ true) = and_parts (test b) (track b == n) pb in
        ap (λ (n : NetNo). n.0) (fits.apart a b qa.0 qb.0 (eqb-true (track a) n qa.1 ∙ sym (eqb-true (track b) n qb.1)))

    few : count_by (below test track limit) (nets_below nets) ≤ limit
    few = few_below test track (nets_below nets) (λ n. count_one (λ (n : NetNo). n.0) (on test track n) (nets_below nets) (one_each nets) (one_at n)) limit

    all : count_by test (nets_below nets) ≤ count_by (below test track limit) (nets_below nets)
    all = count_within test (below test track limit) (nets_below nets) (λ net there e. and_from (test net) (ltb (track net) limit) e (lt-ltb (track net) limit (fits.low net e)))

not_false : (b : Bool) → b ≡ false → not b ≡ true
not_false b e = ap not e

pub line_uncrowded : (pins : Pins) (limit nets : ℕ) (before : NetNo → Bool) (track : NetNo → ℕ) (line : Line)
    (rest : List Line) (after : NetNo → Bool) → LineFits pins limit track before line
    (λ net. is_ahead rest net || after net) → none_crowded pins limit nets (with_line before line) rest after ≡ true →
    none_crowded pins limit nets before (line ∷ rest) after ≡ true
line_uncrowded pins limit nets before track line rest after fits more =
    and_from (not (ltb limit (nets_at pins nets before line (λ net. is_ahead rest net || after net)))) (none_crowded pins limit nets (with_line before line) rest after)
    (not_false (ltb limit (nets_at pins nets before line (λ net. is_ahead rest net || after net))) (le-ltb limit (nets_at pins nets before line (λ net. is_ahead rest net || after net)) (few_at pins limit nets track before line (λ net. is_ahead rest net || after net) fits)))
    more

-- where a list of tracks goes on through some lines, none of these is crowded
listed_uncrowded : {rule : LineRule} {ways : LineWays} → IsRule rule ways →
    (pins : Pins) (limit nets : ℕ) (before : NetNo → Bool) (lines : List Line) (after : NetNo → Bool)
    (tracks way : List NetTrack) → Among (nets_below nets) before → PlacesAmong (nets_below nets) lines →
    Contains (pass_ways_by ways pins limit (nets_below nets) before lines after tracks) way →
    none_crowded pins limit nets before lines after ≡ true
listed_uncrowded r pins limit nets before [] after tracks way among places there = refl
listed_uncrowded {rule} {ways} r pins limit nets before (line ∷ rest) after tracks way among places there =
    let later : NetNo → Bool = λ net. is_ahead rest net || after net in
    let p : PartedBy rule ways pins limit (nets_below nets) before line rest after tracks way = parted_by r pins limit (nets_below nets) before line rest after tracks way among places there in
    let from = p.here.from (look p.out) (all_from_contains (λ (t : NetTrack). look p.out t.net ≡ t.track) p.out (λ t at. look_is p.out t p.here.one at)) in
    let own = r.own pins limit before line later from.0 (look p.out) from.2 in
    line_uncrowded pins limit nets before own.0 line rest after own.1.fits
    (listed_uncrowded r pins limit nets (with_line before line) rest after p.out way (here_among (nets_below nets) before line rest among places) (rest_among (nets_below nets) line rest places) p.further)

-- so none are listed through a crowded line to a next column
pub none_through : {rule : LineRule} {ways : LineWays} → IsRule rule ways → (pins : Pins) (limit : ℕ) (k : Kinds) (s : State) (step : Step) (tracks : List NetTrack) → AreSomeKinds k → IsState k s → step_uncrowded pins limit k s step ≡ false → goes_ways_by ways pins limit k s tracks step ≡ []
none_through {rule} {ways} r pins limit k s step tracks some state crowded = empty (goes_ways_by ways pins limit k s tracks step) (λ way there.
    both_ways (step_uncrowded pins limit k s step) crowded (listed_uncrowded r pins limit k.nets (is_behind k s) (lines_to s (column_of k step)) (is_still_ahead k (state_after k s step)) tracks way (behind_among k s some) (lines_among k s step some state) there))

-- nor through a crowded last line
pub none_at_end : {rule : LineRule} {ways : LineWays} → IsRule rule ways → (pins : Pins) (limit : ℕ) (k : Kinds) (s : State) (tracks : List NetTrack) → AreSomeKinds k → IsState k s → end_uncrowded pins limit k s ≡ false → ends_ways_by ways pins limit k s tracks ≡ []
none_at_end {rule} {ways} r pins limit k s tracks some state crowded = empty (ends_ways_by ways pins limit k s tracks) (λ way there.
    both_ways (end_uncrowded pins limit k s) crowded (listed_uncrowded r pins limit k.nets (is_behind k s) (node_line s.p_end s.n_end ∷ []) (λ net. false) tracks way (behind_among k s some) (end_among k s state) there))

-- what the code reads from tables

pub step_is : (pins : Pins) (limit : ℕ) (k : Kinds) (s : State) (step : Step) (before after : NetNo → Bool)
    (lines : List Line) (free : Bool) → lines ≡ lines_to s (column_of k step) → before ≡ is_behind k s →
    after ≡ is_still_ahead k (state_after k s step) → free ≡ none_crowded pins limit k.nets before lines after →
    free ≡ step_uncrowded pins limit k s step
step_is pins limit k s step before after lines free is_lines is_before is_after is =
    is
    ∙ ap (λ (b : NetNo → Bool). none_crowded pins limit k.nets b lines after) is_before
    ∙ ap (λ (ls : List Line). none_crowded pins limit k.nets (is_behind k s) ls after) is_lines
    ∙ ap (λ (b : NetNo → Bool). none_crowded pins limit k.nets (is_behind k s) (lines_to s (column_of k step)) b) is_after

pub end_is : (pins : Pins) (limit : ℕ) (k : Kinds) (s : State) (before after : NetNo → Bool) (lines : List Line)
    (free : Bool) → lines ≡ node_line s.p_end s.n_end ∷ [] → before ≡ is_behind k s → after ≡ (λ net. false) →
    free ≡ none_crowded pins limit k.nets before lines after → free ≡ end_uncrowded pins limit k s
end_is pins limit k s before after lines free is_lines is_before is_after is =
    is
    ∙ ap (λ (b : NetNo → Bool). none_crowded pins limit k.nets b lines after) is_before
    ∙ ap (λ (ls : List Line). none_crowded pins limit k.nets (is_behind k s) ls after) is_lines
    ∙ ap (λ (b : NetNo → Bool). none_crowded pins limit k.nets (is_behind k s) (node_line s.p_end s.n_end ∷ []) b) is_after
