-- The rules by which states are too wide, and what that means of the first state.
use Rattle.std.proofs.Common.{ℕ, ◌≡◌, ◌+◌, ◌-◌, ◌*◌, ◌<◌, ◌≤◌, ◌⊎◌, ◌++◌, ◌||◌, Bool, false, List, [], ◌∷◌, Option, Some, None, map, length, sum, inl, inr, refl, sym, ap, subst, arith, ◌∙◌}
use Rattle.std.proofs.lemmas.List.Sums.{sum_by-cons}
use Rattle.std.proofs.lemmas.List.Sorted.{length_permutation}
use Rattle.cell_num.specs.declared.net.NetNo.{NetNo}
use Rattle.cell_num.specs.declared.net.Pins.{Pins}
use Rattle.cell_num.specs.declared.finger.Fingers.{Fingers}
use Rattle.cell_num.proofs.Lists.{all_imply}
use Rattle.row_model.specs.declared.column.Column.{Column}
use Rattle.row_model.specs.Arrangement.{IsArrangement}
use Rattle.row_model.specs.Gaps.{gaps_of}
use Rattle.row_place.specs.Places.{placement_of}
use Rattle.channel_route.specs.declared.routing.Routing.{Routing}
use Rattle.channel_route.specs.declared.routing.Trunk.{Trunk}
use Rattle.channel_route.specs.Routing.{IsLegal}
use Rattle.row_compact.specs.declared.distance.Distances.{Distances}
use Rattle.row_compact.specs.Allowed.{AreDistances, stretches_of}
use Rattle.row_compact.specs.Solution.{x_of, IsLeast}
use Rattle.row_state.specs.declared.kind.Kinds.{Kinds}
use Rattle.row_state.specs.declared.state.State.{State}
use Rattle.row_state.specs.declared.step.Step.{Step}
use Rattle.row_state.specs.Completion.{Completes, Need, cost_of, further_gaps}
use Rattle.row_state.specs.Start.{start_of, AreKinds, GatesAreNets, HasFingers}
use Rattle.row_state.specs.Steps.{column_of, state_after, IsPossible}
use Rattle.row_state.proofs.Unfold.{completion_of, further_step, gaps_from_start, unfold_from}
use Rattle.track_ways.specs.declared.line.Line.{Line}
use Rattle.track_ways.specs.Lines.{Fits, LineFits, is_ahead, with_line}
use Rattle.track_ways.specs.Channel.{AreLegalWithin, AreLinesOf, track_in}
use Rattle.track_ways.specs.Rows.{lines_behind, lines_of_row}
use Rattle.track_ways.specs.States.{is_behind}
use Rattle.track_ways.specs.Paths.{EndsFit, Leads, lines_to}
use Rattle.track_ways.proofs.Failing.{has_fingers, start_open}
use Rattle.track_ways.proofs.Least.{trunks_of_legal}
use Rattle.track_ways.proofs.Legal.{fits}
use Rattle.track_ways.proofs.LineParts.{no_lines, one_more, or_none, same_tests, with_lines}
use Rattle.track_ways.proofs.Path.{StepsOf, completes, ends_after, parted, steps_of}
use Rattle.track_ways.proofs.Placed.{lines_placed}
use Rattle.track_ways.proofs.Whole.{start_behind, start_fits}
use Rattle.line_widths.specs.Borders.{Border, space_between, spaces_from, spaces_of}
use Rattle.line_widths.specs.StateBorders.{borders_behind, borders_to}
use Rattle.line_widths.specs.TooWide.{AreSameAt, CountAlike, FitsBehind, FitsEnd, FitsLines, FitsTo, IsTooWide, last_of, spaces_after}
use Rattle.line_widths.proofs.OnPaths.{ahead_next, ahead_parted, behind_next, by_states}
use Rattle.line_widths.proofs.Spaced.{last}

-- ---- the spaces of lines one part after the other

spaces_parted : (before : Option Border) (xs ys : List Border) → sum (spaces_after before (xs ++ ys)) ≡ sum (spaces_after before xs) + sum (spaces_after (last_of before xs) ys)
spaces_parted None [] ys = omega arith
spaces_parted (Some a) [] ys = omega arith
spaces_parted None (x ∷ xs) ys = spaces_parted (Some x) xs ys
spaces_parted (Some a) (x ∷ xs) ys = omega (arith, spaces_parted (Some x) xs ys, sum_by-cons (λ n. n) (space_between a x) (spaces_from x (xs ++ ys)), sum_by-cons (λ n. n) (space_between a x) (spaces_from x xs))

alike : (one other : Option Border) → CountAlike one other → (borders : List Border) → spaces_after one borders ≡ spaces_after other borders
alike None None h borders = refl
alike (Some a) (Some b) h [] = refl
alike (Some a) (Some b) h (x ∷ rest) = cc
alike None (Some b) h borders = absurd h
alike (Some a) None h borders = absurd h

-- ---- the rules

pub at_end : (pins : Pins) (limit : ℕ) (k : Kinds) (s : State) (track : NetNo → ℕ) (before : Option Border) (gaps width : ℕ) → GatesAreNets k → (HasFingers k s → ⊥)
    → ((of : NetNo → ℕ) → AreSameAt pins k s track of → FitsEnd pins limit k s of → width < sum (spaces_after before (borders_behind pins k s of [])))
    → IsTooWide pins limit k s track before gaps width
at_end pins limit k s track before gaps width nets none h [] of leads within same f = h of same f
at_end pins limit k s track before gaps width nets none h (step ∷ steps) of leads within same f = absurd (none (has_fingers k s (column_of k step) (map (column_of k) steps) (completes k s (step ∷ steps) nets leads)))

pub needs_more : (pins : Pins) (limit : ℕ) (k : Kinds) (s : State) (track : NetNo → ℕ) (before : Option Border) (gaps width bound : ℕ) → GatesAreNets k → Need k s bound → gaps < bound → IsTooWide pins limit k s track before gaps width
needs_more pins limit k s track before gaps width bound nets need less steps of leads within same f = absurd (omega (arith, less, within, need (map (column_of k) steps) (completes k s steps nets leads)))

pub weaker : (pins : Pins) (limit : ℕ) (k : Kinds) (s : State) (track other : NetNo → ℕ) (one like : Option Border) (gaps fewer width less : ℕ) → fewer ≤ gaps → less ≤ width → AreSameAt pins k s track other → CountAlike one like
    → IsTooWide pins limit k s track one gaps width → IsTooWide pins limit k s other like fewer less
weaker pins limit k s track other one like gaps fewer width less few low same count h steps of leads within agree f =
    let most : width < sum (spaces_after one (borders_behind pins k s of steps)) = h steps of leads (omega (arith, few, within)) (λ net o. agree net o ∙ same net o) f in
    omega (arith, most, low, ap (λ (xs : List ℕ). sum xs) (alike one like count (borders_behind pins k s of steps)))

pub branch : (pins : Pins) (limit : ℕ) (k : Kinds) (s : State) (track : NetNo → ℕ) (before : Option Border) (gaps width : ℕ) → GatesAreNets k → HasFingers k s
    → ((step : Step) (of : NetNo → ℕ) (left : ℕ) → IsPossible k s step → cost_of s (column_of k step) + left ≡ gaps → AreSameAt pins k s track of → FitsTo pins limit k s of step
    → (width < sum (spaces_after before (borders_to pins k s of step)))
    ⊎ ((rest : ℕ) × (sum (spaces_after before (borders_to pins k s of step)) + rest ≡ width) × IsTooWide pins limit k (state_after k s step) of (last_of before (borders_to pins k s of step)) left rest))
    → IsTooWide pins limit k s track before gaps width
branch pins limit k s track before gaps width nets some each [] of leads within same f = absurd (omega (arith, some, length_permutation _ _ leads.p, length_permutation _ _ leads.n))
branch pins limit k s track before gaps width nets some each (step ∷ steps) of leads within same (to, more) =
    let further : further_gaps s (column_of k step ∷ map (column_of k) steps) ≡ cost_of s (column_of k step) + further_gaps (state_after k s step) (map (column_of k) steps) = further_step k s step (map (column_of k) steps) in
    let left : ℕ = gaps - cost_of s (column_of k step) in
    let all : sum (spaces_after before (borders_behind pins k s of (step ∷ steps))) ≡ sum (spaces_after before (borders_to pins k s of step)) + sum (spaces_after (last_of before (borders_to pins k s of step)) (borders_behind pins k (state_after k s step) of steps)) =
    spaces_parted before (borders_to pins k s of step) (borders_behind pins k (state_after k s step) of steps) in
    elim (each step of left leads.0 (omega (arith, further, within)) same to) [
      | inl wide ↦ omega (arith, all, wide)
      | inr rest ↦
          let behind : rest.0 < sum (spaces_after (last_of before (borders_to pins k s of step)) (borders_behind pins k (state_after k s step) of steps)) = rest.2 steps of leads.1 (omega (arith, further, within)) (λ net o. refl) more in
          omega (arith, all, behind, rest.1)
    ]

-- ---- tracks that fit the lines of a row fit them along its path

fits_lines : (pins : Pins) (limit : ℕ) (track : NetNo → ℕ) (before : NetNo → Bool) (lines : List Line) → Fits pins limit track before lines → FitsLines pins limit track before lines (λ net. false)
fits_lines pins limit track before [] f = tt
fits_lines pins limit track before (line ∷ rest) f =
    (subst (λ (t : NetNo → Bool). LineFits pins limit track before line t) (sym (same_tests (λ net. is_ahead rest net || false) (is_ahead rest) (λ net. or_none (is_ahead rest net)))) f.0, fits_lines pins limit track (with_line before line) rest f.1)

fits_parted : (pins : Pins) (limit : ℕ) (track : NetNo → ℕ) (before : NetNo → Bool) (xs ys : List Line) (after : NetNo → Bool) → FitsLines pins limit track before (xs ++ ys) after
    → FitsLines pins limit track before xs (λ net. is_ahead ys net || after net) × FitsLines pins limit track (with_lines before xs) ys after
fits_parted pins limit track before [] ys after f = (tt, subst (λ (t : NetNo → Bool). FitsLines pins limit track t ys after) (sym (no_lines before)) f)
fits_parted pins limit track before (x ∷ xs) ys after (here, more) =
    let rest = fits_parted pins limit track (with_line before x) xs ys after more in (
      (subst (λ (t : NetNo → Bool). LineFits pins limit track before x t) (ahead_parted xs ys after) here, rest.0),
      subst (λ (t : NetNo → Bool). FitsLines pins limit track t ys after) (sym (one_more before x xs)) rest.1,
    )

fits_path : (pins : Pins) (limit : ℕ) (k : Kinds) (s : State) (track : NetNo → ℕ) (steps : List Step) → GatesAreNets k → Leads k s steps → EndsFit k s →
    FitsLines pins limit track (is_behind k s) (lines_behind s.p_end s.n_end (map (column_of k) steps)) (λ net. false) → FitsBehind pins limit k s track steps
fits_path pins limit k s track [] nets leads fit f = f
fits_path pins limit k s track (step ∷ steps) nets leads fit f =
    let after : Completes k (state_after k s step) (map (column_of k) steps) = completes k (state_after k s step) steps nets leads.1 in
    let whole : Completes k s (column_of k step ∷ map (column_of k) steps) = unfold_from k s step (map (column_of k) steps) nets leads.0 after in
    let both = fits_parted pins limit track (is_behind k s) (lines_to s (column_of k step)) (lines_behind (state_after k s step).p_end (state_after k s step).n_end (map (column_of k) steps)) (λ net. false)
    (subst (λ ls. FitsLines pins limit track (is_behind k s) ls (λ net. false)) (parted k s step (map (column_of k) steps)) f) in (
      subst (λ (t : NetNo → Bool). FitsLines pins limit track (is_behind k s) (lines_to s (column_of k step)) t) (ahead_next k s step (map (column_of k) steps) after) both.0,
      fits_path pins limit k (state_after k s step) track steps nets leads.1 (ends_after k s step (map (column_of k) steps) whole after fit)
          (subst (λ (t : NetNo → Bool). FitsLines pins limit track t (lines_behind (state_after k s step).p_end (state_after k s step).n_end (map (column_of k) steps)) (λ net. false)) (behind_next k s step (map (column_of k) steps) whole after fit) both.1),
    )

-- ---- what it means of the first state

on_steps : (pins : Pins) (k : Kinds) (limit : ℕ) (track : NetNo → ℕ) (gaps width : ℕ) → GatesAreNets k → IsTooWide pins limit k (start_of k) track None gaps width
    → (steps : List Step) (r : Routing) (d : Distances) (xs : List ℕ) → Leads k (start_of k) steps → length (map (column_of k) steps) ≤ 32 → gaps_of (map (column_of k) steps) ≤ gaps
    → IsLegal (placement_of (map (column_of k) steps)) pins r → r.tracks ≤ limit → AreDistances (placement_of (map (column_of k) steps)) pins (stretches_of r.trunks) d → IsLeast d xs
    → 8 + width < x_of xs (2 * length (placement_of (map (column_of k) steps)).units)
on_steps pins k limit track gaps width nets h steps r d xs leads few within legal le are least =
    omega (arith, most, end)
  where
    row : List Column
    row = map (column_of k) steps

    whole : Completes k (start_of k) (map (column_of k) steps)
    whole = completes k (start_of k) steps nets leads

    lines : AreLinesOf (placement_of (map (column_of k) steps)) (lines_of_row (map (column_of k) steps))
    lines = lines_placed (map (column_of k) steps) whole.columns few

    low : AreLegalWithin (placement_of (map (column_of k) steps)) pins limit r.trunks
    low = record { low = all_imply (λ (t : Trunk). t.track < r.tracks) (λ (t : Trunk). t.track < limit) r.trunks (λ t short. omega (arith, short, le)) legal.tracks; apart = legal.apart; above = legal.above }

    fit : Fits pins limit (track_in r.trunks) (is_ahead []) (lines_of_row (map (column_of k) steps))
    fit = fits (placement_of (map (column_of k) steps)) pins (lines_of_row (map (column_of k) steps)) lines (track_in r.trunks) r.trunks limit (trunks_of_legal (placement_of (map (column_of k) steps)) pins r legal) low

    behind : FitsBehind pins limit k (start_of k) (track_in r.trunks) steps
    behind = fits_path pins limit k (start_of k) (track_in r.trunks) steps nets leads (start_fits k)
        (subst (λ (t : NetNo → Bool). FitsLines pins limit (track_in r.trunks) t (lines_of_row (map (column_of k) steps)) (λ net. false)) (start_behind k) (fits_lines pins limit (track_in r.trunks) (is_ahead []) (lines_of_row (map (column_of k) steps)) fit))

    most : width < sum (spaces_of (borders_behind pins k (start_of k) (track_in r.trunks) steps))
    most = h steps (track_in r.trunks) leads (omega (arith, within, gaps_from_start k (map (column_of k) steps))) (λ net o. absurd (start_open pins k net o)) behind

    end : x_of xs (2 * length (placement_of (map (column_of k) steps)).units) ≡ 8 + sum (spaces_of (borders_behind pins k (start_of k) (track_in r.trunks) steps))
    end = last (placement_of (map (column_of k) steps)) pins (stretches_of r.trunks) (spaces_of (borders_behind pins k (start_of k) (track_in r.trunks) steps))
        (by_states pins k steps (track_in r.trunks) r.trunks nets leads few (trunks_of_legal (placement_of (map (column_of k) steps)) pins r legal)) d xs are least

pub wider : (pins : Pins) (f : Fingers) (k : Kinds) (limit : ℕ) (track : NetNo → ℕ) (gaps width : ℕ) → AreKinds f k → GatesAreNets k → IsTooWide pins limit k (start_of k) track None gaps width
    → (row : List Column) (r : Routing) (d : Distances) (xs : List ℕ) → IsArrangement row f → length row ≤ 32 → gaps_of row ≤ gaps → IsLegal (placement_of row) pins r → r.tracks ≤ limit
    → AreDistances (placement_of row) pins (stretches_of r.trunks) d → IsLeast d xs → 8 + width < x_of xs (2 * length (placement_of row).units)
wider pins f k limit track gaps width kinds nets h row r d xs is few within legal le are least = go (steps_of k (start_of k) row (completion_of f k row kinds is))
  where
    Goal : List Column → Type 0
    Goal cs = length cs ≤ 32 → gaps_of cs ≤ gaps → IsLegal (placement_of cs) pins r → AreDistances (placement_of cs) pins (stretches_of r.trunks) d → 8 + width < x_of xs (2 * length (placement_of cs).units)

    go : StepsOf k (start_of k) row → 8 + width < x_of xs (2 * length (placement_of row).units)
    go s = subst Goal s.is (λ few within legal are. on_steps pins k limit track gaps width nets h s.steps r d xs s.leads few within legal le are least) few within legal are
