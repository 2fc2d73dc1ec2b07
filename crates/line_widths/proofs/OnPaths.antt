-- What counts of the lines of a row, along its path of states.
use Rattle.std.proofs.Common.{ℕ, ◌≡◌, ◌≤◌, ◌⊎◌, ◌++◌, ◌||◌, ◌&&◌, not, Bool, true, false, List, [], ◌∷◌, Option, map, filter, length, inl, inr, refl, sym, ap, subst, Contains, ◌∙◌, option_to_list}
use Rattle.std.proofs.lemmas.Bool.{or_left, or_right}
use Rattle.std.proofs.lemmas.List.Elements.{Contains-append_cases}
use Rattle.cell_num.specs.declared.net.NetNo.{NetNo}
use Rattle.cell_num.specs.declared.net.Pins.{Pins}
use Rattle.cell_num.proofs.Lists.{contains_here, contains_option, contains_there}
use Rattle.row_model.specs.declared.column.Column.{Column}
use Rattle.row_place.specs.Places.{placement_of}
use Rattle.channel_route.specs.declared.routing.Trunk.{Trunk}
use Rattle.row_compact.specs.Allowed.{stretches_of}
use Rattle.row_state.specs.declared.kind.Kinds.{Kinds}
use Rattle.row_state.specs.declared.state.State.{State}
use Rattle.row_state.specs.declared.step.Step.{Step}
use Rattle.row_state.specs.Completion.{Completes}
use Rattle.row_state.specs.Start.{start_of, GatesAreNets}
use Rattle.row_state.specs.Steps.{column_of, state_after}
use Rattle.row_state.proofs.Unfold.{unfold_from}
use Rattle.track_ways.specs.declared.line.Line.{Line}
use Rattle.track_ways.specs.Lines.{has_place, is_ahead, is_held, is_net, with_line}
use Rattle.track_ways.specs.Channel.{AreTrunks}
use Rattle.track_ways.specs.Fillings.{is_net_some, kept}
use Rattle.track_ways.specs.Rows.{lines_behind, lines_of_row, node_line}
use Rattle.track_ways.specs.States.{is_behind, is_still_ahead}
use Rattle.track_ways.specs.Paths.{EndsFit, Leads, lines_to}
use Rattle.track_ways.proofs.Behind.{ahead_of_state}
use Rattle.track_ways.proofs.LineParts.{ahead_append, no_lines, one_more, or_none, same_tests, with_lines}
use Rattle.track_ways.proofs.Path.{behind_after, completes, ends_after, parted}
use Rattle.track_ways.proofs.Whole.{start_behind, start_fits, still_ahead}
use Rattle.line_widths.specs.Borders.{Border, border_of, borders_of, has_contact, has_gate, nets_at, spaces_of}
use Rattle.line_widths.specs.Spaces.{AreSpaces}
use Rattle.line_widths.specs.StateBorders.{borders_behind, borders_to}
use Rattle.line_widths.proofs.OnLines.{by_lines}

or_assoc : (a b c : Bool) → ((a || b) || c) ≡ (a || (b || c))
or_assoc true b c = refl
or_assoc false b c = refl

-- the nets with a place after a line of the first part
pub ahead_parted : (xs ys : List Line) (after : NetNo → Bool) → ◌≡◌ {A = NetNo → Bool} (λ net. is_ahead (xs ++ ys) net || after net) (λ net. is_ahead xs net || (is_ahead ys net || after net))
ahead_parted xs ys after = same_tests (λ net. is_ahead (xs ++ ys) net || after net) (λ net. is_ahead xs net || (is_ahead ys net || after net)) (λ net. ap (λ t. t || after net) (ahead_append xs ys net) ∙ or_assoc (is_ahead xs net) (is_ahead ys net) (after net))

-- lines one part after the other
borders_append : (pins : Pins) (track : NetNo → ℕ) (before : NetNo → Bool) (xs ys : List Line) (after : NetNo → Bool) →
    borders_of pins track before (xs ++ ys) after ≡ borders_of pins track before xs (λ net. is_ahead ys net || after net) ++ borders_of pins track (with_lines before xs) ys after
borders_append pins track before [] ys after = ap (λ (t : NetNo → Bool). borders_of pins track t ys after) (sym (no_lines before))
borders_append pins track before (x ∷ xs) ys after =
    ap (λ bs. border_of pins track before x (λ net. is_ahead (xs ++ ys) net || after net) ∷ bs) (borders_append pins track (with_line before x) xs ys after)
    ∙ ap (λ (t : NetNo → Bool). border_of pins track before x t ∷ (borders_of pins track (with_line before x) xs (λ net. is_ahead ys net || after net) ++ borders_of pins track (with_lines (with_line before x) xs) ys after)) (ahead_parted xs ys after)
    ∙ ap (λ (t : NetNo → Bool). border_of pins track before x (λ net. is_ahead xs net || (is_ahead ys net || after net)) ∷ (borders_of pins track (with_line before x) xs (λ net. is_ahead ys net || after net) ++ borders_of pins track t ys after)) (sym (one_more before x xs))

-- the nets with a place after a next column, and those before the state after it
pub ahead_next : (k : Kinds) (s : State) (step : Step) (cs : List Column) → Completes k (state_after k s step) cs →
    ◌≡◌ {A = NetNo → Bool} (λ net. is_ahead (lines_behind (state_after k s step).p_end (state_after k s step).n_end cs) net || false) (is_still_ahead k (state_after k s step))
ahead_next k s step cs after = same_tests _ (is_still_ahead k (state_after k s step)) (λ net. or_none (is_ahead (lines_behind (state_after k s step).p_end (state_after k s step).n_end cs) net) ∙ ahead_of_state k cs (state_after k s step) net after)

pub behind_next : (k : Kinds) (s : State) (step : Step) (cs : List Column) → Completes k s (column_of k step ∷ cs) → Completes k (state_after k s step) cs → EndsFit k s →
    with_lines (is_behind k s) (lines_to s (column_of k step)) ≡ is_behind k (state_after k s step)
behind_next k s step cs whole after fit = same_tests (with_lines (is_behind k s) (lines_to s (column_of k step))) (is_behind k (state_after k s step)) (λ net. behind_after k s step cs net whole after fit)

-- along the path they are those of the lines
on_path : (pins : Pins) (k : Kinds) (s : State) (track : NetNo → ℕ) (steps : List Step) → GatesAreNets k → Leads k s steps → EndsFit k s →
    borders_of pins track (is_behind k s) (lines_behind s.p_end s.n_end (map (column_of k) steps)) (λ net. false) ≡ borders_behind pins k s track steps
on_path pins k s track [] nets leads fit = refl
on_path pins k s track (step ∷ steps) nets leads fit =
    ap (λ ls. borders_of pins track (is_behind k s) ls (λ net. false)) (parted k s step (map (column_of k) steps))
    ∙ borders_append pins track (is_behind k s) (lines_to s (column_of k step)) (lines_behind (state_after k s step).p_end (state_after k s step).n_end (map (column_of k) steps)) (λ net. false)
    ∙ ap (λ (t : NetNo → Bool). borders_of pins track (is_behind k s) (lines_to s (column_of k step)) t ++ borders_of
    pins track (with_lines (is_behind k s) (lines_to s (column_of k step)))
    (lines_behind (state_after k s step).p_end (state_after k s step).n_end (map (column_of k) steps))
    (λ net. false)) (ahead_next k s step (map (column_of k) steps) after)
    ∙ ap (λ (t : NetNo → Bool). borders_to pins k s track step ++ borders_of pins track t (lines_behind (state_after k s step).p_end (state_after k s step).n_end (map (column_of k) steps)) (λ net. false)) (behind_next k s step (map (column_of k) steps) whole after fit)
    ∙ ap (λ bs. borders_to pins k s track step ++ bs) (on_path pins k (state_after k s step) track steps nets leads.1 (ends_after k s step (map (column_of k) steps) whole after fit))
  where
    after : Completes k (state_after k s step) (map (column_of k) steps)
    after = completes k (state_after k s step) steps nets leads.1

    whole : Completes k s (column_of k step ∷ map (column_of k) steps)
    whole = unfold_from k s step (map (column_of k) steps) nets leads.0 after

pub by_states : (pins : Pins) (k : Kinds) (steps : List Step) (track : NetNo → ℕ) (trunks : List Trunk) → GatesAreNets k → Leads k (start_of k) steps → length (map (column_of k) steps) ≤ 32 →
    AreTrunks (placement_of (map (column_of k) steps)) pins track trunks →
    AreSpaces (placement_of (map (column_of k) steps)) pins (stretches_of trunks) (spaces_of (borders_behind pins k (start_of k) track steps))
by_states pins k steps track trunks nets leads few are =
    subst (λ bs. AreSpaces (placement_of (map (column_of k) steps)) pins (stretches_of trunks) (spaces_of bs))
    (ap (λ (t : NetNo → Bool). borders_of pins track t (lines_of_row (map (column_of k) steps)) (λ net. false)) (start_behind k) ∙ on_path pins k (start_of k) track steps nets leads (start_fits k))
    (by_lines (map (column_of k) steps) pins track trunks (completes k (start_of k) steps nets leads).columns few are)

-- ---- of the tracks those of nets with a place there count

map_same : {X Y : Type 0} (f g : X → Y) (xs : List X) → ((x : X) → Contains xs x → f x ≡ g x) → map f xs ≡ map g xs
map_same f g [] h = refl
map_same f g (x ∷ xs) h = ap (λ y. y ∷ map f xs) (h x (contains_here x xs)) ∙ ap (λ ys. g x ∷ ys) (map_same f g xs (λ y there. h y (contains_there x xs y there)))

placed : (line : Line) (net : NetNo) → Contains (nets_at line) net → has_place line net ≡ true
placed line net there = by (Contains-append_cases (option_to_list line.p) (option_to_list line.n ++ option_to_list line.gate) net there)
  where
    one : (o : Option NetNo) → Contains (option_to_list o) net → is_net o net ≡ true
    one o h = is_net_some o net (contains_option o net h)

    rest : Contains (option_to_list line.n) net ⊎ Contains (option_to_list line.gate) net → has_place line net ≡ true
    rest (inl n) = or_right (is_net line.p net) _ (or_left _ _ (one line.n n))
    rest (inr gate) = or_right (is_net line.p net) _ (or_right (is_net line.n net) _ (one line.gate gate))

    by : Contains (option_to_list line.p) net ⊎ Contains (option_to_list line.n ++ option_to_list line.gate) net → has_place line net ≡ true
    by (inl p) = or_left _ _ (one line.p p)
    by (inr more) = rest (Contains-append_cases (option_to_list line.n) (option_to_list line.gate) net more)

abbrev made : Pins → (NetNo → Bool) → Line → (NetNo → Bool) → List ℕ → List ℕ → Border
made pins before line after begun ended = record {
  begun = begun;
  ended = ended;
  gate = has_gate line.gate;
  contact = has_contact pins before line after line.p || has_contact pins before line after line.n;
}

module _ (pins : Pins) (track other : NetNo → ℕ) where
  same_border : (before : NetNo → Bool) (line : Line) (after : NetNo → Bool) → ((net : NetNo) → has_place line net ≡ true → track net ≡ other net) → border_of pins track before line after ≡ border_of pins other before line after
  same_border before line after h =
      ap (λ xs. made pins before line after xs (map track (filter (λ net. is_held pins before line after net && not (after net)) (nets_at line)))) (same (λ net. is_held pins before line after net && not (before net)))
      ∙ ap (λ xs. made pins before line after (map other (filter (λ net. is_held pins before line after net && not (before net)) (nets_at line))) xs) (same (λ net. is_held pins before line after net && not (after net)))
    where
      same : (test : NetNo → Bool) → map track (filter test (nets_at line)) ≡ map other (filter test (nets_at line))
      same test = map_same track other (filter test (nets_at line)) (λ net there. h net (placed line net (kept test (nets_at line) net there).0))

  same_borders : (before : NetNo → Bool) (lines : List Line) (after : NetNo → Bool) → ((net : NetNo) → is_ahead lines net ≡ true → track net ≡ other net) → borders_of pins track before lines after ≡ borders_of pins other before lines after
  same_borders before [] after h = refl
  same_borders before (line ∷ rest) after h =
      ap (λ b. b ∷ borders_of pins track (with_line before line) rest after) (same_border before line (λ net. is_ahead rest net || after net) (λ net e. h net (or_left _ _ e)))
      ∙ ap (λ bs. border_of pins other before line (λ net. is_ahead rest net || after net) ∷ bs) (same_borders (with_line before line) rest after (λ net e. h net (or_right (has_place line net) _ e)))

  pub again : (k : Kinds) (s : State) (steps : List Step) → GatesAreNets k → Leads k s steps → ((net : NetNo) → is_still_ahead k s net ≡ true → track net ≡ other net) → borders_behind pins k s track steps ≡ borders_behind pins k s other steps
  again k s [] nets leads h = same_borders (is_behind k s) (node_line s.p_end s.n_end ∷ []) (λ net. false) (λ net e. h net (sym (ahead_of_state k [] s net leads) ∙ e))
  again k s (step ∷ steps) nets leads h =
      ap (λ bs. bs ++ borders_behind pins k (state_after k s step) track steps) (same_borders (is_behind k s) (lines_to s (column_of k step)) (is_still_ahead k (state_after k s step)) (λ net e. h net (sym (ahead net) ∙ or_left _ _ e)))
      ∙ ap (λ bs. borders_to pins k s other step ++ bs) (again k (state_after k s step) steps nets leads.1 (λ net e. h net (sym (ahead net) ∙ or_right (is_ahead (lines_to s (column_of k step)) net) _ e)))
    where
      after : Completes k (state_after k s step) (map (column_of k) steps)
      after = completes k (state_after k s step) steps nets leads.1

      ahead : (net : NetNo) → (is_ahead (lines_to s (column_of k step)) net || is_still_ahead k (state_after k s step) net) ≡ is_still_ahead k s net
      ahead net = still_ahead k s step (map (column_of k) steps) net (unfold_from k s step (map (column_of k) steps) nets leads.0 after) after
