-- The lemmas that are kept of ways: their tracks in order, and why none follows from an earlier one.
use Rattle.std.proofs.Common.{ℕ, Bool, true, not, ◌&&◌, ◌||◌, ◌≡◌, ◌<◌, ◌≤◌, ◌++◌, List, [], ◌∷◌, get_or, length, take, map, inl, inr, refl, ap, subst, arith, All, Any, Contains, length-append}
use Rattle.std.specs.List.{AllPairs, range_with_len}
use Rattle.std.proofs.lemmas.Bool.{and_parts}
use Rattle.std.proofs.lemmas.List.{get_or_append_left, take-append-le}
use Rattle.std.proofs.lemmas.List.Elements.{All-contains, All-nil, Contains-append_cases, Contains-append_left}
use Rattle.cell_num.specs.declared.finger.Row.{Row}
use Rattle.cell_num.specs.declared.net.NetNo.{NetNo}
use Rattle.cell_num.specs.declared.net.Pins.{Pins}
use Rattle.cell_num.proofs.In.{Image, in_map}
use Rattle.cell_num.proofs.Lists.{all_from_contains, all_imply, all_map, all_one, contains_none, contains_one}
use Rattle.cell_num.proofs.Pairs.{Some', any_at, pairs_append, pairs_map, some_from_any}
use Rattle.row_state.specs.declared.kind.Kinds.{Kinds}
use Rattle.row_state.specs.declared.state.State.{State}
use Rattle.row_state.specs.declared.step.Step.{Step}
use Rattle.row_state.specs.Start.{AreSomeKinds, IsState, columns_left}
use Rattle.row_state.specs.Steps.{column_of, state_after}
use Rattle.track_ways.specs.declared.line.Line.{Line}
use Rattle.track_ways.specs.declared.track.NetTrack.{NetTrack}
use Rattle.track_ways.specs.Lines.{LineRule, is_ahead, is_open, with_line}
use Rattle.track_ways.specs.Fillings.{look, look_is}
use Rattle.track_ways.specs.Rows.{gate_line, lines_between}
use Rattle.track_ways.specs.Rules.{Among, IsRule}
use Rattle.cell_num.specs.Pins.{is_rail}
use Rattle.track_ways.specs.Paths.{lines_to}
use Rattle.track_ways.specs.States.{is_behind, is_open_at, is_still_ahead}
use Rattle.track_ways.specs.Tracks.{AreKeys}
use Rattle.track_ways.specs.Ways.{LineWays, goes_ways_by, net_of, nets_below, open_of, pass_ways_by}
use Rattle.track_ways.proofs.Exact.{PartedBy, PlacesAmong, here_among, open_held, parted_by, rest_among}
use Rattle.track_ways.proofs.Nets.{behind_among, lines_among}
use Rattle.track_ways.proofs.Steps.{some_lines}
use Rattle.track_ways.proofs.Places.{kept}
use Rattle.track_ways.specs.declared.lemma.TrackLemma.{TrackLemma}
use Rattle.track_ways.specs.Certificate.{AreJustifiedBy, IsJustifiedBy}
use Rattle.track_ways.specs.Checked.{CoversListed}
use Rattle.track_search.specs.InOrder.{in_order}
use Rattle.track_search.specs.Kept.{AreKeptBy, AreNew, IsTrackBelow, IsWithin}
use Rattle.track_search.specs.Visit.{AreBelow, AreFresh, AreWaysAt, GoOn, HasPart, IsOfOpen, kept_at}
use Rattle.track_search.proofs.InOrder.{From, in_order_from, in_order_increases, in_order_to, range_below}

pub part_of_part : (way part less : List NetTrack) → HasPart way part → HasPart part less → HasPart way less
part_of_part way part less has more = all_imply (Contains part) (Contains way) less (λ t there. All-contains (Contains way) part t has there) more

-- the same tracks are listed
pub record AreSame (way other : List NetTrack) : Type 0 where
  pub to : HasPart way other
  pub from : HasPart other way

-- an open net is one of the kinds
open_low : (pins : Pins) (k : Kinds) (s : State) (net : NetNo) → AreSomeKinds k → is_open pins (is_behind k s) (is_still_ahead k s) net ≡ true → net.0 < k.nets
open_low pins k s net some o =
    let behind : is_behind k s net ≡ true = (and_parts (is_behind k s net) (is_still_ahead k s net) (and_parts (not (is_rail pins net)) (is_behind k s net && is_still_ahead k s net) o).1).0 in
    let i : Image net_of (range_with_len 0 k.nets) net = in_map net_of (range_with_len 0 k.nets) net (behind_among k s some net behind) in
    let low : i.of < k.nets = range_below k.nets i.of i.listed in
    subst (λ (n : NetNo). n.0 < k.nets) i.is low

-- ways of the nets that are open
pub of_open : (pins : Pins) (k : Kinds) (s : State) (ways : List (List NetTrack)) → AreWaysAt pins k s ways → All (IsOfOpen pins k s) ways
of_open pins k s ways keys = all_imply (AreKeys pins (is_behind k s) (is_still_ahead k s)) (IsOfOpen pins k s) ways (λ way own. record { open' = own.open'; one = own.one }) keys

-- no tracks are of open nets
pub none_of_open : (pins : Pins) (k : Kinds) (s : State) → All (IsOfOpen pins k s) ([] ∷ [])
none_of_open pins k s = all_one (IsOfOpen pins k s) [] (record {
  open' = All-nil (λ (t : NetTrack). is_open_at pins k s t.net ≡ true);
  one = λ t u at also e. absurd (contains_none t at);
})

pub none_below : (limit : ℕ) → All (AreBelow limit) ([] ∷ [])
none_below limit = all_one (AreBelow limit) [] (All-nil (λ (t : NetTrack). t.track < limit))

pub ways_in_order : (pins : Pins) (k : Kinds) (s : State) (ways : List (List NetTrack)) → AreSomeKinds k → All (IsOfOpen pins k s) ways → All (λ way. AreSame way (in_order k.nets way)) ways
ways_in_order pins k s ways some open' = all_imply (IsOfOpen pins k s) (λ way. AreSame way (in_order k.nets way)) ways (λ way own. record {
  to = all_from_contains (Contains way) (in_order k.nets way) (λ t there. (in_order_from k.nets way t there).there);
  from = all_from_contains (Contains (in_order k.nets way)) way (λ t there. in_order_to k.nets way t own.one (open_low pins k s t.net some (All-contains (λ (t : NetTrack). is_open_at pins k s t.net ≡ true) way t own.open' there)) there);
}) open'

-- the lemmas that are kept of some ways are in range
pub kept_within : (k : Kinds) (limit most : ℕ) (s : State) (gaps : ℕ) (ways : List (List NetTrack)) → gaps ≤ most → IsState k s → All (AreBelow limit) ways → All (IsWithin k limit most) (map (kept_at k.nets s gaps) ways)
kept_within k limit most s gaps ways le state below = all_map (AreBelow limit) (IsWithin k limit most) (kept_at k.nets s gaps) ways (λ way low. record {
  state = state;
  gaps = le;
  tracks = all_from_contains (IsTrackBelow k.nets limit) (in_order k.nets way) (λ t there.
      let from : From k.nets way t = in_order_from k.nets way t there in
      record { net = from.low; track = All-contains (λ (t : NetTrack). t.track < limit) way t low from.there });
  order = in_order_increases k.nets way;
}) below

-- lemmas on states with fewer columns left speak of none of the ways
pub fresh_grown : (k : Kinds) (s : State) (gaps : ℕ) (ways : List (List NetTrack)) (xs ys more : List TrackLemma) → ys ≡ xs ++ more → All (λ (lemma : TrackLemma). columns_left k lemma.state < columns_left k s) more → AreFresh xs s gaps ways → AreFresh ys s gaps ways
fresh_grown k s gaps ways xs ys more is fewer fresh = record { open' = all_imply (λ way. Any (CoversListed s gaps way) xs → ⊥) (λ way. Any (CoversListed s gaps way) ys → ⊥) ways none fresh.open'; apart = fresh.apart }
  where
    none : (way : List NetTrack) → (Any (CoversListed s gaps way) xs → ⊥) → Any (CoversListed s gaps way) ys → ⊥
    none way not' any =
        let found : Some' (CoversListed s gaps way) ys = some_from_any (CoversListed s gaps way) ys any in
        elim (Contains-append_cases xs more found.it (subst (λ zs. Contains zs found.it) is found.there)) [
          | inl before ↦ not' (any_at (CoversListed s gaps way) xs found.it before found.holds)
          | inr after ↦
              let less : columns_left k found.it.state < columns_left k s = All-contains (λ (lemma : TrackLemma). columns_left k lemma.state < columns_left k s) more found.it fewer after in
              absurd (omega (arith, less, ap (columns_left k) found.holds.state))
        ]

abbrev pub Differ : TrackLemma → TrackLemma → Type 0
Differ earlier lemma = CoversListed lemma.state lemma.gaps lemma.tracks earlier → ⊥

-- where no lemma speaks of the ways, those that are kept of them are new
pub kept_new : (k : Kinds) (s : State) (gaps : ℕ) (ways : List (List NetTrack)) (lemmas : List TrackLemma) → All (λ way. AreSame way (in_order k.nets way)) ways → AreNew lemmas → AreFresh lemmas s gaps ways → AreNew (lemmas ++ map (kept_at k.nets s gaps) ways)
kept_new k s gaps ways lemmas same own fresh = pairs_append Differ lemmas (map (kept_at k.nets s gaps) ways) own among across
  where
    among : AllPairs Differ (map (kept_at k.nets s gaps) ways)
    among = pairs_map (λ a b. HasPart b a → ⊥) (λ way. AreSame way (in_order k.nets way)) Differ (kept_at k.nets s gaps) ways
        (λ a b of_a of_b apart covers. apart (part_of_part b (in_order k.nets b) a of_b.to (part_of_part (in_order k.nets b) (in_order k.nets a) a covers.tracks of_a.from))) same fresh.apart

    across : All (λ earlier. All (Differ earlier) (map (kept_at k.nets s gaps) ways)) lemmas
    across = all_from_contains (λ earlier. All (Differ earlier) (map (kept_at k.nets s gaps) ways)) lemmas (λ earlier there.
        all_from_contains (Differ earlier) (map (kept_at k.nets s gaps) ways) (λ lemma at.
        let i : Image (kept_at k.nets s gaps) ways lemma = in_map (kept_at k.nets s gaps) ways lemma at in
        subst (Differ earlier) i.is (λ covers.
        All-contains (λ way. Any (CoversListed s gaps way) lemmas → ⊥) ways i.of fresh.open' i.listed
        (any_at (CoversListed s gaps i.of) lemmas earlier there (record { state = covers.state; enough = covers.enough; tracks = part_of_part i.of (in_order k.nets i.of) earlier.tracks (All-contains (λ way. AreSame way (in_order k.nets way)) ways i.of same i.listed).to covers.tracks })))))

-- ---- the first of the lemmas that are kept

all_front : {X : Type 0} (P : X → Type 0) (xs ys : List X) → All P (xs ++ ys) → All P xs
all_front P xs ys h = all_from_contains P xs (λ x there. All-contains P (xs ++ ys) x h (Contains-append_left xs ys x there))

pairs_front : {X : Type 0} (R : X → X → Type 0) (xs ys : List X) → AllPairs R (xs ++ ys) → AllPairs R xs
pairs_front {X} R xs ys h i j d less short =
    subst (λ (a : X). R a (get_or xs j d)) (get_or_append_left xs ys d i (omega (arith, less, short)))
    (subst (λ (b : X). R (get_or (xs ++ ys) i d) b) (get_or_append_left xs ys d j short) (h i j d less (omega (arith, short, length-append xs ys))))

justified_front : (rule : LineRule) (value : Row → State → Kinds → ℕ) (pins : Pins) (limit : ℕ) (k : Kinds) (xs ys : List TrackLemma) → AreJustifiedBy rule value pins limit k (xs ++ ys) → AreJustifiedBy rule value pins limit k xs
justified_front rule value pins limit k xs ys h i d within =
    subst (λ (z : TrackLemma). IsJustifiedBy rule value pins limit k (take i xs) z) (get_or_append_left xs ys d i within)
    (subst (λ zs. IsJustifiedBy rule value pins limit k zs (get_or (xs ++ ys) i d)) (take-append-le i xs ys (omega (arith, within))) (h i d (omega (arith, within, length-append xs ys))))

pub kept_front : (rule : LineRule) (value : Row → State → Kinds → ℕ) (pins : Pins) (limit : ℕ) (k : Kinds) (gaps : ℕ) (xs ys : List TrackLemma) → AreKeptBy rule value pins limit k gaps (xs ++ ys) → AreKeptBy rule value pins limit k gaps xs
kept_front rule value pins limit k gaps xs ys h = record {
  justified = justified_front rule value pins limit k xs ys h.justified;
  own = pairs_front Differ xs ys h.own;
  within = all_front (IsWithin k limit gaps) xs ys h.within;
}

-- ---- the tracks after a column are below the limit

-- those after the last of some lines
last_below : {rule : LineRule} {listing : LineWays} (r : IsRule rule listing) (pins : Pins) (limit : ℕ) (nets : List NetNo) (before : NetNo → Bool) (line : Line) (behind : NetNo → Bool) (tracks way : List NetTrack) → PartedBy rule listing pins limit nets before line [] behind tracks way → AreBelow limit way
last_below {rule} r pins limit nets before line behind tracks way p =
    subst (AreBelow limit) (contains_one (open_of pins (with_line before line) behind p.out) way p.further)
    (all_from_contains (λ (t : NetTrack). t.track < limit) (open_of pins (with_line before line) behind p.out) (λ t at.
    let inside : Contains p.out t × (is_open pins (with_line before line) behind t.net ≡ true) = kept (λ (t : NetTrack). is_open pins (with_line before line) behind t.net) p.out t at in
    let further : behind t.net ≡ true = (and_parts (with_line before line t.net) (behind t.net) (and_parts (not (is_rail pins t.net)) (with_line before line t.net && behind t.net) inside.1).1).1 in
    let of = p.here.from (look p.out) (all_from_contains (λ (t : NetTrack). look p.out t.net ≡ t.track) p.out (λ t also. look_is p.out t p.here.one also)) in
    subst (λ n. n < limit) (look_is p.out t p.here.one inside.0)
    (r.low pins limit before line (λ net. is_ahead [] net || behind net) of.0 (look p.out) of.2 t.net (open_held pins before line [] behind t.net refl inside.1) (inr further))))

pass_below : {rule : LineRule} {listing : LineWays} (r : IsRule rule listing) (pins : Pins) (limit : ℕ) (nets : List NetNo) (before : NetNo → Bool) (lines : List Line) (behind : NetNo → Bool) (tracks way : List NetTrack) → (length lines ≡ 0 → ⊥) → Among nets before → PlacesAmong nets lines → Contains (pass_ways_by listing pins limit nets before lines behind tracks) way → AreBelow limit way
pass_below r pins limit nets before [] behind tracks way some among places there = absurd (some refl)
pass_below r pins limit nets before (line ∷ []) behind tracks way some among places there =
    last_below r pins limit nets before line behind tracks way (parted_by r pins limit nets before line [] behind tracks way among places there)
pass_below {rule} {listing} r pins limit nets before (line ∷ next ∷ rest) behind tracks way some among places there =
    let p : PartedBy rule listing pins limit nets before line (next ∷ rest) behind tracks way = parted_by r pins limit nets before line (next ∷ rest) behind tracks way among places there in
    pass_below r pins limit nets (with_line before line) (next ∷ rest) behind p.out way (λ none. absurd (omega (arith, none))) (here_among nets before line (next ∷ rest) among places) (rest_among nets line (next ∷ rest) places) p.further

pub ways_below : {rule : LineRule} {listing : LineWays} (r : IsRule rule listing) (pins : Pins) (limit : ℕ) (k : Kinds) (s : State) (step : Step) (ways onward : List (List NetTrack)) → AreSomeKinds k → IsState k s → All (GoOn listing pins limit k s step ways) onward → All (AreBelow limit) onward
ways_below {rule} {listing} r pins limit k s step ways onward some state from = all_imply (GoOn listing pins limit k s step ways) (AreBelow limit) onward (λ next go.
    let of : Some' (λ way. Contains (goes_ways_by listing pins limit k s way step) next) ways = some_from_any (λ way. Contains (goes_ways_by listing pins limit k s way step) next) ways go in
    pass_below r pins limit (nets_below k.nets) (is_behind k s) (lines_to s (column_of k step)) (is_still_ahead k (state_after k s step)) of.it next
    (some_lines (lines_between s.p_end s.n_end (column_of k step)) (gate_line (column_of k step))) (behind_among k s some) (lines_among k s step some state) of.holds) from
