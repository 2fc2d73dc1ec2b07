-- What the search for the fewest tracks says of the row that it found, and of the row's first routing on them.
use Rattle.std.proofs.Common.{ℕ, ◌≡◌, ◌<◌, ◌≤◌, ◌⊎◌, List, Option, IfSome, Some, inl, inr, subst, sym, length, arith, All}
use Rattle.cell_num.specs.declared.finger.Fingers.{Fingers}
use Rattle.cell_num.specs.declared.finger.Row.{Row}
use Rattle.cell_num.specs.declared.net.Pins.{Pins}
use Rattle.cell_num.specs.Fingers.{AreSound}
use Rattle.cell_num.specs.Pins.{ArePins}
use Rattle.cell_num.proofs.Lists.{all_imply}
use Rattle.row_model.specs.declared.column.Column.{Column}
use Rattle.row_model.specs.Arrangement.{IsArrangement, IsColumn}
use Rattle.row_place.specs.declared.placement.Placement.{Placement}
use Rattle.row_place.specs.Places.{placement_of}
use Rattle.row_place.specs.Trunks.{HasPins}
use Rattle.row_place.proofs.Pins.{has_pins}
use Rattle.first_route.specs.Tries.{AreMore}
use Rattle.row_state.specs.declared.kind.Kinds.{Kinds}
use Rattle.row_state.specs.declared.state.State.{State}
use Rattle.row_state.specs.Start.{AreKinds, AreSomeKinds}
use Rattle.track_ways.specs.declared.lemma.TrackLemma.{TrackLemma}
use Rattle.track_search.specs.declared.fewest.Fewest.{Fewest}
use Rattle.track_search.specs.declared.fewest.Fewest.TheVariants as fewest
use Rattle.track_log.specs.Fits.{LemmaFits, TrackFits}
use Rattle.track_ways.specs.Lines.{LineRule}
use Rattle.track_search.specs.FewestBy.{ProveBy}
use Rattle.track_search.specs.Fewest.{AreAtMost, IsFewest, IsFirstOn, IsOpen, TakeAtLeast, TakeTracks, least_of, lemmas_of}
use Rattle.track_search.specs.Kept.{IsKeptWithinBy, IsTrackBelow, IsWithin}
use Rattle.track_search.specs.Limit.{IsFirstRow}
use Rattle.track_search.specs.Lowest.{Arranges, HavePins, IsBudgetSpent, IsFirstLow}
use Rattle.track_search.proofs.Least.{whole_row}

pub first_on : (value : Row → State → Kinds → ℕ) (pins : Pins) (k : Kinds) (gaps : ℕ) (e : Fewest) (row : List Column) (tracks : ℕ) (lemmas : List TrackLemma) → e ≡ fewest.Found row tracks lemmas → IsFewest value pins k gaps e → IsFirstOn value pins k gaps row tracks lemmas
first_on value pins k gaps e row tracks lemmas is h = subst (IsFewest value pins k gaps) is h

pub takes : (pins : Pins) (k : Kinds) (gaps : ℕ) (e : Fewest) (row : List Column) (tracks : ℕ) (lemmas : List TrackLemma) → e ≡ fewest.Found row tracks lemmas → TakeTracks pins k gaps e → TakeAtLeast pins k gaps tracks
takes pins k gaps e row tracks lemmas is h = subst (TakeTracks pins k gaps) is h

pub found_some : {X : Type 0} (P : X → Type 0) (o : Option X) (x : X) → o ≡ Some x → IfSome o P → P x
found_some {X} P o x is h = subst (λ (q : Option X). IfSome q P) is h

-- a row of all fingers
pub columns : (k : Kinds) (row : List Column) → ((f : Fingers) → AreKinds f k → IsArrangement row f) → All IsColumn row
columns k row arranges = (whole_row k row arranges).columns

pub few : (k : Kinds) (row : List Column) → AreSomeKinds k → ((f : Fingers) → AreKinds f k → IsArrangement row f) → length row ≤ 32
few k row some arranges = omega (arith, (whole_row k row arranges).fewest, some.few_columns)

pub placed_pins : (pins : Pins) (k : Kinds) (gaps : ℕ) (row : List Column) (p : Placement) → p ≡ placement_of row → HavePins pins k gaps → Arranges k gaps row → HasPins p pins
placed_pins pins k gaps row p placed have arranges = subst (λ (q : Placement). HasPins q pins) (sym placed) (have row arranges)

pub have_pins : (names : List (List ℕ)) (pins : Pins) (f : Fingers) (k : Kinds) (gaps : ℕ) → AreSound names pins f → ArePins f.nets pins → AreKinds f k → HavePins pins k gaps
have_pins names pins f k gaps sound are_pins kinds row arranges = has_pins names pins f row sound are_pins (arranges.arranges f kinds)

-- the routing has as many tracks as the row takes
pub prove_same : (rule : LineRule) (value : Row → State → Kinds → ℕ) (pins : Pins) (k : Kinds) (gaps tracks same : ℕ) (lemmas : List TrackLemma) → same ≡ tracks → ProveBy rule value pins k gaps tracks lemmas → ProveBy rule value pins k gaps same lemmas
prove_same rule value pins k gaps tracks same lemmas e h = subst (λ n. ProveBy rule value pins k gaps n lemmas) (sym e) h

pub take_same : (pins : Pins) (k : Kinds) (gaps tracks same : ℕ) → same ≡ tracks → TakeAtLeast pins k gaps tracks → TakeAtLeast pins k gaps same
take_same pins k gaps tracks same e h = subst (TakeAtLeast pins k gaps) (sym e) h

pub first_low : (pins : Pins) (k : Kinds) (gaps tracks same : ℕ) (row placed : List Column) → same ≡ tracks → placed ≡ row → IsFirstRow pins tracks k gaps row → IsFirstLow pins k gaps same placed
first_low pins k gaps tracks same row placed e is first = subst (IsFirstLow pins k gaps same) (sym is) (subst (λ n. IsFirstLow pins k gaps n row) (sym e) first.first)

-- ---- lemmas, and why the search ends open

pub fits_lemmas : (k : Kinds) (gaps most : ℕ) (lemmas : List TrackLemma) → gaps ≤ 63 → most ≤ 256 → All (IsWithin k most gaps) lemmas → All (LemmaFits k) lemmas
fits_lemmas k gaps most lemmas few low all = all_imply (IsWithin k most gaps) (LemmaFits k) lemmas (λ lemma w. record {
  state = w.state;
  gaps = omega (arith, w.gaps, few);
  tracks = all_imply (IsTrackBelow k.nets most) (TrackFits k.nets) lemma.tracks (λ t b. record { net = b.net; track = omega (arith, b.track, low) }) w.tracks;
  order = w.order;
}) all

pub within_found : (k : Kinds) (most gaps : ℕ) (e : Fewest) (row : List Column) (tracks : ℕ) (lemmas : List TrackLemma) → e ≡ fewest.Found row tracks lemmas → All (IsWithin k most gaps) (lemmas_of e) → All (IsWithin k most gaps) lemmas
within_found k most gaps e row tracks lemmas is h = subst (λ z. All (IsWithin k most gaps) (lemmas_of z)) is h

pub within_open : (k : Kinds) (most gaps : ℕ) (e : Fewest) (proved : ℕ) (lemmas : List TrackLemma) → e ≡ fewest.Open proved lemmas → All (IsWithin k most gaps) (lemmas_of e) → All (IsWithin k most gaps) lemmas
within_open k most gaps e proved lemmas is h = subst (λ z. All (IsWithin k most gaps) (lemmas_of z)) is h

pub below_found : (most : ℕ) (e : Fewest) (row : List Column) (tracks : ℕ) (lemmas : List TrackLemma) → e ≡ fewest.Found row tracks lemmas → AreAtMost most e → tracks < most
below_found most e row tracks lemmas is h = subst (AreAtMost most) is h

pub below_open : (most : ℕ) (e : Fewest) (proved : ℕ) (lemmas : List TrackLemma) → e ≡ fewest.Open proved lemmas → AreAtMost most e → proved ≤ most
below_open most e proved lemmas is h = subst (AreAtMost most) is h

-- all lemmas that are kept on fewer tracks
pub kept_found : (rule : LineRule) (value : Row → State → Kinds → ℕ) (pins : Pins) (k : Kinds) (gaps budget : ℕ) (e : Fewest) (row : List Column) (tracks : ℕ) (lemmas : List TrackLemma) → e ≡ fewest.Found row tracks lemmas → IsKeptWithinBy rule value pins k gaps (least_of e) budget (lemmas_of e) → IsKeptWithinBy rule value pins k gaps tracks budget lemmas
kept_found rule value pins k gaps budget e row tracks lemmas is h = subst (λ (z : Fewest). IsKeptWithinBy rule value pins k gaps (least_of z) budget (lemmas_of z)) is h

pub kept_open : (rule : LineRule) (value : Row → State → Kinds → ℕ) (pins : Pins) (k : Kinds) (gaps budget : ℕ) (e : Fewest) (proved : ℕ) (lemmas : List TrackLemma) → e ≡ fewest.Open proved lemmas → IsKeptWithinBy rule value pins k gaps (least_of e) budget (lemmas_of e) → IsKeptWithinBy rule value pins k gaps proved budget lemmas
kept_open rule value pins k gaps budget e proved lemmas is h = subst (λ (z : Fewest). IsKeptWithinBy rule value pins k gaps (least_of z) budget (lemmas_of z)) is h

pub kept_same : (rule : LineRule) (value : Row → State → Kinds → ℕ) (pins : Pins) (k : Kinds) (gaps budget tracks same : ℕ) (lemmas : List TrackLemma) → same ≡ tracks → IsKeptWithinBy rule value pins k gaps tracks budget lemmas → IsKeptWithinBy rule value pins k gaps same budget lemmas
kept_same rule value pins k gaps budget tracks same lemmas e h = subst (λ n. IsKeptWithinBy rule value pins k gaps n budget lemmas) (sym e) h

pub still_open : (value : Row → State → Kinds → ℕ) (pins : Pins) (k : Kinds) (gaps most budget : ℕ) (e : Fewest) (proved : ℕ) (lemmas : List TrackLemma) → e ≡ fewest.Open proved lemmas → IsOpen value pins k gaps most budget e → (proved ≡ most) ⊎ IsBudgetSpent value pins k gaps proved budget
still_open value pins k gaps most budget e proved lemmas is h = elim (subst (IsOpen value pins k gaps most budget) is h) [
  | inl all ↦ inl all
  | inr spent ↦ inr (inl spent)
]

pub tries_spent : (value : Row → State → Kinds → ℕ) (pins : Pins) (k : Kinds) (gaps most tracks budget : ℕ) (row : List Column) (p : Placement) → p ≡ placement_of row → IsFirstRow pins tracks k gaps row → AreMore p pins tracks budget → (tracks ≡ most) ⊎ IsBudgetSpent value pins k gaps tracks budget
tries_spent value pins k gaps most tracks budget row p placed first more = inr (inr (record { row = row; first = first; more = subst (λ q. AreMore q pins tracks budget) placed more }))
