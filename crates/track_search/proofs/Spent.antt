-- What the search from the start shows of its lemmas, limit by limit.
use Rattle.std.proofs.Common.{ℕ, ◌≡◌, ◌+◌, ◌<◌, ◌≤◌, List, [], ◌∷◌, length, slice_index_or, sum_by, refl, sym, ap, subst, arith, All, Any}
use Rattle.std.proofs.lemmas.List.Elements.{All-nil}
use Rattle.std.proofs.lemmas.List.Sums.{sum_by-cons}
use Rattle.cell_num.specs.declared.finger.Row.{Row}
use Rattle.cell_num.specs.declared.net.Pins.{Pins}
use Rattle.cell_num.proofs.Lists.{all_imply, all_one, contains_none}
use Rattle.cell_num.proofs.Pairs.{Some', pairs_none, pairs_one, some_from_any}
use Rattle.row_state.specs.declared.kind.Kinds.{Kinds}
use Rattle.row_state.specs.declared.state.State.{State}
use Rattle.track_ways.specs.Lines.{LineRule}
use Rattle.track_ways.specs.declared.track.NetTrack.{NetTrack}
use Rattle.track_ways.specs.declared.lemma.TrackLemma.{TrackLemma}
use Rattle.track_ways.specs.Checked.{CoversListed}
use Rattle.track_search.specs.declared.progress.Progress.{Progress}
use Rattle.track_search.specs.Bare.{IsNoted}
use Rattle.track_search.specs.Kept.{AreKeptBy, AreKeptBelowBy, AreNew, IsKeptWithinBy, IsSpentBy, IsSpentBelowBy, IsTrackBelow, IsWithin}
use Rattle.track_search.proofs.Kept.{Differ}
use Rattle.track_search.specs.Visit.{AreBelow, AreFresh, HasPart, IsKept}
use Rattle.track_search.proofs.Starts.{none_justified}

-- ---- at the start

pub none_new : (lemmas : List TrackLemma) → lemmas ≡ [] → AreNew lemmas
none_new lemmas none = subst AreNew (sym none) (pairs_none Differ)

pub start_fresh : (lemmas : List TrackLemma) (s : State) (gaps : ℕ) (ways : List (List NetTrack)) → lemmas ≡ [] → ways ≡ [] ∷ [] → AreFresh lemmas s gaps ways
start_fresh lemmas s gaps ways none one = subst (AreFresh lemmas s gaps) (sym one) (subst (λ ls. AreFresh ls s gaps ([] ∷ [])) (sym none) (record {
  open' = all_one (λ way. Any (CoversListed s gaps way) [] → ⊥) [] (λ any.
      let found : Some' (CoversListed s gaps []) [] = some_from_any (CoversListed s gaps []) [] any in
      contains_none found.it found.there);
  apart = pairs_one (λ a b. HasPart b a → ⊥) [];
}))

pub start_below : (limit : ℕ) (ways : List (List NetTrack)) → ways ≡ [] ∷ [] → All (AreBelow limit) ways
start_below limit ways one = subst (All (AreBelow limit)) (sym one) (all_one (AreBelow limit) [] (All-nil (λ (t : NetTrack). t.track < limit)))

-- nothing is kept there
pub start_kept : (rule : LineRule) (value : Row → State → Kinds → ℕ) (pins : Pins) (limit : ℕ) (k : Kinds) (gaps budget : ℕ) (p : Progress) → p.lemmas ≡ [] → IsNoted value pins limit k p → IsKept rule value pins limit k gaps budget p
start_kept rule value pins limit k gaps budget p none noted = record {
  kept = record {
    justified = none_justified rule value pins limit k p.lemmas none;
    own = none_new p.lemmas none;
    within = subst (All (IsWithin k limit gaps)) (sym none) (All-nil (IsWithin k limit gaps));
  };
  few = omega (arith, ap length none);
  noted = noted;
}

-- ---- from limit to limit

-- lists of lemmas on the limits below one, these the last ones; that many fewer than the budget may follow
pub record AreTried
    (rule : LineRule) (value : Row → State → Kinds → ℕ) (pins : Pins) (k : Kinds) (gaps limit left budget : ℕ)
    (lemmas : List TrackLemma) : Type 0 where
  pub lists : List (List TrackLemma)
  pub limits : length lists ≡ limit
  pub kept : AreKeptBelowBy rule value pins k gaps lists
  pub used : left + sum_by length lists ≡ budget
  pub last : slice_index_or lists 0 [] ≡ lemmas

pub none_tried : (rule : LineRule) (value : Row → State → Kinds → ℕ) (pins : Pins) (k : Kinds) (gaps budget : ℕ) (lemmas : List TrackLemma) → lemmas ≡ [] → AreTried rule value pins k gaps 0 budget budget lemmas
none_tried rule value pins k gaps budget lemmas none = record { lists = []; limits = refl; kept = tt; used = omega arith; last = sym none }

pub one_tried : (rule : LineRule) (value : Row → State → Kinds → ℕ) (pins : Pins) (k : Kinds) (gaps limit before after budget : ℕ) (old lemmas : List TrackLemma) → AreTried rule value pins k gaps limit before budget old → AreKeptBy rule value pins limit k gaps lemmas → after + length lemmas ≡ before → AreTried rule value pins k gaps (limit + 1) after budget lemmas
one_tried rule value pins k gaps limit before after budget old lemmas h kept left = record {
  lists = lemmas ∷ h.lists;
  limits = omega (arith, h.limits);
  kept = (subst (λ n. AreKeptBy rule value pins n k gaps lemmas) (sym h.limits) kept, h.kept);
  used = omega (arith, left, h.used, sum_by-cons (λ (ls : List TrackLemma). length ls) lemmas h.lists);
  last = refl;
}

pub tried_spent : (rule : LineRule) (value : Row → State → Kinds → ℕ) (pins : Pins) (k : Kinds) (gaps limit left budget : ℕ) (lemmas : List TrackLemma) → AreTried rule value pins k gaps limit left budget lemmas → IsSpentBelowBy rule value pins limit k gaps left → IsSpentBy rule value pins k gaps limit budget
tried_spent rule value pins k gaps limit left budget lemmas h spent = record {
  lists = spent.lemmas ∷ h.lists;
  limits = omega (arith, h.limits);
  kept = (subst (λ n. AreKeptBy rule value pins n k gaps spent.lemmas) (sym h.limits) spent.kept, h.kept);
  more = omega (arith, spent.more, h.used, sum_by-cons (λ (ls : List TrackLemma). length ls) spent.lemmas h.lists);
}

pub tried_kept : (rule : LineRule) (value : Row → State → Kinds → ℕ) (pins : Pins) (k : Kinds) (gaps limit left budget : ℕ) (lemmas : List TrackLemma) → AreTried rule value pins k gaps limit left budget lemmas → IsKeptWithinBy rule value pins k gaps limit budget lemmas
tried_kept rule value pins k gaps limit left budget lemmas h = record {
  lists = h.lists;
  limits = h.limits;
  kept = h.kept;
  few = omega (arith, h.used);
  last = h.last;
}

-- tracks below a limit are below the most
pub within_most : (k : Kinds) (limit most gaps : ℕ) (lemmas : List TrackLemma) → limit ≤ most → All (IsWithin k limit gaps) lemmas → All (IsWithin k most gaps) lemmas
within_most k limit most gaps lemmas le all = all_imply (IsWithin k limit gaps) (IsWithin k most gaps) lemmas (λ lemma w. record {
  state = w.state;
  gaps = w.gaps;
  tracks = all_imply (IsTrackBelow k.nets limit) (IsTrackBelow k.nets most) lemma.tracks (λ t low. record { net = low.net; track = omega (arith, low.track, le) }) w.tracks;
  order = w.order;
}) all
