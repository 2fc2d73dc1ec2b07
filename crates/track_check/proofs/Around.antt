-- Nets before and after a state, by what it touches.
use Rattle.std.proofs.Common.{ℕ, zero, suc, ◌≡◌, ◌≢◌, ◌+◌, ◌<◌, ◌≤◌, ◌&&◌, ◌↔◌, Bool, true, false, not, ltb, List, replicate, get_or, length, slice_set, inl, inr, refl, sym, ap, subst, arith, ◌∙◌}
use Rattle.std.specs.Prelude.{IsTrue}
use Rattle.std.proofs.lemmas.Bool.{cases_eq, cases_lt, le-ltb, lt-ltb}
use Rattle.std.proofs.lemmas.List.{get_or-set_other, get_or-set_same, get_or_past}
use Rattle.cell_num.specs.declared.net.NetNo.{NetNo}
use Rattle.cell_num.specs.declared.net.Pins.{Pins}
use Rattle.row_trails.specs.Counts.{entry, flag}
use Rattle.row_state.specs.declared.kind.Kinds.{Kinds}
use Rattle.row_state.specs.declared.state.State.{State}
use Rattle.row_state.specs.Start.{start_of}
use Rattle.cell_num.specs.Pins.{is_rail}
use Rattle.track_ways.proofs.LineParts.{same_tests}
use Rattle.track_ways.specs.Paths.{EndsFit}
use Rattle.track_ways.specs.States.{is_behind, is_open_at, is_still_ahead, touched_here, touched_left}
use Rattle.track_ways.specs.Tables.{marked}
use Rattle.track_ways.specs.Ways.{net_of}
use Rattle.track_check.specs.declared.nets.StateNets.{StateNets}
use Rattle.track_check.specs.Touches.{AreNetsOf, AreTouches}

pub zero_at : (n u : ℕ) → ◌≡◌ {A = ℕ} (get_or (replicate n 0) u 0) 0
zero_at zero u = refl
zero_at (suc n) zero = refl
zero_at (suc n) (suc u) = zero_at n u

-- the start state has no open end
pub all_touched : (k : Kinds) (all : List ℕ) (net : NetNo) → AreTouches k (start_of k) all → entry all net.0 ≡ touched_left k (start_of k) net
all_touched k all net touched = omega (arith, touched net)

pub ahead_is : (k : Kinds) (s : State) (here zeros : List ℕ) (table : List Bool) → AreTouches k s here → ((u : ℕ) → ◌≡◌ {A = ℕ} (entry zeros u) 0) → ((u : ℕ) → flag table u ≡ ltb (entry zeros u) (entry here u)) → marked table ≡ is_still_ahead k s
ahead_is k s here zeros table touched none each =
    same_tests (marked table) (is_still_ahead k s) (λ net. each net.0 ∙ ap (λ n. ltb n (entry here net.0)) (none net.0) ∙ ap (ltb 0) (touched net))

pub before_is : (k : Kinds) (s : State) (all here : List ℕ) (table : List Bool) → AreTouches k (start_of k) all → AreTouches k s here → ((u : ℕ) → flag table u ≡ ltb (entry here u) (entry all u)) → marked table ≡ is_behind k s
before_is k s all here table first touched each =
    same_tests (marked table) (is_behind k s) (λ net. each net.0 ∙ ap (λ n. ltb n (entry all net.0)) (touched net) ∙ ap (ltb (touched_left k s net + touched_here s net)) (all_touched k all net first))

pub nets_are : (k : Kinds) (s : State) (all here : List ℕ) (nets : StateNets) → AreTouches k (start_of k) all → AreTouches k s here → ((u : ℕ) → flag nets.before u ≡ ltb (entry here u) (entry all u)) → marked nets.ahead ≡ is_still_ahead k s → AreNetsOf k s nets
nets_are k s all here nets first touched each ahead = record { before = before_is k s all here nets.before first touched each; ahead = ahead }

pub ends_decide : (k : Kinds) (s : State) (all here : List ℕ) (fit : Bool) → AreTouches k (start_of k) all → AreTouches k s here → IsTrue fit ↔ ((u : ℕ) → entry here u ≤ entry all u) → IsTrue fit ↔ EndsFit k s
ends_decide k s all here fit first touched decides = (
  λ is net. omega (arith, decides.0 is net.0, touched net, all_touched k all net first),
  λ ends. decides.1 (λ u. omega (arith, ends (net_of u), touched (net_of u), all_touched k all (net_of u) first)),
)

pub open_is : (pins : Pins) (k : Kinds) (s : State) (nets : StateNets) (net : NetNo) → AreNetsOf k s nets → (not (is_rail pins net) && (marked nets.before net && marked nets.ahead net)) ≡ is_open_at pins k s net
open_is pins k s nets net are =
    ap (λ (b : NetNo → Bool). not (is_rail pins net) && (b net && marked nets.ahead net)) are.before
    ∙ ap (λ (a : NetNo → Bool). not (is_rail pins net) && (is_behind k s net && a net)) are.ahead

lower_same : (u at : ℕ) → u ≢ at → ltb u (at + 1) ≡ ltb u at
lower_same u at ne = elim (cases_lt u at) [
  | inl less ↦ lt-ltb u (at + 1) (omega (arith, less)) ∙ sym (lt-ltb u at less)
  | inr more ↦ le-ltb u (at + 1) (over u at ne more) ∙ sym (le-ltb u at more)
]
  where
    over : (u at : ℕ) → u ≢ at → at ≤ u → at + 1 ≤ u
    over u at ne more = elim (cases_eq u at) [ inl e ↦ absurd (ne e) | inr other ↦ omega (arith, other, more) ]

-- one place more of a comparison of tables
pub less_more : (less : List Bool) (low high : List ℕ) (at u : ℕ) → at < length less → ((v : ℕ) → flag less v ≡ (ltb v at && ltb (entry low v) (entry high v))) → flag (slice_set less at (ltb (entry low at) (entry high at))) u ≡ (ltb u (at + 1) && ltb (entry low u) (entry high u))
less_more less low high at u within before = elim (cases_eq u at) [
  | inl e ↦
      let here : get_or (slice_set less at (ltb (entry low at) (entry high at))) at false ≡ ltb (entry low at) (entry high at) = get_or-set_same less at (ltb (entry low at) (entry high at)) false within in
      let low_at : ltb at (at + 1) ≡ true = lt-ltb at (at + 1) (omega arith) in
      rw (e, low_at) here
  | inr ne ↦
      let there : get_or (slice_set less at (ltb (entry low at) (entry high at))) u false ≡ get_or less u false = get_or-set_other less at u (ltb (entry low at) (entry high at)) false ne in
      there ∙ before u ∙ ap (λ b. b && ltb (entry low u) (entry high u)) (sym (lower_same u at ne))
]

pub less_end : (less : List Bool) (low high : List ℕ) (at u : ℕ) → length low ≤ at → length high ≤ at → flag less u ≡ (ltb u at && ltb (entry low u) (entry high u)) → flag less u ≡ ltb (entry low u) (entry high u)
less_end less low high at u low_short high_short each = elim (cases_lt u at) [
  | inl less_at ↦ each ∙ ap (λ b. b && ltb (entry low u) (entry high u)) (lt-ltb u at less_at)
  | inr past ↦
      let none_low : get_or low u 0 ≡ 0 = get_or_past low u 0 (omega (arith, low_short, past)) in
      let none_high : get_or high u 0 ≡ 0 = get_or_past high u 0 (omega (arith, high_short, past)) in
      each ∙ ap (λ b. b && ltb (entry low u) (entry high u)) (le-ltb u at past) ∙ sym (ap (λ n. ltb n (entry high u)) none_low ∙ ap (ltb 0) none_high)
]

none_flagged : (n u : ℕ) → flag (replicate n false) u ≡ false
none_flagged zero u = refl
none_flagged (suc n) zero = refl
none_flagged (suc n) (suc u) = none_flagged n u

-- nothing is compared yet
pub less_start : (low high : List ℕ) (u : ℕ) → flag (replicate 256 false) u ≡ (ltb u 0 && ltb (entry low u) (entry high u))
less_start low high u = none_flagged 256 u ∙ sym (ap (λ b. b && ltb (entry low u) (entry high u)) (le-ltb u 0 (omega arith)))

pub most_more : (low high : List ℕ) (at u : ℕ) → ((v : ℕ) → v < at → entry low v ≤ entry high v) → entry low at ≤ entry high at → u < at + 1 → entry low u ≤ entry high u
most_more low high at u before here below = elim (cases_eq u at) [
  | inl e ↦ subst (λ v. entry low v ≤ entry high v) (sym e) here
  | inr ne ↦ before u (omega (arith, ne, below))
]

pub most_end : (low high : List ℕ) (at u : ℕ) → length low ≤ at → ((v : ℕ) → v < at → entry low v ≤ entry high v) → entry low u ≤ entry high u
most_end low high at u short before = elim (cases_lt u at) [
  | inl below ↦ before u below
  | inr past ↦ let none : get_or low u 0 ≡ 0 = get_or_past low u 0 (omega (arith, short, past)) in omega (arith, none)
]
