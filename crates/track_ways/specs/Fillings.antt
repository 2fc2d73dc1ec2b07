-- Ways to give nets tracks, as lists: what is in them.
use Rattle.std.proofs.Common.{ℕ, zero, suc, ◌≡◌, ◌≢◌, ◌+◌, ◌<◌, ◌≤◌, ◌⊎◌, ◌&&◌, ◌||◌, ◌==◌, ltb, not, Bool, true, false}
use Rattle.std.proofs.Common.{cond, List, [], ◌∷◌, Option, Some, None, inl, inr, refl, sym, ap, subst, arith, All}
use Rattle.std.proofs.Common.{Contains, filter}
use Rattle.std.specs.List.{list_all, range_with_len}
use Rattle.std.proofs.lemmas.Bool.{and_parts, and_from, cases_eq, eq-eqb, eqb-true}
use Rattle.std.proofs.lemmas.List.Elements.{All-cons, All-head, All-tail}
use Rattle.cell_num.specs.declared.net.NetNo.{NetNo}
use Rattle.cell_num.specs.declared.net.Pins.{Pins}
use Rattle.cell_num.specs.Pins.{is_rail}
use Rattle.cell_num.proofs.In.{contains_flat, in_flat, Piece}
use Rattle.cell_num.proofs.Lists.{contains_cons, contains_here, contains_none, contains_one, contains_there}
use Rattle.cell_num.proofs.Pairs.{Some', test_finds, test_there}
use Rattle.row_model.proofs.Decide.{net_decides}
use Rattle.track_ways.specs.declared.line.Line.{Line}
use Rattle.track_ways.specs.declared.track.NetTrack.{NetTrack}
use Rattle.track_ways.specs.Lines.{has_place, is_held, is_net, is_open, is_twice, with_line}
use Rattle.track_ways.specs.Tracks.{IsSingle, Listed}
use Rattle.track_ways.specs.Ways.{fills, is_listed, missing, on_track}
use Rattle.track_ways.specs.Rules.{Among}

-- what is left by a filter
pub kept : {X : Type 0} (p : X → Bool) (xs : List X) (x : X) → Contains (filter p xs) x → Contains xs x × (p x ≡ true)
kept p [] x h = absurd (contains_none x h)
kept {X} p (y ∷ ys) x h = step (p y) refl h (kept p ys x)
  where
    step : (b : Bool) → p y ≡ b → Contains (cond b (y ∷ filter p ys) (filter p ys)) x →
        (Contains (filter p ys) x → Contains ys x × (p x ≡ true)) → Contains (y ∷ ys) x × (p x ≡ true)
    step true e c more = elim (contains_cons y (filter p ys) x c) [
      | inl same ↦ (subst (λ z. Contains (y ∷ ys) z) same (contains_here y ys), subst (λ z. p z ≡ true) same e)
      | inr rest ↦ let m = more rest in (contains_there y ys x m.0, m.1)
    ]
    step false e c more = let m = more c in (contains_there y ys x m.0, m.1)

pub is_net_some : (o : Option NetNo) (net : NetNo) → o ≡ Some net → is_net o net ≡ true
is_net_some o net e = subst (λ q. is_net q net ≡ true) (sym e) ((net_decides net net).1 refl)

pub some_is_net : (o : Option NetNo) (net : NetNo) → is_net o net ≡ true → o ≡ Some net
some_is_net None net e = absurd cc
some_is_net (Some x) net e = ap (λ n. Some n) ((net_decides x net).0 e)

between : (from n k : ℕ) → from ≤ k → k < from + n → Contains (range_with_len from n) k
between from zero k low high = absurd (omega (arith, low, high))
between from (suc n) k low high = elim (cases_eq from k) [
  | inl is ↦ subst (λ z. Contains (from ∷ range_with_len (from + 1) n) z) is
      (contains_here from (range_with_len (from + 1) n))
  | inr other ↦ contains_there from (range_with_len (from + 1) n) k
      (between (from + 1) n k (omega (arith, low, other)) (omega (arith, high)))
]

pub in_range : (n k : ℕ) → k < n → Contains (range_with_len 0 n) k
in_range n k low = between 0 n k (omega arith) (omega (arith, low))

-- what passes a filter
pub keeps : {X : Type 0} (p : X → Bool) (xs : List X) (x : X) → Contains xs x → p x ≡ true → Contains (filter p xs) x
keeps p [] x there e = absurd (contains_none x there)
keeps {X} p (y ∷ ys) x there e = step (p y) refl (contains_cons y ys x there) (λ later. keeps p ys x later e)
  where
    step : (b : Bool) → p y ≡ b → (y ≡ x) ⊎ Contains ys x → (Contains ys x → Contains (filter p ys) x) →
        Contains (cond b (y ∷ filter p ys) (filter p ys)) x
    step true is (inl same) more = subst (λ z. Contains (y ∷ filter p ys) z) same (contains_here y (filter p ys))
    step true is (inr later) more = contains_there y (filter p ys) x (more later)
    step false is (inl same) more = absurd (let no' : p x ≡ false = subst (λ z. p z ≡ false) same is in cc)
    step false is (inr later) more = more later

pub all_pass : {X : Type 0} (p : X → Bool) (xs : List X) → ((x : X) → Contains xs x → p x ≡ true) → list_all p xs ≡ true
all_pass p [] h = refl
all_pass p (x ∷ xs) h = and_from (p x) (list_all p xs) (h x (contains_here x xs))
    (all_pass p xs (λ y there. h y (contains_there x xs y there)))

pub pass_at : {X : Type 0} (p : X → Bool) (xs : List X) (x : X) → list_all p xs ≡ true → Contains xs x → p x ≡ true
pass_at p [] x h there = absurd (contains_none x there)
pass_at p (y ∷ ys) x h there = elim (contains_cons y ys x there) [
  | inl same ↦ subst (λ z. p z ≡ true) same (and_parts (p y) (list_all p ys) h).0
  | inr later ↦ pass_at p ys x (and_parts (p y) (list_all p ys) h).1 later
]

pub net_made : ℕ → NetNo
net_made n = record { 0 = n }

pub eqb_false : (a b : ℕ) → a ≢ b → (a == b) ≡ false
eqb_false a b ne = go (a == b) refl
  where
    go : (c : Bool) → (a == b) ≡ c → c ≡ false
    go true e = absurd (ne (eqb-true a b e))
    go false e = refl

pub net_same : (a b : NetNo) → a.0 ≡ b.0 → a ≡ b
unfolding net_made
net_same a b e = ap net_made e

-- the nets with the tracks that they have
abbrev fill_by : (NetNo → ℕ) → List NetNo → List NetTrack → List NetTrack
fill_by next [] tracks = tracks
fill_by next (net ∷ nets) tracks = fill_by next nets (on_track net (next net) ∷ tracks)

pub fill_there : (limit : ℕ) (next : NetNo → ℕ) (nets : List NetNo) (tracks : List NetTrack) →
    All (λ net. next net < limit) nets → Contains (fills limit nets tracks) (fill_by next nets tracks)
fill_there limit next [] tracks low = contains_here tracks []
fill_there limit next (net ∷ nets) tracks low =
    contains_flat (λ j. fills limit nets (on_track net j ∷ tracks)) (range_with_len 0 limit) (next net)
    (fill_by next nets (on_track net (next net) ∷ tracks))
    (in_range limit (next net) (All-head (λ net. next net < limit) net nets low))
    (fill_there limit next nets (on_track net (next net) ∷ tracks)
    (All-tail (λ net. next net < limit) net nets low))

pub fill_all : (Q : NetTrack → Type 0) (next : NetNo → ℕ) (nets : List NetNo) (tracks : List NetTrack) →
    All (λ net. Q (on_track net (next net))) nets → All Q tracks → All Q (fill_by next nets tracks)
fill_all Q next [] tracks new all = all
fill_all Q next (net ∷ nets) tracks new all = fill_all Q next nets (on_track net (next net) ∷ tracks)
    (All-tail (λ net. Q (on_track net (next net))) net nets new)
    (All-cons Q (on_track net (next net)) tracks (All-head (λ net. Q (on_track net (next net))) net nets new) all)

-- each net has a track below the limit, so there is a way to give these
pub filled : (Q : NetTrack → Type 0) (limit : ℕ) (next : NetNo → ℕ) (nets : List NetNo) (tracks : List NetTrack) →
    All (λ net. next net < limit) nets → All (λ net. Q (on_track net (next net))) nets → All Q tracks →
    Some' (All Q) (fills limit nets tracks)
filled Q limit next nets tracks low new all = record {
  it = _;
  there = fill_there limit next nets tracks low;
  holds = fill_all Q next nets tracks new all;
}

-- the track of a net in a list
abbrev pub look : List NetTrack → NetNo → ℕ
look [] net = 0
look (t ∷ tracks) net = cond (t.net.0 == net.0) t.track (look tracks net)

pub look_is : (tracks : List NetTrack) (t : NetTrack) → IsSingle tracks → Contains tracks t →
    look tracks t.net ≡ t.track
look_is [] t one there = absurd (contains_none t there)
look_is (x ∷ xs) t one there = go (x.net.0 == t.net.0) refl (contains_cons x xs t there)
    (λ later. look_is xs t (λ a b ca cb s. one a b (contains_there x xs a ca) (contains_there x xs b cb) s) later)
  where
    go : (b : Bool) → (x.net.0 == t.net.0) ≡ b → (x ≡ t) ⊎ Contains xs t → (Contains xs t → look xs t.net ≡ t.track) →
        cond b x.track (look xs t.net) ≡ t.track
    go true e at more = one x t (contains_here x xs) there (eqb-true x.net.0 t.net.0 e)
    go false e (inl same) more = absurd (let yes' : (x.net.0 == t.net.0) ≡ true = eq-eqb x.net.0 t.net.0
        (ap (λ (z : NetTrack). z.net.0) same) in cc)
    go false e (inr later) more = more later

pub listed : (tracks : List NetTrack) (net : NetNo) → is_listed tracks net ≡ true → Listed tracks net
listed tracks net e = let f : Some' (λ (t : NetTrack). (t.net.0 == net.0) ≡ true) tracks = test_finds
    (λ (t : NetTrack). t.net.0 == net.0) tracks e in record {
      it = f.it;
      there = f.there;
      is = net_same f.it.net net (eqb-true f.it.net.0 net.0 f.holds);
    }

pub is_there : (tracks : List NetTrack) (t : NetTrack) → Contains tracks t → is_listed tracks t.net ≡ true
is_there tracks t there = test_there (λ (u : NetTrack). u.net.0 == t.net.0) tracks t there (eq-eqb t.net.0 t.net.0 refl)

-- what was listed stays, and each net is filled in
pub fills_keep : (limit : ℕ) (nets : List NetNo) (tracks way : List NetTrack) (t : NetTrack) →
    Contains (fills limit nets tracks) way → Contains tracks t → Contains way t
fills_keep limit [] tracks way t there at = subst (λ w. Contains w t) (contains_one tracks way there) at
fills_keep limit (net ∷ nets) tracks way t there at =
    let p : Piece (λ j. fills limit nets (on_track net j ∷ tracks)) (range_with_len 0 limit) way = in_flat
    (λ j. fills limit nets (on_track net j ∷ tracks)) (range_with_len 0 limit) way there in
    fills_keep limit nets (on_track net p.of ∷ tracks) way t p.inside (contains_there (on_track net p.of) tracks t at)

pub fills_new : (limit : ℕ) (nets : List NetNo) (tracks way : List NetTrack) (net : NetNo) →
    Contains (fills limit nets tracks) way → Contains nets net → Listed way net
fills_new limit [] tracks way net there at = absurd (contains_none net at)
fills_new limit (x ∷ nets) tracks way net there at = go (in_flat (λ j. fills limit nets (on_track x j ∷ tracks))
    (range_with_len 0 limit) way there) (contains_cons x nets net at)
    (λ j inside later. fills_new limit nets (on_track x j ∷ tracks) way net inside later)
  where
    go : Piece (λ j. fills limit nets (on_track x j ∷ tracks)) (range_with_len 0 limit) way →
        (x ≡ net) ⊎ Contains nets net → ((j : ℕ) → Contains (fills limit nets (on_track x j ∷ tracks)) way →
        Contains nets net → Listed way net) → Listed way net
    go p (inl same) more = record {
      it = on_track x p.of;
      there = fills_keep limit nets (on_track x p.of ∷ tracks) way
          (on_track x p.of) p.inside (contains_here (on_track x p.of) tracks);
      is = same;
    }
    go p (inr later) more = more p.of p.inside later

-- a net that holds a line has a place before it or there
pub held_place : (pins : Pins) (before : NetNo → Bool) (line : Line) (behind : NetNo → Bool) (net : NetNo) →
    is_held pins before line behind net ≡ true → (before net || has_place line net) ≡ true
held_place pins before line behind net h = go (not (is_rail pins net)) (before net) (has_place line net) (behind net)
    (before net || (behind net || (is_twice line net || ltb net.0 pins.pins))) h
  where
    go : (r b p h q : Bool) → (r && ((b && h) || (p && q))) ≡ true → (b || p) ≡ true
    go r b p h q e = grind (arith, e)

-- each net is listed where those without a track are filled in
pub each_listed : (limit : ℕ) (nets : List NetNo) (tracks way : List NetTrack) (net : NetNo) →
    Contains (fills limit nets tracks) way → (is_listed tracks net ≡ false → Contains nets net) → Listed way net
each_listed limit nets tracks way net there new = go (is_listed tracks net) refl
  where
    go : (b : Bool) → is_listed tracks net ≡ b → Listed way net
    go true e = let l : Listed tracks net = listed tracks net e in
        record { it = l.it; there = fills_keep limit nets tracks way l.it there l.there; is = l.is }
    go false e = fills_new limit nets tracks way net there (new e)

-- a net that holds the line and has no track is missing
pub is_missing : (pins : Pins) (before : NetNo → Bool) (line : Line) (after : NetNo → Bool) (nets : List NetNo)
    (tracks : List NetTrack) (net : NetNo) → Among nets (with_line before line) →
    is_held pins before line after net ≡ true → is_listed tracks net ≡ false →
    Contains (missing pins before line after nets tracks) net
is_missing pins before line after nets tracks net among h e =
    keeps (λ net. is_held pins before line after net && not (is_listed tracks net)) nets net
    (among net (held_place pins before line after net h))
    (and_from (is_held pins before line after net) (not (is_listed tracks net)) h (ap not e))

-- and each that is missing holds the line
pub missing_holds : (pins : Pins) (before : NetNo → Bool) (line : Line) (after : NetNo → Bool) (nets : List NetNo)
    (tracks : List NetTrack) (net : NetNo) → Contains (missing pins before line after nets tracks) net →
    is_held pins before line after net ≡ true
missing_holds pins before line after nets tracks net there =
    (and_parts (is_held pins before line after net) (not (is_listed tracks net))
    (kept (λ net. is_held pins before line after net && not (is_listed tracks net)) nets net there).1).0

-- a net that is open before the line holds it
pub open_holds : (pins : Pins) (before : NetNo → Bool) (line : Line) (after : NetNo → Bool) (net : NetNo) →
    is_open pins before (λ net. has_place line net || after net) net ≡ true → is_held pins before line after net ≡ true
open_holds pins before line after net o = go (not (is_rail pins net)) (before net) (has_place line net) (after net)
    (after net || (is_twice line net || ltb net.0 pins.pins)) o
  where
    go : (r b p a q : Bool) → (r && (b && (p || a))) ≡ true → (r && ((b && a) || (p && (b || q)))) ≡ true
    go r b p a q e = grind (arith, e)
