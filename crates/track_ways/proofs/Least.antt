-- The fewest tracks of a legal routing are the fewest on which tracks fit every line.
use Rattle.std.proofs.Common.{ℕ, zero, suc, ◌≡◌, ◌≢◌, ◌-◌, ◌<◌, ◌≤◌, ◌==◌, ◌&&◌, not, ltb, Bool, true, false, cond, List, [], ◌∷◌, inl, inr, refl, ap, subst, arith, AllPairs, Any, Contains, ◌∙◌}
use Rattle.std.specs.List.{list_any}
use Rattle.std.proofs.lemmas.Bool.{cases_Bool, cases_lt, eq-eqb, ne_eqb, lt-ltb, le-ltb, eqb-true}
use Rattle.std.proofs.lemmas.List.Elements.{All-contains}
use Rattle.cell_num.specs.declared.net.NetNo.{NetNo}
use Rattle.cell_num.specs.declared.net.Pins.{Pins}
use Rattle.cell_num.proofs.Lists.{all_from_contains, contains_cons, contains_none}
use Rattle.cell_num.proofs.Pairs.{Some', any_at, test_finds, test_fails, pairs_head, pairs_tail}
use Rattle.row_place.specs.declared.placement.Placement.{Placement}
use Rattle.channel_route.specs.declared.routing.Trunk.{Trunk}
use Rattle.channel_route.specs.declared.routing.Routing.{Routing}
use Rattle.channel_route.specs.Routing.{IsLegal}
use Rattle.track_ways.specs.declared.line.Line.{Line}
use Rattle.track_ways.specs.Lines.{is_ahead, is_open, is_held, LineFits, Fits, Sweeps}
use Rattle.cell_num.specs.Pins.{is_rail}
use Rattle.track_ways.specs.Channel.{AreLinesOf, AreTrunks, AreLegalWithin, track_in}
use Rattle.track_ways.proofs.Tracks.{sweep}
use Rattle.track_ways.proofs.Holding.{holding}
use Rattle.track_ways.proofs.Legal.{TrunkAt, trunk_at, fits_each, fits, fits_at, legal_within}

track_in_is : (trunks : List Trunk) → AllPairs (λ a b. a.net.0 < b.net.0) trunks → (t : Trunk) → Contains trunks t → t.track ≡ track_in trunks t.net
track_in_is [] order t there = absurd (contains_none t there)
track_in_is (x ∷ xs) order t there =
    elim (contains_cons x xs t there) [
      | inl same ↦ subst (λ z. z.track ≡ track_in (x ∷ xs) z.net) same (first (eq-eqb x.net.0 x.net.0 refl))
      | inr rest ↦ later (ne_eqb x.net.0 t.net.0 (λ e. omega (arith, e, All-contains (λ (b : Trunk). x.net.0 < b.net.0) xs t (pairs_head (λ a b. a.net.0 < b.net.0) x xs order) rest))) (track_in_is xs (pairs_tail (λ a b. a.net.0 < b.net.0) x xs order) t rest)
    ]
  where
    first : (x.net.0 == x.net.0) ≡ true → x.track ≡ track_in (x ∷ xs) x.net
    first e = rw e refl

    later : (x.net.0 == t.net.0) ≡ false → t.track ≡ track_in xs t.net → t.track ≡ track_in (x ∷ xs) t.net
    later e same = rw e same

-- a legal routing is trunks with tracks, legal within its tracks
pub trunks_of_legal : (p : Placement) (pins : Pins) (r : Routing) → IsLegal p pins r → AreTrunks p pins (track_in r.trunks) r.trunks
trunks_of_legal p pins r l = record { nets = l.nets; order = l.order; spans = l.spans; tracks = all_from_contains (λ (t : Trunk). t.track ≡ track_in r.trunks t.net) r.trunks (λ t there. track_in_is r.trunks l.order t there) }

pub within_of_legal : (p : Placement) (pins : Pins) (r : Routing) → IsLegal p pins r → AreLegalWithin p pins r.tracks r.trunks
within_of_legal p pins r l = record { low = l.tracks; apart = l.apart; above = l.above }

pub routing_sweep : (p : Placement) (pins : Pins) (lines : List Line) → AreLinesOf p lines → (r : Routing) → IsLegal p pins r → (track : NetNo → ℕ) → Sweeps pins r.tracks (is_ahead []) track lines
routing_sweep p pins lines h r l track = sweep pins r.tracks (is_ahead []) track (track_in r.trunks) lines (λ net o. absurd (none net o)) (fits p pins lines h (track_in r.trunks) r.trunks r.tracks (trunks_of_legal p pins r l) (within_of_legal p pins r l))
  where
    none : (net : NetNo) → is_open pins (is_ahead []) (is_ahead lines) net ≡ true → ⊥
    none net o = never (not (is_rail pins net)) o
      where
        never : (b : Bool) → (b && false) ≡ true → ⊥
        never true o = cc
        never false o = cc

-- an empty track left out
abbrev pub lowered : ℕ → (NetNo → ℕ) → NetNo → ℕ
lowered j track net = cond (ltb j (track net)) (track net - 1) (track net)

lowered_high : (j m : ℕ) → j < m → cond (ltb j m) (m - 1) m ≡ m - 1
lowered_high j m e = rw (lt-ltb j m e) refl

lowered_low : (j m : ℕ) → m ≤ j → cond (ltb j m) (m - 1) m ≡ m
lowered_low j m e = rw (le-ltb j m e) refl

strictly : (m j : ℕ) → m ≤ j → m ≢ j → m < j
strictly m j le ne = elim (cases_lt m j) [ inl l ↦ l | inr g ↦ absurd (ne (omega (arith, le, g))) ]

low_line : (pins : Pins) (limit j : ℕ) (track : NetNo → ℕ) (before : NetNo → Bool) (line : Line) (rest : List Line) → j < suc limit → ((net : NetNo) → is_held pins before line (is_ahead rest) net ≡ true → track net ≢ j) → LineFits pins (suc limit) track before line (is_ahead rest) → LineFits pins limit (lowered j track) before line (is_ahead rest)
low_line pins limit j track before line rest within empty f = record {
  low = λ net h. below (track net) (f.low net h) (empty net h);
  apart = λ a b ha hb e. f.apart a b ha hb (one (track a) (track b) (empty a ha) (empty b hb) e);
  above = λ upper lower p n differ hu hl. keeps (track lower) (track upper) (empty lower hl) (empty upper hu) (f.above upper lower p n differ hu hl);
}
  where
    below : (m : ℕ) → m < suc limit → m ≢ j → cond (ltb j m) (m - 1) m < limit
    below m l other = elim (cases_lt j m) [ inl more ↦ omega (arith, lowered_high j m more, l, more) | inr less ↦ omega (arith, lowered_low j m less, strictly m j less other, within) ]

    one : (m n : ℕ) → m ≢ j → n ≢ j → cond (ltb j m) (m - 1) m ≡ cond (ltb j n) (n - 1) n → m ≡ n
    one m n mj nj e =
        elim (cases_lt j m) [
          | inl a ↦ elim (cases_lt j n) [
            | inl b ↦ omega (arith, lowered_high j m a, lowered_high j n b, e, a, b)
            | inr b ↦ absurd (nj (omega (arith, lowered_high j m a, lowered_low j n b, e, a, b)))
          ]
          | inr a ↦ elim (cases_lt j n) [
            | inl b ↦ absurd (mj (omega (arith, lowered_low j m a, lowered_high j n b, e, a, b)))
            | inr b ↦ omega (arith, lowered_low j m a, lowered_low j n b, e)
          ]
        ]

    keeps : (m n : ℕ) → m ≢ j → n ≢ j → m < n → cond (ltb j m) (m - 1) m < cond (ltb j n) (n - 1) n
    keeps m n mj nj e =
        elim (cases_lt j m) [
          | inl a ↦ elim (cases_lt j n) [
            | inl b ↦ omega (arith, lowered_high j m a, lowered_high j n b, e, a, b)
            | inr b ↦ absurd (omega (arith, a, b, e))
          ]
          | inr a ↦ elim (cases_lt j n) [
            | inl b ↦ omega (arith, lowered_low j m a, lowered_high j n b, strictly m j a mj, b)
            | inr b ↦ omega (arith, lowered_low j m a, lowered_low j n b, e)
          ]
        ]

-- where no trunk is on a track, one track fewer does
pub one_fewer : (p : Placement) (pins : Pins) (lines : List Line) → AreLinesOf p lines → (track : NetNo → ℕ) (trunks : List Trunk) (limit j : ℕ) → AreTrunks p pins track trunks → j < suc limit → ((t : Trunk) → Contains trunks t → t.track ≢ j) → Fits pins (suc limit) track (is_ahead []) lines → Fits pins limit (lowered j track) (is_ahead []) lines
one_fewer p pins lines h track trunks limit j a within empty f =
    fits_each pins lines (lowered j track) limit
    (λ k front line rest s plain. low_line pins limit j track (is_ahead front) line rest within (λ net held. off net (trunk_at p pins track trunks a net k ((holding p pins lines h k front line rest s plain net).0 held))) (fits_at pins (suc limit) track (is_ahead []) front line rest (subst (λ ls. Fits pins (suc limit) track (is_ahead []) ls) s.is f)))
    (λ i d l. h.plain i d l)
  where
    off : {k : ℕ} (net : NetNo) → TrunkAt p pins trunks net k → track net ≢ j
    off net t e = empty t.trunk t.there (All-contains (λ (t : Trunk). t.track ≡ track t.net) trunks t.trunk a.tracks t.there ∙ ap track t.is ∙ e)

-- no tracks fit every line on fewer
abbrev pub NoneFewer : Pins → List Line → ℕ → Type 0
NoneFewer pins lines limit = (fewer : ℕ) (track : NetNo → ℕ) → fewer < limit → Fits pins fewer track (is_ahead []) lines → ⊥

abbrev routing_with : ℕ → List Trunk → Routing
routing_with tracks trunks = record { tracks = tracks; trunks = trunks }

pub full : (p : Placement) (pins : Pins) (lines : List Line) → AreLinesOf p lines → (track : NetNo → ℕ) (trunks : List Trunk) (limit j : ℕ) → AreTrunks p pins track trunks → Fits pins limit track (is_ahead []) lines → NoneFewer pins lines limit → j < limit → Any (λ (t : Trunk). t.track ≡ j) trunks
full p pins lines h track trunks zero j a f none less = absurd (omega (arith, less))
full p pins lines h track trunks (suc limit) j a f none less =
    elim (cases_Bool (list_any (λ (t : Trunk). t.track == j) trunks)) [
      | inl found ↦ let s : Some' (λ (t : Trunk). (t.track == j) ≡ true) trunks = test_finds (λ (t : Trunk). t.track == j) trunks found in any_at (λ (t : Trunk). t.track ≡ j) trunks s.it s.there (eqb-true s.it.track j s.holds)
      | inr missing ↦ absurd (none limit (lowered j track) (omega arith) (one_fewer p pins lines h track trunks limit j a less (λ t there e. off t (test_fails (λ (t : Trunk). t.track == j) trunks t missing there) e) f))
    ]
  where
    off : (t : Trunk) → (t.track == j) ≡ false → t.track ≡ j → ⊥
    off t e same = let yes' : (t.track == j) ≡ true = eq-eqb t.track j same in cc

-- the trunks are a legal routing, and no legal routing has fewer tracks
pub least : (p : Placement) (pins : Pins) (lines : List Line) → AreLinesOf p lines → (track : NetNo → ℕ) (trunks : List Trunk) (limit : ℕ) → AreTrunks p pins track trunks → Fits pins limit track (is_ahead []) lines → NoneFewer pins lines limit → IsLegal p pins (routing_with limit trunks)
least p pins lines h track trunks limit a f none =
    let w : AreLegalWithin p pins limit trunks = legal_within p pins lines h track trunks limit a f in
    record { nets = a.nets; order = a.order; spans = a.spans; apart = w.apart; above = w.above; tracks = w.low; full = λ j less. full p pins lines h track trunks limit j a f none less }

pub none_less : (p : Placement) (pins : Pins) (lines : List Line) → AreLinesOf p lines → (limit : ℕ) → NoneFewer pins lines limit → (r : Routing) → IsLegal p pins r → limit ≤ r.tracks
none_less p pins lines h limit none r l =
    elim (cases_lt r.tracks limit) [
      | inl fewer ↦ absurd (none r.tracks (track_in r.trunks) fewer (fits p pins lines h (track_in r.trunks) r.trunks r.tracks (trunks_of_legal p pins r l) (within_of_legal p pins r l)))
      | inr enough ↦ enough
    ]
