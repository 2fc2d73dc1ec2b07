-- A line is held by exactly the nets with a trunk whose span holds it.
use Rattle.std.proofs.Common.{ℕ, zero, suc, ◌≡◌, ◌+◌, ◌<◌, ◌≤◌, ◌⊎◌, ◌↔◌, ◌++◌, ◌==◌, ◌&&◌, ◌||◌, ltb, Bool, true, false, not, cond, List, [], ◌∷◌, length, inl, inr, refl, sym, ap, subst, arith, Contains, ◌∙◌}
use Rattle.std.proofs.lemmas.Bool.{cases_Bool, and_parts, and_from, or_left, or_right, or_cases, or_parts, ltb-true, lt-ltb, not_from_false, not-true}
use Rattle.cell_num.specs.declared.net.NetNo.{NetNo}
use Rattle.cell_num.specs.declared.net.Pins.{Pins}
use Rattle.cell_num.specs.Pins.{IsRail, is_rail}
use Rattle.row_model.proofs.Decide.{net_decides}
use Rattle.row_place.specs.declared.placement.Placement.{Placement}
use Rattle.row_place.specs.Trunks.{lines_of, HasTrunk}
use Rattle.track_ways.specs.declared.line.Line.{Line}
use Rattle.track_ways.specs.Lines.{is_net, has_place, is_twice, is_ahead, begins_or_ends, is_held}
use Rattle.track_ways.specs.Channel.{IsPlain, AreLinesOf}
use Rattle.track_ways.proofs.Places.{at_line, line_at, at_lines}
use Rattle.track_ways.proofs.Counts.{places, all_places, count_is}

-- lines up to one, that one, and those behind it
pub record Split (lines : List Line) (k : ℕ) (front : List Line) (line : Line) (rest : List Line) : Type 0 where
  pub is : lines ≡ front ++ line ∷ rest
  pub count : length front ≡ k

at_parts : (front : List Line) (line : Line) (rest : List Line) (l : ℕ) (net : NetNo) → at_line (front ++ line ∷ rest) l (λ q. has_place q net) ≡ true
    → ((l < length front) × (is_ahead front net ≡ true)) ⊎ (((l ≡ length front) × (has_place line net ≡ true)) ⊎ ((length front < l) × (is_ahead rest net ≡ true)))
at_parts [] line rest zero net e = inr (inl (refl, e))
at_parts [] line rest (suc l) net e = inr (inr (omega arith, somewhere rest l e))
  where
    somewhere : (ls : List Line) (l : ℕ) → at_line ls l (λ q. has_place q net) ≡ true → is_ahead ls net ≡ true
    somewhere [] l e = e
    somewhere (x ∷ ls) zero e = or_left _ _ e
    somewhere (x ∷ ls) (suc l) e = or_right (has_place x net) _ (somewhere ls l e)
at_parts (f ∷ front) line rest zero net e = inl (omega arith, or_left _ _ e)
at_parts (f ∷ front) line rest (suc l) net e =
    elim (at_parts front line rest l net e) [
      | inl before ↦ inl (omega (arith, before.0), or_right (has_place f net) _ before.1)
      | inr other ↦ elim other [
        | inl here ↦ inr (inl (omega (arith, here.0), here.1))
        | inr behind ↦ inr (inr (omega (arith, behind.0), behind.1))
      ]
    ]

-- a line where a net stands
pub record Stands (lines : List Line) (net : NetNo) : Type 0 where
  pub at : ℕ
  pub there : at_line lines at (λ q. has_place q net) ≡ true
  pub within : at < length lines

pub stands : (lines : List Line) (net : NetNo) → is_ahead lines net ≡ true → Stands lines net
stands [] net e = absurd cc
stands (line ∷ lines) net e =
    elim (or_cases _ _ e) [
      | inl here ↦ record { at = 0; there = here; within = omega arith }
      | inr rest ↦ later (stands lines net rest)
    ]
  where
    later : Stands lines net → Stands (line ∷ lines) net
    later s = record { at = suc s.at; there = s.there; within = omega (arith, s.within) }

at_front : (front more : List Line) (l : ℕ) (net : NetNo) → l < length front → at_line front l (λ q. has_place q net) ≡ true → at_line (front ++ more) l (λ q. has_place q net) ≡ true
at_front [] more l net short e = absurd (omega (arith, short))
at_front (f ∷ front) more zero net short e = e
at_front (f ∷ front) more (suc l) net short e = at_front front more l net (omega (arith, short)) e

pub at_behind : (front more : List Line) (l : ℕ) (f : Line → Bool) → at_line more l f ≡ at_line (front ++ more) (length front + l) f
at_behind [] more l f = ap (λ m. at_line more m f) (let z : l ≡ 0 + l = omega arith in z)
at_behind (x ∷ front) more l f = at_behind front more l f ∙ ap (λ m. at_line (x ∷ front ++ more) m f) (let z : suc (length front + l) ≡ suc (length front) + l = omega arith in z)

-- the places of a net before a line, at it and behind it
pub record Parts (p : Placement) (k : ℕ) (front : List Line) (line : Line) (rest : List Line) (net : NetNo) : Type 0 where
  pub all : length (lines_of p net) ≡ all_places front net + places line net + all_places rest net
  pub early : is_ahead front net ≡ true → (l : ℕ) × Contains (lines_of p net) l × (l < k)
  pub here : has_place line net ≡ true → Contains (lines_of p net) k
  pub late : is_ahead rest net ≡ true → (l : ℕ) × Contains (lines_of p net) l × (k < l)
  pub each : (l : ℕ) → Contains (lines_of p net) l → ((l < k) × (is_ahead front net ≡ true)) ⊎ (((l ≡ k) × (has_place line net ≡ true)) ⊎ ((k < l) × (is_ahead rest net ≡ true)))

pub places_append : (front more : List Line) (net : NetNo) → all_places (front ++ more) net ≡ all_places front net + all_places more net
places_append [] more net = omega arith
places_append (f ∷ front) more net = omega (arith, places_append front more net)

pub parts : (p : Placement) (lines : List Line) → AreLinesOf p lines → (k : ℕ) (front : List Line) (line : Line) (rest : List Line) → Split lines k front line rest → (net : NetNo) → Parts p k front line rest net
parts p lines h k front line rest s net = record {
  all = omega (arith, count_is p lines h net, ap (λ ls. all_places ls net) s.is, places_append front (line ∷ rest) net);
  early = λ e. early (stands front net e);
  here = λ e. at_lines p lines h net k (subst (λ ls. at_line ls k (λ q. has_place q net) ≡ true) (sym s.is) (subst (λ m. at_line (front ++ line ∷ rest) m (λ q. has_place q net) ≡ true) (let z : length front + 0 ≡ k = omega (arith, s.count) in z) (sym (at_behind front (line ∷ rest) 0 (λ q. has_place q net)) ∙ e)));
  late = λ e. late (stands rest net e);
  each = λ l there. subst (λ m. ((l < m) × (is_ahead front net ≡ true)) ⊎ (((l ≡ m) × (has_place line net ≡ true)) ⊎ ((m < l) × (is_ahead rest net ≡ true)))) s.count (at_parts front line rest l net (subst (λ ls. at_line ls l (λ q. has_place q net) ≡ true) s.is (line_at p lines h net l there)));
}
  where
    early : Stands front net → (l : ℕ) × Contains (lines_of p net) l × (l < k)
    early t = (t.at, at_lines p lines h net t.at (subst (λ ls. at_line ls t.at (λ q. has_place q net) ≡ true) (sym s.is) (at_front front (line ∷ rest) t.at net t.within t.there)), omega (arith, t.within, s.count))

    late : Stands rest net → (l : ℕ) × Contains (lines_of p net) l × (k < l)
    late t = (length front + suc t.at, at_lines p lines h net (length front + suc t.at) (subst (λ ls. at_line ls (length front + suc t.at) (λ q. has_place q net) ≡ true) (sym s.is) (sym (at_behind front (line ∷ rest) (suc t.at) (λ q. has_place q net)) ∙ t.there)), omega (arith, s.count))

-- counts and tests
here_counts : (line : Line) (net : NetNo) → has_place line net ≡ true → 0 < places line net
here_counts line net h = go (is_net line.p net) (is_net line.n net) (is_net line.gate net) h
  where
    go : (a b c : Bool) → (a || (b || c)) ≡ true → 0 < cond b 1 0 + cond a 1 0 + cond c 1 0
    go true true true e = omega arith
    go true true false e = omega arith
    go true false true e = omega arith
    go true false false e = omega arith
    go false true true e = omega arith
    go false true false e = omega arith
    go false false true e = omega arith
    go false false false e = absurd cc

none_here : (line : Line) (net : NetNo) → has_place line net ≡ false → places line net ≡ 0
none_here line net h = go (is_net line.p net) (is_net line.n net) (is_net line.gate net) h
  where
    go : (a b c : Bool) → (a || (b || c)) ≡ false → cond b 1 0 + cond a 1 0 + cond c 1 0 ≡ 0
    go true b c e = absurd cc
    go false true c e = absurd cc
    go false false true e = absurd cc
    go false false false e = refl

twice_counts : (line : Line) (net : NetNo) → is_twice line net ≡ true → 2 ≤ places line net
twice_counts line net h = go (is_net line.p net) (is_net line.n net) (is_net line.gate net) h
  where
    go : (a b c : Bool) → (a && b) ≡ true → 2 ≤ cond b 1 0 + cond a 1 0 + cond c 1 0
    go true true true e = omega arith
    go true true false e = omega arith
    go true false c e = absurd cc
    go false b c e = absurd cc

counts_twice : (line : Line) (net : NetNo) → IsPlain line → 2 ≤ places line net → is_twice line net ≡ true
counts_twice line net plain h = go (is_net line.p net) (is_net line.n net) (is_net line.gate net) (plain net) h
  where
    go : (a b c : Bool) → (c ≡ true → (a ≡ false) × (b ≡ false)) → 2 ≤ cond b 1 0 + cond a 1 0 + cond c 1 0 → (a && b) ≡ true
    go true true c f e = refl
    go true false false f e = absurd (omega (arith, e))
    go false true false f e = absurd (omega (arith, e))
    go true false true f e = absurd (let w = f refl in cc)
    go false true true f e = absurd (let w = f refl in cc)
    go false false true f e = absurd (omega (arith, e))
    go false false false f e = absurd (omega (arith, e))

pub ahead_counts : (lines : List Line) (net : NetNo) → is_ahead lines net ≡ true → 0 < all_places lines net
ahead_counts [] net e = absurd cc
ahead_counts (line ∷ lines) net e = elim (or_cases _ _ e) [ inl here ↦ omega (arith, here_counts line net here) | inr rest ↦ omega (arith, ahead_counts lines net rest) ]

pub none_ahead : (lines : List Line) (net : NetNo) → is_ahead lines net ≡ false → all_places lines net ≡ 0
none_ahead [] net e = refl
none_ahead (line ∷ lines) net e = let w = or_parts _ _ e in omega (arith, none_here line net w.0, none_ahead lines net w.1)

-- the rails by their test
pub rail_decides : (pins : Pins) (net : NetNo) → (is_rail pins net ≡ true) ↔ IsRail pins net
rail_decides pins net = (there, back)
  where
    there : is_rail pins net ≡ true → IsRail pins net
    there e = elim (or_cases _ _ e) [ inl v ↦ inl ((net_decides net pins.vdd).0 v) | inr g ↦ inr ((net_decides net pins.gnd).0 g) ]

    back : IsRail pins net → is_rail pins net ≡ true
    back (inl v) = or_left _ _ ((net_decides net pins.vdd).1 v)
    back (inr g) = or_right (net.0 == pins.vdd.0) _ ((net_decides net pins.gnd).1 g)

pub signal : (pins : Pins) (net : NetNo) → not (is_rail pins net) ≡ true → IsRail pins net → ⊥
signal pins net e r = let t : is_rail pins net ≡ true = (rail_decides pins net).1 r in let f : is_rail pins net ≡ false = not-true _ e in cc

pub no_rail : (pins : Pins) (net : NetNo) → (IsRail pins net → ⊥) → not (is_rail pins net) ≡ true
no_rail pins net n = elim (cases_Bool (is_rail pins net)) [ inl t ↦ absurd (n ((rail_decides pins net).0 t)) | inr f ↦ not_from_false _ f ]

held_ways : (r b a p q : Bool) → (r && ((b && a) || (p && q))) ≡ true → (r ≡ true) × (((b ≡ true) × (a ≡ true)) ⊎ ((p ≡ true) × (q ≡ true)))
held_ways r b a p q e =
    let w : (r ≡ true) × (((b && a) || (p && q)) ≡ true) = and_parts r ((b && a) || (p && q)) e in
    (w.0, elim (or_cases (b && a) (p && q) w.1) [ inl t ↦ inl (and_parts b a t) | inr t ↦ inr (and_parts p q t) ])

-- a net that holds the line has a trunk, and places up to the line and from it on
pub record Holds (p : Placement) (pins : Pins) (net : NetNo) (k : ℕ) : Type 0 where
  pub trunk : HasTrunk p pins net
  pub first : (l : ℕ) × Contains (lines_of p net) l × (l ≤ k)
  pub last : (l : ℕ) × Contains (lines_of p net) l × (k ≤ l)

held_holds : (p : Placement) (pins : Pins) (k : ℕ) (front : List Line) (line : Line) (rest : List Line) (net : NetNo) → Parts p k front line rest net → is_held pins (is_ahead front) line (is_ahead rest) net ≡ true → Holds p pins net k
held_holds p pins k front line rest net q h = elim ways.1 [ inl through ↦ passes through.0 through.1 | inr at ↦ stops at.0 at.1 ]
  where
    ways : (not (is_rail pins net) ≡ true) × (((is_ahead front net ≡ true) × (is_ahead rest net ≡ true)) ⊎ ((has_place line net ≡ true) × ((is_ahead front net || (is_ahead rest net || (is_twice line net || ltb net.0 pins.pins))) ≡ true)))
    ways = held_ways (not (is_rail pins net)) (is_ahead front net) (is_ahead rest net) (has_place line net) (is_ahead front net || (is_ahead rest net || (is_twice line net || ltb net.0 pins.pins))) h

    passes : is_ahead front net ≡ true → is_ahead rest net ≡ true → Holds p pins net k
    passes b a =
        let e = q.early b in
        let l = q.late a in
        record { trunk = (signal pins net ways.0, inl (omega (arith, q.all, ahead_counts front net b, ahead_counts rest net a))); first = (e.0, e.1, omega (arith, e.2)); last = (l.0, l.1, omega (arith, l.2)) }

    has : has_place line net ≡ true → (is_ahead front net || (is_ahead rest net || (is_twice line net || ltb net.0 pins.pins))) ≡ true → (2 ≤ length (lines_of p net)) ⊎ (net.0 < pins.pins)
    has here more = elim (or_cases (is_ahead front net) (is_ahead rest net || (is_twice line net || ltb net.0 pins.pins)) more) [
      | inl b ↦ inl (omega (arith, q.all, here_counts line net here, ahead_counts front net b))
      | inr m ↦ elim (or_cases (is_ahead rest net) (is_twice line net || ltb net.0 pins.pins) m) [
        | inl a ↦ inl (omega (arith, q.all, here_counts line net here, ahead_counts rest net a))
        | inr n ↦ elim (or_cases (is_twice line net) (ltb net.0 pins.pins) n) [
          | inl t ↦ inl (omega (arith, q.all, twice_counts line net t))
          | inr pin ↦ inr (ltb-true net.0 pins.pins pin)
        ]
      ]
    ]

    stops : has_place line net ≡ true → (is_ahead front net || (is_ahead rest net || (is_twice line net || ltb net.0 pins.pins))) ≡ true → Holds p pins net k
    stops here more = record { trunk = (signal pins net ways.0, has here more); first = (k, q.here here, omega arith); last = (k, q.here here, omega arith) }

holds_held : (p : Placement) (pins : Pins) (k : ℕ) (front : List Line) (line : Line) (rest : List Line) (net : NetNo) → IsPlain line → Parts p k front line rest net → Holds p pins net k → is_held pins (is_ahead front) line (is_ahead rest) net ≡ true
holds_held p pins k front line rest net plain q h = and_from _ _ (no_rail pins net h.trunk.0) (up (q.each h.first.0 h.first.1) (q.each h.last.0 h.last.1))
  where
    pin_test : (2 ≤ length (lines_of p net)) ⊎ (net.0 < pins.pins) → is_ahead front net ≡ false → is_ahead rest net ≡ false → (is_twice line net || ltb net.0 pins.pins) ≡ true
    pin_test (inr pin) b a = or_right (is_twice line net) _ (lt-ltb net.0 pins.pins pin)
    pin_test (inl two) b a = or_left _ _ (counts_twice line net plain (omega (arith, two, q.all, none_ahead front net b, none_ahead rest net a)))

    stops : has_place line net ≡ true → ((is_ahead front net && is_ahead rest net) || begins_or_ends pins (is_ahead front) line (is_ahead rest) net) ≡ true
    stops here = or_right (is_ahead front net && is_ahead rest net) _ (and_from _ _ here (more (cases_Bool (is_ahead front net)) (cases_Bool (is_ahead rest net))))
      where
        more : (is_ahead front net ≡ true) ⊎ (is_ahead front net ≡ false) → (is_ahead rest net ≡ true) ⊎ (is_ahead rest net ≡ false) → (is_ahead front net || (is_ahead rest net || (is_twice line net || ltb net.0 pins.pins))) ≡ true
        more (inl b) a = or_left _ _ b
        more (inr b) (inl a) = or_right (is_ahead front net) _ (or_left _ _ a)
        more (inr b) (inr a) = or_right (is_ahead front net) _ (or_right (is_ahead rest net) _ (pin_test h.trunk.1 b a))

    up : ((h.first.0 < k) × (is_ahead front net ≡ true)) ⊎ (((h.first.0 ≡ k) × (has_place line net ≡ true)) ⊎ ((k < h.first.0) × (is_ahead rest net ≡ true))) → ((h.last.0 < k) × (is_ahead front net ≡ true)) ⊎ (((h.last.0 ≡ k) × (has_place line net ≡ true)) ⊎ ((k < h.last.0) × (is_ahead rest net ≡ true))) → ((is_ahead front net && is_ahead rest net) || begins_or_ends pins (is_ahead front) line (is_ahead rest) net) ≡ true
    up (inr (inl e)) m = stops e.1
    up l (inr (inl e)) = stops e.1
    up (inl b) (inr (inr a)) = or_left _ _ (and_from _ _ b.1 a.1)
    up (inr (inr wrong)) m = absurd (omega (arith, wrong.0, h.first.2))
    up l (inl wrong) = absurd (omega (arith, wrong.0, h.last.2))

pub holding : (p : Placement) (pins : Pins) (lines : List Line) → AreLinesOf p lines → (k : ℕ) (front : List Line) (line : Line) (rest : List Line) → Split lines k front line rest → IsPlain line → (net : NetNo) → (is_held pins (is_ahead front) line (is_ahead rest) net ≡ true) ↔ Holds p pins net k
holding p pins lines h k front line rest s plain net =
    (λ e. held_holds p pins k front line rest net (parts p lines h k front line rest s net) e, λ e. holds_held p pins k front line rest net plain (parts p lines h k front line rest s net) e)
