-- The lines of a row are the lines of its placement.
use Rattle.std.proofs.Common.{ℕ, zero, suc, ◌≡◌, ◌+◌, ◌*◌, ◌⊎◌, ◌++◌, ◌==◌, ◌||◌, not, Bool, true, false, cond, List, [], ◌∷◌, Option, Some, None, length, inl, inr, refl, sym, ap, subst, arith, Contains, option_map, ◌∙◌}
use Rattle.std.proofs.lemmas.Bool.{or_parts}
use Rattle.cell_num.specs.declared.net.NetNo.{NetNo}
use Rattle.cell_num.specs.declared.finger.Row.{Row}
use Rattle.cell_num.specs.declared.finger.Row.TheVariants.{P, N}
use Rattle.cell_num.proofs.Lists.{some_same, contains_none, contains_cons, contains_here, contains_there}
use Rattle.row_model.specs.declared.column.Placed.{Placed}
use Rattle.row_model.specs.declared.column.Column.{Column}
use Rattle.row_model.specs.Arrangement.{place}
use Rattle.row_model.specs.Gaps.{left_net, right_net, facing_differs}
use Rattle.row_model.proofs.Decide.{net_decides}
use Rattle.row_trails.specs.Trails.{end_differs}
use Rattle.row_place.specs.declared.placement.Seat.{Seat}
use Rattle.row_place.specs.declared.placement.UnitKind.TheVariants.{Gap}
use Rattle.row_place.specs.Steps.{or_else}
use Rattle.row_place.specs.Units.{gap_between, seats_from}
use Rattle.track_ways.specs.declared.line.Line.{Line}
use Rattle.track_ways.specs.Lines.{is_net}
use Rattle.track_ways.specs.Channel.{side}
use Rattle.track_ways.specs.Rows.{left_end, right_end, node_line, gate_line, is_gap_behind, lines_behind}
use Rattle.track_ways.proofs.Places.{at_line, some_is_net, is_net_some}

-- the open end that a column before leaves in a row
abbrev pub open_end : Option Column → Row → Option NetNo
open_end None row = None
open_end (Some b) row = right_end (place row b)

facing_is : (x y : Option Placed) → facing_differs x y ≡ end_differs (right_end x) y
facing_is None None = refl
facing_is None (Some y) = refl
facing_is (Some x) None = refl
facing_is (Some x) (Some y) = refl

-- the gap units are the same
gap_is : (before : Option Column) (c : Column) → gap_between before c ≡ cond (is_gap_behind (open_end before P) (open_end before N) c) (Gap ∷ []) []
gap_is None c = none c.p c.n
  where
    none : (p n : Option Placed) → [] ≡ cond (end_differs None p || end_differs None n) (Gap ∷ []) []
    none None None = refl
    none None (Some y) = refl
    none (Some x) None = refl
    none (Some x) (Some y) = refl
gap_is (Some b) c = ap (λ (t : Bool). cond (t || facing_differs b.n c.n) (Gap ∷ []) []) (facing_is b.p c.p) ∙ ap (λ (t : Bool). cond (end_differs (right_end b.p) c.p || t) (Gap ∷ []) []) (facing_is b.n c.n)

pub gap_count : (before : Option Column) (c : Column) (b : Bool) → is_gap_behind (open_end before P) (open_end before N) c ≡ b → length (gap_between before c) ≡ cond b 1 0
gap_count before c true e = ap length (gap_is before c) ∙ ap (λ (t : Bool). length (cond t (Gap ∷ []) [])) e
gap_count before c false e = ap length (gap_is before c) ∙ ap (λ (t : Bool). length (cond t (Gap ∷ []) [])) e

-- an end of the finger in a row of a seat, at a line
pub record SeatEnd (s : Seat) (row : Row) (line : ℕ) (net : NetNo) : Type 0 where
  pub finger : Placed
  pub filled : place row s.column ≡ Some finger
  pub end : ((line ≡ 2 * s.unit) × (net ≡ left_net finger)) ⊎ ((line ≡ 2 * s.unit + 2) × (net ≡ right_net finger))

pub record FromSeat (seats : List Seat) (row : Row) (line : ℕ) (net : NetNo) : Type 0 where
  pub seat : Seat
  pub there : Contains seats seat
  pub end : SeatEnd seat row line net

abbrev Hits : List Line → ℕ → Row → NetNo → Type 0
Hits lines i row net = at_line lines i (λ l. is_net (side row l) net) ≡ true

-- what a node line has in a row
in_row : (f : Row → Option NetNo) (row : Row) (net : NetNo) → is_net (side row (node_line (f P) (f N))) net ≡ true → f row ≡ Some net
in_row f P net e = some_is_net (f P) net e
in_row f N net e = some_is_net (f N) net e

to_row : (f : Row → Option NetNo) (row : Row) (net : NetNo) → f row ≡ Some net → is_net (side row (node_line (f P) (f N))) net ≡ true
to_row f P net e = is_net_some (f P) net e
to_row f N net e = is_net_some (f N) net e

no_gate : (c : Column) (row : Row) (net : NetNo) → is_net (side row (gate_line c)) net ≡ true → ⊥
no_gate c P net e = absurd cc
no_gate c N net e = absurd cc

no_net : (row : Row) (net : NetNo) → is_net (side row (node_line None None)) net ≡ true → ⊥
no_net P net e = absurd cc
no_net N net e = absurd cc

-- the finger with an end
pub record EndOf (g : Placed → NetNo) (o : Option Placed) (net : NetNo) : Type 0 where
  pub finger : Placed
  pub filled : o ≡ Some finger
  pub is : net ≡ g finger

end_of : (g : Placed → NetNo) (o : Option Placed) (net : NetNo) → option_map g o ≡ Some net → EndOf g o net
end_of g None net e = absurd cc
end_of g (Some x) net e = record { finger = x; filled = refl; is = sym (some_same _ _ e) }

or_else_cases : (a b : Option NetNo) (net : NetNo) → or_else a b ≡ Some net → (a ≡ Some net) ⊎ (b ≡ Some net)
or_else_cases None b net e = inr e
or_else_cases (Some v) b net e = inl e

left_seat : (c : Column) (unit line : ℕ) (row : Row) (net : NetNo) → line ≡ 2 * unit → left_end (place row c) ≡ Some net → SeatEnd (record { column = c; unit = unit }) row line net
left_seat c unit line row net is e = let x : EndOf left_net (place row c) net = end_of left_net (place row c) net e in record { finger = x.finger; filled = x.filled; end = inl (is, x.is) }

right_seat : (c : Column) (unit line : ℕ) (row : Row) (net : NetNo) → line ≡ 2 * unit + 2 → right_end (place row c) ≡ Some net → SeatEnd (record { column = c; unit = unit }) row line net
right_seat c unit line row net is e = let x : EndOf right_net (place row c) net = end_of right_net (place row c) net e in record { finger = x.finger; filled = x.filled; end = inr (is, x.is) }

from_here : (s : Seat) (seats : List Seat) (row : Row) (line : ℕ) (net : NetNo) → SeatEnd s row line net → FromSeat (s ∷ seats) row line net
from_here s seats row line net e = record { seat = s; there = contains_here s seats; end = e }

from_later : (s : Seat) (seats : List Seat) (row : Row) (line : ℕ) (net : NetNo) → FromSeat seats row line net → FromSeat (s ∷ seats) row line net
from_later s seats row line net f = record { seat = f.seat; there = contains_there s seats f.seat f.there; end = f.end }

abbrev pub with_gap : Bool → Option Column → Column → List Line → List Line
with_gap b before c more = cond b (node_line (open_end before P) (open_end before N) ∷ node_line None None ∷ node_line (left_end c.p) (left_end c.n) ∷ []) (node_line (or_else (open_end before P) (left_end c.p)) (or_else (open_end before N) (left_end c.n)) ∷ []) ++ gate_line c ∷ more

-- each net in a row of a line is an open end or the end of a finger
pub hits_are : (unit : ℕ) (before : Option Column) (cs : List Column) (i : ℕ) (row : Row) (net : NetNo) → Hits (lines_behind (open_end before P) (open_end before N) cs) i row net → ((i ≡ 0) × (open_end before row ≡ Some net)) ⊎ FromSeat (seats_from unit before cs) row (2 * unit + i) net
hits_are unit before [] zero row net h = inl (refl, in_row (open_end before) row net h)
hits_are unit before [] (suc i) row net h = absurd cc
hits_are unit before (c ∷ cs) i row net h = go (is_gap_behind (open_end before P) (open_end before N) c) refl (λ j e. hits_are (unit + length (gap_between before c) + 1) (Some c) cs j row net e) i h
  where
    g : ℕ
    g = length (gap_between before c)

    here : Seat
    here = record { column = c; unit = unit + g }

    behind : List Seat
    behind = seats_from (unit + g + 1) (Some c) cs

    more : List Line
    more = lines_behind (right_end c.p) (right_end c.n) cs

    rest : (i j : ℕ) → 2 * unit + i ≡ 2 * (unit + g + 1) + j → ((j ≡ 0) × (open_end (Some c) row ≡ Some net)) ⊎ FromSeat behind row (2 * (unit + g + 1) + j) net → FromSeat (here ∷ behind) row (2 * unit + i) net
    rest i j is e = elim e [
      | inl open' ↦ from_here here behind row (2 * unit + i) net (right_seat c (unit + g) (2 * unit + i) row net (omega (arith, is, open'.0)) open'.1)
      | inr f ↦ from_later here behind row (2 * unit + i) net (subst (λ l. FromSeat behind row l net) (sym is) f)
    ]

    go : (b : Bool) → is_gap_behind (open_end before P) (open_end before N) c ≡ b → ((j : ℕ) → Hits more j row net → ((j ≡ 0) × (open_end (Some c) row ≡ Some net)) ⊎ FromSeat behind row (2 * (unit + g + 1) + j) net) → (i : ℕ) → Hits (with_gap b before c more) i row net → ((i ≡ 0) × (open_end before row ≡ Some net)) ⊎ FromSeat (here ∷ behind) row (2 * unit + i) net
    go false e ih zero h =
        elim (or_else_cases (open_end before row) (left_end (place row c)) net (in_row (λ r. or_else (open_end before r) (left_end (place r c))) row net h)) [
          | inl open' ↦ inl (refl, open')
          | inr left ↦ inr (from_here here behind row (2 * unit + 0) net (left_seat c (unit + g) (2 * unit + 0) row net (omega (arith, gap_count before c false e)) left))
        ]
    go false e ih (suc zero) h = absurd (no_gate c row net h)
    go false e ih (suc (suc i)) h = inr (rest (suc (suc i)) i (omega (arith, gap_count before c false e)) (ih i h))
    go true e ih zero h = inl (refl, in_row (open_end before) row net h)
    go true e ih (suc zero) h = absurd (no_net row net h)
    go true e ih (suc (suc zero)) h = inr (from_here here behind row (2 * unit + 2) net (left_seat c (unit + g) (2 * unit + 2) row net (omega (arith, gap_count before c true e)) (in_row (λ r. left_end (place r c)) row net h)))
    go true e ih (suc (suc (suc zero))) h = absurd (no_gate c row net h)
    go true e ih (suc (suc (suc (suc i)))) h = inr (rest (suc (suc (suc (suc i)))) i (omega (arith, gap_count before c true e)) (ih i h))

-- an open end stands at the first line
open_hits : (before : Option Column) (cs : List Column) (row : Row) (net : NetNo) → open_end before row ≡ Some net → Hits (lines_behind (open_end before P) (open_end before N) cs) 0 row net
open_hits before [] row net e = to_row (open_end before) row net e
open_hits before (c ∷ cs) row net e = go (is_gap_behind (open_end before P) (open_end before N) c)
  where
    go : (b : Bool) → Hits (with_gap b before c (lines_behind (right_end c.p) (right_end c.n) cs)) 0 row net
    go true = to_row (open_end before) row net e
    go false = to_row (λ r. or_else (open_end before r) (left_end (place r c))) row net (ap (λ o. or_else o (left_end (place row c))) e)

pub record HitAt (lines : List Line) (from : ℕ) (row : Row) (line : ℕ) (net : NetNo) : Type 0 where
  pub at : ℕ
  pub line' : line ≡ from + at
  pub hits : Hits lines at row net

no_gap_row : (before : Option Column) (c : Column) → is_gap_behind (open_end before P) (open_end before N) c ≡ false → (row : Row) → end_differs (open_end before row) (place row c) ≡ false
no_gap_row before c e P = (or_parts _ _ e).0
no_gap_row before c e N = (or_parts _ _ e).1

left_or_open : (end : Option NetNo) (x : Placed) → end_differs end (Some x) ≡ false → or_else end (Some (left_net x)) ≡ Some (left_net x)
left_or_open None x e = refl
left_or_open (Some v) x e = ap (λ n. Some n) ((net_decides v (left_net x)).0 (go (v.0 == (left_net x).0) e))
  where
    go : (t : Bool) → not t ≡ false → t ≡ true
    go true e = refl
    go false e = absurd cc

-- each end of a finger stands at its line
pub ends_hit : (unit : ℕ) (before : Option Column) (cs : List Column) (row : Row) (line : ℕ) (net : NetNo) → FromSeat (seats_from unit before cs) row line net → HitAt (lines_behind (open_end before P) (open_end before N) cs) (2 * unit) row line net
ends_hit unit before [] row line net f = absurd (contains_none f.seat f.there)
ends_hit unit before (c ∷ cs) row line net f = go (λ h. ends_hit (unit + length (gap_between before c) + 1) (Some c) cs row line net h) (is_gap_behind (open_end before P) (open_end before N) c) refl
  where
    g : ℕ
    g = length (gap_between before c)

    here : Seat
    here = record { column = c; unit = unit + g }

    behind : List Seat
    behind = seats_from (unit + g + 1) (Some c) cs

    more : List Line
    more = lines_behind (right_end c.p) (right_end c.n) cs

    seat_end : here ≡ f.seat → SeatEnd here row line net
    seat_end same = subst (λ z. SeatEnd z row line net) (sym same) f.end

    right_hits : SeatEnd here row line net → (x : Placed) → place row c ≡ Some x → net ≡ right_net x → Hits more 0 row net
    right_hits s x filled is = open_hits (Some c) cs row net (ap right_end filled ∙ ap (λ n. Some n) (sym is))

    joined : is_gap_behind (open_end before P) (open_end before N) c ≡ false → SeatEnd here row line net → HitAt (with_gap false before c more) (2 * unit) row line net
    joined e s = at s.end
      where
        at : ((line ≡ 2 * here.unit) × (net ≡ left_net s.finger)) ⊎ ((line ≡ 2 * here.unit + 2) × (net ≡ right_net s.finger)) → HitAt (with_gap false before c more) (2 * unit) row line net
        at (inl (l, is)) = record {
          at = 0;
          line' = omega (arith, l, gap_count before c false e);
          hits = to_row (λ r. or_else (open_end before r) (left_end (place r c))) row net
              (ap (λ o. or_else (open_end before row) (left_end o)) s.filled ∙ left_or_open (open_end before row) s.finger (subst (λ o. end_differs (open_end before row) o ≡ false) s.filled (no_gap_row before c e row)) ∙ ap (λ n. Some n) (sym is));
        }
        at (inr (l, is)) = record { at = 2; line' = omega (arith, l, gap_count before c false e); hits = right_hits s s.finger s.filled is }

    apart : is_gap_behind (open_end before P) (open_end before N) c ≡ true → SeatEnd here row line net → HitAt (with_gap true before c more) (2 * unit) row line net
    apart e s = at s.end
      where
        at : ((line ≡ 2 * here.unit) × (net ≡ left_net s.finger)) ⊎ ((line ≡ 2 * here.unit + 2) × (net ≡ right_net s.finger)) → HitAt (with_gap true before c more) (2 * unit) row line net
        at (inl (l, is)) = record { at = 2; line' = omega (arith, l, gap_count before c true e); hits = to_row (λ r. left_end (place r c)) row net (ap left_end s.filled ∙ ap (λ n. Some n) (sym is)) }
        at (inr (l, is)) = record { at = 4; line' = omega (arith, l, gap_count before c true e); hits = right_hits s s.finger s.filled is }

    shifted : is_gap_behind (open_end before P) (open_end before N) c ≡ false → HitAt more (2 * (unit + g + 1)) row line net → HitAt (with_gap false before c more) (2 * unit) row line net
    shifted e h = record { at = suc (suc h.at); line' = omega (arith, h.line', gap_count before c false e); hits = h.hits }

    shifted_far : is_gap_behind (open_end before P) (open_end before N) c ≡ true → HitAt more (2 * (unit + g + 1)) row line net → HitAt (with_gap true before c more) (2 * unit) row line net
    shifted_far e h = record { at = suc (suc (suc (suc h.at))); line' = omega (arith, h.line', gap_count before c true e); hits = h.hits }

    go : (FromSeat behind row line net → HitAt more (2 * (unit + g + 1)) row line net) → (b : Bool) → is_gap_behind (open_end before P) (open_end before N) c ≡ b → HitAt (lines_behind (open_end before P) (open_end before N) (c ∷ cs)) (2 * unit) row line net
    go later false e = subst (λ (t : Bool). HitAt (with_gap t before c more) (2 * unit) row line net) (sym e) (elim (contains_cons here behind f.seat f.there) [ inl same ↦ joined e (seat_end same) | inr there ↦ shifted e (later (record { seat = f.seat; there = there; end = f.end })) ])
    go later true e = subst (λ (t : Bool). HitAt (with_gap t before c more) (2 * unit) row line net) (sym e) (elim (contains_cons here behind f.seat f.there) [ inl same ↦ apart e (seat_end same) | inr there ↦ shifted_far e (later (record { seat = f.seat; there = there; end = f.end })) ])
