-- A column and the nets at its ends, as it stands and turned.
use Rattle.std.proofs.Common.{ℕ, ◌≡◌, ◌<◌, ◌==◌, Bool, true, false, not, if◌then◌else◌, leb, Option, Some}
use Rattle.std.proofs.Common.{None, option_map, refl, sym, ap, subst, ◌∙◌, inl, inr, ◌⊎◌}
use Rattle.std.proofs.lemmas.Bool.{eq-eqb, eqb-true}
use Rattle.cell_num.specs.declared.net.NetNo.{NetNo}
use Rattle.cell_num.specs.declared.finger.Row.{Row}
use Rattle.cell_num.specs.declared.finger.Row.TheVariants.{P, N}
use Rattle.cell_num.specs.declared.finger.Finger.{Finger}
use Rattle.cell_num.specs.declared.finger.Fingers.{Fingers}
use Rattle.row_model.specs.declared.column.Placed.{Placed}
use Rattle.row_model.specs.declared.column.Column.{Column}
use Rattle.row_model.specs.Arrangement.{AreOneColumn, IsColumn, IsPlaced, place}
use Rattle.row_model.specs.Gaps.{left_net, right_net}
use Rattle.trail_state.specs.declared.edge.Edge.{Edge}
use Rattle.trail_state.specs.Edges.{edge_between, pair_node}
use Rattle.trail_state.specs.Choices.{IsEdgeOf}
use Rattle.trail_state.specs.Nodes.{is_net_in}
use Rattle.trail_state.proofs.Walks.{ordered}

-- the other way around, where that changes anything
turn : Placed → Placed
turn x = record { finger = x.finger; flipped = if x.finger.lo.0 == x.finger.hi.0 then false else not x.flipped }

turn_place : Option Placed → Option Placed
turn_place None = None
turn_place (Some x) = Some (turn x)

pub turn_column : Column → Column
turn_column c = record { p = turn_place c.p; n = turn_place c.n }

-- both ends of a place have these nets
abbrev pub HasEnds : Option Placed → ℕ → ℕ → Type 0
HasEnds None l r = Unit {0}
HasEnds (Some x) l r = ((left_net x).0 ≡ l) × ((right_net x).0 ≡ r)

abbrev net_left : Bool → Finger → ℕ
net_left b x = (if b then x.hi else x.lo).0

abbrev net_right : Bool → Finger → ℕ
net_right b x = (if b then x.lo else x.hi).0

turned_ends : (x : Placed) → ((left_net (turn x)).0 ≡ (right_net x).0) × ((right_net (turn x)).0 ≡ (left_net x).0)
unfolding turn
turned_ends x = by (x.finger.lo.0 == x.finger.hi.0) x.flipped refl
  where
    by : (b c : Bool) → (x.finger.lo.0 == x.finger.hi.0) ≡ b →
        (net_left (if b then false else not c) x.finger ≡ net_right c x.finger)
        × (net_right (if b then false else not c) x.finger ≡ net_left c x.finger)
    by true true e = (refl, refl)
    by true false e = (eqb-true x.finger.lo.0 x.finger.hi.0 e, sym (eqb-true x.finger.lo.0 x.finger.hi.0 e))
    by false true e = (refl, refl)
    by false false e = (refl, refl)

turned_placed : (x : Placed) → IsPlaced (turn x)
unfolding turn
turned_placed x alike =
    ap (λ b. if b then false else not x.flipped) (eq-eqb x.finger.lo.0 x.finger.hi.0 (ap (λ (n : NetNo). n.0) alike))

turn_ends : (o : Option Placed) (l r : ℕ) → HasEnds o l r → HasEnds (turn_place o) r l
unfolding turn_place
turn_ends None l r h = tt
turn_ends (Some x) l r h = ((turned_ends x).0 ∙ h.1, (turned_ends x).1 ∙ h.0)

abbrev finger_in : Option Placed → Option Finger
finger_in o = option_map (λ (x : Placed). x.finger) o

same_finger : (o : Option Placed) → finger_in (turn_place o) ≡ finger_in o
unfolding turn_place turn
same_finger None = refl
same_finger (Some x) = refl

pub turn_fingers : (r : Row) (c : Column) → finger_in (place r (turn_column c)) ≡ finger_in (place r c)
unfolding turn_column
turn_fingers P c = same_finger c.p
turn_fingers N c = same_finger c.n

one_turned : (p n : Option Placed) → AreOneColumn p n → AreOneColumn (turn_place p) (turn_place n)
unfolding turn_place turn
one_turned None None one = one
one_turned (Some x) None one = turned_placed x
one_turned None (Some y) one = turned_placed y
one_turned (Some x) (Some y) one = (one.0, turned_placed x, turned_placed y)

pub turn_is_column : (c : Column) → IsColumn c → IsColumn (turn_column c)
unfolding turn_column
turn_is_column c one = one_turned c.p c.n one

-- a column that goes from node to node, where an empty place goes between any nets
pub record Goes (c : Column) (l r : ℕ) : Type 0 where
  pub p_left : ℕ
  pub n_left : ℕ
  pub p_right : ℕ
  pub n_right : ℕ
  pub left : l ≡ pair_node p_left n_left
  pub right : r ≡ pair_node p_right n_right
  pub left_below : n_left < 256
  pub right_below : n_right < 256
  pub p : HasEnds c.p p_left p_right
  pub n : HasEnds c.n n_left n_right

pub turn_goes : (c : Column) (l r : ℕ) → Goes c l r → Goes (turn_column c) r l
unfolding turn_column
turn_goes c l r h = record {
  p_left = h.p_right;
  n_left = h.n_right;
  p_right = h.p_left;
  n_right = h.n_left;
  left = h.right;
  right = h.left;
  left_below = h.right_below;
  right_below = h.left_below;
  p = turn_ends c.p h.p_left h.p_right h.p;
  n = turn_ends c.n h.n_left h.n_right h.n;
}

-- an edge of the column between two nodes
pub record Drawn (c : Column) (e : Edge) : Type 0 where
  pub l : ℕ
  pub r : ℕ
  pub is : e ≡ edge_between l r
  pub goes : Goes c l r

-- nets at the ends of a place are below 256
abbrev pub AreSmall : Option Placed → Type 0
AreSmall None = Unit {0}
AreSmall (Some x) = ((left_net x).0 < 256) × ((right_net x).0 < 256)

pub drawn : (f : Fingers) (c : Column) (e : Edge) → ((v : ℕ) → is_net_in f.n v ≡ true → v < 256) → AreSmall c.n
    → IsEdgeOf f c.p c.n e → Drawn c e
drawn f c e small n_small h = by c.p c.n refl refl n_small h
  where
    by : (p n : Option Placed) → c.p ≡ p → c.n ≡ n → AreSmall n → IsEdgeOf f p n e → Drawn c e
    by None None is_p is_n s k = absurd k
    by (Some x) (Some y) is_p is_n s k = record {
      l = pair_node (left_net x).0 (left_net y).0;
      r = pair_node (right_net x).0 (right_net y).0;
      is = k;
      goes = record {
        p_left = (left_net x).0;
        n_left = (left_net y).0;
        p_right = (right_net x).0;
        n_right = (right_net y).0;
        left = refl;
        right = refl;
        left_below = s.0;
        right_below = s.1;
        p = subst (λ o. HasEnds o (left_net x).0 (right_net x).0) (sym is_p) (refl, refl);
        n = subst (λ o. HasEnds o (left_net y).0 (right_net y).0) (sym is_n) (refl, refl);
      };
    }
    by (Some x) None is_p is_n s k = record {
      l = pair_node (left_net x).0 k.0;
      r = pair_node (right_net x).0 k.1;
      is = k.4;
      goes = record {
        p_left = (left_net x).0;
        n_left = k.0;
        p_right = (right_net x).0;
        n_right = k.1;
        left = refl;
        right = refl;
        left_below = small k.0 k.2;
        right_below = small k.1 k.3;
        p = subst (λ o. HasEnds o (left_net x).0 (right_net x).0) (sym is_p) (refl, refl);
        n = subst (λ o. HasEnds o k.0 k.1) (sym is_n) tt;
      };
    }
    by None (Some y) is_p is_n s k = record {
      l = pair_node k.0 (left_net y).0;
      r = pair_node k.1 (right_net y).0;
      is = k.4;
      goes = record {
        p_left = k.0;
        n_left = (left_net y).0;
        p_right = k.1;
        n_right = (right_net y).0;
        left = refl;
        right = refl;
        left_below = s.0;
        right_below = s.1;
        p = subst (λ o. HasEnds o k.0 k.1) (sym is_p) tt;
        n = subst (λ o. HasEnds o (left_net y).0 (right_net y).0) (sym is_n) (refl, refl);
      };
    }

-- an edge is between two nodes alone
one_edge : (a b l r : ℕ) → edge_between a b ≡ edge_between l r → ((a ≡ l) × (b ≡ r)) ⊎ ((a ≡ r) × (b ≡ l))
one_edge a b l r e = by (leb a b) (leb l r) e
  where
    by : (s t : Bool) → ordered s a b ≡ ordered t l r → ((a ≡ l) × (b ≡ r)) ⊎ ((a ≡ r) × (b ≡ l))
    by true true e = inl (ap (λ (d : Edge). d.a.0) e, ap (λ (d : Edge). d.b.0) e)
    by true false e = inr (ap (λ (d : Edge). d.a.0) e, ap (λ (d : Edge). d.b.0) e)
    by false true e = inr (ap (λ (d : Edge). d.b.0) e, ap (λ (d : Edge). d.a.0) e)
    by false false e = inl (ap (λ (d : Edge). d.b.0) e, ap (λ (d : Edge). d.a.0) e)

-- the column as it goes from l to r: as it is, or turned
pub record Laid (c : Column) (l r : ℕ) : Type 0 where
  pub it : Column
  pub goes : Goes it l r
  pub one : IsColumn c → IsColumn it
  pub fingers : (row : Row) → finger_in (place row it) ≡ finger_in (place row c)

pub laid : (c : Column) (e : Edge) (l r : ℕ) → Drawn c e → e ≡ edge_between l r → Laid c l r
laid c e l r d is =
    elim (one_edge d.l d.r l r (sym d.is ∙ is)) [
      | inl same ↦ record {
        it = c;
        goes = subst (λ v. Goes c v r) same.0 (subst (Goes c d.l) same.1 d.goes);
        one = λ h. h;
        fingers = λ row. refl;
      }
      | inr other ↦ record {
        it = turn_column c;
        goes = turn_goes c r l (subst (λ v. Goes c v l) other.0 (subst (Goes c d.l) other.1 d.goes));
        one = turn_is_column c;
        fingers = λ row. turn_fingers row c;
      }
    ]
