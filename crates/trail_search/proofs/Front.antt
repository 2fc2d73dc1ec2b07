-- A completion of a state behind the column in front arranges its fingers, with as many gaps as further ones.
use Rattle.std.proofs.Common.{ℕ, zero, suc, ◌≡◌, ◌+◌, ◌<◌, ◌≤◌, ◌||◌, Bool, true, false, cond, max, zip, List, [], ◌∷◌, ◌++◌, Option, Some, None, IfSome, is_some, refl, sym, ap, subst, arith, All, IsPermutation, ◌∙◌}
use Rattle.std.proofs.lemmas.List.Elements.{All-cons, All-head, All-tail}
use Rattle.std.proofs.lemmas.List.Sorted.{IsPermutation-cons}
use Rattle.std.proofs.lemmas.List.Sums.{sum_by-cons}
use Rattle.cell_num.specs.declared.finger.Row.{Row}
use Rattle.cell_num.specs.declared.finger.Row.TheVariants.{P, N}
use Rattle.cell_num.specs.declared.net.NetNo.{NetNo}
use Rattle.cell_num.specs.declared.finger.Finger.{Finger}
use Rattle.cell_num.specs.declared.finger.Fingers.{Fingers}
use Rattle.cell_num.specs.Fingers.{on_gate, sum_below}
use Rattle.row_model.specs.declared.column.Placed.{Placed}
use Rattle.row_model.specs.declared.column.Column.{Column}
use Rattle.row_model.specs.Arrangement.{AreOneColumn, IsArrangement, IsColumn, fingers_in}
use Rattle.row_model.specs.Gaps.{facing_differs, gaps_of, is_gap}
use Rattle.row_trails.specs.Trails.{end_differs}
use Rattle.row_state.specs.declared.kind.Kinds.{Kinds}
use Rattle.row_state.specs.declared.state.State.{State}
use Rattle.row_state.specs.Completion.{Completes, Need, cost_of, fingers_left, further_gaps}
use Rattle.row_state.specs.Gates.{gate_here, gate_other, most}
use Rattle.row_state.specs.Law.{gates_left}
use Rattle.row_state.specs.Start.{AreSomeKinds, IsState}
use Rattle.trail_search.specs.Behind.{before, fingers_behind, front_column, front_finger, front_place}

-- an end is open
abbrev pub IsOpen : State → Type 0
IsOpen s = (is_some s.p_end || is_some s.n_end) ≡ true

-- a net at an open end is not the net of its own
front_placed : (row : Row) (own : ℕ) (net : NetNo) → net.0 < own → net ≡ record { 0 = own } → true ≡ false
front_placed row own net below e = absurd (omega (arith, below, ap (λ (n : NetNo). n.0) e))

front_is : (own : ℕ) (p n : Option NetNo) → IfSome p (λ v. v.0 < own) → IfSome n (λ v. v.0 < own) → (is_some p || is_some n) ≡ true → AreOneColumn (front_place P own p) (front_place N own n)
front_is own None None hp hn h = absurd cc
front_is own (Some a) None hp hn h = front_placed P own a hp
front_is own None (Some b) hp hn h = front_placed N own b hn
front_is own (Some a) (Some b) hp hn h = (refl, front_placed P own a hp, front_placed N own b hn)

perm_front : (row : Row) (own : ℕ) (end : Option NetNo) (left fs : List Finger) → IsPermutation left fs → IsPermutation (before row own end ++ left) (before row own end ++ fs)
perm_front row own None left fs h = h
perm_front row own (Some v) left fs h = IsPermutation-cons (front_finger row own v) left fs h

p_in : (own : ℕ) (p n : Option NetNo) (cs : List Column) → fingers_in P (record { p = front_place P own p; n = front_place N own n } ∷ cs) ≡ before P own p ++ fingers_in P cs
p_in own None n cs = refl
p_in own (Some v) n cs = refl

n_in : (own : ℕ) (p n : Option NetNo) (cs : List Column) → fingers_in N (record { p = front_place P own p; n = front_place N own n } ∷ cs) ≡ before N own n ++ fingers_in N cs
n_in own p None cs = refl
n_in own p (Some v) cs = refl

-- no finger left is on the gate of the column in front
none_on : (own : ℕ) (fs : List Finger) → All (λ (f : Finger). f.gate.0 < own) fs → on_gate own fs ≡ 0
none_on own [] h = refl
none_on own (f ∷ fs) h =
    let here : f.gate.0 < own = All-head (λ (f : Finger). f.gate.0 < own) f fs h in
    gate_other own f fs (λ e. omega (arith, here, e)) ∙ none_on own fs (All-tail (λ (f : Finger). f.gate.0 < own) f fs h)

-- on other gates it adds none
front_other : (row : Row) (own g : ℕ) (end : Option NetNo) (fs : List Finger) → g < own → on_gate g (before row own end ++ fs) ≡ on_gate g fs
front_other row own g None fs below = refl
front_other row own g (Some v) fs below = gate_other g (front_finger row own v) fs (λ e. omega (arith, below, e))

sum_same : (f h : ℕ → ℕ) (n m : ℕ) → n ≤ m → ((g : ℕ) → g < m → f g ≡ h g) → sum_below f n ≡ sum_below h n
sum_same f h zero m le same = refl
sum_same f h (suc n) m le same = omega (arith, sum_same f h n m (omega (arith, le)) same, same n (omega (arith, le)))

front_here : (row : Row) (own : ℕ) (end : Option NetNo) (fs : List Finger) → on_gate own fs ≡ 0 → on_gate own (before row own end ++ fs) ≡ cond (is_some end) 1 0
front_here row own None fs none = none
front_here row own (Some v) fs none = omega (arith, gate_here (front_finger row own v) fs, none)

most_one : (p n : Option NetNo) → (is_some p || is_some n) ≡ true → max (cond (is_some p) 1 0) (cond (is_some n) 1 0) ≡ 1
most_one None None h = absurd cc
most_one None (Some b) h = omega arith
most_one (Some a) None h = omega arith
most_one (Some a) (Some b) h = omega arith

-- the fingers need one column more
columns_front : (own : ℕ) (p n : Option NetNo) (ps ns : List Finger) → (is_some p || is_some n) ≡ true → All (λ (f : Finger). f.gate.0 < own) ps → All (λ (f : Finger). f.gate.0 < own) ns → most (before P own p ++ ps) (before N own n ++ ns) (own + 1) ≡ suc (most ps ns own)
columns_front own p n ps ns h below_p below_n =
    let one : own + 1 ≡ suc own = omega arith in
    let others : most (before P own p ++ ps) (before N own n ++ ns) own ≡ most ps ns own = sum_same _ _ own own (omega arith) (λ g below. rw (front_other P own g p ps below, front_other N own g n ns below) refl) in
    let here : max (on_gate own (before P own p ++ ps)) (on_gate own (before N own n ++ ns)) ≡ 1 = rw (front_here P own p ps (none_on own ps below_p), front_here N own n ns (none_on own ns below_n)) (most_one p n h) in
    ap (most (before P own p ++ ps) (before N own n ++ ns)) one ∙ omega (arith, others, here)

end_faces : (row : Row) (own : ℕ) (end : Option NetNo) (y : Option Placed) → facing_differs (front_place row own end) y ≡ end_differs end y
end_faces row own None y = refl
end_faces row own (Some v) None = refl
end_faces row own (Some v) (Some y) = refl

-- a row that the column in front begins has as many gaps as the other columns add after the state
pub gaps_front : (k : Kinds) (s : State) (cs : List Column) → gaps_of (front_column k s ∷ cs) ≡ further_gaps s cs
gaps_front k s [] = refl
gaps_front k s (c ∷ cs) =
    let facing : ◌≡◌ {A = ℕ} (cond (is_gap (front_column k s, c)) 1 0) (cost_of s c) = rw (end_faces P k.nets s.p_end c.p, end_faces N k.nets s.n_end c.n) refl in
    omega (arith, facing, sum_by-cons (λ x. cond (is_gap x) 1 0) (front_column k s, c) (zip (c ∷ cs) cs))

-- a completion behind the column in front arranges the fingers of the state
pub arranged : (k : Kinds) (s : State) (cs : List Column) → AreSomeKinds k → IsState k s → IsOpen s → Completes k s cs → IsArrangement (front_column k s ∷ cs) (fingers_behind k s)
arranged k s cs kinds valid some h =
    record {
      columns = All-cons IsColumn (front_column k s) cs (front_is k.nets s.p_end s.n_end valid.p_end valid.n_end some) h.columns;
      p = subst (IsPermutation (before P k.nets s.p_end ++ fingers_left P k.p s.p_left)) (sym (p_in k.nets s.p_end s.n_end cs)) (perm_front P k.nets s.p_end (fingers_left P k.p s.p_left) (fingers_in P cs) h.p);
      n = subst (IsPermutation (before N k.nets s.n_end ++ fingers_left N k.n s.n_left)) (sym (n_in k.nets s.p_end s.n_end cs)) (perm_front N k.nets s.n_end (fingers_left N k.n s.n_left) (fingers_in N cs) h.n);
      fewest = omega (arith, h.fewest, columns_front k.nets s.p_end s.n_end (fingers_left P k.p s.p_left) (fingers_left N k.n s.n_left) some (gates_left P k.p s.p_left k.nets kinds.p) (gates_left N k.n s.n_left k.nets kinds.n));
    }

-- where no arrangement of the fingers of the state has so few gaps, no completion has so few further ones
pub need_behind : (k : Kinds) (s : State) (bound : ℕ) → AreSomeKinds k → IsState k s → IsOpen s → ((row : List Column) → IsArrangement row (fingers_behind k s) → bound ≤ gaps_of row) → Need k s bound
need_behind k s bound kinds valid some low cs h = omega (arith, low (front_column k s ∷ cs) (arranged k s cs kinds valid some h), gaps_front k s cs)

pub refuted_behind : (k : Kinds) (s : State) (f : Fingers) (allowed : ℕ) (some : Bool) → AreSomeKinds k → IsState k s → some ≡ (is_some s.p_end || is_some s.n_end) → some ≡ true → f ≡ fingers_behind k s → ((row : List Column) → IsArrangement row f → allowed < gaps_of row) → Need k s (allowed + 1)
refuted_behind k s f allowed some kinds valid tells on is more =
    need_behind k s (allowed + 1) kinds valid (sym tells ∙ on) (λ row h. omega (arith, more row (subst (IsArrangement row) (sym is) h)))
