-- The empty places of a row filled, so that the row has the same gaps: an empty place goes on from the net on its left
-- to the net on its right.
use Rattle.std.proofs.Common.{ℕ, ◌≡◌, ◌<◌, ◌≤◌, ◌==◌, Bool, true, false, if◌then◌else◌, cond, List, [], ◌∷◌, Option, Some, None, refl, ap, arith, ◌∙◌, inl, inr, All}
use Rattle.std.specs.List.{zip}
use Rattle.std.proofs.lemmas.Bool.{cases_Bool, eq-eqb, eqb-true, not-false, or_parts}
use Rattle.std.proofs.lemmas.List.Elements.{All-head, All-tail}
use Rattle.std.proofs.lemmas.List.Sums.{sum_by-cons}
use Rattle.cell_num.specs.declared.finger.Finger.{Finger}
use Rattle.cell_num.specs.declared.finger.Fingers.{Fingers}
use Rattle.row_model.specs.declared.column.Placed.{Placed}
use Rattle.row_model.specs.declared.column.Column.{Column}
use Rattle.row_model.specs.Arrangement.{AreOneColumn, IsColumn}
use Rattle.row_model.specs.Gaps.{facing_differs, gaps_of, is_gap, left_net, right_net}
use Rattle.trail_state.specs.Edges.{edge_between, pair_node}
use Rattle.trail_state.proofs.Along.{AreBelow}
use Rattle.trail_state.specs.Choices.{AreEdgesOf, IsEdgeOf}
use Rattle.trail_state.specs.Nodes.{is_net_in}
use Rattle.trail_state.proofs.Walks.{Walk, breaks_from, breaks_of, edges_of}

abbrev pub left_or : ℕ → Option Placed → ℕ
left_or v None = v
left_or v (Some x) = (left_net x).0

-- the net at the right end of a place, before the next place of its row
abbrev pub right_or : ℕ → Option Placed → Option Placed → ℕ
right_or v None next = left_or v next
right_or v (Some x) next = (right_net x).0

abbrev pub next_p : List Column → Option Placed
next_p [] = None
next_p (c ∷ cs) = c.p

abbrev pub next_n : List Column → Option Placed
next_n [] = None
next_n (c ∷ cs) = c.n

-- behind two nets
abbrev pub filled : ℕ → ℕ → List Column → Walk
filled p n [] = []
filled p n (c ∷ cs) =
    (pair_node (left_or p c.p) (left_or n c.n), pair_node (right_or p c.p (next_p cs)) (right_or n c.n (next_n cs)))
    ∷ filled (right_or p c.p (next_p cs)) (right_or n c.n (next_n cs)) cs

-- nets that face each other are one, where no gap is
facing : (u : ℕ) (a b : Option Placed) → facing_differs a b ≡ false → right_or u a b ≡ left_or (right_or u a b) b
facing u None None e = refl
facing u None (Some y) e = refl
facing u (Some x) None e = refl
facing u (Some x) (Some y) e = eqb-true (right_net x).0 (left_net y).0 (not-false ((right_net x).0 == (left_net y).0) e)

-- a break is a gap
one_break : (p n : ℕ) (c d : Column) → (if pair_node (right_or p c.p d.p) (right_or n c.n d.n) == pair_node (left_or (right_or p c.p d.p) d.p) (left_or (right_or n c.n d.n) d.n) then 0 else 1) ≤ (if is_gap (c, d) then 1 else 0)
one_break p n c d =
    elim (cases_Bool (is_gap (c, d))) [
      | inl gap ↦
          let one : ◌≡◌ {A = ℕ} (if is_gap (c, d) then 1 else 0) 1 = rw gap refl in
          omega (arith, one, at_most (pair_node (right_or p c.p d.p) (right_or n c.n d.n) == pair_node (left_or (right_or p c.p d.p) d.p) (left_or (right_or n c.n d.n) d.n)))
      | inr none ↦
          let parts : (facing_differs c.p d.p ≡ false) × (facing_differs c.n d.n ≡ false) = or_parts (facing_differs c.p d.p) (facing_differs c.n d.n) none in
          let same : pair_node (right_or p c.p d.p) (right_or n c.n d.n) ≡ pair_node (left_or (right_or p c.p d.p) d.p) (left_or (right_or n c.n d.n) d.n) =
          ap (λ v. pair_node v (right_or n c.n d.n)) (facing p c.p d.p parts.0) ∙ ap (λ v. pair_node (left_or (right_or p c.p d.p) d.p) v) (facing n c.n d.n parts.1) in
          let zero_is : ◌≡◌ {A = ℕ} (if pair_node (right_or p c.p d.p) (right_or n c.n d.n) == pair_node (left_or (right_or p c.p d.p) d.p) (left_or (right_or n c.n d.n) d.n) then 0 else 1) 0 = rw (eq-eqb (pair_node (right_or p c.p d.p) (right_or n c.n d.n)) (pair_node (left_or (right_or p c.p d.p) d.p) (left_or (right_or n c.n d.n) d.n)) same) refl in
          omega (arith, zero_is)
    ]
  where
    at_most : (b : Bool) → (if b then 0 else 1) ≤ 1
    at_most true = omega arith
    at_most false = omega arith

breaks_behind : (p n : ℕ) (c : Column) (cs : List Column) → breaks_from (pair_node (right_or p c.p (next_p cs)) (right_or n c.n (next_n cs))) (filled (right_or p c.p (next_p cs)) (right_or n c.n (next_n cs)) cs) ≤ gaps_of (c ∷ cs)
breaks_behind p n c [] = omega arith
breaks_behind p n c (d ∷ ds) = omega (arith, one_break p n c d, breaks_behind (right_or p c.p d.p) (right_or n c.n d.n) d ds, sum_by-cons (λ x. cond (is_gap x) 1 0) (c, d) (zip (d ∷ ds) ds))

pub filled_breaks : (p n : ℕ) (row : List Column) → breaks_of (filled p n row) ≤ gaps_of row
filled_breaks p n [] = omega arith
filled_breaks p n (c ∷ cs) = breaks_behind p n c cs

-- both nets at the ends of a place are nets of its row
abbrev pub HasNets : List Finger → Option Placed → Type 0
HasNets mine None = Unit {0}
HasNets mine (Some x) = (is_net_in mine (left_net x).0 ≡ true) × (is_net_in mine (right_net x).0 ≡ true)

abbrev pub HaveNets : Fingers → List Column → Type 0
HaveNets f [] = Unit {0}
HaveNets f (c ∷ cs) = HasNets f.p c.p × HasNets f.n c.n × HaveNets f cs

left_in : (mine : List Finger) (v : ℕ) (x : Option Placed) → is_net_in mine v ≡ true → HasNets mine x → is_net_in mine (left_or v x) ≡ true
left_in mine v None e h = e
left_in mine v (Some x) e h = h.0

right_in : (mine : List Finger) (v : ℕ) (x y : Option Placed) → is_net_in mine v ≡ true → HasNets mine x → HasNets mine y → is_net_in mine (right_or v x y) ≡ true
right_in mine v None y e h k = left_in mine v y e k
right_in mine v (Some x) y e h k = h.1

next_p_in : (f : Fingers) (cs : List Column) → HaveNets f cs → HasNets f.p (next_p cs)
next_p_in f [] h = tt
next_p_in f (c ∷ cs) h = h.0

next_n_in : (f : Fingers) (cs : List Column) → HaveNets f cs → HasNets f.n (next_n cs)
next_n_in f [] h = tt
next_n_in f (c ∷ cs) h = h.1

edge_is : (f : Fingers) (p n : ℕ) (x y next_x next_y : Option Placed) → AreOneColumn x y → is_net_in f.p p ≡ true → is_net_in f.n n ≡ true → HasNets f.p next_x → HasNets f.n next_y
    → IsEdgeOf f x y (edge_between (pair_node (left_or p x) (left_or n y)) (pair_node (right_or p x next_x) (right_or n y next_y)))
edge_is f p n (Some x) (Some y) nx ny one hp hn hx hy = refl
edge_is f p n (Some x) None nx ny one hp hn hx hy = (n, left_or n ny, hn, left_in f.n n ny hn hy, refl)
edge_is f p n None (Some y) nx ny one hp hn hx hy = (p, left_or p nx, hp, left_in f.p p nx hp hx, refl)
edge_is f p n None None nx ny one hp hn hx hy = one

pub filled_edges : (f : Fingers) (p n : ℕ) (row : List Column) → All IsColumn row → HaveNets f row → is_net_in f.p p ≡ true → is_net_in f.n n ≡ true → AreEdgesOf f row (edges_of (filled p n row))
filled_edges f p n [] columns h hp hn = tt
filled_edges f p n (c ∷ cs) columns h hp hn = (
  edge_is f p n c.p c.n (next_p cs) (next_n cs) (All-head IsColumn c cs columns) hp hn (next_p_in f cs h.2) (next_n_in f cs h.2),
  filled_edges f (right_or p c.p (next_p cs)) (right_or n c.n (next_n cs)) cs (All-tail IsColumn c cs columns) h.2 (right_in f.p p c.p (next_p cs) hp h.0 (next_p_in f cs h.2)) (right_in f.n n c.n (next_n cs) hn h.1 (next_n_in f cs h.2)),
)

-- the nodes of filled columns have numbers below 256 * 256
pub filled_below : (most : ℕ) → 65536 ≤ most → (f : Fingers) (p n : ℕ) (row : List Column) → ((v : ℕ) → is_net_in f.p v ≡ true → v < 256) → ((v : ℕ) → is_net_in f.n v ≡ true → v < 256) → HaveNets f row → is_net_in f.p p ≡ true → is_net_in f.n n ≡ true → AreBelow most (filled p n row)
filled_below most big f p n [] p_below n_below h hp hn = tt
filled_below most big f p n (c ∷ cs) p_below n_below h hp hn =
    let lp : left_or p c.p < 256 = p_below (left_or p c.p) (left_in f.p p c.p hp h.0) in
    let ln : left_or n c.n < 256 = n_below (left_or n c.n) (left_in f.n n c.n hn h.1) in
    let right_p : is_net_in f.p (right_or p c.p (next_p cs)) ≡ true = right_in f.p p c.p (next_p cs) hp h.0 (next_p_in f cs h.2) in
    let right_n : is_net_in f.n (right_or n c.n (next_n cs)) ≡ true = right_in f.n n c.n (next_n cs) hn h.1 (next_n_in f cs h.2) in
    let rp : right_or p c.p (next_p cs) < 256 = p_below (right_or p c.p (next_p cs)) right_p in
    let rn : right_or n c.n (next_n cs) < 256 = n_below (right_or n c.n (next_n cs)) right_n in
    (omega (arith, lp, ln, big), omega (arith, rp, rn, big), filled_below most big f (right_or p c.p (next_p cs)) (right_or n c.n (next_n cs)) cs p_below n_below h.2 right_p right_n)
