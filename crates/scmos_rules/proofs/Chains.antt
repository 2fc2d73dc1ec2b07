-- Chains of the cells of rectangles that touch.
use Rattle.std.proofs.Common.{◌≡◌, ℕ, zero, suc, ℤ, pos, ◌≤ℤ◌, ◌+ℤ◌, ◌-ℤ◌, List, arith, inl, inr, refl, sym, subst, ap, unsigned_abs}
use Rattle.std.specs.List.{Contains}
use Rattle.std.proofs.lemmas.Int.{ints, by_lt_z}
use Rattle.box_geom.specs.Rectangle.{Rectangle, Holds, Covers}
use Rattle.box_geom.specs.Touching.{Cell, Edge, to_right, to_left, upward, downward}
use Rattle.box_geom.specs.Chains.{Steps, Chain, Linked}
use Rattle.number_trees.proofs.Chains.{none, one, joined, turned}
use Rattle.scmos_rules.specs.Conditions.{Joint}

pub flip_edge : (a b : Cell) → Edge a b → Edge b a
flip_edge a b (to_right e f) = to_left e (sym f)
flip_edge a b (to_left e f) = to_right e (sym f)
flip_edge a b (upward e f) = downward (sym e) f
flip_edge a b (downward e f) = upward (sym e) f

pub flip_linked : (P : ℤ → ℤ → Type 0) (a b : Cell) → Linked P a b → Linked P b a
flip_linked P a b l = record { from = l.to; to = l.from; edge = flip_edge a b l.edge }

abbrev at : ℤ → ℤ → Cell
at x y = record { x = x; y = y }

-- n cells to the right
along : (P : ℤ → ℤ → Type 0) (n : ℕ) (x y : ℤ) → ((z : ℤ) → x ≤ℤ z → z ≤ℤ (x +ℤ pos n) → P z y) → Chain (Linked P) (at x y) (at (x +ℤ pos n) y)
along P zero x y all = none (Linked P) _ _ (let e : x ≡ x +ℤ pos 0 = omega (arith, ints) in ap (λ z. at z y) e)
along P (suc n) x y all =
    let first : Linked P (at x y) (at (x +ℤ pos 1) y) = record { from = all x (omega (arith, ints)) (omega (arith, ints)); to = all (x +ℤ pos 1) (omega (arith, ints)) (omega (arith, ints)); edge = to_right refl refl } in
    let rest : Chain (Linked P) (at (x +ℤ pos 1) y) (at (x +ℤ pos 1 +ℤ pos n) y) = along P n (x +ℤ pos 1) y (λ z l h. all z (omega (arith, ints)) (omega (arith, ints))) in
    let e : x +ℤ pos 1 +ℤ pos n ≡ x +ℤ pos (suc n) = omega (arith, ints) in
    joined (Linked P) (at x y) (at (x +ℤ pos 1) y) (at (x +ℤ pos (suc n)) y) (one (Linked P) _ _ first) (subst (λ z. Chain (Linked P) (at (x +ℤ pos 1) y) (at z y)) e rest)

-- n cells upward
rising : (P : ℤ → ℤ → Type 0) (n : ℕ) (x y : ℤ) → ((z : ℤ) → y ≤ℤ z → z ≤ℤ (y +ℤ pos n) → P x z) → Chain (Linked P) (at x y) (at x (y +ℤ pos n))
rising P zero x y all = none (Linked P) _ _ (let e : y ≡ y +ℤ pos 0 = omega (arith, ints) in ap (λ z. at x z) e)
rising P (suc n) x y all =
    let first : Linked P (at x y) (at x (y +ℤ pos 1)) = record { from = all y (omega (arith, ints)) (omega (arith, ints)); to = all (y +ℤ pos 1) (omega (arith, ints)) (omega (arith, ints)); edge = upward refl refl } in
    let rest : Chain (Linked P) (at x (y +ℤ pos 1)) (at x (y +ℤ pos 1 +ℤ pos n)) = rising P n x (y +ℤ pos 1) (λ z l h. all z (omega (arith, ints)) (omega (arith, ints))) in
    let e : y +ℤ pos 1 +ℤ pos n ≡ y +ℤ pos (suc n) = omega (arith, ints) in
    joined (Linked P) (at x y) (at x (y +ℤ pos 1)) (at x (y +ℤ pos (suc n))) (one (Linked P) _ _ first) (subst (λ z. Chain (Linked P) (at x (y +ℤ pos 1)) (at x z)) e rest)

-- how far one number is above another
record Rise (x s : ℤ) : Type 0 where
  pub count : ℕ
  pub is : s ≡ x +ℤ pos count

rise : (x s : ℤ) → x ≤ℤ s → Rise x s
rise x s le = record { count = unsigned_abs (s -ℤ x); is = omega (arith, ints) }

pub in_row : (P : ℤ → ℤ → Type 0) (x s y : ℤ) → x ≤ℤ s → ((z : ℤ) → x ≤ℤ z → z ≤ℤ s → P z y) → Chain (Linked P) (at x y) (at s y)
in_row P x s y le all =
    let w = rise x s le in
    subst (λ z. Chain (Linked P) (at x y) (at z y)) (sym w.is) (along P w.count x y (λ z l h. all z (omega (arith, ints)) (omega (arith, ints))))

in_column : (P : ℤ → ℤ → Type 0) (x y t : ℤ) → y ≤ℤ t → ((z : ℤ) → y ≤ℤ z → z ≤ℤ t → P x z) → Chain (Linked P) (at x y) (at x t)
in_column P x y t le all =
    let w = rise y t le in
    subst (λ z. Chain (Linked P) (at x y) (at x z)) (sym w.is) (rising P w.count x y (λ z l h. all z (omega (arith, ints)) (omega (arith, ints))))

row_of : (rs : List Rectangle) (r : Rectangle) → Contains rs r → (x s y : ℤ) → Holds r x y → Holds r s y → Chain (Linked (Covers rs)) (at x y) (at s y)
row_of rs r listed x s y h k =
    by_lt_z x s
    (λ less. in_row (Covers rs) x s y (omega (arith, ints)) (λ z l u. record { rect = r; listed = listed; holds = omega (arith, ints) }))
    (λ most. turned (Linked (Covers rs)) (flip_linked (Covers rs)) _ _ (in_row (Covers rs) s x y most (λ z l u. record { rect = r; listed = listed; holds = omega (arith, ints) })))

column_of : (rs : List Rectangle) (r : Rectangle) → Contains rs r → (x y t : ℤ) → Holds r x y → Holds r x t → Chain (Linked (Covers rs)) (at x y) (at x t)
column_of rs r listed x y t h k =
    by_lt_z y t
    (λ less. in_column (Covers rs) x y t (omega (arith, ints)) (λ z l u. record { rect = r; listed = listed; holds = omega (arith, ints) }))
    (λ most. turned (Linked (Covers rs)) (flip_linked (Covers rs)) _ _ (in_column (Covers rs) x t y most (λ z l u. record { rect = r; listed = listed; holds = omega (arith, ints) })))

-- two cells of one rectangle are chained
pub inside : (rs : List Rectangle) (r : Rectangle) → Contains rs r → (x y s t : ℤ) → Holds r x y → Holds r s t → Chain (Linked (Covers rs)) (at x y) (at s t)
inside rs r listed x y s t h k =
    let corner : Holds r s y = omega (arith, ints) in
    joined (Linked (Covers rs)) (at x y) (at s y) (at s t) (row_of rs r listed x s y h corner) (column_of rs r listed s y t corner k)

-- the cells at which two rectangles touch are chained
pub meet : (rs : List Rectangle) (a b : Rectangle) (j : Joint rs a b) → Chain (Linked (Covers rs)) j.touch.one j.touch.other
meet rs a b j =
    let t = j.touch in
    elim t.meet [
      | inl same ↦ none (Linked (Covers rs)) t.one t.other same
      | inr edge ↦ one (Linked (Covers rs)) t.one t.other (record {
        from = record { rect = a; listed = j.from; holds = t.in_a };
        to = record { rect = b; listed = j.to; holds = t.in_b };
        edge = edge;
      })
    ]

cells_of_steps : (rs : List Rectangle) (n : ℕ) (a b : Rectangle) → Contains rs a → Steps (Joint rs) n a b → (x y s t : ℤ) → Holds a x y → Holds b s t → Chain (Linked (Covers rs)) (at x y) (at s t)
cells_of_steps rs zero a b listed e x y s t h k = inside rs a listed x y s t h (subst (λ r. Holds r s t) (sym e) k)
cells_of_steps rs (suc n) a b listed (m, j, rest) x y s t h k =
    let c = j.touch in
    let there : Chain (Linked (Covers rs)) (at x y) c.one = inside rs a listed x y c.one.x c.one.y h c.in_a in
    let on : Chain (Linked (Covers rs)) c.other (at s t) = cells_of_steps rs n m b j.to rest c.other.x c.other.y s t c.in_b k in
    joined (Linked (Covers rs)) (at x y) c.one (at s t) there (joined (Linked (Covers rs)) c.one c.other (at s t) (meet rs a m j) on)

-- cells of rectangles that are joined by touching ones are chained
pub cells_of_chain : (rs : List Rectangle) (a b : Rectangle) → Contains rs a → Chain (Joint rs) a b → (x y s t : ℤ) → Holds a x y → Holds b s t → Chain (Linked (Covers rs)) (at x y) (at s t)
cells_of_chain rs a b listed k = cells_of_steps rs k.count a b listed k.steps
