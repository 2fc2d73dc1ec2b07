-- Rectangles of a layer by the pieces that they come from.
use Rattle.std.proofs.Common.{◌≡◌, ℕ, ◌≤◌, ℤ, List, arith, inl, inr, ◌⊎◌, sym, subst, ◌∙◌}
use Rattle.std.specs.List.{All, Contains}
use Rattle.std.proofs.lemmas.Int.{ints}
use Rattle.box_geom.specs.Rectangle.{Rectangle, IsProper, Holds, Covers}
use Rattle.box_geom.proofs.Meeting.{Beside, Stacked, sides_touch, touch_sides}
use Rattle.scmos_rules.specs.Conditions.{Close, AreAlone, AreTouching}
use Rattle.cell_num.proofs.Lists.{all_from_contains}
use Rattle.cell_draw.proofs.RulesGood.{IsGood}

-- a rectangle is that of a piece
pub record Origin {X : Type 0} (Is : X → Type 0) (rect : X → Rectangle) (r : Rectangle) : Type 0 where
  pub piece : X
  pub listed : Is piece
  pub is : rect piece ≡ r

-- a piece holds the cell
pub record Held {X : Type 0} (Is : X → Type 0) (rect : X → Rectangle) (x y : ℤ) : Type 0 where
  pub piece : X
  pub listed : Is piece
  pub holds : Holds (rect piece) x y

pub held : {X : Type 0} (Is : X → Type 0) (rect : X → Rectangle) (rs : List Rectangle) → ((r : Rectangle) → Contains rs r → Origin Is rect r) → (x y : ℤ) → Covers rs x y → Held Is rect x y
held Is rect rs origin x y c =
    let o = origin c.rect c.listed in
    record { piece = o.piece; listed = o.listed; holds = subst (λ r. Holds r x y) (sym o.is) c.holds }

-- what holds of every piece holds of all rectangles
pub all_pieces : {X : Type 0} (Is : X → Type 0) (rect : X → Rectangle) (rs : List Rectangle) (Q : Rectangle → Type 0) → ((r : Rectangle) → Contains rs r → Origin Is rect r) → ((p : X) → Is p → Q (rect p)) → All Q rs
all_pieces Is rect rs Q origin each = all_from_contains Q rs (λ r c. let o = origin r c in subst Q o.is (each o.piece o.listed))

sides_of : {X : Type 0} (Is : X → Type 0) (rect : X → Rectangle) (Same : X → X → Type 0) (v : ℕ) (a b : Rectangle) (o : Origin Is rect a) (p : Origin Is rect b) → IsGood v (rect o.piece) (rect p.piece) (Same o.piece p.piece) → Close v a b → Beside a b ⊎ Stacked a b
sides_of Is rect Same v a b o p good close =
    subst (λ r. Beside r b ⊎ Stacked r b) o.is
    (subst (λ r. Beside (rect o.piece) r ⊎ Stacked (rect o.piece) r) p.is
    (good.touch (subst (λ r. Close v (rect o.piece) r) (sym p.is) (subst (λ r. Close v r b) (sym o.is) close))))

-- where close pieces touch, close rectangles do
pub touching : {X : Type 0} (Is : X → Type 0) (rect : X → Rectangle) (Same : X → X → Type 0) (v : ℕ) (rs : List Rectangle) → ((r : Rectangle) → Contains rs r → Origin Is rect r) → ((p : X) → Is p → IsProper (rect p)) → ((p q : X) → Is p → Is q → IsGood v (rect p) (rect q) (Same p q)) → AreTouching v rs
touching Is rect Same v rs origin proper good = record {
  touch = λ a b la lb close.
      let o = origin a la in
      let p = origin b lb in
      sides_touch a b (subst IsProper o.is (proper o.piece o.listed)) (subst IsProper p.is (proper p.piece p.listed))
      (sides_of Is rect Same v a b o p (good o.piece p.piece o.listed p.listed) close);
}

pub close_sides : (v : ℕ) → 1 ≤ v → (a b : Rectangle) → Beside a b ⊎ Stacked a b → Close v a b
close_sides v least a b (inl t) = omega (arith, ints)
close_sides v least a b (inr t) = omega (arith, ints)

-- where close pieces are one rectangle, no two different rectangles touch
pub alone : {X : Type 0} (Is : X → Type 0) (rect : X → Rectangle) (v : ℕ) (rs : List Rectangle) → 1 ≤ v → ((r : Rectangle) → Contains rs r → Origin Is rect r) → ((p q : X) → Is p → Is q → IsGood v (rect p) (rect q) (rect p ≡ rect q)) → AreAlone rs
alone Is rect v rs least origin good = record {
  same = λ a b la lb touch.
      let o = origin a la in
      let p = origin b lb in
      let close : Close v a b = close_sides v least a b (touch_sides a b touch) in
      sym o.is ∙ ((good o.piece p.piece o.listed p.listed).same (subst (λ r. Close v (rect o.piece) r) (sym p.is) (subst (λ r. Close v r b) (sym o.is) close)) ∙ p.is);
}
