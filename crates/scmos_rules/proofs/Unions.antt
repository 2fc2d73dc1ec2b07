-- Regions put together show what the sets put together hold.
use Rattle.std.proofs.Common.{◌↔◌, ℤ, List, ◌⊎◌, inl, inr, arith}
use Rattle.std.proofs.lemmas.Int.{ints}
use Rattle.std.proofs.lemmas.List.Elements.{All-contains}
use Rattle.box_geom.specs.Rectangle.{Rectangle, IsRectangle, Covers}
use Rattle.box_geom.specs.Layers.{rects_on, AreWithinLimits}
use Rattle.box_geom.specs.Regions.{SameCells}
use Rattle.box_geom.specs.declared.shape.Shape.{Shape}
use Rattle.box_geom.specs.declared.layer.Layer.{Layer}
use Rattle.scmos_rules.specs.Layout.{On}
use Rattle.scmos_rules.specs.Cells.{AreCells, AreInner, IsInner}

pub on_cells : (layer : Layer) (s : List Shape) (r : List Rectangle) → SameCells r (rects_on layer s) → AreCells (On layer s) r
on_cells layer s r same = record { same = same }

pub on_inner : (layer : Layer) (s : List Shape) (r : List Rectangle) → AreWithinLimits s → SameCells r (rects_on layer s) → AreInner r
on_inner layer s r limits same = record { inner = λ x y c. of x y ((same x y).0 c) }
  where
    of : (x y : ℤ) → Covers (rects_on layer s) x y → IsInner x y
    of x y c = let k = All-contains IsRectangle (rects_on layer s) c.rect (limits.on layer) c.listed in let h = c.holds in let a = k.left in let b = k.right in let d = k.low in let e = k.top in record { left = omega (arith, ints); right = omega (arith, ints); low = omega (arith, ints); high = omega (arith, ints) }

pub both_cells : (P Q : ℤ → ℤ → Type 0) (a b r : List Rectangle) → AreCells P a → AreCells Q b → ((x y : ℤ) → Covers r x y ↔ (Covers a x y × Covers b x y)) → AreCells (λ x y. P x y × Q x y) r
both_cells P Q a b r p q m = record { same = λ x y. (λ c. let d = (m x y).0 c in ((p.same x y).0 d.0, (q.same x y).0 d.1), λ d. (m x y).1 ((p.same x y).1 d.0, (q.same x y).1 d.1)) }

pub both_inner : (a b r : List Rectangle) → AreInner a → ((x y : ℤ) → Covers r x y ↔ (Covers a x y × Covers b x y)) → AreInner r
both_inner a b r i m = record { inner = λ x y c. i.inner x y ((m x y).0 c).0 }

pub minus_cells : (P Q : ℤ → ℤ → Type 0) (a b r : List Rectangle) → AreCells P a → AreCells Q b → ((x y : ℤ) → Covers r x y ↔ (Covers a x y × (Covers b x y → ⊥))) → AreCells (λ x y. P x y × (Q x y → ⊥)) r
minus_cells P Q a b r p q m = record { same = λ x y. (λ c. let d = (m x y).0 c in ((p.same x y).0 d.0, λ e. d.1 ((q.same x y).1 e)), λ d. (m x y).1 ((p.same x y).1 d.0, λ e. d.1 ((q.same x y).0 e))) }

pub minus_inner : (a b r : List Rectangle) → AreInner a → ((x y : ℤ) → Covers r x y ↔ (Covers a x y × (Covers b x y → ⊥))) → AreInner r
minus_inner a b r i m = record { inner = λ x y c. i.inner x y ((m x y).0 c).0 }

pub either_cells : (P Q : ℤ → ℤ → Type 0) (a b r : List Rectangle) → AreCells P a → AreCells Q b → ((x y : ℤ) → Covers r x y ↔ (Covers a x y ⊎ Covers b x y)) → AreCells (λ x y. P x y ⊎ Q x y) r
either_cells P Q a b r p q m = record { same = λ x y. (λ c. elim ((m x y).0 c) [ inl d ↦ inl ((p.same x y).0 d) | inr d ↦ inr ((q.same x y).0 d) ], λ d. (m x y).1 (elim d [ inl e ↦ inl ((p.same x y).1 e) | inr e ↦ inr ((q.same x y).1 e) ])) }

pub either_inner : (a b r : List Rectangle) → AreInner a → AreInner b → ((x y : ℤ) → Covers r x y ↔ (Covers a x y ⊎ Covers b x y)) → AreInner r
either_inner a b r i j m = record { inner = λ x y c. elim ((m x y).0 c) [ inl d ↦ i.inner x y d | inr d ↦ j.inner x y d ] }

pub bare_cells : (P Q R : ℤ → ℤ → Type 0) (a b c m r : List Rectangle) → AreCells P a → AreCells Q b → AreCells R c → ((x y : ℤ) → Covers m x y ↔ (Covers a x y × (Covers b x y → ⊥))) → ((x y : ℤ) → Covers r x y ↔ (Covers m x y × (Covers c x y → ⊥))) → AreCells (λ x y. P x y × ((Q x y → ⊥) × (R x y → ⊥))) r
bare_cells P Q R a b c m r p q s f g = record {
  same = λ x y. (
    λ u. let v = (g x y).0 u in let w = (f x y).0 v.0 in ((p.same x y).0 w.0, (λ e. w.1 ((q.same x y).1 e), λ e. v.1 ((s.same x y).1 e))),
    λ d. (g x y).1 ((f x y).1 ((p.same x y).1 d.0, λ k. d.1.0 ((q.same x y).0 k)), λ k. d.1.1 ((s.same x y).0 k)),
  );
}
