-- What spacing asks of two rectangles of a layer.
use Rattle.std.proofs.Common.{ℕ, arith, inl, inr, ◌⊎◌}
use Rattle.std.proofs.lemmas.Int.{ints}
use Rattle.box_geom.specs.Rectangle.{Rectangle, IsProper}
use Rattle.box_geom.proofs.Meeting.{Beside, Stacked}
use Rattle.scmos_rules.specs.Conditions.{Close}

-- Where the two are close they touch, and Same holds: that they are of one net, say.
pub record IsGood (v : ℕ) (a b : Rectangle) (Same : Type 0) : Type 0 where
  pub touch : Close v a b → Beside a b ⊎ Stacked a b
  pub same : Close v a b → Same

pub never : {v : ℕ} {a b : Rectangle} {Same : Type 0} → (Close v a b → ⊥) → IsGood v a b Same
never far = record { touch = λ c. absurd (far c); same = λ c. absurd (far c) }

pub besides : {v : ℕ} {a b : Rectangle} {Same : Type 0} → Beside a b → Same → IsGood v a b Same
besides t s = record { touch = λ c. inl t; same = λ c. s }

pub stacks : {v : ℕ} {a b : Rectangle} {Same : Type 0} → Stacked a b → Same → IsGood v a b Same
stacks t s = record { touch = λ c. inr t; same = λ c. s }

-- a rectangle with itself
pub itself : {v : ℕ} {a : Rectangle} {Same : Type 0} → IsProper a → Same → IsGood v a a Same
itself {v} {a} p s = besides {v = v} {a = a} {b = a} (omega (arith, ints)) s

pub flip : {v : ℕ} {a b : Rectangle} {Same Other : Type 0} → (Same → Other) → IsGood v a b Same → IsGood v b a Other
flip {v} {a} {b} turn g = record {
  touch = λ c. elim (g.touch (omega (arith, ints))) [ inl t ↦ inl (omega (arith, ints)) | inr t ↦ inr (omega (arith, ints)) ];
  same = λ c. turn (g.same (omega (arith, ints)));
}
