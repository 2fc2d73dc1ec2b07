-- The row of a list of rectangles: the columns of those that stand at it.
use Rattle.std.proofs.Common.{◌≡◌, ◌↔◌, ℤ, ◌≤ℤ◌, ◌<ℤ◌, List, [], ◌∷◌, Bool, true, false, cond, inl, inr, ◌⊎◌, refl, sym, subst, true≢false, ◌∙◌}
use Rattle.std.specs.List.{filter}
use Rattle.cell_num.proofs.Lists.{contains_none, contains_cons, contains_here, contains_there}
use Rattle.box_geom.specs.Rectangle.{Rectangle, Holds, Covers}
use Rattle.box_geom.specs.Sweeping.{Spans, AreRangesOf}
use Rattle.box_geom.specs.Banding.{AreRowOf}
use Rattle.box_geom.specs.Standing.{stands_at}
use Rattle.box_geom.specs.declared.ranges.XRange.{XRange}
use Rattle.box_geom.specs.declared.sweep.Operation.{Operation}
use Rattle.box_geom.proofs.Spans.{within_decides}
use Rattle.box_geom.proofs.Sweeps.{meant_like}

pub covers_first : (r : Rectangle) (rs : List Rectangle) (x y : ℤ) → Holds r x y → Covers (r ∷ rs) x y
covers_first r rs x y h = record { rect = r; listed = contains_here r rs; holds = h }

pub covers_later : (r : Rectangle) (rs : List Rectangle) (x y : ℤ) → Covers rs x y → Covers (r ∷ rs) x y
covers_later r rs x y c = record { rect = c.rect; listed = contains_there r rs c.rect c.listed; holds = c.holds }

pub covers_split : (r : Rectangle) (rs : List Rectangle) (x y : ℤ) → Covers (r ∷ rs) x y → Holds r x y ⊎ Covers rs x y
covers_split r rs x y c = elim (contains_cons r rs c.rect c.listed) [ inl e ↦ inl (subst (λ (z : Rectangle). Holds z x y) (sym e) c.holds) | inr d ↦ inr (record { rect = c.rect; listed = d; holds = c.holds }) ]

spans_later : (r : Rectangle) (rs : List Rectangle) (x : ℤ) → Spans rs x → Spans (r ∷ rs) x
spans_later r rs x c = record { rect = c.rect; listed = contains_there r rs c.rect c.listed; from = c.from; to = c.to }

spans_split : (r : Rectangle) (rs : List Rectangle) (x : ℤ) → Spans (r ∷ rs) x → ((r.x1 ≤ℤ x) × (x <ℤ r.x2)) ⊎ Spans rs x
spans_split r rs x c = elim (contains_cons r rs c.rect c.listed) [ inl e ↦ inl (subst (λ (z : Rectangle). (z.x1 ≤ℤ x) × (x <ℤ z.x2)) (sym e) (c.from, c.to)) | inr d ↦ inr (record { rect = c.rect; listed = d; from = c.from; to = c.to }) ]

spans_standing : (rs : List Rectangle) (x y : ℤ) → Spans (filter (stands_at y) rs) x ↔ Covers rs x y
spans_standing [] x y = (λ c. absurd (contains_none c.rect c.listed), λ c. absurd (contains_none c.rect c.listed))
spans_standing (r ∷ rs) x y = step (stands_at y r) refl (spans_standing rs x y)
  where
    step : (b : Bool) → stands_at y r ≡ b → (Spans (filter (stands_at y) rs) x ↔ Covers rs x y) → Spans (cond b (r ∷ filter (stands_at y) rs) (filter (stands_at y) rs)) x ↔ Covers (r ∷ rs) x y
    step true e (there, back) =
        let in' : (r.y1 ≤ℤ y) × (y <ℤ r.y2) = (within_decides r.y1 r.y2 y).0 e in
        let low = in'.0 in
        let high = in'.1 in (
          λ c. elim (spans_split r (filter (stands_at y) rs) x c) [ inl h ↦ covers_first r rs x y (record { left = h.0; right = h.1; low = low; high = high }) | inr d ↦ covers_later r rs x y (there d) ],
          λ c. elim (covers_split r rs x y c) [ inl h ↦ record { rect = r; listed = contains_here r (filter (stands_at y) rs); from = h.left; to = h.right } | inr d ↦ spans_later r (filter (stands_at y) rs) x (back d) ],
        )
    step false e (there, back) = (
      λ c. covers_later r rs x y (there c),
      λ c. elim (covers_split r rs x y c) [ inl h ↦ absurd (true≢false (sym ((within_decides r.y1 r.y2 y).1 (h.low, h.high)) ∙ e)) | inr d ↦ back d ],
    )

pub row_of_standing : (op : Operation) (a b p q : List Rectangle) (y : ℤ) (rs : List XRange) → p ≡ filter (stands_at y) a → q ≡ filter (stands_at y) b → AreRangesOf op p q rs → AreRowOf op a b y rs
row_of_standing op a b p q y rs e f r = record {
  spread = r.spread;
  same = λ x.
      let u = subst (λ z. Spans z x ↔ Covers a x y) (sym e) (spans_standing a x y) in
      let v = subst (λ z. Spans z x ↔ Covers b x y) (sym f) (spans_standing b x y) in
      (λ h. meant_like op _ _ _ _ u v ((r.same x).0 h), λ m. (r.same x).1 (meant_like op _ _ _ _ (u.1, u.0) (v.1, v.0) m));
}
