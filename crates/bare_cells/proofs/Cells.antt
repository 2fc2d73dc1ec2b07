-- Whether some rectangles cover a cell is decided.
use Rattle.std.proofs.Common.{ℤ, Bool, true, false, List, [], ◌∷◌, inl, inr, ◌⊎◌, refl, sym, subst}
use Rattle.std.specs.Bool.{Decides}
use Rattle.std.proofs.lemmas.Bool.Decides.{Decides-and, Decides-like}
use Rattle.cell_num.proofs.Lists.{contains_none, contains_cons, contains_here, contains_there}
use Rattle.box_geom.specs.Comparisons.{within, holding}
use Rattle.box_geom.specs.Rectangle.{Rectangle, Holds, Covers}
use Rattle.box_geom.proofs.Spans.{within_decides}

holds_decides : (r : Rectangle) (x y : ℤ) → Decides (holding r x y) (Holds r x y)
holds_decides r x y = Decides-like (holding r x y) (λ h. record { left = h.0.0; right = h.0.1; low = h.1.0; high = h.1.1 }) (λ h. ((h.left, h.right), (h.low, h.high))) (Decides-and (within r.x1 r.x2 x) (within r.y1 r.y2 y) (within_decides r.x1 r.x2 x) (within_decides r.y1 r.y2 y))

pub cover_none : (x y : ℤ) → Covers [] x y → ⊥
cover_none x y c = contains_none c.rect c.listed

cover_first : (r : Rectangle) (rs : List Rectangle) (x y : ℤ) → Holds r x y → Covers (r ∷ rs) x y
cover_first r rs x y h = record { rect = r; listed = contains_here r rs; holds = h }

cover_later : (r : Rectangle) (rs : List Rectangle) (x y : ℤ) → Covers rs x y → Covers (r ∷ rs) x y
cover_later r rs x y c = record { rect = c.rect; listed = contains_there r rs c.rect c.listed; holds = c.holds }

cover_split : (r : Rectangle) (rs : List Rectangle) (x y : ℤ) → Covers (r ∷ rs) x y → Holds r x y ⊎ Covers rs x y
cover_split r rs x y c =
    elim (contains_cons r rs c.rect c.listed) [
      | inl e ↦ let h = c.holds in inl (subst (λ (z : Rectangle). Holds z x y) (sym e) h)
      | inr l ↦ inr (record { rect = c.rect; listed = l; holds = c.holds })
    ]

pub covers_or_not : (rs : List Rectangle) (x y : ℤ) → (Covers rs x y → ⊥) ⊎ Covers rs x y
covers_or_not [] x y = inl (λ c. cover_none x y c)
covers_or_not (r ∷ rs) x y = by (holding r x y) (holds_decides r x y) (covers_or_not rs x y)
  where
    by : (b : Bool) → Decides b (Holds r x y) → (Covers rs x y → ⊥) ⊎ Covers rs x y → (Covers (r ∷ rs) x y → ⊥) ⊎ Covers (r ∷ rs) x y
    by true d rest = inr (cover_first r rs x y (d.0 refl))
    by false d (inr c) = inr (cover_later r rs x y c)
    by false d (inl none) = inl (λ c. elim (cover_split r rs x y c) [ inl h ↦ absurd (cc (d.1 h)) | inr l ↦ none l ])
