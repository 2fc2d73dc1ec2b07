-- Members of lists of rectangles, and rectangles of a drawing that is put together.
use Rattle.std.proofs.Common.{ℤ, List, [], ◌∷◌, ◌⊎◌, inl, inr, sym, subst}
use Rattle.cell_num.proofs.Lists.{contains_none, contains_cons, contains_here, contains_there}
use Rattle.box_geom.specs.Rectangle.{Rectangle, Holds, Covers}

pub cover_none : (x y : ℤ) → Covers [] x y → ⊥
cover_none x y c = contains_none c.rect c.listed

pub cover_first : (r : Rectangle) (rs : List Rectangle) (x y : ℤ) → Holds r x y → Covers (r ∷ rs) x y
cover_first r rs x y h = record { rect = r; listed = contains_here r rs; holds = h }

pub cover_later : (r : Rectangle) (rs : List Rectangle) (x y : ℤ) → Covers rs x y → Covers (r ∷ rs) x y
cover_later r rs x y c = record { rect = c.rect; listed = contains_there r rs c.rect c.listed; holds = c.holds }

pub cover_split : (r : Rectangle) (rs : List Rectangle) (x y : ℤ) → Covers (r ∷ rs) x y → Holds r x y ⊎ Covers rs x y
cover_split r rs x y c =
    elim (contains_cons r rs c.rect c.listed) [
      | inl e ↦ let h = c.holds in inl (subst (λ (z : Rectangle). Holds z x y) (sym e) h)
      | inr l ↦ inr (record { rect = c.rect; listed = l; holds = c.holds })
    ]
