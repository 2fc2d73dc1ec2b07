-- Whether some rectangles cover a cell is decided.
use Rattle.std.proofs.Common.{ℤ, Bool, true, false, List, [], ◌∷◌, inl, inr, ◌⊎◌, refl}
use Rattle.std.specs.Bool.{Decides}
use Rattle.box_geom.specs.Comparisons.{holding}
use Rattle.box_geom.specs.Rectangle.{Rectangle, Holds, Covers}
use Rattle.net_extract.proofs.Covering.{cover_none, cover_first, cover_later, cover_split}
use Rattle.net_extract.proofs.Filling.{holds_decides}

pub covers_or_not : (rs : List Rectangle) (x y : ℤ) → (Covers rs x y → ⊥) ⊎ Covers rs x y
covers_or_not [] x y = inl (λ c. cover_none x y c)
covers_or_not (r ∷ rs) x y = by (holding r x y) (holds_decides r x y) (covers_or_not rs x y)
  where
    by : (b : Bool) → Decides b (Holds r x y) → (Covers rs x y → ⊥) ⊎ Covers rs x y → (Covers (r ∷ rs) x y → ⊥) ⊎ Covers (r ∷ rs) x y
    by true d rest = inr (cover_first r rs x y (d.0 refl))
    by false d (inr c) = inr (cover_later r rs x y c)
    by false d (inl none) = inl (λ c. elim (cover_split r rs x y c) [ inl h ↦ absurd (cc (d.1 h)) | inr l ↦ none l ])
