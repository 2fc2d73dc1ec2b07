-- The nets of a drawing by the names that its labels give them.
use Rattle.std.specs.Prelude.{◌≡◌, ◌↔◌, ℕ, List, [], get_or}
use Rattle.std.specs.List.{Any, Contains}
use Rattle.cell_num.specs.declared.net.NetNo.{NetNo}
use Rattle.box_geom.specs.declared.shape.Label.{Label}
use Rattle.box_geom.specs.declared.shape.Shapes.{Shapes}
use Rattle.scmos_rules.specs.declared.rules.Deck.{Deck}
use Rattle.net_extract.specs.Nets.{Site, Conducts, SameNet}
use Rattle.net_extract.specs.Labels.{Belongs, IsNamed}

-- the name of a net by its number
abbrev pub name_of : List (List ℕ) → NetNo → List ℕ
name_of names net = get_or names net.0 []

-- the conductor cell that a label belongs to
pub record HasSite (shapes : Shapes) (l : Label) : Type 0 where
  pub site : Site
  pub belongs : Belongs shapes.rects l site

-- Every label belongs to a conductor cell; the labels are the names; two labels are in one net exactly
-- where they are equal; every net has a label.
pub record AreNamed (deck : Deck) (names : List (List ℕ)) (shapes : Shapes) : Type 0 where
  pub belong : (l : Label) → Contains shapes.labels l → HasSite shapes l
  pub known : (l : Label) → Contains shapes.labels l → Contains names l.name
  pub all : (name : List ℕ) → Contains names name → Any (λ (l : Label). l.name ≡ name) shapes.labels
  pub apart : (l m : Label) (a b : Site) → Contains shapes.labels l → Contains shapes.labels m →
      Belongs shapes.rects l a → Belongs shapes.rects m b → SameNet deck shapes.rects a b ↔ l.name ≡ m.name
  pub every : (a : Site) → Conducts shapes.rects a → (name : List ℕ) × IsNamed deck shapes name a
