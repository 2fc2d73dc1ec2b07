-- A macro agrees with a drawing or differs from it, and in one thing first.
use Rattle.std.proofs.Common.{◌≡◌, ℕ, ℤ, inl, inr, List, [], ◌∷◌, refl, sym, subst, ap, ◌∙◌}
use Rattle.std.specs.List.{All}
use Rattle.std.proofs.lemmas.List.Elements.{All-head, All-tail}
use Rattle.box_geom.specs.Regions.{IsFirst}
use Rattle.box_geom.specs.declared.layer.Layer.{Layer}
use Rattle.box_geom.specs.declared.layer.Layer.TheVariants.{Well, Active, PSelect, NSelect, Poly, Contact, Metal1, Via, Metal2}
use Rattle.box_geom.specs.declared.shape.Shapes.{Shapes}
use Rattle.lef_read.specs.declared.cell.Macro.{Macro}
use Rattle.lef_read.specs.Agreement.{Agrees, HasLabel, IsOnItsNet, IsShown, Port, ports_of, metals}
use Rattle.lef_read.specs.Differences.{DiffersBy, HasNetlist, HasBareMetal, HasPortOff, LacksLabel, IsBare, IsBareMetal, IsFirstMetal, IsOff}
use Rattle.lef_read.specs.declared.differ.Differ.{Differ}
use Rattle.lef_read.specs.declared.differ.Differ.TheVariants.{Extract, NoLabel, Port as PortOff, Bare, NoMemory}
use Rattle.lef_read.proofs.Firsts.{not_all, one_cell, one_first}
use Rattle.lef_read.proofs.Refusals.{one_refusal}

-- ---- a macro that agrees
not_bare : (shapes : Shapes) (cell : Macro) → All (IsShown shapes cell) metals → (x y : ℤ) → IsBareMetal shapes cell x y → ⊥
not_bare shapes cell shown x y (inl b) = b.1 (All-head (IsShown shapes cell) Metal1 (Metal2 ∷ []) shown x y b.0)
not_bare shapes cell shown x y (inr b) = b.1 (All-head (IsShown shapes cell) Metal2 [] (All-tail (IsShown shapes cell) Metal1 (Metal2 ∷ []) shown) x y b.0)

pub agrees_alone : (shapes : Shapes) (cell : Macro) (d : Differ) → HasNetlist shapes → Agrees shapes cell → DiffersBy shapes cell d → d ≡ NoMemory
agrees_alone shapes cell (Extract f) has agrees differs = absurd (differs.0 (has f differs.1))
agrees_alone shapes cell (NoLabel name) has agrees differs = absurd (not_all (HasLabel shapes) cell.pins differs.pin differs.first agrees.labels)
agrees_alone shapes cell (PortOff name x y) has agrees differs = absurd (not_all (IsOnItsNet shapes) (ports_of cell.pins) differs.port differs.first agrees.ports)
agrees_alone shapes cell (Bare layer x y) has agrees differs = absurd (not_bare shapes cell agrees.rest x y differs.at.covered)
agrees_alone shapes cell NoMemory has agrees differs = refl

-- ---- one difference
labels_same : (shapes : Shapes) (cell : Macro) (m n : List ℕ) → LacksLabel shapes cell m → LacksLabel shapes cell n → m ≡ n
labels_same shapes cell m n a b = sym a.named ∙ (ap (λ p. p.name) (one_first (HasLabel shapes) cell.pins a.pin b.pin a.first b.first) ∙ b.named)

port_made : (m n : List ℕ) (x y s t : ℤ) → m ≡ n → (x ≡ s) × (y ≡ t) → PortOff m x y ≡ PortOff n s t
port_made m n x y s t e c = let f = c.0 in let g = c.1 in cc

ports_same : (shapes : Shapes) (cell : Macro) (m n : List ℕ) (x y s t : ℤ) → HasPortOff shapes cell m x y → HasPortOff shapes cell n s t → PortOff m x y ≡ PortOff n s t
ports_same shapes cell m n x y s t a b =
    let port : a.port ≡ b.port = one_first (IsOnItsNet shapes) (ports_of cell.pins) a.port b.port a.first b.first in
    port_made m n x y s t (sym a.named ∙ (ap (λ (p : Port). p.pin) port ∙ b.named)) (one_cell (IsOff shapes b.port) x y s t (subst (λ p. IsFirst (IsOff shapes p) x y) port a.at) b.at)

first_metal : (P : Layer → Type 0) (k l : Layer) → IsFirstMetal P k → IsFirstMetal P l → k ≡ l
first_metal P Metal1 Metal1 a b = refl
first_metal P Metal1 Metal2 a b = absurd (b.0 a)
first_metal P Metal2 Metal1 a b = absurd (a.0 b)
first_metal P Metal2 Metal2 a b = refl
first_metal P Well l a b = absurd a
first_metal P Active l a b = absurd a
first_metal P PSelect l a b = absurd a
first_metal P NSelect l a b = absurd a
first_metal P Poly l a b = absurd a
first_metal P Contact l a b = absurd a
first_metal P Via l a b = absurd a
first_metal P Metal1 Well a b = absurd b
first_metal P Metal1 Active a b = absurd b
first_metal P Metal1 PSelect a b = absurd b
first_metal P Metal1 NSelect a b = absurd b
first_metal P Metal1 Poly a b = absurd b
first_metal P Metal1 Contact a b = absurd b
first_metal P Metal1 Via a b = absurd b
first_metal P Metal2 Well a b = absurd b
first_metal P Metal2 Active a b = absurd b
first_metal P Metal2 PSelect a b = absurd b
first_metal P Metal2 NSelect a b = absurd b
first_metal P Metal2 Poly a b = absurd b
first_metal P Metal2 Contact a b = absurd b
first_metal P Metal2 Via a b = absurd b

bare_made : (k l : Layer) (x y s t : ℤ) → k ≡ l → x ≡ s → y ≡ t → Bare k x y ≡ Bare l s t
bare_made k l x y s t e f g = cc

bares_same : (shapes : Shapes) (cell : Macro) (k l : Layer) (x y s t : ℤ) → HasBareMetal shapes cell k x y → HasBareMetal shapes cell l s t → Bare k x y ≡ Bare l s t
bares_same shapes cell k l x y s t a b =
    let (across, up) = one_cell (IsBareMetal shapes cell) x y s t a.at b.at in
    bare_made k l x y s t (first_metal (λ m. IsBare shapes cell m s t) k l (subst (λ v. IsFirstMetal (λ m. IsBare shapes cell m s v) k) up (subst (λ u. IsFirstMetal (λ m. IsBare shapes cell m u y) k) across a.on)) b.on) across up

pub one_answer : (shapes : Shapes) (cell : Macro) (d e : Differ) → (d ≡ NoMemory → ⊥) → (e ≡ NoMemory → ⊥) → DiffersBy shapes cell d → DiffersBy shapes cell e → d ≡ e
one_answer shapes cell NoMemory e nd ne a b = absurd (nd refl)
one_answer shapes cell (Extract f) NoMemory nd ne a b = absurd (ne refl)
one_answer shapes cell (Extract f) (Extract g) nd ne a b = ap (λ h. Extract h) (one_refusal shapes f g a.0 b.0 a.1 b.1)
one_answer shapes cell (Extract f) (NoLabel n) nd ne a b = absurd (a.0 (b.netlist f a.1))
one_answer shapes cell (Extract f) (PortOff n s t) nd ne a b = absurd (a.0 (b.netlist f a.1))
one_answer shapes cell (Extract f) (Bare l s t) nd ne a b = absurd (a.0 (b.netlist f a.1))
one_answer shapes cell (NoLabel m) NoMemory nd ne a b = absurd (ne refl)
one_answer shapes cell (NoLabel m) (Extract g) nd ne a b = absurd (b.0 (a.netlist g b.1))
one_answer shapes cell (NoLabel m) (NoLabel n) nd ne a b = ap (λ z. NoLabel z) (labels_same shapes cell m n a b)
one_answer shapes cell (NoLabel m) (PortOff n s t) nd ne a b = absurd (not_all (HasLabel shapes) cell.pins a.pin a.first b.labels)
one_answer shapes cell (NoLabel m) (Bare l s t) nd ne a b = absurd (not_all (HasLabel shapes) cell.pins a.pin a.first b.labels)
one_answer shapes cell (PortOff m x y) NoMemory nd ne a b = absurd (ne refl)
one_answer shapes cell (PortOff m x y) (Extract g) nd ne a b = absurd (b.0 (a.netlist g b.1))
one_answer shapes cell (PortOff m x y) (NoLabel n) nd ne a b = absurd (not_all (HasLabel shapes) cell.pins b.pin b.first a.labels)
one_answer shapes cell (PortOff m x y) (PortOff n s t) nd ne a b = ports_same shapes cell m n x y s t a b
one_answer shapes cell (PortOff m x y) (Bare l s t) nd ne a b = absurd (not_all (IsOnItsNet shapes) (ports_of cell.pins) a.port a.first b.ports)
one_answer shapes cell (Bare k x y) NoMemory nd ne a b = absurd (ne refl)
one_answer shapes cell (Bare k x y) (Extract g) nd ne a b = absurd (b.0 (a.netlist g b.1))
one_answer shapes cell (Bare k x y) (NoLabel n) nd ne a b = absurd (not_all (HasLabel shapes) cell.pins b.pin b.first a.labels)
one_answer shapes cell (Bare k x y) (PortOff n s t) nd ne a b = absurd (not_all (IsOnItsNet shapes) (ports_of cell.pins) b.port b.first a.ports)
one_answer shapes cell (Bare k x y) (Bare l s t) nd ne a b = bares_same shapes cell k l x y s t a b
