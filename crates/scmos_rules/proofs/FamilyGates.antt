-- Gates and field poly of layouts that stand apart: what fails in all of them together fails in one.
use Rattle.std.proofs.Common.{◌↔◌, ℕ, ◌≤◌, ◌+◌, ℤ, pos, ◌+ℤ◌, ◌-ℤ◌, List, arith, sym, subst}
use Rattle.std.proofs.lemmas.Int.{ints}
use Rattle.box_geom.specs.Near.{Near}
use Rattle.box_geom.specs.declared.shape.Shape.{Shape}
use Rattle.box_geom.specs.declared.layer.Layer.{Layer}
use Rattle.box_geom.specs.declared.layer.Layer.TheVariants.{Active, Poly}
use Rattle.box_geom.specs.Regions.{IsEmpty}
use Rattle.scmos_rules.specs.Gates.{Way, right, left, up, down, Ahead, FailsPolyEnd, FailsActiveEnd, FailsFieldPoly}
use Rattle.scmos_rules.specs.Layout.{On, Gate, Diffusion, Bare}
use Rattle.scmos_rules.proofs.Families.{AnyOf, AreApart}

-- the layout has on the layer what its parts have
abbrev pub Consists : {X : Type 0} → (X → List Shape) → List Shape → Layer → Type 0
Consists s u layer = (x y : ℤ) → On layer u x y ↔ AnyOf (λ i. On layer (s i)) x y

-- its active and its poly come from parts that are more than two cells apart
pub record AreGateParts {X : Type 0} (s : X → List Shape) (u : List Shape) : Type 0 where
  pub active : Consists s u Active
  pub poly : Consists s u Poly
  pub actives : AreApart (λ i. On Active (s i)) (λ i. On Active (s i)) 2
  pub gates : AreApart (λ i. On Active (s i)) (λ i. On Poly (s i)) 2
  pub polys : AreApart (λ i. On Poly (s i)) (λ i. On Active (s i)) 2

ahead_map : (P Q : ℤ → ℤ → Type 0) (way : Way) (k : ℕ) (x y : ℤ) → k ≤ 2 → ((s t : ℤ) → Near 2 x y s t → P s t → Q s t) → Ahead P way k x y → Ahead Q way k x y
ahead_map P Q right k x y few f = f (x +ℤ pos k) y (omega (arith, ints))
ahead_map P Q left k x y few f = f (x -ℤ pos k) y (omega (arith, ints))
ahead_map P Q up k x y few f = f x (y +ℤ pos k) (omega (arith, ints))
ahead_map P Q down k x y few f = f x (y -ℤ pos k) (omega (arith, ints))

ahead_all : (P Q : ℤ → ℤ → Type 0) (way : Way) (k : ℕ) (x y : ℤ) → ((s t : ℤ) → P s t → Q s t) → Ahead P way k x y → Ahead Q way k x y
ahead_all P Q right k x y f = f (x +ℤ pos k) y
ahead_all P Q left k x y f = f (x -ℤ pos k) y
ahead_all P Q up k x y f = f x (y +ℤ pos k)
ahead_all P Q down k x y f = f x (y -ℤ pos k)

here : (x y : ℤ) → Near 2 x y x y
here x y = omega (arith, ints)

active_up : {X : Type 0} (s : X → List Shape) (u : List Shape) → AreGateParts s u → (i : X) (x y : ℤ) → On Active (s i) x y → On Active u x y
active_up s u a i x y c = (a.active x y).1 (record { of = i; inside = c })

poly_up : {X : Type 0} (s : X → List Shape) (u : List Shape) → AreGateParts s u → (i : X) (x y : ℤ) → On Poly (s i) x y → On Poly u x y
poly_up s u a i x y c = (a.poly x y).1 (record { of = i; inside = c })

record GateOf {X : Type 0} (s : X → List Shape) (x y : ℤ) : Type 0 where
  pub of : X
  pub gate : Gate (s of) x y

gate_of : {X : Type 0} (s : X → List Shape) (u : List Shape) → AreGateParts s u → (x y : ℤ) → Gate u x y → GateOf s x y
gate_of s u a x y g =
    let p = (a.active x y).0 g.0 in
    let q = (a.poly x y).0 g.1 in
    let e = a.gates.same p.of q.of x y x y p.inside q.inside (here x y) in
    record { of = p.of; gate = (p.inside, subst (λ k. On Poly (s k) x y) (sym e) q.inside) }

-- active without poly within two cells of something of a part is of that part
diffusion_of : {X : Type 0} (s : X → List Shape) (u : List Shape) → AreGateParts s u → (layer : Layer) → AreApart (λ i. On layer (s i)) (λ i. On Active (s i)) 2 → (i : X) (x y m n : ℤ) → On layer (s i) x y → Near 2 x y m n → Diffusion u m n → Diffusion (s i) m n
diffusion_of s u a layer apart i x y m n c near d =
    let p = (a.active m n).0 d.0 in
    let e = apart.same i p.of x y m n c p.inside near in
    (subst (λ k. On Active (s k) m n) (sym e) p.inside, λ q. d.1 (poly_up s u a i m n q))

bare_of : {X : Type 0} (s : X → List Shape) (u : List Shape) → AreGateParts s u → (i : X) (m n : ℤ) → Bare u m n → Bare (s i) m n
bare_of s u a i m n b = (λ q. b.0 (poly_up s u a i m n q), λ q. b.1 (active_up s u a i m n q))

pub any_poly_end : {X : Type 0} (s : X → List Shape) (u : List Shape) (v : ℕ) → AreGateParts s u → ((i : X) → IsEmpty (FailsPolyEnd (s i) v)) → IsEmpty (FailsPolyEnd u v)
any_poly_end s u v a each x y f =
    let g = gate_of s u a x y f.gate in
    each g.of x y (record {
      gate = g.gate;
      way = f.way;
      beyond = λ c. f.beyond (ahead_all (On Active (s g.of)) (On Active u) f.way 1 x y (active_up s u a g.of) c);
      at = f.at;
      first = f.first;
      last = f.last;
      out = λ c. f.out (ahead_all (On Poly (s g.of)) (On Poly u) f.way f.at x y (poly_up s u a g.of) c);
    })

pub any_active_end : {X : Type 0} (s : X → List Shape) (u : List Shape) (v : ℕ) → AreGateParts s u → ((i : X) → IsEmpty (FailsActiveEnd (s i) v)) → IsEmpty (FailsActiveEnd u v)
any_active_end s u v a each x y f =
    let g = gate_of s u a x y f.gate in
    each g.of x y (record {
      gate = g.gate;
      way = f.way;
      beside = ahead_map (Diffusion u) (Diffusion (s g.of)) f.way 1 x y (omega arith) (λ m n near d. diffusion_of s u a Active a.actives g.of x y m n g.gate.0 near d) f.beside;
      at = f.at;
      first = f.first;
      last = f.last;
      out = λ c. f.out (ahead_all (On Active (s g.of)) (On Active u) f.way f.at x y (active_up s u a g.of) c);
    })

pub any_field_poly : {X : Type 0} (s : X → List Shape) (u : List Shape) → AreGateParts s u → ((i : X) → IsEmpty (FailsFieldPoly (s i) 2)) → IsEmpty (FailsFieldPoly u 2)
any_field_poly s u a each x y f =
    let p = (a.poly x y).0 f.field.0 in
    let few = f.few in
    each p.of x y (record {
      field = (p.inside, λ c. f.field.1 (active_up s u a p.of x y c));
      way = f.way;
      count = f.count;
      few = few;
      between = λ k l h. ahead_all (Bare u) (Bare (s p.of)) f.way k x y (bare_of s u a p.of) (f.between k l h);
      meets = ahead_map (Diffusion u) (Diffusion (s p.of)) f.way (f.count + 1) x y (omega (arith, few)) (λ m n near d. diffusion_of s u a Poly a.polys p.of x y m n p.inside near d) f.meets;
    })
