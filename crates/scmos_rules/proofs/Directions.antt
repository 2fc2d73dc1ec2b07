-- Rules on the cells that follow outward, by regions that shift.
use Rattle.std.proofs.Common.{◌≡◌, ◌↔◌, ℕ, zero, suc, ◌+◌, ℤ, pos, ◌≤◌, ◌<◌, ◌+ℤ◌, ◌-ℤ◌, List, arith, inl, inr, ◌⊎◌, sym, subst}
use Rattle.std.proofs.lemmas.Int.{ints}
use Rattle.std.proofs.lemmas.Bool.{cases_lt}
use Rattle.box_geom.specs.Rectangle.{Rectangle, Covers}
use Rattle.box_geom.specs.Regions.{OnPlane, CoversNone}
use Rattle.box_geom.specs.declared.shape.Shape.{Shape}
use Rattle.box_geom.specs.declared.layer.Layer.TheVariants.{Active, Poly}
use Rattle.scmos_rules.specs.Layout.{On, Gate, Diffusion, FieldPoly, Bare}
use Rattle.scmos_rules.specs.Gates.{Way, right, left, up, down, Ahead, FailsPolyEnd, FailsActiveEnd, FailsFieldPoly}
use Rattle.scmos_rules.specs.Outward.{shift_across, shift_upward, EndsEarly, StandsEarly, MeetsEarly, AreOneOf}
use Rattle.scmos_rules.specs.Cells.{AreCells, AreInner}
use Rattle.scmos_rules.specs.Regions.{Lacks, way_of}
use Rattle.scmos_rules.specs.declared.gates.Heading.{Heading}
use Rattle.scmos_rules.specs.declared.gates.Heading.TheVariants.{Right, Left, Up, Down}
use Rattle.scmos_rules.proofs.Distances.{inner_plane}

-- ---- one cell further
ahead_like : (P Q : ℤ → ℤ → Type 0) (way : Way) (k : ℕ) (x y : ℤ) → ((s t : ℤ) → P s t → Q s t) → Ahead P way k x y → Ahead Q way k x y
ahead_like P Q right k x y e a = e (x +ℤ pos k) y a
ahead_like P Q left k x y e a = e (x -ℤ pos k) y a
ahead_like P Q up k x y e a = e x (y +ℤ pos k) a
ahead_like P Q down k x y e a = e x (y -ℤ pos k) a

lacks_like : (P Q : ℤ → ℤ → Type 0) (way : Way) (v : ℕ) (x y : ℤ) → ((s t : ℤ) → Q s t → P s t) → Lacks P way v x y → Lacks Q way v x y
lacks_like P Q way v x y e l = record { at = l.at; first = l.first; last = l.last; out = λ a. l.out (ahead_like Q P way l.at x y e a) }

-- a shifted set shows its cells ahead
moved : (P : ℤ → ℤ → Type 0) (r : List Rectangle) (dx dy : ℤ) (way : Way) (k : ℕ) → ((x y : ℤ) → P (x -ℤ dx) (y -ℤ dy) ↔ Ahead P way k x y) → ((x y : ℤ) → Covers r x y ↔ (OnPlane x y × P (x -ℤ dx) (y -ℤ dy))) → AreCells (λ x y. OnPlane x y × Ahead P way k x y) r
moved P r dx dy way k e m = record { same = λ x y. (λ c. let d = (m x y).0 c in (d.0, (e x y).0 d.1), λ (p, a). (m x y).1 (p, (e x y).1 a)) }

same_place : (P : ℤ → ℤ → Type 0) (x y s t : ℤ) → x ≡ s → y ≡ t → P x y ↔ P s t
same_place P x y s t e f = (λ p. subst (λ z. P s z) f (subst (λ z. P z y) e p), λ p. subst (λ z. P x z) (sym f) (subst (λ z. P z t) (sym e) p))

pub ahead_is : (heading : Heading) (P : ℤ → ℤ → Type 0) (r : List Rectangle) (dx dy : ℤ) (k : ℕ) → dx ≡ shift_across heading k → dy ≡ shift_upward heading k → ((x y : ℤ) → Covers r x y ↔ (OnPlane x y × P (x -ℤ dx) (y -ℤ dy))) → AreCells (λ x y. OnPlane x y × Ahead P (way_of heading) k x y) r
ahead_is Right P r dx dy k e f m = moved P r dx dy right k (λ x y. same_place P (x -ℤ dx) (y -ℤ dy) (x +ℤ pos k) y (omega (arith, ints)) (omega (arith, ints))) m
ahead_is Left P r dx dy k e f m = moved P r dx dy left k (λ x y. same_place P (x -ℤ dx) (y -ℤ dy) (x -ℤ pos k) y (omega (arith, ints)) (omega (arith, ints))) m
ahead_is Up P r dx dy k e f m = moved P r dx dy up k (λ x y. same_place P (x -ℤ dx) (y -ℤ dy) x (y +ℤ pos k) (omega (arith, ints)) (omega (arith, ints))) m
ahead_is Down P r dx dy k e f m = moved P r dx dy down k (λ x y. same_place P (x -ℤ dx) (y -ℤ dy) x (y -ℤ pos k) (omega (arith, ints)) (omega (arith, ints))) m

-- ---- one of v cells lacks
pub none_lacks : (P Q : ℤ → ℤ → Type 0) (way : Way) (r : List Rectangle) → CoversNone r → AreCells (λ x y. P x y × Lacks Q way 0 x y) r
none_lacks P Q way r none = record { same = λ x y. (λ c. absurd (none x y c), λ (p, l). absurd (let a = l.first in let b = l.last in omega arith)) }

pub one_more_lacks : (base : List Rectangle) (Q : ℤ → ℤ → Type 0) (way : Way) (k : ℕ) (found there out r : List Rectangle) → AreInner base → AreCells (λ x y. Covers base x y × Lacks Q way k x y) found → AreCells (λ x y. OnPlane x y × Ahead Q way (k + 1) x y) there → ((x y : ℤ) → Covers out x y ↔ (Covers base x y × (Covers there x y → ⊥))) → ((x y : ℤ) → Covers r x y ↔ (Covers found x y ⊎ Covers out x y)) → AreCells (λ x y. Covers base x y × Lacks Q way (k + 1) x y) r
one_more_lacks base Q way k found there out r inner f t o m = record { same = λ x y. (forth x y, λ (b, l). back x y b l) }
  where
    forth : (x y : ℤ) → Covers r x y → Covers base x y × Lacks Q way (k + 1) x y
    forth x y c =
        elim ((m x y).0 c) [
          | inl d ↦ (let u = (f.same x y).0 d in (u.0, (let l = u.1 in let q = l.last in record { at = l.at; first = l.first; last = omega arith; out = l.out })))
          | inr d ↦ (let u = (o x y).0 d in (u.0, record { at = k + 1; first = omega arith; last = omega arith; out = λ a. u.1 ((t.same x y).1 (inner_plane x y (inner.inner x y u.0), a)) }))
        ]

    back : (x y : ℤ) → Covers base x y → Lacks Q way (k + 1) x y → Covers r x y
    back x y b l = by (cases_lt k l.at)
      where
        by : (k < l.at) ⊎ (l.at ≤ k) → Covers r x y
        by (inr less) = (m x y).1 (inl ((f.same x y).1 (b, record { at = l.at; first = l.first; last = less; out = l.out })))
        by (inl more) = let q = l.last in let e : l.at ≡ k + 1 = omega arith in (m x y).1 (inr ((o x y).1 (b, λ c. l.out (subst (λ n. Ahead Q way n x y) (sym e) ((t.same x y).0 c).1))))

-- ---- the rules in one direction
pub ends_early : (s : List Shape) (v : ℕ) (way : Way) (gates active poly beyond base r : List Rectangle) → AreCells (Gate s) gates → AreInner gates → AreCells (On Active s) active → AreCells (On Poly s) poly → AreCells (λ x y. OnPlane x y × Ahead (Covers active) way 1 x y) beyond → ((x y : ℤ) → Covers base x y ↔ (Covers gates x y × (Covers beyond x y → ⊥))) → AreCells (λ x y. Covers base x y × Lacks (Covers poly) way v x y) r → AreCells (EndsEarly s v way) r
ends_early s v way gates active poly beyond base r g inner a p b m l = record { same = λ x y. (forth x y, back x y) }
  where
    forth : (x y : ℤ) → Covers r x y → EndsEarly s v way x y
    forth x y c =
        let u = (l.same x y).0 c in
        let w = (m x y).0 u.0 in
        record { gate = (g.same x y).0 w.0; beyond = λ h. w.1 ((b.same x y).1 (inner_plane x y (inner.inner x y w.0), ahead_like (On Active s) (Covers active) way 1 x y (λ i j. (a.same i j).1) h)); lacks = lacks_like (Covers poly) (On Poly s) way v x y (λ i j. (p.same i j).1) u.1 }

    back : (x y : ℤ) → EndsEarly s v way x y → Covers r x y
    back x y e = (l.same x y).1 ((m x y).1 ((g.same x y).1 e.gate, λ c. e.beyond (ahead_like (Covers active) (On Active s) way 1 x y (λ i j. (a.same i j).0) ((b.same x y).0 c).1)), lacks_like (On Poly s) (Covers poly) way v x y (λ i j. (p.same i j).0) e.lacks)

pub stands_early : (s : List Shape) (v : ℕ) (way : Way) (gates active bare beside base r : List Rectangle) → AreCells (Gate s) gates → AreInner gates → AreCells (On Active s) active → AreCells (Diffusion s) bare → AreCells (λ x y. OnPlane x y × Ahead (Covers bare) way 1 x y) beside → ((x y : ℤ) → Covers base x y ↔ (Covers gates x y × Covers beside x y)) → AreCells (λ x y. Covers base x y × Lacks (Covers active) way v x y) r → AreCells (StandsEarly s v way) r
stands_early s v way gates active bare beside base r g inner a d b m l = record { same = λ x y. (forth x y, back x y) }
  where
    forth : (x y : ℤ) → Covers r x y → StandsEarly s v way x y
    forth x y c =
        let u = (l.same x y).0 c in
        let w = (m x y).0 u.0 in
        record { gate = (g.same x y).0 w.0; beside = ahead_like (Covers bare) (Diffusion s) way 1 x y (λ i j. (d.same i j).0) ((b.same x y).0 w.1).1; lacks = lacks_like (Covers active) (On Active s) way v x y (λ i j. (a.same i j).1) u.1 }

    back : (x y : ℤ) → StandsEarly s v way x y → Covers r x y
    back x y e = let h = (g.same x y).1 e.gate in (l.same x y).1 ((m x y).1 (h, (b.same x y).1 (inner_plane x y (inner.inner x y h), ahead_like (Diffusion s) (Covers bare) way 1 x y (λ i j. (d.same i j).1) e.beside)), lacks_like (On Active s) (Covers active) way v x y (λ i j. (a.same i j).0) e.lacks)

ahead_pair : (P Q : ℤ → ℤ → Type 0) (way : Way) (k : ℕ) (x y : ℤ) → (Ahead P way k x y → ⊥) → (Ahead Q way k x y → ⊥) → Ahead (λ s t. (P s t → ⊥) × (Q s t → ⊥)) way k x y
ahead_pair P Q right k x y p q = (p, q)
ahead_pair P Q left k x y p q = (p, q)
ahead_pair P Q up k x y p q = (p, q)
ahead_pair P Q down k x y p q = (p, q)

ahead_first : (P Q : ℤ → ℤ → Type 0) (way : Way) (k : ℕ) (x y : ℤ) → Ahead (λ s t. (P s t → ⊥) × (Q s t → ⊥)) way k x y → (Ahead P way k x y → ⊥) × (Ahead Q way k x y → ⊥)
ahead_first P Q right k x y p = p
ahead_first P Q left k x y p = p
ahead_first P Q up k x y p = p
ahead_first P Q down k x y p = p

pub bare_ahead : (s : List Shape) (way : Way) (set poly active poly_next active_next no_poly r : List Rectangle) → AreInner set → AreCells (On Poly s) poly → AreCells (On Active s) active → AreCells (λ x y. OnPlane x y × Ahead (Covers poly) way 1 x y) poly_next → AreCells (λ x y. OnPlane x y × Ahead (Covers active) way 1 x y) active_next → ((x y : ℤ) → Covers no_poly x y ↔ (Covers set x y × (Covers poly_next x y → ⊥))) → ((x y : ℤ) → Covers r x y ↔ (Covers no_poly x y × (Covers active_next x y → ⊥))) → AreCells (λ x y. Covers set x y × Ahead (Bare s) way 1 x y) r
bare_ahead s way set poly active poly_next active_next no_poly r inner p a pn an m n = record { same = λ x y. (forth x y, λ (c, b). back x y c b) }
  where
    forth : (x y : ℤ) → Covers r x y → Covers set x y × Ahead (Bare s) way 1 x y
    forth x y c =
        let u = (n x y).0 c in
        let w = (m x y).0 u.0 in
        let plane = inner_plane x y (inner.inner x y w.0) in
        (w.0, ahead_pair (On Poly s) (On Active s) way 1 x y (λ h. w.1 ((pn.same x y).1 (plane, ahead_like (On Poly s) (Covers poly) way 1 x y (λ i j. (p.same i j).1) h))) (λ h. u.1 ((an.same x y).1 (plane, ahead_like (On Active s) (Covers active) way 1 x y (λ i j. (a.same i j).1) h))))

    back : (x y : ℤ) → Covers set x y → Ahead (Bare s) way 1 x y → Covers r x y
    back x y c b =
        let f = ahead_first (On Poly s) (On Active s) way 1 x y b in
        (n x y).1 ((m x y).1 (c, λ d. f.0 (ahead_like (Covers poly) (On Poly s) way 1 x y (λ i j. (p.same i j).0) ((pn.same x y).0 d).1)), λ d. f.1 (ahead_like (Covers active) (On Active s) way 1 x y (λ i j. (a.same i j).0) ((an.same x y).0 d).1))

pub meets_early : (s : List Shape) (way : Way) (field bare next first free behind second r : List Rectangle) → AreCells (FieldPoly s) field → AreInner field → AreCells (Diffusion s) bare → AreCells (λ x y. OnPlane x y × Ahead (Covers bare) way 1 x y) next → ((x y : ℤ) → Covers first x y ↔ (Covers field x y × Covers next x y)) → AreCells (λ x y. Covers field x y × Ahead (Bare s) way 1 x y) free → AreCells (λ x y. OnPlane x y × Ahead (Covers bare) way 2 x y) behind → ((x y : ℤ) → Covers second x y ↔ (Covers free x y × Covers behind x y)) → ((x y : ℤ) → Covers r x y ↔ (Covers first x y ⊎ Covers second x y)) → AreCells (MeetsEarly s 2 way) r
meets_early s way field bare next first free behind second r f inner d n m g b o u = record { same = λ x y. (forth x y, back x y) }
  where
    there : (x y : ℤ) (k : ℕ) → Ahead (Covers bare) way k x y → Ahead (Diffusion s) way k x y
    there x y k h = ahead_like (Covers bare) (Diffusion s) way k x y (λ i j. (d.same i j).0) h

    forth : (x y : ℤ) → Covers r x y → MeetsEarly s 2 way x y
    forth x y c =
        elim ((u x y).0 c) [
          | inl e ↦ (let w = (m x y).0 e in record { field = (f.same x y).0 w.0; count = 0; few = omega arith; between = λ k low high. absurd (omega arith); meets = there x y 1 ((n.same x y).0 w.1).1 })
          | inr e ↦ (let w = (o x y).0 e in let q = (g.same x y).0 w.0 in record { field = (f.same x y).0 q.0; count = 1; few = omega arith; between = λ k low high. (let is : k ≡ 1 = omega arith in subst (λ z. Ahead (Bare s) way z x y) (sym is) q.1); meets = there x y 2 ((b.same x y).0 w.1).1 })
        ]

    back : (x y : ℤ) → MeetsEarly s 2 way x y → Covers r x y
    back x y e = by e.count e.few e.between e.meets
      where
        covered : Covers field x y
        covered = (f.same x y).1 e.field

        plane : OnPlane x y
        plane = inner_plane x y (inner.inner x y covered)

        meets : (k : ℕ) → Ahead (Diffusion s) way k x y → Ahead (Covers bare) way k x y
        meets k h = ahead_like (Diffusion s) (Covers bare) way k x y (λ i j. (d.same i j).1) h

        by : (count : ℕ) → count < 2 → ((k : ℕ) → 1 ≤ k → k ≤ count → Ahead (Bare s) way k x y) → Ahead (Diffusion s) way (count + 1) x y → Covers r x y
        by zero few between h = (u x y).1 (inl ((m x y).1 (covered, (n.same x y).1 (plane, meets 1 h))))
        by (suc zero) few between h = (u x y).1 (inr ((o x y).1 ((g.same x y).1 (covered, between 1 (omega arith) (omega arith)), (b.same x y).1 (plane, meets 2 h))))
        by (suc (suc c)) few between h = absurd (omega arith)

-- ---- the four directions together
pub four_ways : (a b c d across upward r : List Rectangle) → ((x y : ℤ) → Covers across x y ↔ (Covers a x y ⊎ Covers b x y)) → ((x y : ℤ) → Covers upward x y ↔ (Covers c x y ⊎ Covers d x y)) → ((x y : ℤ) → Covers r x y ↔ (Covers across x y ⊎ Covers upward x y)) → AreOneOf a b c d r
four_ways a b c d across upward r p q m = record {
  same = λ x y. (
    λ h. elim ((m x y).0 h) [ inl k ↦ inl ((p x y).0 k) | inr k ↦ inr ((q x y).0 k) ],
    λ h. (m x y).1 (elim h [ inl k ↦ inl ((p x y).1 k) | inr k ↦ inr ((q x y).1 k) ]),
  );
}

-- what fails in some direction
abbrev SomeWay : (Way → ℤ → ℤ → Type 0) → ℤ → ℤ → Type 0
SomeWay F x y = (way : Way) × F way x y

by_ways : (F : Way → ℤ → ℤ → Type 0) (a b c d r : List Rectangle) → AreCells (F right) a → AreCells (F left) b → AreCells (F up) c → AreCells (F down) d → AreOneOf a b c d r → AreCells (SomeWay F) r
by_ways F a b c d r p q s t m = record {
  same = λ x y. (
    λ h. elim ((m.same x y).0 h) [
      | inl (inl k) ↦ (right, (p.same x y).0 k)
      | inl (inr k) ↦ (left, (q.same x y).0 k)
      | inr (inl k) ↦ (up, (s.same x y).0 k)
      | inr (inr k) ↦ (down, (t.same x y).0 k)
    ],
    λ (way, f). (m.same x y).1 (back x y way f),
  );
}
  where
    back : (x y : ℤ) (way : Way) → F way x y → (Covers a x y ⊎ Covers b x y) ⊎ (Covers c x y ⊎ Covers d x y)
    back x y right f = inl (inl ((p.same x y).1 f))
    back x y left f = inl (inr ((q.same x y).1 f))
    back x y up f = inr (inl ((s.same x y).1 f))
    back x y down f = inr (inr ((t.same x y).1 f))

in_place : (P Q : ℤ → ℤ → Type 0) (r : List Rectangle) → ((x y : ℤ) → P x y ↔ Q x y) → AreCells P r → AreCells Q r
in_place P Q r e p = record { same = λ x y. (λ c. (e x y).0 ((p.same x y).0 c), λ q. (p.same x y).1 ((e x y).1 q)) }

pub poly_ends : (s : List Shape) (v : ℕ) (a b c d r : List Rectangle) → AreCells (EndsEarly s v right) a → AreCells (EndsEarly s v left) b → AreCells (EndsEarly s v up) c → AreCells (EndsEarly s v down) d → AreOneOf a b c d r → AreCells (FailsPolyEnd s v) r
poly_ends s v a b c d r p q u w m = in_place (SomeWay (EndsEarly s v)) (FailsPolyEnd s v) r (λ x y. (λ (way, e). record { gate = e.gate; way = way; beyond = e.beyond; at = e.lacks.at; first = e.lacks.first; last = e.lacks.last; out = e.lacks.out }, λ f. (f.way, record { gate = f.gate; beyond = f.beyond; lacks = record { at = f.at; first = f.first; last = f.last; out = f.out } }))) (by_ways (EndsEarly s v) a b c d r p q u w m)

pub active_ends : (s : List Shape) (v : ℕ) (a b c d r : List Rectangle) → AreCells (StandsEarly s v right) a → AreCells (StandsEarly s v left) b → AreCells (StandsEarly s v up) c → AreCells (StandsEarly s v down) d → AreOneOf a b c d r → AreCells (FailsActiveEnd s v) r
active_ends s v a b c d r p q u w m = in_place (SomeWay (StandsEarly s v)) (FailsActiveEnd s v) r (λ x y. (λ (way, e). record { gate = e.gate; way = way; beside = e.beside; at = e.lacks.at; first = e.lacks.first; last = e.lacks.last; out = e.lacks.out }, λ f. (f.way, record { gate = f.gate; beside = f.beside; lacks = record { at = f.at; first = f.first; last = f.last; out = f.out } }))) (by_ways (StandsEarly s v) a b c d r p q u w m)

pub field_meets : (s : List Shape) (v : ℕ) (a b c d r : List Rectangle) → AreCells (MeetsEarly s v right) a → AreCells (MeetsEarly s v left) b → AreCells (MeetsEarly s v up) c → AreCells (MeetsEarly s v down) d → AreOneOf a b c d r → AreCells (FailsFieldPoly s v) r
field_meets s v a b c d r p q u w m = in_place (SomeWay (MeetsEarly s v)) (FailsFieldPoly s v) r (λ x y. (λ (way, e). record { field = e.field; way = way; count = e.count; few = e.few; between = e.between; meets = e.meets }, λ f. (f.way, record { field = f.field; count = f.count; few = f.few; between = f.between; meets = f.meets }))) (by_ways (MeetsEarly s v) a b c d r p q u w m)
