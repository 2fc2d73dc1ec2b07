-- Rules on distances, by regions that grow.
use Rattle.std.proofs.Common.{◌↔◌, ℕ, ℤ, ◌≤◌, List, arith}
use Rattle.std.proofs.lemmas.Int.{ints}
use Rattle.box_geom.specs.Rectangle.{Rectangle, Covers}
use Rattle.box_geom.specs.Near.{Near}
use Rattle.box_geom.specs.Regions.{OnPlane, IsNear}
use Rattle.scmos_rules.specs.Failing.{FailsSurround, FailsAway}
use Rattle.scmos_rules.specs.Cells.{AreCells, AreInner, IsInner}

pub inner_plane : (x y : ℤ) → IsInner x y → OnPlane x y
inner_plane x y i = let a = i.left in let b = i.right in let c = i.low in let d = i.high in record { left = omega (arith, ints); right = omega (arith, ints); low = omega (arith, ints); high = omega (arith, ints) }

near_plane : (d : ℕ) (x y s t : ℤ) → d ≤ 1000 → IsInner x y → Near d x y s t → OnPlane s t
near_plane d x y s t small i n = let a = i.left in let b = i.right in let c = i.low in let e = i.high in let p = n.left in let q = n.right in let u = n.low in let v = n.high in record { left = omega (arith, ints); right = omega (arith, ints); low = omega (arith, ints); high = omega (arith, ints) }

flip_near : (d : ℕ) (x y s t : ℤ) → Near d x y s t → Near d s t x y
flip_near d x y s t n = record { left = n.right; right = n.left; low = n.high; high = n.low }

pub away_is : (a b near r : List Rectangle) (d : ℕ) → d ≤ 1000 → AreInner a → ((x y : ℤ) → Covers near x y ↔ (OnPlane x y × IsNear b d x y)) → ((x y : ℤ) → Covers r x y ↔ (Covers a x y × Covers near x y)) → AreCells (FailsAway (Covers a) (Covers b) d) r
away_is a b near r d small inner g m = record {
  same = λ x y. (
    λ c. let k = (m x y).0 c in let n = ((g x y).0 k.1).1 in record { covered = k.0; s = n.s; t = n.t; near = n.near; within = n.covered },
    λ f. (m x y).1 (f.covered, (g x y).1 (inner_plane x y (inner.inner x y f.covered), record { s = f.s; t = f.t; near = f.near; covered = f.within })),
  );
}

pub surround_is : (a b around out near r : List Rectangle) (d : ℕ) → d ≤ 1000 → AreInner a → ((x y : ℤ) → Covers around x y ↔ (OnPlane x y × IsNear a d x y)) → ((x y : ℤ) → Covers out x y ↔ (Covers around x y × (Covers b x y → ⊥))) → ((x y : ℤ) → Covers near x y ↔ (OnPlane x y × IsNear out d x y)) → ((x y : ℤ) → Covers r x y ↔ (Covers a x y × Covers near x y)) → AreCells (FailsSurround (Covers a) (Covers b) d) r
surround_is a b around out near r d small inner g n h m = record { same = λ x y. (there x y, back x y) }
  where
    there : (x y : ℤ) → Covers r x y → FailsSurround (Covers a) (Covers b) d x y
    there x y c = let k = (m x y).0 c in let u = ((h x y).0 k.1).1 in let v = (n u.s u.t).0 u.covered in record { covered = k.0; s = u.s; t = u.t; near = u.near; out = v.1 }

    back : (x y : ℤ) → FailsSurround (Covers a) (Covers b) d x y → Covers r x y
    back x y f =
        let i = inner.inner x y f.covered in
        let beside : Covers around f.s f.t = (g f.s f.t).1 (near_plane d x y f.s f.t small i f.near, record { s = x; t = y; near = flip_near d x y f.s f.t f.near; covered = f.covered }) in
        (m x y).1 (f.covered, (h x y).1 (inner_plane x y i, record { s = f.s; t = f.t; near = f.near; covered = (n f.s f.t).1 (beside, f.out) }))

pub like_surround : (P Q : ℤ → ℤ → Type 0) (a b r : List Rectangle) (d : ℕ) → AreCells P a → AreCells Q b → AreCells (FailsSurround (Covers a) (Covers b) d) r → AreCells (FailsSurround P Q d) r
like_surround P Q a b r d p q m = record {
  same = λ x y. (
    λ c. let f = (m.same x y).0 c in record { covered = (p.same x y).0 f.covered; s = f.s; t = f.t; near = f.near; out = λ e. f.out ((q.same f.s f.t).1 e) },
    λ f. (m.same x y).1 (record { covered = (p.same x y).1 f.covered; s = f.s; t = f.t; near = f.near; out = λ e. f.out ((q.same f.s f.t).0 e) }),
  );
}

pub like_away : (P Q : ℤ → ℤ → Type 0) (a b r : List Rectangle) (d : ℕ) → AreCells P a → AreCells Q b → AreCells (FailsAway (Covers a) (Covers b) d) r → AreCells (FailsAway P Q d) r
like_away P Q a b r d p q m = record {
  same = λ x y. (
    λ c. let f = (m.same x y).0 c in record { covered = (p.same x y).0 f.covered; s = f.s; t = f.t; near = f.near; within = (q.same f.s f.t).0 f.within },
    λ f. (m.same x y).1 (record { covered = (p.same x y).1 f.covered; s = f.s; t = f.t; near = f.near; within = (q.same f.s f.t).1 f.within }),
  );
}
