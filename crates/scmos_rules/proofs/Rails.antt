-- Cells side by side with common rails: their metal keeps its spacing where each cell keeps it with its own rails.
use Rattle.std.proofs.Common.{◌≡◌, ℕ, ℤ, pos, ◌≤ℤ◌, ◌<ℤ◌, ◌+ℤ◌, ◌-ℤ◌, arith, inl, inr, ◌⊎◌, sym, subst}
use Rattle.std.proofs.lemmas.Int.{ints}
use Rattle.box_geom.specs.Chains.{Chain, Linked}
use Rattle.box_geom.specs.Near.{Near}
use Rattle.box_geom.specs.Runs.{IsNotch}
use Rattle.box_geom.specs.Regions.{IsEmpty}
use Rattle.scmos_rules.specs.Failing.{FailsSpacing}
use Rattle.number_trees.proofs.Chains.{joined, turned}
use Rattle.scmos_rules.proofs.Chains.{flip_linked, in_row}
use Rattle.scmos_rules.proofs.Families.{AnyOf, linked_any}

-- from where to where a cell goes
pub record IsColumn (from to x : ℤ) : Type 0 where
  pub left : from ≤ℤ x
  pub right : x <ℤ to

-- Each cell's metal lies between its two sides. In the rows of the rails all of it is metal, elsewhere it keeps 4 from
-- the sides. The cells stand in a row without a gap.
pub record AreRailed {X : Type 0} (M : X → ℤ → ℤ → Type 0) (from to : X → ℤ) (Rail : ℤ → Type 0) (first last : ℤ) : Type 0 where
  pub lies : (i : X) (x y : ℤ) → M i x y → IsColumn (from i) (to i) x
  pub full : (i : X) (x y : ℤ) → IsColumn (from i) (to i) x → Rail y → M i x y
  pub inner : (i : X) (x y : ℤ) → M i x y → Rail y ⊎ IsColumn (from i +ℤ pos 4) (to i -ℤ pos 4) x
  pub apart : (i j : X) → (i ≡ j) ⊎ ((to i ≤ℤ from j) ⊎ (to j ≤ℤ from i))
  pub some : (i : X) → IsColumn (from i) (to i) (from i)
  pub whole : (i : X) → (first ≤ℤ from i) × (to i ≤ℤ last)
  pub filled : (x : ℤ) → IsColumn first last x → (i : X) × IsColumn (from i) (to i) x

-- a rail is metal all along
rail_there : {X : Type 0} (M : X → ℤ → ℤ → Type 0) (from to : X → ℤ) (Rail : ℤ → Type 0) (first last : ℤ) → AreRailed M from to Rail first last → (x y : ℤ) → IsColumn first last x → Rail y → AnyOf M x y
rail_there M from to Rail first last a x y c rail = let f = a.filled x c in record { of = f.0; inside = a.full f.0 x y f.1 rail }

within : {X : Type 0} (M : X → ℤ → ℤ → Type 0) (from to : X → ℤ) (Rail : ℤ → Type 0) (first last : ℤ) → AreRailed M from to Rail first last → (i : X) (x y : ℤ) → M i x y → IsColumn first last x
within M from to Rail first last a i x y m = let c = a.lies i x y m in let w = a.whole i in let low = w.0 in let high = w.1 in record { left = omega (arith, ints, low); right = omega (arith, ints, high) }

rail_chain : {X : Type 0} (M : X → ℤ → ℤ → Type 0) (from to : X → ℤ) (Rail : ℤ → Type 0) (first last : ℤ) → AreRailed M from to Rail first last → (x s y : ℤ) → x ≤ℤ s → IsColumn first last x → IsColumn first last s → Rail y → Chain (Linked (AnyOf M)) (record { x = x; y = y }) (record { x = s; y = y })
rail_chain M from to Rail first last a x s y le cx cs rail = in_row (AnyOf M) x s y le (λ z l h. rail_there M from to Rail first last a z y (record { left = omega (arith, ints); right = omega (arith, ints) }) rail)

-- a cell of i and one of j to the right of it
to_right : {X : Type 0} (M : X → ℤ → ℤ → Type 0) (from to : X → ℤ) (Rail : ℤ → Type 0) (first last : ℤ) → AreRailed M from to Rail first last → ((i : X) → IsEmpty (FailsSpacing (M i) 6)) → (i j : X) (x y s t : ℤ) → to i ≤ℤ from j → M i x y → M j s t → Near 6 x y s t → (Chain (Linked (AnyOf M)) (record { x = x; y = y }) (record { x = s; y = t }) → ⊥) → ⊥
to_right M from to Rail first last a each i j x y s t order m n near none = by (a.inner i x y m) (a.inner j s t n)
  where
    ci : IsColumn (from i) (to i) x
    ci = a.lies i x y m

    cj : IsColumn (from j) (to j) s
    cj = a.lies j s t n

    by : Rail y ⊎ IsColumn (from i +ℤ pos 4) (to i -ℤ pos 4) x → Rail t ⊎ IsColumn (from j +ℤ pos 4) (to j -ℤ pos 4) s → ⊥
    by (inl rail) q =
        let b = a.some j in
        let l : IsColumn (from i) (to i) x = ci in
        let r : IsColumn (from j) (to j) s = cj in
        let mine : M j (from j) y = a.full j (from j) y b rail in
        each j (from j) y (inr (record {
          covered = mine;
          s = s;
          t = t;
          other = n;
          near = record { left = omega (arith, ints); right = omega (arith, ints); low = near.low; high = near.high };
          apart = λ chain. none (joined (Linked (AnyOf M)) _ (record { x = from j; y = y }) _
              (rail_chain M from to Rail first last a x (from j) y (omega (arith, ints)) (within M from to Rail first last a i x y m) (within M from to Rail first last a j (from j) y mine) rail)
              (linked_any M j chain.count _ _ chain.steps));
        }))
    by (inr p) (inl rail) =
        let r : IsColumn (from j) (to j) s = cj in
        let c : IsColumn (from i) (to i) (to i -ℤ pos 1) = record { left = omega (arith, ints); right = omega (arith, ints) } in
        let mine : M i (to i -ℤ pos 1) t = a.full i (to i -ℤ pos 1) t c rail in
        each i x y (inr (record {
          covered = m;
          s = to i -ℤ pos 1;
          t = t;
          other = mine;
          near = record { left = omega (arith, ints); right = omega (arith, ints); low = near.low; high = near.high };
          apart = λ chain. none (joined (Linked (AnyOf M)) _ (record { x = to i -ℤ pos 1; y = t }) _
              (linked_any M i chain.count _ _ chain.steps)
              (rail_chain M from to Rail first last a (to i -ℤ pos 1) s t (omega (arith, ints)) (within M from to Rail first last a i (to i -ℤ pos 1) t mine) (within M from to Rail first last a j s t n) rail));
        }))
    by (inr p) (inr q) = omega (arith, ints)

flip_near : (d : ℕ) (x y s t : ℤ) → Near d x y s t → Near d s t x y
flip_near d x y s t n = record { left = n.right; right = n.left; low = n.high; high = n.low }

pub railed_spacing : {X : Type 0} (M : X → ℤ → ℤ → Type 0) (from to : X → ℤ) (Rail : ℤ → Type 0) (first last : ℤ) → AreRailed M from to Rail first last → ((i : X) → IsEmpty (FailsSpacing (M i) 6)) → IsEmpty (FailsSpacing (AnyOf M) 6)
railed_spacing M from to Rail first last a each x y (inr f) = by (a.apart c.of o.of)
  where
    c : AnyOf M x y
    c = f.covered

    o : AnyOf M f.s f.t
    o = f.other

    by : (c.of ≡ o.of) ⊎ ((to c.of ≤ℤ from o.of) ⊎ (to o.of ≤ℤ from c.of)) → ⊥
    by (inl e) = each c.of x y (inr (record { covered = c.inside; s = f.s; t = f.t; other = subst (λ k. M k f.s f.t) (sym e) o.inside; near = f.near; apart = λ chain. f.apart (linked_any M c.of chain.count _ _ chain.steps) }))
    by (inr (inl before)) = to_right M from to Rail first last a each c.of o.of x y f.s f.t before c.inside o.inside f.near f.apart
    by (inr (inr behind)) = to_right M from to Rail first last a each o.of c.of f.s f.t x y behind o.inside c.inside (flip_near 6 x y f.s f.t f.near) (λ chain. f.apart (turned (Linked (AnyOf M)) (flip_linked (AnyOf M)) _ _ chain))
railed_spacing {X} M from to Rail first last a each x y (inl f) = elim f.notch [ inl n ↦ row n | inr n ↦ column n ]
  where
    one_cell : (i j : X) (z v w : ℤ) → M i z v → M j z w → i ≡ j
    one_cell i j z v w m n =
        let p = a.lies i z v m in
        let q = a.lies j z w n in
        elim (a.apart i j) [ inl e ↦ e | inr r ↦ absurd (elim r [ inl l ↦ omega (arith, ints, l) | inr l ↦ omega (arith, ints, l) ]) ]

    own : (i : X) → (M i x y → ⊥)
    own i m = f.bare (record { of = i; inside = m })

    column : IsNotch (λ z. AnyOf M x z) 6 y → ⊥
    column n =
        let p = n.before in
        let q = n.behind in
        let e = one_cell p.of q.of x (n.a -ℤ pos 1) n.b p.inside q.inside in
        each p.of x y (inl (record { bare = own p.of; notch = inr (record { a = n.a; b = n.b; from = n.from; to = n.to; all = λ z l h m. n.all z l h (record { of = p.of; inside = m }); before = p.inside; behind = subst (λ k. M k x n.b) (sym e) q.inside; short = n.short }) }))

    row : IsNotch (λ z. AnyOf M z y) 6 x → ⊥
    row n = by (a.apart p.of q.of)
      where
        p : AnyOf M (n.a -ℤ pos 1) y
        p = n.before

        q : AnyOf M n.b y
        q = n.behind

        on_rail : Rail y → ⊥
        on_rail rail =
            let l = within M from to Rail first last a p.of (n.a -ℤ pos 1) y p.inside in
            let h = within M from to Rail first last a q.of n.b y q.inside in
            let at = n.from in
            let before = n.to in
            f.bare (rail_there M from to Rail first last a x y (record { left = omega (arith, ints); right = omega (arith, ints) }) rail)

        two : to p.of ≤ℤ from q.of → Rail y ⊎ IsColumn (from p.of +ℤ pos 4) (to p.of -ℤ pos 4) (n.a -ℤ pos 1) → Rail y ⊎ IsColumn (from q.of +ℤ pos 4) (to q.of -ℤ pos 4) n.b → ⊥
        two order (inl rail) k = on_rail rail
        two order (inr c) (inl rail) = on_rail rail
        two order (inr c) (inr k) = let short = n.short in omega (arith, ints)

        by : (p.of ≡ q.of) ⊎ ((to p.of ≤ℤ from q.of) ⊎ (to q.of ≤ℤ from p.of)) → ⊥
        by (inl e) = each p.of x y (inl (record { bare = own p.of; notch = inl (record { a = n.a; b = n.b; from = n.from; to = n.to; all = λ z l h m. n.all z l h (record { of = p.of; inside = m }); before = p.inside; behind = subst (λ k. M k n.b y) (sym e) q.inside; short = n.short }) }))
        by (inr (inl order)) = two order (a.inner p.of (n.a -ℤ pos 1) y p.inside) (a.inner q.of n.b y q.inside)
        by (inr (inr order)) = let c = a.lies p.of (n.a -ℤ pos 1) y p.inside in let k = a.lies q.of n.b y q.inside in let at = n.from in let before = n.to in omega (arith, ints)
