-- Families of sets of cells: what fails in the union of sets fails in one of them.
use Rattle.std.proofs.Common.{◌≡◌, ℕ, zero, suc, ℤ, pos, ◌≤ℤ◌, ◌<ℤ◌, ◌+ℤ◌, ◌-ℤ◌, arith, inl, inr, sym, subst, unsigned_abs}
use Rattle.std.proofs.lemmas.Int.{ints, by_lt_z}
use Rattle.box_geom.specs.Chains.{Steps, Chain, Linked}
use Rattle.box_geom.specs.Near.{Near}
use Rattle.box_geom.specs.Runs.{IsShort, IsOff, IsNotch}
use Rattle.box_geom.specs.Touching.{Cell}
use Rattle.box_geom.specs.Regions.{IsEmpty}
use Rattle.scmos_rules.specs.Lengths.{FailsWidth, FailsSize}
use Rattle.scmos_rules.specs.Failing.{FailsSpacing, FailsSurround, FailsAway, FailsPartly}
use Rattle.number_trees.proofs.Chains.{none, one, joined}

-- a cell of one of the sets
pub record AnyOf {X : Type 0} (P : X → ℤ → ℤ → Type 0) (x y : ℤ) : Type 0 where
  pub of : X
  pub inside : P of x y

-- cells of two of the sets that lie within d of each other are of one set
pub record AreApart {X : Type 0} (P Q : X → ℤ → ℤ → Type 0) (d : ℕ) : Type 0 where
  pub same : (i j : X) (x y s t : ℤ) → P i x y → Q j s t → Near d x y s t → i ≡ j

-- ---- along a line

-- the places from s to t are in the set; somewhere from a on it begins
left : (P : ℤ → Type 0) (n : ℕ) (a s t : ℤ) → s ≡ a +ℤ pos n → s ≤ℤ t → ((z : ℤ) → s ≤ℤ z → z ≤ℤ t → P z) → (P (a -ℤ pos 1) → ⊥) → ((e : ℤ) → a ≤ℤ e → e ≤ℤ t → ((z : ℤ) → e ≤ℤ z → z ≤ℤ t → P z) → (P (e -ℤ pos 1) → ⊥) → ⊥) → ⊥
left P zero a s t e le all before k = k s (omega (arith, ints)) le all (λ p. before (let f : s -ℤ pos 1 ≡ a -ℤ pos 1 = omega (arith, ints) in subst P f p))
left P (suc n) a s t e le all before k =
    k s (omega (arith, ints)) le all
    (λ p. left P n a (s -ℤ pos 1) t (omega (arith, ints)) (omega (arith, ints))
    (λ z l h. by_lt_z z s (λ less. let f : s -ℤ pos 1 ≡ z = omega (arith, ints) in subst P f p) (λ more. all z more h))
    before k)

right : (P : ℤ → Type 0) (n : ℕ) (b s t : ℤ) → b ≡ s +ℤ pos n → t ≤ℤ s → ((z : ℤ) → t ≤ℤ z → z <ℤ s → P z) → (P b → ⊥) → ((e : ℤ) → e ≤ℤ b → t ≤ℤ e → ((z : ℤ) → t ≤ℤ z → z <ℤ e → P z) → (P e → ⊥) → ⊥) → ⊥
right P zero b s t e le all behind k = k s (omega (arith, ints)) le all (λ p. behind (let f : s ≡ b = omega (arith, ints) in subst P f p))
right P (suc n) b s t e le all behind k =
    k s (omega (arith, ints)) le all
    (λ p. right P n b (s +ℤ pos 1) t (omega (arith, ints)) (omega (arith, ints))
    (λ z l h. by_lt_z z s (λ less. all z l less) (λ more. let f : s ≡ z = omega (arith, ints) in subst P f p))
    behind k)

-- a short run of a set holds a short run of each of its parts that it meets
short_in : (P Q : ℤ → Type 0) (v : ℕ) (t : ℤ) → ((z : ℤ) → P z → Q z) → P t → IsShort Q v t → (IsShort P v t → ⊥) → ⊥
short_in P Q v t into here s none =
    let r = s.run in
    let low = s.short in
    let from = r.from in
    let to = r.to in
    left P (unsigned_abs (t -ℤ s.a)) s.a t t (omega (arith, ints)) (omega (arith, ints))
    (λ z l h. let f : t ≡ z = omega (arith, ints) in subst P f here)
    (λ p. r.before (into (s.a -ℤ pos 1) p))
    (λ e le me all_left before.
    right P (unsigned_abs (s.b -ℤ (t +ℤ pos 1))) s.b (t +ℤ pos 1) t (omega (arith, ints)) (omega (arith, ints))
    (λ z l h. let f : t ≡ z = omega (arith, ints) in subst P f here)
    (λ p. r.behind (into s.b p))
    (λ g lg mg all_right behind.
    by_lt_z t g
    (λ less.
    none (record {
      a = e;
      b = g;
      run = record { from = me; to = less; all = λ z l h. by_lt_z z t (λ early. all_left z l (omega (arith, ints))) (λ late. all_right z late h); before = before; behind = behind };
      short = omega (arith, ints);
    }))
    (λ rest. behind (let f : t ≡ g = omega (arith, ints) in subst P f here))))

-- ---- width: sets that are wide enough are so together, however they lie
pub any_width : {X : Type 0} (P : X → ℤ → ℤ → Type 0) (v : ℕ) → ((i : X) → IsEmpty (FailsWidth (P i) v)) → IsEmpty (FailsWidth (AnyOf P) v)
any_width P v each x y f =
    let c = f.covered in
    elim f.short [
      | inl s ↦ short_in (λ z. P c.of z y) (λ z. AnyOf P z y) v x (λ z p. record { of = c.of; inside = p }) c.inside s (λ mine. each c.of x y (record { covered = c.inside; short = inl mine }))
      | inr s ↦ short_in (λ z. P c.of x z) (λ z. AnyOf P x z) v y (λ z p. record { of = c.of; inside = p }) c.inside s (λ mine. each c.of x y (record { covered = c.inside; short = inr mine }))
    ]

-- ---- size: a run of sets that do not touch is a run of one
steps_up : {X : Type 0} (P : X → ℤ → Type 0) (i : X) (n : ℕ) (t z b : ℤ) → ((j k : X) (u w : ℤ) → P j u → P k w → u ≤ℤ w → w ≤ℤ (u +ℤ pos 1) → j ≡ k) → P i t → ((w : ℤ) → t ≤ℤ w → w <ℤ b → (k : X) × P k w) → z ≡ t +ℤ pos n → z <ℤ b → P i z
steps_up P i zero t z b same here all e lt = let f : t ≡ z = omega (arith, ints) in subst (P i) f here
steps_up P i (suc n) t z b same here all e lt =
    let before : P i (z -ℤ pos 1) = steps_up P i n t (z -ℤ pos 1) b same here all (omega (arith, ints)) (omega (arith, ints)) in
    let there = all z (omega (arith, ints)) lt in
    subst (λ k. P k z) (sym (same i there.0 (z -ℤ pos 1) z before there.1 (omega (arith, ints)) (omega (arith, ints)))) there.1

steps_down : {X : Type 0} (P : X → ℤ → Type 0) (i : X) (n : ℕ) (t z a : ℤ) → ((j k : X) (u w : ℤ) → P j u → P k w → u ≤ℤ w → w ≤ℤ (u +ℤ pos 1) → j ≡ k) → P i t → ((w : ℤ) → a ≤ℤ w → w ≤ℤ t → (k : X) × P k w) → t ≡ z +ℤ pos n → a ≤ℤ z → P i z
steps_down P i zero t z a same here all e le = let f : t ≡ z = omega (arith, ints) in subst (P i) f here
steps_down P i (suc n) t z a same here all e le =
    let behind : P i (z +ℤ pos 1) = steps_down P i n t (z +ℤ pos 1) a same here all (omega (arith, ints)) (omega (arith, ints)) in
    let there = all z le (omega (arith, ints)) in
    subst (λ k. P k z) (same there.0 i z (z +ℤ pos 1) there.1 behind (omega (arith, ints)) (omega (arith, ints))) there.1

off_in : {X : Type 0} (P : X → ℤ → Type 0) (i : X) (v : ℕ) (t : ℤ) → ((j k : X) (u w : ℤ) → P j u → P k w → u ≤ℤ w → w ≤ℤ (u +ℤ pos 1) → j ≡ k) → P i t → IsOff (λ z. (k : X) × P k z) v t → IsOff (P i) v t
off_in P i v t same here o =
    let r = o.run in
    let from = r.from in
    let to = r.to in
    record {
      a = o.a;
      b = o.b;
      run = record {
        from = from;
        to = to;
        all = λ z l h. by_lt_z z t
            (λ early. steps_down P i (unsigned_abs (t -ℤ z)) t z o.a same here (λ w lw hw. r.all w lw (omega (arith, ints))) (omega (arith, ints)) l)
            (λ late. steps_up P i (unsigned_abs (z -ℤ t)) t z o.b same here (λ w lw hw. r.all w (omega (arith, ints)) hw) (omega (arith, ints)) h);
        before = λ p. r.before (i, p);
        behind = λ p. r.behind (i, p);
      };
      off = o.off;
    }

off_like : (P Q : ℤ → Type 0) (v : ℕ) (t : ℤ) → ((z : ℤ) → P z → Q z) → ((z : ℤ) → Q z → P z) → IsOff P v t → IsOff Q v t
off_like P Q v t into back o =
    let r = o.run in
    record { a = o.a; b = o.b; run = record { from = r.from; to = r.to; all = λ z l h. into z (r.all z l h); before = λ q. r.before (back (o.a -ℤ pos 1) q); behind = λ q. r.behind (back o.b q) }; off = o.off }

pub any_size : {X : Type 0} (P : X → ℤ → ℤ → Type 0) (v : ℕ) → AreApart P P 1 → ((i : X) → IsEmpty (FailsSize (P i) v)) → IsEmpty (FailsSize (AnyOf P) v)
any_size {X} P v apart each x y f =
    let c = f.covered in
    elim f.off [
      | inl o ↦ each c.of x y (record {
        covered = c.inside;
        off = inl (off_in (λ i z. P i z y) c.of v x (λ j k u w p q l h. apart.same j k u y w y p q (omega (arith, ints))) c.inside
            (off_like (λ z. AnyOf P z y) (λ z. (k : X) × P k z y) v x (λ z p. (p.of, p.inside)) (λ z p. record { of = p.0; inside = p.1 }) o));
      })
      | inr o ↦ each c.of x y (record {
        covered = c.inside;
        off = inr (off_in (λ i z. P i x z) c.of v y (λ j k u w p q l h. apart.same j k x u x w p q (omega (arith, ints))) c.inside
            (off_like (λ z. AnyOf P x z) (λ z. (k : X) × P k x z) v y (λ z p. (p.of, p.inside)) (λ z p. record { of = p.0; inside = p.1 }) o));
      })
    ]

-- ---- spacing: both ends of a gap, and two close cells, are of one set
pub linked_any : {X : Type 0} (P : X → ℤ → ℤ → Type 0) (i : X) (n : ℕ) (a b : Cell) → Steps (Linked (P i)) n a b → Chain (Linked (AnyOf P)) a b
linked_any P i zero a b e = none (Linked (AnyOf P)) a b e
linked_any P i (suc n) a b (m, l, rest) = joined (Linked (AnyOf P)) a m b (one (Linked (AnyOf P)) a m (record { from = record { of = i; inside = l.from }; to = record { of = i; inside = l.to }; edge = l.edge })) (linked_any P i n m b rest)

notch_in : {X : Type 0} (P : X → ℤ → Type 0) (Q : ℤ → Type 0) (v : ℕ) (t : ℤ) → ((z : ℤ) → Q z → (i : X) × P i z) → ((i : X) (z : ℤ) → P i z → Q z) → ((i j : X) (u w : ℤ) → P i u → P j w → u ≤ℤ w → w ≤ℤ (u +ℤ pos v) → i ≡ j) → IsNotch Q v t → (i : X) × IsNotch (P i) v t
notch_in P Q v t parts whole same n =
    let p = parts (n.a -ℤ pos 1) n.before in
    let q = parts n.b n.behind in
    let from = n.from in
    let to = n.to in
    let short = n.short in
    let e = same p.0 q.0 (n.a -ℤ pos 1) n.b p.1 q.1 (omega (arith, ints)) (omega (arith, ints)) in
    (p.0, record { a = n.a; b = n.b; from = from; to = to; all = λ z l h c. n.all z l h (whole p.0 z c); before = p.1; behind = subst (λ k. P k n.b) (sym e) q.1; short = short })

pub any_spacing : {X : Type 0} (P : X → ℤ → ℤ → Type 0) (v : ℕ) → AreApart P P v → ((i : X) → IsEmpty (FailsSpacing (P i) v)) → IsEmpty (FailsSpacing (AnyOf P) v)
any_spacing P v apart each x y (inl f) = elim f.notch [
  | inl n ↦ let m = notch_in (λ i z. P i z y) (λ z. AnyOf P z y) v x (λ z p. (p.of, p.inside)) (λ i z p. record { of = i; inside = p }) (λ i j u w p q l h. apart.same i j u y w y p q (omega (arith, ints))) n in
      each m.0 x y (inl (record { bare = λ p. f.bare (record { of = m.0; inside = p }); notch = inl m.1 }))
  | inr n ↦ let m = notch_in (λ i z. P i x z) (λ z. AnyOf P x z) v y (λ z p. (p.of, p.inside)) (λ i z p. record { of = i; inside = p }) (λ i j u w p q l h. apart.same i j x u x w p q (omega (arith, ints))) n in
      each m.0 x y (inl (record { bare = λ p. f.bare (record { of = m.0; inside = p }); notch = inr m.1 }))
]
any_spacing P v apart each x y (inr f) =
    let c = f.covered in
    let o = f.other in
    let e = apart.same c.of o.of x y f.s f.t c.inside o.inside f.near in
    each c.of x y (inr (record { covered = c.inside; s = f.s; t = f.t; other = subst (λ k. P k f.s f.t) (sym e) o.inside; near = f.near; apart = λ chain. f.apart (linked_any P c.of chain.count _ _ chain.steps) }))

-- ---- surround asks nothing of how the sets lie, away that a set and what it keeps away from are of one part
pub any_surround : {X : Type 0} (P Q : X → ℤ → ℤ → Type 0) (d : ℕ) → ((i : X) → IsEmpty (FailsSurround (P i) (Q i) d)) → IsEmpty (FailsSurround (AnyOf P) (AnyOf Q) d)
any_surround P Q d each x y f = each f.covered.of x y (record { covered = f.covered.inside; s = f.s; t = f.t; near = f.near; out = λ q. f.out (record { of = f.covered.of; inside = q }) })

pub any_away : {X : Type 0} (P Q : X → ℤ → ℤ → Type 0) (d : ℕ) → AreApart P Q d → ((i : X) → IsEmpty (FailsAway (P i) (Q i) d)) → IsEmpty (FailsAway (AnyOf P) (AnyOf Q) d)
any_away P Q d apart each x y f =
    let e = apart.same f.covered.of f.within.of x y f.s f.t f.covered.inside f.within.inside f.near in
    each f.covered.of x y (record { covered = f.covered.inside; s = f.s; t = f.t; near = f.near; within = subst (λ k. Q k f.s f.t) (sym e) f.within.inside })

pub any_partly : {X : Type 0} (P Q : X → ℤ → ℤ → Type 0) (d : ℕ) → AreApart P Q d → ((i : X) → IsEmpty (FailsPartly (P i) (Q i) d)) → IsEmpty (FailsPartly (AnyOf P) (AnyOf Q) d)
any_partly P Q d apart each x y (f, g) =
    let e = apart.same f.covered.of f.within.of x y f.s f.t f.covered.inside f.within.inside f.near in
    each f.covered.of x y (
      record { covered = f.covered.inside; s = f.s; t = f.t; near = f.near; within = subst (λ k. Q k f.s f.t) (sym e) f.within.inside },
      record { covered = f.covered.inside; s = g.s; t = g.t; near = g.near; out = λ q. g.out (record { of = f.covered.of; inside = q }) },
    )
