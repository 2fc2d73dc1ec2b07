-- The rectangles of a region are the runs of its rows.
use Rattle.std.proofs.Common.{◌≡◌, ◌↔◌, ℕ, ℤ, pos, neg_ℤ, ◌≤◌, ◌<◌, ◌≤ℤ◌, ◌<ℤ◌, ◌+ℤ◌, ◌-ℤ◌, List, [], ◌∷◌, Bool, true, false, not, ◌==◌, arith, inl, inr, ◌⊎◌, refl, sym, subst, ◌∙◌}
use Rattle.std.specs.List.{All, AllPairs, Contains, filter}
use Rattle.std.proofs.lemmas.Int.{ints, by_lt_z}
use Rattle.std.proofs.lemmas.Bool.Decides.{Decides-ltb, Decides-eqb}
use Rattle.std.proofs.lemmas.List.Elements.{All-contains}
use Rattle.cell_num.proofs.Lists.{contains_none, contains_cons, all_from_contains}
use Rattle.cell_num.proofs.Pairs.{pairs_head, pairs_tail}
use Rattle.box_geom.specs.Rectangle.{Rectangle, Holds, Covers}
use Rattle.box_geom.specs.Runs.{IsRun, IsShort, IsNotch}
use Rattle.box_geom.specs.Regions.{IsBlock, Follows, AreBanded, SameCells, OnPlane}
use Rattle.box_geom.proofs.Filters.{contains_filter, in_filter}
use Rattle.box_geom.proofs.Strips.{covers_first, covers_later, covers_split}
use Rattle.scmos_rules.specs.Lengths.{FailsWidth, FailsSize, FailsOpen, IsWrong, FailsRun, is_wrong, width_of}
use Rattle.scmos_rules.specs.Cells.{AreCells, AreInner}
use Rattle.scmos_rules.specs.declared.runs.Measure.{Measure}
use Rattle.scmos_rules.specs.declared.runs.Measure.TheVariants.{Width, Size}

-- two elements of a list in order: the same one, or one before the other
pub pair_cases : {X : Type 0} (R : X → X → Type 0) (xs : List X) (a b : X) → AllPairs R xs → Contains xs a → Contains xs b → (a ≡ b) ⊎ (R a b ⊎ R b a)
pair_cases R [] a b p c d = absurd (contains_none a c)
pair_cases R (x ∷ xs) a b p c d =
    elim (contains_cons x xs a c) [
      | inl e ↦ elim (contains_cons x xs b d) [ inl f ↦ inl (sym e ∙ f) | inr k ↦ inr (inl (subst (λ z. R z b) e (All-contains (R x) xs b (pairs_head R x xs p) k))) ]
      | inr j ↦ elim (contains_cons x xs b d) [ inl f ↦ inr (inr (subst (λ z. R z a) f (All-contains (R x) xs a (pairs_head R x xs p) j))) | inr k ↦ pair_cases R xs a b (pairs_tail R x xs p) j k ]
    ]

-- two rectangles of bands that a row goes through: the same one, or one behind the other with room between them
row_cases : (rs : List Rectangle) → AreBanded rs → (a b : Rectangle) → Contains rs a → Contains rs b → (x s y : ℤ) → Holds a x y → Holds b s y → (a ≡ b) ⊎ ((a.x2 <ℤ b.x1) ⊎ (b.x2 <ℤ a.x1))
row_cases rs banded a b c d x s y h k = elim (pair_cases Follows rs a b banded.order c d) [ inl e ↦ inl e | inr (inl f) ↦ inr (inl (behind a b x s h k f)) | inr (inr f) ↦ inr (inr (behind b a s x k h f)) ]
  where
    behind : (p q : Rectangle) (u v : ℤ) → Holds p u y → Holds q v y → Follows p q → p.x2 <ℤ q.x1
    behind p q u v m n (inl above) = let i = m.high in let j = n.low in absurd (omega (arith, ints))
    behind p q u v m n (inr (e, f, g)) = g

-- a rectangle of bands is the run of each cell of it
pub block_is_run : (rs : List Rectangle) → AreBanded rs → (r : Rectangle) → Contains rs r → (x y : ℤ) → Holds r x y → IsRun (λ z. Covers rs z y) r.x1 r.x2 x
block_is_run rs banded r c x y h = record { from = h.left; to = h.right; all = λ z l u. record { rect = r; listed = c; holds = record { left = l; right = u; low = h.low; high = h.high } }; before = λ d. before d.rect d.listed d.holds; behind = λ d. behind d.rect d.listed d.holds }
  where
    before : (q : Rectangle) → Contains rs q → Holds q (r.x1 -ℤ pos 1) y → ⊥
    before q d k = let kl = k.left in let kr = k.right in let hl = h.left in let hr = h.right in elim (row_cases rs banded r q c d x (r.x1 -ℤ pos 1) y h k) [ inl e ↦ (let m = subst (λ (z : Rectangle). z.x1 ≤ℤ (r.x1 -ℤ pos 1)) (sym e) k.left in omega (arith, ints)) | inr (inl l) ↦ omega (arith, ints) | inr (inr l) ↦ omega (arith, ints) ]

    behind : (q : Rectangle) → Contains rs q → Holds q r.x2 y → ⊥
    behind q d k = let kl = k.left in let kr = k.right in let hl = h.left in let hr = h.right in elim (row_cases rs banded r q c d x r.x2 y h k) [ inl e ↦ (let m = subst (λ (z : Rectangle). r.x2 <ℤ z.x2) (sym e) k.right in omega (arith, ints)) | inr (inl l) ↦ omega (arith, ints) | inr (inr l) ↦ omega (arith, ints) ]

-- a place has one run
record SameRun (a b c d : ℤ) : Type 0 where
  from : a ≡ c
  to : b ≡ d

first_same : (P : ℤ → Type 0) (a b c d t : ℤ) → IsRun P a b t → IsRun P c d t → a <ℤ c → ⊥
first_same P a b c d t r q less = let f = r.to in let g = q.from in q.before (r.all (c -ℤ pos 1) (omega (arith, ints)) (omega (arith, ints)))

last_same : (P : ℤ → Type 0) (a b c d t : ℤ) → IsRun P a b t → IsRun P c d t → b <ℤ d → ⊥
last_same P a b c d t r q less = let f = r.to in let g = q.from in let h = q.to in r.behind (q.all b (omega (arith, ints)) less)

one_run : (P : ℤ → Type 0) (a b c d t : ℤ) → IsRun P a b t → IsRun P c d t → SameRun a b c d
one_run P a b c d t r q = record {
  from = by_lt_z a c (λ less. absurd (first_same P a b c d t r q less)) (λ most. by_lt_z c a (λ more. absurd (first_same P c d a b t q r more)) (λ even. omega (arith, ints)));
  to = by_lt_z b d (λ less. absurd (last_same P a b c d t r q less)) (λ most. by_lt_z d b (λ more. absurd (last_same P c d a b t q r more)) (λ even. omega (arith, ints)));
}

-- a set in place of an equal one
run_like : (P Q : ℤ → Type 0) (a b t : ℤ) → ((z : ℤ) → P z ↔ Q z) → IsRun P a b t → IsRun Q a b t
run_like P Q a b t e r = record { from = r.from; to = r.to; all = λ z l u. (e z).0 (r.all z l u); before = λ q. r.before ((e (a -ℤ pos 1)).1 q); behind = λ q. r.behind ((e b).1 q) }

pub wrong_like : (m : Measure) (P Q : ℤ → Type 0) (v : ℕ) (t : ℤ) → ((z : ℤ) → P z ↔ Q z) → IsWrong m P v t → IsWrong m Q v t
wrong_like Width P Q v t e s = record { a = s.a; b = s.b; run = run_like P Q s.a s.b t e s.run; short = s.short }
wrong_like Size P Q v t e s = record { a = s.a; b = s.b; run = run_like P Q s.a s.b t e s.run; off = s.off }

pub swap : {A B : Type 0} → A ↔ B → B ↔ A
swap (f, g) = (g, f)

width_there : (P Q : ℤ → ℤ → Type 0) (v : ℕ) (x y : ℤ) → ((s t : ℤ) → P s t ↔ Q s t) → FailsWidth P v x y → FailsWidth Q v x y
width_there P Q v x y e f = record { covered = (e x y).0 f.covered; short = elim f.short [ inl s ↦ inl (wrong_like Width (λ z. P z y) (λ z. Q z y) v x (λ z. e z y) s) | inr s ↦ inr (wrong_like Width (λ z. P x z) (λ z. Q x z) v y (λ z. e x z) s) ] }

size_there : (P Q : ℤ → ℤ → Type 0) (v : ℕ) (x y : ℤ) → ((s t : ℤ) → P s t ↔ Q s t) → FailsSize P v x y → FailsSize Q v x y
size_there P Q v x y e f = record { covered = (e x y).0 f.covered; off = elim f.off [ inl s ↦ inl (wrong_like Size (λ z. P z y) (λ z. Q z y) v x (λ z. e z y) s) | inr s ↦ inr (wrong_like Size (λ z. P x z) (λ z. Q x z) v y (λ z. e x z) s) ] }

pub like_run : (m : Measure) (P : ℤ → ℤ → Type 0) (v : ℕ) (set r : List Rectangle) → AreCells P set → AreCells (FailsRun m (Covers set) v) r → AreCells (FailsRun m P v) r
like_run Width P v set r p f = record { same = λ x y. (λ c. width_there (Covers set) P v x y p.same ((f.same x y).0 c), λ d. (f.same x y).1 (width_there P (Covers set) v x y (λ s t. swap (p.same s t)) d)) }
like_run Size P v set r p f = record { same = λ x y. (λ c. size_there (Covers set) P v x y p.same ((f.same x y).0 c), λ d. (f.same x y).1 (size_there P (Covers set) v x y (λ s t. swap (p.same s t)) d)) }

-- the test of a rectangle is the one of its run
wrong_block : (m : Measure) (P : ℤ → Type 0) (v : ℕ) (r : Rectangle) (x : ℤ) → IsRun P r.x1 r.x2 x → is_wrong m v r ≡ true → IsWrong m P v x
wrong_block Width P v r x run e =
    let less : width_of r < v = (Decides-ltb (width_of r) v).0 e in
    let f = run.from in let t = run.to in
    record { a = r.x1; b = r.x2; run = run; short = omega (arith, ints) }
wrong_block Size P v r x run e = record { a = r.x1; b = r.x2; run = run; off = off }
  where
    off : r.x2 ≡ r.x1 +ℤ pos v → ⊥
    off q = by (width_of r == v) refl
      where
        by : (b : Bool) → (width_of r == v) ≡ b → ⊥
        by true k = not_true k e
          where
            not_true : (width_of r == v) ≡ true → not (width_of r == v) ≡ true → ⊥
            not_true s t = cc (s, t)
        by false k = let same : width_of r ≡ v = omega (arith, ints) in cc ((Decides-eqb (width_of r) v).1 same, k)

wrong_test : (m : Measure) (P : ℤ → Type 0) (v : ℕ) (r : Rectangle) (x : ℤ) → IsRun P r.x1 r.x2 x → IsWrong m P v x → is_wrong m v r ≡ true
wrong_test Width P v r x run s =
    let o = one_run P s.a s.b r.x1 r.x2 x s.run run in
    let e = o.from in let f = o.to in let k = s.short in let a = run.from in let b = run.to in
    let less : width_of r < v = omega (arith, ints) in
    (Decides-ltb (width_of r) v).1 less
wrong_test Size P v r x run s = by (width_of r == v) refl
  where
    o : SameRun s.a s.b r.x1 r.x2
    o = one_run P s.a s.b r.x1 r.x2 x s.run run

    by : (b : Bool) → (width_of r == v) ≡ b → not b ≡ true
    by true k =
        let same : width_of r ≡ v = (Decides-eqb (width_of r) v).0 k in
        let e = o.from in let f = o.to in let a = run.from in let b = run.to in
        absurd (s.off (omega (arith, ints)))
    by false k = refl

pub rows_wrong : (m : Measure) (v : ℕ) (set some r : List Rectangle) → AreBanded set → some ≡ filter (is_wrong m v) set → SameCells r some → AreCells (λ x y. Covers set x y × IsWrong m (λ z. Covers set z y) v x) r
rows_wrong m v set some r banded e same = record { same = λ x y. (λ c. there x y (subst (λ z. Covers z x y) e ((same x y).0 c)), λ d. (same x y).1 (subst (λ z. Covers z x y) (sym e) (back x y d))) }
  where
    there : (x y : ℤ) → Covers (filter (is_wrong m v) set) x y → Covers set x y × IsWrong m (λ z. Covers set z y) v x
    there x y c = let k = in_filter (is_wrong m v) set c.rect c.listed in (record { rect = c.rect; listed = k.listed; holds = c.holds }, wrong_block m (λ z. Covers set z y) v c.rect x (block_is_run set banded c.rect k.listed x y c.holds) k.passes)

    back : (x y : ℤ) → Covers set x y × IsWrong m (λ z. Covers set z y) v x → Covers (filter (is_wrong m v) set) x y
    back x y (c, w) = record { rect = c.rect; listed = contains_filter (is_wrong m v) set c.rect c.listed (wrong_test m (λ z. Covers set z y) v c.rect x (block_is_run set banded c.rect c.listed x y c.holds) w); holds = c.holds }

pub some_blocks : (m : Measure) (v : ℕ) (set some : List Rectangle) → AreBanded set → some ≡ filter (is_wrong m v) set → All IsBlock some
some_blocks m v set some banded e = subst (All IsBlock) (sym e) (all_from_contains IsBlock (filter (is_wrong m v) set) (λ r c. All-contains IsBlock set r banded.blocks (in_filter (is_wrong m v) set r c).listed))

-- rows and columns together
run_there : (m : Measure) (P : ℤ → ℤ → Type 0) (v : ℕ) (x y : ℤ) → FailsRun m P v x y → P x y × (IsWrong m (λ z. P z y) v x ⊎ IsWrong m (λ z. P x z) v y)
run_there Width P v x y f = (f.covered, f.short)
run_there Size P v x y f = (f.covered, f.off)

run_back : (m : Measure) (P : ℤ → ℤ → Type 0) (v : ℕ) (x y : ℤ) → P x y → IsWrong m (λ z. P z y) v x ⊎ IsWrong m (λ z. P x z) v y → FailsRun m P v x y
run_back Width P v x y c f = record { covered = c; short = f }
run_back Size P v x y c f = record { covered = c; off = f }

pub runs_wrong : (m : Measure) (v : ℕ) (set rows turned across columns r : List Rectangle) → AreCells (λ x y. Covers set x y × IsWrong m (λ z. Covers set z y) v x) rows → ((x y : ℤ) → Covers turned x y ↔ Covers set y x) → AreCells (λ x y. Covers turned x y × IsWrong m (λ z. Covers turned z y) v x) across → ((x y : ℤ) → Covers columns x y ↔ Covers across y x) → ((x y : ℤ) → Covers r x y ↔ (Covers rows x y ⊎ Covers columns x y)) → AreCells (FailsRun m (Covers set) v) r
runs_wrong m v set rows turned across columns r p q s t u = record { same = λ x y. (λ c. there x y c, λ f. back x y (run_there m (Covers set) v x y f)) }
  where
    there : (x y : ℤ) → Covers r x y → FailsRun m (Covers set) v x y
    there x y c =
        elim ((u x y).0 c) [
          | inl d ↦ (let k = (p.same x y).0 d in run_back m (Covers set) v x y k.0 (inl k.1))
          | inr d ↦ (let k = (s.same y x).0 ((t x y).0 d) in run_back m (Covers set) v x y ((q y x).0 k.0) (inr (wrong_like m (λ z. Covers turned z x) (λ z. Covers set x z) v y (λ z. q z x) k.1)))
        ]

    back : (x y : ℤ) → Covers set x y × (IsWrong m (λ z. Covers set z y) v x ⊎ IsWrong m (λ z. Covers set x z) v y) → Covers r x y
    back x y (c, inl w) = (u x y).1 (inl ((p.same x y).1 (c, w)))
    back x y (c, inr w) = (u x y).1 (inr ((t x y).1 ((s.same y x).1 ((q y x).1 c, wrong_like m (λ z. Covers set x z) (λ z. Covers turned z x) v y (λ z. swap (q z x)) w))))

-- whether a list covers a cell can be told
pub covers_or_not : (rs : List Rectangle) (x y : ℤ) → Covers rs x y ⊎ (Covers rs x y → ⊥)
covers_or_not [] x y = inr (λ c. contains_none c.rect c.listed)
covers_or_not (r ∷ rs) x y = by (holds_or_not r x y) (covers_or_not rs x y)
  where
    holds_or_not : (q : Rectangle) (s t : ℤ) → Holds q s t ⊎ (Holds q s t → ⊥)
    holds_or_not q s t =
        by_lt_z s q.x1 (λ l. inr (λ h. let k = h.left in omega (arith, ints))) (λ a.
        by_lt_z s q.x2 (λ b. by_lt_z t q.y1 (λ l. inr (λ h. let k = h.low in omega (arith, ints))) (λ c.
        by_lt_z t q.y2 (λ d. inl (record { left = a; right = b; low = c; high = d })) (λ m. inr (λ h. let k = h.high in omega (arith, ints)))))
        (λ m. inr (λ h. let k = h.right in omega (arith, ints))))

    by : Holds r x y ⊎ (Holds r x y → ⊥) → Covers rs x y ⊎ (Covers rs x y → ⊥) → Covers (r ∷ rs) x y ⊎ (Covers (r ∷ rs) x y → ⊥)
    by (inl h) d = inl (covers_first r rs x y h)
    by (inr n) (inl d) = inl (covers_later r rs x y d)
    by (inr n) (inr k) = inr (λ c. elim (covers_split r rs x y c) [ inl h ↦ n h | inr d ↦ k d ])

-- within 1,000,000,000 of the middle, the runs of a set's rest are its gaps
abbrev Bounded : (ℤ → Type 0) → Type 0
Bounded P = (z : ℤ) → P z → (neg_ℤ (pos 1000000000) ≤ℤ z) × (z ≤ℤ pos 1000000000)

abbrev OnLine : ℤ → Type 0
OnLine z = (neg_ℤ (pos 2000000000) ≤ℤ z) × (z <ℤ pos 2000000000)

abbrev Rest : (ℤ → Type 0) → ℤ → Type 0
Rest P z = OnLine z × (P z → ⊥)

notch_of_rest : (P : ℤ → Type 0) (v : ℕ) (t : ℤ) → v ≤ 1000 → Bounded P → ((z : ℤ) → P z ⊎ (P z → ⊥)) → IsShort (Rest P) v t → IsNotch P v t
notch_of_rest P v t small bounded dec s = record { a = s.a; b = s.b; from = s.run.from; to = s.run.to; all = λ z l u. (s.run.all z l u).1; before = before (dec (s.a -ℤ pos 1)); behind = behind (dec s.b); short = s.short }
  where
    at : Rest P t
    at = s.run.all t s.run.from s.run.to

    first : Rest P s.a
    first = let f = s.run.from in let g = s.run.to in s.run.all s.a (omega (arith, ints)) (omega (arith, ints))

    last : Rest P (s.b -ℤ pos 1)
    last = let f = s.run.from in let g = s.run.to in s.run.all (s.b -ℤ pos 1) (omega (arith, ints)) (omega (arith, ints))

    -- the run ends at a place of P on one side, or at the end of the line
    before : P (s.a -ℤ pos 1) ⊎ (P (s.a -ℤ pos 1) → ⊥) → P (s.a -ℤ pos 1)
    before (inl p) = p
    before (inr n) = absurd (by_lt_z s.a (neg_ℤ (pos 1999999999)) (λ less. edge less (dec s.b)) (λ most. s.run.before ((let f = first.0 in let g = f.1 in (omega (arith, ints), omega (arith, ints))), n)))
      where
        edge : s.a <ℤ neg_ℤ (pos 1999999999) → P s.b ⊎ (P s.b → ⊥) → ⊥
        edge less (inl p) = let b = bounded s.b p in let l = b.0 in let k = s.short in omega (arith, ints)
        edge less (inr m) = let k = s.short in let l = last.0 in let g = s.run.from in let h = s.run.to in s.run.behind ((let u = l.0 in let w = first.0 in let o = w.0 in (omega (arith, ints), omega (arith, ints))), m)

    behind : P s.b ⊎ (P s.b → ⊥) → P s.b
    behind (inl p) = p
    behind (inr n) = absurd (by_lt_z s.b (pos 2000000000) (λ less. s.run.behind ((let l = last.0 in let g = l.0 in (omega (arith, ints), less)), n)) (λ most. edge most (dec (s.a -ℤ pos 1))))
      where
        edge : pos 2000000000 ≤ℤ s.b → P (s.a -ℤ pos 1) ⊎ (P (s.a -ℤ pos 1) → ⊥) → ⊥
        edge most (inl p) = let b = bounded (s.a -ℤ pos 1) p in let l = b.1 in let k = s.short in omega (arith, ints)
        edge most (inr m) = let k = s.short in let l = first.0 in let h = l.1 in let g = s.run.from in let i = s.run.to in s.run.before ((omega (arith, ints), omega (arith, ints)), m)

rest_of_notch : (P : ℤ → Type 0) (v : ℕ) (t : ℤ) → Bounded P → IsNotch P v t → IsShort (Rest P) v t
rest_of_notch P v t bounded n = record { a = n.a; b = n.b; run = record { from = n.from; to = n.to; all = λ z l u. ((let p = bounded (n.a -ℤ pos 1) n.before in let q = bounded n.b n.behind in let i = p.0 in let j = q.1 in (omega (arith, ints), omega (arith, ints))), n.all z l u); before = λ r. r.1 n.before; behind = λ r. r.1 n.behind }; short = n.short }

pub open_is : (v : ℕ) (set plane rest r : List Rectangle) → v ≤ 1000 → AreInner set → ((x y : ℤ) → Covers plane x y ↔ OnPlane x y) → ((x y : ℤ) → Covers rest x y ↔ (Covers plane x y × (Covers set x y → ⊥))) → AreCells (FailsRun Width (Covers rest) v) r → AreCells (FailsOpen (Covers set) v) r
open_is v set plane rest r small inner whole minus f = record { same = λ x y. (λ c. there x y ((f.same x y).0 c), λ d. (f.same x y).1 (back x y d)) }
  where
    on : (x y : ℤ) → Covers rest x y → OnPlane x y × (Covers set x y → ⊥)
    on x y c = let m = (minus x y).0 c in ((whole x y).0 m.0, m.1)

    off : (x y : ℤ) → OnLine x → OnLine y → (Covers set x y → ⊥) → Covers rest x y
    off x y p q n = (minus x y).1 ((whole x y).1 (record { left = p.0; right = p.1; low = q.0; high = q.1 }), n)

    row : (x y : ℤ) → OnLine y → (z : ℤ) → Covers rest z y ↔ Rest (λ w. Covers set w y) z
    row x y q z = (λ c. let m = on z y c in ((m.0.left, m.0.right), m.1), λ (p, n). off z y p q n)

    column : (x y : ℤ) → OnLine x → (z : ℤ) → Covers rest x z ↔ Rest (λ w. Covers set x w) z
    column x y p z = (λ c. let m = on x z c in ((m.0.low, m.0.high), m.1), λ (q, n). off x z p q n)

    bound_row : (y : ℤ) → Bounded (λ w. Covers set w y)
    bound_row y z c = let i = inner.inner z y c in (i.left, i.right)

    bound_column : (x : ℤ) → Bounded (λ w. Covers set x w)
    bound_column x z c = let i = inner.inner x z c in (i.low, i.high)

    there : (x y : ℤ) → FailsWidth (Covers rest) v x y → FailsOpen (Covers set) v x y
    there x y w =
        let m = on x y w.covered in
        record {
          bare = m.1;
          notch = elim w.short [
            | inl s ↦ inl (notch_of_rest (λ z. Covers set z y) v x small (bound_row y) (λ z. covers_or_not set z y) (wrong_like Width (λ z. Covers rest z y) (Rest (λ z. Covers set z y)) v x (row x y (m.0.low, m.0.high)) s))
            | inr s ↦ inr (notch_of_rest (λ z. Covers set x z) v y small (bound_column x) (λ z. covers_or_not set x z) (wrong_like Width (λ z. Covers rest x z) (Rest (λ z. Covers set x z)) v y (column x y (m.0.left, m.0.right)) s))
          ];
        }

    wide : (z : ℤ) → (neg_ℤ (pos 1000000000) ≤ℤ z) × (z ≤ℤ pos 1000000000) → OnLine z
    wide z (l, u) = (omega (arith, ints), omega (arith, ints))

    back : (x y : ℤ) → FailsOpen (Covers set) v x y → FailsWidth (Covers rest) v x y
    back x y o = elim o.notch [ inl n ↦ along n | inr n ↦ upward n ]
      where
        along : IsNotch (λ z. Covers set z y) v x → FailsWidth (Covers rest) v x y
        along n =
            let i = inner.inner (n.a -ℤ pos 1) y n.before in
            let line = wide y (i.low, i.high) in
            let s = rest_of_notch (λ z. Covers set z y) v x (bound_row y) n in
            let short = wrong_like Width (Rest (λ z. Covers set z y)) (λ z. Covers rest z y) v x (λ z. swap (row x y line z)) s in
            record { covered = short.run.all x short.run.from short.run.to; short = inl short }

        upward : IsNotch (λ z. Covers set x z) v y → FailsWidth (Covers rest) v x y
        upward n =
            let i = inner.inner x (n.a -ℤ pos 1) n.before in
            let line = wide x (i.left, i.right) in
            let s = rest_of_notch (λ z. Covers set x z) v y (bound_column x) n in
            let short = wrong_like Width (Rest (λ z. Covers set x z)) (λ z. Covers rest x z) v y (λ z. swap (column x y line z)) s in
            record { covered = short.run.all y short.run.from short.run.to; short = inr short }

-- what the turned set leaves free is what the set leaves free, turned
pub rest_turned : (set plane rest turned turned_rest : List Rectangle) → ((x y : ℤ) → Covers plane x y ↔ OnPlane x y) → ((x y : ℤ) → Covers rest x y ↔ (Covers plane x y × (Covers set x y → ⊥))) → ((x y : ℤ) → Covers turned x y ↔ Covers set y x) → ((x y : ℤ) → Covers turned_rest x y ↔ (Covers plane x y × (Covers turned x y → ⊥))) → (x y : ℤ) → Covers turned_rest x y ↔ Covers rest y x
rest_turned set plane rest turned turned_rest whole minus turn turned_minus x y = (there, back)
  where
    flip : (s t : ℤ) → Covers plane s t → Covers plane t s
    flip s t c = let o = (whole s t).0 c in (whole t s).1 (record { left = o.low; right = o.high; low = o.left; high = o.right })

    there : Covers turned_rest x y → Covers rest y x
    there c = let m = (turned_minus x y).0 c in (minus y x).1 (flip x y m.0, λ d. m.1 ((turn x y).1 d))

    back : Covers rest y x → Covers turned_rest x y
    back c = let m = (minus y x).0 c in (turned_minus x y).1 (flip y x m.0, λ d. m.1 ((turn x y).0 d))
