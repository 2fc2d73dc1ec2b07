-- Trees of numbers in which each number hangs on one that is none above it.
use Rattle.std.proofs.Common.{◌≡◌, ℕ, zero, suc, ◌+◌, ◌<◌, ◌≤◌, max, min, List, length, get_or, set, arith, refl, sym, subst, ap, ◌∙◌, inl, inr}
use Rattle.std.proofs.lemmas.List.{length-set, get_or-set_same, get_or-set_other}
use Rattle.std.proofs.lemmas.Bool.{cases_eq}
use Rattle.box_geom.specs.Chains.{Chain, Steps}
use Rattle.number_trees.proofs.Chains.{none, one, joined, turned}
use Rattle.number_trees.specs.Classes.{IsParent, AreKin, InTree, AreLow, IsRoot, hung, IsJoined, AreRoots, AreSound, AreTrees, AreLeast, IsTried}
use Rattle.number_trees.proofs.Classing.{GoesBack, rechained, ends}

-- ---- trees
kin_back : (ls : List ℕ) (a b : ℕ) → AreKin ls a b → AreKin ls b a
kin_back ls a b (inl p) = inr p
kin_back ls a b (inr p) = inl p

pub tree_back : (ls : List ℕ) (a b : ℕ) → InTree ls a b → InTree ls b a
tree_back ls a b t = turned (AreKin ls) (kin_back ls) a b t

pub tree_both : (ls : List ℕ) (a b c : ℕ) → InTree ls a b → InTree ls b c → InTree ls a c
tree_both ls a b c t u = joined (AreKin ls) a b c t u

-- ---- the way up
pub up_tree : (ls : List ℕ) (i at : ℕ) → at < length ls → InTree ls i at → InTree ls i (get_or ls at 0)
up_tree ls i at l t = tree_both ls i at (get_or ls at 0) t (one (AreKin ls) at (get_or ls at 0) (inl (record { below = l; is = refl })))

pub joined_is : (i j a b : ℕ) (old us vs new : List ℕ) → us ≡ old → vs ≡ old → IsRoot us i a → IsRoot vs j b → new ≡ hung a b old → IsJoined i j old new
joined_is i j a b old us vs new eu ev ra rb e = record { one = a; other = b; first = subst (λ z. IsRoot z i a) eu ra; second = subst (λ z. IsRoot z j b) ev rb; made = e }

-- ---- a root that is hung on another number
hung_parent : (ls : List ℕ) (r m : ℕ) → get_or ls r 0 ≡ r → (a b : ℕ) → IsParent ls a b → InTree (set ls r m) a b
hung_parent ls r m own a b p =
    elim (cases_eq a r) [
      | inl e ↦ none (AreKin (set ls r m)) a b (e ∙ sym own ∙ ap (λ z. get_or ls z 0) (sym e) ∙ p.is)
      | inr ne ↦ one (AreKin (set ls r m)) a b (inl (record { below = (let l = p.below in let c = length-set ls r m in omega (arith, l, c)); is = get_or-set_other ls r a m 0 ne ∙ p.is }))
    ]

hung_kin : (ls : List ℕ) (r m : ℕ) → get_or ls r 0 ≡ r → (a b : ℕ) → AreKin ls a b → InTree (set ls r m) a b
hung_kin ls r m own a b (inl p) = hung_parent ls r m own a b p
hung_kin ls r m own a b (inr p) = tree_back (set ls r m) b a (hung_parent ls r m own b a p)

hung_tree : (ls : List ℕ) (r m : ℕ) → get_or ls r 0 ≡ r → (a b : ℕ) → InTree ls a b → InTree (set ls r m) a b
hung_tree ls r m own a b t = rechained (AreKin ls) (AreKin (set ls r m)) (hung_kin ls r m own) a b t

hung_step : (ls : List ℕ) (r m : ℕ) → r < length ls → InTree (set ls r m) r m
hung_step ls r m l = one (AreKin (set ls r m)) r m (inl (record { below = (let c = length-set ls r m in omega (arith, l, c)); is = get_or-set_same ls r m 0 l }))

-- numbers of one tree are of one class
pub class_of_tree : (n : ℕ) (R : ℕ → ℕ → Type 0) → GoesBack R → (ls : List ℕ) → AreSound n R ls → (a b : ℕ) → InTree ls a b → Chain R a b
class_of_tree n R back ls is a b t = rechained (AreKin ls) R kin a b t
  where
    up : (i j : ℕ) → IsParent ls i j → Chain R i j
    up i j p = subst (λ z. Chain R i z) p.is (is.reach i (let l = p.below in let c = is.count in omega (arith, l, c)))

    kin : (i j : ℕ) → AreKin ls i j → Chain R i j
    kin i j (inl p) = up i j p
    kin i j (inr p) = turned R back j i (up j i p)

-- what holds of the smaller and the greater of two numbers in one order holds of them in the other
by_ends : (P : ℕ → ℕ → Type 0) (a b : ℕ) → P a b → P b a → P (max a b) (min a b)
by_ends P a b ab ba = elim (ends a b) [
  | inl p ↦ subst (λ z. P z (min a b)) (sym p.0) (subst (λ z. P a z) (sym p.1) ab)
  | inr p ↦ subst (λ z. P z (min a b)) (sym p.0) (subst (λ z. P b z) (sym p.1) ba)
]

of_ends : (P : ℕ → ℕ → Type 0) (a b : ℕ) → ((x y : ℕ) → P x y → P y x) → P (max a b) (min a b) → P a b
of_ends P a b back h = elim (ends a b) [
  | inl p ↦ subst (λ z. P z b) p.0 (subst (λ z. P (max a b) z) p.1 h)
  | inr p ↦ back b a (subst (λ z. P z a) p.0 (subst (λ z. P (max a b) z) p.1 h))
]

pub joining_is : (n : ℕ) (R Q : ℕ → ℕ → Type 0) → GoesBack R → (i j : ℕ) (ls made : List ℕ) → i < n → j < n → R i j → AreSound n R ls → IsJoined i j ls made → IsTried n R Q i j ls made
joining_is n R Q back i j ls made li lj r is q = subst (IsTried n R Q i j ls) (sym q.made) (record {
  sound = record { count = length-set ls top low ∙ is.count; low = lows; reach = reach };
  keeps = record { kept = λ a b t. hung_tree ls top low own a b t };
  joined = λ again. tree_both new i a j (kept i a q.first.tree) (tree_both new a b j edge (tree_back new j b (kept j b q.second.tree)));
})
  where
    a : ℕ
    a = q.one

    b : ℕ
    b = q.other

    top : ℕ
    top = max q.one q.other

    low : ℕ
    low = min q.one q.other

    new : List ℕ
    new = set ls top low

    own : get_or ls top 0 ≡ top
    own = by_ends (λ x y. get_or ls x 0 ≡ x) q.one q.other q.first.own q.second.own

    within : top < length ls
    within = let c = is.count in let u = q.first.low in let v = q.second.low in omega (arith, c, u, v, li, lj)

    kept : (x y : ℕ) → InTree ls x y → InTree new x y
    kept x y t = hung_tree ls top low own x y t

    edge : InTree new a b
    edge = of_ends (InTree new) q.one q.other (tree_back new) (hung_step ls top low within)

    class : (x y : ℕ) → InTree ls x y → Chain R x y
    class x y t = class_of_tree n R back ls is x y t

    across : Chain R q.one q.other
    across = joined R q.one i q.other (turned R back i q.one (class i q.one q.first.tree)) (joined R i j q.other (one R i j r) (class j q.other q.second.tree))

    down : Chain R top low
    down = by_ends (Chain R) q.one q.other across (turned R back q.one q.other across)

    lows : (p : ℕ) → p < n → get_or new p 0 ≤ p
    lows p lp = elim (cases_eq p top) [
      | inl e ↦ subst (λ z. get_or new z 0 ≤ z) (sym e) (let s = get_or-set_same ls top low 0 within in let m : low ≤ top = omega arith in omega (arith, s, m))
      | inr ne ↦ let o = get_or-set_other ls top p low 0 ne in let was = is.low p lp in omega (arith, o, was)
    ]

    reach : (p : ℕ) → p < n → Chain R p (get_or new p 0)
    reach p lp = elim (cases_eq p top) [
      | inl e ↦ subst (λ z. Chain R z (get_or new z 0)) (sym e) (subst (λ z. Chain R top z) (sym (get_or-set_same ls top low 0 within)) down)
      | inr ne ↦ subst (λ z. Chain R p z) (sym (get_or-set_other ls top p low 0 ne)) (is.reach p lp)
    ]

pub sound_low : (n : ℕ) (R : ℕ → ℕ → Type 0) (ls : List ℕ) → AreSound n R ls → AreLow ls
sound_low n R ls is = record { low = λ i l. is.low i (let c = is.count in omega (arith, l, c)) }

-- ---- roots in place of parents
pub record AreRaised (k : ℕ) (old now : List ℕ) : Type 0 where
  pub count : length now ≡ length old
  pub low : (i : ℕ) → i < length old → get_or now i 0 ≤ i
  pub tree : (i : ℕ) → i < length old → InTree old i (get_or now i 0)
  pub even : (i : ℕ) → i < k → i < length old → get_or now i 0 ≡ get_or now (get_or old i 0) 0
  pub rest : (i : ℕ) → k ≤ i → get_or now i 0 ≡ get_or old i 0

pub none_raised : (old : List ℕ) → AreLow old → AreRaised 0 old old
none_raised old is = record {
  count = refl;
  low = is.low;
  tree = λ i l. one (AreKin old) i (get_or old i 0) (inl (record { below = l; is = refl }));
  even = λ i l m. absurd (omega (arith, l));
  rest = λ i l. refl;
}

pub more_raised : (k : ℕ) (old now new : List ℕ) → AreLow old → k < length old → AreRaised k old now → new ≡ set now k (get_or now (get_or now k 0) 0) → AreRaised (k + 1) old new
more_raised k old now new lows lk was e = subst (AreRaised (k + 1) old) (sym e) (record { count = length-set now k top ∙ was.count; low = low; tree = tree; even = even; rest = rest })
  where
    up : ℕ
    up = get_or now k 0

    top : ℕ
    top = get_or now (get_or now k 0) 0

    made : List ℕ
    made = set now k top

    up_low : get_or now k 0 ≤ k
    up_low = was.low k lk

    up_within : get_or now k 0 < length old
    up_within = let u = up_low in omega (arith, u, lk)

    here : get_or made k 0 ≡ top
    here = get_or-set_same now k top 0 (let c = was.count in omega (arith, c, lk))

    there : (i : ℕ) → (i ≡ k → ⊥) → get_or made i 0 ≡ get_or now i 0
    there i ne = get_or-set_other now k i top 0 ne

    low : (i : ℕ) → i < length old → get_or made i 0 ≤ i
    low i l = elim (cases_eq i k) [
      | inl e ↦ subst (λ z. get_or made z 0 ≤ z) (sym e) (let h = here in let u = up_low in let v = was.low (get_or now k 0) up_within in omega (arith, h, u, v))
      | inr ne ↦ let t = there i ne in let w = was.low i l in omega (arith, t, w)
    ]

    tree : (i : ℕ) → i < length old → InTree old i (get_or made i 0)
    tree i l = elim (cases_eq i k) [
      | inl e ↦ subst (λ z. InTree old z (get_or made z 0)) (sym e) (subst (λ z. InTree old k z) (sym here) (tree_both old k up top (was.tree k lk) (was.tree (get_or now k 0) up_within)))
      | inr ne ↦ subst (λ z. InTree old i z) (sym (there i ne)) (was.tree i l)
    ]

    -- the parent of number k
    parent : get_or old k 0 ≡ get_or now k 0
    parent = sym (was.rest k (omega arith))

    same : get_or made k 0 ≡ get_or made (get_or old k 0) 0
    same = elim (cases_eq (get_or old k 0) k) [
      | inl e ↦ ap (λ z. get_or made z 0) (sym e)
      | inr ne ↦ here ∙ ap (λ z. get_or now z 0) (sym parent) ∙ sym (there (get_or old k 0) ne)
    ]

    earlier : (j : ℕ) → j < k → j < length old → get_or made j 0 ≡ get_or made (get_or old j 0) 0
    earlier j less m = let below = lows.low j m in there j (λ e. omega (arith, e, less)) ∙ was.even j less m ∙ sym (there (get_or old j 0) (λ e. omega (arith, e, less, below)))

    even : (i : ℕ) → i < k + 1 → i < length old → get_or made i 0 ≡ get_or made (get_or old i 0) 0
    even i l m = elim (cases_eq i k) [
      | inl e ↦ subst (λ z. get_or made z 0 ≡ get_or made (get_or old z 0) 0) (sym e) same
      | inr ne ↦ earlier i (omega (arith, l, ne)) m
    ]

    rest : (i : ℕ) → k + 1 ≤ i → get_or made i 0 ≡ get_or old i 0
    rest i l = there i (λ e. omega (arith, e, l)) ∙ was.rest i (omega (arith, l))

pub all_raised : (k : ℕ) (old new : List ℕ) → length old ≤ k → AreRaised k old new → AreRoots old new
all_raised k old new l is = record { count = is.count; low = is.low; tree = is.tree; even = λ i m. is.even i (omega (arith, l, m)) m }

-- labels of one tree are one
along_tree : (ls fs : List ℕ) → AreRoots ls fs → (m : ℕ) (i j : ℕ) → Steps (AreKin ls) m i j → get_or fs i 0 ≡ get_or fs j 0
along_tree ls fs is zero i j e = ap (λ z. get_or fs z 0) e
along_tree ls fs is (suc m) i j (k, r, rest) = kin i k r ∙ along_tree ls fs is m k j rest
  where
    up : (a b : ℕ) → IsParent ls a b → get_or fs a 0 ≡ get_or fs b 0
    up a b p = is.even a p.below ∙ ap (λ z. get_or fs z 0) p.is

    kin : (a b : ℕ) → AreKin ls a b → get_or fs a 0 ≡ get_or fs b 0
    kin a b (inl p) = up a b p
    kin a b (inr p) = sym (up b a p)

pub trees_least : (n : ℕ) (R : ℕ → ℕ → Type 0) → GoesBack R → (ls fs : List ℕ) → AreTrees n R ls → AreRoots ls fs → AreLeast n R fs
trees_least n R back ls fs is roots = record {
  sound = record {
    count = roots.count ∙ is.sound.count;
    low = λ i l. roots.low i (within i l);
    reach = λ i l. class_of_tree n R back ls is.sound i (get_or fs i 0) (roots.tree i (within i l));
  };
  same = λ i j r. let t = is.joined i j r in along_tree ls fs roots t.count i j t.steps;
}
  where
    within : (i : ℕ) → i < n → i < length ls
    within i l = let c = is.sound.count in omega (arith, l, c)
