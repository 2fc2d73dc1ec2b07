-- Runs of claims of one net and layer, and halves of a list of claims.
use Rattle.std.proofs.Common.{◌≡◌, ◌↔◌, ℕ, ◌-◌, ◌<◌, ◌≤◌, ◌==◌, IsTrue, Bool, true, false, not, cond, map, take, drop, get_or, length, is_some, IfOk, IfSome, IsNone, Option, Some, None, Result, Ok, Err, List, [], ◌∷◌, IsPermutation, arith, refl, sym, subst, ap, ◌∙◌}
use Rattle.std.specs.Borrow.{Bor}
use Rattle.std.specs.List.{All, Contains, prefix_len}
use Rattle.std.proofs.lemmas.Bool.Decides.{Decides-eqb}
use Rattle.std.proofs.lemmas.List.Elements.{All-append, All-contains, All-cons, All-nil, All-head, All-tail, Contains-append_left, Contains-append_right}
use Rattle.std.proofs.lemmas.List.{take-append-drop, take_all}
use Rattle.std.proofs.lemmas.List.Sums.{take_while-cons}
use Rattle.std.proofs.lemmas.List.Sorted.{All-permutation, IsPermutation-sym}
use Rattle.cell_num.specs.declared.list.NoMemory.{NoMemory as NoMemoryOf}
use Rattle.cell_num.proofs.Lists.{all_from_contains, all_imply, contains_here}
use Rattle.box_geom.specs.Layers.{same_layer}
use Rattle.box_geom.specs.Rectangle.{Rectangle}
use Rattle.box_geom.specs.Regions.{Bare, IsEmpty, IsFirst}
use Rattle.box_geom.specs.declared.layer.Layer.{Layer}
use Rattle.box_geom.specs.declared.region.Place.{Place}
use Rattle.net_extract.specs.NetMaps.{NetMap, AreCellsOf}
use Rattle.net_extract.proofs.Filling.{and_parts}
use Rattle.net_extract.proofs.LayerNumbers.{layer_is}
use Rattle.lef_read.specs.Differences.{IsFirstNot}
use Rattle.lef_read.specs.Lookups.{is_alike, name_of_claim, HasBlock, IsClaim, IsOfNet, Fits, IsAstray, IsMisfitBy, IsPortOff as IsPortOffBy}
use Rattle.lef_read.specs.declared.differ.Differ.{Differ}
use Rattle.lef_read.specs.declared.differ.Differ.TheVariants.{Extract, NoLabel, Port as PortOff, Bare as BareOff, NoMemory}
use Rattle.lef_read.specs.declared.claim.Claim.{Claim}
use Rattle.lef_read.proofs.Claims.{all_fit_none, first_before, first_behind, none_bare}

pub alike_all : (net : ℕ) (layer : Layer) (claims : List Claim) → All (IsOfNet net layer) (take (prefix_len (is_alike net layer) claims) claims)
alike_all net layer [] = All-nil (IsOfNet net layer)
alike_all net layer (c ∷ cs) = subst (All (IsOfNet net layer)) (sym (take_while-cons (is_alike net layer) c cs)) (by (is_alike net layer c) refl (alike_all net layer cs))
  where
    by : (b : Bool) → is_alike net layer c ≡ b → All (IsOfNet net layer) (take (prefix_len (is_alike net layer) cs) cs) → All (IsOfNet net layer) (cond b (c ∷ take (prefix_len (is_alike net layer) cs) cs) [])
    by false e rest = All-nil (IsOfNet net layer)
    by true e rest =
        let (same, on) = and_parts (c.net == net) (same_layer c.layer layer) e in
        All-cons (IsOfNet net layer) c (take (prefix_len (is_alike net layer) cs) cs) (record { net = (Decides-eqb c.net net).0 same; layer = layer_is c.layer layer on }) rest

all_parts : {X : Type 0} (P : X → Type 0) (n : ℕ) (xs : List X) → All P (take n xs) → All P (drop n xs) → All P xs
all_parts P n xs a b = subst (All P) (take-append-drop n xs) (All-append P (take n xs) (drop n xs) a b)

all_front : {X : Type 0} (P : X → Type 0) (n : ℕ) (xs : List X) → All P xs → All P (take n xs)
all_front P n xs all = all_from_contains P (take n xs) (λ x c. All-contains P xs x all (subst (λ ys. Contains ys x) (take-append-drop n xs) (Contains-append_left (take n xs) (drop n xs) x c)))

pub all_behind : {X : Type 0} (P : X → Type 0) (n : ℕ) (xs : List X) → All P xs → All P (drop n xs)
all_behind P n xs all = all_from_contains P (drop n xs) (λ x c. All-contains P xs x all (subst (λ ys. Contains ys x) (take-append-drop n xs) (Contains-append_right (take n xs) (drop n xs) x c)))

pub run_fits : {X : Type 0} (P : X → Type 0) (x : X) (xs all : List X) (n : ℕ) → All P (x ∷ take n xs) → (All P (x ∷ xs) ↔ All P all) → All P (drop n xs) ↔ All P all
run_fits P x xs all n run same = (
  λ rest. same.0 (All-cons P x xs (All-head P x (take n xs) run) (all_parts P n xs (All-tail P x (take n xs) run) rest)),
  λ whole. all_behind P n xs (All-tail P x xs (same.1 whole)),
)

pub run_fails : {X : Type 0} (P : X → Type 0) (x : X) (xs all : List X) (n : ℕ) → (All P (x ∷ take n xs) → ⊥) → (All P (x ∷ xs) ↔ All P all) → All P all → ⊥
run_fails P x xs all n fails same whole =
    let rest = same.1 whole in
    fails (All-cons P x (take n xs) (All-head P x xs rest) (all_front P n xs (All-tail P x xs rest)))

pub sorted_fit : {X : Type 0} (P : X → Type 0) (xs ys : List X) → IsPermutation xs ys → All P ys ↔ All P xs
sorted_fit P xs ys moved = (All-permutation P ys xs (IsPermutation-sym xs ys moved), All-permutation P xs ys moved)

pub second_fails : {X : Type 0} (P : X → Type 0) (n : ℕ) (xs : List X) → (All P xs → ⊥) → All P (take n xs) → All P (drop n xs) → ⊥
second_fails P n xs fails front behind = fails (all_parts P n xs front behind)

pub not_empty : {X : Type 0} (P : X → Type 0) (xs : List X) → (All P xs → ⊥) → 0 < length xs
not_empty P [] fails = absurd (fails (All-nil P))
not_empty P (x ∷ xs) fails = omega arith

pub have_blocks : (m : NetMap) (claims : List Claim) → All (IsClaim m) claims → All HasBlock claims
have_blocks m claims are = all_imply (IsClaim m) HasBlock claims (λ c is. is.block) are

-- whether some claims of one net and layer fit, by the first cell of them that is bare
pub fit_decides : (m : NetMap) (first : Claim) (more : List Claim) (blocks pieces : List Rectangle) (o : Option Place) → All (IsOfNet first.net first.layer) more → AreCellsOf m first.net first.layer pieces → blocks ≡ map (λ (c : Claim). c.block) (first ∷ more) → IfSome o (λ p. IsFirst (Bare blocks pieces) p.x p.y) → (IsNone o → IsEmpty (Bare blocks pieces)) → (b : Bool) → b ≡ not (is_some o) → IsTrue b ↔ All (Fits m) (first ∷ more)
fit_decides m first more blocks pieces o of are e some none b f = by o some none b f
  where
    alike : All (IsOfNet first.net first.layer) (first ∷ more)
    alike = All-cons (IsOfNet first.net first.layer) first more (record { net = refl; layer = refl }) of

    by : (o : Option Place) → IfSome o (λ p. IsFirst (Bare blocks pieces) p.x p.y) → (IsNone o → IsEmpty (Bare blocks pieces)) → (b : Bool) → b ≡ not (is_some o) → IsTrue b ↔ All (Fits m) (first ∷ more)
    by None some none true f = (λ t. none_bare m (first ∷ more) first.net first.layer pieces alike are (subst (λ bs. IsEmpty (Bare bs pieces)) e (none refl)), λ all. refl)
    by None some none false f = absurd (cc f)
    by (Some p) some none true f = absurd (cc f)
    by (Some p) some none false f = (λ t. absurd (cc t), λ all. absurd (all_fit_none m (first ∷ more) first.net first.layer pieces alike are all p.x p.y (subst (λ bs. Bare bs pieces p.x p.y) e some.covered)))

-- the same of other claims
pub answer_same : {X : Type 0} (P : X → Type 0) (xs ys : List X) (r : Result Bool NoMemoryOf) → IsPermutation xs ys → IfOk r (λ b. IsTrue b ↔ All P ys) → IfOk r (λ b. IsTrue b ↔ All P xs)
answer_same P xs ys (Ok b) moved is = let s = sorted_fit P xs ys moved in (λ t. s.0 (is.0 t), λ all. is.1 (s.1 all))
answer_same P xs ys (Err e) moved is = tt

pub first_part : {X : Type 0} (rest : List X) (x : X) → 1 ≤ length rest → x ≡ get_or rest 0 x → rest ≡ x ∷ take (length rest - 1) (drop 1 rest)
first_part [] x some is = absurd (omega (arith, some))
first_part (y ∷ ys) x some is =
    let e : length ys ≤ length (y ∷ ys) - 1 = omega arith in
    ap (λ z. z ∷ ys) (sym is) ∙ ap (λ zs. x ∷ zs) (sym (take_all (length (y ∷ ys) - 1) ys e))

-- a run of the rest, from its first claim on
pub run_stops : {X : Type 0} (P : X → Type 0) (x : X) (rest xs all front : List X) (n : ℕ) (b : Bool) → rest ≡ x ∷ xs → front ≡ take n xs → not b ≡ true → (IsTrue b ↔ All P (x ∷ front)) → (All P rest ↔ All P all) → IsTrue false ↔ All P all
run_stops P x rest xs all front n true r f no' is same = absurd (cc no')
run_stops P x rest xs all front n false r f no' is same = (
  λ t. absurd (cc t),
  λ whole. absurd (run_fails P x xs all n (λ run. let t : false ≡ true = is.1 (subst (λ ys. All P (x ∷ ys)) (sym f) run) in cc t) (subst (λ ys. All P ys ↔ All P all) r same) whole),
)

pub run_goes : {X : Type 0} (P : X → Type 0) (x : X) (rest xs all front back : List X) (n : ℕ) (b : Bool) → rest ≡ x ∷ xs → front ≡ take n xs → back ≡ drop n xs → not b ≡ false → (IsTrue b ↔ All P (x ∷ front)) → (All P rest ↔ All P all) → All P back ↔ All P all
run_goes P x rest xs all front back n false r f g no' is same = absurd (cc no')
run_goes P x rest xs all front back n true r f g no' is same = subst (λ zs. All P zs ↔ All P all) (sym g) (run_fits P x xs all n (subst (λ ys. All P (x ∷ ys)) f (is.0 refl)) (subst (λ ys. All P ys ↔ All P all) r same))

pub run_front : {X : Type 0} (P : X → Type 0) (x : X) (rest xs front : List X) (n : ℕ) → rest ≡ x ∷ xs → front ≡ take n xs → All P rest → All P front
run_front P x rest xs front n r f all = subst (All P) (sym f) (all_front P n xs (All-tail P x xs (subst (All P) r all)))

pub run_back : {X : Type 0} (P : X → Type 0) (x : X) (rest xs back : List X) (n : ℕ) → rest ≡ x ∷ xs → back ≡ drop n xs → All P rest → All P back
run_back P x rest xs back n r g all = subst (All P) (sym g) (all_behind P n xs (All-tail P x xs (subst (All P) r all)))

pub before_answer : {X E : Type 0} (P : X → Type 0) (n : ℕ) (xs front back : List X) (r : Result (Bor X) E) → front ≡ take n xs → back ≡ drop n xs → IfOk r (λ c. IsFirstNot P front c.now) → IfOk r (λ c. IsFirstNot P xs c.now)
before_answer P n xs front back (Ok c) f g is = first_before P (take n xs) (drop n xs) xs c.now (sym (take-append-drop n xs)) (subst (λ ys. IsFirstNot P ys c.now) f is)
before_answer P n xs front back (Err e) f g is = tt

pub behind_answer : {X E : Type 0} (P : X → Type 0) (n : ℕ) (xs front back : List X) (r : Result (Bor X) E) → front ≡ take n xs → back ≡ drop n xs → All P front → IfOk r (λ c. IsFirstNot P back c.now) → IfOk r (λ c. IsFirstNot P xs c.now)
behind_answer P n xs front back (Ok c) f g fine is = first_behind P (take n xs) (drop n xs) xs c.now (sym (take-append-drop n xs)) (subst (All P) f fine) (subst (λ ys. IsFirstNot P ys c.now) g is)
behind_answer P n xs front back (Err e) f g fine is = tt

pub only_one : {X : Type 0} (P : X → Type 0) (xs : List X) (x : X) → length xs ≡ 1 → x ≡ get_or xs 0 x → (All P xs → ⊥) → IsFirstNot P xs x
only_one P [] x e is fails = absurd (omega (arith, e))
only_one P (y ∷ []) x e is fails = record { before = []; after = []; split = ap (λ z. z ∷ []) (sym is); fine = All-nil P; fails = λ p. fails (All-cons P y [] (subst P is p) (All-nil P)) }
only_one P (y ∷ z ∷ zs) x e is fails = absurd (omega (arith, e))

-- the first that does not fit is one of the list
pub first_in : {X : Type 0} (P Q : X → Type 0) (xs : List X) (x : X) → IsFirstNot P xs x → All Q xs → Q x
first_in P Q xs x f all = All-contains Q xs x all (subst (λ ys. Contains ys x) (sym f.split) (Contains-append_right f.before (x ∷ f.after) x (contains_here x f.after)))

pub front_fails : {X : Type 0} (P : X → Type 0) (xs : List X) (b : Bool) → b ≡ false → (IsTrue b ↔ All P xs) → All P xs → ⊥
front_fails P xs b e is all = let t : b ≡ true = is.1 all in cc (sym e ∙ t)

-- the first claim that does not fit, by one of its cells
pub misfit_is : (m : NetMap) (claims : List Claim) (c : Claim) (p : Place) (d : Differ) → IsFirstNot (Fits m) claims c → IsFirst (IsAstray m c) p.x p.y → IsPortOffBy (name_of_claim m c) p d → IsMisfitBy m claims d
misfit_is m claims c p (PortOff n x y) first at is = record { claim = c; first = first; named = sym is.0; at = subst (λ v. IsFirst (IsAstray m c) x v) (sym is.2) (subst (λ u. IsFirst (IsAstray m c) u p.y) (sym is.1) at) }
misfit_is m claims c p NoMemory first at is = tt
misfit_is m claims c p (Extract f) first at is = absurd is
misfit_is m claims c p (NoLabel n) first at is = absurd is
misfit_is m claims c p (BareOff l x y) first at is = absurd is

pub ruleset misfit_rules = (front_fails, second_fails, not_empty)
