-- The made cells of the first names, and one more.
use Rattle.std.proofs.Common.{ℕ, zero, suc, ◌+◌, ◌<◌, ◌≡◌, ◌⊎◌, take, drop, get_or, length, arith, List, [], ◌∷◌, ◌++◌, map, All, AllPairs, Contains, Option, Some, None, true, false, Bool, cond, refl, sym, ap, subst, ◌∙◌, inl, inr}
use Rattle.std.specs.Prelude.{bytes_eq, find}
use Rattle.std.proofs.lemmas.List.Elements.{All-append, All-contains}
use Rattle.std.proofs.lemmas.List.{take_more}
use Rattle.std.proofs.lemmas.Slice.Eq.{bytes_eq-Decides}
use Rattle.cell_num.proofs.Lists.{all_from_contains, all_imply, all_one, contains_cons, contains_here, contains_none, contains_there, some_same}
use Rattle.cell_num.proofs.Pairs.{pairs_append, pairs_head, pairs_none, pairs_one, pairs_tail}
use Rattle.row_abut.specs.declared.cell.RowCell.{RowCell}
use Rattle.cell_make.proofs.MadeCells.{IsReady}
use Rattle.cell_make.specs.RowInputs.{RowInputs}
use Rattle.cell_make.specs.Rowed.{AreMade, IsMadeCell, IsOneByName, MadeCell, cell_name, row_cell}
use Rattle.cell_make.specs.RowSteps.{AreCellsOf, IsNextCell, IsSoundCell, has_name}

-- ---- lists

pub map_push : {X Y : Type 0} (f : X → Y) (xs : List X) (x : X) → map f (xs ++ x ∷ []) ≡ map f xs ++ f x ∷ []
map_push f [] x = refl
map_push f (y ∷ ys) x = ap (λ zs. f y ∷ zs) (map_push f ys x)

pub contains_map : {X Y : Type 0} (f : X → Y) (xs : List X) (x : X) → Contains xs x → Contains (map f xs) (f x)
contains_map f [] x there = absurd (contains_none x there)
contains_map f (y ∷ ys) x there = elim (contains_cons y ys x there) [
  | inl same ↦ subst (λ z. Contains (f y ∷ map f ys) (f z)) same (contains_here (f y) (map f ys))
  | inr later ↦ contains_there (f y) (map f ys) (f x) (contains_map f ys x later)
]

pub mapped_from : {X Y : Type 0} (f : X → Y) (xs : List X) (y : Y) → Contains (map f xs) y → (x : X) × Contains xs x × (f x ≡ y)
mapped_from f [] y there = absurd (contains_none y there)
mapped_from f (x ∷ xs) y there = elim (contains_cons (f x) (map f xs) y there) [
  | inl same ↦ (x, contains_here x xs, same)
  | inr later ↦ let (z, inside, same) = mapped_from f xs y later in (z, contains_there x xs z inside, same)
]

found : {X : Type 0} (p : X → Bool) (xs : List X) (x : X) → find p xs ≡ Some x → Contains xs x × (p x ≡ true)
found p [] x e = absurd cc
found p (y ∷ ys) x e = by (p y) refl (found p ys x) e
  where
    by : (b : Bool) → p y ≡ b → (find p ys ≡ Some x → Contains ys x × (p x ≡ true)) → cond b (Some y) (find p ys) ≡ Some x → Contains (y ∷ ys) x × (p x ≡ true)
    by true passes more e = subst (λ z. Contains (y ∷ ys) z × (p z ≡ true)) (some_same y x e) (contains_here y ys, passes)
    by false fails more e = let (later, passes) = more e in (contains_there y ys x later, passes)

none_found : {X : Type 0} (p : X → Bool) (xs : List X) (x : X) → find p xs ≡ None → Contains xs x → p x ≡ false
none_found p [] x e there = absurd (contains_none x there)
none_found p (y ∷ ys) x e there = by (p y) refl (none_found p ys x) e (contains_cons y ys x there)
  where
    by : (b : Bool) → p y ≡ b → (find p ys ≡ None → Contains ys x → p x ≡ false) → cond b (Some y) (find p ys) ≡ None → (y ≡ x) ⊎ Contains ys x → p x ≡ false
    by true passes more e w = absurd cc
    by false fails more e (inl same) = subst (λ z. p z ≡ false) same fails
    by false fails more e (inr later) = more e later

-- ---- made cells

pub ready : (r : RowInputs) (names : List (List ℕ)) (made : List MadeCell) → AreMade r names made → All IsSoundCell made → All (IsReady r) made
ready r names made are sound = all_from_contains (IsReady r) made (λ m there. record { is = All-contains (IsMadeCell r) made m are.each there; sound = All-contains IsSoundCell made m sound there })

-- one of two that are among them, by its name
pub one_each : (made : List MadeCell) → AllPairs IsOneByName made → (a b : MadeCell) → Contains made a → Contains made b → IsOneByName a b
one_each [] pairs a b x y = absurd (contains_none a x)
one_each (m ∷ ms) pairs a b x y = by (one_each ms (pairs_tail IsOneByName m ms pairs) a b) (contains_cons m ms a x) (contains_cons m ms b y)
  where
    later : (z : MadeCell) → Contains ms z → IsOneByName m z
    later z there = All-contains (IsOneByName m) ms z (pairs_head IsOneByName m ms pairs) there

    by : (Contains ms a → Contains ms b → IsOneByName a b) → (m ≡ a) ⊎ Contains ms a → (m ≡ b) ⊎ Contains ms b → IsOneByName a b
    by more (inl p) (inl q) = record { one = λ same. sym p ∙ q }
    by more (inl p) (inr q) = subst (λ z. IsOneByName z b) p (later b q)
    by more (inr p) (inl q) = record { one = λ same. sym ((later a p).one (ap cell_name q ∙ sym same)) ∙ q }
    by more (inr p) (inr q) = more p q

pub none_made : (r : RowInputs) → AreCellsOf r [] []
none_made r = record {
  made = [];
  are = record { named = refl; each = all_from_contains (IsMadeCell r) [] (λ m there. absurd (contains_none m there)); once = pairs_none IsOneByName };
  sound = all_from_contains IsSoundCell [] (λ m there. absurd (contains_none m there));
  shown = refl;
}

push : (r : RowInputs) (names : List (List ℕ)) (cells : List RowCell) (m : MadeCell) (s : AreCellsOf r names cells) → IsReady r m → All (λ a. IsOneByName a m) s.made → AreCellsOf r (names ++ cell_name m ∷ []) (cells ++ row_cell m ∷ [])
push r names cells m s h others = record {
  made = s.made ++ m ∷ [];
  are = record {
    named = map_push cell_name s.made m ∙ ap (λ ns. ns ++ cell_name m ∷ []) s.are.named;
    each = All-append (IsMadeCell r) s.made (m ∷ []) s.are.each (all_one (IsMadeCell r) m h.is);
    once = pairs_append IsOneByName s.made (m ∷ []) s.are.once (pairs_one IsOneByName m) (all_imply (λ a. IsOneByName a m) (λ a. All (IsOneByName a) (m ∷ [])) s.made (λ a one. all_one (IsOneByName a) m one) others);
  };
  sound = All-append IsSoundCell s.made (m ∷ []) s.sound (all_one IsSoundCell m h.sound);
  shown = ap (λ cs. cs ++ row_cell m ∷ []) s.shown ∙ sym (map_push row_cell s.made m);
}

pub next_more : (r : RowInputs) (names : List (List ℕ)) (cells : List RowCell) (name : List ℕ) (c : RowCell) → AreCellsOf r names cells → IsNextCell r name (find (has_name name) cells) c → AreCellsOf r (names ++ name ∷ []) (cells ++ c ∷ [])
next_more r names cells name c s next = by (find (has_name name) cells) refl next
  where
    pushed : (m : MadeCell) → cell_name m ≡ name → row_cell m ≡ c → IsReady r m → All (λ a. IsOneByName a m) s.made → AreCellsOf r (names ++ name ∷ []) (cells ++ c ∷ [])
    pushed m named cell h others =
        subst (λ n. AreCellsOf r (names ++ n ∷ []) (cells ++ c ∷ [])) named
        (subst (λ x. AreCellsOf r (names ++ cell_name m ∷ []) (cells ++ x ∷ [])) cell (push r names cells m s h others))

    other : find (has_name name) cells ≡ None → (a : MadeCell) → Contains s.made a → cell_name a ≡ name → ⊥
    other e a there same =
        let is : bytes_eq (cell_name a) name ≡ false = none_found (has_name name) cells (row_cell a) e (subst (λ cs. Contains cs (row_cell a)) (sym s.shown) (contains_map row_cell s.made a there)) in
        let also : bytes_eq (cell_name a) name ≡ true = (bytes_eq-Decides (cell_name a) name).1 same in
        cc

    by : (o : Option RowCell) → find (has_name name) cells ≡ o → IsNextCell r name o c → AreCellsOf r (names ++ name ∷ []) (cells ++ c ∷ [])
    by (Some old) e is =
        let (there, passes) = found (has_name name) cells old e in
        let (m, inside, cell) = mapped_from row_cell s.made old (subst (λ cs. Contains cs old) s.shown there) in
        let named : cell_name m ≡ name = ap (λ (x : RowCell). x.name) cell ∙ (bytes_eq-Decides old.name name).0 passes in
        pushed m named (cell ∙ sym is) (All-contains (IsReady r) s.made m (ready r names s.made s.are s.sound) inside)
        (all_from_contains (λ a. IsOneByName a m) s.made (λ a there. one_each s.made s.are.once a m there inside))
    by None e is =
        pushed is.m is.named (sym is.cell) (record { is = is.is; sound = is.sound })
        (all_from_contains (λ a. IsOneByName a is.m) s.made (λ a there. record { one = λ same. absurd (other e a there (same ∙ is.named)) }))

-- ---- the names in front of one, and those behind it

pub parted : (names : List (List ℕ)) (i : ℕ) (name : List ℕ) → i < length names → name ≡ get_or names i name → names ≡ take i names ++ name ∷ drop (i + 1) names
parted [] i name less is = absurd (omega (arith, less))
parted (n ∷ ns) zero name less is = ap (λ z. z ∷ ns) (sym is)
parted (n ∷ ns) (suc i) name less is =
    let on : (suc i + 1) ≡ suc (i + 1) = omega arith in
    ap (λ l. n ∷ l) (parted ns i name (omega (arith, less)) is) ∙ ap (λ k. n ∷ (take i ns ++ name ∷ drop k (n ∷ ns))) (sym on)

pub one_more : (names : List (List ℕ)) (i : ℕ) (name : List ℕ) → i < length names → name ≡ get_or names i name → take i names ++ name ∷ [] ≡ take (i + 1) names
one_more names i name less is = ap (λ n. take i names ++ n ∷ []) is ∙ sym (take_more names i name less)
