-- What is found in a list, and in one whose items ascend.
use Rattle.std.specs.Prelude.{ℕ, ◌≡◌, ◌<◌, ◌≤◌, ◌&&◌, Bool, true, false, not, List, [], ◌∷◌, Some, None, AllPairs, Contains, find, length}
use Rattle.std.specs.List.{filter}
use Rattle.std.proofs.Common.{refl, sym, ap, subst, arith, ◌∙◌, inl, inr}
use Rattle.std.proofs.lemmas.Bool.{and_right, both_ways, cases_Bool}
use Rattle.std.proofs.lemmas.List.Elements.{All-contains}
use Rattle.std.proofs.lemmas.Option.{none-some}
use Rattle.cell_num.proofs.Lists.{contains_cons, contains_here, contains_none, contains_there, some_same}
use Rattle.cell_num.proofs.Pairs.{pairs_head, pairs_tail}
use Rattle.trail_state.proofs.Members.{Passes, filter_off, filter_on}

find_on : {X : Type 0} (p : X → Bool) (y : X) (ys : List X) → p y ≡ true → find p (y ∷ ys) ≡ Some y
find_on p y ys e = rw e refl

find_off : {X : Type 0} (p : X → Bool) (y : X) (ys : List X) → p y ≡ false → find p (y ∷ ys) ≡ find p ys
find_off p y ys e = rw e refl

-- what is found is there, and passes
pub found_is : {X : Type 0} (p : X → Bool) (xs : List X) (x : X) → find p xs ≡ Some x → Passes p xs x
found_is p [] x e = absurd (none-some x e)
found_is p (y ∷ ys) x e =
    elim (cases_Bool (p y)) [
      | inl on ↦ subst (Passes p (y ∷ ys)) (some_same y x (sym (find_on p y ys on) ∙ e)) (record { there = contains_here y ys; passes = on })
      | inr off ↦
          let rest : Passes p ys x = found_is p ys x (sym (find_off p y ys off) ∙ e) in
          record { there = contains_there y ys x rest.there; passes = rest.passes }
    ]

-- nothing is found where nothing passes
pub find_none : {X : Type 0} (p : X → Bool) (xs : List X) → ((x : X) → Contains xs x → p x ≡ false) → find p xs ≡ None
find_none p [] h = refl
find_none p (y ∷ ys) h = find_off p y ys (h y (contains_here y ys)) ∙ find_none p ys (λ x c. h x (contains_there y ys x c))

-- where nothing passes one of two tests, nothing passes both
pub none_both : {X : Type 0} (p q : X → Bool) (xs : List X) → find q xs ≡ None → filter (λ x. p x && q x) xs ≡ []
none_both p q [] none = refl
none_both p q (x ∷ xs) none =
    elim (cases_Bool (q x)) [
      | inl on ↦ absurd (none-some x (sym none ∙ find_on q x xs on))
      | inr off ↦ filter_off (λ y. p y && q y) x xs (and_right (p x) (q x) off) ∙ none_both p q xs (sym (find_off q x xs off) ∙ none)
    ]

-- where nothing passes, all is left
pub all_left : {X : Type 0} (p : X → Bool) (xs : List X) → filter p xs ≡ [] → filter (λ x. not (p x)) xs ≡ xs
all_left p [] none = refl
all_left {X} p (x ∷ xs) none =
    elim (cases_Bool (p x)) [
      | inl on ↦
          let many : length (x ∷ filter p xs) ≡ 0 = ap (λ (ys : List X). length ys) (sym (filter_on p x xs on) ∙ none) in
          absurd (omega (arith, many))
      | inr off ↦ filter_on (λ y. not (p y)) x xs (ap not off) ∙ ap (λ (ys : List X). x ∷ ys) (all_left p xs (sym (filter_off p x xs off) ∙ none))
    ]

-- the first that passes is the least
pub first_least : {X : Type 0} (f : X → ℕ) (p : X → Bool) (xs : List X) (x it : X) → AllPairs (λ (a b : X). f a < f b) xs → Contains xs x → p x ≡ true → find p xs ≡ Some it → f it ≤ f x
first_least f p [] x it ascend there on is = absurd (contains_none x there)
first_least {X} f p (y ∷ ys) x it ascend there on is =
    elim (cases_Bool (p y)) [
      | inl here ↦
          let same : f y ≡ f it = ap f (some_same y it (sym (find_on p y ys here) ∙ is)) in
          elim (contains_cons y ys x there) [
            | inl first ↦ omega (arith, same, ap f first)
            | inr rest ↦ let l : f y < f x = All-contains (λ (b : X). f y < f b) ys x (pairs_head (λ (a b : X). f a < f b) y ys ascend) rest in omega (arith, same, l)
          ]
      | inr other ↦ elim (contains_cons y ys x there) [
        | inl first ↦ absurd (both_ways (p y) other (ap p first ∙ on))
        | inr rest ↦ first_least f p ys x it (pairs_tail (λ (a b : X). f a < f b) y ys ascend) rest on (sym (find_off p y ys other) ∙ is)
      ]
    ]

-- items with one number are one
pub one_numbered : {X : Type 0} (f : X → ℕ) (xs : List X) (x y : X) → AllPairs (λ (a b : X). f a < f b) xs → Contains xs x → Contains xs y → f x ≡ f y → x ≡ y
one_numbered f [] x y ascend cx cy e = absurd (contains_none x cx)
one_numbered {X} f (z ∷ zs) x y ascend cx cy e =
    elim (contains_cons z zs x cx) [
      | inl zx ↦ elim (contains_cons z zs y cy) [
        | inl zy ↦ sym zx ∙ zy
        | inr later ↦ absurd (omega (arith, above y later, ap f zx, e))
      ]
      | inr later ↦ elim (contains_cons z zs y cy) [
        | inl zy ↦ absurd (omega (arith, above x later, ap f zy, e))
        | inr last ↦ one_numbered f zs x y (pairs_tail (λ (a b : X). f a < f b) z zs ascend) later last e
      ]
    ]
  where
    above : (w : X) → Contains zs w → f z < f w
    above w c = All-contains (λ (b : X). f z < f b) zs w (pairs_head (λ (a b : X). f a < f b) z zs ascend) c
