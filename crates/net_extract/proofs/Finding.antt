-- What is found in a list by a test, and what shapes cover.
use Rattle.std.proofs.Common.{◌≡◌, cond, map, ℤ, Bool, true, false, ◌||◌, Some, None, List, [], ◌∷◌, inl, inr, refl, sym, subst, ◌∙◌}
use Rattle.std.specs.List.{Contains, filter, find, list_any}
use Rattle.cell_num.proofs.Lists.{some_same, contains_none, contains_cons, contains_here, contains_there}
use Rattle.box_geom.specs.Rectangle.{Holds, Covers}
use Rattle.box_geom.specs.Layers.{rects_on, same_layer}
use Rattle.box_geom.specs.declared.shape.Shape.{Shape}
use Rattle.box_geom.specs.declared.layer.Layer.{Layer}
use Rattle.net_extract.proofs.Covering.{cover_none, cover_first, cover_later, cover_split}

-- an element that passes a test
pub record Passes {X : Type 0} (p : X → Bool) (xs : List X) (x : X) : Type 0 where
  pub listed : Contains xs x
  pub passes : p x ≡ true

pub found : {X : Type 0} (p : X → Bool) (xs : List X) (x : X) → find p xs ≡ Some x → Passes p xs x
found p [] x e = absurd cc
found {X} p (y ∷ ys) x e = by (p y) refl e (λ f. found p ys x f)
  where
    by : (b : Bool) → p y ≡ b → cond b (Some y) (find p ys) ≡ Some x → (find p ys ≡ Some x → Passes p ys x) → Passes p (y ∷ ys) x
    by true t f rest = let same : y ≡ x = some_same y x f in record { listed = subst (Contains (y ∷ ys)) same (contains_here y ys); passes = subst (λ z. p z ≡ true) same t }
    by false t f rest = let r = rest f in record { listed = contains_there y ys x r.listed; passes = r.passes }

pub found_none : {X : Type 0} (p : X → Bool) (xs : List X) → find p xs ≡ None → (x : X) → Contains xs x → p x ≡ true → ⊥
found_none p [] e x c t = contains_none x c
found_none {X} p (y ∷ ys) e x c t = by (p y) refl e (λ f d. found_none p ys f x d t)
  where
    by : (b : Bool) → p y ≡ b → cond b (Some y) (find p ys) ≡ None → (find p ys ≡ None → Contains ys x → ⊥) → ⊥
    by true q f rest = absurd (cc f)
    by false q f rest = elim (contains_cons y ys x c) [
      | inl same ↦ let r : p y ≡ true = subst (λ z. p z ≡ true) (sym same) t in absurd (cc (sym q ∙ r))
      | inr later ↦ rest f later
    ]

-- some element passes
pub record SomePass {X : Type 0} (p : X → Bool) (xs : List X) : Type 0 where
  pub it : X
  pub listed : Contains xs it
  pub passes : p it ≡ true

pub any_of : {X : Type 0} (p : X → Bool) (xs : List X) → list_any p xs ≡ true → SomePass p xs
any_of p [] e = absurd (cc e)
any_of {X} p (y ∷ ys) e = by (p y) refl e (λ f. any_of p ys f)
  where
    by : (b : Bool) → p y ≡ b → (b || list_any p ys) ≡ true → (list_any p ys ≡ true → SomePass p ys) → SomePass p (y ∷ ys)
    by true t f rest = record { it = y; listed = contains_here y ys; passes = t }
    by false t f rest = let r = rest f in record { it = r.it; listed = contains_there y ys r.it r.listed; passes = r.passes }

pub of_any : {X : Type 0} (p : X → Bool) (xs : List X) (x : X) → Contains xs x → p x ≡ true → list_any p xs ≡ true
of_any p [] x c t = absurd (contains_none x c)
of_any {X} p (y ∷ ys) x c t =
    elim (contains_cons y ys x c) [
      | inl same ↦ let q : p y ≡ true = subst (λ z. p z ≡ true) (sym same) t in rw q refl
      | inr later ↦ by (p y) (of_any p ys x later t)
    ]
  where
    by : (b : Bool) → list_any p ys ≡ true → (b || list_any p ys) ≡ true
    by true r = refl
    by false r = r

-- a shape of the layer that holds the cell
pub record Shows (s : List Shape) (layer : Layer) (x y : ℤ) : Type 0 where
  pub shape : Shape
  pub listed : Contains s shape
  pub on : same_layer shape.layer layer ≡ true
  pub holds : Holds shape.rect x y

pub shown : (s : List Shape) (layer : Layer) (z : Shape) (x y : ℤ) → Contains s z → same_layer z.layer layer ≡ true → Holds z.rect x y → Covers (rects_on layer s) x y
shown [] layer z x y c on h = absurd (contains_none z c)
shown (q ∷ qs) layer z x y c on h =
    elim (contains_cons q qs z c) [
      | inl same ↦ let mine : same_layer q.layer layer ≡ true = subst (λ (w : Shape). same_layer w.layer layer ≡ true) (sym same) on in rw mine (cover_first q.rect (rects_on layer qs) x y (subst (λ (w : Shape). Holds w.rect x y) (sym same) h))
      | inr later ↦ by (same_layer q.layer layer) (shown qs layer z x y later on h)
    ]
  where
    by : (b : Bool) → Covers (rects_on layer qs) x y → Covers (map (λ (w : Shape). w.rect) (cond b (q ∷ filter (λ (w : Shape). same_layer w.layer layer) qs) (filter (λ (w : Shape). same_layer w.layer layer) qs))) x y
    by true r = cover_later q.rect (rects_on layer qs) x y r
    by false r = r

pub shows : (s : List Shape) (layer : Layer) (x y : ℤ) → Covers (rects_on layer s) x y → Shows s layer x y
shows [] layer x y c = absurd (cover_none x y c)
shows (q ∷ qs) layer x y c = by (same_layer q.layer layer) refl c (λ d. shows qs layer x y d)
  where
    later : Shows qs layer x y → Shows (q ∷ qs) layer x y
    later r = record { shape = r.shape; listed = contains_there q qs r.shape r.listed; on = r.on; holds = r.holds }

    by : (b : Bool) → same_layer q.layer layer ≡ b → Covers (map (λ (w : Shape). w.rect) (cond b (q ∷ filter (λ (w : Shape). same_layer w.layer layer) qs) (filter (λ (w : Shape). same_layer w.layer layer) qs))) x y → (Covers (rects_on layer qs) x y → Shows qs layer x y) → Shows (q ∷ qs) layer x y
    by true e d rest = elim (cover_split q.rect (rects_on layer qs) x y d) [
      | inl h ↦ record { shape = q; listed = contains_here q qs; on = e; holds = h }
      | inr r ↦ later (rest r)
    ]
    by false e d rest = later (rest d)
