-- The shapes of one layer by themselves.
use Rattle.std.proofs.Common.{◌≡◌, cond, Bool, true, false, List, [], ◌∷◌, map, filter, inl, inr, refl, sym, subst, ap, ◌∙◌}
use Rattle.std.specs.List.{All, Contains}
use Rattle.std.proofs.lemmas.List.Elements.{All-contains}
use Rattle.cell_num.proofs.Lists.{contains_cons, contains_here, contains_there, all_from_contains}
use Rattle.box_geom.specs.Rectangle.{IsProper}
use Rattle.box_geom.specs.Layers.{rects_on, same_layer}
use Rattle.box_geom.specs.declared.shape.Shape.{Shape}
use Rattle.box_geom.specs.declared.layer.Layer.{Layer}
use Rattle.net_extract.specs.Cuts.{shapes_on}

-- one test behind another that it implies
pub filter_twice : {X : Type 0} (p q : X → Bool) → ((x : X) → q x ≡ true → p x ≡ true) → (xs : List X) → filter q (filter p xs) ≡ filter q xs
filter_twice p q f [] = refl
filter_twice {X} p q f (x ∷ xs) = by (p x) (q x) refl refl (filter_twice p q f xs)
  where
    by : (a b : Bool) → p x ≡ a → q x ≡ b → filter q (filter p xs) ≡ filter q xs → filter q (cond a (x ∷ filter p xs) (filter p xs)) ≡ cond b (x ∷ filter q xs) (filter q xs)
    by true true e g r = rw g (ap (λ z. x ∷ z) r)
    by true false e g r = rw g r
    by false true e g r = absurd (cc (sym e ∙ f x g))
    by false false e g r = r

pub in_filter : {X : Type 0} (p : X → Bool) (xs : List X) (z : X) → Contains (filter p xs) z → Contains xs z
in_filter p [] z c = c
in_filter {X} p (x ∷ xs) z c = by (p x) c (λ d. in_filter p xs z d)
  where
    by : (b : Bool) → Contains (cond b (x ∷ filter p xs) (filter p xs)) z → (Contains (filter p xs) z → Contains xs z) → Contains (x ∷ xs) z
    by true d rest = elim (contains_cons x (filter p xs) z d) [ inl e ↦ subst (Contains (x ∷ xs)) e (contains_here x xs) | inr r ↦ contains_there x xs z (rest r) ]
    by false d rest = contains_there x xs z (rest d)

pub apart_rects : (layer : Layer) (s all us ts : List Shape) → all ≡ s → us ≡ ts → ts ≡ shapes_on layer all → rects_on layer us ≡ rects_on layer s
apart_rects layer s all us ts es eu e =
    ap (rects_on layer) (eu ∙ e)
    ∙ ap (λ zs. map (λ (z : Shape). z.rect) zs) (filter_twice (λ (z : Shape). same_layer z.layer layer) (λ (z : Shape). same_layer z.layer layer) (λ z f. f) all)
    ∙ ap (rects_on layer) es

pub apart_proper : (layer : Layer) (s all us ts : List Shape) → all ≡ s → us ≡ ts → ts ≡ shapes_on layer all → All (λ (z : Shape). IsProper z.rect) s → All (λ (z : Shape). IsProper z.rect) us
apart_proper layer s all us ts es eu e h =
    subst (All (λ (z : Shape). IsProper z.rect)) (sym (eu ∙ e ∙ ap (shapes_on layer) es))
    (all_from_contains (λ (z : Shape). IsProper z.rect) (shapes_on layer s) (λ z c. All-contains (λ (w : Shape). IsProper w.rect) s z h (in_filter (λ (w : Shape). same_layer w.layer layer) s z c)))
