-- What the words so far add to what the later ones hold.
use Rattle.std.specs.Prelude.{ℕ, suc, ◌≡◌, ◌+◌, ◌<◌, ◌≤◌, List, [], ◌∷◌, ◌++◌, Option, Some, None, drop, length, map}
use Rattle.std.specs.Borrow.{Bor}
use Rattle.std.proofs.Common.{refl, sym, ap, arith, ◌∙◌, get_or, drop-cons}
use Rattle.std.proofs.lemmas.List.{append-nil, append_assoc, drop_all}
use Rattle.bound_log.specs.Line.{◌>>=◌}
use Rattle.trail_log.specs.Listed.{each_in}

abbrev pub with_items : {A : Type 0} → List A → Option (List A) → Option (List A)
with_items front None = None
with_items front (Some later) = Some (front ++ later)

-- the words behind the first ones
abbrev pub texts_from : ℕ → List (Bor (List ℕ)) → List (List ℕ)
texts_from i words = map (λ word. word.now) (drop i words)

-- no item of the next word
front_word : (words : List (Bor (List ℕ))) (i : ℕ) (d : Bor (List ℕ)) → i < length words → drop i words ≡ get_or words i d ∷ drop (i + 1) words
front_word words i d within = let e : i + 1 ≡ suc i = omega arith in rw e (drop-cons words i d within)

pub no_item : {A : Type 0} (read : List ℕ → Option A) (front : List A) (words : List (Bor (List ℕ))) (i : ℕ) (d : Bor (List ℕ)) (all : Option (List A)) → i < length words → with_items front (each_in read (map (λ word. word.now) (drop i words))) ≡ all → None ≡ read (get_or words i d).now → all ≡ None
no_item read front words i d all within h none = sym h ∙ rw (front_word words i d within) (rw (sym none) refl)

one_front : {A : Type 0} (front : List A) (item : A) (later : Option (List A)) → with_items (front ++ item ∷ []) later ≡ with_items front (with_items (item ∷ []) later)
one_front front item None = refl
one_front front item (Some later) = ap Some (append_assoc front (item ∷ []) later)

one_each : {A : Type 0} (read : List ℕ → Option A) (word : List ℕ) (words : List (List ℕ)) (item : A) → Some item ≡ read word → each_in read (word ∷ words) ≡ with_items (item ∷ []) (each_in read words)
one_each {A = A} read word words item some = rw (sym some) (by_rest (each_in read words))
  where
    by_rest : (later : Option (List A)) → (later >>= λ items. Some (item ∷ items)) ≡ with_items (item ∷ []) later
    by_rest None = refl
    by_rest (Some later) = refl

pub one_item : {A : Type 0} (read : List ℕ → Option A) (front : List A) (words : List (Bor (List ℕ))) (i : ℕ) (d : Bor (List ℕ)) (item : A) (all : Option (List A)) → i < length words → with_items front (each_in read (map (λ word. word.now) (drop i words))) ≡ all → Some item ≡ read (get_or words i d).now → with_items (front ++ item ∷ []) (each_in read (map (λ word. word.now) (drop (i + 1) words))) ≡ all
one_item read front words i d item all within h some =
    one_front front item (each_in read (map (λ word. word.now) (drop (i + 1) words)))
    ∙ (ap (with_items front) (sym (one_each read (get_or words i d).now (map (λ word. word.now) (drop (i + 1) words)) item some))
    ∙ (ap (λ (ws : List (Bor (List ℕ))). with_items front (each_in read (map (λ word. word.now) ws))) (sym (front_word words i d within)) ∙ h))

pub all_items : {A : Type 0} (read : List ℕ → Option A) (front : List A) (words : List (Bor (List ℕ))) (i : ℕ) (all : Option (List A)) → with_items front (each_in read (map (λ word. word.now) (drop i words))) ≡ all → length words ≤ i → all ≡ Some front
all_items read front words i all h none = sym h ∙ (ap (λ (ws : List (Bor (List ℕ))). with_items front (each_in read (map (λ word. word.now) ws))) (drop_all i words none) ∙ ap Some (append-nil front))
