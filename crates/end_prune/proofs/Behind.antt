-- The last lemma of a list, and lemmas that stand behind others.
use Rattle.std.specs.Prelude.{ℕ, ◌≡◌, ◌+◌, ◌-◌, ◌<◌, ◌++◌, List, [], ◌∷◌, Some, Contains, length, slice_get}
use Rattle.std.proofs.Common.{refl, sym, ap, subst, arith, ◌∙◌, inl, inr, append_assoc, append-nil}
use Rattle.std.proofs.lemmas.List.{get_or_append_left, get_or_push, length-append, take-append-le, take_all}
use Rattle.std.proofs.lemmas.List.Elements.{Contains-append_cases, Contains-append_left, Contains-append_right}
use Rattle.std.proofs.lemmas.Option.{get_or_from_slice_get, slice_get-get_or, slice_get_within}
use Rattle.cell_num.proofs.Pairs.{Some', any_at, some_from_any}
use Rattle.end_lemmas.specs.declared.index.LemmaIndex.{LemmaIndex}
use Rattle.end_lemmas.specs.declared.lemma.EndLemma.{EndLemma}
use Rattle.end_lemmas.specs.Indexed.{IsIndexOf}
use Rattle.end_lemmas.specs.Justified.{AreJustified, IsJustified, IsKnown, Reaches, Says}
use Rattle.end_lemmas.specs.Steps.{Steps}
use Rattle.end_lemmas.proofs.First.{justified_push}

-- each item of the one list is one of the other
abbrev pub IsIn : {X : Type 0} → List X → List X → Type 0
IsIn {X} xs ys = (x : X) → Contains xs x → Contains ys x

module _ {X : Type 0} where
  still_there : (xs : List X) (x y : X) (at : ℕ) → slice_get xs at ≡ Some y → slice_get (xs ++ x ∷ []) at ≡ Some y
  still_there xs x y at there =
      let within : at < length xs = slice_get_within xs at y there in
      slice_get-get_or (xs ++ x ∷ []) at y (omega (arith, within, length-append xs (x ∷ [])))
      ∙ ap (λ (z : X). Some z) (get_or_append_left xs (x ∷ []) y at within ∙ get_or_from_slice_get xs at y y there)

  last_there : (xs : List X) (x : X) → slice_get (xs ++ x ∷ []) (length xs) ≡ Some x
  last_there xs x =
      slice_get-get_or (xs ++ x ∷ []) (length xs) x (omega (arith, length-append xs (x ∷ [])))
      ∙ ap (λ (z : X). Some z) (get_or_push xs x x (length xs) refl)

  pub in_push : (xs ys : List X) (x : X) → IsIn xs ys → IsIn (xs ++ x ∷ []) (ys ++ x ∷ [])
  in_push xs ys x h y there =
      elim (Contains-append_cases xs (x ∷ []) y there) [
        | inl before ↦ Contains-append_left ys (x ∷ []) y (h y before)
        | inr last ↦ Contains-append_right ys (x ∷ []) y last
      ]

module _ {S : Type 0} where
  known_wider : (a b : List (EndLemma S)) (done : ℕ) (s : S) (need : ℕ) → IsIn a b → IsKnown a done s need
      → IsKnown b done s need
  known_wider a b done s need h (inl none) = inl none
  known_wider a b done s need h (inr any) =
      let one : Some' (Says done s need) a = some_from_any (Says done s need) a any in
      inr (any_at (Says done s need) b one.it (h one.it one.there) one.holds)

  pub indexed_pop : (number : ℕ → S → ℕ) (xs : List (EndLemma S)) (x : EndLemma S) (index : LemmaIndex)
      → IsIndexOf number (xs ++ x ∷ []) index → IsIndexOf number xs index
  indexed_pop number xs x index all at y there = all at y (still_there xs x y at there)

module _ {L C S : Type 0} (steps : Steps L C S) where
  pub reaches_wider : (a b : List (EndLemma S)) (level : L) (lemma : EndLemma S) (choice : C) → IsIn a b
      → Reaches steps a level lemma choice → Reaches steps b level lemma choice
  reaches_wider a b level lemma choice h known =
      known_wider a b (lemma.done + 1) (steps.next level lemma.state choice)
      (lemma.bound - steps.ends level lemma.state choice) h known

  module _ (levels : List L) where
    justified_wider : (a b : List (EndLemma S)) (lemma : EndLemma S) → IsIn a b → IsJustified steps levels a lemma
        → IsJustified steps levels b lemma
    justified_wider a b lemma h j = record {
      level = j.level;
      there = j.there;
      fits = j.fits;
      reaches = λ c within. reaches_wider a b j.level lemma c h (j.reaches c within);
    }

    -- ---- the last lemma of a list

    pub justified_pop : (xs : List (EndLemma S)) (x : EndLemma S) → AreJustified steps levels (xs ++ x ∷ [])
        → AreJustified steps levels xs
    justified_pop xs x all at y there =
        let within : at < length xs = slice_get_within xs at y there in
        subst (λ (ys : List (EndLemma S)). IsJustified steps levels ys y)
        (take-append-le at xs (x ∷ []) (omega (arith, within))) (all at y (still_there xs x y at there))

    pub justified_last : (xs : List (EndLemma S)) (x : EndLemma S) → AreJustified steps levels (xs ++ x ∷ [])
        → IsJustified steps levels xs x
    justified_last xs x all =
        subst (λ (ys : List (EndLemma S)). IsJustified steps levels ys x)
        (take-append-le (length xs) xs (x ∷ []) (omega arith) ∙ take_all (length xs) xs (omega arith))
        (all (length xs) x (last_there xs x))

    -- ---- lemmas that stand behind others

    -- each is justified by the lemmas in front and those of these before it
    abbrev pub AreBehind : List (EndLemma S) → List (EndLemma S) → Type 0
    AreBehind front [] = Unit {0}
    AreBehind front (x ∷ xs) = IsJustified steps levels front x × AreBehind (front ++ x ∷ []) xs

    pub behind_wider : (a b xs : List (EndLemma S)) → IsIn a b → AreBehind a xs → AreBehind b xs
    behind_wider a b [] h all = tt
    behind_wider a b (x ∷ xs) h all =
        (justified_wider a b x h all.0, behind_wider (a ++ x ∷ []) (b ++ x ∷ []) xs (in_push a b x h) all.1)

    pub behind_all : (front xs : List (EndLemma S)) → AreJustified steps levels front → AreBehind front xs
        → AreJustified steps levels (front ++ xs)
    behind_all front [] before all = subst (AreJustified steps levels) (sym (append-nil front)) before
    behind_all front (x ∷ xs) before all =
        subst (AreJustified steps levels) (append_assoc front (x ∷ []) xs)
        (behind_all (front ++ x ∷ []) xs (justified_push steps levels front x before all.0) all.1)
