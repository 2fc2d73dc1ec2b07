-- The ends that are proved, by those lemmas that stay.
use Rattle.std.specs.Prelude.{ℕ, ◌≡◌, ◌≤◌, ◌⊎◌, Bool, List, [], ◌∷◌, Any, Contains}
use Rattle.std.proofs.Common.{refl, subst, arith, inl, inr}
use Rattle.std.proofs.lemmas.List.Elements.{All-contains}
use Rattle.cell_num.proofs.Lists.{contains_here, contains_none, contains_there}
use Rattle.cell_num.proofs.Pairs.{Some', any_at, some_from_any}
use Rattle.end_lemmas.specs.declared.lemma.EndLemma.{EndLemma}
use Rattle.end_lemmas.specs.Justified.{AreEndsProved, IsAtStart}
use Rattle.end_lemmas.specs.Steps.{Steps}
use Rattle.end_prune.specs.Pruned.{IsPruned}
use Rattle.end_prune.specs.Used.{AreUsed, ProvesEnds, Supports}
use Rattle.end_prune.specs.Marks.{AreKeptFor, AreStartMarks, marked}
use Rattle.end_prune.proofs.Sublists.{contains_sublist, new_sublist, units_sublist}

module _ {S : Type 0} (start : S) where
  few : (lemmas : List (EndLemma S)) (a b : ℕ) → AreEndsProved start lemmas a → AreEndsProved start lemmas b → a ≤ b
  few lemmas a b p q = below p.one
    where
      below : (a ≡ 0) ⊎ Any (λ (l : EndLemma S). IsAtStart start l × (l.bound ≡ a)) lemmas → a ≤ b
      below (inl none) = omega (arith, none)
      below (inr any) =
          let one : Some' (λ (l : EndLemma S). IsAtStart start l × (l.bound ≡ a)) lemmas =
          some_from_any (λ (l : EndLemma S). IsAtStart start l × (l.bound ≡ a)) lemmas any in
          omega (arith, q.most one.it one.there one.holds.0, one.holds.1)

  pub ends_same : (lemmas : List (EndLemma S)) (a b : ℕ) → AreEndsProved start lemmas a
      → AreEndsProved start lemmas b → a ≡ b
  ends_same lemmas a b p q = omega (arith, few lemmas a b p q, few lemmas b a q p)

module _ {L C S : Type 0} (steps : Steps L C S) (levels : List L) where
  used_for : (P Q : EndLemma S → Type 0) (lemmas : List (EndLemma S)) → ((x : EndLemma S) → P x → Q x)
      → AreUsed steps levels P lemmas → AreUsed steps levels Q lemmas
  used_for P Q [] weaker used = tt
  used_for P Q (x ∷ xs) weaker used = (here used.0, used_for P Q xs weaker used.1)
    where
      here : P x ⊎ Any (Supports steps levels x) xs → Q x ⊎ Any (Supports steps levels x) xs
      here (inl one) = inl (weaker x one)
      here (inr any) = inr any

  unused_last : (P : EndLemma S → Type 0) (x : EndLemma S) (xs : List (EndLemma S)) → (P x → ⊥) → xs ≡ []
      → P x ⊎ Any (Supports steps levels x) xs → ⊥
  unused_last P x xs none last (inl one) = none one
  unused_last P x xs none last (inr any) =
      let one : Some' (Supports steps levels x) xs = some_from_any (Supports steps levels x) xs any in
      contains_none one.it (subst (λ (ls : List (EndLemma S)). Contains ls one.it) last one.there)

  none_used : (P : EndLemma S → Type 0) (lemmas : List (EndLemma S))
      → ((x : EndLemma S) → Contains lemmas x → P x → ⊥) → AreUsed steps levels P lemmas → lemmas ≡ []
  none_used P [] none used = refl
  none_used P (x ∷ xs) none used =
      let last : xs ≡ [] = none_used P xs (λ y there. none y (contains_there x xs y there)) used.1 in
      absurd (unused_last P x xs (none x (contains_here x xs)) last used.0)

  -- ---- what is said of those that stay

  still_proved : (start : S) (ends : ℕ) (lemmas stay firsts : List (EndLemma S)) → AreEndsProved start lemmas ends
      → (ends ≡ 0) ⊎ Any (ProvesEnds start ends) firsts → AreKeptFor steps levels firsts lemmas stay
      → AreEndsProved start stay ends
  still_proved start ends lemmas stay firsts proved one h = record {
    most = λ x there at. proved.most x (contains_sublist stay lemmas x h.some there) at;
    one = there one;
  }
    where
      there : (ends ≡ 0) ⊎ Any (ProvesEnds start ends) firsts → (ends ≡ 0) ⊎ Any (ProvesEnds start ends) stay
      there (inl none) = inl none
      there (inr any) =
          let it : Some' (ProvesEnds start ends) firsts = some_from_any (ProvesEnds start ends) firsts any in
          inr (any_at (ProvesEnds start ends) stay it.it (h.firsts it.it it.there) it.holds)

  pub is_pruned : (start : S) (ends : ℕ) (seen all lemmas stay : List (EndLemma S)) (marks : List Bool)
      → seen ≡ all → all ≡ lemmas → AreEndsProved start seen ends → AreStartMarks start ends seen marks
      → AreKeptFor steps levels (marked marks all) all stay → IsPruned steps levels start lemmas stay
  is_pruned start ends seen all lemmas stay marks same is seen_proved seen_first h =
      let proved : AreEndsProved start all ends =
      subst (λ (ls : List (EndLemma S)). AreEndsProved start ls ends) same seen_proved in
      let first : AreStartMarks start ends all marks =
      subst (λ (ls : List (EndLemma S)). AreStartMarks start ends ls marks) same seen_first in
      subst (λ (ls : List (EndLemma S)). IsPruned steps levels start ls stay) is
      (record {
        some = h.some;
        justified = h.justified;
        ends = λ n p.
            subst (AreEndsProved start stay) (ends_same start all ends n proved p)
            (still_proved start ends all stay (marked marks all) proved first.one h);
        used = λ n p.
            subst (λ (k : ℕ). AreUsed steps levels (ProvesEnds start k) stay) (ends_same start all ends n proved p)
            (used_for (Contains (marked marks all)) (ProvesEnds start ends) stay first.proves h.used);
        none = λ none.
            none_used (Contains (marked marks all)) stay
            (λ x there one. All-contains (λ (l : EndLemma S). IsAtStart start l → ⊥) all x none
            (contains_sublist stay all x h.some there) (first.proves x one).0)
            h.used;
        new = λ new. new_sublist stay all h.some new;
        units = units_sublist steps levels stay all h.some;
      })
