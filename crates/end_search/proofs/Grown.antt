-- Lemmas that justify others do so still where more are kept.
use Rattle.std.specs.Prelude.{ℕ, ◌+◌, ◌-◌, ◌<◌, List, [], ◌∷◌, ◌++◌, All}
use Rattle.std.proofs.Common.{refl, arith, inl, inr}
use Rattle.std.proofs.lemmas.List.Elements.{All-contains, All-nil, All-push, All-weaker, Contains-append_cases, Contains-push}
use Rattle.cell_num.proofs.Lists.{all_from_contains, all_one}
use Rattle.cell_num.proofs.Pairs.{Some', any_append_left, any_at, pairs_append, pairs_none, pairs_one, some_from_any}
use Rattle.end_lemmas.specs.declared.lemma.EndLemma.{EndLemma}
use Rattle.end_lemmas.specs.Justified.{IsKnown, Reaches, Says}
use Rattle.end_lemmas.specs.Steps.{Steps}
use Rattle.end_search.specs.New.{AreNew, IsUnsaid}
use Rattle.end_search.specs.Search.{lemma_of}

-- ---- what is known

module _ {S : Type 0} where
  pub known_more : (earlier more : List (EndLemma S)) (done : ℕ) (s : S) (need : ℕ) → IsKnown earlier done s need
      → IsKnown (earlier ++ more) done s need
  known_more earlier more done s need (inl none) = inl none
  known_more earlier more done s need (inr some) = inr (any_append_left (Says done s need) earlier more some)

  -- a lemma that is kept is known
  pub known_last : (earlier : List (EndLemma S)) (done : ℕ) (s : S) (need : ℕ)
      → IsKnown (earlier ++ lemma_of done s need ∷ []) done s need
  known_last earlier done s need =
      let it : EndLemma S = lemma_of done s need in
      inr (any_at (Says done s need) (earlier ++ it ∷ []) it (Contains-push earlier it)
      (record { levels = refl; same = refl; enough = omega arith }))

  -- ---- lemmas that say more

  pub new_none : AreNew {S = S} []
  new_none = record { some = All-nil (λ (l : EndLemma S). 0 < l.bound); unsaid = pairs_none IsUnsaid }

  -- so is one that is not known
  pub new_push : (lemmas : List (EndLemma S)) (done : ℕ) (s : S) (bound : ℕ) → 0 < bound
      → (IsKnown lemmas done s bound → ⊥) → AreNew lemmas → AreNew (lemmas ++ lemma_of done s bound ∷ [])
  new_push lemmas done s bound some unknown h =
      let l : EndLemma S = lemma_of done s bound in
      record {
        some = All-push (λ (x : EndLemma S). 0 < x.bound) lemmas l h.some some;
        unsaid = pairs_append IsUnsaid lemmas (l ∷ []) h.unsaid (pairs_one IsUnsaid l)
            (all_from_contains (λ a. All (IsUnsaid a) (l ∷ [])) lemmas (λ a there. all_one (IsUnsaid a) l
            (λ (says : Says done s bound a). unknown (inr (any_at (Says done s bound) lemmas a there says)))));
      }

  -- lemmas on later states do not say it
  pub unknown_still : (earlier more : List (EndLemma S)) (done : ℕ) (s : S) (need : ℕ) → 0 < need
      → All (λ (l : EndLemma S). done < l.done) more → (IsKnown earlier done s need → ⊥)
      → IsKnown (earlier ++ more) done s need → ⊥
  unknown_still earlier more done s need some later unknown (inl none) = omega (arith, some, none)
  unknown_still earlier more done s need some later unknown (inr any) =
      let found : Some' (Says done s need) (earlier ++ more) = some_from_any (Says done s need) (earlier ++ more) any in
      elim (Contains-append_cases earlier more found.it found.there) [
        | inl there ↦ unknown (inr (any_at (Says done s need) earlier found.it there found.holds))
        | inr there ↦
            let after : done < found.it.done = All-contains (λ (l : EndLemma S). done < l.done) more found.it later there in
            omega (arith, after, found.holds.levels)
      ]

-- ---- what is reached

module _ {L C S : Type 0} (steps : Steps L C S) where
  -- what is reached so far is reached still
  pub reach_still : (earlier more : List (EndLemma S)) (level : L) (lemma : EndLemma S) (choices : List C)
      → All (Reaches steps earlier level lemma) choices → All (Reaches steps (earlier ++ more) level lemma) choices
  reach_still earlier more level lemma choices all =
      All-weaker (Reaches steps earlier level lemma) (Reaches steps (earlier ++ more) level lemma)
      (λ c h. known_more earlier more (lemma.done + 1) (steps.next level lemma.state c)
      (lemma.bound - steps.ends level lemma.state c) h) choices all
