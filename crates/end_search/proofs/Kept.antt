-- What a search keeps, state after state.
use Rattle.std.specs.Prelude.{ℕ, zero, suc, ◌≡◌, ◌+◌, ◌-◌, ◌<◌, ◌↔◌, Bool, false, IsTrue, List, [], ◌∷◌, ◌++◌, Some, All, slice_get, take}
use Rattle.std.proofs.Common.{refl, sym, ap, subst, arith, ◌∙◌, inl, append_assoc, append-nil}
use Rattle.std.proofs.lemmas.List.Elements.{All-append, All-contains, All-nil, All-push, All-weaker}
use Rattle.cell_num.proofs.Lists.{all_from_contains}
use Rattle.end_lemmas.specs.declared.lemma.EndLemma.{EndLemma}
use Rattle.end_lemmas.specs.Indexed.{IsIndexOf}
use Rattle.end_lemmas.specs.Justified.{AreJustified, IsJustified, IsKnown, Reaches}
use Rattle.end_lemmas.specs.Steps.{Steps}
use Rattle.end_search.specs.declared.progress.Progress.{Progress}
use Rattle.end_search.specs.New.{AreNew}
use Rattle.end_search.specs.Reached.{IsReached}
use Rattle.end_search.specs.Search.{AreKept, IsFurther, lemma_of}
use Rattle.end_search.proofs.Choices.{IsChoice, reach_more, reached_behind, reached_here}
use Rattle.end_lemmas.proofs.First.{justified_push}
use Rattle.end_search.proofs.Grown.{known_last, new_push, reach_still, unknown_still}

-- a test that fails
pub not_so : (b : Bool) (A : Type 0) → (IsTrue b ↔ A) → b ≡ false → A → ⊥
not_so b A is off holds = let on : IsTrue b = is.1 holds in absurd cc

module _ {S : Type 0} where
  -- no end is always known
  pub unknown_some : (earlier : List (EndLemma S)) (done : ℕ) (s : S) (need : ℕ)
      → (IsKnown earlier done s need → ⊥) → 0 < need
  unknown_some earlier done s zero unknown = absurd (unknown (inl refl))
  unknown_some earlier done s (suc need) unknown = omega arith

module _ {L C S : Type 0} (steps : Steps L C S) (number : ℕ → S → ℕ) (levels : List L) where
  -- a lemma more
  pub kept_push : (a b : Progress S) (done : ℕ) (s : S) (bound : ℕ) → AreKept steps number levels a → 0 < bound
      → (IsKnown a.lemmas done s bound → ⊥) → IsJustified steps levels a.lemmas (lemma_of done s bound)
      → b.lemmas ≡ a.lemmas ++ lemma_of done s bound ∷ [] → IsIndexOf number b.lemmas b.index
      → AreKept steps number levels b
  kept_push a b done s bound h some unknown justified more index = record {
    justified = subst (λ ls. AreJustified steps levels ls) (sym more)
        (justified_push steps levels a.lemmas (lemma_of done s bound) h.justified justified);
    new = subst (λ (ls : List (EndLemma S)). AreNew ls) (sym more)
        (new_push a.lemmas done s bound some unknown h.new);
    indexed = index;
  }

  -- units were taken alone
  pub further_same : (done : ℕ) (s : S) (need : ℕ) (a b : Progress S) → AreKept steps number levels a
      → b.lemmas ≡ a.lemmas → b.index ≡ a.index → IsFurther steps number levels done s need a b
  further_same done s need a b h lemmas index = record {
    kept = record {
      justified = subst (λ ls. AreJustified steps levels ls) (sym lemmas) h.justified;
      new = subst (λ (ls : List (EndLemma S)). AreNew ls) (sym lemmas) h.new;
      indexed = subst (λ (ls : List (EndLemma S)). IsIndexOf number ls b.index) (sym lemmas)
          (subst (IsIndexOf number a.lemmas) (sym index) h.indexed);
    };
    more = [];
    grown = lemmas ∙ sym (append-nil a.lemmas);
    later = All-nil (λ (l : EndLemma S). done < l.done);
    reached = All-nil (IsReached steps levels done s need);
  }

  -- what was added behind a choice
  pub further_behind : (level : L) (done : ℕ) (s after : S) (need rest ends : ℕ) (choices : List C) (i : ℕ)
      (a b c : Progress S) → slice_get levels done ≡ Some level → IsChoice steps level s choices i after ends
      → rest ≡ need - ends → 0 < rest → IsFurther steps number levels done s need a b
      → IsFurther steps number levels (done + 1) after rest b c → IsFurther steps number levels done s need a c
  further_behind level done s after need rest ends choices i a b c at choice is some g h =
      let after_both : All (λ (l : EndLemma S). done < l.done) h.more =
      All-weaker (λ (l : EndLemma S). done + 1 < l.done) (λ (l : EndLemma S). done < l.done) (λ l less. omega (arith, less)) h.more h.later in
      let behind : All (IsReached steps levels done s need) h.more =
      all_from_contains (IsReached steps levels done s need) h.more
      (λ l there. reached_behind steps levels level done s after need rest ends choices i l at choice is some
      (All-contains (λ (x : EndLemma S). done + 1 < x.done) h.more l h.later there)
      (All-contains (IsReached steps levels (done + 1) after rest) h.more l h.reached there)) in
      record {
        kept = h.kept;
        more = g.more ++ h.more;
        grown = h.grown ∙ ap (λ (ls : List (EndLemma S)). ls ++ h.more) g.grown ∙ append_assoc a.lemmas g.more h.more;
        later = All-append (λ (l : EndLemma S). done < l.done) g.more h.more g.later after_both;
        reached = All-append (IsReached steps levels done s need) g.more h.more g.reached behind;
      }

  -- and the lemma on the state behind it
  pub further_push : (level : L) (done : ℕ) (s after : S) (need rest ends : ℕ) (choices : List C) (i : ℕ)
      (a b c d : Progress S) → slice_get levels done ≡ Some level → IsChoice steps level s choices i after ends
      → rest ≡ need - ends → (IsKnown b.lemmas (done + 1) after rest → ⊥)
      → IsFurther steps number levels done s need a b → IsFurther steps number levels (done + 1) after rest b c
      → IsJustified steps levels c.lemmas (lemma_of (done + 1) after rest)
      → d.lemmas ≡ c.lemmas ++ lemma_of (done + 1) after rest ∷ [] → IsIndexOf number d.lemmas d.index
      → IsFurther steps number levels done s need a d
  further_push level done s after need rest ends choices i a b c d at choice is unknown g h justified more index =
      let some : 0 < rest = unknown_some b.lemmas (done + 1) after rest unknown in
      let both : IsFurther steps number levels done s need a c =
      further_behind level done s after need rest ends choices i a b c at choice is some g h in
      let still : IsKnown c.lemmas (done + 1) after rest → ⊥ =
      subst (λ (ls : List (EndLemma S)). IsKnown ls (done + 1) after rest → ⊥) (sym h.grown)
      (unknown_still b.lemmas h.more (done + 1) after rest some h.later unknown) in
      let l : EndLemma S = lemma_of (done + 1) after rest in
      record {
        kept = kept_push c d (done + 1) after rest h.kept some still justified more index;
        more = both.more ++ l ∷ [];
        grown = more ∙ ap (λ (ls : List (EndLemma S)). ls ++ l ∷ []) both.grown ∙ append_assoc a.lemmas both.more (l ∷ []);
        later = All-push (λ (x : EndLemma S). done < x.done) both.more l both.later (omega arith);
        reached = All-push (IsReached steps levels done s need) both.more l both.reached
            (reached_here steps levels level done s after need rest ends choices i at choice is some);
      }

  -- the choice reaches the bound by that lemma
  pub reach_kept : (level : L) (done : ℕ) (s after : S) (need rest ends : ℕ) (choices : List C) (i : ℕ)
      (b c d : Progress S) → IsChoice steps level s choices i after ends → rest ≡ need - ends
      → IsFurther steps number levels (done + 1) after rest b c
      → d.lemmas ≡ c.lemmas ++ lemma_of (done + 1) after rest ∷ []
      → All (Reaches steps b.lemmas level (lemma_of done s need)) (take i choices)
      → All (Reaches steps d.lemmas level (lemma_of done s need)) (take (i + 1) choices)
  reach_kept level done s after need rest ends choices i b c d choice is h more all =
      let l : EndLemma S = lemma_of (done + 1) after rest in
      let behind : All (Reaches steps c.lemmas level (lemma_of done s need)) (take i choices) =
      subst (λ (ls : List (EndLemma S)). All (Reaches steps ls level (lemma_of done s need)) (take i choices))
      (sym h.grown) (reach_still steps b.lemmas h.more level (lemma_of done s need) (take i choices) all) in
      let whole : All (Reaches steps (c.lemmas ++ l ∷ []) level (lemma_of done s need)) (take (i + 1) choices) =
      reach_more steps (c.lemmas ++ l ∷ []) level done s after need rest ends choices i choice is
      (known_last c.lemmas (done + 1) after rest)
      (reach_still steps c.lemmas (l ∷ []) level (lemma_of done s need) (take i choices) behind) in
      subst (λ (ls : List (EndLemma S)). All (Reaches steps ls level (lemma_of done s need)) (take (i + 1) choices))
      (sym more) whole
