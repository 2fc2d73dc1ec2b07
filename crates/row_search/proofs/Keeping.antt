-- What is known of the lemmas that are kept, and the lemmas of a list one by one.
use Rattle.std.proofs.Common.{ℕ, zero, suc, ◌≡◌, ◌<◌, ◌+◌, ◌++◌, List, [], ◌∷◌, length, take, get_or, slice_get, Some, refl, sym, ap, subst, arith, ◌∙◌}
use Rattle.std.proofs.lemmas.List.{take_more}
use Rattle.std.proofs.lemmas.Option.{same_Some, slice_get_within}
use Rattle.row_state.specs.declared.kind.Kinds.{Kinds}
use Rattle.row_state.specs.declared.state.State.{State}
use Rattle.row_state.specs.declared.numbered.Numbered.{Numbered}
use Rattle.row_state.specs.Candidates.{IsNumbered}
use Rattle.row_state.specs.Code.{state_code}
use Rattle.row_state.specs.Start.{IsState}
use Rattle.bound_log.specs.declared.log.Lemma.{Lemma}
use Rattle.bound_log.specs.declared.log.Rule.{Rule}
use Rattle.bound_log.specs.Kept.{lemma_of}
use Rattle.lemma_check.specs.declared.known.Known.{Known}
use Rattle.lemma_check.specs.Reaches.{raised}
use Rattle.lemma_check.specs.Known.{Knows, best_known}
use Rattle.lemma_check.proofs.Kept.{knows_more}
use Rattle.row_search.specs.SoFar.{KnowsAll, SoFar}

-- one lemma more
pub table_more : (k : Kinds) (p : SoFar) (old new : Known) (more : List Lemma) (at : Numbered) (bound : ℕ) (rule : Rule) → KnowsAll k p → p.known ≡ old → more ≡ p.lemmas ++ lemma_of at.state bound rule ∷ [] → IsNumbered p.kinds at → ((k : Kinds) (x : State) → IsState k x → state_code k x ≡ at.code → (s : State) → IsState k s → best_known new k s ≡ raised x bound s (best_known old k s)) → Knows k new more
table_more k p old new more at bound rule before same pushed numbered noted =
    let at_k : IsNumbered k at = subst (λ (z : Kinds). IsNumbered z at) before.kinds numbered in
    subst (Knows k new) (sym pushed)
    (knows_more k p.known new p.lemmas (lemma_of at.state bound rule) before.table (λ s valid. subst (λ (z : Known). best_known new k s ≡ raised at.state bound s (best_known z k s)) (sym same) (noted k at.state at_k.valid (sym at_k.code) s valid)))

-- the lemma at a place is the next one
pub fetched : (kept lemmas more : List Lemma) (x : Lemma) (at : ℕ) → lemmas ≡ take at kept → slice_get kept at ≡ Some x → more ≡ lemmas ++ x ∷ [] → more ≡ take (at + 1) kept
fetched kept lemmas more x at e there pushed =
    let within : at < length kept = slice_get_within kept at x there in
    let is : get_or kept at x ≡ x = same_Some (get_or kept at x) x (sym (get_there kept at x within) ∙ there) in
    pushed ∙ ap (λ (xs : List Lemma). xs ++ x ∷ []) e ∙ ap (λ (y : Lemma). take at kept ++ y ∷ []) (sym is) ∙ sym (take_more kept at x within)
  where
    get_there : (xs : List Lemma) (i : ℕ) (d : Lemma) → i < length xs → slice_get xs i ≡ Some (get_or xs i d)
    get_there [] i d l = absurd (omega (arith, l))
    get_there (y ∷ ys) zero d l = refl
    get_there (y ∷ ys) (suc i) d l = get_there ys i d (omega (arith, l))
