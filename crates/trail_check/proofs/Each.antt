-- Whether each choice reaches the bound of a lemma, as far as the choices have been looked at.
use Rattle.std.specs.Prelude.{ℕ, suc, ◌≡◌, ◌+◌, ◌-◌, ◌<◌, ◌≤◌, Bool, true, false, List, ◌∷◌, drop, length}
use Rattle.std.specs.List.{list_all}
use Rattle.std.proofs.Common.{refl, sym, ap, arith, ◌∙◌, get_or, drop-cons}
use Rattle.std.proofs.lemmas.List.{drop_all}
use Rattle.trail_state.specs.declared.edge.Edge.{Edge}
use Rattle.trail_state.specs.declared.state.Place.{Place}
use Rattle.trail_state.specs.Settling.{ends_after, state_after}
use Rattle.trail_state.specs.declared.level.Level.{Level}
use Rattle.trail_check.specs.declared.lemma.TrailLemma.{TrailLemma}
use Rattle.trail_check.specs.Justified.{choice_reaches, is_known}

pub front_item : {A : Type 0} (xs : List A) (i : ℕ) (d : A) → i < length xs → drop i xs ≡ get_or xs i d ∷ drop (i + 1) xs
front_item xs i d within = let e : i + 1 ≡ suc i = omega arith in rw e (drop-cons xs i d within)

pub one_fails : {A : Type 0} (p : A → Bool) (xs : List A) (i : ℕ) (d : A) (all : Bool) → i < length xs → list_all p (drop i xs) ≡ all → p (get_or xs i d) ≡ false → all ≡ false
one_fails p xs i d all within h off = sym h ∙ rw (front_item xs i d within, off) refl

goes_on : {A : Type 0} (p : A → Bool) (xs : List A) (i : ℕ) (d : A) → i < length xs → p (get_or xs i d) ≡ true → list_all p (drop i xs) ≡ list_all p (drop (i + 1) xs)
goes_on p xs i d within on = rw (front_item xs i d within, on) refl

pub one_passes : {A : Type 0} (p : A → Bool) (xs : List A) (i : ℕ) (d : A) (all : Bool) → i < length xs → list_all p (drop i xs) ≡ all → p (get_or xs i d) ≡ true → list_all p (drop (i + 1) xs) ≡ all
one_passes p xs i d all within h on = sym (goes_on p xs i d within on) ∙ h

pub all_pass : {A : Type 0} (p : A → Bool) (xs : List A) (i : ℕ) (all : Bool) → list_all p (drop i xs) ≡ all → length xs ≤ i → all ≡ true
all_pass p xs i all h past = sym h ∙ ap (list_all p) (drop_all i xs past)

pub reaches_is : (earlier : List TrailLemma) (level : Level) (lemma : TrailLemma) (choice : List Edge) (done : ℕ) (state : List Place) (ends need : ℕ) → done ≡ lemma.done → state ≡ state_after level.now level.next lemma.state choice → ends ≡ ends_after level.now level.next lemma.state choice → need ≡ lemma.bound - ends → is_known earlier (done + 1) state need ≡ choice_reaches earlier level lemma choice
reaches_is earlier level lemma choice done state ends need of_done of_state of_ends of_need =
    ap (λ (n : ℕ). is_known earlier (n + 1) state need) of_done
    ∙ ap (λ (s : List Place). is_known earlier (lemma.done + 1) s need) of_state
    ∙ ap (is_known earlier (lemma.done + 1) (state_after level.now level.next lemma.state choice)) (of_need ∙ ap (λ (n : ℕ). lemma.bound - n) of_ends)
