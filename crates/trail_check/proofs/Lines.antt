-- What the lines so far add to what the later ones hold.
use Rattle.std.specs.Prelude.{ℕ, ◌≡◌, ◌+◌, ◌<◌, ◌≤◌, true, false, List, [], ◌∷◌, ◌++◌, Option, Some, None, drop, length, take}
use Rattle.std.proofs.Common.{refl, sym, ap, subst, ◌∙◌, get_or}
use Rattle.std.proofs.lemmas.List.{drop_all, map-append, take_more}
use Rattle.trail_state.specs.declared.level.Level.{Level}
use Rattle.trail_log.specs.declared.trails.LemmaLine.{LemmaLine}
use Rattle.trail_check.specs.declared.lemma.TrailLemma.{TrailLemma}
use Rattle.trail_check.specs.Justified.{is_justified, unproved}
use Rattle.trail_check.specs.Listed.{lemma_listed, lemmas_listed}
use Rattle.trail_check.proofs.Each.{front_item}

pub first_fails : (levels : List Level) (known : List TrailLemma) (n : ℕ) (lines : List LemmaLine) (i : ℕ) (d : LemmaLine) (lemma : TrailLemma) (all : Option ℕ) → i < length lines → unproved levels known n (lemmas_listed levels (drop i lines)) ≡ all → lemma ≡ lemma_listed levels (get_or lines i d) → is_justified levels known lemma ≡ false → all ≡ Some n
unfolding unproved
first_fails levels known n lines i d lemma all within h is off =
    let none : is_justified levels known (lemma_listed levels (get_or lines i d)) ≡ false = subst (λ (l : TrailLemma). is_justified levels known l ≡ false) is off in
    sym h ∙ rw (front_item lines i d within, none) refl

goes_on : (levels : List Level) (known : List TrailLemma) (n : ℕ) (lines : List LemmaLine) (i : ℕ) (d : LemmaLine) → i < length lines → is_justified levels known (lemma_listed levels (get_or lines i d)) ≡ true → unproved levels known n (lemmas_listed levels (drop i lines)) ≡ unproved levels (known ++ lemma_listed levels (get_or lines i d) ∷ []) (n + 1) (lemmas_listed levels (drop (i + 1) lines))
unfolding unproved
goes_on levels known n lines i d within on = rw (front_item lines i d within, on) refl

pub one_more : (levels : List Level) (known : List TrailLemma) (n : ℕ) (lines : List LemmaLine) (i : ℕ) (d : LemmaLine) (lemma : TrailLemma) (all : Option ℕ) → i < length lines → unproved levels known n (lemmas_listed levels (drop i lines)) ≡ all → lemma ≡ lemma_listed levels (get_or lines i d) → is_justified levels known lemma ≡ true → unproved levels (known ++ lemma ∷ []) (n + 1) (lemmas_listed levels (drop (i + 1) lines)) ≡ all
one_more levels known n lines i d lemma all within h is on =
    let some : is_justified levels known (lemma_listed levels (get_or lines i d)) ≡ true = subst (λ (l : TrailLemma). is_justified levels known l ≡ true) is on in
    ap (λ (l : TrailLemma). unproved levels (known ++ l ∷ []) (n + 1) (lemmas_listed levels (drop (i + 1) lines))) is ∙ (sym (goes_on levels known n lines i d within some) ∙ h)

pub all_proved : (levels : List Level) (known : List TrailLemma) (n : ℕ) (lines : List LemmaLine) (i : ℕ) (all : Option ℕ) → unproved levels known n (lemmas_listed levels (drop i lines)) ≡ all → length lines ≤ i → all ≡ None
unfolding unproved
all_proved levels known n lines i all h past = sym h ∙ rw (drop_all i lines past) refl

pub known_more : (levels : List Level) (known : List TrailLemma) (lines : List LemmaLine) (i : ℕ) (d : LemmaLine) (lemma : TrailLemma) → i < length lines → known ≡ lemmas_listed levels (take i lines) → lemma ≡ lemma_listed levels (get_or lines i d) → known ++ lemma ∷ [] ≡ lemmas_listed levels (take (i + 1) lines)
known_more levels known lines i d lemma within so is =
    rw (so, is) (sym (map-append (lemma_listed levels) (take i lines) (get_or lines i d ∷ [])) ∙ ap (lemmas_listed levels) (sym (take_more lines i d within)))
