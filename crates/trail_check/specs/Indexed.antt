-- Lemmas that are looked up by numbers of their states.
use Rattle.std.specs.Prelude.{ℕ, ◌≡◌, ◌+◌, ◌*◌, ◌%◌, ◌^◌, Bool, false, List, [], Some, Contains, cond, fold, nat_eq}
use Rattle.std.specs.Prelude.{option_map, slice_get, unwrap_or}
use Rattle.std.specs.HashMap.{get}
use Rattle.trail_state.specs.declared.state.Place.{Place}
use Rattle.trail_check.specs.declared.lemma.TrailLemma.{TrailLemma}
use Rattle.trail_check.specs.declared.index.LemmaIndex.{LemmaIndex}
use Rattle.trail_check.specs.Justified.{says}

-- a number and one more make a number of 64 bits
abbrev pub mixed : ℕ → ℕ → ℕ
mixed number more = (number * 1099511628211 % 2 ^ 64 + more) % 2 ^ 64

abbrev pub marks : Place → ℕ
marks p = cond p.odd 1 0 + cond p.flagged 2 0

abbrev pub with_place : ℕ → Place → ℕ
with_place number p = mixed (mixed (mixed number p.node.0) p.class.0) (marks p)

-- a number of a state, which others may share
abbrev pub state_number : ℕ → List Place → ℕ
state_number done state = fold with_place done state

-- where the lemmas with the number stand
abbrev pub noted_at : LemmaIndex → ℕ → List ℕ
noted_at index number = unwrap_or (option_map (λ places. places.items) (get nat_eq index.places number)) []

-- the lemma at a place says so
abbrev pub says_at : List TrailLemma → ℕ → List Place → ℕ → ℕ → Bool
says_at lemmas done state need at = unwrap_or (option_map (says done state need) (slice_get lemmas at)) false

-- each lemma is noted where its number is looked up
abbrev pub IsIndexOf : List TrailLemma → LemmaIndex → Type 0
IsIndexOf lemmas index = (at : ℕ) (lemma : TrailLemma) → slice_get lemmas at ≡ Some lemma
    → Contains (noted_at index (state_number lemma.done lemma.state)) at
