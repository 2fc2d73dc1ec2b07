-- Lemmas that are looked up by the number of their state.
use Rattle.std.specs.Prelude.{ℕ, ◌≡◌, List, [], Some, Contains, nat_eq, option_map, slice_get, unwrap_or}
use Rattle.std.specs.HashMap.{get}
use Rattle.row_state.specs.declared.kind.Kinds.{Kinds}
use Rattle.row_state.specs.declared.numbered.Numbered.{Numbered}
use Rattle.row_state.specs.declared.state.State.{State}
use Rattle.row_state.specs.Code.{state_code}
use Rattle.row_cycles.specs.declared.lemma.CycleLemma.{CycleLemma}
use Rattle.row_cycles.specs.declared.places.Places.{Places}

-- where the lemmas on the state with the number are
abbrev pub noted_at : Places → ℕ → List ℕ
noted_at places number = unwrap_or (option_map (λ noted. noted.items) (get nat_eq places.noted number)) []

-- each lemma, of any type that has a state, is noted where the number of its state is looked up
abbrev pub AreNotedBy : {L : Type 0} → (L → State) → Kinds → List L → Places → Type 0
AreNotedBy {L} state_of k lemmas places = (at : ℕ) (lemma : L) → slice_get lemmas at ≡ Some lemma
    → Contains (noted_at places (state_code k (state_of lemma))) at

-- so are all lemmas on one state
abbrev pub AreNotedAtBy : {L : Type 0} → (L → State) → List L → Places → Numbered → Type 0
AreNotedAtBy {L} state_of lemmas places at = (i : ℕ) (lemma : L) → slice_get lemmas i ≡ Some lemma
    → state_of lemma ≡ at.state → Contains (noted_at places at.code) i

-- the lemma at the place is none of these
abbrev pub IsPassedBy : {L : Type 0} → (L → Type 0) → List L → ℕ → Type 0
IsPassedBy {L} P lemmas at = (lemma : L) → slice_get lemmas at ≡ Some lemma → P lemma → ⊥

-- the state of a lemma on cycles
abbrev pub state_of : CycleLemma → State
state_of lemma = lemma.state

abbrev pub AreNoted : Kinds → List CycleLemma → Places → Type 0
AreNoted k lemmas places = AreNotedBy state_of k lemmas places

abbrev pub AreNotedAt : List CycleLemma → Places → Numbered → Type 0
AreNotedAt lemmas places at = AreNotedAtBy state_of lemmas places at
