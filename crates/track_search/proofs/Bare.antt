-- What is known of states is found by their numbers.
use Rattle.std.proofs.Common.{ℕ, ◌≡◌, ◌≢◌, ◌<◌, ◌≤◌, ◌⊎◌, ◌↔◌, ◌++◌, List, [], ◌∷◌, Option, None, Some, Bool, length, inl, inr, refl, sym, ap, subst, arith, Any, Contains, ◌∙◌}
use Rattle.std.specs.Prelude.{IsTrue, false, ltb, true}
use Rattle.std.proofs.lemmas.Bool.{both_ways, cases_eq, cases_lt, lt-ltb, ltb-true}
use Rattle.std.proofs.lemmas.List.Elements.{Contains-append_cases, Contains-push}
use Rattle.cell_num.proofs.Lists.{contains_none, contains_one}
use Rattle.cell_num.proofs.Pairs.{Some', any_append_left, any_at, some_from_any}
use Rattle.cell_num.specs.declared.finger.Row.{Row}
use Rattle.cell_num.specs.declared.finger.Row.TheVariants.{P, N}
use Rattle.cell_num.specs.declared.net.Pins.{Pins}
use Rattle.row_state.specs.declared.kind.Kinds.{Kinds}
use Rattle.row_state.specs.declared.state.State.{State}
use Rattle.row_state.specs.Code.{state_code}
use Rattle.row_state.specs.Start.{IsState}
use Rattle.row_state.proofs.Codes.{state_same}
use Rattle.track_ways.specs.declared.lemma.TrackLemma.{TrackLemma}
use Rattle.track_ways.specs.Certificate.{CoversAll, NeedsMore}
use Rattle.track_search.specs.declared.by_state.ByState.{ByState}
use Rattle.track_search.specs.declared.known.Known.{Known}
use Rattle.track_search.specs.Bare.{AreFree, AreMost, AreTooFew, IsBare, IsFrom, IsShut, IsUpTo, known_at, nothing_known}
use Rattle.track_search.specs.Uncrowded.{HasUncrowded}
use Rattle.track_search.proofs.Uncrowded.{uncrowded_wider}

-- ---- the greater of two numbers of gaps

pub up_none : (noted : Option ℕ) (gaps n : ℕ) → noted ≡ None → n ≤ gaps ↔ (IsUpTo noted n ⊎ (n ≤ gaps))
up_none noted gaps n none = (
  λ le. inr le,
  λ one. elim one [
    | inl up ↦ absurd (subst (λ (o : Option ℕ). IsUpTo o n) none up)
    | inr le ↦ le
  ],
)

pub up_gaps : (noted : Option ℕ) (most gaps n : ℕ) → noted ≡ Some most → most < gaps → n ≤ gaps ↔ (IsUpTo noted n ⊎ (n ≤ gaps))
up_gaps noted most gaps n is less = (
  λ le. inr le,
  λ one. elim one [
    | inl up ↦ let low : n ≤ most = subst (λ (o : Option ℕ). IsUpTo o n) is up in omega (arith, low, less)
    | inr le ↦ le
  ],
)

pub up_noted : (noted : Option ℕ) (most gaps n : ℕ) → noted ≡ Some most → (most < gaps → ⊥) → n ≤ most ↔ (IsUpTo noted n ⊎ (n ≤ gaps))
up_noted noted most gaps n is more = (
  λ le. inl (subst (λ (o : Option ℕ). IsUpTo o n) (sym is) le),
  λ one. elim one [
    | inl up ↦ subst (λ (o : Option ℕ). IsUpTo o n) is up
    | inr le ↦ elim (cases_lt most gaps) [
      | inl less ↦ absurd (more less)
      | inr past ↦ omega (arith, le, past)
    ]
  ],
)

-- ---- one lemma is noted

pub not_bare : (x : TrackLemma) (noted : Option ℕ) (n : ℕ) → 0 < length x.tracks → IsUpTo noted n ↔ (IsUpTo noted n ⊎ IsBare x n)
not_bare x noted n some = (
  λ up. inl up,
  λ one. elim one [
    | inl up ↦ up
    | inr bare ↦ absurd (omega (arith, some, ap length bare.any))
  ],
)

no_items : {X : Type 0} (xs : List X) → (0 < length xs → ⊥) → xs ≡ []
no_items [] none = refl
no_items (x ∷ xs) none = absurd (none (omega arith))

pub bare_set : (x : TrackLemma) (old new : Option ℕ) (most n : ℕ) → (0 < length x.tracks → ⊥) → new ≡ Some most → n ≤ most ↔ (IsUpTo old n ⊎ (n ≤ x.gaps)) → IsUpTo new n ↔ (IsUpTo old n ⊎ IsBare x n)
bare_set x old new most n none is up = (
  λ h. elim (up.0 (subst (λ (o : Option ℕ). IsUpTo o n) is h)) [
    | inl before ↦ inl before
    | inr le ↦ inr (record { enough = le; any = no_items x.tracks none })
  ],
  λ one. subst (λ (o : Option ℕ). IsUpTo o n) (sym is) (up.1 (elim one [
    | inl before ↦ inl before
    | inr bare ↦ inr bare.enough
  ])),
)

-- ---- what is noted of all states

any_push : {X : Type 0} (Q : X → Type 0) (xs : List X) (x : X) → Any Q xs ⊎ Q x → Any Q (xs ++ x ∷ [])
any_push Q xs x (inl any) = any_append_left Q xs (x ∷ []) any
any_push Q xs x (inr here) = any_at Q (xs ++ x ∷ []) x (Contains-push xs x) here

any_pushed : {X : Type 0} (Q : X → Type 0) (xs : List X) (x : X) → Any Q (xs ++ x ∷ []) → Any Q xs ⊎ Q x
any_pushed Q xs x any =
    let found : Some' Q (xs ++ x ∷ []) = some_from_any Q (xs ++ x ∷ []) any in
    elim (Contains-append_cases xs (x ∷ []) found.it found.there) [
      | inl before ↦ inl (any_at Q xs found.it before found.holds)
      | inr last ↦ inr (subst Q (sym (contains_one x found.it last)) found.holds)
    ]

pub bare_none : (k : Kinds) (lemmas : List TrackLemma) (noted : ByState) → lemmas ≡ [] → ((number : ℕ) → known_at noted number ≡ nothing_known) → AreMost k lemmas noted
bare_none k lemmas noted none nothing s gaps state = (
  λ up. absurd (subst (λ (x : Known). IsUpTo x.closed gaps) (nothing (state_code k s)) up),
  λ any.
      let found : Some' (CoversAll s gaps) lemmas = some_from_any (CoversAll s gaps) lemmas any in
      absurd (contains_none found.it (subst (λ ls. Contains ls found.it) none found.there)),
)

pub bare_more : (k : Kinds) (lemmas now : List TrackLemma) (old new : ByState) (x : TrackLemma) (number : ℕ) → IsState k x.state → number ≡ state_code k x.state → AreMost k lemmas old → now ≡ lemmas ++ x ∷ [] → ((n : ℕ) → IsUpTo ((known_at new number).closed) n ↔ (IsUpTo ((known_at old number).closed) n ⊎ IsBare x n)) → ((q : ℕ) → q ≢ number → known_at new q ≡ known_at old q) → AreMost k now new
bare_more k lemmas now old new x number valid code all grown here others s g state = subst (λ ls. IsUpTo ((known_at new (state_code k s)).closed) g ↔ Any (CoversAll s g) ls) (sym grown) (elim (cases_eq (state_code k s) number) [
  | inl e ↦
      let same : s ≡ x.state = state_same k s x.state state valid (e ∙ code) in (
        λ up. any_push (CoversAll s g) lemmas x (elim ((here g).0 (subst (λ (q : ℕ). IsUpTo ((known_at new q).closed) g) e up)) [
          | inl before ↦ inl ((all s g state).0 (subst (λ (q : ℕ). IsUpTo ((known_at old q).closed) g) (sym e) before))
          | inr bare ↦ inr (record { state = sym same; enough = bare.enough; any = bare.any })
        ]),
        λ any. subst (λ (q : ℕ). IsUpTo ((known_at new q).closed) g) (sym e) ((here g).1 (elim (any_pushed (CoversAll s g) lemmas x any) [
          | inl before ↦ inl (subst (λ (q : ℕ). IsUpTo ((known_at old q).closed) g) e ((all s g state).1 before))
          | inr last ↦ inr (record { enough = last.enough; any = last.any })
        ])),
      )
  | inr ne ↦
      let as_before : (known_at new (state_code k s)).closed ≡ (known_at old (state_code k s)).closed = ap (λ (x : Known). x.closed) (others (state_code k s) ne) in (
        λ up. any_append_left (CoversAll s g) lemmas (x ∷ []) ((all s g state).0 (subst (λ (o : Option ℕ). IsUpTo o g) as_before up)),
        λ any. elim (any_pushed (CoversAll s g) lemmas x any) [
          | inl before ↦ subst (λ (o : Option ℕ). IsUpTo o g) (sym as_before) ((all s g state).1 before)
          | inr last ↦ absurd (ne (ap (state_code k) (sym last.state) ∙ sym code))
        ],
      )
])

-- ---- whether a state needs more gaps by the bounds of its rows

pub more_by_p : (value : Row → State → Kinds → ℕ) (k : Kinds) (s : State) (gaps : ℕ) (p : Bool) → p ≡ ltb gaps (value P s k) → p ≡ true → NeedsMore value k s gaps
more_by_p value k s gaps p is e = inl (ltb-true gaps (value P s k) (sym is ∙ e))

pub more_by_n : (value : Row → State → Kinds → ℕ) (k : Kinds) (s : State) (gaps : ℕ) (p n : Bool) → p ≡ ltb gaps (value P s k) → p ≡ false → n ≡ ltb gaps (value N s k) → IsTrue n ↔ NeedsMore value k s gaps
more_by_n value k s gaps p n of_p f is = (
  λ e. inr (ltb-true gaps (value N s k) (sym is ∙ e)),
  λ more. elim more [
    | inl less ↦ absurd (both_ways p f (of_p ∙ lt-ltb gaps (value P s k) less))
    | inr less ↦ is ∙ lt-ltb gaps (value N s k) less
  ],
)

-- so it does with fewer gaps
needs_more_still : (value : Row → State → Kinds → ℕ) (k : Kinds) (s : State) (gaps most : ℕ) → gaps ≤ most → NeedsMore value k s most → NeedsMore value k s gaps
needs_more_still value k s gaps most le (inl p) = inl (omega (arith, le, p))
needs_more_still value k s gaps most le (inr n) = inr (omega (arith, le, n))

-- ---- one state is noted

-- a part of what is known that stays the same for that state stays the same for all
pub part_same : (part : Known → Option ℕ) (old new : ByState) (number : ℕ) → part (known_at new number) ≡ part (known_at old number) → ((q : ℕ) → q ≢ number → known_at new q ≡ known_at old q) → (q : ℕ) → part (known_at new q) ≡ part (known_at old q)
part_same part old new number here others q = elim (cases_eq q number) [
  | inl e ↦ subst (λ (z : ℕ). part (known_at new z) ≡ part (known_at old z)) (sym e) here
  | inr ne ↦ ap part (others q ne)
]

pub too_few_same : (value : Row → State → Kinds → ℕ) (k : Kinds) (old new : ByState) → ((q : ℕ) → (known_at new q).too_few ≡ (known_at old q).too_few) → AreTooFew value k old → AreTooFew value k new
too_few_same value k old new same all s gaps state up = all s gaps state (subst (λ (o : Option ℕ). IsUpTo o gaps) (same (state_code k s)) up)

pub most_same : (k : Kinds) (lemmas : List TrackLemma) (old new : ByState) → ((q : ℕ) → (known_at new q).closed ≡ (known_at old q).closed) → AreMost k lemmas old → AreMost k lemmas new
most_same k lemmas old new same all s gaps state = subst (λ (o : Option ℕ). IsUpTo o gaps ↔ Any (CoversAll s gaps) lemmas) (sym (same (state_code k s))) (all s gaps state)

pub free_same : (pins : Pins) (limit : ℕ) (k : Kinds) (old new : ByState) → ((q : ℕ) → (known_at new q).free ≡ (known_at old q).free) → AreFree pins limit k old → AreFree pins limit k new
free_same pins limit k old new same all s gaps state from = all s gaps state (subst (λ (o : Option ℕ). IsFrom o gaps) (same (state_code k s)) from)

pub too_few_set : (value : Row → State → Kinds → ℕ) (k : Kinds) (old new : ByState) (s : State) (number gaps : ℕ) → IsState k s → number ≡ state_code k s → NeedsMore value k s gaps → (known_at new number).too_few ≡ Some gaps → ((q : ℕ) → q ≢ number → known_at new q ≡ known_at old q) → AreTooFew value k old → AreTooFew value k new
too_few_set value k old new s number gaps valid code more here others all t g state up = elim (cases_eq (state_code k t) number) [
  | inl e ↦
      let same : t ≡ s = state_same k t s state valid (e ∙ code) in
      let there : (known_at new (state_code k t)).too_few ≡ Some gaps = subst (λ (q : ℕ). (known_at new q).too_few ≡ Some gaps) (sym e) here in
      let le : g ≤ gaps = subst (λ (o : Option ℕ). IsUpTo o g) there up in
      subst (λ (z : State). NeedsMore value k z g) (sym same) (needs_more_still value k s g gaps le more)
  | inr ne ↦ all t g state (subst (λ (x : Known). IsUpTo x.too_few g) (others (state_code k t) ne) up)
]

pub free_set : (pins : Pins) (limit : ℕ) (k : Kinds) (old new : ByState) (s : State) (number gaps : ℕ) → IsState k s → number ≡ state_code k s → HasUncrowded pins limit k s gaps → (known_at new number).free ≡ Some gaps → ((q : ℕ) → q ≢ number → known_at new q ≡ known_at old q) → AreFree pins limit k old → AreFree pins limit k new
free_set pins limit k old new s number gaps valid code has here others all t g state from = elim (cases_eq (state_code k t) number) [
  | inl e ↦
      let same : t ≡ s = state_same k t s state valid (e ∙ code) in
      let there : (known_at new (state_code k t)).free ≡ Some gaps = subst (λ (q : ℕ). (known_at new q).free ≡ Some gaps) (sym e) here in
      let le : gaps ≤ g = subst (λ (o : Option ℕ). IsFrom o g) there from in
      subst (λ (z : State). HasUncrowded pins limit k z g) (sym same) (uncrowded_wider pins limit k s gaps g le has)
  | inr ne ↦ all t g state (subst (λ (x : Known). IsFrom x.free g) (others (state_code k t) ne) from)
]

pub too_few_none : (value : Row → State → Kinds → ℕ) (k : Kinds) (noted : ByState) → ((number : ℕ) → known_at noted number ≡ nothing_known) → AreTooFew value k noted
too_few_none value k noted nothing s gaps state up = absurd (subst (λ (x : Known). IsUpTo x.too_few gaps) (nothing (state_code k s)) up)

pub free_none : (pins : Pins) (limit : ℕ) (k : Kinds) (noted : ByState) → ((number : ℕ) → known_at noted number ≡ nothing_known) → AreFree pins limit k noted
free_none pins limit k noted nothing s gaps state from = absurd (subst (λ (x : Known). IsFrom x.free gaps) (nothing (state_code k s)) from)

-- ---- what is looked up by the number of a state

-- whether a lemma without tracks is about it
pub closed_is : (k : Kinds) (lemmas : List TrackLemma) (noted : ByState) (s : State) (gaps number : ℕ) (found : Known) (r : Bool) → IsState k s → number ≡ state_code k s → AreMost k lemmas noted → found ≡ known_at noted number → IsTrue r ↔ IsUpTo found.closed gaps → IsTrue r ↔ Any (CoversAll s gaps) lemmas
closed_is k lemmas noted s gaps number found r state code all is given =
    let here : IsUpTo ((known_at noted number).closed) gaps ↔ Any (CoversAll s gaps) lemmas = subst (λ (q : ℕ). IsUpTo ((known_at noted q).closed) gaps ↔ Any (CoversAll s gaps) lemmas) (sym code) (all s gaps state) in
    let there : IsTrue r ↔ IsUpTo ((known_at noted number).closed) gaps = subst (λ (x : Known). IsTrue r ↔ IsUpTo x.closed gaps) is given in
    (λ yes. here.0 (there.0 yes), λ any. there.1 (here.1 any))

pub shut_closed : (value : Row → State → Kinds → ℕ) (k : Kinds) (lemmas : List TrackLemma) (noted : ByState) (s : State) (gaps number : ℕ) (found : Known) → IsState k s → number ≡ state_code k s → AreMost k lemmas noted → found ≡ known_at noted number → IsUpTo found.closed gaps → IsShut value k lemmas s gaps
shut_closed value k lemmas noted s gaps number found state code all is up =
    inr ((all s gaps state).0 (subst (λ (q : ℕ). IsUpTo ((known_at noted q).closed) gaps) code (subst (λ (x : Known). IsUpTo x.closed gaps) is up)))

-- it needs more gaps by what is noted
pub shut_too_few : (value : Row → State → Kinds → ℕ) (k : Kinds) (lemmas : List TrackLemma) (noted : ByState) (s : State) (gaps number : ℕ) (found : Known) → IsState k s → number ≡ state_code k s → AreTooFew value k noted → found ≡ known_at noted number → IsUpTo found.too_few gaps → IsShut value k lemmas s gaps
shut_too_few value k lemmas noted s gaps number found state code all is up =
    inl (all s gaps state (subst (λ (q : ℕ). IsUpTo ((known_at noted q).too_few) gaps) code (subst (λ (x : Known). IsUpTo x.too_few gaps) is up)))

pub not_shut : (k : Kinds) (lemmas : List TrackLemma) (noted : ByState) (s : State) (gaps number : ℕ) (found : Known) → IsState k s → number ≡ state_code k s → AreMost k lemmas noted → found ≡ known_at noted number → (IsUpTo found.closed gaps → ⊥) → Any (CoversAll s gaps) lemmas → ⊥
not_shut k lemmas noted s gaps number found state code all is none any =
    none (subst (λ (x : Known). IsUpTo x.closed gaps) (sym is) (subst (λ (q : ℕ). IsUpTo ((known_at noted q).closed) gaps) (sym code) ((all s gaps state).1 any)))

-- whether it is known to have a completion without a crowded line
pub free_is : (pins : Pins) (limit : ℕ) (k : Kinds) (noted : ByState) (s : State) (gaps number : ℕ) (found : Known) → IsState k s → number ≡ state_code k s → AreFree pins limit k noted → found ≡ known_at noted number → IsFrom found.free gaps → HasUncrowded pins limit k s gaps
free_is pins limit k noted s gaps number found state code all is from =
    all s gaps state (subst (λ (q : ℕ). IsFrom ((known_at noted q).free) gaps) code (subst (λ (x : Known). IsFrom x.free gaps) is from))
