-- What no lemma says yet.
use Rattle.std.specs.Prelude.{ℕ, ◌≡◌, ◌+◌, ◌<◌, ◌≤◌, ◌⊎◌, ◌==◌, ◌||◌, ◌&&◌, Bool, true, false, nat_le, List, [], ◌∷◌, ◌++◌, All, slice_get}
use Rattle.std.specs.List.{list_any}
use Rattle.std.proofs.Common.{refl, ap, arith, ◌∙◌, inl, inr}
use Rattle.std.proofs.lemmas.List.Elements.{All-nil, All-push}
use Rattle.std.proofs.lemmas.List.Folds.{list_any-append}
use Rattle.cell_num.proofs.Lists.{all_from_contains, all_one}
use Rattle.cell_num.proofs.Pairs.{pairs_append, pairs_none, pairs_one, test_fails}
use Rattle.trail_state.specs.declared.state.Place.{Place}
use Rattle.trail_state.specs.declared.level.Level.{Level}
use Rattle.trail_check.specs.declared.lemma.TrailLemma.{TrailLemma}
use Rattle.trail_check.specs.Justified.{is_known, same_state, says}
use Rattle.trail_check.specs.Listed.{nodes_of}
use Rattle.trail_search.specs.declared.kept.Kept.{Kept}
use Rattle.trail_search.specs.Search.{AreNew, IsStateOf, StayAs, lemma_of}

abbrev HasBound : TrailLemma → Type 0
HasBound l = 0 < l.bound

abbrev HasState : List Level → TrailLemma → Type 0
HasState levels l = IsStateOf (nodes_of (slice_get levels l.done)) l.state

abbrev NotSaid : TrailLemma → TrailLemma → Type 0
NotSaid a b = says b.done b.state b.bound a ≡ false

pub new_none : (levels : List Level) → AreNew levels []
new_none levels = record { some = All-nil HasBound; states = All-nil (HasState levels); unsaid = pairs_none NotSaid }

or_false : (a b : Bool) → ◌≡◌ {A = Bool} (a || b) false → b ≡ false
or_false true b h = absurd cc
or_false false b h = h

pub new_more : (levels : List Level) (lemmas : List TrailLemma) (done : ℕ) (s : List Place) (bound : ℕ) → 0 < bound → IsStateOf (nodes_of (slice_get levels done)) s → is_known lemmas done s bound ≡ false → AreNew levels lemmas → AreNew levels (lemmas ++ lemma_of done s bound ∷ [])
new_more levels lemmas done s bound some state unknown h =
    let l : TrailLemma = lemma_of done s bound in
    let none : list_any (says done s bound) lemmas ≡ false = or_false (bound == 0) (list_any (says done s bound) lemmas) unknown in
    record {
      some = All-push HasBound lemmas l h.some some;
      states = All-push (HasState levels) lemmas l h.states state;
      unsaid = pairs_append NotSaid lemmas (l ∷ []) h.unsaid (pairs_one NotSaid l) (all_from_contains (λ a. All (NotSaid a) (l ∷ [])) lemmas (λ a there. all_one (NotSaid a) l (test_fails (says done s bound) lemmas a none there)));
    }

-- ---- what is known of others

or_none : (a b : Bool) → b ≡ false → ◌≡◌ {A = Bool} (a || b) a
or_none true b h = refl
or_none false b h = h

and_first : (a b c : Bool) → a ≡ false → ◌≡◌ {A = Bool} (a && b && c) false
and_first true b c h = absurd cc
and_first false b c h = refl

and_last : (a b c : Bool) → c ≡ false → ◌≡◌ {A = Bool} (a && b && c) false
and_last true true c h = h
and_last true false c h = refl
and_last false b c h = refl

not_eq : (a b : ℕ) → b < a → (a == b) ≡ false
not_eq a b less = grind (arith, less)

not_le : (a b : ℕ) → b < a → nat_le a b ≡ false
not_le a b less = grind (arith, less)

unsaid_by : (done : ℕ) (s : List Place) (bound : ℕ) (d : ℕ) (t : List Place) (need : ℕ) → (d < done) ⊎ ((d ≡ done) × (bound < need)) → says d t need (lemma_of done s bound) ≡ false
unsaid_by done s bound d t need (inl less) = and_first (done == d) (same_state s t) (nat_le need bound) (not_eq done d less)
unsaid_by done s bound d t need (inr (same, more)) = and_last (done == d) (same_state s t) (nat_le need bound) (not_le need bound more)

pub stay_kept : (done : ℕ) (s : List Place) (bound : ℕ) (before after : Kept) → after.lemmas ≡ before.lemmas ++ lemma_of done s bound ∷ [] → StayAs done bound before after
stay_kept done s bound before after grown d t need other =
    let last : (says d t need (lemma_of done s bound) || false) ≡ false = or_none (says d t need (lemma_of done s bound)) false refl ∙ unsaid_by done s bound d t need other in
    ap (λ (ls : List TrailLemma). is_known ls d t need) grown
    ∙ ap (λ (b : Bool). (need == 0) || b) (list_any-append (says d t need) before.lemmas (lemma_of done s bound ∷ []) ∙ or_none (list_any (says d t need) before.lemmas) (list_any (says d t need) (lemma_of done s bound ∷ [])) last)

pub stay_same : (done bound : ℕ) (kept : Kept) → StayAs done bound kept kept
stay_same done bound kept d s need other = refl

-- a visit behind one gate more
pub stay_behind : (done bound inner : ℕ) (a b c : Kept) → inner ≤ bound → StayAs (done + 1) bound a b → StayAs (done + 1) inner b c → StayAs (done + 1) bound a c
stay_behind done bound inner a b c few h g d s need (inl less) = g d s need (inl less) ∙ h d s need (inl less)
stay_behind done bound inner a b c few h g d s need (inr (same, more)) = g d s need (inr (same, omega (arith, few, more))) ∙ h d s need (inr (same, more))

fewer_gates : (done bound d need : ℕ) → (d < done) ⊎ ((d ≡ done) × (bound < need)) → d < done + 1
fewer_gates done bound d need (inl less) = omega (arith, less)
fewer_gates done bound d need (inr (same, more)) = omega (arith, same)

pub stay_before : (done bound : ℕ) (a b : Kept) → StayAs (done + 1) bound a b → StayAs done bound a b
stay_before done bound a b h d s need other = h d s need (inl (fewer_gates done bound d need other))

pub stay_then : (done bound : ℕ) (a b c : Kept) → StayAs (done + 1) bound a b → StayAs done bound b c → StayAs done bound a c
stay_then done bound a b c h g d s need other = g d s need other ∙ stay_before done bound a b h d s need other

-- so it stays unknown
pub unknown_still : (done bound : ℕ) (a b : Kept) (s : List Place) (need : ℕ) → StayAs (done + 1) bound a b → is_known a.lemmas done s need ≡ false → is_known b.lemmas done s need ≡ false
unknown_still done bound a b s need h off = h done s need (inl (omega arith)) ∙ off

-- ---- limits

-- no more ends are known before the first gate
abbrev pub KnowFewer : ℕ → Kept → Type 0
KnowFewer most kept = (s : List Place) (need : ℕ) → most < need → is_known kept.lemmas 0 s need ≡ false

pub fewer_none : (most : ℕ) (kept : Kept) → kept.lemmas ≡ [] → KnowFewer most kept
fewer_none most kept none s need more = ap (λ (ls : List TrailLemma). is_known ls 0 s need) none ∙ or_none (need == 0) false refl ∙ not_eq need 0 (omega (arith, more))

pub fewer_more : (most bound higher : ℕ) (a b : Kept) → most ≤ higher → bound ≤ higher → KnowFewer most a → StayAs 0 bound a b → KnowFewer higher b
fewer_more most bound higher a b le few h stay s need more = stay 0 s need (inr (refl, omega (arith, few, more))) ∙ h s need (omega (arith, le, more))
