-- States that choices lead to, and the lemmas on them.
use Rattle.std.specs.Prelude.{ℕ, zero, suc, ◌≡◌, ◌+◌, ◌-◌, ◌*◌, ◌≤◌, List, [], ◌∷◌, ◌++◌, Some, All, Contains, slice_get, take}
use Rattle.std.proofs.Common.{refl, sym, ap, subst, arith}
use Rattle.std.proofs.lemmas.List.Elements.{All-nil, All-push, All-weaker}
use Rattle.std.proofs.lemmas.Option.{none-some, same_Some}
use Rattle.trail_state.specs.declared.edge.Edge.{Edge}
use Rattle.trail_state.specs.declared.state.Place.{Place}
use Rattle.trail_state.specs.Settling.{ends_after, state_after}
use Rattle.trail_state.specs.declared.level.Level.{Level}
use Rattle.trail_check.specs.declared.lemma.TrailLemma.{TrailLemma}
use Rattle.trail_search.specs.declared.kept.Kept.{Kept}
use Rattle.trail_search.specs.Reached.{AreReached, IsWithin, LeadTo}
use Rattle.trail_search.specs.Search.{StayWithin, lemma_of}
use Rattle.trail_search.proofs.Grown.{IsChoice}

-- and a choice of the next gate
lead_more : (ls : List Level) (s t : List Place) (ends : ℕ) (l : Level) (c : List Edge) → Contains l.choices c → LeadTo ls s t ends → LeadTo (ls ++ l ∷ []) s (state_after l.now l.next t c) (ends + ends_after l.now l.next t c)
lead_more [] s t ends l c there (same, none) =
    (c, 0, there, omega (arith, none, ap (λ (u : List Place). ends_after l.now l.next u c) same), (ap (λ (u : List Place). state_after l.now l.next u c) same, refl))
lead_more (k ∷ ls) s t ends l c there (d, rest, listed, is, more) =
    (d, rest + ends_after l.now l.next t c, listed, omega (arith, is), lead_more ls (state_after k.now k.next s d) t rest l c there more)

take_next : (levels : List Level) (done : ℕ) (level : Level) → slice_get levels done ≡ Some level → take (done + 1) levels ≡ take done levels ++ level ∷ []
take_next [] done level h = absurd (none-some level h)
take_next (l ∷ ls) zero level h = ap (λ (x : Level). x ∷ []) (same_Some l level h)
take_next (l ∷ ls) (suc done) level h = let e : suc done + 1 ≡ suc (done + 1) = omega arith in rw e (ap (λ (xs : List Level). l ∷ xs) (take_next ls done level h))

wider : (levels : List Level) (a b : ℕ) (lemmas : List TrailLemma) → a ≤ b → All (IsWithin levels a) lemmas → All (IsWithin levels b) lemmas
wider levels a b lemmas up all =
    All-weaker (IsWithin levels a) (IsWithin levels b) (λ l h. record { ends = h.ends; reached = h.reached; within = omega (arith, h.within, up) }) lemmas all

-- the state behind a choice
within_behind : (levels : List Level) (level : Level) (done : ℕ) (s after : List Place) (allowed ends most : ℕ) (choices : List (List Edge)) (i : ℕ) → slice_get levels done ≡ Some level → choices ≡ level.choices → IsChoice level s choices i after ends → ends ≤ allowed → IsWithin levels most (lemma_of done s (allowed + 1)) → IsWithin levels most (lemma_of (done + 1) after (allowed - ends + 1))
within_behind levels level done s after allowed ends most choices i at same h few a =
    let there : Contains level.choices h.choice = subst (λ (cs : List (List Edge)). Contains cs h.choice) same (i, h.within, sym h.is) in
    let count : ℕ = a.ends + ends_after level.now level.next s h.choice in
    let more : LeadTo (take done levels ++ level ∷ []) [] (state_after level.now level.next s h.choice) count = lead_more (take done levels) [] s a.ends level h.choice there a.reached in
    record {
      ends = count;
      reached = subst (λ (ls : List Level). LeadTo ls [] after count) (sym (take_next levels done level at)) (subst (λ (t : List Place). LeadTo (take done levels ++ level ∷ []) [] t count) (sym h.state) more);
      within = omega (arith, h.count, few, a.within);
    }

-- ---- what was added

pub within_same : (levels : List Level) (done : ℕ) (s : List Place) (bound : ℕ) (kept : Kept) → StayWithin levels done s bound kept kept
within_same levels done s bound kept = λ most here all. all

-- behind a choice
pub within_then : (levels : List Level) (level : Level) (done : ℕ) (s after : List Place) (allowed ends : ℕ)
    (choices : List (List Edge)) (i : ℕ) (a b c : Kept) → slice_get levels done ≡ Some level → choices ≡ level.choices →
    IsChoice level s choices i after ends → ends ≤ allowed → StayWithin levels done s (allowed + 1) a b →
    StayWithin levels (done + 1) after (allowed - ends + 1) b c → StayWithin levels done s (allowed + 1) a c
within_then levels level done s after allowed ends choices i a b c at same h few g behind =
    λ most here all. behind most (within_behind levels level done s after allowed ends most choices i at same h few here) (g most here all)

-- a lemma on the state itself
pub within_kept : (levels : List Level) (done : ℕ) (s : List Place) (bound : ℕ) (a b : Kept) → b.lemmas ≡ a.lemmas ++ lemma_of done s bound ∷ [] → StayWithin levels done s bound a b
within_kept levels done s bound a b is =
    λ most here all. subst (All (IsWithin levels most)) (sym is) (All-push (IsWithin levels most) a.lemmas (lemma_of done s bound) all here)

pub within_more : (levels : List Level) (done : ℕ) (s : List Place) (bound : ℕ) (a b c : Kept) → StayWithin levels done s bound a b → StayWithin levels done s bound b c → StayWithin levels done s bound a c
within_more levels done s bound a b c g h = λ most here all. h most here (g most here all)

-- ---- limits

within_start : (levels : List Level) (s : List Place) (bound : ℕ) → s ≡ [] → IsWithin levels bound (lemma_of 0 s bound)
within_start levels s bound none = record { ends = 0; reached = (sym none, refl); within = omega arith }

pub none_within : (levels : List Level) (most : ℕ) (lemmas : List TrailLemma) → lemmas ≡ [] → All (IsWithin levels most) lemmas
none_within levels most lemmas none = subst (All (IsWithin levels most)) (sym none) (All-nil (IsWithin levels most))

-- the lemmas of one limit more
pub limit_within : (levels : List Level) (a b : Kept) (s : List Place) (limit ends : ℕ) → s ≡ [] → ends ≡ 2 * (limit + 1) → StayWithin levels 0 s (ends + 1) a b → All (IsWithin levels (2 * limit + 1)) a.lemmas → AreReached levels limit b.lemmas
limit_within levels a b s limit ends none is h all =
    let most : ends + 1 ≡ 2 * (limit + 1) + 1 = omega (arith, is) in
    subst (λ (n : ℕ). All (IsWithin levels n) b.lemmas) most (h (ends + 1) (within_start levels s (ends + 1) none) (wider levels (2 * limit + 1) (ends + 1) a.lemmas (omega (arith, is)) all))

pub reached_more : (levels : List Level) (lemmas : List TrailLemma) (limit gaps : ℕ) → limit ≤ gaps → AreReached levels limit lemmas → AreReached levels gaps lemmas
reached_more levels lemmas limit gaps up all = wider levels (2 * (limit + 1) + 1) (2 * (gaps + 1) + 1) lemmas (omega (arith, up)) all

-- all limits
pub reached_all : (levels : List Level) (lemmas : List TrailLemma) (limit gaps : ℕ) → limit ≤ gaps → All (IsWithin levels (2 * limit + 1)) lemmas → AreReached levels gaps lemmas
reached_all levels lemmas limit gaps up all = wider levels (2 * limit + 1) (2 * (gaps + 1) + 1) lemmas (omega (arith, up)) all

-- one limit, tried alone
pub reached_once : (levels : List Level) (a b : Kept) (s : List Place) (limit ends : ℕ) → s ≡ [] → ends ≡ 2 * (limit + 1) → a.lemmas ≡ [] → StayWithin levels 0 s (ends + 1) a b → AreReached levels limit b.lemmas
reached_once levels a b s limit ends none is first h = limit_within levels a b s limit ends none is h (none_within levels (2 * limit + 1) a.lemmas first)
