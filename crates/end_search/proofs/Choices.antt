-- The choices of a level, one after another, and what comes behind each of them.
use Rattle.std.specs.Prelude.{ℕ, zero, suc, ◌≡◌, ◌+◌, ◌-◌, ◌<◌, ◌≤◌, true, List, [], ◌∷◌, Some, None, All, Contains}
use Rattle.std.specs.Prelude.{drop, length, slice_get, take}
use Rattle.std.proofs.Common.{refl, sym, ap, subst, arith, ◌∙◌, get_or}
use Rattle.std.proofs.lemmas.List.{take_all}
use Rattle.std.proofs.lemmas.List.Elements.{All-contains, All-more, All-weaker, Contains-get_or}
use Rattle.std.proofs.lemmas.Option.{none-some, same_Some}
use Rattle.end_lemmas.specs.declared.lemma.EndLemma.{EndLemma}
use Rattle.end_lemmas.specs.Justified.{IsJustified, IsKnown, Reaches}
use Rattle.end_lemmas.specs.Steps.{Steps}
use Rattle.end_search.specs.Reached.{AllFit, HasFewer, IsReached, LeadTo}
use Rattle.end_search.specs.Search.{lemma_of}

pub level_at : {X : Type 0} (levels : List X) (done : ℕ) (level : X) → slice_get levels done ≡ Some level
    → drop done levels ≡ level ∷ drop (done + 1) levels
level_at [] done level h = absurd (none-some level h)
level_at {X = X} (l ∷ ls) zero level h = ap (λ (x : X). x ∷ ls) (same_Some l level h)
level_at (l ∷ ls) (suc done) level h =
    let e : suc done + 1 ≡ suc (done + 1) = omega arith in rw e (level_at ls done level h)

pub none_left : {X : Type 0} (levels : List X) (done : ℕ) → slice_get levels done ≡ None → drop done levels ≡ []
none_left [] zero h = refl
none_left [] (suc done) h = refl
none_left (l ∷ ls) zero h = absurd cc
none_left (l ∷ ls) (suc done) h = none_left ls done h

module _ {L C S : Type 0} (steps : Steps L C S) where
  -- the choice at i, and what it makes of the state
  pub record IsChoice (level : L) (s : S) (choices : List C) (i : ℕ) (after : S) (ends : ℕ) : Type 0 where
    pub choice : C
    pub within : i < length choices
    pub is : choice ≡ get_or choices i choice
    pub all : choices ≡ steps.choices level
    pub state : after ≡ steps.next level s choice
    pub count : ends ≡ steps.ends level s choice

  there : (level : L) (s : S) (choices : List C) (i : ℕ) (after : S) (ends : ℕ)
      → (h : IsChoice level s choices i after ends) → Contains (steps.choices level) h.choice
  there level s choices i after ends h =
      subst (λ (cs : List C). Contains cs h.choice) h.all
      (subst (Contains choices) (sym h.is) (Contains-get_or choices i h.choice h.within))

  -- ---- what is known behind choices

  -- one choice more reaches the bound
  pub reach_more : (known : List (EndLemma S)) (level : L) (done : ℕ) (s after : S) (need rest ends : ℕ)
      (choices : List C) (i : ℕ) → IsChoice level s choices i after ends → rest ≡ need - ends
      → IsKnown known (done + 1) after rest → All (Reaches steps known level (lemma_of done s need)) (take i choices)
      → All (Reaches steps known level (lemma_of done s need)) (take (i + 1) choices)
  reach_more known level done s after need rest ends choices i h is known_so all =
      let same : rest ≡ need - steps.ends level s h.choice = omega (arith, is, h.count) in
      let here : Reaches steps known level (lemma_of done s need) h.choice =
      subst (IsKnown known (done + 1) (steps.next level s h.choice)) same
      (subst (λ (t : S). IsKnown known (done + 1) t rest) h.state known_so) in
      All-more (Reaches steps known level (lemma_of done s need)) choices i h.choice h.within all
      (subst (Reaches steps known level (lemma_of done s need)) h.is here)

  -- all choices do
  pub all_reach : (levels : List L) (known : List (EndLemma S)) (level : L) (done : ℕ) (s : S) (need : ℕ)
      (choices : List C) (i : ℕ) → slice_get levels done ≡ Some level → steps.fits s ≡ true
      → choices ≡ steps.choices level → length choices ≤ i
      → All (Reaches steps known level (lemma_of done s need)) (take i choices)
      → IsJustified steps levels known (lemma_of done s need)
  all_reach levels known level done s need choices i at fits same past all =
      let whole : All (Reaches steps known level (lemma_of done s need)) (steps.choices level) =
      subst (All (Reaches steps known level (lemma_of done s need))) (take_all i choices past ∙ same) all in
      record {
        level = level;
        there = at;
        fits = fits;
        reaches = λ c within. All-contains (Reaches steps known level (lemma_of done s need)) (steps.choices level) c whole within;
      }

  -- ---- fewer ends

  pub fewer_leaf : (levels : List L) (done : ℕ) (s : S) (need : ℕ) → slice_get levels done ≡ None → 0 < need
      → HasFewer steps (drop done levels) s need
  fewer_leaf levels done s need none some =
      subst (λ (ls : List L). HasFewer steps ls s need) (sym (none_left levels done none))
      (record { last = s; ends = 0; choices = (refl, refl); few = some })

  pub fewer_behind : (levels : List L) (level : L) (done : ℕ) (s after : S) (need rest ends : ℕ) (choices : List C)
      (i : ℕ) → slice_get levels done ≡ Some level → IsChoice level s choices i after ends → rest ≡ need - ends
      → HasFewer steps (drop (done + 1) levels) after rest → HasFewer steps (drop done levels) s need
  fewer_behind levels level done s after need rest ends choices i at h is few =
      let lead : LeadTo steps (drop (done + 1) levels) (steps.next level s h.choice) few.last few.ends =
      subst (λ (t : S). LeadTo steps (drop (done + 1) levels) t few.last few.ends) h.state few.choices in
      subst (λ (ls : List L). HasFewer steps ls s need) (sym (level_at levels done level at))
      (record {
        last = few.last;
        ends = steps.ends level s h.choice + few.ends;
        choices = (h.choice, few.ends, there level s choices i after ends h, refl, lead);
        few = omega (arith, few.few, is, h.count);
      })

  -- ---- states that fit

  pub fits_here : (levels : List L) (level : L) (done : ℕ) (s : S) → slice_get levels done ≡ Some level
      → AllFit steps (drop done levels) s → steps.fits s ≡ true
  fits_here levels level done s at all =
      let here : AllFit steps (level ∷ drop (done + 1) levels) s =
      subst (λ (ls : List L). AllFit steps ls s) (level_at levels done level at) all in
      here.0

  pub fits_behind : (levels : List L) (level : L) (done : ℕ) (s after : S) (ends : ℕ) (choices : List C) (i : ℕ)
      → slice_get levels done ≡ Some level → IsChoice level s choices i after ends
      → AllFit steps (drop done levels) s → AllFit steps (drop (done + 1) levels) after
  fits_behind levels level done s after ends choices i at h all =
      let here : AllFit steps (level ∷ drop (done + 1) levels) s =
      subst (λ (ls : List L). AllFit steps ls s) (level_at levels done level at) all in
      subst (AllFit steps (drop (done + 1) levels)) (sym h.state)
      (here.1 h.choice (there level s choices i after ends h))

  -- ---- states that are reached

  -- the state behind the choice
  pub reached_here : (levels : List L) (level : L) (done : ℕ) (s after : S) (need rest ends : ℕ) (choices : List C)
      (i : ℕ) → slice_get levels done ≡ Some level → IsChoice level s choices i after ends → rest ≡ need - ends
      → 0 < rest → IsReached steps levels done s need (lemma_of (done + 1) after rest)
  reached_here levels level done s after need rest ends choices i at h is some =
      let one : done + 1 - done ≡ 1 = omega arith in
      let path : take (done + 1 - done) (drop done levels) ≡ level ∷ [] =
      ap (λ (n : ℕ). take n (drop done levels)) one ∙ ap (λ (ls : List L). take 1 ls) (level_at levels done level at) in
      record {
        ends = ends;
        choices = subst (λ (ls : List L). LeadTo steps ls s after ends) (sym path)
            (h.choice, 0, there level s choices i after ends h, omega (arith, h.count), (sym h.state, refl));
        within = omega (arith, is, some);
      }

  -- those behind it
  pub reached_behind : (levels : List L) (level : L) (done : ℕ) (s after : S) (need rest ends : ℕ) (choices : List C)
      (i : ℕ) (lemma : EndLemma S) → slice_get levels done ≡ Some level → IsChoice level s choices i after ends
      → rest ≡ need - ends → 0 < rest → done + 1 < lemma.done → IsReached steps levels (done + 1) after rest lemma
      → IsReached steps levels done s need lemma
  reached_behind levels level done s after need rest ends choices i lemma at h is some later r =
      let one : lemma.done - done ≡ suc (lemma.done - (done + 1)) = omega (arith, later) in
      let path : take (lemma.done - done) (drop done levels)
      ≡ level ∷ take (lemma.done - (done + 1)) (drop (done + 1) levels) =
      ap (λ (n : ℕ). take n (drop done levels)) one
      ∙ ap (λ (ls : List L). take (suc (lemma.done - (done + 1))) ls) (level_at levels done level at) in
      let lead : LeadTo steps (take (lemma.done - (done + 1)) (drop (done + 1) levels)) (steps.next level s h.choice) lemma.state r.ends =
      subst (λ (t : S). LeadTo steps (take (lemma.done - (done + 1)) (drop (done + 1) levels)) t lemma.state r.ends) h.state r.choices in
      record {
        ends = steps.ends level s h.choice + r.ends;
        choices = subst (λ (ls : List L). LeadTo steps ls s lemma.state (steps.ends level s h.choice + r.ends)) (sym path)
            (h.choice, r.ends, there level s choices i after ends h, refl, lead);
        within = omega (arith, is, some, h.count, r.within);
      }

  pub wider : (levels : List L) (s : S) (a b : ℕ) (lemmas : List (EndLemma S)) → a ≤ b
      → All (IsReached steps levels 0 s a) lemmas → All (IsReached steps levels 0 s b) lemmas
  wider levels s a b lemmas up all =
      All-weaker (IsReached steps levels 0 s a) (IsReached steps levels 0 s b)
      (λ l h. record { ends = h.ends; choices = h.choices; within = omega (arith, h.within, up) }) lemmas all

  -- the state before the first level
  pub reached_start : (levels : List L) (s : S) (need : ℕ) → IsReached steps levels 0 s need (lemma_of 0 s need)
  reached_start levels s need = record { ends = 0; choices = (refl, refl); within = omega arith }
