-- A search keeps few lemmas, so it spends few units.
use Rattle.std.specs.Prelude.{ℕ, ◌≡◌, ◌≢◌, ◌+◌, ◌-◌, ◌*◌, ◌<◌, ◌≤◌, List, [], ◌∷◌, Some, All, AllPairs, Contains}
use Rattle.std.specs.Prelude.{length, slice_get, sum_by, take}
use Rattle.std.proofs.Common.{get_or, refl, sym, ap, subst, arith, ◌∙◌}
use Rattle.std.proofs.Math.Nat.{mul-le-mul_right, mul-one}
use Rattle.std.proofs.lemmas.List.Elements.{All-contains}
use Rattle.std.proofs.lemmas.List.Sums.{sum_by-cons}
use Rattle.std.proofs.lemmas.Option.{slice_get_read, slice_get_within}
use Rattle.cell_num.specs.Fingers.{sum_below}
use Rattle.end_lemmas.specs.declared.lemma.EndLemma.{EndLemma}
use Rattle.end_lemmas.specs.Justified.{AreJustified, IsJustified, Says}
use Rattle.end_lemmas.specs.Steps.{Steps}
use Rattle.end_search.specs.declared.proof.EndProof.{EndProof}
use Rattle.end_search.specs.declared.proof.SearchEnd.TheVariants as ended
use Rattle.end_search.specs.New.{AreNew}
use Rattle.end_search.specs.Proof.{EndsAs, IsEndProof, gaps_proved, next_need}
use Rattle.end_search.specs.Reached.{IsReached, LeadTo}
use Rattle.end_search.specs.Units.{units_at, units_of}
use Rattle.end_search.proofs.Choices.{wider}
use Rattle.end_enough.specs.Enough.{AreAllStates, enough, enough_of, state_units, states_after}
use Rattle.end_enough.proofs.Apart.{apart_fit}
use Rattle.end_enough.proofs.Bounded.{on_states, on_states_sum, on_states_there, weight_of}
use Rattle.end_enough.proofs.Led.{all_states}

-- a lemma says itself
pub apart : {S : Type 0} (lemmas : List (EndLemma S)) → AreNew lemmas
    → AllPairs (λ (a b : EndLemma S). a ≢ b) lemmas
apart {S} lemmas new i j d less within same =
    let b : EndLemma S = get_or lemmas j d in
    let says : Says b.done b.state b.bound b = record { levels = refl; same = refl; enough = omega arith } in
    new.unsaid i j d less within (subst (λ (a : EndLemma S). Says b.done b.state b.bound a) (sym same) says)

ones : {X : Type 0} (xs : List X) → sum_by (λ (x : X). 1) xs ≡ length xs
ones [] = refl
ones {X} (x ∷ xs) = omega (arith, ones xs, sum_by-cons (λ (y : X). 1) x xs)

module _ {L C S : Type 0} (steps : Steps L C S) (levels : List L) (start : S) (states : ℕ → List S) where
  module _ (most : ℕ) (lemmas : List (EndLemma S)) (all : AreAllStates steps levels start states)
      (justified : AreJustified steps levels lemmas) (new : AreNew lemmas)
      (reached : All (IsReached steps levels 0 start most) lemmas) where
    -- a justified lemma has a level behind it
    level_left : (l : EndLemma S) → Contains lemmas l → l.done < length levels
    level_left l at =
        let it : slice_get lemmas at.0 ≡ Some l = slice_get_read lemmas (length lemmas) at.0 l refl at.1 (sym at.2) in
        let h : IsJustified steps levels (take at.0 lemmas) l = justified at.0 l it in
        slice_get_within levels l.done h.level h.there

    -- each is one of those on all states
    there : (l : EndLemma S) → Contains lemmas l → Contains (on_states states most (length levels)) l
    there l at =
        let r : IsReached steps levels 0 start most l =
        All-contains (IsReached steps levels 0 start most) lemmas l reached at in
        let done : l.done - 0 ≡ l.done = omega arith in
        let lead : LeadTo steps (take l.done levels) start l.state r.ends =
        subst (λ (n : ℕ). LeadTo steps (take n levels) start l.state r.ends) done r.choices in
        on_states_there states most (length levels) l.done l.state l.bound (level_left l at)
        (all l.done l.state r.ends (level_left l at) lead)
        (All-contains (λ (x : EndLemma S). 0 < x.bound) lemmas l new.some at) (omega (arith, r.within))

    -- each weighs what its level does
    few : (weight : ℕ → ℕ) → sum_by (weight_of states most weight) lemmas
        ≤ most * sum_below (λ done. length (states done) * weight done) (length levels)
    few weight =
        omega (
          arith,
          apart_fit (weight_of states most weight) lemmas (on_states states most (length levels)) (apart lemmas new)
              there,
          on_states_sum states most weight (length levels),
        )

    pub count : length lemmas ≤ most * sum_below (λ done. length (states done)) (length levels)
    count =
        let same : sum_below (λ done. length (states done) * 1) (length levels)
        ≡ sum_below (λ done. length (states done)) (length levels) =
        ap (λ (f : ℕ → ℕ). sum_below f (length levels)) (λ i done. mul-one (length (states done)) i) in
        omega (arith, few (λ _. 1), ones lemmas, ap (λ (n : ℕ). most * n) same)

    pub units : units_of steps levels lemmas ≤ most * state_units steps levels states
    unfolding units_of state_units
    units = few (units_at steps levels)

  -- no lemma has a greater bound than proves one gap more
  pub spends_few : (gaps budget : ℕ) (proof : EndProof S) → AreAllStates steps levels start states
      → IsEndProof steps levels start gaps budget proof
      → budget ≤ proof.left + enough steps levels states (gaps_proved proof.ends + 1)
  spends_few gaps budget proof all h =
      let most : ℕ = 2 * (gaps_proved proof.ends + 1) + 1 in
      let up : next_need proof.ends ≤ most = omega arith in
      let few_units : units_of steps levels proof.lemmas ≤ most * state_units steps levels states =
      units most proof.lemmas all h.justified h.new
      (wider steps levels start (next_need proof.ends) most proof.lemmas up h.reached) in
      omega (arith, few_units, h.many_units)

  -- a spent search proves fewer gaps than were asked for, so it spends what is enough for these at most
  pub never : (gaps budget : ℕ) (proof : EndProof S) → AreAllStates steps levels start states
      → IsEndProof steps levels start gaps budget proof → enough steps levels states gaps < budget
      → proof.end ≢ ended.Spent
  never gaps budget proof all h more spent =
      let asked : gaps_proved proof.ends < gaps =
      h.more_asked (λ e. let no' : ended.Spent ≡ ended.Asked = sym spent ∙ e in absurd cc) in
      let none : EndsAs steps levels start gaps proof.ends proof.left ended.Spent =
      subst (EndsAs steps levels start gaps proof.ends proof.left) spent h.end_is in
      let fewer : (2 * (gaps_proved proof.ends + 1) + 1) * state_units steps levels states
      ≤ (2 * gaps + 1) * state_units steps levels states =
      mul-le-mul_right (state_units steps levels states) (omega (arith, asked)) in
      omega (arith, spends_few gaps budget proof all h, fewer, none, more)

module _ {L C S : Type 0} (steps : Steps L C S) (levels : List L) (start : S) where
  pub never_of : (gaps budget : ℕ) (proof : EndProof S) → IsEndProof steps levels start gaps budget proof
      → enough_of steps levels start gaps < budget → proof.end ≢ ended.Spent
  never_of gaps budget proof h more =
      never steps levels start (states_after steps levels start) gaps budget proof (all_states steps levels start) h
      more
