-- Justified lemmas are true: from their states on, every list of choices results in as many ends.
use Rattle.std.specs.Prelude.{ℕ, zero, suc, ◌≡◌, ◌+◌, ◌-◌, ◌<◌, ◌≤◌, ◌⊎◌, List, [], ◌∷◌, Option, Some, None, All, Any, drop, length, slice_get, take}
use Rattle.std.proofs.Common.{refl, sym, ap, subst, arith, ◌∙◌, inl, inr, get_or}
use Rattle.std.proofs.lemmas.List.{take_all}
use Rattle.std.proofs.lemmas.List.Elements.{All-contains, All-more, All-nil}
use Rattle.std.proofs.lemmas.Option.{get_or_from_slice_get, none-some, same_Some, slice_get-get_or}
use Rattle.cell_num.proofs.Pairs.{Some', some_from_any}
use Rattle.end_lemmas.specs.declared.lemma.EndLemma.{EndLemma}
use Rattle.end_lemmas.specs.Justified.{AreEndsProved, AreJustified, IsAtStart, IsJustified, IsKnown, IsTrueOf, Says}
use Rattle.end_lemmas.specs.Steps.{Ends, Steps}

level_at : {X : Type 0} (levels : List X) (done : ℕ) (level : X) → slice_get levels done ≡ Some level
    → drop done levels ≡ level ∷ drop (done + 1) levels
level_at [] done level h = absurd (none-some level h)
level_at {X = X} (l ∷ ls) zero level h = ap (λ (x : X). x ∷ ls) (same_Some l level h)
level_at (l ∷ ls) (suc done) level h =
    let e : suc done + 1 ≡ suc (done + 1) = omega arith in rw e (level_at ls done level h)

pub no_end : {X : Type 0} (xs : List X) (i : ℕ) → i < length xs → slice_get xs i ≡ None → ⊥
no_end [] i within e = omega (arith, within)
no_end (x ∷ xs) i within e =
    none-some (get_or (x ∷ xs) i x) (sym e ∙ slice_get-get_or (x ∷ xs) i x within)

module _ {L C S : Type 0} (steps : Steps L C S) where
  ends_none : (levels : List L) (s : S) → Ends steps levels s 0
  ends_none [] s = refl
  ends_none (l ∷ ls) s = λ c within.
      let none : 0 - steps.ends l s c ≡ 0 = omega arith in
      subst (Ends steps ls (steps.next l s c)) (sym none) (ends_none ls (steps.next l s c))

  pub ends_fewer : (levels : List L) (s : S) (a b : ℕ) → Ends steps levels s b → a ≤ b → Ends steps levels s a
  ends_fewer [] s a b h few = omega (arith, h, few)
  ends_fewer (l ∷ ls) s a b h few = λ c within.
      ends_fewer ls (steps.next l s c) (a - steps.ends l s c) (b - steps.ends l s c) (h c within) (omega (arith, few))

  module _ (levels : List L) where
    said_true : (lemma : EndLemma S) (done : ℕ) (s : S) (need : ℕ) → IsTrueOf steps levels lemma
        → Says done s need lemma → Ends steps (drop done levels) s need
    said_true lemma done s need holds says =
        let there : Ends steps (drop done levels) lemma.state lemma.bound =
        subst (λ (d : ℕ). Ends steps (drop d levels) lemma.state lemma.bound) says.levels holds in
        ends_fewer (drop done levels) s need lemma.bound
        (subst (λ (t : S). Ends steps (drop done levels) t lemma.bound) says.same there) says.enough

    known_true : (earlier : List (EndLemma S)) (done : ℕ) (s : S) (need : ℕ) → All (IsTrueOf steps levels) earlier
        → IsKnown earlier done s need → Ends steps (drop done levels) s need
    known_true earlier done s need holds (inl none) =
        subst (Ends steps (drop done levels) s) (sym none) (ends_none (drop done levels) s)
    known_true earlier done s need holds (inr said) =
        let one : Some' (Says done s need) earlier = some_from_any (Says done s need) earlier said in
        said_true one.it done s need (All-contains (IsTrueOf steps levels) earlier one.it holds one.there) one.holds

    justified_true : (earlier : List (EndLemma S)) (lemma : EndLemma S) → All (IsTrueOf steps levels) earlier
        → IsJustified steps levels earlier lemma → IsTrueOf steps levels lemma
    justified_true earlier lemma holds j =
        subst (λ (ls : List L). Ends steps ls lemma.state lemma.bound)
        (sym (level_at levels lemma.done j.level j.there))
        (λ c within.
        known_true earlier (lemma.done + 1) (steps.next j.level lemma.state c)
        (lemma.bound - steps.ends j.level lemma.state c) holds (j.reaches c within))

    next_true : (lemmas : List (EndLemma S)) → AreJustified steps levels lemmas → (n : ℕ) → suc n ≤ length lemmas
        → All (IsTrueOf steps levels) (take n lemmas) → (o : Option (EndLemma S)) → slice_get lemmas n ≡ o
        → All (IsTrueOf steps levels) (take (suc n) lemmas)
    next_true lemmas all n few before None is = absurd (no_end lemmas n (omega (arith, few)) is)
    next_true lemmas all n few before (Some x) is =
        let here : get_or lemmas n x ≡ x = get_or_from_slice_get lemmas n x x is in
        let holds : IsTrueOf steps levels (get_or lemmas n x) =
        subst (IsTrueOf steps levels) (sym here) (justified_true (take n lemmas) x before (all n x is)) in
        let more : n + 1 ≡ suc n = omega arith in
        subst (λ (k : ℕ). All (IsTrueOf steps levels) (take k lemmas)) more
        (All-more (IsTrueOf steps levels) lemmas n x (omega (arith, few)) before holds)

    first_true : (lemmas : List (EndLemma S)) → AreJustified steps levels lemmas → (n : ℕ) → n ≤ length lemmas
        → All (IsTrueOf steps levels) (take n lemmas)
    first_true lemmas all zero few = All-nil (IsTrueOf steps levels)
    first_true lemmas all (suc n) few =
        next_true lemmas all n few (first_true lemmas all n (omega (arith, few))) (slice_get lemmas n) refl

    pub all_true : (lemmas : List (EndLemma S)) → AreJustified steps levels lemmas
        → All (IsTrueOf steps levels) lemmas
    all_true lemmas all =
        subst (All (IsTrueOf steps levels)) (take_all (length lemmas) lemmas (omega arith))
        (first_true lemmas all (length lemmas) (omega arith))

    -- what justified lemmas prove of every list of choices
    pub ends_true : (lemmas : List (EndLemma S)) (start : S) (ends : ℕ) → AreJustified steps levels lemmas
        → AreEndsProved start lemmas ends → Ends steps levels start ends
    ends_true lemmas start ends all proved = by proved.one
      where
        by : (ends ≡ 0) ⊎ Any (λ lemma. IsAtStart start lemma × (lemma.bound ≡ ends)) lemmas
            → Ends steps levels start ends
        by (inl none) = subst (Ends steps levels start) (sym none) (ends_none levels start)
        by (inr any) =
            let one : Some' (λ lemma. IsAtStart start lemma × (lemma.bound ≡ ends)) lemmas =
            some_from_any (λ lemma. IsAtStart start lemma × (lemma.bound ≡ ends)) lemmas any in
            let holds : Ends steps (drop one.it.done levels) one.it.state one.it.bound =
            All-contains (IsTrueOf steps levels) lemmas one.it (all_true lemmas all) one.there in
            let whole : Ends steps levels one.it.state one.it.bound =
            subst (λ (d : ℕ). Ends steps (drop d levels) one.it.state one.it.bound) one.holds.0.levels holds in
            let there : Ends steps levels start one.it.bound =
            subst (λ (t : S). Ends steps levels t one.it.bound) one.holds.0.same whole in
            subst (Ends steps levels start) one.holds.1 there
