-- Marks of lemmas that others rest on.
use Rattle.std.specs.Prelude.{ℕ, ◌≡◌, ◌+◌, ◌-◌, ◌<◌, ◌≤◌, ◌⊎◌, true, false, List, [], Bool, All, Any, Contains, Some, None, length, replicate, slice_get, slice_set, take}
use Rattle.std.proofs.Common.{refl, sym, ap, subst, arith, ◌∙◌, inl, inr, get_or}
use Rattle.std.proofs.lemmas.List.{length-replicate, length-set, take_all}
use Rattle.std.proofs.lemmas.List.Elements.{All-contains, All-more, Contains-get_or}
use Rattle.std.proofs.lemmas.Option.{none-some, same_Some}
use Rattle.cell_num.proofs.Lists.{all_from_contains, contains_get, contains_none}
use Rattle.cell_num.proofs.Pairs.{Some', any_at, some_from_any}
use Rattle.end_lemmas.specs.declared.lemma.EndLemma.{EndLemma}
use Rattle.end_lemmas.specs.Justified.{AreEndsProved, IsAtStart, IsJustified, Reaches, Says, SaysAt}
use Rattle.end_lemmas.specs.Steps.{Steps}
use Rattle.end_prune.specs.Marks.{AreMarkedFor, AreStartMarks, IsSupportMarked, marked}
use Rattle.end_prune.specs.Used.{IsBehind, ProvesEnds, Supports}
use Rattle.end_prune.proofs.Behind.{reaches_wider}
use Rattle.end_prune.proofs.Marked.{IsSet, none_marked, one_set}

module _ {L C S : Type 0} (steps : Steps L C S) where
  -- ---- behind one choice

  -- what is looked up there
  pub record IsNeed (level : L) (lemma : EndLemma S) (choice : C) (done : ℕ) (state : S) (need : ℕ) : Type 0 where
    pub within : Contains (steps.choices level) choice
    pub levels : done ≡ lemma.done + 1
    pub next : state ≡ steps.next level lemma.state choice
    pub left : need ≡ lemma.bound - steps.ends level lemma.state choice

  pub need_is : (level : L) (lemma : EndLemma S) (choice : C) (done : ℕ) (state : S) (need ends : ℕ)
      → Contains (steps.choices level) choice → done ≡ lemma.done + 1 → state ≡ steps.next level lemma.state choice
      → need ≡ lemma.bound - ends → ends ≡ steps.ends level lemma.state choice
      → IsNeed level lemma choice done state need
  need_is level lemma choice done state need ends within levels next left count = record {
    within = within;
    levels = levels;
    next = next;
    left = left ∙ ap (λ (n : ℕ). lemma.bound - n) count;
  }

  module _ (level : L) (lemma : EndLemma S) (choice : C) (done : ℕ) (state : S) (need : ℕ)
      (earlier : List (EndLemma S)) (n : IsNeed level lemma choice done state need) where
    says_there : (x : EndLemma S) → Says done state need x
        → Says (lemma.done + 1) (steps.next level lemma.state choice)
        (lemma.bound - steps.ends level lemma.state choice) x
    says_there x h =
        record { levels = h.levels ∙ n.levels; same = h.same ∙ n.next; enough = omega (arith, h.enough, n.left) }

    pub one_says : (need ≡ 0 → ⊥) → (Any (Says done state need) earlier → ⊥)
        → Reaches steps earlier level lemma choice → ⊥
    one_says some none (inl nothing) = some (n.left ∙ nothing)
    one_says some none (inr any) =
        let one : Some' (Says (lemma.done + 1) (steps.next level lemma.state choice)
        (lemma.bound - steps.ends level lemma.state choice)) earlier =
        some_from_any (Says (lemma.done + 1) (steps.next level lemma.state choice)
        (lemma.bound - steps.ends level lemma.state choice)) earlier any in
        none (any_at (Says done state need) earlier one.it one.there
        (record {
          levels = one.holds.levels ∙ sym n.levels;
          same = one.holds.same ∙ sym n.next;
          enough = omega (arith, one.holds.enough, n.left);
        }))

    pub none_needed : (marks : List Bool) → need ≡ 0 → Reaches steps (marked marks earlier) level lemma choice
    none_needed marks nothing = inl (sym n.left ∙ nothing)

    module _ (old new : List Bool) (at : ℕ) (same : length old ≡ length earlier)
        (is : new ≡ slice_set old at true) (says : SaysAt earlier done state need at) where
      set : IsSet earlier says.lemma old new
      set = subst (IsSet earlier says.lemma old) (sym is) (one_set old earlier at says.lemma same says.there)

      pub one_marked : (need ≡ 0 → ⊥) → length new ≡ length old → AreMarkedFor steps level lemma earlier old new
      one_marked some long = record { same = long; still = set.still; added = λ x there. from x (set.added x there) }
        where
          needed : steps.ends level lemma.state choice < lemma.bound
          needed = omega (arith, n.left, some)

          from : (x : EndLemma S) → Contains (marked old earlier) x ⊎ (says.lemma ≡ x)
              → Contains (marked old earlier) x ⊎ IsBehind steps level lemma x
          from x (inl before) = inl before
          from x (inr same) =
              inr (subst (IsBehind steps level lemma) same
              (record { choice = choice; within = n.within; needed = needed; says = says_there says.lemma says.says }))

      pub one_reached : Reaches steps (marked new earlier) level lemma choice
      one_reached =
          inr (any_at (Says (lemma.done + 1) (steps.next level lemma.state choice)
          (lemma.bound - steps.ends level lemma.state choice))
          (marked new earlier) says.lemma set.here (says_there says.lemma says.says))

  -- ---- behind all choices

  module _ (level : L) (lemma : EndLemma S) (earlier : List (EndLemma S)) where
    pub marked_same : (old : List Bool) → AreMarkedFor steps level lemma earlier old old
    marked_same old = record { same = refl; still = λ x there. there; added = λ x there. inl there }

    pub marked_more : (a b c : List Bool) → AreMarkedFor steps level lemma earlier a b
        → AreMarkedFor steps level lemma earlier b c → AreMarkedFor steps level lemma earlier a c
    marked_more a b c g h = record {
      same = h.same ∙ g.same;
      still = λ x there. h.still x (g.still x there);
      added = λ x there. from x (h.added x there);
    }
      where
        from : (x : EndLemma S) → Contains (marked b earlier) x ⊎ IsBehind steps level lemma x
            → Contains (marked a earlier) x ⊎ IsBehind steps level lemma x
        from x (inl before) = g.added x before
        from x (inr behind) = inr behind

    pub reached_more : (choices : List C) (i : ℕ) (choice : C) (old new : List Bool) → i < length choices
        → choice ≡ get_or choices i choice → AreMarkedFor steps level lemma earlier old new
        → All (Reaches steps (marked old earlier) level lemma) (take i choices)
        → Reaches steps (marked new earlier) level lemma choice
        → All (Reaches steps (marked new earlier) level lemma) (take (i + 1) choices)
    reached_more choices i choice old new within is h all here =
        All-more (Reaches steps (marked new earlier) level lemma) choices i choice within
        (all_from_contains (Reaches steps (marked new earlier) level lemma) (take i choices)
        (λ c there. reaches_wider steps (marked old earlier) (marked new earlier) level lemma c h.still
        (All-contains (Reaches steps (marked old earlier) level lemma) (take i choices) c all there)))
        (subst (Reaches steps (marked new earlier) level lemma) is here)

    pub all_reached : (choices : List C) (i : ℕ) (marks : List Bool) → length choices ≤ i
        → choices ≡ steps.choices level → All (Reaches steps (marked marks earlier) level lemma) (take i choices)
        → All (Reaches steps (marked marks earlier) level lemma) (steps.choices level)
    all_reached choices i marks past same all =
        subst (All (Reaches steps (marked marks earlier) level lemma)) (take_all i choices past ∙ same) all

    pub choice_there : (choices : List C) (i : ℕ) (choice : C) → i < length choices → choice ≡ get_or choices i choice
        → choices ≡ steps.choices level → Contains (steps.choices level) choice
    choice_there choices i choice within is same =
        subst (λ (cs : List C). Contains cs choice) same
        (subst (Contains choices) (sym is) (Contains-get_or choices i choice within))

    pub reached_at : (choices : List C) (i : ℕ) (choice : C) → i < length choices → choice ≡ get_or choices i choice
        → choices ≡ steps.choices level → All (Reaches steps earlier level lemma) (steps.choices level)
        → Reaches steps earlier level lemma choice
    reached_at choices i choice within is same all =
        All-contains (Reaches steps earlier level lemma) (steps.choices level) choice all
        (choice_there choices i choice within is same)

  -- ---- the marks of a lemma's support

  module _ (levels : List L) (lemma : EndLemma S) (earlier : List (EndLemma S)) where
    module _ (level : L) (there : slice_get levels lemma.done ≡ Some level)
        (j : IsJustified steps levels earlier lemma) where
      here : j.level ≡ level
      here = same_Some j.level level (sym j.there ∙ there)

      pub all_reach : All (Reaches steps earlier level lemma) (steps.choices level)
      all_reach =
          subst (λ (l : L). All (Reaches steps earlier l lemma) (steps.choices l)) here
          (all_from_contains (Reaches steps earlier j.level lemma) (steps.choices j.level) j.reaches)

      pub support_marked : (old new : List Bool) → AreMarkedFor steps level lemma earlier old new
          → All (Reaches steps (marked new earlier) level lemma) (steps.choices level)
          → IsSupportMarked steps levels lemma earlier old new
      support_marked old new h all = record {
        same = h.same;
        still = h.still;
        added = λ x is. from x (h.added x is);
        justified = record {
          level = level;
          there = there;
          fits = j.fits;
          reaches = λ c within.
              All-contains (Reaches steps (marked new earlier) level lemma) (steps.choices level) c all within;
        };
      }
        where
          from : (x : EndLemma S) → Contains (marked old earlier) x ⊎ IsBehind steps level lemma x
              → Contains (marked old earlier) x ⊎ Supports steps levels x lemma
          from x (inl before) = inl before
          from x (inr behind) = inr (record { level = level; there = there; behind = behind })

    pub some_level : IsJustified steps levels earlier lemma → slice_get levels lemma.done ≡ None → ⊥
    some_level j none = none-some j.level (sym none ∙ j.there)

-- ---- the marks to begin with

module _ {S : Type 0} (start : S) (ends : ℕ) (lemmas : List (EndLemma S)) where
  pub start_none : (marks : List Bool) → marks ≡ replicate (length lemmas) false → AreEndsProved start lemmas ends
      → (Any (Says 0 start ends) lemmas → ⊥) → AreStartMarks start ends lemmas marks
  start_none marks is proved none = record {
    same = ap (λ (ms : List Bool). length ms) is ∙ length-replicate (length lemmas) false;
    proves = λ x there.
        absurd (contains_none x (subst (λ (xs : List (EndLemma S)). Contains xs x)
        (ap (λ (ms : List Bool). marked ms lemmas) is ∙ none_marked (length lemmas) lemmas) there));
    one = from proved.one;
  }
    where
      from : (ends ≡ 0) ⊎ Any (ProvesEnds start ends) lemmas
          → (ends ≡ 0) ⊎ Any (ProvesEnds start ends) (marked marks lemmas)
      from (inl nothing) = inl nothing
      from (inr any) =
          let one : Some' (ProvesEnds start ends) lemmas = some_from_any (ProvesEnds start ends) lemmas any in
          absurd (none (any_at (Says 0 start ends) lemmas one.it one.there
          (record {
            levels = one.holds.0.levels;
            same = one.holds.0.same;
            enough = omega (arith, one.holds.1);
          })))

  pub start_one : (first marks : List Bool) (at : ℕ) → first ≡ replicate (length lemmas) false
      → marks ≡ slice_set first at true → AreEndsProved start lemmas ends → SaysAt lemmas 0 start ends at
      → AreStartMarks start ends lemmas marks
  start_one first marks at is more proved says =
      let long : length first ≡ length lemmas =
      ap (λ (ms : List Bool). length ms) is ∙ length-replicate (length lemmas) false in
      let set : IsSet lemmas says.lemma first marks =
      subst (IsSet lemmas says.lemma first) (sym more) (one_set first lemmas at says.lemma long says.there) in
      let at_start : IsAtStart start says.lemma =
      record { levels = says.says.levels; same = says.says.same } in
      let low : says.lemma.bound ≤ ends =
      proved.most says.lemma (contains_get lemmas at says.lemma says.there) at_start in
      let here : ProvesEnds start ends says.lemma = (at_start, omega (arith, low, says.says.enough)) in
      let none : marked first lemmas ≡ [] =
      ap (λ (ms : List Bool). marked ms lemmas) is ∙ none_marked (length lemmas) lemmas in
      record {
        same = ap (λ (ms : List Bool). length ms) more ∙ length-set first at true ∙ long;
        proves = λ x there.
            elim (set.added x there) [
              | inl before ↦ absurd (contains_none x (subst (λ (xs : List (EndLemma S)). Contains xs x) none before))
              | inr same ↦ subst (ProvesEnds start ends) same here
            ];
        one = inr (any_at (ProvesEnds start ends) (marked marks lemmas) says.lemma set.here here);
      }
