-- Lemmas are taken from the last to the first, each with its mark.
use Rattle.std.specs.Prelude.{ℕ, ◌≡◌, ◌<◌, ◌++◌, ◌⊎◌, Bool, true, false, List, [], ◌∷◌, Any, Contains, length, reverse}
use Rattle.std.proofs.Common.{refl, sym, ap, subst, arith, ◌∙◌, inl, inr, append_assoc, append-nil}
use Rattle.std.proofs.lemmas.List.{length-append, reverse-append}
use Rattle.std.proofs.lemmas.List.Elements.{Contains-append_cases, Contains-append_left, Contains-append_right, Contains-push}
use Rattle.cell_num.proofs.Lists.{contains_here, contains_there}
use Rattle.cell_num.proofs.Pairs.{Some', any_at, some_from_any}
use Rattle.end_lemmas.specs.declared.index.LemmaIndex.{LemmaIndex}
use Rattle.end_lemmas.specs.declared.lemma.EndLemma.{EndLemma}
use Rattle.end_lemmas.specs.Indexed.{IsIndexOf}
use Rattle.end_lemmas.specs.Justified.{AreJustified, IsJustified}
use Rattle.end_lemmas.specs.Steps.{Steps}
use Rattle.end_lemmas.proofs.First.{none_justified}
use Rattle.end_prune.specs.Marks.{AreKeptFor, IsSupportMarked, marked}
use Rattle.end_prune.specs.Sublist.{IsSublist}
use Rattle.end_prune.specs.Used.{AreUsed, Supports}
use Rattle.end_prune.proofs.Marked.{marked_push}
use Rattle.end_prune.proofs.Behind.{AreBehind, behind_all, behind_wider, in_push, indexed_pop, justified_last, justified_pop}

module _ {L C S : Type 0} (steps : Steps L C S) (levels : List L) where
  -- Of all lemmas those left are not looked at. Their marks are known, and which lemmas behind them stay.
  pub record IsWalk (number : ℕ → S → ℕ) (index : LemmaIndex) (all firsts left : List (EndLemma S)) (marks : List Bool)
      (stay : List (EndLemma S)) : Type 0 where
    pub same : length marks ≡ length left
    pub indexed : IsIndexOf number left index
    pub justified : AreJustified steps levels left
    pub gone : List (EndLemma S)
    pub whole : all ≡ left ++ gone
    pub some : IsSublist stay gone
    pub wanted : (x : EndLemma S) → Contains (marked marks left) x
        → Contains firsts x ⊎ Any (Supports steps levels x) stay
    pub used : AreUsed steps levels (Contains firsts) stay
    pub behind : AreBehind steps levels (marked marks left) stay
    pub kept : (x : EndLemma S) → Contains firsts x → Contains (marked marks left ++ stay) x

  module _ (number : ℕ → S → ℕ) (index : LemmaIndex) (all firsts : List (EndLemma S)) where
    abbrev Walk : List (EndLemma S) → List Bool → List (EndLemma S) → Type 0
    Walk left marks stay = IsWalk number index all firsts left marks stay

    walk_out : (left : List (EndLemma S)) (x : EndLemma S) (marks : List Bool) (stay : List (EndLemma S))
        → Walk (left ++ x ∷ []) (marks ++ false ∷ []) stay → Walk left marks stay
    walk_out left x marks stay w =
        let same : length marks ≡ length left =
        omega (arith, w.same, length-append left (x ∷ []), length-append marks (false ∷ [])) in
        let is : marked (marks ++ false ∷ []) (left ++ x ∷ []) ≡ marked marks left =
        marked_push marks left false x same ∙ append-nil (marked marks left) in
        record {
          same = same;
          indexed = indexed_pop number left x index w.indexed;
          justified = justified_pop steps levels left x w.justified;
          gone = x ∷ w.gone;
          whole = w.whole ∙ append_assoc left (x ∷ []) w.gone;
          some = inl w.some;
          wanted = λ y there. w.wanted y (subst (λ (ys : List (EndLemma S)). Contains ys y) (sym is) there);
          used = w.used;
          behind = subst (λ (ys : List (EndLemma S)). AreBehind steps levels ys stay) is w.behind;
          kept = λ y there. subst (λ (ys : List (EndLemma S)). Contains (ys ++ stay) y) is (w.kept y there);
        }

    wanted_more : (stay : List (EndLemma S)) (x y : EndLemma S)
        → Contains firsts y ⊎ Any (Supports steps levels y) stay
        → Contains firsts y ⊎ Any (Supports steps levels y) (x ∷ stay)
    wanted_more stay x y (inl one) = inl one
    wanted_more stay x y (inr any) =
        let one : Some' (Supports steps levels y) stay = some_from_any (Supports steps levels y) stay any in
        inr (any_at (Supports steps levels y) (x ∷ stay) one.it (contains_there x stay one.it one.there) one.holds)

    walk_kept : (left : List (EndLemma S)) (x : EndLemma S) (marks new : List Bool) (stay : List (EndLemma S))
        → Walk (left ++ x ∷ []) (marks ++ true ∷ []) stay → IsSupportMarked steps levels x left marks new
        → Walk left new (x ∷ stay)
    walk_kept left x marks new stay w h =
        let same : length marks ≡ length left =
        omega (arith, w.same, length-append left (x ∷ []), length-append marks (true ∷ [])) in
        let is : marked (marks ++ true ∷ []) (left ++ x ∷ []) ≡ marked marks left ++ x ∷ [] =
        marked_push marks left true x same in
        let before : AreBehind steps levels (marked marks left ++ x ∷ []) stay =
        subst (λ (ys : List (EndLemma S)). AreBehind steps levels ys stay) is w.behind in
        record {
          same = h.same ∙ same;
          indexed = indexed_pop number left x index w.indexed;
          justified = justified_pop steps levels left x w.justified;
          gone = x ∷ w.gone;
          whole = w.whole ∙ append_assoc left (x ∷ []) w.gone;
          some = inr (stay, refl, w.some);
          wanted = λ y there.
              elim (h.added y there) [
                | inl early ↦
                    wanted_more stay x y
                    (w.wanted y (subst (λ (ys : List (EndLemma S)). Contains ys y) (sym is)
                    (Contains-append_left (marked marks left) (x ∷ []) y early)))
                | inr supports ↦ inr (any_at (Supports steps levels y) (x ∷ stay) x (contains_here x stay) supports)
              ];
          used = (
            w.wanted x (subst (λ (ys : List (EndLemma S)). Contains ys x) (sym is)
                (Contains-push (marked marks left) x)),
            w.used,
          );
          behind = (
            h.justified,
            behind_wider steps levels (marked marks left ++ x ∷ []) (marked new left ++ x ∷ []) stay
                (in_push (marked marks left) (marked new left) x h.still) before,
          );
          kept = λ y there.
              let now : Contains (marked marks left ++ x ∷ stay) y =
              subst (λ (ys : List (EndLemma S)). Contains ys y) (append_assoc (marked marks left) (x ∷ []) stay)
              (subst (λ (ys : List (EndLemma S)). Contains (ys ++ stay) y) is (w.kept y there)) in
              elim (Contains-append_cases (marked marks left) (x ∷ stay) y now) [
                | inl early ↦ Contains-append_left (marked new left) (x ∷ stay) y (h.still y early)
                | inr late ↦ Contains-append_right (marked new left) (x ∷ stay) y late
              ];
        }

    -- ---- by what the loop has

    -- the last lemma is taken off, and its mark
    pub record IsTaken (before left : List (EndLemma S)) (x : EndLemma S) (old marks : List Bool) (m : Bool)
        (kept : List (EndLemma S)) : Type 0 where
      pub walk : Walk (left ++ x ∷ []) (marks ++ m ∷ []) (reverse kept)
      pub same : length marks ≡ length left

    pub taken : (before left : List (EndLemma S)) (x : EndLemma S) (old marks : List Bool) (m : Bool)
        (kept : List (EndLemma S)) → before ≡ left ++ x ∷ [] → (0 < length old → old ≡ marks ++ m ∷ [])
        → Walk before old (reverse kept) → IsTaken before left x old marks m kept
    taken before left x old marks m kept is off w =
        let here : Walk (left ++ x ∷ []) old (reverse kept) =
        subst (λ (ls : List (EndLemma S)). Walk ls old (reverse kept)) is w in
        let some : 0 < length old = omega (arith, here.same, length-append left (x ∷ [])) in
        let walk : Walk (left ++ x ∷ []) (marks ++ m ∷ []) (reverse kept) =
        subst (λ (ms : List Bool). Walk (left ++ x ∷ []) ms (reverse kept)) (off some) here in
        record {
          walk = walk;
          same = omega (arith, walk.same, length-append left (x ∷ []), length-append marks (m ∷ []));
        }

    module _ (before left : List (EndLemma S)) (x : EndLemma S) (old marks : List Bool) (m : Bool)
        (kept : List (EndLemma S)) (t : IsTaken before left x old marks m kept) where
      pub taken_index : IsIndexOf number left index
      taken_index = indexed_pop number left x index t.walk.indexed

      pub taken_justified : IsJustified steps levels left x
      taken_justified = justified_last steps levels left x t.walk.justified

      pub taken_out : m ≡ false → Walk left marks (reverse kept)
      taken_out off =
          walk_out left x marks (reverse kept)
          (subst (λ (b : Bool). Walk (left ++ x ∷ []) (marks ++ b ∷ []) (reverse kept)) off t.walk)

      pub taken_kept : (new : List Bool) (more : List (EndLemma S)) → m ≡ true
          → IsSupportMarked steps levels x left marks new → more ≡ kept ++ x ∷ [] → Walk left new (reverse more)
      taken_kept new more on h is =
          let turned : x ∷ reverse kept ≡ reverse more =
          sym (reverse-append kept (x ∷ [])) ∙ ap (λ (ls : List (EndLemma S)). reverse ls) (sym is) in
          subst (λ (ls : List (EndLemma S)). Walk left new ls) turned
          (walk_kept left x marks new (reverse kept)
          (subst (λ (b : Bool). Walk (left ++ x ∷ []) (marks ++ b ∷ []) (reverse kept)) on t.walk) h)

  nothing_marked : (marks : List Bool) → ◌≡◌ {A = List (EndLemma S)} (marked marks []) []
  nothing_marked [] = refl
  nothing_marked (m ∷ marks) = refl

  pub walk_first : (number : ℕ → S → ℕ) (index : LemmaIndex) (all : List (EndLemma S)) (marks : List Bool)
      → length marks ≡ length all → IsIndexOf number all index → AreJustified steps levels all
      → IsWalk number index all (marked marks all) all marks []
  walk_first number index all marks same indexed justified = record {
    same = same;
    indexed = indexed;
    justified = justified;
    gone = [];
    whole = sym (append-nil all);
    some = refl;
    wanted = λ x there. inl there;
    used = tt;
    behind = tt;
    kept = λ x there. Contains-append_left (marked marks all) [] x there;
  }

  pub walk_end : (number : ℕ → S → ℕ) (index : LemmaIndex) (all firsts left : List (EndLemma S)) (marks : List Bool)
      (stay turned : List (EndLemma S)) → left ≡ [] → stay ≡ turned
      → IsWalk number index all firsts left marks turned → AreKeptFor steps levels firsts all stay
  walk_end number index all firsts left marks stay turned none is walk = record {
    some = subst (IsSublist stay) (sym w.whole) w.some;
    justified = behind_all steps levels [] stay (none_justified steps levels)
        (subst (λ (ls : List (EndLemma S)). AreBehind steps levels ls stay) (nothing_marked marks) w.behind);
    firsts = λ x there.
        subst (λ (ls : List (EndLemma S)). Contains (ls ++ stay) x) (nothing_marked marks) (w.kept x there);
    used = w.used;
  }
    where
      w : IsWalk number index all firsts [] marks stay
      w = subst (λ (ls : List (EndLemma S)). IsWalk number index all firsts ls marks stay) none
          (subst (λ (ls : List (EndLemma S)). IsWalk number index all firsts left marks ls) (sym is) walk)
