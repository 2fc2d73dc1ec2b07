-- The units that were spent, and the lemmas that were added.
use Rattle.std.specs.Prelude.{ℕ, ◌≡◌, ◌+◌, ◌<◌, ◌≤◌, List, [], ◌∷◌, ◌++◌, Some, drop, slice_get}
use Rattle.std.proofs.Common.{refl, sym, ap, arith, ◌∙◌}
use Rattle.std.proofs.lemmas.List.Sums.{sum_by-cons, sum_by_push}
use Rattle.end_lemmas.specs.declared.lemma.EndLemma.{EndLemma}
use Rattle.end_lemmas.specs.Steps.{Steps}
use Rattle.end_search.specs.declared.progress.Progress.{Progress}
use Rattle.end_search.specs.Search.{AreSpent}
use Rattle.end_search.specs.Units.{level_units, path_units, units_at, units_of, visit_units}
use Rattle.end_search.proofs.Choices.{level_at}

module _ {L C S : Type 0} (steps : Steps L C S) where
  pub units_some : (levels : List L) (done : ℕ) (level : L) → slice_get levels done ≡ Some level
      → units_at steps levels done ≡ level_units steps level
  unfolding units_at
  units_some levels done level at = ap (visit_units steps) at

  pub units_none : (levels : List L) → units_of steps levels [] ≡ 0
  unfolding units_of
  units_none levels = refl

  pub units_push : (levels : List L) (lemmas : List (EndLemma S)) (l : EndLemma S)
      → units_of steps levels (lemmas ++ l ∷ []) ≡ units_of steps levels lemmas + units_at steps levels l.done
  unfolding units_of
  units_push levels lemmas l = sum_by_push (λ (x : EndLemma S). units_at steps levels x.done) lemmas l

  -- the path from a level on
  path_first : (level : L) (levels : List L)
      → path_units steps (level ∷ levels) ≡ level_units steps level + path_units steps levels
  unfolding path_units
  path_first level levels = sum_by-cons (level_units steps) level levels

  pub path_next : (levels : List L) (done : ℕ) (level : L) → slice_get levels done ≡ Some level
      → path_units steps (drop done levels) ≡ units_at steps levels done + path_units steps (drop (done + 1) levels)
  path_next levels done level at =
      ap (path_units steps) (level_at levels done level at) ∙ path_first level (drop (done + 1) levels)
      ∙ ap (λ (n : ℕ). n + path_units steps (drop (done + 1) levels)) (sym (units_some levels done level at))

  module _ (levels : List L) where
    -- nothing was spent
    pub spent_none : (p : Progress S) (others : ℕ) → AreSpent steps levels p p others
    spent_none p others = record { few = omega arith; many = omega arith }

    -- the rest was too little for a state
    pub spent_thrown : (p q : Progress S) (done : ℕ) (level : L) (units : ℕ) → slice_get levels done ≡ Some level
        → q.lemmas ≡ p.lemmas → q.left ≡ 0 → units ≡ level_units steps level → p.left < units
        → AreSpent steps levels p q (path_units steps (drop done levels))
    spent_thrown p q done level units at same none is few =
        let lemmas : units_of steps levels q.lemmas ≡ units_of steps levels p.lemmas = ap (units_of steps levels) same in
        let path : path_units steps (drop done levels) ≡ units_at steps levels done + path_units steps (drop (done + 1) levels) = path_next levels done level at in
        let here : units_at steps levels done ≡ level_units steps level = units_some levels done level at in
        record { few = omega (arith, lemmas, none); many = omega (arith, lemmas, none, path, here, is, few) }

    -- a state of the path, and those behind it
    pub spent_behind : (a b c : Progress S) (here behind others : ℕ)
        → b.left + units_of steps levels b.lemmas + here ≡ a.left + units_of steps levels a.lemmas
        → AreSpent steps levels b c behind → here + behind ≤ others → AreSpent steps levels a c others
    spent_behind a b c here behind others went h more =
        record { few = omega (arith, went, h.few); many = omega (arith, went, h.many, more) }

    -- a state whose lemma is kept
    pub spent_kept : (a b c d : Progress S) (here : ℕ) (l : EndLemma S)
        → b.left + units_of steps levels b.lemmas + here ≡ a.left + units_of steps levels a.lemmas
        → c.left + units_of steps levels c.lemmas + units_at steps levels l.done ≡ b.left + units_of steps levels b.lemmas
        → d.lemmas ≡ c.lemmas ++ l ∷ [] → d.left ≡ c.left
        → d.left + units_of steps levels d.lemmas + here ≡ a.left + units_of steps levels a.lemmas
    spent_kept a b c d here l went behind more left =
        let lemmas : units_of steps levels d.lemmas ≡ units_of steps levels c.lemmas + units_at steps levels l.done = ap (units_of steps levels) more ∙ units_push levels c.lemmas l in
        omega (arith, went, behind, lemmas, left)
