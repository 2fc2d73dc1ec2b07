-- What the units for a row went for, in one search and in two.
use Rattle.std.specs.Prelude.{ℕ, ◌≡◌, ◌≢◌, ◌≤◌, ◌<◌, ◌+◌, ◌-◌, ◌/◌, ◌++◌, Bool, true, false, List, [], All, AllPairs, length}
use Rattle.std.specs.Prelude.{sum_by, Result, Ok, Err, IfErr}
use Rattle.std.proofs.Common.{refl, sym, ap, subst, arith, ◌∷◌}
use Rattle.std.proofs.lemmas.List.Elements.{All-append, All-nil}
use Rattle.cell_num.specs.declared.halt.Halt.{Halt}
use Rattle.cell_num.specs.declared.halt.Halt.TheVariants as halted
use Rattle.cell_num.proofs.Lists.{all_imply}
use Rattle.cell_num.proofs.Pairs.{cross, pairs_append, pairs_none}
use Rattle.row_state.specs.declared.kind.Kinds.{Kinds}
use Rattle.row_state.specs.declared.state.State.{State}
use Rattle.row_state.specs.Start.{AreSomeKinds, columns_left, start_of}
use Rattle.lemma_check.specs.declared.known.Known.{Known}
use Rattle.trail_search.specs.declared.attempts.Attempts.{Attempts}
use Rattle.trail_search.specs.declared.attempts.Attempts.TheVariants.{AtOnce, InSecondHalf, Never}
use Rattle.trail_search.specs.Searched.{Bounded, IsBounded, IsBoundWithin, IsTry, IsTryWithin, Try, WentForRow, may_try}
use Rattle.trail_search.specs.Searched.{plain_units, tried_units}
use Rattle.trail_search.specs.Visit.{IfSpent, IsRaised, IsSpent}
use Rattle.trail_search.proofs.Spent.{Differ, apart, state_within_start}

-- fewer units went for the same
module _ (k : Kinds) (most units fewer others same : ℕ) (less : fewer ≤ units) (e : others ≡ same) where
  fewer_before : (attempts : Attempts) → plain_units attempts fewer ≤ plain_units attempts units
  fewer_before Never = less
  fewer_before AtOnce = omega arith
  fewer_before InSecondHalf = omega (arith, less)

  fewer_after : (attempts : Attempts)
      → fewer - plain_units attempts fewer ≤ units - plain_units attempts units
  fewer_after Never = omega arith
  fewer_after AtOnce = omega (arith, less)
  fewer_after InSecondHalf = omega (arith, less)

  pub went_less : (attempts : Attempts) → WentForRow k attempts most units others → WentForRow k attempts most fewer same
  went_less attempts h = record {
    plain = h.plain;
    later = h.later;
    tries = h.tries;
    different = h.different;
    each = h.each;
    within = h.within;
    tried = h.tried;
    tried_within = h.tried_within;
    before = omega (arith, h.before, fewer_before attempts, e);
    few = omega (arith, h.few, e);
    rest = omega (arith, h.rest, fewer_after attempts, e);
  }

-- no attempt is made where none may be
none_tried : (k : Kinds) (tries : List Try) → All (IsTry k false) tries → sum_by (tried_units k) tries ≡ 0
none_tried k [] all = refl
none_tried k (t ∷ ts) all = let no : false ≡ true = (all 0 t (omega arith)).may in absurd cc

module _ (k : Kinds) (s : State) (kinds : AreSomeKinds k) (at : s ≡ start_of k) (n most units : ℕ) where
  abbrev paths : ℕ
  paths = columns_left k (start_of k)

  same : columns_left k s ≡ paths
  same = ap (columns_left k) at

  module _ (may : Bool) (a b : Known) (left others : ℕ) (h : IsSpent k may n s most a b left 0 others) where
    bounds_are : All (IsBounded k most) h.bounds
    bounds_are = all_imply (IsRaised k n most a b) (IsBounded k most) h.bounds (λ x r. r.is) h.each

    bounds_within : All (IsBoundWithin k most) h.bounds
    bounds_within = h.within most (state_within_start k s most kinds at)

    tries_within : All (IsTryWithin k most) h.tries
    tries_within = h.tried_within most (state_within_start k s most kinds at)

    -- the bounds alone, as those of the first search or of the second one
    none_after : All (λ x. All (Differ x) []) h.bounds
    none_after = all_imply (IsRaised k n most a b) (λ x. All (Differ x) []) h.bounds (λ x r. All-nil (Differ x)) h.each

  never : (why : Halt) (a b : Known) → IfSpent why (IsSpent k false n s most a b units 0 (columns_left k s))
      → IfSpent why (WentForRow k Never most units paths)
  never halted.Spent a b h = record {
    plain = h.bounds;
    later = [];
    tries = [];
    different = pairs_append Differ h.bounds [] h.different (pairs_none Differ)
        (none_after false a b units (columns_left k s) h);
    each = All-append (IsBounded k most) h.bounds [] (bounds_are false a b units (columns_left k s) h)
        (All-nil (IsBounded k most));
    within = All-append (IsBoundWithin k most) h.bounds [] (bounds_within false a b units (columns_left k s) h)
        (All-nil (IsBoundWithin k most));
    tried = All-nil (IsTry k false);
    tried_within = All-nil (IsTryWithin k most);
    before = omega (arith, h.many, none_tried k h.tries h.tried, same);
    few = omega arith;
    rest = omega arith;
  }
  never halted.NoMemory a b h = tt

  at_once : (why : Halt) (a b : Known) → IfSpent why (IsSpent k true n s most a b units 0 (columns_left k s))
      → IfSpent why (WentForRow k AtOnce most units paths)
  at_once halted.Spent a b h = record {
    plain = [];
    later = h.bounds;
    tries = h.tries;
    different = h.different;
    each = bounds_are true a b units (columns_left k s) h;
    within = bounds_within true a b units (columns_left k s) h;
    tried = h.tried;
    tried_within = tries_within true a b units (columns_left k s) h;
    before = omega arith;
    few = omega (arith, h.few, same);
    rest = omega (arith, h.many, same);
  }
  at_once halted.NoMemory a b h = tt

  in_two : (why : Halt) (a b c : Known) → IsSpent k false n s most a b (units / 2) 0 (columns_left k s)
      → IfSpent why (IsSpent k true n s most b c (units - units / 2) 0 (columns_left k s))
      → IfSpent why (WentForRow k InSecondHalf most units paths)
  in_two halted.Spent a b c g h = record {
    plain = g.bounds;
    later = h.bounds;
    tries = h.tries;
    different = pairs_append Differ g.bounds h.bounds g.different h.different
        (cross Differ (IsRaised k n most a b) (IsRaised k n most b c) g.bounds h.bounds g.each h.each
        (apart k n most a b c));
    each = All-append (IsBounded k most) g.bounds h.bounds (bounds_are false a b (units / 2) (columns_left k s) g)
        (bounds_are true b c (units - units / 2) (columns_left k s) h);
    within = All-append (IsBoundWithin k most) g.bounds h.bounds
        (bounds_within false a b (units / 2) (columns_left k s) g)
        (bounds_within true b c (units - units / 2) (columns_left k s) h);
    tried = h.tried;
    tried_within = tries_within true b c (units - units / 2) (columns_left k s) h;
    before = omega (arith, g.many, none_tried k g.tries g.tried, same);
    few = omega (arith, h.few, same);
    rest = omega (arith, h.many, same);
  }
  in_two halted.NoMemory a b c g h = tt

  pub went_never : {R : Type 0} (r : Result R Halt) (attempts : Attempts) (a b : Known) → attempts ≡ Never
      → IfErr r (λ why. IfSpent why (IsSpent k false n s most a b units 0 (columns_left k s)))
      → IfErr r (λ why. IfSpent why (WentForRow k attempts most units (columns_left k (start_of k))))
  went_never (Ok v) attempts a b is h = tt
  went_never (Err why) attempts a b is h =
      subst (λ (z : Attempts). IfSpent why (WentForRow k z most units paths)) (sym is) (never why a b h)

  pub went_at_once : {R : Type 0} (r : Result R Halt) (attempts : Attempts) (a b : Known) → attempts ≡ AtOnce
      → IfErr r (λ why. IfSpent why (IsSpent k true n s most a b units 0 (columns_left k s)))
      → IfErr r (λ why. IfSpent why (WentForRow k attempts most units (columns_left k (start_of k))))
  went_at_once (Ok v) attempts a b is h = tt
  went_at_once (Err why) attempts a b is h =
      subst (λ (z : Attempts). IfSpent why (WentForRow k z most units paths)) (sym is) (at_once why a b h)

  pub went_twice : {R : Type 0} (r : Result R Halt) (attempts : Attempts) (a b c : Known)
      → attempts ≡ InSecondHalf → IsSpent k false n s most a b (units / 2) 0 (columns_left k s)
      → IfErr r (λ why. IfSpent why (IsSpent k true n s most b c (units - units / 2) 0 (columns_left k s)))
      → IfErr r (λ why. IfSpent why (WentForRow k attempts most units (columns_left k (start_of k))))
  went_twice (Ok v) attempts a b c is g h = tt
  went_twice (Err why) attempts a b c is g h =
      subst (λ (z : Attempts). IfSpent why (WentForRow k z most units paths)) (sym is) (in_two why a b c g h)
