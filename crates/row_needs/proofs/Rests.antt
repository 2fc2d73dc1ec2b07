-- The rows with the fewest gaps, and the needs that follow from them.
use Rattle.std.proofs.Common.{ℕ, ◌≡◌, ◌+◌, ◌<◌, ◌≤◌, ◌⊎◌, cond, Bool, true, false, not, List, [], ◌∷◌, length, Option, Some, None, inl, inr, refl, sym, ap, subst, arith, ◌∙◌, All, Contains, get_or, take}
use Rattle.std.specs.List.{list_any}
use Rattle.std.specs.Option.{option_map}
use Rattle.std.specs.List.{zip}
use Rattle.std.proofs.lemmas.Bool.{cases_Bool, cases_eq, cases_lt, false≢true, true≢false}
use Rattle.std.proofs.lemmas.List.Elements.{All-contains, All-get_or, All-more, All-nil, All-weaker}
use Rattle.std.proofs.lemmas.List.Folds.{Any-from_list_any, list_any-from_Any}
use Rattle.std.proofs.lemmas.List.Sorted.{length_permutation}
use Rattle.std.proofs.lemmas.List.Sums.{count_by-le-length}
use Rattle.cell_num.specs.declared.finger.Fingers.{Fingers}
use Rattle.cell_num.specs.declared.net.NetNo.{NetNo}
use Rattle.cell_num.proofs.Lists.{all_from_contains, all_map}
use Rattle.cell_num.proofs.Pairs.{Some', any_at, some_from_any}
use Rattle.row_model.specs.declared.column.Column.{Column}
use Rattle.row_model.specs.declared.column.Placed.{Placed}
use Rattle.row_model.specs.Gaps.{gaps_of, is_gap, left_net}
use Rattle.row_trails.specs.Trails.{end_differs}
use Rattle.row_state.specs.declared.candidate.Candidate.{Candidate}
use Rattle.row_state.specs.declared.kind.Kinds.{Kinds}
use Rattle.row_state.specs.declared.state.State.{State}
use Rattle.row_state.specs.declared.step.Step.{Step}
use Rattle.row_state.specs.Candidates.{AreCandidates, candidate_steps}
use Rattle.row_state.specs.Completion.{Completes, first_cost, further_gaps, left_in}
use Rattle.row_state.specs.Start.{AreSomeKinds, HasFingers, IsState, columns_left}
use Rattle.row_state.specs.Steps.{IsPossible, column_of, state_after}
use Rattle.row_state.proofs.Calls.{completes_after}
use Rattle.row_state.proofs.Digits.{among_candidates}
use Rattle.row_state.proofs.Exists.{completion_exists, nothing_left}
use Rattle.row_state.proofs.Unfold.{Next, further_step, unfold_to}
use Rattle.row_state.proofs.Valid.{gates_are_nets}
use Rattle.row_needs.specs.declared.left_ends.LeftEnds.{LeftEnds}
use Rattle.row_needs.specs.declared.rest.Rest.{Rest}
use Rattle.row_needs.specs.Best.{IsBest, IsKnown, SeesNext, Takes}
use Rattle.row_needs.specs.Need.{IsNeed}
use Rattle.row_needs.specs.Rest.{IsRest, IsStart, differ, ends_before, is_apart, left_ends, need_at, no_ends}

pub not_both : (b : Bool) → b ≡ true → b ≡ false → ⊥
not_both b e f = absurd cc

-- ---- left ends and the cost behind a state

differ_none : (e : Option NetNo) → differ e None ≡ false
differ_none None = refl
differ_none (Some v) = refl

differ_place : (e : Option NetNo) (x : Option Placed) → end_differs e x ≡ differ e (option_map left_net x)
differ_place None x = refl
differ_place (Some v) None = refl
differ_place (Some v) (Some x) = refl

first_is : (s : State) (row : List Column) → first_cost s row ≡ cond (is_apart s.p_end s.n_end (left_ends row)) 1 0
first_is s [] = rw (differ_none s.p_end, differ_none s.n_end) refl
first_is s (c ∷ cs) = rw (differ_place s.p_end c.p, differ_place s.n_end c.n) refl

apart_cost : (s : State) (row : List Column) (ends : LeftEnds) → left_ends row ≡ ends → first_cost s row ≡ cond (is_apart s.p_end s.n_end ends) 1 0
apart_cost s row ends is = first_is s row ∙ ap (λ e. cond (is_apart s.p_end s.n_end e) 1 0) is

-- ---- the need of a state by the rows of what it has left

abbrev pub meets : State → LeftEnds → Bool
meets s ends = not (is_apart s.p_end s.n_end ends)

cost_one : (b : Bool) → cond b 1 0 ≤ 1
cost_one true = omega arith
cost_one false = omega arith

cost_met : (b : Bool) → not b ≡ true → cond b 1 0 ≤ 0
cost_met true h = absurd (false≢true h)
cost_met false h = omega arith

cost_left : (b : Bool) → not b ≡ false → 1 ≤ cond b 1 0
cost_left true h = omega arith
cost_left false h = absurd (true≢false h)

further_is : (s : State) (row : List Column) → further_gaps s row ≡ cond (is_apart s.p_end s.n_end (left_ends row)) 1 0 + gaps_of row
further_is s row = ap (λ n. n + gaps_of row) (first_is s row)

none_meets : (s : State) (all : List LeftEnds) (ends : LeftEnds) → list_any (meets s) all ≡ false → Contains all ends → meets s ends ≡ false
none_meets s all ends none there =
    elim (cases_Bool (meets s ends)) [
      | inl met ↦ absurd (false≢true (sym none ∙ list_any-from_Any (meets s) all (any_at (λ e. meets s e ≡ true) all ends there met)))
      | inr apart ↦ apart
    ]

zip_end : (c : Column) (cs : List Column) → length (zip (c ∷ cs) cs) ≤ length cs
zip_end c [] = omega arith
zip_end c (d ∷ ds) = omega (arith, zip_end d ds)

gaps_le : (row : List Column) → gaps_of row ≤ length row
gaps_le [] = omega arith
gaps_le (c ∷ cs) = omega (arith, count_by-le-length is_gap (zip (c ∷ cs) cs), zip_end c cs)

pub first_start : (f : Fingers) (rest : Rest) → IsRest f rest → (ends : LeftEnds) × IsStart f rest.gaps ends
first_start f rest is = (get_or rest.starts 0 no_ends, All-get_or (IsStart f rest.gaps) rest.starts 0 no_ends is.some is.each)

-- the rows have fewer gaps than columns
pub rest_few : (k : Kinds) (s : State) (rest : Rest) (most : ℕ) → IsRest (left_in k s) rest → columns_left k s ≤ most → rest.gaps ≤ most
rest_few k s rest most is few =
    let first : (ends : LeftEnds) × IsStart (left_in k s) rest.gaps ends = first_start (left_in k s) rest is in
    omega (arith, few, gaps_le first.1.row, first.1.gaps_are, first.1.arranges.fewest)

need_met : (k : Kinds) (s : State) (rest : Rest) → IsRest (left_in k s) rest → list_any (meets s) rest.starts ≡ true → IsNeed k s rest.gaps
need_met k s rest is met =
    let found : Some' (λ e. meets s e ≡ true) rest.starts = some_from_any (λ e. meets s e ≡ true) rest.starts (Any-from_list_any (meets s) rest.starts met) in
    let start : IsStart (left_in k s) rest.gaps found.it = All-contains (IsStart (left_in k s) rest.gaps) rest.starts found.it is.each found.there in
    let free : cond (is_apart s.p_end s.n_end (left_ends start.row)) 1 0 ≤ 0 = cost_met (is_apart s.p_end s.n_end (left_ends start.row)) (subst (λ e. meets s e ≡ true) (sym start.begins) found.holds) in
    record {
      least = λ row completes. omega (arith, is.least row completes, further_is s row);
      row = start.row;
      completes = start.arranges;
      reached = omega (arith, free, further_is s start.row, start.gaps_are);
    }

-- a row with the fewest gaps costs a gap, and one with more is not better
need_row : (k : Kinds) (s : State) (rest : Rest) → IsRest (left_in k s) rest → list_any (meets s) rest.starts ≡ false → (row : List Column) → Completes k s row → rest.gaps + 1 ≤ further_gaps s row
need_row k s rest is none row completes =
    elim (cases_eq (gaps_of row) rest.gaps) [
      | inl same ↦ omega (arith, same, further_is s row, cost_left (is_apart s.p_end s.n_end (left_ends row)) (none_meets s rest.starts (left_ends row) none (is.all row completes same)))
      | inr more ↦ more_gaps (is.least row completes) more
    ]
  where
    more_gaps : rest.gaps ≤ gaps_of row → (gaps_of row ≡ rest.gaps → ⊥) → rest.gaps + 1 ≤ further_gaps s row
    more_gaps low more = elim (cases_lt rest.gaps (gaps_of row)) [
      | inl less ↦ omega (arith, less, further_is s row)
      | inr past ↦ absurd (more (omega (arith, low, past)))
    ]

need_apart : (k : Kinds) (s : State) (rest : Rest) → IsRest (left_in k s) rest → list_any (meets s) rest.starts ≡ false → IsNeed k s (rest.gaps + 1)
need_apart k s rest is none =
    let first : (ends : LeftEnds) × IsStart (left_in k s) rest.gaps ends = first_start (left_in k s) rest is in
    record {
      least = need_row k s rest is none;
      row = first.1.row;
      completes = first.1.arranges;
      reached = omega (arith, need_row k s rest is none first.1.row first.1.arranges, further_is s first.1.row, cost_one (is_apart s.p_end s.n_end (left_ends first.1.row)), first.1.gaps_are);
    }

pub need_is : (k : Kinds) (s : State) (rest : Rest) → IsRest (left_in k s) rest → IsNeed k s (need_at s rest)
need_is k s rest is =
    elim (cases_Bool (list_any (meets s) rest.starts)) [
      | inl met ↦ subst (IsNeed k s) (sym (at_met met)) (need_met k s rest is met)
      | inr none ↦ subst (IsNeed k s) (sym (at_none none)) (need_apart k s rest is none)
    ]
  where
    at_met : list_any (meets s) rest.starts ≡ true → need_at s rest ≡ rest.gaps
    at_met e = ap (λ b. cond b rest.gaps (rest.gaps + 1)) e

    at_none : list_any (meets s) rest.starts ≡ false → need_at s rest ≡ rest.gaps + 1
    at_none e = ap (λ b. cond b rest.gaps (rest.gaps + 1)) e

-- ---- rows are taken into account

has_one : (xs : List LeftEnds) (x : LeftEnds) → Contains xs x → 0 < length xs
has_one xs x there = omega (arith, there.1)

pub takes_same : (old new : Rest) (gaps : ℕ) (ends : LeftEnds) → gaps ≡ old.gaps → new.gaps ≡ old.gaps → Contains new.starts ends → ((e : LeftEnds) → Contains old.starts e → Contains new.starts e) → ((e : LeftEnds) → Contains new.starts e → (e ≡ ends) ⊎ Contains old.starts e) → Takes old gaps ends new
takes_same old new gaps ends same still here kept only = record {
  low = omega (arith, same, still);
  less = λ some. omega (arith, still);
  here = λ e. here;
  kept = λ some e. kept;
  only = λ e there. elim (only e there) [
    | inl new_one ↦ inl (new_one, still ∙ sym same)
    | inr before ↦ inr (before, still)
  ];
  some = has_one new.starts ends here;
}

known_on : (old new : Rest) (gaps : ℕ) (ends : LeftEnds) (g : ℕ) (e : LeftEnds) → Takes old gaps ends new → IsKnown old g e → IsKnown new g e
known_on old new gaps ends g e t known = record {
  some = t.some;
  low = omega (arith, t.less known.some, known.low);
  here = λ same.
      let still : new.gaps ≡ old.gaps = omega (arith, t.less known.some, known.low, same) in
      t.kept known.some still e (known.here (same ∙ still));
}

known_here : (old new : Rest) (gaps : ℕ) (ends : LeftEnds) (g : ℕ) → Takes old gaps ends new → gaps ≤ g → IsKnown new g ends
known_here old new gaps ends g t low = record {
  some = t.some;
  low = omega (arith, t.low, low);
  here = λ same. t.here (omega (arith, t.low, low, same));
}

gaps_behind : (k : Kinds) (s : State) (step : Step) (cs : List Column) → gaps_of (column_of k step ∷ cs) ≡ further_gaps (state_after k s step) cs
gaps_behind k s step cs = omega (arith, further_step k s step cs)

-- the rows that begin with the column, with the need of the state after it
start_behind : (k : Kinds) (s : State) (step : Step) (gaps : ℕ) → AreSomeKinds k → IsPossible k s step → IsNeed k (state_after k s step) gaps → IsStart (left_in k s) gaps (ends_before (column_of k step))
start_behind k s step gaps some possible need = record {
  row = column_of k step ∷ need.row;
  arranges = completes_after k s step some possible need.row need.completes;
  gaps_are = gaps_behind k s step need.row ∙ need.reached;
  begins = refl;
}

each_on : (f : Fingers) (old new : Rest) (gaps : ℕ) (ends : LeftEnds) → Takes old gaps ends new → IsStart f gaps ends → All (IsStart f old.gaps) old.starts → All (IsStart f new.gaps) new.starts
each_on f old new gaps ends t start each = all_from_contains (IsStart f new.gaps) new.starts (λ e there. elim (t.only e there) [
  | inl here ↦ subst (λ n. IsStart f n e) (sym here.1) (subst (IsStart f gaps) (sym here.0) start)
  | inr before ↦ subst (λ n. IsStart f n e) (sym before.1) (All-contains (IsStart f old.gaps) old.starts e each before.0)
])

pub best_none : (k : Kinds) (s : State) (items : List Candidate) (rest : Rest) → rest.starts ≡ [] → IsBest k s (take 0 items) rest
best_none k s items rest none = record {
  sees = All-nil (SeesNext k s rest);
  each = subst (All (IsStart (left_in k s) rest.gaps)) (sym none) (All-nil (IsStart (left_in k s) rest.gaps));
}

-- a column that may not come next begins no completion
pub best_past : (k : Kinds) (s : State) (items : List Candidate) (i : ℕ) (d : Candidate) (rest : Rest) → i < length items → (IsPossible k s (get_or items i d).step → ⊥) → IsBest k s (take i items) rest → IsBest k s (take (i + 1) items) rest
best_past k s items i d rest within none best = record {
  sees = All-more (SeesNext k s rest) items i d within best.sees (λ cs possible completes. absurd (none possible));
  each = best.each;
}

pub best_more : (k : Kinds) (s : State) (items : List Candidate) (i : ℕ) (d : Candidate) (old new : Rest) (gaps : ℕ) (ends : LeftEnds) → AreSomeKinds k → i < length items → IsPossible k s (get_or items i d).step → IsNeed k (state_after k s (get_or items i d).step) gaps → ends ≡ ends_before (column_of k (get_or items i d).step) → Takes old gaps ends new → IsBest k s (take i items) old → IsBest k s (take (i + 1) items) new
best_more k s items i d old new gaps ends some within possible need is takes best =
    let t : Takes old gaps (ends_before (column_of k (get_or items i d).step)) new = subst (λ e. Takes old gaps e new) is takes in
    let last : SeesNext k s new (get_or items i d) = λ cs could completes.
    known_here old new gaps (ends_before (column_of k (get_or items i d).step)) (gaps_of (column_of k (get_or items i d).step ∷ cs)) t
    (omega (arith, need.least cs completes, gaps_behind k s (get_or items i d).step cs)) in
    record {
      sees = All-more (SeesNext k s new) items i d within
          (All-weaker (SeesNext k s old) (SeesNext k s new) (λ c sees cs could completes.
          known_on old new gaps ends (gaps_of (column_of k c.step ∷ cs)) (ends_before (column_of k c.step)) takes (sees cs could completes)) (take i items) best.sees)
          last;
      each = each_on (left_in k s) old new gaps (ends_before (column_of k (get_or items i d).step)) t (start_behind k s (get_or items i d).step gaps some possible need) best.each;
    }

-- ---- all next columns were looked at

seen : (k : Kinds) (s : State) (all : List Candidate) (rest : Rest) (c : Column) (cs : List Column) → AreCandidates k all → IsState k s → IsBest k s all rest → Completes k s (c ∷ cs) → IsKnown rest (gaps_of (c ∷ cs)) (ends_before c)
seen k s all rest c cs are valid best completes =
    let next : Next k s c cs = unfold_to k s c cs completes in
    let known : IsKnown rest (gaps_of (column_of k next.step ∷ cs)) (ends_before (column_of k next.step)) =
    All-contains (Sees k s rest) (candidate_steps all) next.step
    (all_map (SeesNext k s rest) (Sees k s rest) (λ (z : Candidate). z.step) all (λ z h. h) best.sees)
    (among_candidates k all s next.step are valid next.possible) cs next.possible next.rest in
    subst (λ z. IsKnown rest (gaps_of (z ∷ cs)) (ends_before z)) next.is known
  where
    Sees : Kinds → State → Rest → Step → Type 0
    Sees k s rest step = (cs : List Column) → IsPossible k s step → Completes k (state_after k s step) cs → IsKnown rest (gaps_of (column_of k step ∷ cs)) (ends_before (column_of k step))

no_empty_row : (k : Kinds) (s : State) → HasFingers k s → Completes k s [] → ⊥
no_empty_row k s some completes =
    absurd (omega (arith, some, length_permutation (left_in k s).p [] completes.p, length_permutation (left_in k s).n [] completes.n))

pub best_is : (k : Kinds) (s : State) (all : List Candidate) (rest : Rest) → AreSomeKinds k → AreCandidates k all → IsState k s → HasFingers k s → IsBest k s all rest → IsRest (left_in k s) rest
best_is k s all rest kinds are valid fingers best = record {
  least = least;
  all = every;
  each = best.each;
  some = some_row (completion_exists k s (gates_are_nets k kinds)).0 (completion_exists k s (gates_are_nets k kinds)).1;
}
  where
    least : (row : List Column) → Completes k s row → rest.gaps ≤ gaps_of row
    least [] h = absurd (no_empty_row k s fingers h)
    least (c ∷ cs) h = (seen k s all rest c cs are valid best h).low

    every : (row : List Column) → Completes k s row → gaps_of row ≡ rest.gaps → Contains rest.starts (left_ends row)
    every [] h e = absurd (no_empty_row k s fingers h)
    every (c ∷ cs) h e = (seen k s all rest c cs are valid best h).here e

    some_row : (row : List Column) → Completes k s row → 0 < length rest.starts
    some_row [] h = absurd (no_empty_row k s fingers h)
    some_row (c ∷ cs) h = (seen k s all rest c cs are valid best h).some

-- where no finger is left, the only row has no column
pub nothing_is : (k : Kinds) (s : State) (all : List Candidate) (old new : Rest) (ends : LeftEnds) → (HasFingers k s → ⊥) → IsBest k s all old → ends ≡ no_ends → Takes old 0 ends new → IsRest (left_in k s) new
nothing_is k s all old new ends none best is takes = record {
  least = λ row h. omega (arith, takes.low);
  all = every;
  each = each_on (left_in k s) old new 0 ends takes (record { row = []; arranges = empty; gaps_are = refl; begins = sym is }) best.each;
  some = takes.some;
}
  where
    empty : Completes k s []
    empty = nothing_left k s (elim (cases_lt 0 (length (left_in k s).p + length (left_in k s).n)) [ inl some ↦ absurd (none some) | inr past ↦ past ])

    every : (row : List Column) → Completes k s row → gaps_of row ≡ new.gaps → Contains new.starts (left_ends row)
    every [] h e = subst (Contains new.starts) is (takes.here (sym e))
    every (c ∷ cs) h e = absurd (omega (arith, h.fewest, empty.fewest))
