-- The row of the least limit is the first least, and the lemmas before it prove that.
use Rattle.std.proofs.Common.{ℕ, ◌≡◌, ◌+◌, ◌<◌, ◌≤◌, Bool, true, false, cond, ◌||◌, get_or, List, [], ◌∷◌, length, zip, arith, All, ◌∙◌, reverse}
use Rattle.std.proofs.lemmas.List.{length-map, length-reverse}
use Rattle.std.proofs.lemmas.List.Elements.{All-weaker}
use Rattle.std.proofs.lemmas.List.Sums.{count_by-le-length}
use Rattle.cell_num.specs.declared.finger.Row.{Row}
use Rattle.cell_num.specs.declared.finger.Fingers.{Fingers}
use Rattle.row_model.specs.declared.column.Column.{Column}
use Rattle.row_model.specs.Gaps.{gaps_of, is_gap}
use Rattle.row_trails.specs.Trails.{end_differs}
use Rattle.row_state.specs.declared.kind.Kinds.{Kinds}
use Rattle.row_state.specs.declared.state.State.{State}
use Rattle.row_state.specs.declared.step.Step.{Step}
use Rattle.row_state.specs.Completion.{Completes, further_gaps, cost_of}
use Rattle.row_state.specs.Start.{AreKinds, AreSomeKinds, GatesAreNets, IsState, columns_left, start_of}
use Rattle.row_state.specs.Steps.{column_of}
use Rattle.row_state.proofs.Exists.{completion_exists}
use Rattle.row_state.proofs.Unfold.{arrangement_of, completion_of, gaps_from_start}
use Rattle.row_state.proofs.Valid.{gates_are_nets}
use Rattle.bound_log.specs.declared.log.Lemma.{Lemma}
use Rattle.lemma_check.specs.Reaches.{best_of}
use Rattle.log_check.specs.Accepted.{AreJustified}
use Rattle.log_check.proofs.Sound.{Holds, best_true, sound}
use Rattle.row_search.specs.Ended.{IsInRange}
use Rattle.row_search.specs.Enough.{columns_in, enough}
use Rattle.row_search.specs.First.{IsFirstLeast}
use Rattle.row_search.specs.Limits.{ProveGaps}
use Rattle.row_search.specs.Reached.{IsWithin}
use Rattle.row_search.specs.Steps.{row_of}
use Rattle.row_search.specs.Visit.{IsFirstWithin}
use Rattle.row_search.proofs.Few.{few_lemmas}
use Rattle.row_search.proofs.Reach.{columns_reached}

-- every row has as many gaps as the lemmas prove of the start state
pub need_start : (value : Row → State → Kinds → ℕ) (k : Kinds) (log : List Lemma) (limit : ℕ) (row : List Column) → Holds value k → AreJustified value k log → limit ≤ best_of (start_of k) log → Completes k (start_of k) row → limit ≤ gaps_of row
need_start value k log limit row law justified low complete =
    omega (arith, low, best_true k (start_of k) log (sound value k log law justified) row complete, gaps_from_start k row)

pub first_least : (value : Row → State → Kinds → ℕ) (k : Kinds) (f : Fingers) (log : List Lemma) (limit : ℕ) (row : List Column) → Holds value k → AreKinds f k → AreJustified value k log → limit ≤ best_of (start_of k) log → IsFirstWithin k (start_of k) limit row → IsFirstLeast f row
first_least value k f log limit row law kinds justified low h =
    let few : gaps_of row ≤ limit = omega (arith, h.within, gaps_from_start k row) in
    record {
      arranges = arrangement_of f k row kinds h.completes;
      least = λ other arranges. omega (arith, few, need_start value k log limit other law justified low (completion_of f k other kinds arranges));
      first = λ other arranges same. h.first other (completion_of f k other kinds arranges) (omega (arith, few, same, gaps_from_start k other));
    }

-- so the row of the limit has exactly so many
pub gaps_are : (value : Row → State → Kinds → ℕ) (k : Kinds) (log : List Lemma) (limit : ℕ) (row : List Column) → Holds value k → AreJustified value k log → limit ≤ best_of (start_of k) log → IsFirstWithin k (start_of k) limit row → gaps_of row ≡ limit
gaps_are value k log limit row law justified low h =
    omega (arith, h.within, gaps_from_start k row, need_start value k log limit row law justified low h.completes)

zip_end : (c : Column) (cs : List Column) → length (zip (c ∷ cs) cs) ≤ length cs
zip_end c [] = omega arith
zip_end c (d ∷ ds) = omega (arith, zip_end d ds)

cost_le : (s : State) (c : Column) → cost_of s c ≤ 1
cost_le s c = le_one (end_differs s.p_end c.p || end_differs s.n_end c.n)
  where
    le_one : (b : Bool) → cond b 1 0 ≤ 1
    le_one true = omega arith
    le_one false = omega arith

pub further_le : (s : State) (row : List Column) → further_gaps s row ≤ length row
further_le s [] = omega arith
further_le s (c ∷ cs) = omega (arith, cost_le s c, count_by-le-length is_gap (zip (c ∷ cs) cs), zip_end c cs)

-- no bound is above the columns left
pub bound_le : (value : Row → State → Kinds → ℕ) (k : Kinds) (log : List Lemma) (s : State) → Holds value k → GatesAreNets k → AreJustified value k log → best_of s log ≤ columns_left k s
bound_le value k log s law nets justified =
    let c : (row : List Column) × Completes k s row = completion_exists k s nets in
    omega (arith, best_true k s log (sound value k log law justified) c.0 c.1, further_le s c.0, c.1.fewest)

pub within_wider : (k : Kinds) (limit top : ℕ) (log : List Lemma) → limit ≤ top → All (IsWithin k limit) log → All (IsWithin k top) log
within_wider k limit top log le all = All-weaker (IsWithin k limit) (IsWithin k top) (λ x h. record { gaps = h.gaps; reached = h.reached; within = omega (arith, h.within, le) }) log all

pub states_of : (value : Row → State → Kinds → ℕ) (k : Kinds) (log : List Lemma) → AreJustified value k log → All (λ lemma. IsState k lemma.state) log
states_of value k log justified i d within = (justified i d within).state

-- the bounds of the lemmas are from 1 to the number of columns
pub in_range : (value : Row → State → Kinds → ℕ) (k : Kinds) (gaps : ℕ) (log : List Lemma) → Holds value k → AreSomeKinds k → ProveGaps value k gaps log → All (IsInRange (columns_in k)) log
in_range value k gaps log law kinds h i d within =
    let nets : GatesAreNets k = gates_are_nets k kinds in
    let reached : IsWithin k gaps (get_or log i d) = h.within i d within in
    let c : (row : List Column) × Completes k (get_or log i d).state row = completion_exists k (get_or log i d).state nets in
    let need : (get_or log i d).bound ≤ further_gaps (get_or log i d).state c.0 = sound value k log law h.kept.justified i d within c.0 c.1 in
    (h.kept.some i d within, omega (arith, need, further_le (get_or log i d).state c.0, c.1.fewest, columns_reached k (get_or log i d).state reached.gaps nets reached.reached))

pub too_short : (value : Row → State → Kinds → ℕ) (k : Kinds) (gaps budget : ℕ) (log : List Lemma) → Holds value k → AreSomeKinds k → ProveGaps value k gaps log → budget ≤ length log + columns_in k → budget < enough k
too_short value k gaps budget log law kinds h many =
    omega (arith, many, few_lemmas k (columns_in k) log h.kept.distinct (states_of value k log h.kept.justified) (in_range value k gaps log law kinds h))

pub length_row : (k : Kinds) (steps : List Step) → length (row_of k steps) ≡ length steps
length_row k steps = length-map (reverse steps) (column_of k) ∙ length-reverse steps
