-- What a search promises, for every end of it.
use Rattle.std.proofs.Common.{ℕ, ◌≡◌, ◌+◌, List, length, get_or, Result, Ok, Err, IfOk, IfErr, IfSome, refl, sym, ap, subst, arith, All, ◌∙◌}
use Rattle.cell_num.specs.declared.finger.Row.{Row}
use Rattle.cell_num.specs.declared.finger.Fingers.{Fingers}
use Rattle.cell_num.specs.Fingers.{columns_of}
use Rattle.row_model.specs.Arrangement.{IsArrangement}
use Rattle.row_model.specs.Gaps.{gaps_of}
use Rattle.row_state.specs.declared.kind.Kinds.{Kinds}
use Rattle.row_state.specs.declared.state.State.{State}
use Rattle.row_state.specs.declared.step.Step.{Step}
use Rattle.row_state.specs.Start.{AreKinds, AreSomeKinds, start_of}
use Rattle.row_state.specs.Versions.{IsVersion}
use Rattle.row_state.proofs.Unfold.{columns_same}
use Rattle.row_state.proofs.Valid.{gates_are_nets}
use Rattle.bound_log.specs.declared.log.Lemma.{Lemma}
use Rattle.bound_log.specs.declared.log.Log.{Log}
use Rattle.bound_log.specs.Fits.{BestFits, LemmaFits}
use Rattle.lemma_check.specs.Reaches.{best_of}
use Rattle.log_check.specs.Accepted.{RowPasses, WithKinds, columns_listed}
use Rattle.log_check.proofs.Sound.{Holds, justified_least}
use Rattle.row_search.specs.declared.found.FoundKept.{FoundKept}
use Rattle.row_search.specs.declared.found.StopKept.{StopKept}
use Rattle.row_search.specs.declared.found.StopKept.TheVariants.{Unfinished, NoMemory}
use Rattle.bound_log.specs.Kept.{log_with, log_without}
use Rattle.row_search.specs.Ended.{IfOpen, IsInRange, IsSearchLog, IsSolved, IsSpent}
use Rattle.row_search.specs.Enough.{columns_in}
use Rattle.row_search.specs.First.{IsFirstLeast}
use Rattle.row_search.specs.Limits.{IsFound, IsFoundAt, IsOpen, ProveGaps, StopsWell, best_with, found_of}
use Rattle.row_search.specs.Reached.{IsWithin}
use Rattle.row_search.specs.SoFar.{SoFar}
use Rattle.row_search.specs.Steps.{row_of, steps_of}
use Rattle.row_search.proofs.Columns.{all_fit, all_listed, listed_row}
use Rattle.row_search.proofs.Least.{bound_le, first_least, gaps_are, in_range, length_row, states_of, too_short, within_wider}

pub record Promised (value : Row → State → Kinds → ℕ) (version : ℕ) (f : Fingers) (spend : ℕ) (r : Result FoundKept StopKept) : Type 0 where
  pub row : IfOk r (λ found. IsFirstLeast f found.row)
  pub solved : IfOk r (λ found. WithKinds f (λ k. IsSolved value k f spend found.row (log_with version found.kept found.best)))
  pub nodes : IfOk r (λ found. found.nodes ≡ length found.kept + columns_of f + 1)
  pub spent : IfOpen r (λ kept proved. WithKinds f (λ k. IsSpent value k f spend (log_without version kept) proved))

lemmas_fit : (value : Row → State → Kinds → ℕ) (k : Kinds) (gaps : ℕ) (lemmas : List Lemma) → Holds value k → AreSomeKinds k → ProveGaps value k gaps lemmas → All (LemmaFits k) lemmas
lemmas_fit value k gaps lemmas law kinds h i d within =
    let range : IsInRange (columns_in k) (get_or lemmas i d) = in_range value k gaps lemmas law kinds h i d within in
    record { state = states_of value k lemmas h.kept.justified i d within; some = range.0; few = omega (arith, range.1, kinds.few_columns) }

-- the log lists the row, and it has the gaps that the log says
row_passes : (value : Row → State → Kinds → ℕ) (k : Kinds) (f : Fingers) (spend gaps : ℕ) (steps : List Step) (p : SoFar) → Holds value k → AreKinds f k → AreSomeKinds k → IsFoundAt value k spend gaps steps p → RowPasses k f (best_of (start_of k) p.lemmas) (best_with k gaps steps) (gaps_of (row_of k steps))
row_passes value k f spend gaps steps p law of_f kinds h =
    let e : columns_listed k (steps_of k steps) ≡ row_of k steps = listed_row k steps in
    let counted : gaps_of (row_of k steps) ≡ gaps = gaps_are value k p.lemmas gaps (row_of k steps) law h.lemmas.kept.justified h.lemmas.low h.first in
    record {
      arranges = record {
        listed = all_listed k steps (gates_are_nets k kinds) h.sound;
        arranges = subst (λ row. IsArrangement row f) (sym e) (first_least value k f p.lemmas gaps (row_of k steps) law of_f h.lemmas.kept.justified h.lemmas.low h.first).arranges;
      };
      said = counted;
      counted = sym counted ∙ ap gaps_of (sym e);
      least = h.lemmas.low;
    }

best_fits : (value : Row → State → Kinds → ℕ) (k : Kinds) (spend gaps : ℕ) (steps : List Step) (p : SoFar) → Holds value k → AreSomeKinds k → IsFoundAt value k spend gaps steps p → BestFits k (best_with k gaps steps)
best_fits value k spend gaps steps p law kinds h =
    record {
      few = omega (arith, h.lemmas.low, bound_le value k p.lemmas (start_of k) law (gates_are_nets k kinds) h.lemmas.kept.justified, kinds.few_columns);
      steps = all_fit k steps (gates_are_nets k kinds) h.sound;
    }

ranges : (value : Row → State → Kinds → ℕ) (k : Kinds) (f : Fingers) (gaps : ℕ) (lemmas : List Lemma) → Holds value k → AreKinds f k → AreSomeKinds k → ProveGaps value k gaps lemmas → All (IsInRange (columns_of f)) lemmas
ranges value k f gaps lemmas law of_f kinds h = subst (λ n. All (IsInRange n) lemmas) (sym (columns_same f k of_f)) (in_range value k gaps lemmas law kinds h)

best_reached : (value : Row → State → Kinds → ℕ) (k : Kinds) (gaps : ℕ) (lemmas : List Lemma) → ProveGaps value k gaps lemmas → All (IsWithin k (best_of (start_of k) lemmas)) lemmas
best_reached value k gaps lemmas h = within_wider k gaps (best_of (start_of k) lemmas) lemmas h.low h.within

-- what holds of the log, whatever row it lists
searched_of : (value : Row → State → Kinds → ℕ) (k : Kinds) (f : Fingers) (gaps : ℕ) (log : Log) → Holds value k → AreKinds f k → AreSomeKinds k → IsVersion log.version → ProveGaps value k gaps log.lemmas → IfSome log.best (BestFits k) → IsSearchLog value k f log
searched_of value k f gaps log law of_f kinds known h best =
    record {
      justified = h.kept.justified;
      distinct = h.kept.distinct;
      range = ranges value k f gaps log.lemmas law of_f kinds h;
      reached = best_reached value k gaps log.lemmas h;
      lean = h.kept.lean;
      fits = record { version = known; lemmas = lemmas_fit value k gaps log.lemmas law kinds h; best = best };
    }

nodes_of : (k : Kinds) (f : Fingers) (value : Row → State → Kinds → ℕ) (spend gaps : ℕ) (steps : List Step) (p : SoFar) → AreKinds f k → IsFoundAt value k spend gaps steps p → p.nodes ≡ length p.lemmas + columns_of f + 1
nodes_of k f value spend gaps steps p of_f h = omega (arith, h.nodes, h.first.completes.fewest, length_row k steps, columns_same f k of_f)

solved_by : (value : Row → State → Kinds → ℕ) (version : ℕ) (k : Kinds) (f : Fingers) (spend gaps : ℕ) (steps : List Step) (p : SoFar) → Holds value k → AreKinds f k → AreSomeKinds k → IsVersion version → IsFoundAt value k spend gaps steps p → IsSolved value k f spend (row_of k steps) (log_with version p.lemmas (best_with k gaps steps))
solved_by value version k f spend gaps steps p law of_f kinds known h =
    record {
      accepted = record { justified = h.lemmas.kept.justified; passes = row_passes value k f spend gaps steps p law of_f kinds h };
      lists = listed_row k steps;
      kept = omega (arith, h.few, nodes_of k f value spend gaps steps p of_f h);
      searched = searched_of value k f gaps (log_with version p.lemmas (best_with k gaps steps)) law of_f kinds known h.lemmas (best_fits value k spend gaps steps p law kinds h);
    }

promised_found : (value : Row → State → Kinds → ℕ) (version : ℕ) (k : Kinds) (f : Fingers) (spend gaps : ℕ) (steps : List Step) (p : SoFar) → Holds value k → AreKinds f k → AreSomeKinds k → IsVersion version → IsFoundAt value k spend gaps steps p → Promised value version f spend (Ok (found_of k p gaps steps))
promised_found value version k f spend gaps steps p law of_f kinds known h =
    record {
      row = first_least value k f p.lemmas gaps (row_of k steps) law of_f h.lemmas.kept.justified h.lemmas.low h.first;
      solved = (k, of_f, kinds, solved_by value version k f spend gaps steps p law of_f kinds known h);
      nodes = nodes_of k f value spend gaps steps p of_f h;
      spent = tt;
    }

spent_by : (value : Row → State → Kinds → ℕ) (version : ℕ) (k : Kinds) (f : Fingers) (spend : ℕ) (kept : List Lemma) (told : ℕ) → Holds value k → AreKinds f k → AreSomeKinds k → IsVersion version → IsOpen value k spend kept told → IsSpent value k f spend (log_without version kept) told
spent_by value version k f spend kept told law of_f kinds known h =
    record {
      lists_none = refl;
      many = omega (arith, h.many, columns_same f k of_f);
      few = h.few;
      best = h.proved_is;
      low = λ other arranges. omega (arith, h.proved_is, justified_least value k f kept law of_f h.lemmas.kept.justified other arranges);
      short = too_short value k told spend kept law kinds h.lemmas h.many;
      searched = searched_of value k f told (log_without version kept) law of_f kinds known h.lemmas tt;
    }

-- what the limits come to is what is promised
pub promised : (value : Row → State → Kinds → ℕ) (version : ℕ) (k : Kinds) (f : Fingers) (spend : ℕ) (r : Result FoundKept StopKept) → Holds value k → AreKinds f k → AreSomeKinds k → IsVersion version → IfOk r (IsFound value k spend) → IfErr r (StopsWell value k spend) → Promised value version f spend r
promised value version k f spend (Ok found) law of_f kinds known h i = subst (λ (z : FoundKept). Promised value version f spend (Ok z)) (sym h.is) (promised_found value version k f spend h.gaps h.steps h.p law of_f kinds known h.last)
promised value version k f spend (Err (Unfinished kept told)) law of_f kinds known h i = record { row = tt; solved = tt; nodes = tt; spent = (k, of_f, kinds, spent_by value version k f spend kept told law of_f kinds known i) }
promised value version k f spend (Err NoMemory) law of_f kinds known h i = record { row = tt; solved = tt; nodes = tt; spent = tt }
