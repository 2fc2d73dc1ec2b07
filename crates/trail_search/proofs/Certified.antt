-- The first row of the proved number is the first least one, and its certificate is accepted.
use Rattle.std.proofs.Common.{ℕ, ◌≡◌, ◌+◌, ◌-◌, ◌*◌, ◌<◌, ◌≤◌, ◌⊎◌, List, [], ◌∷◌, Some, IsNone, length, refl, sym, ap, subst, arith, inl, inr, ◌∙◌}
use Rattle.std.specs.Prelude.{slice_get}
use Rattle.std.specs.List.{zip}
use Rattle.std.proofs.lemmas.Bool.{cases_lt}
use Rattle.std.proofs.lemmas.List.Sums.{count_by-le-length}
use Rattle.std.proofs.lemmas.Slice.Zip.{length-zip}
use Rattle.cell_num.specs.declared.net.NetNo.{NetNo}
use Rattle.cell_num.specs.declared.finger.Fingers.{Fingers}
use Rattle.cell_num.specs.Fingers.{AreFingers}
use Rattle.row_model.specs.declared.column.Column.{Column}
use Rattle.row_model.specs.Arrangement.{IsArrangement}
use Rattle.row_model.specs.Gaps.{gaps_of, is_gap}
use Rattle.row_state.specs.declared.kind.Kinds.{Kinds}
use Rattle.row_state.specs.declared.step.Step.{Step}
use Rattle.row_state.specs.Completion.{Completes, Need}
use Rattle.row_state.specs.Start.{AreKinds, AreSomeKinds, start_of}
use Rattle.row_state.proofs.Exists.{completion_exists}
use Rattle.row_state.proofs.Unfold.{arrangement_of, completion_of, gaps_from_start}
use Rattle.row_state.proofs.Valid.{gates_are_nets}
use Rattle.log_check.specs.Accepted.{RowPasses, columns_listed}
use Rattle.row_search.specs.First.{IsFirstLeast}
use Rattle.row_search.specs.Limits.{best_with}
use Rattle.row_search.specs.Steps.{row_of, steps_of}
use Rattle.row_search.proofs.Columns.{all_fit, all_listed, listed_row}
use Rattle.row_search.proofs.Least.{further_le}
use Rattle.trail_log.specs.Fits.{TrailsFit}
use Rattle.trail_log.specs.Listing.{trails_listing}
use Rattle.trail_check.specs.Accepted.{IsLow, least_gaps}
use Rattle.open_gates.specs.Leveled.{levels_in, levels_of}
use Rattle.open_gates.specs.Open.{open_in}
use Rattle.open_gates.proofs.Leveled.{levels_are}
use Rattle.trail_check.specs.Leveled.{levels_for, open_of}
use Rattle.trail_check.specs.Rows.{AreFewestGaps, HasChoices, HasRow}
use Rattle.trail_check.proofs.Certain.{fewer_ends}
use Rattle.trail_check.proofs.Law.{possible_gaps}
use Rattle.trail_search.specs.declared.proof.Proof.{Proof}
use Rattle.trail_search.specs.Proof.{HasReached, IsMostOf, IsProof, lemma_units}
use Rattle.trail_search.proofs.Proving.{closed_levels, ends_more}
use Rattle.trail_search.specs.declared.first.ListedRow.{ListedRow}
use Rattle.trail_search.specs.Ended.{IsCertified, IsOpenedInVain, IsTrailFound, IsTrailSpent, WentForLemmas, WentForRows}
use Rattle.trail_search.specs.First.{IsFirstRow}
use Rattle.trail_search.specs.Visit.{IsFirstOf}

-- some arrangement has no more gaps than columns
pub few_gaps : (k : Kinds) (f : Fingers) (gaps : ℕ) → AreKinds f k → AreSomeKinds k → IsLow f gaps → gaps ≤ 32
few_gaps k f gaps of_f kinds low =
    let c : (row : List Column) × Completes k (start_of k) row = completion_exists k (start_of k) (gates_are_nets k kinds) in
    omega (arith, low c.0 (arrangement_of f k c.0 of_f c.1), gaps_from_start k c.0, further_le (start_of k) c.0, c.1.fewest, kinds.few_columns)

-- a row has fewer gaps than columns
pub less_by_one : (row : List Column) → gaps_of row ≤ length row - 1
less_by_one [] = omega arith
less_by_one (c ∷ cs) = omega (arith, count_by-le-length is_gap (zip (c ∷ cs) cs), length-zip (c ∷ cs) cs)

-- no lemmas prove more than 31 gaps, since some arrangement has no more
pub most_proved : (k : Kinds) (f : Fingers) (proof : Proof) → AreFingers f → AreKinds f k → AreSomeKinds k → IsProof f proof → (proof.gaps < 31 → IsMostOf (levels_for f proof.trails) proof.gaps) → IsMostOf (levels_for f proof.trails) proof.gaps
most_proved k f proof ok of_f kinds p few = elim (cases_lt proof.gaps 31) [
  | inl below ↦ few below
  | inr above ↦ λ ends.
      let c : (row : List Column) × Completes k (start_of k) row = completion_exists k (start_of k) (gates_are_nets k kinds) in
      let more : proof.gaps < gaps_of c.0 = ends_more f proof.trails proof.gaps ok p.gates ends c.0 (arrangement_of f k c.0 of_f c.1) in
      omega (arith, above, more, less_by_one c.0, c.1.fewest, kinds.few_columns)
]

-- Where no gate is left open, some arrangement has no more gaps than that, and none has fewer.
pub fewest_proved : (k : Kinds) (f : Fingers) (proof : Proof) → AreFingers f → AreKinds f k → AreSomeKinds k → IsProof f proof → (proof.gaps < 31 → IsMostOf (levels_for f proof.trails) proof.gaps) → (open_of f proof.trails).gates ≡ [] → AreFewestGaps f proof.gaps
fewest_proved k f proof ok of_f kinds p few none =
    let order : List NetNo = proof.trails.order in
    let choices : HasChoices f order (2 * (proof.gaps + 1)) = fewer_ends f ok order p.gates.order (levels_of f order) (levels_are f order) (2 * (proof.gaps + 1)) (subst (λ ls. IsMostOf ls proof.gaps) (closed_levels f proof.trails none) (most_proved k f proof ok of_f kinds p few)) in
    let row : HasRow f proof.gaps = (possible_gaps f ok order p.gates.order proof.gaps).1 choices in
    record { row = row.row; arranges = row.arranges; has = omega (arith, row.few, p.least row.row row.arranges); fewest = p.least }

pub first_least : (k : Kinds) (f : Fingers) (gaps : ℕ) (steps : List Step) → AreKinds f k → IsLow f gaps → IsFirstOf k (start_of k) gaps steps → IsFirstLeast f (row_of k steps)
first_least k f gaps steps of_f low h =
    let few : gaps_of (row_of k steps) ≤ gaps = omega (arith, h.row.within, gaps_from_start k (row_of k steps)) in
    record {
      arranges = arrangement_of f k (row_of k steps) of_f h.row.completes;
      least = λ other arranges. omega (arith, few, low other arranges);
      first = λ other arranges same. h.row.first other (completion_of f k other of_f arranges) (omega (arith, few, same, gaps_from_start k other));
    }

pub gaps_are : (k : Kinds) (f : Fingers) (gaps : ℕ) (steps : List Step) → AreKinds f k → IsLow f gaps → IsFirstOf k (start_of k) gaps steps → gaps_of (row_of k steps) ≡ gaps
gaps_are k f gaps steps of_f low h =
    omega (arith, h.row.within, gaps_from_start k (row_of k steps), low (row_of k steps) (arrangement_of f k (row_of k steps) of_f h.row.completes))

pub row_passes : (k : Kinds) (f : Fingers) (gaps proved : ℕ) (steps : List Step) → AreKinds f k → AreSomeKinds k → IsLow f gaps → gaps ≤ proved → IsFirstOf k (start_of k) gaps steps → RowPasses k f proved (best_with k gaps steps) (gaps_of (row_of k steps))
row_passes k f gaps proved steps of_f kinds low few h =
    let e : columns_listed k (steps_of k steps) ≡ row_of k steps = listed_row k steps in
    let counted : gaps_of (row_of k steps) ≡ gaps = gaps_are k f gaps steps of_f low h in
    record {
      arranges = record {
        listed = all_listed k steps (gates_are_nets k kinds) h.sound;
        arranges = subst (λ row. IsArrangement row f) (sym e) (first_least k f gaps steps of_f low h).arranges;
      };
      said = counted;
      counted = sym counted ∙ ap gaps_of (sym e);
      least = few;
    }

certified : (k : Kinds) (f : Fingers) (proof : Proof) (steps : List Step) → AreKinds f k → AreSomeKinds k → IsProof f proof → IsFirstOf k (start_of k) proof.gaps steps → IsCertified k f (row_of k steps) (trails_listing proof.trails (best_with k proof.gaps steps))
certified k f proof steps of_f kinds p h =
    let fits : TrailsFit k proof.trails = p.fits k of_f.nets in
    record {
      accepted = record {
        gates = record { order = p.gates.order; opened = p.gates.opened };
        justified = p.justified;
        passes = (k, of_f, kinds, row_passes k f proof.gaps (least_gaps f proof.trails) steps of_f kinds p.least (omega (arith, p.gaps)) h);
      };
      few_ways = p.few_ways;
      lists = listed_row k steps;
      fits = record {
        fill = fits.fill;
        increase = fits.increase;
        order = fits.order;
        lemmas = fits.lemmas;
        best = record { few = omega (arith, few_gaps k f proof.gaps of_f kinds p.least); steps = all_fit k steps (gates_are_nets k kinds) h.sound };
      };
    }

pub found_is : (k : Kinds) (f : Fingers) (budget : ℕ) (proof : Proof) (listed : ListedRow) → AreKinds f k → AreSomeKinds k → IsProof f proof → IsFirstRow k proof.gaps listed → lemma_units f proof.trails ≤ budget → IsTrailFound f budget listed.row (trails_listing proof.trails listed.best)
found_is k f budget proof listed of_f kinds p h kept =
    subst (λ (z : ListedRow). IsTrailFound f budget z.row (trails_listing proof.trails z.best)) (sym h.is)
    (record {
      first = first_least k f proof.gaps h.steps of_f p.least h.first;
      certified = (k, of_f, kinds, certified k f proof h.steps of_f kinds p h.first);
      new = p.new;
      reached = subst (HasReached f proof.trails) (sym (gaps_are k f proof.gaps h.steps of_f p.least h.first)) p.reached;
      kept = kept;
    })

pub spent_is : (k : Kinds) (f : Fingers) (budget : ℕ) (proof : Proof) → AreKinds f k → AreSomeKinds k → IsProof f proof → lemma_units f proof.trails ≤ budget → WentForLemmas f budget proof.trails ⊎ WentForRows f budget proof.trails proof.gaps → IsTrailSpent f budget proof.trails proof.gaps
spent_is k f budget proof of_f kinds p kept work =
    record {
      lists_none = subst IsNone (sym p.rowless) refl;
      gates = p.gates;
      few_ways = p.few_ways;
      justified = p.justified;
      new = p.new;
      reached = p.reached;
      best = p.gaps;
      low = p.least;
      fits = (k, of_f, kinds, p.fits k of_f.nets);
      kept = kept;
      work = work;
    }

-- where no row of so few gaps is found, every arrangement has more
have_more : (k : Kinds) (f : Fingers) (gaps : ℕ) → AreKinds f k → Need k (start_of k) (gaps + 1) → IsLow f (gaps + 1)
have_more k f gaps of_f need row arranges =
    omega (arith, need row (completion_of f k row of_f arranges), gaps_from_start k row)

-- a row of the fewest gaps is found
pub row_found : (k : Kinds) (f : Fingers) (gaps : ℕ) → AreKinds f k → AreFewestGaps f gaps → Need k (start_of k) (gaps + 1) → ⊥
row_found k f gaps of_f h need = omega (arith, have_more k f gaps of_f need h.row h.arranges, h.has)

-- where a gate is left open and no row of so few gaps is found
pub opened_in_vain : (k : Kinds) (f : Fingers) (proof : Proof) (gate : NetNo) → AreFingers f → AreKinds f k → AreSomeKinds k → IsProof f proof → (proof.gaps < 31 → IsMostOf (levels_for f proof.trails) proof.gaps) → slice_get proof.opened 0 ≡ Some gate → Need k (start_of k) (proof.gaps + 1) → IsOpenedInVain f gate
opened_in_vain k f proof gate ok of_f kinds p few first need =
    let order : List NetNo = proof.trails.order in
    record {
      order = order;
      is = p.gates.order;
      first = ap (λ (gs : List NetNo). slice_get gs 0) (sym p.opened) ∙ first;
      gaps = proof.gaps;
      most = subst (λ (gs : List NetNo). IsMostOf (levels_in f (open_in f gs order) order) proof.gaps) p.fill (most_proved k f proof ok of_f kinds p few);
      more = have_more k f proof.gaps of_f need;
    }
