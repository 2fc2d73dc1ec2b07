-- How a search ended: with the first least row and its certificate, or with what is proved without a row.
use Rattle.std.specs.Prelude.{ℕ, ◌≡◌, ◌≤◌, ◌+◌, ◌-◌, ◌⊎◌, List, [], Some, None, IsNone, slice_get}
use Rattle.cell_num.specs.declared.net.NetNo.{NetNo}
use Rattle.cell_num.specs.declared.finger.Fingers.{Fingers}
use Rattle.cell_num.specs.Fingers.{columns_of}
use Rattle.row_model.specs.declared.column.Column.{Column}
use Rattle.row_model.specs.Gaps.{gaps_of}
use Rattle.row_state.specs.declared.kind.Kinds.{Kinds}
use Rattle.log_check.specs.Accepted.{Lists, WithKinds}
use Rattle.row_search.specs.First.{IsFirstLeast}
use Rattle.trail_log.specs.declared.trails.TrailCertificate.{TrailCertificate}
use Rattle.trail_log.specs.Fits.{TrailsFit}
use Rattle.trail_state.specs.Levels.{IsOrder}
use Rattle.trail_check.specs.Accepted.{IsAccepted, IsLow, first_unproved, least_gaps}
use Rattle.trail_check.specs.Gates.{AreGates, HasFewWays}
use Rattle.trail_check.specs.Leveled.{open_of}
use Rattle.trail_check.specs.Rows.{AreFewestGaps}
use Rattle.trail_search.specs.Filling.{opened_gates, search_levels}
use Rattle.trail_search.specs.Proof.{HasNew, HasReached, IsClosedWithMany, IsMostOf, gate_units, lemma_units}
use Rattle.trail_search.specs.Searched.{WentForRow, attempts_by}
use Rattle.trail_search.specs.declared.found.TrailFound.{TrailFound}
use Rattle.trail_search.specs.declared.found.TrailStop.{TrailStop}
use Rattle.trail_search.specs.declared.found.TrailStop.TheVariants as stopped

-- The certificate is accepted with the gaps of the row, and lists it. A checker can list the ways of its gates, and a
-- text can hold it.
pub record IsCertified (k : Kinds) (f : Fingers) (row : List Column) (trails : TrailCertificate) : Type 0 where
  pub accepted : IsAccepted f trails (gaps_of row)
  pub few_ways : HasFewWays f trails
  pub lists : Lists k trails.best (λ listed. listed ≡ row)
  pub fits : TrailsFit k trails

-- The row is the first least one, and is certified. No lemma is said by an earlier one, and each is on a state that
-- is reached while a row of at most these gaps is looked for. The budget has the units of a visit for each.
pub record IsTrailFound (f : Fingers) (budget : ℕ) (row : List Column) (trails : TrailCertificate) : Type 0 where
  pub first : IsFirstLeast f row
  pub certified : WithKinds f (λ k. IsCertified k f row trails)
  pub new : HasNew f trails
  pub reached : HasReached f trails (gaps_of row)
  pub kept : lemma_units f trails ≤ budget

-- the units of the budget, without those of a visit for each lemma, one at each gate and one at the end
abbrev pub row_units : Fingers → ℕ → TrailCertificate → ℕ
row_units f budget trails = budget - (lemma_units f trails + gate_units f trails + 1)

-- the units went for lemmas, except those of one visit at each gate at most
abbrev pub WentForLemmas : Fingers → ℕ → TrailCertificate → Type 0
WentForLemmas f budget trails = budget ≤ lemma_units f trails + gate_units f trails

-- What is proved is the fewest gaps of all arrangements, where no gate is left open. The units for rows, except one of
-- each column, went for bounds of states, and where no gate is left open for attempts to refute states by trails.
pub record WentForRows (f : Fingers) (budget : ℕ) (trails : TrailCertificate) (proved : ℕ) : Type 0 where
  pub fewest : (open_of f trails).gates ≡ [] → AreFewestGaps f proved
  pub searched : WithKinds f (λ k. WentForRow k (attempts_by (opened_gates f trails.order)) (proved + 1)
      (row_units f budget trails) (columns_of f))

-- The budget is spent. The certificate lists no row. Its gates are as a checker asks, and all its lemmas are justified:
-- they prove that no arrangement has fewer gaps. No lemma is said by an earlier one, and each is on a state that is
-- reached while a row of at most these gaps is looked for. The budget has the units of a visit for each lemma. Its
-- other units went for rows; or there are none, except those of one visit at each gate.
pub record IsTrailSpent (f : Fingers) (budget : ℕ) (trails : TrailCertificate) (proved : ℕ) : Type 0 where
  pub lists_none : IsNone trails.best
  pub gates : AreGates f trails
  pub few_ways : HasFewWays f trails
  pub justified : first_unproved f trails ≡ None
  pub new : HasNew f trails
  pub reached : HasReached f trails proved
  pub best : proved ≡ least_gaps f trails
  pub low : IsLow f proved
  pub fits : WithKinds f (λ k. TrailsFit k trails)
  pub kept : lemma_units f trails ≤ budget
  pub work : WentForLemmas f budget trails ⊎ WentForRows f budget trails proved

-- For an order of the gates the gate is the first that is left open, since it has too many ways. With such gates left
-- open no lemmas over the order prove more than so many gaps, and every arrangement has more.
pub record IsOpenedInVain (f : Fingers) (gate : NetNo) : Type 0 where
  pub order : List NetNo
  pub is : IsOrder f order
  pub first : slice_get (opened_gates f order) 0 ≡ Some gate
  pub gaps : ℕ
  pub most : IsMostOf (search_levels f order) gaps
  pub more : IsLow f (gaps + 1)

-- The gate has too many ways to be filled. It is not left open; or it is, and what is proved then is too low.
abbrev pub IsCrowded : Fingers → NetNo → Type 0
IsCrowded f gate = IsClosedWithMany f gate ⊎ IsOpenedInVain f gate

abbrev pub IsFound : Fingers → ℕ → TrailFound → Type 0
IsFound f budget found = IsTrailFound f budget found.row found.trails

abbrev pub Stops : Fingers → ℕ → TrailStop → Type 0
Stops f budget (stopped.Unfinished trails proved) = IsTrailSpent f budget trails proved
Stops f budget (stopped.Choices gate) = IsCrowded f gate
Stops f budget stopped.NoMemory = Unit {0}
