-- What lemmas prove of every arrangement of some fingers, and how the search for them ends.
use Rattle.std.specs.Prelude.{ℕ, ◌≡◌, ◌≤◌, ◌+◌, ◌*◌, ◌⊎◌, true, List, [], Some, None}
use Rattle.cell_num.specs.declared.net.NetNo.{NetNo}
use Rattle.cell_num.specs.declared.finger.Fingers.{Fingers}
use Rattle.row_model.specs.declared.column.Column.{Column}
use Rattle.row_model.specs.Arrangement.{IsArrangement}
use Rattle.row_model.specs.Gaps.{gaps_of}
use Rattle.row_state.specs.declared.kind.Kinds.{Kinds}
use Rattle.trail_log.specs.declared.trails.TrailCertificate.{TrailCertificate}
use Rattle.trail_log.specs.Fits.{TrailsFit}
use Rattle.trail_state.specs.declared.level.Level.{Level}
use Rattle.trail_state.specs.Levels.{Ends, IsOrder}
use Rattle.open_gates.specs.Leveled.{levels_of}
use Rattle.trail_check.specs.Accepted.{first_unproved, least_gaps}
use Rattle.trail_check.specs.declared.lemma.TrailLemma.{TrailLemma}
use Rattle.trail_check.specs.Gates.{AreGates, HasFewWays, first_with_many, has_many_ways}
use Rattle.trail_check.specs.Justified.{unproved}
use Rattle.trail_check.specs.Leveled.{levels_for}
use Rattle.trail_check.specs.Listed.{lemmas_listed}
use Rattle.trail_search.specs.Filling.{closed_gates, filled_gates, opened_gates}
use Rattle.trail_search.specs.Reached.{AreReached}
use Rattle.trail_search.specs.Search.{AreNew}
use Rattle.trail_search.specs.Units.{listed_units, path_units, units_of}
use Rattle.trail_search.specs.declared.proof.RefuteStop.{RefuteStop}
use Rattle.trail_search.specs.declared.proof.RefuteStop.TheVariants as ended
use Rattle.trail_search.specs.declared.proof.Proof.{Proof}
use Rattle.trail_search.specs.declared.proof.ProveStop.{ProveStop}
use Rattle.trail_search.specs.declared.proof.ProveStop.TheVariants as stopped

-- no lemma of the certificate is said by an earlier one
abbrev pub HasNew : Fingers → TrailCertificate → Type 0
HasNew f trails = AreNew (levels_for f trails) (lemmas_listed (levels_for f trails) trails.lemmas)

-- its lemmas are on states that are reached while a row of at most that many gaps is looked for
abbrev pub HasReached : Fingers → TrailCertificate → ℕ → Type 0
HasReached f trails gaps =
    AreReached (levels_for f trails) gaps (lemmas_listed (levels_for f trails) trails.lemmas)

-- A certificate that is accepted but for a row, which it does not list; and what its lemmas prove of every row. They
-- are new, each of them, and on states that are reached. Gates with half columns that have too many ways are left open,
-- as many as have more fingers in one row. A text can hold it.
pub record IsProof (f : Fingers) (proof : Proof) : Type 0 where
  pub gates : AreGates f proof.trails
  pub few_ways : HasFewWays f proof.trails
  pub justified : first_unproved f proof.trails ≡ None
  pub new : HasNew f proof.trails
  pub reached : HasReached f proof.trails proof.gaps
  pub rowless : proof.trails.best ≡ None
  pub opened : proof.opened ≡ opened_gates f proof.trails.order
  pub fill : proof.trails.fill ≡ filled_gates f proof.trails.order
  pub gaps : proof.gaps ≡ least_gaps f proof.trails
  pub least : (row : List Column) → IsArrangement row f → proof.gaps ≤ gaps_of row
  pub fits : (k : Kinds) → k.nets ≡ f.nets → TrailsFit k proof.trails

-- Some choices along the levels come to no more ends than a row of so many gaps has. So no lemmas over these levels
-- prove more gaps.
abbrev pub IsMostOf : List Level → ℕ → Type 0
IsMostOf levels gaps = Ends levels [] (2 * (gaps + 1) + 1) → ⊥

-- so it is of an order where each gate is filled
abbrev pub IsMost : Fingers → List NetNo → ℕ → Type 0
IsMost f order gaps = IsMostOf (levels_of f order) gaps

-- so it is in some order of the gates
abbrev pub HasMost : Fingers → ℕ → Type 0
HasMost f gaps = (order : List NetNo) × IsOrder f order × IsMost f order gaps

-- the units of one visit for each lemma of the certificate
abbrev pub lemma_units : Fingers → TrailCertificate → ℕ
lemma_units f trails =
    units_of (levels_for f trails) (lemmas_listed (levels_for f trails) trails.lemmas)

-- the units of one visit at each gate
abbrev pub gate_units : Fingers → TrailCertificate → ℕ
gate_units f trails = path_units (levels_for f trails)

-- of the units that were left a search took those of each lemma, and at most so many others
pub record AreSpent (f : Fingers) (left left_after others : ℕ) (trails : TrailCertificate) : Type 0 where
  pub few : left_after + lemma_units f trails ≤ left
  pub many : left ≤ left_after + lemma_units f trails + others

-- No unit is left, and so much is proved: the units went for lemmas, but for one visit at each gate at most.
pub record IsUnfinished (f : Fingers) (left left_after : ℕ) (proof : Proof) : Type 0 where
  pub none : left_after ≡ 0
  pub proved : IsProof f proof
  pub units : AreSpent f left left_after (gate_units f proof.trails) proof.trails

-- lemmas over an order of the gates, to refute that a row has at most that many gaps
pub record Attempt : Type 0 where
  pub limit : ℕ
  pub order : List NetNo
  pub lemmas : List TrailLemma

-- each lemma is justified by those before it, new, and on a state that is reached
pub record IsAttempt (f : Fingers) (a : Attempt) : Type 0 where
  pub order : IsOrder f a.order
  pub justified : unproved (levels_of f a.order) [] 5 a.lemmas ≡ None
  pub new : AreNew (levels_of f a.order) a.lemmas
  pub reached : AreReached (levels_of f a.order) a.limit a.lemmas

-- the units of the list of choices, of each lemma, and of at most one visit at each gate and one at the end
abbrev pub attempt_units : Fingers → Attempt → ℕ
attempt_units f a =
    listed_units (first_with_many f a.order) (levels_of f a.order)
    + units_of (levels_of f a.order) a.lemmas + path_units (levels_of f a.order) + 1

-- the units went for an attempt to refute the limit
pub record HasAttempted (f : Fingers) (limit left left_after : ℕ) : Type 0 where
  pub attempt : Attempt
  pub is : IsAttempt f attempt
  pub tried : attempt.limit ≡ limit
  pub many : left ≤ left_after + attempt_units f attempt

-- so they went, if any did
abbrev pub AttemptsOnce : Fingers → ℕ → ℕ → ℕ → Type 0
AttemptsOnce f limit left left_after = (left_after ≡ left) ⊎ HasAttempted f limit left left_after

-- so it is but where the memory ends
abbrev pub AttemptsStopped : Fingers → ℕ → ℕ → ℕ → RefuteStop → Type 0
AttemptsStopped f limit left left_after ended.NoMemory = Unit {0}
AttemptsStopped f limit left left_after stop = AttemptsOnce f limit left left_after

-- no unit is left; or the gate has too many ways
abbrev pub EndsRefuting : Fingers → ℕ → RefuteStop → Type 0
EndsRefuting f left ended.Spent = left ≡ 0
EndsRefuting f left (ended.Choices gate) = has_many_ways f gate ≡ true
EndsRefuting f left ended.NoMemory = Unit {0}

-- For an order of the gates the gate is the first with too many ways of those that are not left open. So the choices of
-- the order can't be listed.
pub record IsClosedWithMany (f : Fingers) (gate : NetNo) : Type 0 where
  pub order : List NetNo
  pub is : IsOrder f order
  pub first : first_with_many f (closed_gates f order) ≡ Some gate

-- no unit is left, and so much is proved; or a gate that is not left open has too many ways
abbrev pub StopsProving : Fingers → ℕ → ℕ → ProveStop → Type 0
StopsProving f left left_after (stopped.Unfinished proof) = IsUnfinished f left left_after proof
StopsProving f left left_after (stopped.Choices gate) = IsClosedWithMany f gate
StopsProving f left left_after stopped.NoMemory = Unit {0}
