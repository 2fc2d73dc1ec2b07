-- How a search ended: with the first least row and its certificate, or with what is proved without a row.
use Rattle.std.specs.Prelude.{ℕ, ◌≡◌, ◌≢◌, ◌≤◌, ◌⊎◌, List, [], IsNone}
use Rattle.cell_num.specs.declared.finger.Fingers.{Fingers}
use Rattle.cell_num.specs.declared.finger.Row.TheVariants.{P, N}
use Rattle.cell_num.specs.declared.net.NetNo.{NetNo}
use Rattle.row_model.specs.declared.column.Column.{Column}
use Rattle.row_model.specs.Gaps.{gaps_of}
use Rattle.row_state.specs.declared.kind.Kinds.{Kinds}
use Rattle.log_check.specs.Accepted.{Lists, WithKinds}
use Rattle.row_search.specs.First.{IsFirstLeast}
use Rattle.trail_check.specs.Accepted.{IsLow}
use Rattle.trail_search.specs.Ended.{IsCrowded, IsTrailFound, IsTrailSpent}
use Rattle.trail_search.specs.Filling.{uneven_gates}
use Rattle.fewer_log.specs.declared.certificate.FewerCertificate.{FewerCertificate}
use Rattle.pool_trails.specs.declared.opening.Opening.{Opening}
use Rattle.pool_trails.specs.declared.opening.Opening.TheVariants.{Crowded, Longer, Without}
use Rattle.pool_trails.specs.Ended.{IsPoolCrowded, IsPoolFound, IsPoolInVain, IsPoolSpent}
use Rattle.pool_trails.specs.Opening.{first_out, other_row}
use Rattle.trail_either.specs.declared.evidence.TrailEvidence.{TrailEvidence}
use Rattle.trail_either.specs.declared.evidence.TrailEvidence.TheVariants.{Filled, Pools}
use Rattle.trail_either.specs.declared.found.EitherFound.{EitherFound}
use Rattle.trail_either.specs.declared.found.EitherStop.{EitherStop}
use Rattle.trail_either.specs.declared.found.EitherStop.TheVariants as stopped
use Rattle.trail_either.specs.Accepted.{HasFewEitherWays, IsEitherAccepted}
use Rattle.trail_either.specs.Either.{EitherFits, best_in}

-- The certificate is accepted with the gaps of the row, and lists it. A checker can list the ways of its gates, and a
-- text can hold it.
pub record IsEitherCertified (k : Kinds) (f : Fingers) (row : List Column) (evidence : TrailEvidence) : Type 0 where
  pub accepted : IsEitherAccepted f evidence (gaps_of row)
  pub few_ways : HasFewEitherWays f evidence
  pub lists : Lists k (best_in evidence) (λ listed. listed ≡ row)
  pub fits : EitherFits k evidence

-- some gate has half columns
abbrev pub HasHalfColumns : Fingers → Type 0
HasHalfColumns f = uneven_gates f ≢ []

-- A search with pools ends without a row though its budget is not spent. It proves some number of gaps, at most `most`,
-- but every arrangement has more. Or no lemmas can be listed.
abbrev pub EndsBelow : Fingers → ℕ → ℕ → Opening → Type 0
EndsBelow f budget most opening =
    IsPoolCrowded opening f budget
    ⊎ ((c : FewerCertificate) × (proved : ℕ) × (proved ≤ most) × IsPoolInVain opening f budget c proved)

-- No gate has half columns; or a search that leaves open those of one row ends so.
abbrev pub EndsLonger : Fingers → ℕ → ℕ → Type 0
EndsLonger f budget most = (uneven_gates f ≡ []) ⊎ EndsBelow f budget most Longer

-- so it is, and a search for a certificate of version 1 ends at some gate, without a row
pub record EndsAtGate (f : Fingers) (budget most : ℕ) : Type 0 where
  pub longer : EndsLonger f budget most
  pub gate : NetNo
  pub filled : IsCrowded f gate

-- When a search with pools comes, by what it leaves open: where those before it end without a row, and those with pools
-- prove at most so many gaps. Of the two that leave fingers out the one comes first that loses fewer columns.
abbrev pub IsNext : Fingers → ℕ → ℕ → Opening → Type 0
IsNext f budget most Longer = HasHalfColumns f
IsNext f budget most Crowded = EndsAtGate f budget most
IsNext f budget most (Without row) =
    EndsAtGate f budget most × EndsBelow f budget most Crowded
    × ((row ≡ first_out f) ⊎ EndsBelow f budget most (Without (other_row row)))

-- A search within the budget found it.
abbrev pub IsFoundWithin : Fingers → ℕ → List Column → TrailEvidence → Type 0
IsFoundWithin f budget row (Filled trails) =
    (most : ℕ) × EndsLonger f budget most × IsTrailFound f budget row trails
IsFoundWithin f budget row (Pools c) =
    (most : ℕ) × (opening : Opening) × IsNext f budget most opening × IsPoolFound opening f budget row c

-- the row is the first least one, and is certified by what a search found
pub record IsEitherFound (f : Fingers) (budget : ℕ) (row : List Column) (evidence : TrailEvidence) : Type 0 where
  pub first : IsFirstLeast f row
  pub certified : WithKinds f (λ k. IsEitherCertified k f row evidence)
  pub within : IsFoundWithin f budget row evidence

-- One of these searches spent the budget so. Those with pools before it prove at most `most` gaps.
abbrev pub IsSpentWithin : Fingers → ℕ → ℕ → TrailEvidence → ℕ → Type 0
IsSpentWithin f budget most (Filled trails) proved =
    EndsLonger f budget most × IsTrailSpent f budget trails proved
IsSpentWithin f budget most (Pools c) proved =
    (opening : Opening) × IsNext f budget most opening × IsPoolSpent opening f budget c proved

-- a search with pools proved so many gaps, though every arrangement has more
abbrev pub IsVain : Fingers → ℕ → TrailEvidence → ℕ → Type 0
IsVain f budget (Filled trails) proved = ⊥
IsVain f budget (Pools c) proved =
    (opening : Opening) × IsNext f budget proved opening × IsPoolInVain opening f budget c proved

-- each search ends without a row and with units left, and those with pools prove at most so many gaps
abbrev pub AllEndBelow : Fingers → ℕ → ℕ → Type 0
AllEndBelow f budget most =
    EndsAtGate f budget most × EndsBelow f budget most Crowded
    × EndsBelow f budget most (Without P) × EndsBelow f budget most (Without N)

-- a search spent the budget, and proves at most so many gaps, as those with pools before it do
abbrev pub IsSpentBelow : Fingers → ℕ → ℕ → Type 0
IsSpentBelow f budget most =
    (evidence : TrailEvidence) × (proved : ℕ) × (proved ≤ most) × IsSpentWithin f budget most evidence proved

-- The certificate lists no row, and its lemmas prove that no arrangement has fewer gaps. No search with pools proved
-- more. A search spent the budget and proved this. Or one with pools did, in vain, and a later one spent the budget and
-- proves no more, or no search spent it.
pub record IsEitherOpen (f : Fingers) (budget : ℕ) (evidence : TrailEvidence) (proved : ℕ) : Type 0 where
  pub lists_none : IsNone (best_in evidence)
  pub low : IsLow f proved
  pub fits : WithKinds f (λ k. EitherFits k evidence)
  pub within : IsSpentWithin f budget proved evidence proved
      ⊎ (IsVain f budget evidence proved × (IsSpentBelow f budget proved ⊎ AllEndBelow f budget proved))

-- A search for a certificate of version 1 ends at the gate. Those with pools before and after it can list no lemmas
-- within the budget. For the last two it is only that no text lists their lemmas.
pub record IsEitherCrowded (f : Fingers) (budget : ℕ) (gate : NetNo) : Type 0 where
  pub longer : (uneven_gates f ≡ []) ⊎ IsPoolCrowded Longer f budget
  pub filled : IsCrowded f gate
  pub crowded : IsPoolCrowded Crowded f budget
  pub without_n : IsPoolCrowded (Without N) f budget
  pub without_p : IsPoolCrowded (Without P) f budget

abbrev pub IsFound : Fingers → ℕ → EitherFound → Type 0
IsFound f budget found = IsEitherFound f budget found.row found.evidence

abbrev pub Stops : Fingers → ℕ → EitherStop → Type 0
Stops f budget (stopped.Unfinished evidence proved) = IsEitherOpen f budget evidence proved
Stops f budget (stopped.Choices gate) = IsEitherCrowded f budget gate
Stops f budget stopped.NoMemory = Unit {0}
