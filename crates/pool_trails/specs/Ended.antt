-- How a search ended: with the first least row and its certificate, or with what is proved without a row.
use Rattle.std.specs.Prelude.{ℕ, ◌≡◌, ◌+◌, ◌⊎◌, Bool, if◌then◌else◌, List, Some, IsNone}
use Rattle.cell_num.specs.declared.finger.Fingers.{Fingers}
use Rattle.cell_num.specs.declared.net.NetNo.{NetNo}
use Rattle.cell_num.specs.Fingers.{columns_of}
use Rattle.row_model.specs.declared.column.Column.{Column}
use Rattle.row_model.specs.Gaps.{gaps_of}
use Rattle.row_state.specs.declared.kind.Kinds.{Kinds}
use Rattle.log_check.specs.Accepted.{Lists, WithKinds}
use Rattle.row_search.specs.First.{IsFirstLeast}
use Rattle.trail_state.specs.Levels.{IsOrder}
use Rattle.trail_check.specs.Accepted.{IsLow}
use Rattle.trail_search.specs.declared.attempts.Attempts.{Attempts}
use Rattle.trail_search.specs.declared.attempts.Attempts.TheVariants.{InSecondHalf, Never}
use Rattle.trail_search.specs.Searched.{WentForRow}
use Rattle.trail_pools.specs.declared.state.PoolState.{PoolState}
use Rattle.trail_pools.specs.Leveled.{levels_of}
use Rattle.trail_pools.specs.State.{start}
use Rattle.end_search.specs.declared.proof.EndProof.{EndProof}
use Rattle.end_search.specs.Proof.{next_need}
use Rattle.end_search.specs.Reached.{HasFewer}
use Rattle.order_log.specs.declared.certificate.OrderCertificate.{OrderCertificate}
use Rattle.pool_log.specs.declared.lemma.PoolLine.{PoolLine}
use Rattle.fewer_fingers.specs.Fewer.{staying}
use Rattle.fewer_log.specs.declared.certificate.FewerCertificate.{FewerCertificate}
use Rattle.fewer_log.specs.Fits.{FewerFits}
use Rattle.pool_check.specs.Accepted.{first_with_many}
use Rattle.pool_check.specs.Stepping.{steps_of}
use Rattle.pool_certificate.specs.Accepted.{AreProved, AreTexts, HasFewWaysOf, IsAccepted, IsFill, lemmas_of}
use Rattle.pool_trails.specs.declared.found.PoolStop.{PoolStop}
use Rattle.pool_trails.specs.declared.found.PoolStop.TheVariants as stopped
use Rattle.pool_trails.specs.declared.opening.Opening.{Opening}
use Rattle.pool_trails.specs.declared.opening.Opening.TheVariants.{Without}
use Rattle.pool_trails.specs.Found.{AreUnlisted, IsFoundAlong}
use Rattle.pool_trails.specs.Opening.{fill_by, gaps_by, is_uncrowded, opened_of, out_of, staying_by}

-- The certificate is accepted with the gaps of the row, and lists it. A checker can list the ways of its gates, and a
-- text can hold it.
pub record IsPoolCertified (k : Kinds) (f : Fingers) (row : List Column) (c : FewerCertificate) : Type 0 where
  pub accepted : IsAccepted f c (gaps_of row)
  pub few_ways : HasFewWaysOf (staying c.out f) c.pools
  pub lists : Lists k c.pools.best (λ listed. listed ≡ row)
  pub fits : FewerFits k c

-- A search within the budget found the lemmas of the certificate, with these gates left open.
pub record IsSearched (opening : Opening) (f : Fingers) (budget : ℕ) (pools : OrderCertificate PoolLine)
    (proof : EndProof PoolState) : Type 0 where
  pub fill : pools.fill ≡ fill_by opening f pools.order
  pub listed : lemmas_of f pools ≡ proof.lemmas
  pub found : IsFoundAlong opening f pools.order budget proof

-- The row is the first least one, and is certified. It has as many gaps as the lemmas that were found prove of all
-- fingers.
pub record IsPoolFound (opening : Opening) (f : Fingers) (budget : ℕ) (row : List Column) (c : FewerCertificate)
    : Type 0 where
  pub first : IsFirstLeast f row
  pub certified : WithKinds f (λ k. IsPoolCertified k f row c)
  pub out : c.out ≡ out_of opening f
  pub proof : EndProof PoolState
  pub searched : IsSearched opening (staying_by opening f) budget c.pools proof
  pub gaps : gaps_of row ≡ gaps_by opening f proof.ends

-- Attempts to refute states by trails are made only where no gate has too many ways, with half of the units.
abbrev pub attempts_where : Bool → Attempts
attempts_where uncrowded = if uncrowded then InSecondHalf else Never

-- The certificate lists no row. Its lemmas are accepted. They prove that no arrangement has fewer gaps: one less for
-- each column lost. A search within the budget found them.
pub record IsPoolProved (opening : Opening) (f : Fingers) (budget : ℕ) (c : FewerCertificate)
    (proof : EndProof PoolState) (proved : ℕ) : Type 0 where
  pub out : c.out ≡ out_of opening f
  pub lists_none : IsNone c.pools.best
  pub fill : IsFill (staying_by opening f) c.pools
  pub texts : AreTexts (staying_by opening f) c.pools
  pub accepted : AreProved (staying_by opening f) c.pools proof.ends
  pub few_ways : HasFewWaysOf (staying_by opening f) c.pools
  pub best : proved ≡ gaps_by opening f proof.ends
  pub low : IsLow f proved
  pub fits : WithKinds f (λ k. FewerFits k c)
  pub searched : IsSearched opening (staying_by opening f) budget c.pools proof

-- The budget is spent. The search for lemmas left no units. Or those that it left went for a row with so many gaps.
pub record IsPoolSpent (opening : Opening) (f : Fingers) (budget : ℕ) (c : FewerCertificate) (proved : ℕ)
    : Type 0 where
  pub proof : EndProof PoolState
  pub lemmas : IsPoolProved opening f budget c proof proved
  pub work : (proof.left ≡ 0) ⊎ WithKinds f (λ k.
      WentForRow k (attempts_where (is_uncrowded (staying_by opening f) c.pools.order)) (proved + 1) proof.left
      (columns_of f))

-- Every arrangement has more gaps, and no lemmas over the order of the certificate prove more.
pub record IsPoolInVain (opening : Opening) (f : Fingers) (budget : ℕ) (c : FewerCertificate) (proved : ℕ)
    : Type 0 where
  pub proof : EndProof PoolState
  pub lemmas : IsPoolProved opening f budget c proof proved
  pub order : IsOrder (staying_by opening f) c.pools.order
  pub most : HasFewer (steps_of (staying_by opening f) (opened_of opening (staying_by opening f) c.pools.order))
      (levels_of (staying_by opening f) (opened_of opening (staying_by opening f) c.pools.order) c.pools.order) start
      (next_need proof.ends)
  pub more : IsLow f (proved + 1)

-- for an order of the gates one of them has too many ways, though half columns stay open
pub record HasManyOpen (opening : Opening) (f : Fingers) : Type 0 where
  pub order : List NetNo
  pub is : IsOrder f order
  pub gate : NetNo
  pub first : first_with_many f (opened_of opening f order) order ≡ Some gate

-- for an order of the gates a search within the budget found lemmas that no text lists
pub record IsUnlisted (opening : Opening) (f : Fingers) (budget : ℕ) (k : Kinds) : Type 0 where
  pub order : List NetNo
  pub is : IsOrder f order
  pub proof : EndProof PoolState
  pub found : IsFoundAlong opening f order budget proof
  pub none : AreUnlisted opening f k order proof.lemmas

-- No lemmas can be listed. Where fingers are left out, this is never for a gate with too many ways.
abbrev pub IsPoolCrowded : Opening → Fingers → ℕ → Type 0
IsPoolCrowded (Without row) f budget = WithKinds f (IsUnlisted (Without row) (staying_by (Without row) f) budget)
IsPoolCrowded opening f budget = HasManyOpen opening f ⊎ WithKinds f (IsUnlisted opening f budget)

abbrev pub IsPoolStopped : Opening → Fingers → ℕ → PoolStop → Type 0
IsPoolStopped opening f budget (stopped.Unfinished certificate proved) =
    IsPoolSpent opening f budget certificate proved
IsPoolStopped opening f budget (stopped.InVain certificate proved) = IsPoolInVain opening f budget certificate proved
IsPoolStopped opening f budget stopped.Crowded = IsPoolCrowded opening f budget
IsPoolStopped opening f budget stopped.NoMemory = Unit {0}
