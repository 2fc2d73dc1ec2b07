-- What inner contracts cite.
use Rattle.std.specs.Prelude.{ℕ, ◌≡◌, ◌≤◌, ◌==◌, ◌⊎◌, Bool, List, All, None, codes, length, map}
use Rattle.cell_num.specs.declared.finger.Fingers.{Fingers}
use Rattle.cell_num.specs.declared.net.NetNo.{NetNo}
use Rattle.row_state.specs.declared.kind.Kinds.{Kinds}
use Rattle.trail_state.specs.Levels.{IsOrder}
use Rattle.trail_pools.specs.declared.state.PoolState.{PoolState}
use Rattle.end_lemmas.specs.declared.lemma.EndLemma.{EndLemma}
use Rattle.end_search.specs.declared.proof.EndProof.{EndProof}
use Rattle.order_log.specs.declared.certificate.OrderCertificate.{OrderCertificate}
use Rattle.pool_log.specs.declared.lemma.PoolLine.{PoolLine}
use Rattle.pool_log.specs.Fits.{PoolsFit}
use Rattle.pool_log.specs.Text.{pool_text}
use Rattle.pool_check.specs.declared.along.PoolOrder.{PoolOrder}
use Rattle.pool_check.specs.declared.refusal.PoolRefusal.{PoolRefusal}
use Rattle.pool_check.specs.declared.refusal.PoolRefusal.TheVariants as cause
use Rattle.pool_lines.specs.Texts.{IsTextOfState}
use Rattle.pool_certificate.specs.Accepted.{AreTexts, HasFewWaysOf, IsFill, lemmas_along}
use Rattle.pool_trails.specs.declared.found.PoolStop.{PoolStop}
use Rattle.pool_trails.specs.declared.found.PoolStop.TheVariants as stopped
use Rattle.pool_trails.specs.declared.gates.PoolGates.{PoolGates}
use Rattle.pool_trails.specs.declared.opening.Opening.{Opening}
use Rattle.pool_trails.specs.Ended.{HasManyOpen, IsSearched, IsUnlisted}
use Rattle.pool_trails.specs.Found.{line_at}
use Rattle.pool_trails.specs.Opening.{fill_by, is_uncrowded, opened_of}

-- an order of the gates, those that are filled there, and those that are left open; and whether none is crowded
pub record ArePoolGates (f : Fingers) (gates : PoolGates) : Type 0 where
  pub is : IsOrder f gates.order
  pub filled : gates.fill ≡ fill_by gates.opening f gates.order
  pub open_are : gates.opened ≡ opened_of gates.opening f gates.order
  pub none_crowded : gates.uncrowded ≡ is_uncrowded f gates.order

-- so it is of a stop that is no lack of memory
abbrev pub Stops : Type 0 → PoolStop → Type 0
Stops Says (stopped.Unfinished certificate proved) = ⊥
Stops Says (stopped.InVain certificate proved) = ⊥
Stops Says stopped.Crowded = Says
Stops Says stopped.NoMemory = Unit {0}

-- the stop where no lemmas can be checked along an order
abbrev pub stop_of : PoolRefusal → PoolStop
stop_of cause.NoMemory = stopped.NoMemory
stop_of _ = stopped.Crowded

abbrev pub same_net : NetNo → NetNo → Bool
same_net a b = a.0 == b.0

-- the certificate of the lemmas' lines
abbrev pub lined : PoolOrder → PoolGates → List (EndLemma PoolState) → OrderCertificate PoolLine
lined along gates lemmas = record {
  fill = gates.fill;
  order = gates.order;
  lemmas = map (line_at along.steps.pools) lemmas;
  best = None;
}

-- It is of these gates, and lists no row. Its lines list the lemmas, each as the text of its state.
pub record ListAlong (along : PoolOrder) (gates : PoolGates) (lemmas : List (EndLemma PoolState))
    (pools : OrderCertificate PoolLine) : Type 0 where
  pub rowless : pools.best ≡ None
  pub fill : pools.fill ≡ gates.fill
  pub order : pools.order ≡ gates.order
  pub listed : lemmas_along along.steps.pools along.levels pools.lemmas ≡ lemmas
  pub texts : All (IsTextOfState along.steps.pools along.levels) pools.lemmas

abbrev pub AreUnlistedAlong : Kinds → PoolOrder → PoolGates → List (EndLemma PoolState) → Type 0
AreUnlistedAlong k along gates lemmas =
    length (pool_text (codes "cell") (lined along gates lemmas)) ≤ 1073741824
    → PoolsFit k (lined along gates lemmas) → ListAlong along gates lemmas (lined along gates lemmas) → ⊥

-- The certificate of what a search found: it lists no row. The kinds may be those of more fingers.
pub record IsPoolProof (f : Fingers) (gates : PoolGates) (k : Kinds) (budget : ℕ) (proof : EndProof PoolState)
    (pools : OrderCertificate PoolLine) : Type 0 where
  pub order : IsOrder f pools.order
  pub fill : IsFill f pools
  pub few_ways : HasFewWaysOf f pools
  pub texts : AreTexts f pools
  pub searched : IsSearched gates.opening f budget pools proof
  pub none_crowded : gates.uncrowded ≡ is_uncrowded f pools.order
  pub rowless : pools.best ≡ None
  pub fits : PoolsFit k pools

-- a gate has too many ways, or no text lists the lemmas
abbrev pub CannotProve : Opening → Fingers → ℕ → Kinds → Type 0
CannotProve opening f budget k = HasManyOpen opening f ⊎ IsUnlisted opening f budget k
