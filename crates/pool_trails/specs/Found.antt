-- Lemmas that are found along an order of the gates, and the certificate of their lines.
use Rattle.std.specs.Prelude.{ℕ, ◌≡◌, ◌≤◌, List, None, codes, length, map}
use Rattle.cell_num.specs.declared.finger.Fingers.{Fingers}
use Rattle.cell_num.specs.declared.net.NetNo.{NetNo}
use Rattle.row_state.specs.declared.kind.Kinds.{Kinds}
use Rattle.trail_halves.specs.declared.choice.OpenChoice.{OpenChoice}
use Rattle.trail_pools.specs.declared.level.PoolLevel.{PoolLevel}
use Rattle.trail_pools.specs.declared.pools.Pools.{Pools}
use Rattle.trail_pools.specs.declared.state.PoolState.{PoolState}
use Rattle.trail_pools.specs.Leveled.{levels_of, pools_of}
use Rattle.trail_pools.specs.State.{start}
use Rattle.end_lemmas.specs.declared.lemma.EndLemma.{EndLemma}
use Rattle.end_lemmas.specs.Steps.{Steps}
use Rattle.end_search.specs.declared.proof.EndProof.{EndProof}
use Rattle.end_search.specs.Proof.{IsEndProof}
use Rattle.end_prune.specs.Pruned.{IsPruned}
use Rattle.order_log.specs.declared.certificate.OrderCertificate.{OrderCertificate}
use Rattle.pool_log.specs.declared.lemma.PoolLine.{PoolLine}
use Rattle.pool_log.specs.Fits.{PoolsFit}
use Rattle.pool_log.specs.Text.{pool_text}
use Rattle.pool_lines.specs.Lines.{line_of}
use Rattle.pool_check.specs.Stepping.{steps_of}
use Rattle.pool_certificate.specs.Accepted.{lemmas_of}
use Rattle.pool_trails.specs.declared.opening.Opening.{Opening}
use Rattle.pool_trails.specs.Opening.{fill_by, opened_of}

-- The same ends and units; of the lemmas those that a pruned list has.
pub record IsPrunedProof (steps : Steps PoolLevel OpenChoice PoolState) (levels : List PoolLevel)
    (whole proof : EndProof PoolState) : Type 0 where
  pub pruned : IsPruned steps levels start whole.lemmas proof.lemmas
  pub ends : proof.ends ≡ whole.ends
  pub end : proof.end ≡ whole.end
  pub left : proof.left ≡ whole.left

-- A search along the order found it, with these gates left open: as many gaps as a row can have are asked for. Of its
-- lemmas those stay that prove the ends, and those that later ones rest on.
pub record IsFoundAlong (opening : Opening) (f : Fingers) (order : List NetNo) (budget : ℕ)
    (proof : EndProof PoolState) : Type 0 where
  pub whole : EndProof PoolState
  pub found : IsEndProof (steps_of f (opened_of opening f order)) (levels_of f (opened_of opening f order) order) start
      31 budget whole
  pub stays : IsPrunedProof (steps_of f (opened_of opening f order)) (levels_of f (opened_of opening f order) order)
      whole proof

abbrev pub line_at : Pools → EndLemma PoolState → PoolLine
line_at pools lemma = line_of pools lemma.bound lemma.done lemma.state

-- the lines of the lemmas, and no row
abbrev pub certificate_of : Opening → Fingers → List NetNo → List (EndLemma PoolState) → OrderCertificate PoolLine
certificate_of opening f order lemmas = record {
  fill = fill_by opening f order;
  order = order;
  lemmas = map (line_at (pools_of f (opened_of opening f order))) lemmas;
  best = None;
}

-- No text of at most 2 ^ 30 bytes has the lines of the lemmas; or these list other lemmas.
abbrev pub AreUnlisted : Opening → Fingers → Kinds → List NetNo → List (EndLemma PoolState) → Type 0
AreUnlisted opening f k order lemmas =
    length (pool_text (codes "cell") (certificate_of opening f order lemmas)) ≤ 1073741824
    → PoolsFit k (certificate_of opening f order lemmas)
    → lemmas_of f (certificate_of opening f order lemmas) ≡ lemmas → ⊥
