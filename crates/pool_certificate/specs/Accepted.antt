-- Which certificates are accepted.
use Rattle.std.specs.Prelude.{ℕ, ◌≡◌, ◌-◌, true, List, All, map}
use Rattle.cell_num.specs.declared.finger.Fingers.{Fingers}
use Rattle.cell_num.specs.declared.net.NetNo.{NetNo}
use Rattle.row_state.specs.declared.kind.Kinds.{Kinds}
use Rattle.log_check.specs.Accepted.{BestPasses, WithKinds}
use Rattle.open_gates.specs.declared.gates.OpenGates.{OpenGates}
use Rattle.open_gates.specs.Open.{AreOpenGates, is_uneven, open_in}
use Rattle.trail_check.specs.Justified.{gaps_proved}
use Rattle.trail_pools.specs.declared.level.PoolLevel.{PoolLevel}
use Rattle.trail_pools.specs.declared.pools.Pools.{Pools}
use Rattle.trail_pools.specs.declared.state.PoolState.{PoolState}
use Rattle.trail_pools.specs.Leveled.{levels_of, pools_of}
use Rattle.end_lemmas.specs.declared.lemma.EndLemma.{EndLemma}
use Rattle.order_log.specs.declared.certificate.OrderCertificate.{OrderCertificate}
use Rattle.fewer_fingers.specs.Fewer.{columns_lost, staying}
use Rattle.fewer_log.specs.declared.certificate.FewerCertificate.{FewerCertificate}
use Rattle.pool_log.specs.declared.lemma.PoolLine.{PoolLine}
use Rattle.pool_lines.specs.Listed.{state_listed}
use Rattle.pool_lines.specs.Texts.{IsTextOfState}
use Rattle.pool_check.specs.Accepted.{AreTrueOf, HasFewWays, IsAccepted as AreAccepted}

-- the gates with half columns that are not filled
abbrev pub open_of : Fingers → OrderCertificate PoolLine → OpenGates
open_of f pools = open_in f pools.fill pools.order

-- the lemma on the state that the line lists
abbrev pub lemma_listed : Pools → List PoolLevel → PoolLine → EndLemma PoolState
lemma_listed pools levels line =
    record { bound = line.bound; done = line.done; state = state_listed pools levels line }

abbrev pub lemmas_along : Pools → List PoolLevel → List PoolLine → List (EndLemma PoolState)
lemmas_along pools levels lines = map (lemma_listed pools levels) lines

-- those of the certificate, by the levels of its order
abbrev pub lemmas_of : Fingers → OrderCertificate PoolLine → List (EndLemma PoolState)
lemmas_of f pools =
    lemmas_along (pools_of f (open_of f pools)) (levels_of f (open_of f pools) pools.order) pools.lemmas

-- Each line of the certificate is the text of the state that it lists, by the levels of its order. So one state has one
-- text.
abbrev pub AreTexts : Fingers → OrderCertificate PoolLine → Type 0
AreTexts f pools =
    All (IsTextOfState (pools_of f (open_of f pools)) (levels_of f (open_of f pools) pools.order)) pools.lemmas

-- the lemmas of a certificate prove so many ends of the fingers that they are about
abbrev pub AreProved : Fingers → OrderCertificate PoolLine → ℕ → Type 0
AreProved f pools ends = AreAccepted f (open_of f pools) pools.order (lemmas_of f pools) ends

-- no gate has too many ways for a checker to list
abbrev pub HasFewWaysOf : Fingers → OrderCertificate PoolLine → Type 0
HasFewWaysOf f pools = HasFewWays f (open_of f pools) pools.order

-- each of its lemmas is true of these fingers
abbrev pub AreTrueLemmas : Fingers → OrderCertificate PoolLine → Type 0
AreTrueLemmas f pools = AreTrueOf f (open_of f pools) pools.order (lemmas_of f pools)

-- Each gate that the certificate fills has half columns. The others that have some stay open, and have more fingers in
-- one row, the same for all.
pub record IsFill (f : Fingers) (pools : OrderCertificate PoolLine) : Type 0 where
  pub half : All (λ (gate : NetNo). is_uneven f gate.0 ≡ true) pools.fill
  pub opened : AreOpenGates f (open_of f pools)

-- The certificate proves that each arrangement of all fingers has at least so many gaps. Its lines are the texts of
-- their states, and its lemmas prove some number of ends of the fingers that stay. Each column lost takes one gap from
-- what these ends come to. How many ways a gate has is not asked.
pub record ProvesOfAll (f : Fingers) (c : FewerCertificate) (proved : ℕ) : Type 0 where
  pub fill : IsFill (staying c.out f) c.pools
  pub texts : AreTexts (staying c.out f) c.pools
  pub ends : ℕ
  pub lemmas : AreProved (staying c.out f) c.pools ends
  pub proved_is : proved ≡ gaps_proved ends - columns_lost f (staying c.out f)

-- the row of all fingers has no more gaps than it proves
pub record IsAccepted (f : Fingers) (c : FewerCertificate) (gaps : ℕ) : Type 0 where
  pub proved : ℕ
  pub lemmas : ProvesOfAll f c proved
  pub passes : WithKinds f (λ (k : Kinds). BestPasses k f proved c.pools.best gaps)

-- accepted with no number of gaps
abbrev pub IsNeverAccepted : Fingers → FewerCertificate → Type 0
IsNeverAccepted f c = (gaps : ℕ) → IsAccepted f c gaps → ⊥
