-- Which certificates a text can hold.
use Rattle.std.specs.Prelude.{ℕ, ◌≤◌, length, All, IfSome, IsTrue}
use Rattle.row_state.specs.declared.kind.Kinds.{Kinds}
use Rattle.trail_log.specs.Fits.{NetFits}
use Rattle.trail_log.specs.Order.{increases, net_rank}
use Rattle.pool_log.specs.Fits.{PoolsFit}
use Rattle.fewer_fingers.specs.declared.fewer.LeftOut.{LeftOut}
use Rattle.fewer_log.specs.declared.certificate.FewerCertificate.{FewerCertificate}

-- some gates, in the order of their numbers
pub record OutFits (nets : ℕ) (out : LeftOut) : Type 0 where
  pub some : 1 ≤ length out.gates
  pub gates : All (NetFits nets) out.gates
  pub increase : IsTrue (increases net_rank out.gates)

pub record FewerFits (k : Kinds) (c : FewerCertificate) : Type 0 where
  pub out : IfSome c.out (OutFits k.nets)
  pub pools : PoolsFit k c.pools
