-- Which certificates a text can hold, where it is given which lemmas a line can hold.
use Rattle.std.specs.Prelude.{All, IfSome, IsTrue}
use Rattle.row_state.specs.declared.kind.Kinds.{Kinds}
use Rattle.bound_log.specs.Fits.{BestFits}
use Rattle.trail_log.specs.Fits.{NetFits}
use Rattle.trail_log.specs.Order.{increases, net_rank}
use Rattle.order_log.specs.declared.certificate.OrderCertificate.{OrderCertificate}

-- the filled gates are in the order of their numbers
pub record CertificateFits {L : Type 0} (Good : L → Type 0) (k : Kinds) (c : OrderCertificate L) : Type 0 where
  pub fill : All (NetFits k.nets) c.fill
  pub increase : IsTrue (increases net_rank c.fill)
  pub order : All (NetFits k.nets) c.order
  pub lemmas : All Good c.lemmas
  pub best : IfSome c.best (BestFits k)
