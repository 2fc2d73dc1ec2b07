-- Which certificates a text can hold: what is in range for the kinds of the fingers.
use Rattle.std.specs.Prelude.{ℕ, ◌≤◌, ◌<◌, length, All, IsTrue}
use Rattle.row_state.specs.declared.kind.Kinds.{Kinds}
use Rattle.trail_log.specs.Fits.{NodeFits}
use Rattle.trail_log.specs.Order.{increases, node_rank}
use Rattle.order_log.specs.declared.certificate.OrderCertificate.{OrderCertificate}
use Rattle.order_log.specs.Fits.{CertificateFits}
use Rattle.pool_log.specs.declared.balance.PoolBalance.{PoolBalance}
use Rattle.pool_log.specs.declared.balance.Surplus.{Surplus}
use Rattle.pool_log.specs.declared.balance.Surplus.TheVariants as surplus
use Rattle.pool_log.specs.declared.class.PlaceClass.{PlaceClass}
use Rattle.pool_log.specs.declared.lemma.PoolLine.{PoolLine}
use Rattle.pool_log.specs.declared.place.ListedPlace.{ListedPlace}
use Rattle.pool_log.specs.declared.place.ListedPlace.TheVariants as place
use Rattle.pool_log.specs.Order.{balance_rank, classes_in_order}

-- how many nodes wait, or how many ends are free
abbrev pub count_of : Surplus → ℕ
count_of (surplus.Waiting nodes) = nodes
count_of (surplus.Free ends) = ends

-- At most 64: 32 columns have two ends each, so as many nodes can be odd, and as many ends free.
pub record BalanceFits (nets : ℕ) (balance : PoolBalance) : Type 0 where
  pub net : balance.net.0 < nets
  pub some : 1 ≤ count_of balance.surplus
  pub few : count_of balance.surplus ≤ 64

abbrev pub PlaceFits : ℕ → ListedPlace → Type 0
PlaceFits nets (place.Node node) = NodeFits nets node
PlaceFits nets (place.Pool row net) = net.0 < nets

-- a class has a place
pub record ClassFits (nets : ℕ) (class : PlaceClass) : Type 0 where
  pub some : 1 ≤ length class.places
  pub places : All (PlaceFits nets) class.places

-- a bound from 1 to 64, after fewer gates than a row has columns; nodes, balances and classes in order
pub record LemmaFits (nets : ℕ) (lemma : PoolLine) : Type 0 where
  pub some : 1 ≤ lemma.bound
  pub few : lemma.bound ≤ 64
  pub done : lemma.done < 32
  pub odd : All (NodeFits nets) lemma.odd
  pub odd_order : IsTrue (increases node_rank lemma.odd)
  pub balances : All (BalanceFits nets) lemma.balances
  pub balance_order : IsTrue (increases balance_rank lemma.balances)
  pub classes : All (ClassFits nets) lemma.classes
  pub class_order : IsTrue (classes_in_order lemma.classes)

abbrev pub PoolsFit : Kinds → OrderCertificate PoolLine → Type 0
PoolsFit k pools = CertificateFits (LemmaFits k.nets) k pools
