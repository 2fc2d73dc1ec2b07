-- Which certificates a text can hold: what is in range for the kinds of the fingers.
use Rattle.std.specs.Prelude.{ℕ, ◌≤◌, ◌<◌, length, All, IfSome, IsTrue}
use Rattle.cell_num.specs.declared.net.NetNo.{NetNo}
use Rattle.row_state.specs.declared.kind.Kinds.{Kinds}
use Rattle.bound_log.specs.Fits.{BestFits}
use Rattle.trail_log.specs.declared.class.Class.{Class}
use Rattle.trail_log.specs.declared.class.NetPair.{NetPair}
use Rattle.trail_log.specs.Order.{classes_in_order, increases, net_rank, node_rank}
use Rattle.trail_log.specs.declared.trails.LemmaLine.{LemmaLine}
use Rattle.trail_log.specs.declared.trails.TrailCertificate.{TrailCertificate}

abbrev pub NetFits : ℕ → NetNo → Type 0
NetFits nets net = net.0 < nets

pub record NodeFits (nets : ℕ) (node : NetPair) : Type 0 where
  pub p : node.p.0 < nets
  pub n : node.n.0 < nets

-- a class has a node
pub record ClassFits (nets : ℕ) (class : Class) : Type 0 where
  pub some : 1 ≤ length class.nodes
  pub nodes : All (NodeFits nets) class.nodes

-- a bound from 1 to 64, after fewer gates than a row has columns, over pairs of nets in order
pub record LemmaFits (nets : ℕ) (lemma : LemmaLine) : Type 0 where
  pub some : 1 ≤ lemma.bound
  pub few : lemma.bound ≤ 64
  pub done : lemma.done < 32
  pub odd : All (NodeFits nets) lemma.odd
  pub classes : All (ClassFits nets) lemma.classes
  pub odd_order : IsTrue (increases node_rank lemma.odd)
  pub class_order : IsTrue (classes_in_order lemma.classes)

-- the filled gates are in the order of their numbers
pub record TrailsFit (k : Kinds) (trails : TrailCertificate) : Type 0 where
  pub fill : All (NetFits k.nets) trails.fill
  pub increase : IsTrue (increases net_rank trails.fill)
  pub order : All (NetFits k.nets) trails.order
  pub lemmas : All (LemmaFits k.nets) trails.lemmas
  pub best : IfSome trails.best (BestFits k)
