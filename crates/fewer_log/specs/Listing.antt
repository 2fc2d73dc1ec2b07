-- A certificate with another row.
use Rattle.std.specs.Prelude.{Some}
use Rattle.bound_log.specs.declared.log.Best.{Best}
use Rattle.order_log.specs.declared.certificate.OrderCertificate.{OrderCertificate}
use Rattle.pool_log.specs.declared.lemma.PoolLine.{PoolLine}
use Rattle.fewer_log.specs.declared.certificate.FewerCertificate.{FewerCertificate}

abbrev pub pools_listing : OrderCertificate PoolLine → Best → OrderCertificate PoolLine
pools_listing pools best =
    record { fill = pools.fill; order = pools.order; lemmas = pools.lemmas; best = Some best }

-- the same with this row in place of its own
abbrev pub listing : FewerCertificate → Best → FewerCertificate
listing c best = record { out = c.out; pools = pools_listing c.pools best }
