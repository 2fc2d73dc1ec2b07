-- A certificate with another row.
use Rattle.std.specs.Prelude.{Some}
use Rattle.bound_log.specs.declared.log.Best.{Best}
use Rattle.trail_log.specs.declared.trails.TrailCertificate.{TrailCertificate}

-- the same with this row in place of its own
abbrev pub trails_listing : TrailCertificate → Best → TrailCertificate
trails_listing trails best =
    record { fill = trails.fill; order = trails.order; lemmas = trails.lemmas; best = Some best }
