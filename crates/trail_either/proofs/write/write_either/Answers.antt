use Rattle.trail_either.specs.declared.evidence.TrailEvidence.TheVariants.{Filled, Pools}
use Rattle.trail_either.proofs.Texts.{written_again}
use Rattle.trail_either.proofs.write.write_either.Goals as goal

pub returns-in-Filled-clause-reads : goal.returns-in-Filled-clause-reads
returns-in-Filled-clause-reads c =
    rw c.in-Filled.is (written_again c.write_trails.result (λ v. v.items) c.args.name.now (Filled c.in-Filled.trails) c.requires.name c.write_trails.ensures.text)

pub returns-in-Pools-clause-reads : goal.returns-in-Pools-clause-reads
returns-in-Pools-clause-reads c =
    rw c.in-Pools.is (written_again c.write_fewer.result (λ v. v.items) c.args.name.now (Pools c.in-Pools.certificate) c.requires.name c.write_fewer.ensures.text)
