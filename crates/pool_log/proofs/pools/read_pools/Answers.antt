use Rattle.std.proofs.lemmas.Result.{err_from_is_err_and}
use Rattle.order_log.proofs.Only.{read_one, read_only}
use Rattle.order_log.proofs.Whole.{few_lemmas, refused}
use Rattle.pool_log.specs.Fits.{LemmaFits}
use Rattle.pool_log.specs.Line.{lemma_in}
use Rattle.pool_log.specs.Text.{lemma_words, version_line}
use Rattle.pool_log.proofs.Lemmas.{lemmas_spelled, version_lacks}
use Rattle.pool_log.proofs.pools.read_pools.Goals as goal

pub returns-in_err-pools-clause-none : goal.returns-in_err-pools-clause-none
returns-in_err-pools-clause-none c =
    let p = err_from_is_err_and c.from_residual.result c.from_residual.ensures.1 in
    let k = c.args.kinds.now in
    rw (p.1, p.2) (λ told pools fits. refused (lemma_in k.nets) lemma_words (LemmaFits k.nets) (lemmas_spelled k.nets c.show_limits.ensures.few_nets) version_line c.args.bytes.now c.args.name.now k c.in_err-pools.field-0.0 pools version_lacks c.requires.name c.show_limits.ensures (c.in_err-pools.ensures.fault told) fits)

pub returns-in_err-pools-clause-fault : goal.returns-in_err-pools-clause-fault
returns-in_err-pools-clause-fault c =
    let p = err_from_is_err_and c.from_residual.result c.from_residual.ensures.1 in
    rw (p.1, p.2) (λ told. c.in_err-pools.ensures.fault told)

pub returns-clause-fits : goal.returns-clause-fits
returns-clause-fits c =
    let k = c.args.kinds.now in
    (read_only (lemma_in k.nets) lemma_words (LemmaFits k.nets) (lemmas_spelled k.nets c.show_limits.ensures.few_nets) version_line c.args.bytes.now c.args.name.now k c.in_ok-pools.pools c.in_ok-pools.ensures.certificate).0

pub returns-clause-text : goal.returns-clause-text
returns-clause-text c =
    let k = c.args.kinds.now in
    (read_only (lemma_in k.nets) lemma_words (LemmaFits k.nets) (lemmas_spelled k.nets c.show_limits.ensures.few_nets) version_line c.args.bytes.now c.args.name.now k c.in_ok-pools.pools c.in_ok-pools.ensures.certificate).1

pub returns-clause-few : goal.returns-clause-few
returns-clause-few c =
    let k = c.args.kinds.now in
    few_lemmas lemma_words version_line c.args.bytes.now c.args.name.now c.in_ok-pools.pools (read_only (lemma_in k.nets) lemma_words (LemmaFits k.nets) (lemmas_spelled k.nets c.show_limits.ensures.few_nets) version_line c.args.bytes.now c.args.name.now k c.in_ok-pools.pools c.in_ok-pools.ensures.certificate).1

pub returns-clause-one : goal.returns-clause-one
returns-clause-one c =
    let k = c.args.kinds.now in
    λ other fits same. read_one (lemma_in k.nets) lemma_words (LemmaFits k.nets) (lemmas_spelled k.nets c.show_limits.ensures.few_nets) version_line c.args.bytes.now c.args.name.now k c.in_ok-pools.pools other version_lacks c.requires.name c.show_limits.ensures c.in_ok-pools.ensures.certificate fits same
