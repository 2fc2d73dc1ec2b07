use Rattle.std.proofs.Common.{List, ℕ, ap, ◌∙◌}
use Rattle.order_log.proofs.Whole.{read_again}
use Rattle.pool_log.specs.Fits.{LemmaFits}
use Rattle.pool_log.specs.Line.{lemma_in}
use Rattle.pool_log.specs.Text.{lemma_words, pools_of, version_line}
use Rattle.pool_log.proofs.Lemmas.{lemmas_spelled, version_lacks}
use Rattle.pool_log.proofs.pools.write_pools.Goals as goal

pub returns-clause-reads : goal.returns-clause-reads
returns-clause-reads c = λ k some fits.
    ap (λ (t : List ℕ). pools_of t c.args.name.now k) (c.into_vec.ensures ∙ c.in_ok-text.ensures)
    ∙ read_again (lemma_in k.nets) lemma_words (LemmaFits k.nets) (lemmas_spelled k.nets some.few_nets) version_line c.args.name.now k c.args.pools.now version_lacks c.requires.name some fits
